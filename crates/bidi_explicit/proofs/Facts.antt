-- What the definitions give: removed places, matching PDIs, and the depth.
use Rattle.std.proofs.Common.{ℕ, zero, suc, ◌≡◌, ◌≤◌, ◌<◌, ◌+◌, ◌==◌, refl, ap, ap₂, sym, ◌∙◌, List, [], ◌∷◌, ◌++◌, map, length, drop, Option, Some, None, Bool, true, false, if◌then◌else◌, ◌&&◌, add-zero, zero-add, arith}
use Rattle.std.specs.Prelude.{is_some, not, slice_get}
use Rattle.std.specs.List.{All}
use Rattle.std.specs.Option.{option_map}
use Rattle.std.proofs.Math.Path.{fun_ext}
use Rattle.std.proofs.lemmas.Bool.{leb-true}
use Rattle.std.proofs.lemmas.List.{map-append, length-map}
use Rattle.std.proofs.lemmas.List.Elements.{All-nil, All-cons, All-head, All-tail, All-append}
use Rattle.std.proofs.lemmas.Option.{slice_get-map, slice_get_within}
use Rattle.bg_types.specs.declared.class.Bidi.{Bidi}
use Rattle.bg_types.specs.declared.class.Bidi.TheVariants.{Lri, Rli, Fsi, Pdi}
use Rattle.paragraphs.specs.Classes.{is_separator, is_removed}
use Rattle.bidi_explicit.specs.declared.controls.Control.{Control}
use Rattle.bidi_explicit.specs.declared.kind.Direction.{Direction}
use Rattle.bidi_explicit.specs.declared.kind.Kind.{Kind}
use Rattle.bidi_explicit.specs.declared.kind.Kind.TheVariants.{Embedding, Initiator, PopIsolate, PopEmbedding, Other}
use Rattle.bidi_explicit.specs.declared.kept.Kept.{Kept}
use Rattle.bidi_explicit.specs.Nesting.{matched, Nodes, end, char, isolate, unclosed, is_initiator, split_at_pdi, nest, flattened, base, held_count, matching}
use Rattle.bidi_explicit.specs.Levels.{kind, next_level, place_of, plain, fits, wants_odd, Open, current, closed, without_first, own_step, descend, none_open, explicit_places}
use Rattle.bidi_explicit.specs.Flat.{content}
use Rattle.bidi_explicit.specs.Sequences.{next, next_by, is_unmatched}
use Rattle.bidi_explicit.specs.Embedding.{IsWithinDepth}
use Rattle.bidi_explicit.specs.Controls.{control, controls_from}
use Rattle.bidi_explicit.specs.Links.{pdi_at, linked, is_unclosed, is_unclosed_at, opens, AreMatched, AreKept}
use Rattle.bidi_explicit.proofs.FlatLemmas.{nested-classes, split-classes}
use Rattle.bidi_explicit.proofs.Matching.{length-controls, before_first}

-- a class that X9 keeps
abbrev pub stays : Bidi → Bool
stays c = not (is_removed c)

abbrev choice : Bool → Bool → Kept → Kept → Option Kept
choice a b x y = if a then None else (if b then Some x else Some y)

stays_if : (a b : Bool) (x y : Kept) → is_some (choice a b x y) ≡ not a
stays_if true b x y = refl
stays_if false true x y = refl
stays_if false false x y = refl

place_of-stays : (p : ℕ) (d : Direction) (c : Bidi) → is_some (place_of p d c) ≡ stays c
place_of-stays p d c = stays_if (is_removed c) (is_separator c) _ _

places-stay : (p : ℕ) (d : Direction) (cs : List Bidi) → map is_some (map (place_of p d) cs) ≡ map stays cs
places-stay p d [] = refl
places-stay p d (c ∷ cs) = ap₂ (λ x xs. x ∷ xs) (place_of-stays p d c) (places-stay p d cs)

-- what an isolate's content is
abbrev inner : Bool → ℕ → Direction → ℕ → Nodes → List (Option Kept)
inner b p here level held = elim b [ true ↦ descend p (plain level) none_open held | false ↦ map (place_of p here) (flattened held) ]

inner-stays : (b : Bool) (p : ℕ) (here : Direction) (level : ℕ) (held : Nodes) →
    map is_some (descend p (plain level) none_open held) ≡ map stays (flattened held) → map is_some (inner b p here level held) ≡ map stays (flattened held)
inner-stays true p here level held h = h
inner-stays false p here level held h = places-stay p here (flattened held)

descend-stays : (p : ℕ) (d : Direction) (s : Open) (ns : Nodes) → map is_some (descend p d s ns) ≡ map stays (flattened ns)
descend-stays p d s end = refl
descend-stays p d s (char c rest) =
    ap₂ (λ x xs. x ∷ xs) (place_of-stays p (current d s.embeddings) c) (descend-stays p d (own_step (kind false c) d s) rest)
descend-stays p d s (isolate i held rest) =
    let here : Direction = current d s.embeddings in
    let level : ℕ = next_level (wants_odd i held) here.level in
    ap₂ (λ x xs. x ∷ xs) (place_of-stays p here i)
    (map-append is_some (inner (fits level s.overflowed) p here level held) (place_of p here Pdi ∷ descend p d s rest)
    ∙ ap₂ (λ xs ys. xs ++ ys) (inner-stays (fits level s.overflowed) p here level held (descend-stays p (plain level) none_open held))
    (ap₂ (λ x xs. x ∷ xs) (place_of-stays p here Pdi) (descend-stays p d s rest))
    ∙ sym (map-append stays (flattened held) (Pdi ∷ flattened rest)))
descend-stays p d s (unclosed i held) =
    let here : Direction = current d s.embeddings in
    let level : ℕ = next_level (wants_odd i held) here.level in
    ap₂ (λ x xs. x ∷ xs) (place_of-stays p here i)
    (inner-stays (fits level s.overflowed) p here level held (descend-stays p (plain level) none_open held))

-- X9 removes its classes, and nothing else
pub explicit_places-stay : (p : ℕ) (cs : List Bidi) → map is_some (explicit_places p cs) ≡ map stays cs
explicit_places-stay p cs = descend-stays p (plain p) none_open (nest cs) ∙ ap (map stays) (nested-classes cs)

pub length-explicit_places : (p : ℕ) (cs : List Bidi) → length (explicit_places p cs) ≡ length cs
length-explicit_places p cs = sym (length-map (explicit_places p cs) is_some) ∙ ap length (explicit_places-stay p cs) ∙ length-map cs stays

-- every level is at most the greatest
within_if : (a b : Bool) (x y : Kept) → x.level ≤ 125 → y.level ≤ 125 → IsWithinDepth (choice a b x y)
within_if true b x y h k = tt
within_if false true x y h k = h
within_if false false x y h k = k

place_of-within : (p : ℕ) (d : Direction) (c : Bidi) → p ≤ 125 → d.level ≤ 125 → IsWithinDepth (place_of p d c)
place_of-within p d c h k = within_if (is_removed c) (is_separator c) _ _ h k

places-within : (p : ℕ) (d : Direction) (cs : List Bidi) → p ≤ 125 → d.level ≤ 125 → All IsWithinDepth (map (place_of p d) cs)
places-within p d [] h k = All-nil IsWithinDepth
places-within p d (c ∷ cs) h k = All-cons IsWithinDepth _ _ (place_of-within p d c h k) (places-within p d cs h k)

abbrev IsShallow : Direction → Type 0
IsShallow d = d.level ≤ 125

abbrev AreShallow : List Direction → Type 0
AreShallow ds = All IsShallow ds

current-shallow : (d : Direction) (ds : List Direction) → d.level ≤ 125 → AreShallow ds → (current d ds).level ≤ 125
current-shallow d [] h k = h
current-shallow d (e ∷ ds) h k = All-head IsShallow e ds k

fits-shallow : (level n : ℕ) → fits level n ≡ true → level ≤ 125
fits-shallow level zero e = leb-true level 125 e
fits-shallow level (suc n) e = cc

without_first-shallow : (ds : List Direction) → AreShallow ds → AreShallow (without_first ds)
without_first-shallow [] h = All-nil IsShallow
without_first-shallow (d ∷ ds) h = All-tail IsShallow d ds h

opened-shallow : (b : Bool) (ds : List Direction) (n level : ℕ) (o : Option Bidi) → (b ≡ true → level ≤ 125) → AreShallow ds →
    AreShallow (let s : Open = (if b then record { embeddings = (record { level = level; forced = o }) ∷ ds; overflowed = n } else record { embeddings = ds; overflowed = suc n }) in s.embeddings)
opened-shallow true ds n level o h k = All-cons IsShallow _ ds (h refl) k
opened-shallow false ds n level o h k = k

closed-shallow : (ds : List Direction) (n : ℕ) → AreShallow ds → AreShallow (let s : Open = closed (record { embeddings = ds; overflowed = n }) in s.embeddings)
closed-shallow ds zero k = without_first-shallow ds k
closed-shallow ds (suc n) k = k

step-shallow : (k : Kind) (d : Direction) (s : Open) → AreShallow s.embeddings → AreShallow (own_step k d s).embeddings
step-shallow (Embedding odd o) d s h =
    opened-shallow (fits (next_level odd (current d s.embeddings).level) s.overflowed) s.embeddings s.overflowed (next_level odd (current d s.embeddings).level) o
    (fits-shallow (next_level odd (current d s.embeddings).level) s.overflowed) h
step-shallow PopEmbedding d s h = closed-shallow s.embeddings s.overflowed h
step-shallow (Initiator odd) d s h = h
step-shallow PopIsolate d s h = h
step-shallow Other d s h = h

inner-within : (b : Bool) (p : ℕ) (here : Direction) (level : ℕ) (held : Nodes) → p ≤ 125 → here.level ≤ 125 →
    (b ≡ true → All IsWithinDepth (descend p (plain level) none_open held)) → All IsWithinDepth (inner b p here level held)
inner-within true p here level held h k deep = deep refl
inner-within false p here level held h k deep = places-within p here (flattened held) h k

descend-within : (p : ℕ) (d : Direction) (s : Open) (ns : Nodes) → p ≤ 125 → d.level ≤ 125 → AreShallow s.embeddings → All IsWithinDepth (descend p d s ns)
descend-within p d s end h k e = All-nil IsWithinDepth
descend-within p d s (char c rest) h k e =
    All-cons IsWithinDepth _ _ (place_of-within p (current d s.embeddings) c h (current-shallow d s.embeddings k e))
    (descend-within p d (own_step (kind false c) d s) rest h k (step-shallow (kind false c) d s e))
descend-within p d s (isolate i held rest) h k e =
    let here : Direction = current d s.embeddings in
    let level : ℕ = next_level (wants_odd i held) here.level in
    let low : here.level ≤ 125 = current-shallow d s.embeddings k e in
    All-cons IsWithinDepth _ _ (place_of-within p here i h low)
    (All-append IsWithinDepth (inner (fits level s.overflowed) p here level held) (place_of p here Pdi ∷ descend p d s rest)
    (inner-within (fits level s.overflowed) p here level held h low
    (λ f. descend-within p (plain level) none_open held h (fits-shallow level s.overflowed f) (All-nil IsShallow)))
    (All-cons IsWithinDepth _ _ (place_of-within p here Pdi h low) (descend-within p d s rest h k e)))
descend-within p d s (unclosed i held) h k e =
    let here : Direction = current d s.embeddings in
    let level : ℕ = next_level (wants_odd i held) here.level in
    let low : here.level ≤ 125 = current-shallow d s.embeddings k e in
    All-cons IsWithinDepth _ _ (place_of-within p here i h low)
    (inner-within (fits level s.overflowed) p here level held h low
    (λ f. descend-within p (plain level) none_open held h (fits-shallow level s.overflowed f) (All-nil IsShallow)))

pub explicit_places-within : (p : ℕ) (cs : List Bidi) → p ≤ 1 → All IsWithinDepth (explicit_places p cs)
explicit_places-within p cs h = descend-within p (plain p) none_open (nest cs) (omega arith) (omega arith) (All-nil IsShallow)

-- the place that an initiator's isolate ends at has a PDI
slice_get-append : (xs : List Bidi) (c : Bidi) (ys : List Bidi) → slice_get (xs ++ c ∷ ys) (length xs) ≡ Some c
slice_get-append [] c ys = refl
slice_get-append (x ∷ xs) c ys = slice_get-append xs c ys

slice_get-drop : (k n : ℕ) (xs : List Bidi) → slice_get (drop k xs) n ≡ slice_get xs (k + n)
slice_get-drop zero n xs = ap (slice_get xs) (sym (zero-add n))
slice_get-drop (suc k) n [] = refl
slice_get-drop (suc k) n (x ∷ xs) =
    let e : suc k + n ≡ suc (k + n) = omega arith in
    slice_get-drop k n xs ∙ ap (slice_get (x ∷ xs)) (sym e)

counted-pdi : (rest : List Bidi) (o : Option (Nodes × Nodes)) → split_at_pdi (nest rest) ≡ o → (n : ℕ) → before_first o ≡ Some n → slice_get rest n ≡ Some Pdi
counted-pdi rest (Some p) e n h =
    let at : length (flattened p.0) ≡ n = cc in
    ap₂ slice_get (split-classes rest p e) (sym at) ∙ slice_get-append (flattened p.0) Pdi (flattened p.1)
counted-pdi rest None e n h = cc

held_count-pdi : (rest : List Bidi) (n : ℕ) → held_count rest ≡ Some n → slice_get rest n ≡ Some Pdi
held_count-pdi rest n h = counted-pdi rest (split_at_pdi (nest rest)) refl n h

abbrev put_at : ℕ → Option ℕ → Option ℕ
put_at i o = elim o [ Some n ↦ Some (suc i + n) | None ↦ None ]

put_at-is : (i : ℕ) (o : Option ℕ) (j : ℕ) → put_at i o ≡ Some j → (n : ℕ) × (o ≡ Some n) × (suc i + n ≡ j)
put_at-is i (Some n) j h = (n, refl, (cc))
put_at-is i None j h = absurd (let z : ⊥ = cc in z)

matched-is : (b : Bool) (i : ℕ) (rest : List Bidi) (j : ℕ) → (if b then put_at i (held_count rest) else None) ≡ Some j →
    (n : ℕ) × (held_count rest ≡ Some n) × (suc i + n ≡ j)
matched-is true i rest j h = put_at-is i (held_count rest) j h
matched-is false i rest j h = absurd (let z : ⊥ = cc in z)

abbrev by_match : ℕ → List Bidi → Option Bidi → Option ℕ
by_match i rest o = elim o [ Some c ↦ matched i c rest | None ↦ None ]

by_match-is : (i : ℕ) (rest : List Bidi) (o : Option Bidi) (j : ℕ) → by_match i rest o ≡ Some j → (n : ℕ) × (held_count rest ≡ Some n) × (suc i + n ≡ j)
by_match-is i rest (Some c) j h = matched-is (is_initiator c) i rest j h
by_match-is i rest None j h = absurd (let z : ⊥ = cc in z)

pub matching-pdi : (cs : List Bidi) (i j : ℕ) → matching cs i ≡ Some j → (i < j) × (slice_get cs j ≡ Some Pdi)
matching-pdi cs i j h =
    let m = by_match-is i (drop (suc i) cs) (slice_get cs i) j h in
    let at : suc i + m.0 ≡ j = m.2 in
    (omega arith, ap (slice_get cs) (sym at) ∙ sym (slice_get-drop (suc i) m.0 cs) ∙ held_count-pdi (drop (suc i) cs) m.0 m.1)

-- the controls know what the definitions say
abbrev at_class : ℕ → List Bidi → Option Bidi → Option Control
at_class i rest o = elim o [ Some c ↦ Some (control i c rest) | None ↦ None ]

controls-at : (j : ℕ) (cs : List Bidi) (i : ℕ) → slice_get (controls_from j cs) i ≡ at_class (j + i) (drop (suc i) cs) (slice_get cs i)
controls-at j [] i = refl
controls-at j (c ∷ cs) zero = ap (λ n. Some (control n c cs)) (sym (add-zero j))
controls-at j (c ∷ cs) (suc i) =
    let e : suc j + i ≡ j + suc i = omega arith in
    controls-at (suc j) cs i ∙ ap (λ n. at_class n (drop (suc i) cs) (slice_get cs i)) e

abbrev pdi_of : Option Control → Option ℕ
pdi_of o = elim o [ Some c ↦ c.pdi | None ↦ None ]

pdi_of-is : (k i : ℕ) (rest : List Bidi) (o : Option Bidi) → k ≡ i → pdi_of (at_class k rest o) ≡ by_match i rest o
pdi_of-is k i rest (Some c) e = ap (λ n. matched n c rest) e
pdi_of-is k i rest None e = refl

pub pdi_at-matching : (cs : List Bidi) (i : ℕ) → pdi_at (controls_from 0 cs) i ≡ matching cs i
pdi_at-matching cs i = ap pdi_of (controls-at 0 cs i) ∙ pdi_of-is (0 + i) i (drop (suc i) cs) (slice_get cs i) (zero-add i)

opens-is : (b : Bool) (c : Bidi) (m : Option ℕ) → opens (kind b c) m ≡ (is_initiator c && not (is_some m))
opens-is b Lri (Some j) = refl
opens-is b Lri None = refl
opens-is b Rli (Some j) = refl
opens-is b Rli None = refl
opens-is b Fsi (Some j) = refl
opens-is b Fsi None = refl
opens-is b _ m = refl

abbrev unclosed_of : Option Control → Bool
unclosed_of o = elim o [ Some c ↦ is_unclosed c | None ↦ false ]

abbrev unmatched_of : ℕ → List Bidi → Option Bidi → Bool
unmatched_of i rest o = elim o [ Some c ↦ is_initiator c && not (is_some (matched i c rest)) | None ↦ false ]

unclosed_of-is : (k i : ℕ) (rest : List Bidi) (o : Option Bidi) → k ≡ i → unclosed_of (at_class k rest o) ≡ unmatched_of i rest o
unclosed_of-is k i rest (Some c) e =
    opens-is (base (content (nest rest)) == 1) c (matched k c rest) ∙ ap (λ n. is_initiator c && not (is_some (matched n c rest))) e
unclosed_of-is k i rest None e = refl

pub unclosed-unmatched : (cs : List Bidi) → is_unclosed_at (controls_from 0 cs) ≡ is_unmatched cs
unclosed-unmatched cs = fun_ext (λ i. ap unclosed_of (controls-at 0 cs i) ∙ unclosed_of-is (0 + i) i (drop (suc i) cs) (slice_get cs i) (zero-add i))

pub linked-next : (cs : List Bidi) (places : List (Option Kept)) → linked (controls_from 0 cs) places ≡ next cs places
linked-next cs places = fun_ext (λ i. ap (λ o. next_by places o i) (pdi_at-matching cs i))

pub are-matched : (cs : List Bidi) → AreMatched (controls_from 0 cs)
are-matched cs i j h =
    let m = matching-pdi cs i j (sym (pdi_at-matching cs i) ∙ h) in
    let within : j < length cs = slice_get_within cs j Pdi m.1 in
    let n = length-controls 0 cs in
    (m.0, omega arith)

is_some-kept : (o : Option (Option Kept)) → option_map is_some o ≡ Some true → is_some (elim o [ Some place ↦ place | None ↦ None ]) ≡ true
is_some-kept (Some place) h = cc
is_some-kept None h = cc

pdi-stays : stays Pdi ≡ true
unfolding is_removed
pdi-stays = refl

pub are-kept : (p : ℕ) (cs : List Bidi) → AreKept (controls_from 0 cs) (explicit_places p cs)
are-kept p cs i j h =
    let m = matching-pdi cs i j (sym (pdi_at-matching cs i) ∙ h) in
    is_some-kept (slice_get (explicit_places p cs) j)
    (sym (slice_get-map is_some (explicit_places p cs) j) ∙ ap (λ bs. slice_get bs j) (explicit_places-stay p cs) ∙ slice_get-map stays cs j
    ∙ ap (option_map stays) m.1 ∙ ap Some pdi-stays)
