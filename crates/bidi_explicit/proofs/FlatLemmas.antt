-- Lemmas on the machine of X1 to X8 over a flat list.
use Rattle.std.proofs.lemmas.List.{map-append}
use Rattle.std.proofs.Common.{ℕ, zero, suc, ◌≡◌, refl, sym, ◌∙◌, ap, subst, List, [], ◌∷◌, ◌++◌, Option, Some, None, Bool, true, false, map, if◌then◌else◌, ◌==◌, append_assoc}
use Rattle.std.specs.Prelude.{nat_le}
use Rattle.bg_types.specs.declared.class.Bidi.{Bidi}
use Rattle.bg_types.specs.declared.class.Bidi.TheVariants.{Lri, Rli, Fsi, Pdi}
use Rattle.bidi_explicit.specs.Nesting.{Nodes, end, char, isolate, unclosed, is_initiator, flattened, nest, split_at_pdi, enclose, base}
use Rattle.bidi_explicit.specs.declared.kind.Direction.{Direction}
use Rattle.bidi_explicit.specs.declared.kept.Kept.{Kept}
use Rattle.bidi_explicit.specs.declared.kind.Kind.{Kind}
use Rattle.bidi_explicit.specs.declared.kind.Kind.TheVariants.{Embedding, Initiator, Other, PopEmbedding, PopIsolate}
use Rattle.bidi_explicit.specs.declared.kind.Entry.{Entry}
use Rattle.bidi_explicit.specs.Levels.{kind, next_level, place_of, plain, fits, wants_odd, Open, current, own_step, descend, none_open, explicit_places, closed}
use Rattle.bidi_explicit.specs.Flat.{Machine, Token, entry, top, below_isolate, below_embedding, pushed, advance, seen, run, drive, content, tokens, initial, flat_places}
use Rattle.bidi_explicit.specs.Frames.{flat, Frame, bottom, inside, entered, frame_stack, frame_isolates, over, state, at, is_pdi, HasNoPdi, IsClosed, IsNested, MayHold, Returns}
use Rattle.bidi_explicit.specs.Laws.{overflows}

cons_eq : {A : Type 0} {x y : A} {xs ys : List A} → x ≡ y → xs ≡ ys → (x ∷ xs) ≡ (y ∷ ys)
cons_eq e f = cc

append_eq : {A : Type 0} {x y xs ys : List A} → x ≡ y → xs ≡ ys → (x ++ xs) ≡ (y ++ ys)
append_eq e f = cc

if_at : (f : Frame) (b : Bool) (x y : Open) → (if b then at f x else at f y) ≡ at f (if b then x else y)
if_at f true x y = refl
if_at f false x y = refl

pub run-append : (p : ℕ) (m : Machine) (xs ys : List Token) → run p m (xs ++ ys) ≡ run p m xs ++ run p (drive m xs) ys
run-append p m [] ys = refl
run-append p m (x ∷ xs) ys = cons_eq refl (run-append p (advance x.1 m) xs ys)

pub drive-append : (m : Machine) (xs ys : List Token) → drive m (xs ++ ys) ≡ drive (drive m xs) ys
drive-append m [] ys = refl
drive-append m (x ∷ xs) ys = drive-append (advance x.1 m) xs ys

top-over : (f : Frame) (es : List Direction) → top (over es (frame_stack f)) ≡ current (entered f) es
top-over (bottom d) [] = refl
top-over (inside d b v) [] = refl
top-over f (e ∷ es) = refl

below_isolate-over : (es : List Direction) (d : Direction) (b : List Entry) → below_isolate (over es (entry d true ∷ b)) ≡ b
below_isolate-over [] d b = refl
below_isolate-over (e ∷ es) d b = below_isolate-over es d b

IsBottom : Frame → Type 0
IsBottom (bottom d) = Unit {0}
IsBottom (inside d b v) = ⊥

-- what a kind of a list's own character may be
IsOwn : Frame → Kind → Type 0
IsOwn f (Initiator odd) = ⊥
IsOwn f PopIsolate = IsBottom f
IsOwn f _ = Unit {0}

below_embedding-over : (f : Frame) (es : List Direction) →
    below_embedding (over es (frame_stack f)) ≡ over (closed (state es 0)).embeddings (frame_stack f)
below_embedding-over (bottom d) [] = refl
below_embedding-over (inside d [] v) [] = refl
below_embedding-over (inside d (b ∷ bs) v) [] = refl
below_embedding-over (bottom d) (e ∷ []) = refl
below_embedding-over (inside d b v) (e ∷ []) = refl
below_embedding-over f (e ∷ g ∷ es) = refl

advance-own : (f : Frame) (es : List Direction) (n : ℕ) (k : Kind) → IsOwn f k →
    advance k (at f (state es n)) ≡ at f (own_step k (entered f) (state es n))
unfolding IsOwn IsBottom
advance-own f es n (Embedding odd o) own =
    rw (top-over f es)
    (if_at f (fits (next_level odd (current (entered f) es).level) n)
    (state (record { level = next_level odd (current (entered f) es).level; forced = o } ∷ es) n)
    (state es (suc n)))
advance-own f es n (Initiator odd) own = absurd own
advance-own (bottom d) es n PopIsolate own = refl
advance-own (inside d b v) es n PopIsolate own = absurd own
advance-own f es (suc n) PopEmbedding own = refl
advance-own f es zero PopEmbedding own =
    ap (λ st. record { stack = st; overflow_isolates = 0; overflow_embeddings = 0; valid_isolates = frame_isolates f }) (below_embedding-over f es)
advance-own f es n Other own = refl

seen-own : (f : Frame) (es : List Direction) (n : ℕ) (k : Kind) → IsOwn f k →
    top (seen k (at f (state es n))).stack ≡ current (entered f) es
unfolding IsOwn IsBottom
seen-own (bottom d) es n PopIsolate own = top-over (bottom d) es
seen-own (inside d b v) es n PopIsolate own = absurd own
seen-own f es n (Embedding odd o) own = top-over f es
seen-own f es n (Initiator odd) own = top-over f es
seen-own f es n PopEmbedding own = top-over f es
seen-own f es n Other own = top-over f es

MayStand : Frame → Bidi → Type 0
MayStand (bottom d) c = Unit {0}
MayStand (inside d b v) c = is_pdi c ≡ false

own-kind : (f : Frame) (c : Bidi) → is_initiator c ≡ false → MayStand f c → IsOwn f (kind false c)
unfolding IsOwn IsBottom MayStand
own-kind f Lri h m = cc
own-kind f Rli h m = cc
own-kind f Fsi h m = cc
own-kind (bottom d) Pdi h m = tt
own-kind (inside d b v) Pdi h m = cc
own-kind f _ h m = tt

may_first : (f : Frame) (c : Bidi) (rest : Nodes) → MayHold f (char c rest) → MayStand f c
unfolding MayStand
may_first (bottom d) c rest m = tt
may_first (inside d b v) c rest m = m.0

may_rest : (f : Frame) (c : Bidi) (rest : Nodes) → MayHold f (char c rest) → MayHold f rest
may_rest (bottom d) c rest m = tt
may_rest (inside d b v) c rest m = m.1

may_skip : (f : Frame) (i : Bidi) (held rest : Nodes) → MayHold f (isolate i held rest) → MayHold f rest
may_skip (bottom d) i held rest m = tt
may_skip (inside d b v) i held rest m = m

-- the machine inside an overflowed isolate
abbrev overflowing : List Entry → ℕ → ℕ → ℕ → Machine
overflowing st k n v = record { stack = st; overflow_isolates = suc k; overflow_embeddings = n; valid_isolates = v }

-- a class that is not a PDI and no initiator does nothing there
own-overflowing : (st : List Entry) (k n v : ℕ) (c : Bidi) → is_initiator c ≡ false → is_pdi c ≡ false →
    (advance (kind false c) (overflowing st k n v) ≡ overflowing st k n v)
    × (seen (kind false c) (overflowing st k n v) ≡ overflowing st k n v)
own-overflowing st k n v Lri h m = cc
own-overflowing st k n v Rli h m = cc
own-overflowing st k n v Fsi h m = cc
own-overflowing st k n v Pdi h m = cc
own-overflowing st k n v _ h m = (refl, refl)

-- over whole nodes inside an overflowed isolate nothing changes
pub drive-overflowing : (ns : Nodes) (st : List Entry) (k n v : ℕ) → IsNested ns → HasNoPdi ns → IsClosed ns →
    drive (overflowing st k n v) (flat ns) ≡ overflowing st k n v
drive-overflowing end st k n v nested no_pdi closed = refl
drive-overflowing (char c rest) st k n v nested no_pdi closed =
    ap (λ m. drive m (flat rest)) (own-overflowing st k n v c nested.0 no_pdi.0).0
    ∙ drive-overflowing rest st k n v nested.1 no_pdi.1 closed
drive-overflowing (isolate i held rest) st k n v nested no_pdi closed =
    drive-append (overflowing st (suc k) n v) (flat held) ((Pdi, PopIsolate) ∷ flat rest)
    ∙ ap (λ m. drive m ((Pdi, PopIsolate) ∷ flat rest)) (drive-overflowing held st (suc k) n v nested.1 nested.2 nested.3)
    ∙ drive-overflowing rest st k n v nested.4 no_pdi closed
drive-overflowing (unclosed i held) st k n v nested no_pdi closed = absurd closed

-- and each place takes the direction of the stack's top
pub run-overflowing : (p : ℕ) (ns : Nodes) (st : List Entry) (k n v : ℕ) → IsNested ns → HasNoPdi ns →
    run p (overflowing st k n v) (flat ns) ≡ map (place_of p (top st)) (flattened ns)
run-overflowing p end st k n v nested no_pdi = refl
run-overflowing p (char c rest) st k n v nested no_pdi =
    let both = own-overflowing st k n v c nested.0 no_pdi.0 in
    cons_eq (ap (λ m. place_of p (top m.stack) c) both.1)
    (ap (λ m. run p m (flat rest)) both.0 ∙ run-overflowing p rest st k n v nested.1 no_pdi.1)
run-overflowing p (isolate i held rest) st k n v nested no_pdi =
    cons_eq refl
    (run-append p (overflowing st (suc k) n v) (flat held) ((Pdi, PopIsolate) ∷ flat rest)
    ∙ append_eq (run-overflowing p held st (suc k) n v nested.1 nested.2)
    (ap (λ m. run p m ((Pdi, PopIsolate) ∷ flat rest)) (drive-overflowing held st (suc k) n v nested.1 nested.2 nested.3)
    ∙ cons_eq refl (run-overflowing p rest st k n v nested.4 no_pdi))
    ∙ sym (map-append (place_of p (top st)) (flattened held) (Pdi ∷ flattened rest)))
run-overflowing p (unclosed i held) st k n v nested no_pdi =
    cons_eq refl
    (run-overflowing p held st (suc k) n v nested.1 nested.2)

-- the level that an isolate's content would have
held_level : Bool → Frame → List Direction → ℕ
held_level w f es = next_level w (current (entered f) es).level

-- an initiator either enters a frame or overflows
entering : (b : Bool) → Bool → Frame → List Direction → Machine
entering true w f es = at (inside (plain (held_level w f es)) (over es (frame_stack f)) (frame_isolates f)) none_open
entering false w f es = overflowing (over es (frame_stack f)) 0 0 (frame_isolates f)

advance-initiator : (w : Bool) (f : Frame) (es : List Direction) →
    advance (Initiator w) (at f (state es 0)) ≡ entering (nat_le (held_level w f es) 125) w f es
unfolding entering held_level
advance-initiator w f es = rw (top-over f es)
    (elim (nat_le (next_level w (current (entered f) es).level) 125) as
    (λ b. (if b
    then record { stack = pushed (next_level w (current (entered f) es).level) None true (over es (frame_stack f)); overflow_isolates = 0; overflow_embeddings = 0; valid_isolates = suc (frame_isolates f) }
    else overflowing (over es (frame_stack f)) 0 0 (frame_isolates f)) ≡ entering b w f es)
    [ true ↦ refl | false ↦ refl ])

-- an isolate and its PDI leave the machine as it was, if what it holds leaves its own frame
leaving : (w : Bool) (f : Frame) (es : List Direction) (n : ℕ) (held : Nodes) →
    IsNested held → HasNoPdi held → IsClosed held →
    ((g : Frame) (ds : List Direction) (k : ℕ) → MayHold g held → Returns g (drive (at g (state ds k)) (flat held))) →
    advance PopIsolate (drive (advance (Initiator w) (at f (state es n))) (flat held)) ≡ at f (state es n)
unfolding entering
leaving w f es (suc n) held nested no_pdi closed ih =
    ap (advance PopIsolate) (drive-overflowing held (over es (frame_stack f)) 0 (suc n) (frame_isolates f) nested no_pdi closed)
leaving w f es zero held nested no_pdi closed ih =
    ap (λ m. advance PopIsolate (drive m (flat held))) (advance-initiator w f es)
    ∙ go (nat_le (held_level w f es) 125)
  where
    go : (b : Bool) → advance PopIsolate (drive (entering b w f es) (flat held)) ≡ at f (state es 0)
    go true =
        let d : Direction = plain (held_level w f es) in
        let r = ih (inside d (over es (frame_stack f)) (frame_isolates f)) [] 0 no_pdi in
        ap (advance PopIsolate) r.is
        ∙ ap (λ st. record { stack = st; overflow_isolates = 0; overflow_embeddings = 0; valid_isolates = frame_isolates f })
        (below_isolate-over r.embeddings d (over es (frame_stack f)))
    go false = ap (advance PopIsolate) (drive-overflowing held (over es (frame_stack f)) 0 0 (frame_isolates f) nested no_pdi closed)

-- over whole nodes the machine stays in its list: only the list's own embeddings and their count change
pub returns : (ns : Nodes) (f : Frame) (es : List Direction) (n : ℕ) → IsNested ns → IsClosed ns → MayHold f ns →
    Returns f (drive (at f (state es n)) (flat ns))
returns end f es n nested closed may = record { embeddings = es; overflowed = n; is = refl }
returns (char c rest) f es n nested closed may =
    let s : Open = own_step (kind false c) (entered f) (state es n) in
    let r = returns rest f s.embeddings s.overflowed nested.1 closed (may_rest f c rest may) in
    record {
      embeddings = r.embeddings;
      overflowed = r.overflowed;
      is = ap (λ m. drive m (flat rest)) (advance-own f es n (kind false c) (own-kind f c nested.0 (may_first f c rest may))) ∙ r.is;
    }
returns (isolate i held rest) f es n nested closed may =
    let r = returns rest f es n nested.4 closed (may_skip f i held rest may) in
    record {
      embeddings = r.embeddings;
      overflowed = r.overflowed;
      is = drive-append (advance (Initiator (wants_odd i held)) (at f (state es n))) (flat held) ((Pdi, PopIsolate) ∷ flat rest)
          ∙ ap (λ m. drive m (flat rest)) (leaving (wants_odd i held) f es n held nested.1 nested.2 nested.3
          (λ g ds k m. returns held g ds k nested.1 nested.3 m))
          ∙ r.is;
    }
returns (unclosed i held) f es n nested closed may = absurd closed

-- what an isolate's content is shown as
inside_places : (b : Bool) → ℕ → Bool → Frame → List Direction → Nodes → List (Option Kept)
inside_places true p w f es held = descend p (plain (held_level w f es)) none_open held
inside_places false p w f es held = map (place_of p (current (entered f) es)) (flattened held)

run-held : (p : ℕ) (w : Bool) (f : Frame) (es : List Direction) (n : ℕ) (held : Nodes) →
    IsNested held → HasNoPdi held →
    ((g : Frame) → MayHold g held → run p (at g none_open) (flat held) ≡ descend p (entered g) none_open held) →
    run p (advance (Initiator w) (at f (state es n))) (flat held) ≡ inside_places (fits (held_level w f es) n) p w f es held
unfolding inside_places entering
run-held p w f es (suc n) held nested no_pdi ih =
    run-overflowing p held (over es (frame_stack f)) 0 (suc n) (frame_isolates f) nested no_pdi
    ∙ ap (λ d. map (place_of p d) (flattened held)) (top-over f es)
run-held p w f es zero held nested no_pdi ih =
    ap (λ m. run p m (flat held)) (advance-initiator w f es)
    ∙ go (nat_le (held_level w f es) 125)
  where
    go : (b : Bool) → run p (entering b w f es) (flat held) ≡ inside_places b p w f es held
    go true = ih (inside (plain (held_level w f es)) (over es (frame_stack f)) (frame_isolates f)) no_pdi
    go false =
        run-overflowing p held (over es (frame_stack f)) 0 0 (frame_isolates f) nested no_pdi
        ∙ ap (λ d. map (place_of p d) (flattened held)) (top-over f es)

inside_places-is : (b : Bool) (p : ℕ) (w : Bool) (f : Frame) (es : List Direction) (held : Nodes) →
    inside_places b p w f es held
    ≡ elim b [
      | true ↦ descend p (plain (next_level w (current (entered f) es).level)) none_open held
      | false ↦ map (place_of p (current (entered f) es)) (flattened held)
    ]
unfolding inside_places held_level
inside_places-is true p w f es held = refl
inside_places-is false p w f es held = refl

-- the flat machine gives the levels of the descent
pub run-flat : (p : ℕ) (ns : Nodes) (f : Frame) (es : List Direction) (n : ℕ) → IsNested ns → MayHold f ns →
    run p (at f (state es n)) (flat ns) ≡ descend p (entered f) (state es n) ns
unfolding held_level
run-flat p end f es n nested may = refl
run-flat p (char c rest) f es n nested may =
    let own : IsOwn f (kind false c) = own-kind f c nested.0 (may_first f c rest may) in
    let s : Open = own_step (kind false c) (entered f) (state es n) in
    cons_eq (ap (λ d. place_of p d c) (seen-own f es n (kind false c) own))
    (ap (λ m. run p m (flat rest)) (advance-own f es n (kind false c) own)
    ∙ run-flat p rest f s.embeddings s.overflowed nested.1 (may_rest f c rest may))
run-flat p (isolate i held rest) f es n nested may =
    let w : Bool = wants_odd i held in
    let m : Machine = advance (Initiator w) (at f (state es n)) in
    let back : advance PopIsolate (drive m (flat held)) ≡ at f (state es n) =
    leaving w f es n held nested.1 nested.2 nested.3 (λ g ds k q. returns held g ds k nested.1 nested.3 q) in
    cons_eq (ap (λ d. place_of p d i) (top-over f es))
    (run-append p m (flat held) ((Pdi, PopIsolate) ∷ flat rest)
    ∙ append_eq
    (run-held p w f es n held nested.1 nested.2 (λ g q. run-flat p held g [] 0 nested.1 q)
    ∙ inside_places-is (fits (held_level w f es) n) p w f es held)
    (cons_eq (ap (λ k. place_of p (top k.stack) Pdi) back ∙ ap (λ d. place_of p d Pdi) (top-over f es))
    (ap (λ k. run p k (flat rest)) back ∙ run-flat p rest f es n nested.4 (may_skip f i held rest may))))
run-flat p (unclosed i held) f es n nested may =
    let w : Bool = wants_odd i held in
    cons_eq (ap (λ d. place_of p d i) (top-over f es))
    (run-held p w f es n held nested.1 nested.2 (λ g q. run-flat p held g [] 0 nested.1 q)
    ∙ inside_places-is (fits (held_level w f es) n) p w f es held)

-- what the two parts of a split are
SplitFacts : Nodes → Option (Nodes × Nodes) → Type 0
SplitFacts ns (Some p) =
    IsNested p.0 × HasNoPdi p.0 × IsClosed p.0 × IsNested p.1 × (flat ns ≡ flat p.0 ++ (Pdi, PopIsolate) ∷ flat p.1)
    × (flattened ns ≡ flattened p.0 ++ Pdi ∷ flattened p.1)
SplitFacts ns None = HasNoPdi ns

split-char : (c : Bidi) (rest : Nodes) (o : Option (Nodes × Nodes)) → is_initiator c ≡ false → is_pdi c ≡ false → SplitFacts rest o →
    SplitFacts (char c rest) (elim o [ Some p ↦ Some (char c p.0, p.1) | None ↦ None ])
unfolding SplitFacts
split-char c rest (Some p) h m s = ((h, s.0), (m, s.1), s.2, s.3, cons_eq refl s.4, cons_eq refl s.5)
split-char c rest None h m s = (m, s)

split-isolate : (i : Bidi) (held rest : Nodes) (o : Option (Nodes × Nodes)) → IsNested (isolate i held rest) → SplitFacts rest o →
    SplitFacts (isolate i held rest) (elim o [ Some p ↦ Some (isolate i held p.0, p.1) | None ↦ None ])
unfolding SplitFacts
split-isolate i held rest (Some p) n s = (
  (n.0, n.1, n.2, n.3, s.0),
  s.1,
  s.2,
  s.3,
  cons_eq refl (append_eq refl (cons_eq refl s.4) ∙ sym (append_assoc (flat held) ((Pdi, PopIsolate) ∷ flat p.0) ((Pdi, PopIsolate) ∷ flat p.1))),
  cons_eq refl (append_eq refl (cons_eq refl s.5) ∙ sym (append_assoc (flattened held) (Pdi ∷ flattened p.0) (Pdi ∷ flattened p.1))),
)
split-isolate i held rest None n s = s

split-facts : (ns : Nodes) → IsNested ns → SplitFacts ns (split_at_pdi ns)
unfolding SplitFacts
split-facts end n = tt
split-facts (char Pdi rest) n = (tt, tt, tt, n.1, refl, refl)
split-facts (char c rest) n = split-char c rest (split_at_pdi rest) n.0 refl (split-facts rest n.1)
split-facts (isolate i held rest) n = split-isolate i held rest (split_at_pdi rest) n (split-facts rest n.4)
split-facts (unclosed i held) n = tt

kind-own : (odd : Bool) (c : Bidi) → is_initiator c ≡ false → kind false c ≡ kind odd c
kind-own odd Lri h = cc
kind-own odd Rli h = cc
kind-own odd Fsi h = cc
kind-own odd _ h = refl

kind-initiator : (held : Nodes) (c : Bidi) → is_initiator c ≡ true → Initiator (wants_odd c held) ≡ kind (base held == 1) c
kind-initiator held Lri h = refl
kind-initiator held Rli h = refl
kind-initiator held Fsi h = refl
kind-initiator held _ h = cc

-- what nesting gives
record NestFacts (cs : List Bidi) (ns : Nodes) : Type 0 where
  nested : IsNested ns
  same_tokens : flat ns ≡ tokens cs
  same_classes : flattened ns ≡ cs

enclose-facts : (c : Bidi) (cs : List Bidi) (ns : Nodes) (o : Option (Nodes × Nodes)) → is_initiator c ≡ true →
    NestFacts cs ns → SplitFacts ns o →
    (flat (elim o [ Some p ↦ isolate c p.0 p.1 | None ↦ unclosed c ns ])
    ≡ (c, kind (base (elim o [ Some p ↦ p.0 | None ↦ ns ]) == 1) c) ∷ tokens cs)
    × IsNested (elim o [ Some p ↦ isolate c p.0 p.1 | None ↦ unclosed c ns ])
    × (flattened (elim o [ Some p ↦ isolate c p.0 p.1 | None ↦ unclosed c ns ]) ≡ c ∷ cs)
unfolding SplitFacts
enclose-facts c cs ns (Some p) h f s = (
  cons_eq (ap (λ k. (c, k)) (kind-initiator p.0 c h)) (sym s.4 ∙ f.same_tokens),
  (h, s.0, s.1, s.2, s.3),
  cons_eq refl (sym s.5 ∙ f.same_classes),
)
enclose-facts c cs ns None h f s =
    (cons_eq (ap (λ k. (c, k)) (kind-initiator ns c h)) f.same_tokens, (h, f.nested, s), cons_eq refl f.same_classes)

nest-one : (c : Bidi) (cs : List Bidi) → NestFacts cs (nest cs) → (b : Bool) → is_initiator c ≡ b →
    NestFacts (c ∷ cs) (if b then enclose c (nest cs) else char c (nest cs))
nest-one c cs f true h =
    let e = enclose-facts c cs (nest cs) (split_at_pdi (nest cs)) h f (split-facts (nest cs) f.nested) in
    record { nested = e.1; same_tokens = e.0; same_classes = e.2 }
nest-one c cs f false h =
    record { nested = (h, f.nested); same_tokens = cons_eq (ap (λ k. (c, k)) (kind-own (base (content (nest cs)) == 1) c h)) f.same_tokens; same_classes = cons_eq refl f.same_classes }

nest-facts : (cs : List Bidi) → NestFacts cs (nest cs)
nest-facts [] = record { nested = tt; same_tokens = refl; same_classes = refl }
nest-facts (c ∷ cs) = nest-one c cs (nest-facts cs) (is_initiator c) refl

-- the flat rules give the nested tree's levels
pub flat_places-is : (p : ℕ) (cs : List Bidi) → flat_places p cs ≡ explicit_places p cs
flat_places-is p cs =
    let f = nest-facts cs in
    ap (run p (initial p)) (sym f.same_tokens)
    ∙ run-flat p (nest cs) (bottom (plain p)) [] 0 f.nested tt

is_true : (b : Bool) → elim b [ true ↦ false | false ↦ true ] ≡ true → b ≡ false
is_true true h = cc
is_true false h = refl

-- over an overflowed isolate and its PDI the machine stays as it was
over_machine : (st : List Entry) (oi oe v : ℕ) (i : Bidi) (held : Nodes) → IsNested held → HasNoPdi held → IsClosed held →
    overflows (record { stack = st; overflow_isolates = oi; overflow_embeddings = oe; valid_isolates = v }) (wants_odd i held) ≡ true →
    advance PopIsolate (drive (advance (Initiator (wants_odd i held)) (record { stack = st; overflow_isolates = oi; overflow_embeddings = oe; valid_isolates = v })) (flat held))
    ≡ record { stack = st; overflow_isolates = oi; overflow_embeddings = oe; valid_isolates = v }
over_machine st (suc n) oe v i held nested no_pdi closed over =
    ap (advance PopIsolate) (drive-overflowing held st (suc n) oe v nested no_pdi closed)
over_machine st zero oe v i held nested no_pdi closed over =
    rw (is_true (fits (next_level (wants_odd i held) (top st).level) oe) over)
    (ap (advance PopIsolate) (drive-overflowing held st 0 oe v nested no_pdi closed))

pub over-overflow : (m : Machine) (i : Bidi) (held : Nodes) → IsNested held → HasNoPdi held → IsClosed held →
    overflows m (wants_odd i held) ≡ true →
    drive m ((i, Initiator (wants_odd i held)) ∷ flat held ++ (Pdi, PopIsolate) ∷ []) ≡ m
over-overflow m i held nested no_pdi closed over =
    drive-append (advance (Initiator (wants_odd i held)) m) (flat held) ((Pdi, PopIsolate) ∷ [])
    ∙ over_machine m.stack m.overflow_isolates m.overflow_embeddings m.valid_isolates i held nested no_pdi closed over

-- flattening the nodes gives the classes back
pub nested-classes : (cs : List Bidi) → flattened (nest cs) ≡ cs
nested-classes cs = (nest-facts cs).same_classes

-- and a split at a PDI
pub split-classes : (cs : List Bidi) (p : Nodes × Nodes) → split_at_pdi (nest cs) ≡ Some p → cs ≡ flattened p.0 ++ Pdi ∷ flattened p.1
unfolding SplitFacts
split-classes cs p e =
    let s : SplitFacts (nest cs) (Some p) = subst (SplitFacts (nest cs)) e (split-facts (nest cs) (nest-facts cs).nested) in
    sym (nested-classes cs) ∙ s.5
