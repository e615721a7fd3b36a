-- One pass from the end matches initiators and PDIs and knows what each isolate holds.
use Rattle.std.proofs.Common.{ℕ, zero, suc, ◌≡◌, ◌<◌, ◌≤◌, ◌+◌, ◌==◌, refl, ap, ap₂, sym, subst, ◌∙◌, List, [], ◌∷◌, ◌++◌, length, get_or, set, take, drop, drop-cons, Option, Some, None, Bool, false, if◌then◌else◌, add-zero, add-one, arith}
use Rattle.std.specs.Prelude.{replicate}
use Rattle.std.proofs.lemmas.Bool.{false≢true}
use Rattle.std.proofs.lemmas.List.{length-append, drop_all, drop-set, length-set, length-replicate, get_or-replicate, get_or-set_other}
use Rattle.bg_types.specs.declared.class.Bidi.{Bidi}
use Rattle.bg_types.specs.declared.class.Bidi.TheVariants.{L, R, Al, Rle, Lre, Rlo, Lro, Pdf, Lri, Rli, Fsi, Pdi}
use Rattle.paragraphs.specs.Classes.{is_removed, is_isolate_control}
use Rattle.bidi_explicit.specs.declared.controls.Control.{Control}
use Rattle.bidi_explicit.specs.declared.kind.Kind.{Kind}
use Rattle.bidi_explicit.specs.declared.controls.OpenPdi.{OpenPdi}
use Rattle.bidi_explicit.specs.Nesting.{Nodes, end, char, isolate, unclosed, is_initiator, split_at_pdi, enclose, base, nest, flattened}
use Rattle.bidi_explicit.specs.Flat.{content}
use Rattle.bidi_explicit.specs.Strong.{strong_level}
use Rattle.std.proofs.lemmas.Option.{same_Some}
use Rattle.bidi_explicit.specs.Uniform.{is_control}
use Rattle.bidi_explicit.specs.Controls.{control, controls_from, no_control, Behind, own_pdis, behind, without_nearest, moved, odd_before, nearest, control_by}

-- a PDI of a list, and those after it, where n characters stand before it
abbrev pdis_from : ℕ → Nodes → List OpenPdi
pdis_from i rest = (record { place = i; odd = base (content rest) == 1 }) ∷ own_pdis (suc i) rest

-- the PDIs of a list, by its split at the first
PdiFacts : ℕ → Nodes → Option (Nodes × Nodes) → Type 0
PdiFacts i ns (Some p) = own_pdis i ns ≡ pdis_from (i + length (flattened p.0)) p.1
PdiFacts i ns None = own_pdis i ns ≡ []

at_place : (i j : ℕ) (rest : Nodes) → i ≡ j → pdis_from i rest ≡ pdis_from j rest
at_place i j rest e = ap (λ n. pdis_from n rest) e

pdis-char : (i : ℕ) (c : Bidi) (rest : Nodes) (o : Option (Nodes × Nodes)) → own_pdis i (char c rest) ≡ own_pdis (suc i) rest →
    PdiFacts (suc i) rest o → PdiFacts i (char c rest) (elim o [ Some p ↦ Some (char c p.0, p.1) | None ↦ None ])
unfolding PdiFacts
pdis-char i c rest (Some p) e h = e ∙ h ∙ at_place (suc i + length (flattened p.0)) (i + length (c ∷ flattened p.0)) p.1 (omega arith)
pdis-char i c rest None e h = e ∙ h

pdis-isolate : (i : ℕ) (c : Bidi) (held rest : Nodes) (o : Option (Nodes × Nodes)) →
    PdiFacts (suc (suc i + length (flattened held))) rest o →
    PdiFacts i (isolate c held rest) (elim o [ Some p ↦ Some (isolate c held p.0, p.1) | None ↦ None ])
unfolding PdiFacts
pdis-isolate i c held rest (Some p) h =
    h ∙ at_place (suc (suc i + length (flattened held)) + length (flattened p.0)) (i + length (c ∷ flattened held ++ Pdi ∷ flattened p.0)) p.1
    (omega (arith, length-append (flattened held) (Pdi ∷ flattened p.0)))
pdis-isolate i c held rest None h = h

pdi-facts : (i : ℕ) (ns : Nodes) → PdiFacts i ns (split_at_pdi ns)
unfolding PdiFacts
pdi-facts i end = refl
pdi-facts i (char Pdi rest) = at_place i (i + 0) rest (omega arith)
pdi-facts i (char c rest) = pdis-char i c rest (split_at_pdi rest) refl (pdi-facts (suc i) rest)
pdi-facts i (isolate c held rest) = pdis-isolate i c held rest (split_at_pdi rest) (pdi-facts (suc (suc i + length (flattened held))) rest)
pdi-facts i (unclosed c held) = refl

abbrev first : Nodes → Option (Nodes × Nodes) → Nodes
first ns o = elim o [ Some p ↦ p.0 | None ↦ ns ]

-- the split of a list after an isolate, and after a character
abbrev pub behind_isolate : Bidi → Nodes → Option (Nodes × Nodes) → Option (Nodes × Nodes)
behind_isolate i held o = elim o [ Some p ↦ Some (isolate i held p.0, p.1) | None ↦ None ]

abbrev pub behind_char : Bidi → Option (Nodes × Nodes) → Option (Nodes × Nodes)
behind_char c o = elim o [ Some p ↦ Some (char c p.0, p.1) | None ↦ None ]

-- what stands up to the first PDI, after an isolate and after a character
first-isolate : (i : Bidi) (held rest : Nodes) (o : Option (Nodes × Nodes)) →
    base (first (isolate i held rest) (behind_isolate i held o)) ≡ base (first rest o)
first-isolate i held rest (Some p) = refl
first-isolate i held rest None = refl

first-weak : (c : Bidi) (ns : Nodes) (o : Option (Nodes × Nodes)) → ((m : Nodes) → base (char c m) ≡ base m) →
    base (first (char c ns) (behind_char c o)) ≡ base (first ns o)
first-weak c ns (Some p) h = h p.0
first-weak c ns None h = h ns

first-strong : (c : Bidi) (ns : Nodes) (o : Option (Nodes × Nodes)) (n : ℕ) → ((m : Nodes) → base (char c m) ≡ n) →
    base (first (char c ns) (behind_char c o)) ≡ n
first-strong c ns (Some p) n h = h p.0
first-strong c ns None n h = h ns

behind_eq : (odd odd' : Bool) (ps qs : List OpenPdi) → odd ≡ odd' → ps ≡ qs →
    (let b : Behind = record { odd = odd; pdis = ps } in b) ≡ (let d : Behind = record { odd = odd'; pdis = qs } in d)
behind_eq odd odd' ps qs e f = ap₂ (λ x xs. let b : Behind = record { odd = x; pdis = xs } in b) e f

is_odd : (m n : ℕ) → m ≡ n → (m == 1) ≡ (n == 1)
is_odd m n e = ap (λ k. k == 1) e

-- an isolate that is closed or not
enclosed : (i : ℕ) (c : Bidi) (ns : Nodes) (o : Option (Nodes × Nodes)) → split_at_pdi ns ≡ o → PdiFacts (suc i) ns o →
    behind i (elim o [ Some p ↦ isolate c p.0 p.1 | None ↦ unclosed c ns ]) ≡ without_nearest (own_pdis (suc i) ns)
unfolding PdiFacts
enclosed i c ns (Some p) split h =
    behind_eq _ _ _ _ (is_odd _ _ (first-isolate c p.0 p.1 (split_at_pdi p.1))) refl
    ∙ ap without_nearest (sym h)
enclosed i c ns None split h = ap without_nearest (sym h)

behind-enclose : (i : ℕ) (c : Bidi) (ns : Nodes) → behind i (enclose c ns) ≡ without_nearest (own_pdis (suc i) ns)
behind-enclose i c ns = enclosed i c ns (split_at_pdi ns) refl (pdi-facts (suc i) ns)

-- the pass moves from after a character to before it
pub behind-step : (i : ℕ) (c : Bidi) (cs : List Bidi) → behind i (nest (c ∷ cs)) ≡ moved i c (behind (suc i) (nest cs))
behind-step i Lri cs = behind-enclose i Lri (nest cs)
behind-step i Rli cs = behind-enclose i Rli (nest cs)
behind-step i Fsi cs = behind-enclose i Fsi (nest cs)
behind-step i Pdi cs = refl
behind-step i L cs = behind_eq _ _ _ _ (is_odd _ _ (first-strong L (nest cs) (split_at_pdi (nest cs)) 0 (λ m. refl))) refl
behind-step i R cs = behind_eq _ _ _ _ (is_odd _ _ (first-strong R (nest cs) (split_at_pdi (nest cs)) 1 (λ m. refl))) refl
behind-step i Al cs = behind_eq _ _ _ _ (is_odd _ _ (first-strong Al (nest cs) (split_at_pdi (nest cs)) 1 (λ m. refl))) refl
behind-step i c cs = behind_eq _ _ _ _ (is_odd _ _ (first-weak c (nest cs) (split_at_pdi (nest cs)) (λ m. refl))) refl

-- how many characters stand before a list's first PDI, and its place
abbrev pub before_first : Option (Nodes × Nodes) → Option ℕ
before_first o = elim o [ Some p ↦ Some (length (flattened p.0)) | None ↦ None ]

abbrev placed : ℕ → Option ℕ → Option ℕ
placed i o = elim o [ Some n ↦ Some (i + n) | None ↦ None ]

-- the nearest PDI is the one that matches
nearest-is : (i : ℕ) (ns : Nodes) (o : Option (Nodes × Nodes)) → PdiFacts i ns o → nearest (own_pdis i ns) ≡ placed i (before_first o)
unfolding PdiFacts
nearest-is i ns (Some p) h = ap nearest h
nearest-is i ns None h = ap nearest h

if_same : (b : Bool) (x y : Option ℕ) → x ≡ y → (if b then x else None) ≡ (if b then y else None)
if_same b x y e = ap (λ o. if b then o else None) e

control_eq : (k : Kind) (x y : Option ℕ) → x ≡ y →
    (let b : Control = record { kind = k; pdi = x } in b) ≡ (let d : Control = record { kind = k; pdi = y } in d)
control_eq k x y e = ap (λ o. let b : Control = record { kind = k; pdi = o } in b) e

pub control-by : (i : ℕ) (c : Bidi) (cs : List Bidi) → control_by c (behind (suc i) (nest cs)) ≡ control i c cs
control-by i c cs = control_eq _ _ _ (if_same (is_initiator c) _ _ (nearest-is (suc i) (nest cs) (split_at_pdi (nest cs)) (pdi-facts (suc i) (nest cs))))

-- each control by its place
pub get_or-controls : (j : ℕ) (cs : List Bidi) (i : ℕ) (d : Bidi) (e : Control) → i < length cs →
    get_or (controls_from j cs) i e ≡ control (j + i) (get_or cs i d) (drop (suc i) cs)
get_or-controls j [] i d e inside = absurd (omega arith)
get_or-controls j (c ∷ cs) zero d e inside = ap (λ n. control n c cs) (sym (add-zero j))
get_or-controls j (c ∷ cs) (suc i) d e inside =
    get_or-controls (suc j) cs i d e (omega arith)
    ∙ (let same : suc j + i ≡ j + suc i = omega arith in ap (λ n. control n (get_or cs i d) (drop (suc i) cs)) same)

pub length-controls : (j : ℕ) (cs : List Bidi) → length (controls_from j cs) ≡ length cs
length-controls j [] = refl
length-controls j (c ∷ cs) = let h = length-controls (suc j) cs in omega arith

-- from place i on each control is known, and b is what is known after the place before
pub record IsMatchedFrom (cs : List Bidi) (i : ℕ) (b : Behind) (xs : List Control) : Type 0 where
  pub known : b ≡ behind i (nest (drop i cs))
  pub done : drop i xs ≡ controls_from i (drop i cs)
  pub long : length xs ≡ length cs
  -- those before it are still as they were made
  pub clear : (k : ℕ) (d : Control) → k < i → get_or xs k d ≡ no_control

pub IsMatchedFrom-start : (cs : List Bidi) (b : Behind) (xs : List Control) → b ≡ record { odd = false; pdis = [] } → xs ≡ replicate (length cs) no_control →
    IsMatchedFrom cs (length cs) b xs
IsMatchedFrom-start cs b xs none made =
    let long : length xs ≡ length cs = ap length made ∙ length-replicate (length cs) no_control in
    let nil : drop (length cs) cs ≡ [] = drop_all (length cs) cs (omega arith) in
    let nothing : drop (length cs) xs ≡ [] = drop_all (length cs) xs (omega arith) in
    record {
      known = none ∙ ap (λ ds. behind (length cs) (nest ds)) (sym nil);
      done = nothing ∙ ap (controls_from (length cs)) (sym nil);
      long = long;
      clear = λ k d before. ap (λ ys. get_or ys k d) made ∙ get_or-replicate (length cs) k no_control d before;
    }

pub IsMatchedFrom-step : (cs : List Bidi) (i : ℕ) (b : Behind) (xs : List Control) → IsMatchedFrom cs (suc i) b xs → i < length cs →
    (d : Bidi) (x : Control) (a : Behind) → x ≡ control_by (get_or cs i d) b → a ≡ moved i (get_or cs i d) b →
    IsMatchedFrom cs i a (set xs i x)
IsMatchedFrom-step cs i b xs m inside d x a put after =
    let here : drop i cs ≡ get_or cs i d ∷ drop (suc i) cs = drop-cons cs i d inside in
    record {
      known = after ∙ ap (moved i (get_or cs i d)) m.known ∙ sym (behind-step i (get_or cs i d) (drop (suc i) cs))
          ∙ ap (λ ds. behind i (nest ds)) (sym here);
      done = drop-set xs i x (let l = m.long in omega arith)
          ∙ ap₂ (λ y ys. y ∷ ys)
          (put ∙ ap (control_by (get_or cs i d)) m.known ∙ control-by i (get_or cs i d) (drop (suc i) cs))
          (ap (λ n. drop n xs) (add-one i) ∙ m.done)
          ∙ ap (controls_from i) (sym here);
      long = length-set xs i x ∙ m.long;
      clear = λ k e before. get_or-set_other xs i k x e (λ same. absurd (omega arith)) ∙ m.clear k e (omega arith);
    }

-- a class that is no control
control-none : (i : ℕ) (c : Bidi) (rest : List Bidi) → is_control c ≡ false → control i c rest ≡ no_control
unfolding is_removed is_isolate_control
control-none i Rle rest h = absurd (false≢true (sym h))
control-none i Lre rest h = absurd (false≢true (sym h))
control-none i Rlo rest h = absurd (false≢true (sym h))
control-none i Lro rest h = absurd (false≢true (sym h))
control-none i Pdf rest h = absurd (false≢true (sym h))
control-none i Lri rest h = absurd (false≢true (sym h))
control-none i Rli rest h = absurd (false≢true (sym h))
control-none i Fsi rest h = absurd (false≢true (sym h))
control-none i Pdi rest h = absurd (false≢true (sym h))
control-none i c rest h = refl

-- one that is strong, and one that is neither
strong-no_control : (c : Bidi) (l : ℕ) → strong_level c ≡ Some l → is_control c ≡ false
unfolding is_removed is_isolate_control
strong-no_control L l h = refl
strong-no_control R l h = refl
strong-no_control Al l h = refl
strong-no_control c l h = absurd (cc)

moved-strong : (i : ℕ) (c : Bidi) (b : Behind) (l : ℕ) → strong_level c ≡ Some l → record b { odd = l == 1 } ≡ moved i c b
moved-strong i L b l h = ap (λ k. record b { odd = k == 1 }) (sym (same_Some 0 l h))
moved-strong i R b l h = ap (λ k. record b { odd = k == 1 }) (sym (same_Some 1 l h))
moved-strong i Al b l h = ap (λ k. record b { odd = k == 1 }) (sym (same_Some 1 l h))
moved-strong i c b l h = absurd (cc)

moved-neither : (i : ℕ) (c : Bidi) (b : Behind) → strong_level c ≡ None → is_control c ≡ false → b ≡ moved i c b
unfolding is_removed is_isolate_control
moved-neither i L b h n = absurd (cc)
moved-neither i R b h n = absurd (cc)
moved-neither i Al b h n = absurd (cc)
moved-neither i Lri b h n = absurd (false≢true (sym n))
moved-neither i Rli b h n = absurd (false≢true (sym n))
moved-neither i Fsi b h n = absurd (false≢true (sym n))
moved-neither i Pdi b h n = absurd (false≢true (sym n))
moved-neither i c b h n = refl

IsMatchedFrom-over : (cs : List Bidi) (i : ℕ) (b : Behind) (xs : List Control) → IsMatchedFrom cs (suc i) b xs → i < length cs →
    (d : Bidi) (a : Behind) → is_control (get_or cs i d) ≡ false → a ≡ moved i (get_or cs i d) b → IsMatchedFrom cs i a xs
IsMatchedFrom-over cs i b xs m inside d a none after =
    let here : drop i cs ≡ get_or cs i d ∷ drop (suc i) cs = drop-cons cs i d inside in
    record {
      known = after ∙ ap (moved i (get_or cs i d)) m.known ∙ sym (behind-step i (get_or cs i d) (drop (suc i) cs)) ∙ ap (λ ds. behind i (nest ds)) (sym here);
      done = drop-cons xs i no_control (let l = m.long in omega arith)
          ∙ ap₂ (λ y ys. y ∷ ys) (m.clear i no_control (omega arith) ∙ sym (control-none i (get_or cs i d) (drop (suc i) cs) none)) m.done
          ∙ ap (controls_from i) (sym here);
      long = m.long;
      clear = λ k e before. m.clear k e (omega arith);
    }

pub IsMatchedFrom-strong : (cs : List Bidi) (i : ℕ) (b : Behind) (xs : List Control) → IsMatchedFrom cs (suc i) b xs → i < length cs →
    (d : Bidi) (a : Behind) (l : ℕ) → strong_level (get_or cs i d) ≡ Some l → a ≡ record b { odd = l == 1 } → IsMatchedFrom cs i a xs
IsMatchedFrom-strong cs i b xs m inside d a l strong after =
    IsMatchedFrom-over cs i b xs m inside d a (strong-no_control (get_or cs i d) l strong) (after ∙ moved-strong i (get_or cs i d) b l strong)

pub IsMatchedFrom-neither : (cs : List Bidi) (i : ℕ) (b : Behind) (xs : List Control) → IsMatchedFrom cs (suc i) b xs → i < length cs →
    (d : Bidi) → strong_level (get_or cs i d) ≡ None → is_control (get_or cs i d) ≡ false → IsMatchedFrom cs i b xs
IsMatchedFrom-neither cs i b xs m inside d weak none =
    IsMatchedFrom-over cs i b xs m inside d b none (moved-neither i (get_or cs i d) b weak none)

-- a row without controls
module _ (cs : List Bidi) (b : Behind) (xs : List Control) where
  abbrev after_row : List Bidi → Behind
  after_row row = record b { odd = odd_before row b.odd }

  row-more : (i : ℕ) (row : List Bidi) (found : Option ℕ) → i < length cs → strong_level (get_or cs i L) ≡ found → is_control (get_or cs i L) ≡ false
      → IsMatchedFrom cs (suc i) (after_row row) xs
      → IsMatchedFrom cs i (record b { odd = elim found [ Some level ↦ level == 1 | None ↦ odd_before row b.odd ] }) xs
  row-more i row (Some level) inside is none m = IsMatchedFrom-strong cs i (after_row row) xs m inside L (record b { odd = level == 1 }) level is refl
  row-more i row None inside is none m = IsMatchedFrom-neither cs i (after_row row) xs m inside L is none

  pub IsMatchedFrom-row : (n i stop : ℕ) → i + n ≡ stop → stop ≤ length cs → ((k : ℕ) → i ≤ k → k < stop → is_control (get_or cs k L) ≡ false)
      → IsMatchedFrom cs stop b xs → IsMatchedFrom cs i (record b { odd = odd_before (take n (drop i cs)) b.odd }) xs
  IsMatchedFrom-row zero i stop is within row m = let at : stop ≡ i = omega arith in subst (λ k. IsMatchedFrom cs k b xs) at m
  IsMatchedFrom-row (suc n) i stop is within row m =
      let here : drop i cs ≡ get_or cs i L ∷ drop (suc i) cs = drop-cons cs i L (omega arith) in
      subst (λ ds. IsMatchedFrom cs i (record b { odd = odd_before (take (suc n) ds) b.odd }) xs) (sym here)
      (row-more i (take n (drop (suc i) cs)) (strong_level (get_or cs i L)) (omega arith) refl (row i (omega arith) (omega arith))
      (IsMatchedFrom-row n (suc i) stop (omega arith) within (λ k from to. row k (omega arith) to) m))

pub IsMatchedFrom-done : (cs : List Bidi) (b : Behind) (xs : List Control) (i : ℕ) → i ≡ 0 → IsMatchedFrom cs i b xs → xs ≡ controls_from 0 cs
IsMatchedFrom-done cs b xs i none m = (subst (λ n. IsMatchedFrom cs n b xs) none m).done
