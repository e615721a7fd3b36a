-- N1, N2, I1 and I2 in one pass.
use Rattle.std.proofs.Common.{arith, ℕ, zero, suc, ◌+◌, ◌-◌, ◌<◌, ◌≤◌, ◌≡◌, refl, ap, sym, ◌∙◌, List, [], ◌∷◌, ◌++◌, map, take, drop, set, replicate, length, length-drop, get_or, Bool, true, false}
use Rattle.std.specs.Prelude.{not, ◌&&◌, if◌then◌else◌}
use Rattle.std.proofs.lemmas.List.{append_assoc, drop-drop, drop_more, get_or-drop, take_more_set}
use Rattle.bg_types.specs.declared.class.Bidi.{Bidi}
use Rattle.bg_types.specs.declared.class.Bidi.TheVariants.{L}
use Rattle.bidi_weak_neutral.specs.Classes.{is, is_neutral, direction, embedding_direction}
use Rattle.bidi_weak_neutral.specs.Context.{nearest}
use Rattle.bidi_weak_neutral.specs.Neutral.{side, n1, n2, implicit_level}
use Rattle.bidi_weak_neutral.specs.Pass.{neutral_type}
use Rattle.bidi_weak_neutral.proofs.Scan.{scan, in_context_from-scan}

-- the nearest earlier type that isn't neutral
abbrev n1_at : Bidi → Bidi → Bidi → List Bidi → Bidi
n1_at eos before c after = if is_neutral c && is (direction before) (side eos after) then direction before else c

abbrev pub n1_step : Bidi → Bidi → Bidi
n1_step before c = if not (is_neutral c) then c else before

n1-is : (sos eos : Bidi) (types : List Bidi) → n1 sos eos types ≡ scan (n1_at eos) n1_step sos types
n1-is sos eos types = in_context_from-scan _ (nearest (λ x. not (is_neutral x)) sos) (n1_at eos) n1_step (λ b x a. refl) (λ b x. refl) [] types

-- N2
abbrev n2_at : ℕ → Bidi → Bidi
n2_at level c = if is_neutral c then embedding_direction level else c

-- the levels of these types, where `before` is the nearest earlier type that isn't neutral
abbrev pub levels_from : ℕ → Bidi → Bidi → List Bidi → List ℕ
levels_from level eos before [] = []
levels_from level eos before (c ∷ cs) = implicit_level level (n2_at level (n1_at eos before c cs)) ∷ levels_from level eos (n1_step before c) cs

levels-scan : (level : ℕ) (eos before : Bidi) (types : List Bidi)
    → map (implicit_level level) (n2 level (scan (n1_at eos) n1_step before types)) ≡ levels_from level eos before types
levels-scan level eos before [] = refl
levels-scan level eos before (c ∷ cs) =
    ap (λ t. implicit_level level (n2_at level (n1_at eos before c cs)) ∷ t) (levels-scan level eos (n1_step before c) cs)

pub levels_from-is : (level : ℕ) (sos eos : Bidi) (types : List Bidi)
    → map (implicit_level level) (n2 level (n1 sos eos types)) ≡ levels_from level eos sos types
levels_from-is level sos eos types =
    ap (λ t. map (implicit_level level) (n2 level t)) (n1-is sos eos types) ∙ levels-scan level eos sos types

-- a neutral has the type of its run
type-of-neutral : (level : ℕ) (c d : Bidi) (same neutral : Bool) → is_neutral c ≡ true → is_neutral d ≡ neutral
    → n2_at level (if same then d else c) ≡ (if same && not neutral then d else embedding_direction level)
type-of-neutral level c d true true n m = ap (λ b. if b then embedding_direction level else d) m
type-of-neutral level c d true false n m = ap (λ b. if b then embedding_direction level else d) m
type-of-neutral level c d false neutral n m = ap (λ b. if b then embedding_direction level else c) n

neutral-level : (level : ℕ) (eos before c after : Bidi) (cs : List Bidi) → is_neutral c ≡ true → nearest (λ x. not (is_neutral x)) eos cs ≡ after
    → levels_from level eos before (c ∷ cs) ≡ implicit_level level (neutral_type level before after) ∷ levels_from level eos before cs
neutral-level level eos before c after cs neutral ahead =
    ap (λ b. implicit_level level (n2_at level (if b && is (direction before) (side eos cs) then direction before else c)) ∷ levels_from level eos (if not b then c else before) cs) neutral
    ∙ ap (λ a. implicit_level level (n2_at level (if is (direction before) (direction a) then direction before else c)) ∷ levels_from level eos before cs) ahead
    ∙ ap (λ t. implicit_level level t ∷ levels_from level eos before cs)
    (type-of-neutral level c (direction before) (is (direction before) (direction after)) (is_neutral (direction before)) neutral refl)

other-level : (level : ℕ) (eos before c : Bidi) (cs : List Bidi) → is_neutral c ≡ false
    → levels_from level eos before (c ∷ cs) ≡ implicit_level level c ∷ levels_from level eos c cs
other-level level eos before c cs other =
    ap (λ b. implicit_level level (n2_at level (if b && is (direction before) (side eos cs) then direction before else c)) ∷ levels_from level eos (if not b then c else before) cs) other
    ∙ ap (λ b. implicit_level level (if b then embedding_direction level else c) ∷ levels_from level eos c cs) other

-- one step of the pass
module _ (level : ℕ) (eos before : Bidi) (types : List Bidi) (levels whole : List ℕ) (k : ℕ) (in_types : k < length types) (in_levels : k < length levels) where
  put : (v : ℕ) (b : Bidi) → levels_from level eos before (get_or types k L ∷ drop (k + 1) types) ≡ v ∷ levels_from level eos b (drop (k + 1) types)
      → take k levels ++ levels_from level eos before (drop k types) ≡ whole
      → take (k + 1) (set levels k v) ++ levels_from level eos b (drop (k + 1) types) ≡ whole
  put v b here so_far =
      let rest = levels_from level eos b (drop (k + 1) types) in
      ap (λ t. t ++ rest) (take_more_set levels k v in_levels)
      ∙ append_assoc (take k levels) (v ∷ []) rest
      ∙ ap (λ t. take k levels ++ t) (sym (ap (levels_from level eos before) (drop_more types k L in_types) ∙ here))
      ∙ so_far

  pub put-neutral : (v : ℕ) (after : Bidi) → is_neutral (get_or types k L) ≡ true → nearest (λ x. not (is_neutral x)) eos (drop (k + 1) types) ≡ after
      → v ≡ implicit_level level (neutral_type level before after)
      → take k levels ++ levels_from level eos before (drop k types) ≡ whole
      → take (k + 1) (set levels k v) ++ levels_from level eos before (drop (k + 1) types) ≡ whole
  put-neutral v after neutral ahead is =
      put v before
      (neutral-level level eos before (get_or types k L) after (drop (k + 1) types) neutral ahead
      ∙ ap (λ v. v ∷ levels_from level eos before (drop (k + 1) types)) (sym is))

-- types of one class in a row
row-levels : (level : ℕ) (eos x : Bidi) (xs : List Bidi) (n : ℕ) → is_neutral x ≡ false → n ≤ length xs
    → ((k : ℕ) → k < n → get_or xs k L ≡ x)
    → levels_from level eos x xs ≡ replicate n (implicit_level level x) ++ levels_from level eos x (drop n xs)
row-levels level eos x xs zero other le row = refl
row-levels level eos x [] (suc n) other le row = absurd (omega arith)
row-levels level eos x (y ∷ ys) (suc n) other le row =
    ap (λ y. levels_from level eos x (y ∷ ys)) (row 0 (omega arith))
    ∙ other-level level eos x x ys other
    ∙ ap (λ t. implicit_level level x ∷ t) (row-levels level eos x ys n other (omega arith) (λ k lt. row (suc k) (omega arith)))

-- a type that is not neutral and those of its class behind it, in another list
module _ (level : ℕ) (eos before x : Bidi) (v : ℕ) (types : List Bidi) (levels new whole : List ℕ) (i end : ℕ) (order : i < end) (within : end ≤ length types)
    (at : get_or types i L ≡ x) (other : is_neutral x ≡ false) (is : v ≡ implicit_level level x)
    (row : (k : ℕ) → i < k → k < end → get_or types k L ≡ x) where
  behind : drop (end - (i + 1)) (drop (i + 1) types) ≡ drop end types
  behind =
      let there : (i + 1) + (end - (i + 1)) ≡ end = omega arith in
      drop-drop (end - (i + 1)) (i + 1) types ∙ ap (λ n. drop n types) there

  going : (k : ℕ) → k < end - (i + 1) → get_or (drop (i + 1) types) k L ≡ x
  going k lt = get_or-drop (i + 1) types k L ∙ row ((i + 1) + k) (omega arith) (omega arith)

  long : end - (i + 1) ≤ length (drop (i + 1) types)
  long = omega (arith, length-drop (i + 1) types)

  passed : levels_from level eos before (drop i types) ≡ replicate (end - i) v ++ levels_from level eos x (drop end types)
  passed =
      let lt : i < length types = omega arith in
      let more : suc (end - (i + 1)) ≡ end - i = omega arith in
      let l = implicit_level level x in
      ap (levels_from level eos before) (drop_more types i L lt ∙ ap (λ y. y ∷ drop (i + 1) types) at)
      ∙ other-level level eos before x (drop (i + 1) types) other
      ∙ ap (λ t. l ∷ t) (row-levels level eos x (drop (i + 1) types) (end - (i + 1)) other long going
      ∙ ap (λ t. replicate (end - (i + 1)) l ++ levels_from level eos x t) behind)
      ∙ ap (λ n. replicate n l ++ levels_from level eos x (drop end types)) more
      ∙ ap (λ v. replicate (end - i) v ++ levels_from level eos x (drop end types)) (sym is)

  pub put-row : take end new ≡ take i levels ++ replicate (end - i) v
      → take i levels ++ levels_from level eos before (drop i types) ≡ whole
      → take end new ++ levels_from level eos x (drop end types) ≡ whole
  put-row put so_far =
      ap (λ t. t ++ levels_from level eos x (drop end types)) put
      ∙ append_assoc (take i levels) (replicate (end - i) v) (levels_from level eos x (drop end types))
      ∙ ap (λ t. take i levels ++ t) (sym passed)
      ∙ so_far
