-- A set with a list of operations that may join it.
use Rattle.std.proofs.Common.{◌≡◌, ◌≤◌, ◌+◌, ◌⊎◌, inl, inr, zero, suc, Bool, true, false, List, [], ◌∷◌, ◌++◌, length, Option, None, Some, refl, sym, ap, subst, ◌∙◌, true≢false, arith}
use Rattle.std.specs.Prelude.{◌↔◌, Contains}
use Rattle.std.specs.FinMap as map
use Rattle.std.specs.FinSet as set
use Rattle.std.proofs.lemmas.List.Elements.{Contains-append_right, Contains-append_cases}
use Rattle.bg_types.specs.OperationSet.{Node, OperationSet, Holds, MayJoin, with_operation, size}
use Rattle.bg_types.specs.declared.op.OpView.{OpView}
use Rattle.bg_types.specs.declared.op.OpView.TheVariants.{Insert, Erase}
use Rattle.bg_types.proofs.Interface.{Holds-with_operation, with_operation-known, size-with_operation}
use Rattle.desk_replica.specs.Merging.{with_operations}

-- each operation may join the set with those before it
abbrev pub AllJoin : OperationSet → List OpView → Type 0
AllJoin s [] = Unit {0}
AllJoin s (op ∷ ops) = MayJoin s op × AllJoin (with_operation s op) ops

pub with_operations-append : (s : OperationSet) (xs ys : List OpView) → with_operations s (xs ++ ys) ≡ with_operations (with_operations s xs) ys
with_operations-append s [] ys = refl
with_operations-append s (x ∷ xs) ys = with_operations-append (with_operation s x) xs ys

pub AllJoin-append : (s : OperationSet) (xs ys : List OpView) → AllJoin s xs → AllJoin (with_operations s xs) ys → AllJoin s (xs ++ ys)
AllJoin-append s [] ys h k = k
AllJoin-append s (x ∷ xs) ys h k = (h.0, AllJoin-append (with_operation s x) xs ys h.1 k)

-- ---- what is in a list

pub contains_first : {X : Type 0} (x : X) (xs : List X) → Contains (x ∷ xs) x
contains_first x xs = (0, omega arith, refl)

pub contains_one : {X : Type 0} (x y : X) → Contains (x ∷ []) y → y ≡ x
contains_one x y (zero, lt, is) = sym is
contains_one x y (suc k, lt, is) = absurd (omega arith)

pub contains_later : {X : Type 0} (x : X) (xs : List X) (y : X) → Contains xs y → Contains (x ∷ xs) y
contains_later x xs y h = Contains-append_right (x ∷ []) xs y h

pub contains_cases : {X : Type 0} (x : X) (xs : List X) (y : X) → Contains (x ∷ xs) y → (y ≡ x) ⊎ Contains xs y
contains_cases x xs y h = elim (Contains-append_cases (x ∷ []) xs y h) [ inl here ↦ inl (contains_one x y here) | inr later ↦ inr later ]

pub contains_none : {X : Type 0} (y : X) → Contains [] y → ⊥
contains_none y h = omega (arith, h.1)

-- ---- what the set holds then

pub Holds-with_operations : (s : OperationSet) (ops : List OpView) → AllJoin s ops → (x : OpView) → Holds (with_operations s ops) x ↔ (Contains ops x ⊎ Holds s x)
Holds-with_operations s [] h x = (λ k. inr k, λ k. elim k [ inl none ↦ absurd (contains_none x none) | inr held ↦ held ])
Holds-with_operations s (op ∷ ops) h x =
    let rest = Holds-with_operations (with_operation s op) ops h.1 x in
    let one = Holds-with_operation s op x h.0 in (
      λ k. elim (rest.0 k) [
        | inl later ↦ inl (contains_later op ops x later)
        | inr held ↦ elim (one.0 held) [ inl is ↦ inl (subst (λ o. Contains (o ∷ ops) x) is (contains_first x ops)) | inr old ↦ inr old ]
      ],
      λ k. elim k [
        | inl listed ↦ elim (contains_cases op ops x listed) [ inl is ↦ rest.1 (inr (one.1 (inl is))) | inr later ↦ rest.1 (inl later) ]
        | inr old ↦ rest.1 (inr (one.1 (inr old)))
      ],
    )

-- ---- how many it holds

grown : (s : OperationSet) (op : OpView) → MayJoin s op → size (with_operation s op) ≤ size s + 1
grown s (Erase target) may = by (set.contains s.del target) refl
  where
    by : (b : Bool) → set.contains s.del target ≡ b → size (with_operation s (Erase target)) ≤ size s + 1
    by true e = let same = ap size (with_operation-known s (Erase target) e) in omega (arith, same)
    by false e = let more = size-with_operation s (Erase target) may (λ h. true≢false (sym h ∙ e)) in omega (arith, more)
grown s (Insert id parent ch) may = by (map.get s.ins id) refl
  where
    node : Node
    node = record { parent = parent; ch = ch }

    by : (o : Option Node) → map.get s.ins id ≡ o → size (with_operation s (Insert id parent ch)) ≤ size s + 1
    by None e = let more = size-with_operation s (Insert id parent ch) may (λ h. let no : None ≡ Some (record { parent = parent; ch = ch }) = sym e ∙ h in absurd cc) in omega (arith, more)
    by (Some kept) e = let same = ap size (with_operation-known s (Insert id parent ch) (e ∙ ap Some (may kept e))) in omega (arith, same)

pub size-with_operations : (s : OperationSet) (ops : List OpView) → AllJoin s ops → size (with_operations s ops) ≤ size s + length ops
size-with_operations s [] h = omega arith
size-with_operations s (op ∷ ops) h =
    let one = grown s op h.0 in
    let rest = size-with_operations (with_operation s op) ops h.1 in
    omega (arith, one, rest)
