-- The walk by recursion over the insertions is that of the children, the greatest first.
use Rattle.std.proofs.Common.{◌≡◌, Bool, true, false, cond, List, [], ◌∷◌, ◌++◌, refl, sym, ap, ◌∙◌}
use Rattle.std.specs.Prelude.{filter, reverse}
use Rattle.std.specs.List.{AllByRecursion, flat_map}
use Rattle.std.proofs.lemmas.List.{append-nil, reverse-append}
use Rattle.std.proofs.lemmas.List.Concat.{flat_map-cons}
use Rattle.std.proofs.lemmas.Grind.{flat_map-append}
use Rattle.bg_types.specs.declared.op.Place.{Place}
use Rattle.bg_types.specs.declared.op.Place.TheVariants.{After}
use Rattle.rga_tree.specs.Walk.{same_place}
use Rattle.rga_tree.proofs.WalkAmong.{Entry, walk_among, Rises, AreWellFounded, IsLow, all_append, low_all, not_at}
use Rattle.bg_types.proofs.Interface.{all_weaker}

abbrev child_walk : List Entry → Entry → List Entry
child_walk es e = e ∷ walk_among es (After e.0)

-- the children of a place, in falling order
abbrev pub children_among : List Entry → Place → List Entry
children_among es q = reverse (filter (λ e. same_place e.1.parent q) es)

-- maps that agree at each element
pub flat_map-same : (f g : Entry → List Entry) (xs : List Entry) → AllByRecursion (λ e. f e ≡ g e) xs → flat_map f xs ≡ flat_map g xs
flat_map-same f g [] h = refl
flat_map-same f g (x ∷ xs) h = flat_map-cons f x xs ∙ (λ i. h.0 i ++ flat_map-same f g xs h.1 i) ∙ sym (flat_map-cons g x xs)

pub all_reverse : (P : Entry → Type 0) (xs : List Entry) → AllByRecursion P xs → AllByRecursion P (reverse xs)
all_reverse P [] h = tt
all_reverse P (x ∷ xs) h = rw (reverse-append (x ∷ []) xs) (all_append P (reverse xs) (x ∷ []) (all_reverse P xs h.1) (h.0, tt))

pub all_filter : (P : Entry → Type 0) (p : Entry → Bool) (xs : List Entry) → AllByRecursion P xs → AllByRecursion P (filter p xs)
all_filter P p [] h = tt
all_filter P p (x ∷ xs) h = elim (p x) as (λ b. AllByRecursion P (cond b (x ∷ filter p xs) (filter p xs))) [ true ↦ (h.0, all_filter P p xs h.1) | false ↦ all_filter P p xs h.1 ]

pub walk_among-children : (es : List Entry) (q : Place) → Rises es → AreWellFounded es → walk_among es q ≡ flat_map (child_walk es) (children_among es q)
walk_among-children [] q rises founded = refl
walk_among-children (x ∷ rest) q rises founded =
    let all = filter (λ e. same_place e.1.parent q) rest in
    let step : (e : Entry) → IsLow x.1.parent e.0 → child_walk rest e ≡ child_walk (x ∷ rest) e =
    λ e low. ap (λ t. e ∷ t) (sym (ap (λ b. walk_among rest (After e.0) ++ cond b (x ∷ walk_among rest (After x.0)) []) (not_at x.1.parent e.0 low) ∙ append-nil (walk_among rest (After e.0)))) in
    let agree : AllByRecursion (λ e. child_walk rest e ≡ child_walk (x ∷ rest) e) (reverse all) =
    all_reverse _ all (all_filter _ (λ e. same_place e.1.parent q) rest (all_weaker (λ e. IsLow x.1.parent e.0) (λ e. child_walk rest e ≡ child_walk (x ∷ rest) e) step rest (low_all x.1.parent x.0 rest founded.0 rises.0))) in
    let others : walk_among rest q ≡ flat_map (child_walk (x ∷ rest)) (reverse all) = walk_among-children rest q rises.1 founded.1 ∙ flat_map-same _ _ (reverse all) agree in
    let last : x ∷ walk_among rest (After x.0) ≡ flat_map (child_walk (x ∷ rest)) (x ∷ []) = step x founded.0 ∙ sym (append-nil (child_walk (x ∷ rest) x)) ∙ sym (flat_map-cons (child_walk (x ∷ rest)) x []) in
    elim (same_place x.1.parent q) as (λ b. walk_among rest q ++ cond b (x ∷ walk_among rest (After x.0)) [] ≡ flat_map (child_walk (x ∷ rest)) (reverse (cond b (x ∷ all) all))) [
      | true ↦ (λ i. others i ++ last i) ∙ sym (flat_map-append (child_walk (x ∷ rest)) (reverse all) (x ∷ [])) ∙ ap (flat_map (child_walk (x ∷ rest))) (sym (reverse-append (x ∷ []) all))
      | false ↦ append-nil (walk_among rest q) ∙ others
    ]
