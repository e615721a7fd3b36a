-- In the walk a parent stands before its children.
use Rattle.std.proofs.Common.{◌≡◌, ℕ, zero, suc, ◌⊎◌, inl, inr, true, false, List, [], ◌∷◌, ◌++◌, sym, subst, ◌∙◌, append_assoc}
use Rattle.std.specs.List.{AllByRecursion, flat_map}
use Rattle.std.proofs.lemmas.List.{append-nil}
use Rattle.std.specs.FinMap as map
use Rattle.bg_types.specs.Identifier.{Identifier, same_id}
use Rattle.bg_types.specs.OperationSet.{OperationSet}
use Rattle.bg_types.specs.declared.op.Place.{Place}
use Rattle.bg_types.specs.declared.op.Place.TheVariants.{Root, After}
use Rattle.bg_types.proofs.Interface.{same_id-itself}
use Rattle.rga_tree.specs.Walk.{children, walk_to, walk, IsListedParent}
use Rattle.rga_tree.proofs.WalkAmong.{Entry}
use Rattle.rga_tree.proofs.Listed.{is_listed, listed-append, Contains-listed}
use Rattle.rga_tree.proofs.AttachedWalk.{all_children}
use Rattle.std.proofs.lemmas.Bool.{or_left, or_right}

abbrev IsListed : Place → List Entry → Type 0
IsListed Root seen = Unit {0}
IsListed (After a) seen = is_listed a seen ≡ true

-- the parent is q, or one of those seen
abbrev IsSeen : Place → List Entry → Place → Type 0
IsSeen q seen p = (p ≡ q) ⊎ IsListed p seen

-- each one's parent is q, or stands before it
abbrev IsLed : Place → List Entry → List Entry → Type 0
IsLed q seen [] = Unit {0}
IsLed q seen (e ∷ es) = IsSeen q seen e.1.parent × IsLed q (seen ++ e ∷ []) es

IsLed-append : (q : Place) (seen xs ys : List Entry) → IsLed q seen xs → IsLed q (seen ++ xs) ys → IsLed q seen (xs ++ ys)
IsLed-append q seen [] ys h k = subst (λ s. IsLed q s ys) (append-nil seen) k
IsLed-append q seen (x ∷ xs) ys h k = (h.0, IsLed-append q (seen ++ x ∷ []) xs ys h.1 (subst (λ s. IsLed q s ys) (sym (append_assoc seen (x ∷ []) xs)) k))

IsListed-more : (p : Place) (before seen : List Entry) → IsListed p seen → IsListed p (before ++ seen)
IsListed-more Root before seen h = tt
IsListed-more (After a) before seen h = listed-append a before seen ∙ or_right (is_listed a before) (is_listed a seen) h

-- after a listed identifier, what is led by it is led
IsSeen-after : (q : Place) (a : Identifier) (before seen : List Entry) (p : Place) → is_listed a before ≡ true → IsSeen (After a) seen p → IsSeen q (before ++ seen) p
IsSeen-after q a before seen p at (inl h) = inr (subst (λ r. IsListed r (before ++ seen)) (sym h) (listed-append a before seen ∙ or_left (is_listed a before) (is_listed a seen) at))
IsSeen-after q a before seen p at (inr h) = inr (IsListed-more p before seen h)

IsLed-after : (q : Place) (a : Identifier) (before seen xs : List Entry) → is_listed a before ≡ true → IsLed (After a) seen xs → IsLed q (before ++ seen) xs
IsLed-after q a before seen [] at h = tt
IsLed-after q a before seen (x ∷ xs) at h =
    (IsSeen-after q a before seen x.1.parent at h.0, subst (λ s. IsLed q s xs) (sym (append_assoc before seen (x ∷ []))) (IsLed-after q a before (seen ++ x ∷ []) xs at h.1))

IsLed-flat_map : (q : Place) (seen : List Entry) (f : Entry → List Entry) (xs : List Entry) → ((e : Entry) → IsLed (After e.0) [] (f e)) → AllByRecursion (λ e. e.1.parent ≡ q) xs
    → IsLed q seen (flat_map (λ e. e ∷ f e) xs)
IsLed-flat_map q seen f [] each h = tt
IsLed-flat_map q seen f (x ∷ xs) each h =
    let here : is_listed x.0 (seen ++ x ∷ []) ≡ true =
    listed-append x.0 seen (x ∷ []) ∙ or_right (is_listed x.0 seen) (is_listed x.0 (x ∷ [])) (or_left (same_id x.0 x.0) false (same_id-itself x.0)) in
    let inner : IsLed q (seen ++ x ∷ []) (f x) = subst (λ s. IsLed q s (f x)) (append-nil (seen ++ x ∷ [])) (IsLed-after q x.0 (seen ++ x ∷ []) [] (f x) here (each x)) in
    IsLed-append q seen (x ∷ f x) (flat_map (λ e. e ∷ f e) xs) (inl h.0, inner) (IsLed-flat_map q (seen ++ x ∷ f x) f xs each h.1)

IsLed-walk : (s : OperationSet) (depth : ℕ) (q : Place) → IsLed q [] (walk_to depth s.ins q)
IsLed-walk s zero q = tt
IsLed-walk s (suc depth) q =
    IsLed-flat_map q [] (λ e. walk_to depth s.ins (After e.0)) (children s.ins q) (λ e. IsLed-walk s depth (After e.0)) (all_children s q (λ e. e.1.parent ≡ q) (λ e held at. at))

IsSeen-split : (q : Place) (seen before after : List Entry) (e : Entry) → IsLed q seen (before ++ e ∷ after) → IsSeen q (seen ++ before) e.1.parent
IsSeen-split q seen [] after e h = subst (λ s. IsSeen q s e.1.parent) (sym (append-nil seen)) h.0
IsSeen-split q seen (x ∷ before) after e h = subst (λ s. IsSeen q s e.1.parent) (append_assoc seen (x ∷ []) before) (IsSeen-split q (seen ++ x ∷ []) before after e h.1)

IsListedParent-seen : (p : Place) (before : List Entry) → IsSeen Root before p → IsListedParent p before
IsListedParent-seen Root before h = tt
IsListedParent-seen (After a) before (inl h) = absurd cc
IsListedParent-seen (After a) before (inr h) = Contains-listed a before h

pub IsListedParent-before : (s : OperationSet) (before after : List Entry) (e : Entry) → walk s Root ≡ before ++ e ∷ after → IsListedParent e.1.parent before
IsListedParent-before s before after e split =
    IsListedParent-seen e.1.parent before (IsSeen-split Root [] before after e (subst (IsLed Root []) split (IsLed-walk s (map.len s.ins) Root)))
