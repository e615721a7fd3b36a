-- Where each parent is in the set, every insertion is attached.
use Rattle.std.proofs.Common.{◌≡◌, ◌⊎◌, inl, inr, true, List, [], ◌∷◌, ◌++◌, Option, Some, None, refl, sym, ap, subst, ◌∙◌, append_assoc}
use Rattle.std.specs.Prelude.{is_some}
use Rattle.std.specs.declared.cmp.Ordering.TheVariants.{Less}
use Rattle.std.specs.Cmp.{tied_itself}
use Rattle.std.specs.List.{AllByRecursion}
use Rattle.std.specs.FinMap as map
use Rattle.bg_types.specs.Identifier.{Identifier, id_cmp}
use Rattle.bg_types.specs.OperationSet.{Node, OperationSet, AllWellFormed}
use Rattle.bg_types.specs.declared.op.Place.{Place}
use Rattle.bg_types.specs.declared.op.Place.TheVariants.{Root, After}
use Rattle.bg_types.proofs.Interface.{id_cmp-total}
use Rattle.rga_tree.specs.Walk.{Insertions}
use Rattle.rga_tree.specs.Attached.{IsAttached}
use Rattle.rga_tree.specs.Attached.IsAttached.{below_root, below}
use Rattle.rga_tree.specs.Tree.{stands_in, IsTree}
use Rattle.rga_tree.proofs.WalkAmong.{Entry, Rises, AreAbove, AreWellFounded, IsLow, all_append}
use Rattle.rga_tree.proofs.Entries.{entries_of, all_entries, Rises-entries, AreWellFounded-entries}
use Rattle.rga_tree.proofs.Listed.{IsIn, IsIn-found}
use Rattle.rga_tree.proofs.AttachedWalk.{IsReached, IsAttached-child}

-- what is attached stays attached where more is inserted
pub IsAttached-more : (ins more : Insertions) → ((q : Identifier) (node : Node) → map.get ins q ≡ Some node → map.get more q ≡ Some node)
    → {id : Identifier} → IsAttached ins id → IsAttached more id
IsAttached-more ins more kept (below_root id ch is) = below_root id ch (kept id (record { parent = Root; ch = ch }) is)
IsAttached-more ins more kept (below id parent ch is up) = below id parent ch (kept id (record { parent = After parent; ch = ch }) is) (IsAttached-more ins more kept up)

at_least : (a b : Identifier) → id_cmp a b ≡ Less → (e : Identifier) → (id_cmp b e ≡ Less) ⊎ (b ≡ e) → e ≡ a → ⊥
at_least a b lt e (inl up) same = let o : id_cmp a a ≡ Less = subst (λ x. id_cmp a x ≡ Less) same (id_cmp-total.trans a b e lt up) in let t = tied_itself id_cmp-total a in absurd cc
at_least a b lt e (inr tie) same = let o : id_cmp a a ≡ Less = subst (λ x. id_cmp a x ≡ Less) (tie ∙ same) lt in let t = tied_itself id_cmp-total a in absurd cc

-- what is below an insertion stands before it
in_front : (l r : List Entry) (x e : Entry) → id_cmp x.0 e.0 ≡ Less → AreAbove e.0 r → IsIn x (l ++ e ∷ r) → IsIn x l
in_front [] r x e lt above (inl here) = absurd (at_least x.0 e.0 lt e.0 (inr refl) (ap (λ (y : Entry). y.0) here))
in_front [] r x e lt above (inr there) = absurd (later r above there) where
  later : (r : List Entry) → AreAbove e.0 r → IsIn x r → ⊥
  later [] above h = h
  later (y ∷ r) above (inl here) = at_least x.0 e.0 lt y.0 (inl above.0) (ap (λ (z : Entry). z.0) here)
  later (y ∷ r) above (inr there) = later r above.1 there
in_front (y ∷ l) r x e lt above (inl here) = inl here
in_front (y ∷ l) r x e lt above (inr there) = inr (in_front l r x e lt above there)

pub all_in : (P : Entry → Type 0) (es : List Entry) (x : Entry) → AllByRecursion P es → IsIn x es → P x
all_in P [] x h at = absurd at
all_in P (e ∷ es) x h (inl here) = subst P here h.0
all_in P (e ∷ es) x h (inr there) = all_in P es x h.1 there

pub all_last : (P : Entry → Type 0) (l r : List Entry) → AllByRecursion P (l ++ r) → AllByRecursion P r
all_last P [] r h = h
all_last P (x ∷ l) r h = all_last P l r h.1

found_in : (s : OperationSet) (a : Identifier) → map.contains_key s.ins a ≡ true → (node : Node) × IsIn (a, node) (entries_of s)
found_in s a h = by_look (map.get s.ins a) refl h where
  by_look : (o : Option Node) → map.get s.ins a ≡ o → is_some o ≡ true → (node : Node) × IsIn (a, node) (entries_of s)
  by_look None is h = absurd cc
  by_look (Some node) is h = (node, IsIn-found a node (entries_of s) (sym (map.get-entries s.ins a) ∙ is))

reached_parent : (s : OperationSet) (l r : List Entry) (e : Entry) (p : Place) → entries_of s ≡ l ++ e ∷ r → AllByRecursion (λ x. IsAttached s.ins x.0) l
    → IsLow p e.0 → AreAbove e.0 r → stands_in s p ≡ true → IsReached s.ins p
reached_parent s l r e Root split front low above stands = tt
reached_parent s l r e (After a) split front low above stands =
    let found = found_in s a stands in
    all_in (λ x. IsAttached s.ins x.0) l (a, found.0) front (in_front l r (a, found.0) e low above (subst (IsIn (a, found.0)) split found.1))

attached_from : (s : OperationSet) (l r : List Entry) → entries_of s ≡ l ++ r → Rises r → AreWellFounded r
    → AllByRecursion (λ e. (map.get s.ins e.0 ≡ Some e.1) × (stands_in s e.1.parent ≡ true)) r → AllByRecursion (λ x. IsAttached s.ins x.0) l → AllByRecursion (λ x. IsAttached s.ins x.0) r
attached_from s l [] split rises founded known front = tt
attached_from s l (e ∷ r) split rises founded known front =
    let here : IsAttached s.ins e.0 = IsAttached-child s.ins e.0 e.1 known.0.0 (reached_parent s l r e e.1.parent split front founded.0 rises.0 known.0.1) in
    (here, attached_from s (l ++ e ∷ []) r (split ∙ sym (append_assoc l (e ∷ []) r)) rises.1 founded.1 known.1 (all_append (λ x. IsAttached s.ins x.0) l (e ∷ []) front (here, tt)))

pub IsAttached-tree : (s : OperationSet) (id : Identifier) → AllWellFormed s → IsTree s → map.contains_key s.ins id ≡ true → IsAttached s.ins id
IsAttached-tree s id well tree stands =
    let found = found_in s id stands in
    all_in (λ x. IsAttached s.ins x.0) (entries_of s) (id, found.0)
    (attached_from s [] (entries_of s) refl (Rises-entries s) (AreWellFounded-entries s well)
    (all_entries s (λ e. (map.get s.ins e.0 ≡ Some e.1) × (stands_in s e.1.parent ≡ true)) (λ e held. (held, tree e.0 e.1 held))) tt)
    found.1
