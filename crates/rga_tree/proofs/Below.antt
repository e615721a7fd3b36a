-- What stands below an identifier, and that the walk reads it in one stretch.
use Rattle.std.proofs.Common.{◌≡◌, ℕ, zero, suc, ◌⊎◌, inl, inr, true, List, [], ◌∷◌, ◌++◌, refl, sym, ap, subst, ◌∙◌, append_assoc}
use Rattle.std.specs.Prelude.{map as each}
use Rattle.std.specs.List.{AllByRecursion, flat_map}
use Rattle.std.proofs.lemmas.List.{map-append}
use Rattle.std.proofs.lemmas.List.Concat.{flat_map-cons}
use Rattle.std.proofs.lemmas.Grind.{flat_map-append}
use Rattle.std.specs.FinMap as map
use Rattle.bg_types.specs.Identifier.{Identifier}
use Rattle.bg_types.specs.OperationSet.{Node, OperationSet, AllWellFormed}
use Rattle.bg_types.specs.declared.op.Place.{Place}
use Rattle.bg_types.specs.declared.op.Place.TheVariants.{Root, After}
use Rattle.rga_tree.specs.Walk.{Insertions, children, walk_to, walk, walked_ids}
use Rattle.rga_tree.specs.Attached.{IsAttached}
use Rattle.rga_tree.specs.Attached.IsAttached.{below_root, below}
use Rattle.rga_tree.specs.Stretch.{IsChild, StandsBelow, IsUnbroken}
use Rattle.rga_tree.specs.Stretch.StandsBelow.{child, deeper}
use Rattle.rga_tree.proofs.WalkAmong.{Entry}
use Rattle.rga_tree.proofs.PreorderLaw.{walk-preorder}
use Rattle.rga_tree.proofs.Listed.{IsIn, is_listed, all_listed, Contains-listed, listed-contains}
use Rattle.rga_tree.proofs.AttachedWalk.{all_children, all_flat_map, IsIn-children, listed-child, listed-below}

-- ---- the stretch of an identifier

-- the walk from the place has the identifier, and directly after it what stands below it
abbrev pub ReadsBelow : OperationSet → Place → Identifier → Type 0
ReadsBelow s p id = (front : List Entry) × (node : Node) × (back : List Entry) × (walk s p ≡ front ++ ((id, node) ∷ walk s (After id)) ++ back)

pub split_in : (e : Entry) (es : List Entry) → IsIn e es → (l : List Entry) × (r : List Entry) × (es ≡ l ++ e ∷ r)
split_in e [] h = absurd h
split_in e (x ∷ es) (inl h) = ([], es, ap (λ y. y ∷ es) h)
split_in e (x ∷ es) (inr h) = let rest = split_in e es h in (x ∷ rest.0, rest.1, ap (λ r. x ∷ r) rest.2)

pub flat_map_at : (f : Entry → List Entry) (l r : List Entry) (e : Entry) → flat_map f (l ++ e ∷ r) ≡ flat_map f l ++ (f e ++ flat_map f r)
flat_map_at f l r e = flat_map-append f l (e ∷ r) ∙ ap (λ w. flat_map f l ++ w) (flat_map-cons f e r)

-- the walk from a place, by those of its children
abbrev pub child_walk : OperationSet → Entry → List Entry
child_walk s e = e ∷ walk s (After e.0)

pub child_entry : (s : OperationSet) (p : Place) (id : Identifier) (c : IsChild s.ins p id) → IsIn (id, c.0) (children s.ins p)
child_entry s p id c = subst (λ q. IsIn (id, c.0) (children s.ins q)) c.2 (IsIn-children s.ins id c.0 c.1)

reads_child : (s : OperationSet) → AllWellFormed s → (p : Place) (id : Identifier) → IsChild s.ins p id → ReadsBelow s p id
reads_child s well p id c =
    let at = split_in (id, c.0) (children s.ins p) (child_entry s p id c) in
    let f = child_walk s in (
      flat_map f at.0,
      c.0,
      flat_map f at.1,
      walk-preorder s well p ∙ ap (flat_map f) at.2 ∙ flat_map_at f at.0 at.1 (id, c.0) ∙ sym (append_assoc (flat_map f at.0) (f (id, c.0)) (flat_map f at.1)),
    )

-- a stretch in a stretch
nested : (w v u f k g l : List Entry) (e : Entry) → w ≡ f ++ (e ∷ v) ++ k → v ≡ g ++ u ++ l → w ≡ (f ++ e ∷ g) ++ u ++ (l ++ k)
nested w v u f k g l e outer inner =
    outer ∙ ap (λ r. f ++ (e ∷ r) ++ k) inner
    ∙ ap (λ r. r ++ k) (sym (append_assoc f (e ∷ (g ++ u)) l) ∙ ap (λ r. r ++ l) (sym (append_assoc f (e ∷ g) u)))
    ∙ append_assoc ((f ++ e ∷ g) ++ u) l k

pub reads_attached : (s : OperationSet) → AllWellFormed s → {id : Identifier} → IsAttached s.ins id → ReadsBelow s Root id
reads_attached s well (below_root id ch is) = reads_child s well Root id (record { parent = Root; ch = ch }, is, refl)
reads_attached s well (below id parent ch is up) =
    let outer = reads_attached s well up in
    let inner = reads_child s well (After parent) id (record { parent = After parent; ch = ch }, is, refl) in (
      outer.0 ++ (parent, outer.1) ∷ inner.0,
      inner.1,
      inner.2 ++ outer.2,
      nested (walk s Root) (walk s (After parent)) ((id, inner.1) ∷ walk s (After id)) outer.0 outer.2 inner.0 inner.2 (parent, outer.1) outer.3 inner.3,
    )

-- ---- what stands in it

below_step : (ins : Insertions) (top q id : Identifier) → (q ≡ top) ⊎ StandsBelow ins top q → IsChild ins (After q) id → StandsBelow ins top id
below_step ins top q id (inl same) c = child id (subst (λ x. IsChild ins (After x) id) same c)
below_step ins top q id (inr on) c = deeper id q c on

all_below : (s : OperationSet) (top : Identifier) (depth : ℕ) (q : Identifier) → (q ≡ top) ⊎ StandsBelow s.ins top q → AllByRecursion (λ e. StandsBelow s.ins top e.0) (walk_to depth s.ins (After q))
all_below s top zero q on = tt
all_below s top (suc depth) q on =
    let P : Entry → Type 0 = λ e. StandsBelow s.ins top e.0 in
    all_flat_map P (λ e. e ∷ walk_to depth s.ins (After e.0)) (children s.ins (After q))
    (all_children s (After q) (λ e. AllByRecursion P (e ∷ walk_to depth s.ins (After e.0)))
    (λ e held at. let here = below_step s.ins top q e.0 on (e.1, held, at) in (here, all_below s top depth e.0 (inr here))))

pub listed_below : (s : OperationSet) → AllWellFormed s → (top : Identifier) {id : Identifier} → StandsBelow s.ins top id → is_listed id (walk s (After top)) ≡ true
listed_below s well top (child id c) =
    ap (is_listed id) (walk-preorder s well (After top)) ∙ listed-child (map.len s.ins) s.ins (After top) (id, c.0) (child_entry s (After top) id c)
listed_below s well top (deeper id parent c up) =
    ap (is_listed id) (walk-preorder s well (After top)) ∙ listed-below (map.len s.ins) s.ins (After top) parent (id, c.0) (listed_below s well top up) (child_entry s (After parent) id c)

pub below_listed : (s : OperationSet) (top id : Identifier) → is_listed id (walk s (After top)) ≡ true → StandsBelow s.ins top id
below_listed s top id h = all_listed (StandsBelow s.ins top) (walk s (After top)) id (all_below s top (map.len s.ins) top (inl refl)) h

pub reads_ids : (s : OperationSet) (top : Identifier) (r : ReadsBelow s Root top) → walked_ids s ≡ each (λ e. e.0) r.0 ++ (top ∷ each (λ e. e.0) (walk s (After top))) ++ each (λ e. e.0) r.2
reads_ids s top r =
    let ids = each (λ (e : Entry). e.0) in
    let own = (top, r.1) ∷ walk s (After top) in
    ap ids r.3 ∙ map-append (λ (e : Entry). e.0) (r.0 ++ own) r.2 ∙ ap (λ t. t ++ ids r.2) (map-append (λ (e : Entry). e.0) r.0 own)

pub stretch_of : (s : OperationSet) → AllWellFormed s → (top : Identifier) → IsAttached s.ins top → IsUnbroken s top
stretch_of s well top at =
    let r = reads_attached s well at in
    let w = walk s (After top) in
    record {
      front = each (λ e. e.0) r.0;
      below = each (λ e. e.0) w;
      back = each (λ e. e.0) r.2;
      in_order = reads_ids s top r;
      all_below = λ id. (λ c. below_listed s top id (listed-contains id w c), λ b. Contains-listed id w (listed_below s well top b));
    }
