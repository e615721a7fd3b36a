-- Runs of characters that never mix.
use Rattle.std.proofs.Common.{◌≡◌, ◌⊎◌, inl, inr, true, List, [], ◌∷◌, ◌++◌, Some, sym, ap, subst, ◌∙◌, append_assoc}
use Rattle.std.specs.Prelude.{map as each, filter, reverse, Contains}
use Rattle.std.specs.List.{flat_map}
use Rattle.std.specs.declared.cmp.Ordering.TheVariants.{Less}
use Rattle.std.specs.Cmp.{tied_itself}
use Rattle.std.proofs.lemmas.List.{map-append, reverse-append}
use Rattle.std.specs.FinMap as map
use Rattle.bg_types.specs.Identifier.{Identifier, id_cmp, same_id}
use Rattle.bg_types.specs.OperationSet.{Node, OperationSet, AllWellFormed}
use Rattle.bg_types.specs.declared.op.Place.{Place}
use Rattle.bg_types.specs.declared.op.Place.TheVariants.{Root, After}
use Rattle.bg_types.proofs.Interface.{id_cmp-total, same_id-is}
use Rattle.rga_tree.specs.Walk.{Insertions, same_place, children, walk, walked_ids}
use Rattle.rga_tree.specs.Attached.{IsAttached}
use Rattle.rga_tree.specs.Parts.{IsPartOf}
use Rattle.rga_tree.specs.Order.{StandsBefore}
use Rattle.rga_tree.specs.Stretch.{IsChild, StandsBelow, IsRun, IsLeftOf}
use Rattle.rga_tree.specs.Stretch.StandsBelow.{child, deeper}
use Rattle.rga_tree.proofs.WalkAmong.{Entry, Rises}
use Rattle.rga_tree.proofs.PreorderLaw.{walk-preorder}
use Rattle.rga_tree.proofs.Entries.{entries_of, Rises-entries}
use Rattle.rga_tree.proofs.Listed.{IsIn, IsIn-found}
use Rattle.rga_tree.proofs.AttachedWalk.{same_place-itself}
use Rattle.rga_tree.proofs.TreeAttached.{all_in}
use Rattle.rga_tree.proofs.SubWalk.{listed_ids, attached_parent, inserted_part}
use Rattle.rga_tree.proofs.Lines.{Ids, is_among, among_right, among_first, among-contains, place_in, head_is, tail_is, filter_at}
use Rattle.rga_tree.proofs.Below.{child_walk, flat_map_at, split_in, listed_below, below_listed, reads_attached, reads_ids}
use Rattle.std.proofs.lemmas.Bool.{or_cases, or_left, or_right}

-- ---- blocks of a list

-- the first block stands in the list, and after it the second one
abbrev pub AreBlocks : Ids → Ids → Ids → Type 0
AreBlocks ids xs ys = (front : Ids) × (between : Ids) × (back : Ids) × (ids ≡ front ++ (xs ++ (between ++ (ys ++ back))))

AreBlocks-behind : (x : Identifier) (ids xs ys : Ids) → AreBlocks ids xs ys → AreBlocks (x ∷ ids) xs ys
AreBlocks-behind x ids xs ys h = (x ∷ h.0, h.1, h.2, ap (λ r. x ∷ r) h.3)

-- what begins with none of a block begins after it
behind_block : (xs k r rest ys : Ids) (b : Identifier) → xs ++ k ≡ r ++ (b ∷ ys ++ rest) → (is_among b xs ≡ true → ⊥) → (m : Ids) × (k ≡ m ++ (b ∷ ys ++ rest))
behind_block [] k r rest ys b h apart = (r, h)
behind_block (x ∷ xs) k [] rest ys b h apart =
    let here : x ≡ b = head_is x b (xs ++ k) (ys ++ rest) h in
    absurd (apart (subst (λ y. is_among b (y ∷ xs) ≡ true) (sym here) (among_first b xs)))
behind_block (x ∷ xs) k (y ∷ r) rest ys b h apart =
    behind_block xs k r rest ys b (tail_is x y (xs ++ k) (r ++ (b ∷ ys ++ rest)) h) (λ at. apart (among_right b (x ∷ []) xs at))

in_blocks : (ids f k g l xs ys : Ids) (a b : Identifier) → ids ≡ f ++ (a ∷ xs ++ k) → ids ≡ g ++ (b ∷ ys ++ l) → (is_among b (a ∷ xs) ≡ true → ⊥) → (is_among a (b ∷ ys) ≡ true → ⊥)
    → AreBlocks ids (a ∷ xs) (b ∷ ys) ⊎ AreBlocks ids (b ∷ ys) (a ∷ xs)
in_blocks ids [] k g l xs ys a b p q out_b out_a =
    let m = behind_block (a ∷ xs) k g l ys b (sym p ∙ q) out_b in
    inl ([], m.0, l, p ∙ ap (λ r. a ∷ xs ++ r) m.1)
in_blocks ids (x ∷ f) k [] l xs ys a b p q out_b out_a =
    let m = behind_block (b ∷ ys) l (x ∷ f) k xs a (sym q ∙ p) out_a in
    inr ([], m.0, k, q ∙ ap (λ r. b ∷ ys ++ r) m.1)
in_blocks [] (x ∷ f) k (y ∷ g) l xs ys a b p q out_b out_a = absurd cc
in_blocks (z ∷ ids) (x ∷ f) k (y ∷ g) l xs ys a b p q out_b out_a =
    further (in_blocks ids f k g l xs ys a b (tail_is z x ids (f ++ (a ∷ xs ++ k)) p) (tail_is z y ids (g ++ (b ∷ ys ++ l)) q) out_b out_a) where
      further : AreBlocks ids (a ∷ xs) (b ∷ ys) ⊎ AreBlocks ids (b ∷ ys) (a ∷ xs) → AreBlocks (z ∷ ids) (a ∷ xs) (b ∷ ys) ⊎ AreBlocks (z ∷ ids) (b ∷ ys) (a ∷ xs)
      further (inl h) = inl (AreBlocks-behind z ids (a ∷ xs) (b ∷ ys) h)
      further (inr h) = inr (AreBlocks-behind z ids (b ∷ ys) (a ∷ xs) h)

-- each of the first block stands before each of the second
pub before_in_blocks : (ids xs ys : Ids) (x y : Identifier) → AreBlocks ids xs ys → is_among x xs ≡ true → is_among y ys ≡ true → StandsBefore ids x y
before_in_blocks ids xs ys x y h at_x at_y =
    let p = place_in x xs at_x in
    let q = place_in y ys at_y in
    let first : xs ++ (h.1 ++ (ys ++ h.2)) ≡ p.0 ++ (x ∷ p.1 ++ (h.1 ++ (ys ++ h.2))) = ap (λ r. r ++ (h.1 ++ (ys ++ h.2))) p.2 ∙ append_assoc p.0 (x ∷ p.1) (h.1 ++ (ys ++ h.2)) in
    let second : ys ++ h.2 ≡ q.0 ++ (y ∷ q.1 ++ h.2) = ap (λ r. r ++ h.2) q.2 ∙ append_assoc q.0 (y ∷ q.1) h.2 in
    let inner : p.1 ++ (h.1 ++ (ys ++ h.2)) ≡ (p.1 ++ (h.1 ++ q.0)) ++ (y ∷ q.1 ++ h.2) =
    ap (λ r. p.1 ++ (h.1 ++ r)) second ∙ ap (λ r. p.1 ++ r) (sym (append_assoc h.1 q.0 (y ∷ q.1 ++ h.2))) ∙ sym (append_assoc p.1 (h.1 ++ q.0) (y ∷ q.1 ++ h.2)) in
    record {
      front = h.0 ++ p.0;
      between = p.1 ++ (h.1 ++ q.0);
      back = q.1 ++ h.2;
      in_order = h.3 ∙ ap (λ r. h.0 ++ r) (first ∙ ap (λ r. p.0 ++ x ∷ r) inner) ∙ sym (append_assoc h.0 p.0 (x ∷ (p.1 ++ (h.1 ++ q.0)) ++ (y ∷ q.1 ++ h.2)))
          ∙ sym (append_assoc (h.0 ++ p.0) (x ∷ (p.1 ++ (h.1 ++ q.0))) (y ∷ q.1 ++ h.2));
    }

-- ---- runs

through_below : (ins : Insertions) (a b : Identifier) {x : Identifier} → StandsBelow ins a b → StandsBelow ins b x → StandsBelow ins a x
through_below ins a b up (child x c) = deeper x b c up
through_below ins a b up (deeper x p c more) = deeper x p c (through_below ins a b up more)

-- all of a run but its first one stand below that
run_below : (ins : Insertions) (a x : Identifier) (xs : Ids) → IsRun ins (a ∷ xs) → is_among x xs ≡ true → StandsBelow ins a x
run_below ins a x [] run at = absurd cc
run_below ins a x (b ∷ xs) run at = by_place (or_cases (same_id x b) (is_among x xs) at) (run_below ins b x xs run.1) where
  by_place : (same_id x b ≡ true) ⊎ (is_among x xs ≡ true) → (is_among x xs ≡ true → StandsBelow ins b x) → StandsBelow ins a x
  by_place (inl here) more = subst (StandsBelow ins a) (sym (same_id-is x b here)) (child b run.0)
  by_place (inr there) more = through_below ins a b (child b run.0) (more there)

-- the identifiers that the walk reads below one
abbrev ids_below : OperationSet → Identifier → Ids
ids_below s a = each (λ e. e.0) (walk s (After a))

run_in_block : (s : OperationSet) → AllWellFormed s → (a x : Identifier) (xs : Ids) → IsRun s.ins (a ∷ xs) → Contains (a ∷ xs) x → is_among x (a ∷ ids_below s a) ≡ true
run_in_block s well a x xs run at = by_place (or_cases (same_id x a) (is_among x xs) (among-contains x (a ∷ xs) at)) where
  by_place : (same_id x a ≡ true) ⊎ (is_among x xs ≡ true) → is_among x (a ∷ ids_below s a) ≡ true
  by_place (inl here) = or_left (same_id x a) (is_among x (ids_below s a)) here
  by_place (inr there) = or_right (same_id x a) (is_among x (ids_below s a)) (listed_ids x (walk s (After a)) ∙ listed_below s well a (run_below s.ins a x xs run there))

IsLeftOf-blocks : (s : OperationSet) → AllWellFormed s → (a b : Identifier) (xs ys : Ids) → IsRun s.ins (a ∷ xs) → IsRun s.ins (b ∷ ys)
    → AreBlocks (walked_ids s) (a ∷ ids_below s a) (b ∷ ids_below s b) → IsLeftOf s (a ∷ xs) (b ∷ ys)
IsLeftOf-blocks s well a b xs ys run_a run_b blocks x y at_x at_y =
    before_in_blocks (walked_ids s) (a ∷ ids_below s a) (b ∷ ids_below s b) x y blocks (run_in_block s well a x xs run_a at_x) (run_in_block s well b y ys run_b at_y)

-- what differs from a, and is not below it, stands outside its stretch
outside : (s : OperationSet) → AllWellFormed s → (a b : Identifier) → (a ≡ b → ⊥) → (StandsBelow s.ins a b → ⊥) → is_among b (a ∷ ids_below s a) ≡ true → ⊥
outside s well a b differ apart at = by_place (or_cases (same_id b a) (is_among b (ids_below s a)) at) where
  by_place : (same_id b a ≡ true) ⊎ (is_among b (ids_below s a) ≡ true) → ⊥
  by_place (inl here) = differ (sym (same_id-is b a here))
  by_place (inr there) = apart (below_listed s a b (sym (listed_ids b (walk s (After a))) ∙ there))

block_of : (s : OperationSet) → AllWellFormed s → (a : Identifier) → IsAttached s.ins a → (f : Ids) × (k : Ids) × (walked_ids s ≡ f ++ (a ∷ ids_below s a ++ k))
block_of s well a at =
    let r = reads_attached s well at in
    (each (λ e. e.0) r.0, each (λ e. e.0) r.2, reads_ids s a r ∙ append_assoc (each (λ e. e.0) r.0) (a ∷ ids_below s a) (each (λ e. e.0) r.2))

pub runs_apart : (s : OperationSet) → AllWellFormed s → (a b : Identifier) (xs ys : Ids) → IsAttached s.ins a → IsAttached s.ins b → IsRun s.ins (a ∷ xs) → IsRun s.ins (b ∷ ys)
    → (a ≡ b → ⊥) → (StandsBelow s.ins a b → ⊥) → (StandsBelow s.ins b a → ⊥) → IsLeftOf s (a ∷ xs) (b ∷ ys) ⊎ IsLeftOf s (b ∷ ys) (a ∷ xs)
runs_apart s well a b xs ys at_a at_b run_a run_b differ out_b out_a =
    let p = block_of s well a at_a in
    let q = block_of s well b at_b in
    either_left (in_blocks (walked_ids s) p.0 p.1 q.0 q.1 (ids_below s a) (ids_below s b) a b p.2 q.2 (outside s well a b differ out_b) (outside s well b a (λ e. differ (sym e)) out_a)) where
      either_left : AreBlocks (walked_ids s) (a ∷ ids_below s a) (b ∷ ids_below s b) ⊎ AreBlocks (walked_ids s) (b ∷ ids_below s b) (a ∷ ids_below s a)
          → IsLeftOf s (a ∷ xs) (b ∷ ys) ⊎ IsLeftOf s (b ∷ ys) (a ∷ xs)
      either_left (inl h) = inl (IsLeftOf-blocks s well a b xs ys run_a run_b h)
      either_left (inr h) = inr (IsLeftOf-blocks s well b a ys xs run_b run_a h)

-- ---- runs after one place

one_way : (a b : Identifier) → id_cmp a b ≡ Less → id_cmp b a ≡ Less → ⊥
one_way a b lt gt = let o : id_cmp a a ≡ Less = id_cmp-total.trans a b a lt gt in let t = tied_itself id_cmp-total a in absurd cc

abbrev Apart : List Entry → Entry → Entry → Type 0
Apart es x y = (l : List Entry) × (m : List Entry) × (r : List Entry) × (es ≡ l ++ x ∷ (m ++ y ∷ r))

-- of two that stand among rising insertions the lower one stands first
in_rising : (x y : Entry) (es : List Entry) → Rises es → id_cmp x.0 y.0 ≡ Less → IsIn x es → IsIn y es → Apart es x y
in_rising x y [] rises lt at_x at_y = absurd at_x
in_rising x y (z ∷ es) rises lt (inl p) (inl q) = let same : id_cmp y.0 y.0 ≡ Less = subst (λ (e : Entry). id_cmp e.0 y.0 ≡ Less) (sym p ∙ q) lt in absurd (one_way y.0 y.0 same same)
in_rising x y (z ∷ es) rises lt (inl p) (inr at_y) = let at = split_in y es at_y in ([], at.0, at.1, (λ i. p i ∷ at.2 i))
in_rising x y (z ∷ es) rises lt (inr at_x) (inl q) = absurd (one_way x.0 y.0 lt (subst (λ (e : Entry). id_cmp e.0 x.0 ≡ Less) q (all_in (λ e. id_cmp z.0 e.0 ≡ Less) es x rises.0 at_x)))
in_rising x y (z ∷ es) rises lt (inr at_x) (inr at_y) = let rest = in_rising x y es rises.1 lt at_x at_y in (z ∷ rest.0, rest.1, rest.2, ap (λ r. z ∷ r) rest.3)

reverse_at : (l r : List Entry) (x : Entry) → reverse (l ++ x ∷ r) ≡ reverse r ++ x ∷ reverse l
reverse_at l r x = reverse-append l (x ∷ r) ∙ ap (λ t. t ++ reverse l) (reverse-append (x ∷ []) r) ∙ append_assoc (reverse r) (x ∷ []) (reverse l)

-- the greater child stands first
greater_first : (s : OperationSet) (p : Place) (a b : Identifier) (c : IsChild s.ins p a) (d : IsChild s.ins p b) → id_cmp b a ≡ Less
    → (l : List Entry) × (m : List Entry) × (r : List Entry) × (children s.ins p ≡ (l ++ (a, c.0) ∷ m) ++ (b, d.0) ∷ r)
greater_first s p a b c d lt =
    let x : Entry = (a, c.0) in
    let y : Entry = (b, d.0) in
    let at = λ (e : Entry). same_place e.1.parent p in
    let passes : (node : Node) → node.parent ≡ p → same_place node.parent p ≡ true = λ node is. ap (λ q. same_place q p) is ∙ same_place-itself p in
    let h = in_rising y x (entries_of s) (Rises-entries s) lt (held_in s b d.0 d.1) (held_in s a c.0 c.1) in (
      reverse (filter at h.2),
      reverse (filter at h.1),
      reverse (filter at h.0),
      ap (λ es. reverse (filter at es)) h.3
          ∙ ap reverse (filter_at at h.0 (h.1 ++ x ∷ h.2) y (passes d.0 d.2) ∙ ap (λ r. filter at h.0 ++ y ∷ r) (filter_at at h.1 h.2 x (passes c.0 c.2)))
          ∙ reverse_at (filter at h.0) (filter at h.1 ++ x ∷ filter at h.2) y ∙ ap (λ r. r ++ y ∷ reverse (filter at h.0)) (reverse_at (filter at h.1) (filter at h.2) x),
    ) where
      held_in : (s : OperationSet) (id : Identifier) (node : Node) → map.get s.ins id ≡ Some node → IsIn (id, node) (entries_of s)
      held_in s id node is = IsIn-found id node (entries_of s) (sym (map.get-entries s.ins id) ∙ is)

abbrev ids : List Entry → Ids
ids es = each (λ e. e.0) es

children_blocks : (s : OperationSet) → AllWellFormed s → (p : Place) (a b : Identifier) → IsChild s.ins p a → IsChild s.ins p b → id_cmp b a ≡ Less
    → AreBlocks (ids (walk s p)) (a ∷ ids_below s a) (b ∷ ids_below s b)
children_blocks s well p a b c d lt =
    let h = greater_first s p a b c d lt in
    let f = child_walk s in
    let x = f (a, c.0) in
    let y = f (b, d.0) in
    let l = flat_map f h.0 in
    let m = flat_map f h.1 in
    let r = flat_map f h.2 in
    let split : walk s p ≡ l ++ (x ++ (m ++ (y ++ r))) =
    walk-preorder s well p ∙ ap (flat_map f) h.3 ∙ flat_map_at f (h.0 ++ (a, c.0) ∷ h.1) h.2 (b, d.0) ∙ ap (λ t. t ++ (y ++ r)) (flat_map_at f h.0 h.1 (a, c.0))
    ∙ append_assoc l (x ++ m) (y ++ r) ∙ ap (λ t. l ++ t) (append_assoc x m (y ++ r)) in (
      ids l,
      ids m,
      ids r,
      ap ids split ∙ map-append (λ (e : Entry). e.0) l (x ++ (m ++ (y ++ r))) ∙ ap (λ t. ids l ++ t) (map-append (λ (e : Entry). e.0) x (m ++ (y ++ r))
          ∙ ap (λ t. ids x ++ t) (map-append (λ (e : Entry). e.0) m (y ++ r) ∙ ap (λ t. ids m ++ t) (map-append (λ (e : Entry). e.0) y r))),
    )

-- blocks of a piece are blocks of the whole
blocks_within : (all f w k xs ys : Ids) (q : Identifier) → all ≡ f ++ (q ∷ w ++ k) → AreBlocks w xs ys → AreBlocks all xs ys
blocks_within all f w k xs ys q is h =
    let inner : w ++ k ≡ h.0 ++ (xs ++ (h.1 ++ (ys ++ (h.2 ++ k)))) =
    ap (λ t. t ++ k) h.3 ∙ append_assoc h.0 (xs ++ (h.1 ++ (ys ++ h.2))) k ∙ ap (λ t. h.0 ++ t) (append_assoc xs (h.1 ++ (ys ++ h.2)) k
    ∙ ap (λ t. xs ++ t) (append_assoc h.1 (ys ++ h.2) k ∙ ap (λ t. h.1 ++ t) (append_assoc ys h.2 k))) in
    (f ++ q ∷ h.0, h.1, h.2 ++ k, is ∙ ap (λ t. f ++ q ∷ t) inner ∙ sym (append_assoc f (q ∷ h.0) (xs ++ (h.1 ++ (ys ++ (h.2 ++ k))))))

place_blocks : (s : OperationSet) → AllWellFormed s → (p : Place) (a b : Identifier) → IsAttached s.ins a → IsChild s.ins p a → IsChild s.ins p b → id_cmp b a ≡ Less
    → AreBlocks (walked_ids s) (a ∷ ids_below s a) (b ∷ ids_below s b)
place_blocks s well Root a b at c d lt = children_blocks s well Root a b c d lt
place_blocks s well (After q) a b at c d lt =
    let h = block_of s well q (attached_parent s s q a c.0 (λ _ _ h. h) c.1 c.2 at) in
    blocks_within (walked_ids s) h.0 (ids_below s q) h.1 (a ∷ ids_below s a) (b ∷ ids_below s b) q h.2 (children_blocks s well (After q) a b c d lt)

pub runs_at_one_place : (s : OperationSet) → AllWellFormed s → (place : Place) (a b : Identifier) (xs ys : Ids) → IsAttached s.ins a → IsAttached s.ins b
    → IsChild s.ins place a → IsChild s.ins place b → IsRun s.ins (a ∷ xs) → IsRun s.ins (b ∷ ys) → id_cmp b a ≡ Less → IsLeftOf s (a ∷ xs) (b ∷ ys)
runs_at_one_place s well place a b xs ys at_a at_b c d run_a run_b lt =
    IsLeftOf-blocks s well a b xs ys run_a run_b (place_blocks s well place a b at_a c d lt)

-- ---- runs of a part

IsChild-more : (s t : OperationSet) → IsPartOf s t → (p : Place) (id : Identifier) → IsChild s.ins p id → IsChild t.ins p id
IsChild-more s t part p id c = (c.0, inserted_part s t part id c.0 c.1, c.2)

pub IsRun-more : (s t : OperationSet) → IsPartOf s t → (ids : Ids) → IsRun s.ins ids → IsRun t.ins ids
IsRun-more s t part [] run = tt
IsRun-more s t part (a ∷ []) run = tt
IsRun-more s t part (a ∷ b ∷ ids) run = (IsChild-more s t part (After a) b run.0, IsRun-more s t part (b ∷ ids) run.1)
