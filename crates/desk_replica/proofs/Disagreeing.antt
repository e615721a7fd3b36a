-- Where two desks keep an identifier with another parent or character.
use Rattle.std.proofs.Common.{◌≡◌, ◌<◌, ◌++◌, ◌+◌, ℕ, List, [], ◌∷◌, length, take, get_or, true, Some, sym, ap, subst, ◌∙◌, is_some}
use Rattle.std.specs.Prelude.{◌||◌, All, Contains, slice_get}
use Rattle.std.proofs.lemmas.List.Elements.{All-append, All-cons, All-get_or, All-head, All-nil, All-tail, Contains-append_left, Contains-append_right, Contains-get_or}
use Rattle.std.proofs.lemmas.Option.{get_or_from_slice_get, slice_get-get_or, slice_get_within}
use Rattle.std.specs.FinMap as map
use Rattle.std.specs.FinSet as set
use Rattle.bg_types.specs.WellFormed.{MayFollow}
use Rattle.bg_types.specs.OperationSet.{OperationSet, AllWellFormed, Agree, Holds, MayJoin, ReusesIdentifier, size, union}
use Rattle.bg_types.specs.declared.op.OpView.{OpView}
use Rattle.bg_types.specs.declared.op.OpView.TheVariants.{Insert, Erase}
use Rattle.bg_types.proofs.Interface.{Holds-may_join, get-union, unwrap_first}
use Rattle.rga_tree.specs.declared.element.Element.{Element}
use Rattle.rga_tree.specs.Elements.{elements, element_of}
use Rattle.rga_tree.proofs.Interface.{IsAttached-tree, listed-attached}
use Rattle.pending_ops.specs.Waiting.{Waiting, ListsOnce}
use Rattle.desk_replica.specs.Desk.{insertion_of}
use Rattle.desk_replica.specs.Placement.{IsSettled, waiting_in, whole}
use Rattle.desk_replica.specs.Merging.{Disagree, ReusesIn}
use Rattle.desk_replica.proofs.Whole.{contains-union, which}
use Rattle.desk_replica.proofs.Settled.{in_whole}
use Rattle.desk_replica.proofs.Admitting.{IsContent}
use Rattle.desk_replica.proofs.ElementPlaces.{element_at, element_for, follows_parent}
use Rattle.desk_replica.proofs.InTurn.{joined, joined_split, rest_from, take_behind}
use Rattle.desk_replica.proofs.Lists.{slice_get-take}
use Rattle.desk_replica.specs.Listed.{insertions_in}
use Rattle.desk_replica.proofs.Listed.{late_kept}
use Rattle.desk_replica.proofs.Merges.{agree_of, disagree_of}

-- ---- parts

pub part_contains : (parts : List (List Element)) (p : ℕ) (row all : List Element) (e : Element) → p < length parts → row ≡ get_or parts p [] → joined parts ≡ all → Contains row e → Contains all e
part_contains parts p row all e within is same h =
    let before = joined (take p parts) in
    subst (λ l. Contains l e) (sym (joined_split parts p row within is) ∙ same) (Contains-append_left (before ++ row) _ e (Contains-append_right before row e h))

-- each element of a part may follow its parent
pub part_follows : (t : OperationSet) (parts : List (List Element)) (p : ℕ) (row : List Element) → AllWellFormed t → joined parts ≡ elements t → p < length parts → row ≡ get_or parts p []
    → All (λ e. MayFollow e.parent e.id) row
part_follows t parts p row well all within is = λ k d lt.
    let e = get_or row k d in
    let h = part_contains parts p row (elements t) e within is all (Contains-get_or row k d lt) in
    follows_parent t h.0 e well (slice_get-get_or (elements t) h.0 e h.1 ∙ ap (λ (x : Element). Some x) h.2)

-- ---- the elements of a tree

pub disagree_placed : (s t : OperationSet) → ReusesIn s (elements t) → Disagree s t
disagree_placed s t h =
    let e = h.0 in
    let at = h.1 in
    let x = element_at t at.0 e (slice_get-get_or (elements t) at.0 e at.1 ∙ ap (λ (y : Element). Some y) at.2) in
    disagree_of s t (insertion_of e) h.2 (subst (λ (y : Element). Holds t (insertion_of y)) x.1.1 x.1.0)

-- what made an element of the tree is kept, whatever waits
pub placed_kept : (t h : OperationSet) (e : Element) → Contains (elements t) e → Holds (union t h) (insertion_of e)
placed_kept t h e at =
    let x = element_at t at.0 e (slice_get-get_or (elements t) at.0 e at.1 ∙ ap (λ (y : Element). Some y) at.2) in
    subst (λ (y : Element). Holds (union t h) (insertion_of y)) x.1.1 (get-union t h x.0.0 ∙ ap (λ o. unwrap_first o (map.get h.ins x.0.0)) x.1.0)

-- and the deletion that hides it
pub hidden_kept : (t h : OperationSet) (e : Element) → Contains (elements t) e → e.hidden ≡ true → Holds (union t h) (Erase e.id)
hidden_kept t h e at hidden =
    let x = element_at t at.0 e (slice_get-get_or (elements t) at.0 e at.1 ∙ ap (λ (y : Element). Some y) at.2) in
    let erased : set.contains t.del x.0.0 ≡ true = ap (λ (y : Element). y.hidden) x.1.1 ∙ hidden in
    subst (λ (y : Element). Holds (union t h) (Erase y.id)) x.1.1 (contains-union t h x.0.0 ∙ ap (λ b. b || set.contains h.del x.0.0) erased)

pub agree_placed : (s t : OperationSet) → IsContent t → All (λ e. MayJoin s (insertion_of e)) (elements t) → Agree s t
agree_placed s t c all id a b in_s in_t =
    let e = element_of t (id, b) in
    let f = element_for t id b (listed-attached t id c.well (IsAttached-tree t id c.well c.tree (ap is_some in_t))) in_t in
    let at = All-get_or (λ (x : Element). MayJoin s (insertion_of x)) (elements t) f.0 e (slice_get_within (elements t) f.0 e f.1) all in
    subst (λ (x : Element). MayJoin s (insertion_of x)) (get_or_from_slice_get (elements t) f.0 e e f.1) at a in_s

-- ---- a row

-- insertions that are known may join
pub known_joins : (s : OperationSet) (xs : List Element) → All (Holds s) (insertions_in xs) → All (λ e. MayJoin s (insertion_of e)) xs
known_joins s [] all = All-nil (λ (e : Element). MayJoin s (insertion_of e))
known_joins s (e ∷ xs) all = All-cons (λ (x : Element). MayJoin s (insertion_of x)) e xs (Holds-may_join s (insertion_of e) (All-head (Holds s) (insertion_of e) (insertions_in xs) all))
    (known_joins s xs (All-tail (Holds s) (insertion_of e) (insertions_in xs) all))

-- behind those that may, too
pub known_join : (s : OperationSet) (row : List Element) (j n : ℕ) → All (λ e. MayJoin s (insertion_of e)) (take j row) → All (Holds s) (insertions_in (take n (rest_from row j)))
    → All (λ e. MayJoin s (insertion_of e)) (take (j + n) row)
known_join s row j n front known =
    let may = λ (e : Element). MayJoin s (insertion_of e) in
    subst (All may) (sym (take_behind row j n)) (All-append may (take j row) _ front (known_joins s (take n (rest_from row j)) known))

-- ---- what waits

pub waiting_at : (w : Waiting) (j : ℕ) (op : OpView) → slice_get w.listed j ≡ Some op → j < size w.held → (j < length (waiting_in w)) × (op ≡ get_or (waiting_in w) j op)
waiting_at w j op h within =
    let at = slice_get-take w.listed (size w.held) j within ∙ h in
    (slice_get_within (waiting_in w) j op at, sym (get_or_from_slice_get (waiting_in w) j op op at))

pub disagree_waiting : (s : OperationSet) (w : Waiting) (j : ℕ) (op : OpView) → ListsOnce w.held (waiting_in w) → slice_get w.listed j ≡ Some op → j < size w.held → ReusesIdentifier s op → Disagree s w.held
disagree_waiting s w j op lists h within reused = disagree_of s w.held op reused ((lists.each op).1 (j, slice_get-take w.listed (size w.held) j within ∙ h))

pub agree_waiting : (s : OperationSet) (w : Waiting) → ListsOnce w.held (waiting_in w) → All (MayJoin s) (waiting_in w) → Agree s w.held
agree_waiting s w lists all = agree_of s w.held (λ op h.
    let f = (lists.each op).0 h in
    subst (MayJoin s) (get_or_from_slice_get (waiting_in w) f.0 op op f.1) (All-get_or (MayJoin s) (waiting_in w) f.0 op (slice_get_within (waiting_in w) f.0 op f.1) all))

-- ---- both

module _ (s t : OperationSet) (w : Waiting) (c : IsContent t) (d : IsSettled t w) where
  pub disagree_first : Disagree s t → Disagree s (whole t w)
  disagree_first h = record { id = h.id; one = h.one; other = h.other; in_s = h.in_s; differ = h.differ; in_t = in_whole t w.held c.well d.well_formed c.tree c.only d.parted h.id h.other h.in_t }

  pub disagree_second : Disagree s w.held → Disagree s (whole t w)
  disagree_second h = record { id = h.id; one = h.one; other = h.other; in_s = h.in_s; differ = h.differ; in_t = late_kept t w d (Insert h.id h.other.parent h.other.ch) h.in_t }

  pub agree_both : Agree s t → Agree s w.held → Agree s (whole t w)
  agree_both first second id a b in_s in_t = which (map.get t.ins id) (map.get w.held.ins id) b _ (sym (get-union t w.held id) ∙ in_t) (λ e. first id a b in_s e) (λ _ e. second id a b in_s e)
