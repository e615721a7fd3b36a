-- What is kept at an identifier, from what the tree and the store answer.
use Rattle.std.proofs.Common.{◌≡◌, ◌≢◌, Bool, true, false, Option, Some, None, refl, sym, ap, subst, ◌∙◌, is_some, true≢false}
use Rattle.std.specs.Prelude.{◌||◌}
use Rattle.std.specs.Option.{option_map}
use Rattle.std.specs.FinMap as map
use Rattle.std.specs.FinSet as set
use Rattle.bg_types.specs.Identifier.{Identifier}
use Rattle.bg_types.specs.OperationSet.{Node, OperationSet, Holds, MayJoin, ReusesIdentifier, AllWellFormed, union}
use Rattle.bg_types.specs.WellFormed.{MayFollow}
use Rattle.bg_types.specs.declared.op.Place.{Place}
use Rattle.bg_types.specs.declared.op.OpView.{OpView}
use Rattle.bg_types.specs.declared.op.OpView.TheVariants.{Insert}
use Rattle.bg_types.proofs.Interface.{get-union, unwrap_first}
use Rattle.rga_tree.specs.declared.element.Element.{Element}
use Rattle.rga_tree.specs.Tree.{OnlyErasesPlaced}
use Rattle.rga_tree.specs.Elements.{element_of}
use Rattle.desk_replica.specs.Placement.{IsParted}
use Rattle.desk_replica.proofs.Whole.{contains-union, or_false}

abbrev op_at : Identifier → Node → OpView
op_at q n = Insert q n.parent n.ch

not_there : (s : OperationSet) (q : Identifier) → (b : Bool) → set.contains s.del q ≡ b → (b ≡ true → ⊥) → set.contains s.del q ≡ false
not_there s q true e f = absurd (f refl)
not_there s q false e f = e

-- the element with an identifier, if one is placed
abbrev IsElement : OperationSet → Identifier → Option Element → Type 0
IsElement t q o = o ≡ option_map (λ (n : Node). element_of t (q, n)) (map.get t.ins q)

-- it is there, with this node
found : (t : OperationSet) (q : Identifier) (e : Element) → IsElement t q (Some e) → (n : Node) × ((map.get t.ins q ≡ Some n) × (e ≡ element_of t (q, n)))
found t q e is = by (map.get t.ins q) refl is
  where
    by : (o : Option Node) → map.get t.ins q ≡ o → Some e ≡ option_map (λ (n : Node). element_of t (q, n)) o → (n : Node) × ((map.get t.ins q ≡ Some n) × (e ≡ element_of t (q, n)))
    by None g h = absurd cc
    by (Some n) g h = let same : e ≡ element_of t (q, n) = cc in (n, (g, same))

missing : (t : OperationSet) (q : Identifier) → IsElement t q None → map.get t.ins q ≡ None
missing t q is = by (map.get t.ins q) refl is
  where
    by : (o : Option Node) → map.get t.ins q ≡ o → None ≡ option_map (λ (n : Node). element_of t (q, n)) o → map.get t.ins q ≡ None
    by None g h = g
    by (Some n) g h = absurd cc

pub mark-placed : (t h : OperationSet) (q : Identifier) (e : Element) → IsParted t h (λ _. false) → IsElement t q (Some e) → e.hidden ≡ set.contains (union t h).del q
mark-placed t h q e d is =
    let f = found t q e is in
    ap (λ (x : Element). x.hidden) f.1.1 ∙ sym (contains-union t h q ∙ or_false (set.contains t.del q) (set.contains h.del q) (d.early q (ap is_some f.1.0)))

pub mark-missing : (t h : OperationSet) (q : Identifier) → OnlyErasesPlaced t → IsElement t q None → set.contains h.del q ≡ set.contains (union t h).del q
mark-missing t h q only is =
    let gone = not_there t q (set.contains t.del q) refl (λ e. true≢false (sym (only q e) ∙ ap is_some (missing t q is))) in
    sym (contains-union t h q ∙ ap (λ b. b || set.contains h.del q) gone)

pub kept-placed : (t h : OperationSet) (q : Identifier) (e : Element) → IsElement t q (Some e) → Some (Insert e.id e.parent e.ch) ≡ option_map (op_at q) (map.get (union t h).ins q)
kept-placed t h q e is =
    let f = found t q e is in
    ap (λ (x : Element). Some (Insert x.id x.parent x.ch)) f.1.1 ∙ sym (ap (option_map (op_at q)) (get-union t h q ∙ ap (λ o. unwrap_first o (map.get h.ins q)) f.1.0))

pub kept-missing : (t h : OperationSet) (q : Identifier) → IsElement t q None → option_map (op_at q) (map.get h.ins q) ≡ option_map (op_at q) (map.get (union t h).ins q)
kept-missing t h q is = ap (option_map (op_at q)) (sym (get-union t h q ∙ ap (λ o. unwrap_first o (map.get h.ins q)) (missing t q is)))

-- ---- how an insertion stands to what is kept

abbrev IsKept : OperationSet → Identifier → Option OpView → Type 0
IsKept s q o = o ≡ option_map (op_at q) (map.get s.ins q)

pub new-insertion : (s : OperationSet) (q : Identifier) (parent : Place) (ch : _) → IsKept s q None → MayJoin s (Insert q parent ch) × (¬ (Holds s (Insert q parent ch)))
new-insertion s q parent ch is = by (map.get s.ins q) refl is
  where
    by : (o : Option Node) → map.get s.ins q ≡ o → None ≡ option_map (op_at q) o → MayJoin s (Insert q parent ch) × (¬ (Holds s (Insert q parent ch)))
    by None g h = ((λ kept e. absurd (let x : None ≡ Some kept = sym g ∙ e in cc)), (λ e. let x : None ≡ Some (record { parent = parent; ch = ch }) = sym g ∙ e in cc))
    by (Some n) g h = absurd cc

pub known-insertion : (s : OperationSet) (q : Identifier) (op : OpView) → IsKept s q (Some op) → (n : Node) × ((map.get s.ins q ≡ Some n) × (op ≡ op_at q n))
known-insertion s q op is = by (map.get s.ins q) refl is
  where
    by : (o : Option Node) → map.get s.ins q ≡ o → Some op ≡ option_map (op_at q) o → (n : Node) × ((map.get s.ins q ≡ Some n) × (op ≡ op_at q n))
    by None g h = absurd cc
    by (Some n) g h = let same : op ≡ op_at q n = cc in (n, (g, same))

pub reused-insertion : (s : OperationSet) (q : Identifier) (parent : Place) (ch : _) (op : OpView) → IsKept s q (Some op) → op ≢ Insert q parent ch → ReusesIdentifier s (Insert q parent ch)
reused-insertion s q parent ch op is apart =
    let k = known-insertion s q op is in
    (k.0, k.1.0, λ same. apart (k.1.1 ∙ ap (op_at q) same))

pub may_follow : (t : OperationSet) (q : Identifier) (e : Element) → AllWellFormed t → IsElement t q (Some e) → MayFollow e.parent e.id
may_follow t q e well is =
    let f = found t q e is in
    subst (λ (x : Element). MayFollow x.parent x.id) (sym f.1.1) (well (Insert q f.0.parent f.0.ch) f.1.0).1
