-- A placed leaf makes the walk longer by one.
use Rattle.std.proofs.Common.{◌≡◌, ◌+◌, ℕ, true, false, cond, List, length, refl, ap, ◌∙◌, arith, length-append, length-take, length-drop}
use Rattle.std.specs.Prelude.{insert}
use Rattle.std.specs.FinMap as map
use Rattle.bg_types.specs.WellFormed.{IsWellFormed}
use Rattle.bg_types.specs.OperationSet.{OperationSet, AllWellFormed, with_operation}
use Rattle.bg_types.specs.declared.op.Place.TheVariants.{Root}
use Rattle.bg_types.specs.declared.op.OpView.TheVariants.{Insert, Erase}
use Rattle.rga_tree.specs.declared.element.Element.{Element}
use Rattle.rga_tree.specs.Walk.{walk}
use Rattle.rga_tree.specs.Tree.{stands_in, IsTree}
use Rattle.rga_tree.specs.Elements.{elements, with_element}
use Rattle.rga_tree.specs.Row.{place_of}
use Rattle.rga_tree.proofs.Interface.{walk-leaf_at}
use Rattle.desk_replica.specs.Reply.{attached_count}

pub length-put : {X : Type 0} (xs : List X) (i : ℕ) (x : X) → length (insert xs i x) ≡ length xs + 1
length-put xs i x = simp (length-append, length-take, length-drop) (omega arith)

walk-marked : (t : OperationSet) (e : Element) → walk (with_element t e) Root ≡ walk (with_operation t (Insert e.id e.parent e.ch)) Root
walk-marked t e =
    let s = with_operation t (Insert e.id e.parent e.ch) in
    elim e.hidden as (λ b. walk (cond b (with_operation s (Erase e.id)) s) Root ≡ walk s Root) [ true ↦ refl | false ↦ refl ]

pub walk-placed : (t : OperationSet) (e : Element) → AllWellFormed t → IsTree t → IsWellFormed (Insert e.id e.parent e.ch) → stands_in t e.parent ≡ true → map.contains_key t.ins e.id ≡ false
    → walk (with_element t e) Root ≡ insert (walk t Root) (place_of e.parent e.id (elements t)) (e.id, record { parent = e.parent; ch = e.ch })
walk-placed t e well tree is stands new = walk-marked t e ∙ walk-leaf_at t e.id (record { parent = e.parent; ch = e.ch }) well tree is stands new

pub one_more : (t u : OperationSet) (e : Element) → u ≡ with_element t e → AllWellFormed t → IsTree t → IsWellFormed (Insert e.id e.parent e.ch) → stands_in t e.parent ≡ true → map.contains_key t.ins e.id ≡ false
    → attached_count u ≡ attached_count t + 1
one_more t u e is_u well tree is stands new =
    ap (λ s. length (walk s Root)) is_u ∙ ap length (walk-placed t e well tree is stands new)
    ∙ length-put (walk t Root) (place_of e.parent e.id (elements t)) (e.id, record { parent = e.parent; ch = e.ch })
