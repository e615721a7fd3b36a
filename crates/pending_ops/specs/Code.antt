-- What is held as data, by which a proof distinguishes two of them.
use Rattle.std.specs.Prelude.{◌≡◌, ℕ, Option, Some, None, List, refl}
use Rattle.std.specs.Coded.{Coded, code_by, coded×, coded_ℕ, coded_option, coded_list}
use Rattle.std.specs.FinMap as map
use Rattle.std.specs.FinSet as set
use Rattle.bg_types.specs.Identifier.{Identifier, id_cmp}
use Rattle.bg_types.specs.OperationSet.{Node}
use Rattle.bg_types.specs.declared.op.Place.{Place}
use Rattle.bg_types.specs.declared.op.Place.TheVariants.{Root, After}
use Rattle.bg_types.specs.declared.op.OpView.{OpView}
use Rattle.bg_types.specs.declared.op.OpView.TheVariants.{Insert, Erase}
use Rattle.pending_ops.specs.Waiting.{Waiting}

abbrev pub coded_identifier : Coded Identifier
coded_identifier = code_by (ℕ × ℕ) (coded× coded_ℕ coded_ℕ) (λ i. (i.counter, i.site)) (λ p. record { counter = p.0; site = p.1 }) (λ _. refl)

abbrev pub place_out : Place → Option Identifier
place_out Root = None
place_out (After id) = Some id

abbrev pub place_in : Option Identifier → Place
place_in None = Root
place_in (Some id) = After id

pub place_in-place_out : (p : Place) → place_in (place_out p) ≡ p
place_in-place_out Root = refl
place_in-place_out (After id) = refl

abbrev pub coded_place : Coded Place
coded_place = code_by (Option Identifier) (coded_option coded_identifier) place_out place_in place_in-place_out

abbrev pub coded_node : Coded Node
coded_node = code_by (Place × ℕ) (coded× coded_place coded_ℕ) (λ n. (n.parent, n.ch)) (λ p. record { parent = p.0; ch = p.1 }) (λ _. refl)

abbrev pub operation_out : OpView → Identifier × Option Node
operation_out (Insert id parent ch) = (id, Some (record { parent = parent; ch = ch }))
operation_out (Erase target) = (target, None)

abbrev pub operation_with : Identifier → Option Node → OpView
operation_with id None = Erase id
operation_with id (Some node) = Insert id node.parent node.ch

pub operation_with-operation_out : (op : OpView) → operation_with (operation_out op).0 (operation_out op).1 ≡ op
operation_with-operation_out (Insert id parent ch) = refl
operation_with-operation_out (Erase target) = refl

abbrev pub coded_operation : Coded OpView
coded_operation = code_by (Identifier × Option Node) (coded× coded_identifier (coded_option coded_node)) operation_out (λ p. operation_with p.0 p.1) operation_with-operation_out

abbrev pub coded_waiting : Coded Waiting
coded_waiting =
    code_by (map.FinMap id_cmp Node × (set.FinSet id_cmp × (set.FinSet id_cmp × (List OpView × ℕ))))
    (coded× (map.code coded_identifier coded_node) (coded× (set.code coded_identifier) (coded× (set.code coded_identifier) (coded× (coded_list coded_operation) coded_ℕ))))
    (λ w. (w.held.ins, (w.held.del, (w.released, (w.listed, w.room)))))
    (λ p. record { held = record { ins = p.0; del = p.1.0 }; released = p.1.1.0; listed = p.1.1.1.0; room = p.1.1.1.1 }) (λ _. refl)
