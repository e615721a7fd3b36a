-- What a desk is to its callers.
use Rattle.std.specs.Prelude.{ℕ, List, [], refl}
use Rattle.std.specs.Coded.{Coded, code_by, coded×, coded_ℕ, coded_list}
use Rattle.std.specs.FinMap as map
use Rattle.std.specs.FinSet as set
use Rattle.bg_types.specs.Identifier.{id_cmp}
use Rattle.bg_types.specs.OperationSet.{Node, OperationSet, no_operations}
use Rattle.bg_types.specs.declared.op.OpView.{OpView}
use Rattle.bg_types.specs.declared.op.OpView.TheVariants.{Insert}
use Rattle.rga_tree.specs.declared.element.Element.{Element}
use Rattle.pending_ops.specs.Code.{coded_identifier, coded_node, coded_operation}

-- set: the operations that the desk has. site: who types at it. waiting: those of the set that
-- are not in the tree yet, in some order. spare: how many new operations take no memory
pub record Desk : Type 0 where
  pub set : OperationSet
  pub site : ℕ
  pub waiting : List OpView
  pub spare : ℕ

abbrev pub fresh : ℕ → Desk
fresh site = record { set = no_operations; site = site; waiting = []; spare = 0 }

abbrev pub insertion_of : Element → OpView
insertion_of e = Insert e.id e.parent e.ch

abbrev pub coded_desk : Coded Desk
coded_desk =
    code_by (map.FinMap id_cmp Node × (set.FinSet id_cmp × (ℕ × (List OpView × ℕ))))
    (coded× (map.code coded_identifier coded_node) (coded× (set.code coded_identifier) (coded× coded_ℕ (coded× (coded_list coded_operation) coded_ℕ))))
    (λ d. (d.set.ins, (d.set.del, (d.site, (d.waiting, d.spare)))))
    (λ p. record { set = record { ins = p.0; del = p.1.0 }; site = p.1.1.0; waiting = p.1.1.1.0; spare = p.1.1.1.1 }) (λ _. refl)
