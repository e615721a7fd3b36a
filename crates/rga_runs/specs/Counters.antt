-- The counters of elements.
use Rattle.std.specs.Prelude.{ℕ, Bool, not, List, nat_lt}
use Rattle.std.specs.List.{list_all}
use Rattle.rga_tree.specs.declared.element.Element.{Element}

-- no element has a greater counter
abbrev pub are_up_to : ℕ → List Element → Bool
are_up_to n es = list_all (λ e. not (nat_lt n e.id.counter)) es
