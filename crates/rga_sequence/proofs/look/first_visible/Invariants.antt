-- What stays true in the loop of `first_visible`.
use Rattle.std.proofs.Common.{◌≡◌, ◌+◌, ◌-◌, take, length, get_or, [], Some}
use Rattle.std.specs.Prelude.{slice_get}
use Rattle.rga_sequence.specs.Blocks.{seen}
use Rattle.rga_sequence.proofs.look.first_visible.Given as goal

abbrev pub invariant-loop-element : goal.invariant-loop-element
invariant-loop-element g l =
    let blocks = g.L.Look.blocks in
    record {
      same : blocks l.row ≡ blocks l.fn.row;
      aside : g.L.Look.aside l.row ≡ g.L.Look.aside l.fn.row;
      there : slice_get (get_or (blocks l.fn.row) l.b []) l.at ≡ Some l.element;
      before : seen (take l.at (get_or (blocks l.fn.row) l.b [])) ≡ seen (take l.from (get_or (blocks l.fn.row) l.b []));
      looks : g.L.Look.looked l.row + l.from ≡ g.L.Look.looked l.fn.row + (l.at + 1);
    }

abbrev pub decreases-loop-element : goal.decreases-loop-element
decreases-loop-element g l = length (get_or (g.L.Look.blocks l.fn.row) l.b []) - l.at
