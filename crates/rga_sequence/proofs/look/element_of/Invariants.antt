-- What stays true in the loop of `element_of`.
use Rattle.std.proofs.Common.{◌≡◌, ◌+◌, ◌-◌, take, length, get_or, []}
use Rattle.rga_sequence.specs.Blocks.{seen}
use Rattle.rga_sequence.proofs.look.element_of.Given as goal

abbrev pub invariant-loop-left : goal.invariant-loop-left
invariant-loop-left g l =
    let blocks = g.L.Look.blocks in
    record {
      same : blocks l.row ≡ blocks l.fn.row;
      aside : g.L.Look.aside l.row ≡ g.L.Look.aside l.fn.row;
      before : seen (take l.at (get_or (blocks l.fn.row) l.b [])) + l.left ≡ l.k;
      looks : g.L.Look.looked l.row ≡ g.L.Look.looked l.fn.row + l.at;
    }

abbrev pub decreases-loop-left : goal.decreases-loop-left
decreases-loop-left g l = length (get_or (g.L.Look.blocks l.fn.row) l.b []) - l.at
