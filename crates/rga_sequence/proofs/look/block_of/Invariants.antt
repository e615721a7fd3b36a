-- What stays true in the loop of `block_of`.
use Rattle.std.proofs.Common.{◌≡◌, ◌<◌, ◌+◌, ◌-◌, take, length, get_or, []}
use Rattle.rga_sequence.specs.Blocks.{seen, seen_all}
use Rattle.rga_sequence.proofs.look.block_of.Given as goal

abbrev pub invariant-loop-visible : goal.invariant-loop-visible
invariant-loop-visible g l =
    let blocks = g.L.Look.blocks in
    record {
      same : blocks l.row ≡ blocks l.fn.row;
      aside : g.L.Look.aside l.row ≡ g.L.Look.aside l.fn.row;
      there : l.b < length (blocks l.fn.row);
      visible : l.visible ≡ seen (get_or (blocks l.fn.row) l.b []);
      before : seen_all (take l.b (blocks l.fn.row)) + l.left ≡ l.k;
      looks : g.L.Look.looked l.row ≡ g.L.Look.looked l.fn.row + (l.b + 1);
    }

abbrev pub decreases-loop-visible : goal.decreases-loop-visible
decreases-loop-visible g l = length (g.L.Look.blocks l.fn.row) - l.b
