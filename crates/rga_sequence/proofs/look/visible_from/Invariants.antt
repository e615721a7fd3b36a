-- What stays true in the loop of `visible_from`.
use Rattle.std.proofs.Common.{◌≡◌, ◌+◌, take, get_or, [], Some, false}
use Rattle.std.specs.Prelude.{slice_get}
use Rattle.rga_sequence.specs.Blocks.{seen}
use Rattle.rga_sequence.proofs.look.visible_from.Given as goal

abbrev pub invariant-loop : goal.invariant-loop
invariant-loop g l =
    let blocks = g.L.Look.blocks in
    record {
      same : blocks l.row ≡ blocks l.fn.row;
      aside : g.L.Look.aside l.row ≡ g.L.Look.aside l.fn.row;
      there : slice_get (get_or (blocks l.fn.row) l.b []) l.found.0 ≡ Some l.found.1;
      visible : l.found.1.hidden ≡ false;
      before : seen (take l.found.0 (get_or (blocks l.fn.row) l.b [])) ≡ seen (take l.from (get_or (blocks l.fn.row) l.b [])) + l.counter;
      looks : g.L.Look.looked l.row + l.from ≡ g.L.Look.looked l.fn.row + (l.found.0 + 1);
    }
