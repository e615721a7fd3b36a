-- The runs are the pieces from left to right.
use Rattle.std.proofs.Common.{arith}
use Rattle.cell_grid.specs.Pieces.{columns_of}
use Rattle.cell_grid.proofs.PieceCuts.{sum-columns}
use Rattle.cell_grid.proofs.PieceEntries.{length-spans, few-pieces}
use Rattle.cell_grid.proofs.PieceRows.{kept-arranged, row-arranged}
use Rattle.cell_grid.proofs.Sides.{start-fits}
use Rattle.cell_grid.proofs.row.Row.of_pieces.Goals as goal

pub end_column-requires : goal.end_column-requires
end_column-requires c = let room = c.requires.room in let wide = c.requires.width in omega arith

pub start_column-start-requires : goal.start_column-start-requires
start_column-start-requires c = let end = c.end_column.ensures in let room = c.requires.room in omega arith

pub arranged-requires : goal.arranged-requires
arranged-requires c =
    let few = few-pieces c.args.pieces.now in
    let n = length-spans c.args.pieces.now in
    let many = c.requires.count in
    let most = c.requires.most in
    omega arith

pub invariant_of-result : goal.invariant_of-result
invariant_of-result c =
    let pieces = c.args.pieces.now in
    let end = c.end_column.ensures in
    let wide = sum-columns pieces in
    let start = c.start_column-start.ensures (columns_of pieces) (omega arith) in
    let room = c.requires.room in
    let fits = start-fits c.args.width c.args.para_level (columns_of pieces) (omega arith) in
    kept-arranged c.laws_below.ensures pieces c.in_ok-runs.runs.items c.in_ok-runs.ensures c.args.width c.start_column-start.result c.args.count c.requires.reach (omega arith)
    c.requires.width c.requires.count c.requires.most

pub returns : goal.returns
returns c =
    let pieces = c.args.pieces.now in
    let end = c.end_column.ensures in
    let wide = sum-columns pieces in
    row-arranged c.laws_below.ensures pieces c.in_ok-runs.runs.items c.in_ok-runs.ensures c.args.width c.start_column-start.result c.args.para_level c.args.whole c.requires.whole
    (c.start_column-start.ensures (columns_of pieces) (omega arith))
