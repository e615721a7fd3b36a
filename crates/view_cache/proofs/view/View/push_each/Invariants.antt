-- What the paragraphs so far made of the rows, the view and the count.
use Rattle.std.proofs.Common.{◌≡◌, ◌≤◌, ◌++◌, take}
use Rattle.view_cache.proofs.Drawing.{so_far, laid_so_far, rows_so_far}
use Rattle.view_cache.proofs.view.View.push_each.Given as goal

abbrev pub invariant-loop-para : goal.invariant-loop-para
invariant-loop-para l = record {
  rows : l.drawn.items ≡ l.fn.drawn.items ++ rows_so_far l.width l.base l.fn.self (take l.para-index l.paragraphs);
  view : l.self ≡ so_far l.width l.base l.fn.self (take l.para-index l.paragraphs);
  laid : l.laid ≡ laid_so_far l.width l.base l.fn.self (take l.para-index l.paragraphs);
  most : l.laid ≤ l.para-index;
}
