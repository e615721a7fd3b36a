-- What the paragraphs so far made of the print, the view and the count.
use Rattle.std.proofs.Common.{◌≡◌, ◌≤◌, ◌++◌, take, flat_map}
use Rattle.std.specs.Rc.{rc_slice_items}
use Rattle.view_cache.proofs.Drawing.{so_far, laid_so_far, print_so_far}
use Rattle.view_cache.proofs.view.View.push_prints.Given as goal

abbrev pub invariant-loop-para : goal.invariant-loop-para
invariant-loop-para l = record {
  print : flat_map rc_slice_items l.parts.items ≡ flat_map rc_slice_items l.fn.parts.items ++ print_so_far l.width l.base l.fn.self (take l.para-index l.paragraphs);
  view : l.self ≡ so_far l.width l.base l.fn.self (take l.para-index l.paragraphs);
  laid : l.anew ≡ laid_so_far l.width l.base l.fn.self (take l.para-index l.paragraphs);
  most : l.anew ≤ l.para-index;
}
