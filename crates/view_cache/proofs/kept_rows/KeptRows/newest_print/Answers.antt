-- The print that is kept, or one that is made of the rows and kept.
use Rattle.std.proofs.Common.{◌≡◌, All, Some, sym, ap, subst, ◌∙◌}
use Rattle.std.specs.Prelude.{IfSome, option_map}
use Rattle.std.specs.Map.Iter.{deref_pair}
use Rattle.std.specs.Rc.{rc_slice_items}
use Rattle.cell_grid.specs.Print.{printed_paragraph}
use Rattle.cell_grid.specs.Printable.{AreSlices}
use Rattle.view_cache.specs.declared.laid.Laid.{Laid}
use Rattle.view_cache.specs.Keys.{ParagraphKey, paragraph_key}
use Rattle.view_cache.specs.KeptParagraphs.{AreLaid, IsLaidBy}
use Rattle.view_cache.specs.Kept.{laid_said}
use Rattle.view_cache.proofs.Kept.{Cache, kept_of, newest-laid, print-made, used-put, keys-same, laid-done}
use Rattle.view_cache.proofs.kept_rows.KeptRows.newest_print.Goals as goal

pub returns-in-Some-clause-print : goal.returns-in-Some-clause-print
returns-in-Some-clause-print c =
    let tables = c.args.tables.now in
    let hash_key = c.self.inside.hash_key in
    let kept = c.self.inside.kept in
    let text = c.args.para.now.text in
    let key = paragraph_key text c.args.width c.args.base in
    let first = sym c.peek_mru.ensures ∙ ap (option_map deref_pair) c.unwrap.ensures in
    let is = newest-laid hash_key kept c.args.self.now c.self.view_is tables key c.requires.laid c.requires.newest (c.unwrap.result.0.now, c.unwrap.result.1.now) first in
    let print = subst (λ o. IfSome (option_map rc_slice_items o) (λ print. print ≡ printed_paragraph tables c.args.width c.args.base text)) c.in-Some.is is.print in
    c.in_ok-clone.ensures.cases ∙ print

pub print_of-requires : goal.print_of-requires
print_of-requires c =
    let tables = c.args.tables.now in
    let hash_key = c.self.inside.hash_key in
    let kept = c.self.inside.kept in
    let text = c.args.para.now.text in
    let key = paragraph_key text c.args.width c.args.base in
    let first = sym c.peek_mru.ensures ∙ ap (option_map deref_pair) c.unwrap.ensures in
    let is = newest-laid hash_key kept c.args.self.now c.self.view_is tables key c.requires.laid c.requires.newest (c.unwrap.result.0.now, c.unwrap.result.1.now) first in
    let same = c.as_slice.ensures.value ∙ c.in_ok-rows.ensures.cases ∙ is.rows in
    subst (λ own. All (AreSlices own) c.as_slice.result.now) (sym c.text.ensures)
    (subst (All (AreSlices text)) (sym same) (c.rows_print_alike.ensures.slices tables c.args.width c.args.base text c.requires.at_least c.requires.para.utf8))

pub returns-in_err-put-clause-laid : goal.returns-in_err-put-clause-laid
returns-in_err-put-clause-laid c =
    let tables = c.args.tables.now in
    subst (λ (m : Cache). AreLaid tables (kept_of c.self.inside.hash_key m)) (sym c.in_err-put.ensures.err) (subst (AreLaid tables) (sym c.self.view_is) c.requires.laid)

pub invariant_of-self-2 : goal.invariant_of-self-2
invariant_of-self-2 c =
    let tables = c.args.tables.now in
    let hash_key = c.self.inside.hash_key in
    let kept = c.self.inside.kept in
    let text = c.args.para.now.text in
    let key = paragraph_key text c.args.width c.args.base in
    let first = sym c.peek_mru.ensures ∙ ap (option_map deref_pair) c.unwrap.ensures in
    let is = newest-laid hash_key kept c.args.self.now c.self.view_is tables key c.requires.laid c.requires.newest (c.unwrap.result.0.now, c.unwrap.result.1.now) first in
    let same = c.as_slice.ensures.value ∙ c.in_ok-rows.ensures.cases ∙ is.rows in
    let print = print-made tables key c.text.result.now c.as_slice.result.now (rc_slice_items c.in_ok-print.print) c.in_ok-print.ensures c.text.ensures same in
    let says = c.in_ok-key.ensures.says ∙ ap (λ t. paragraph_key t c.args.width c.args.base) c.text-2.ensures in
    let laid : Laid = record { rows = c.in_ok-rows.rows; print = Some c.in_ok-shared.shared } in
    let right : IsLaidBy tables (key, laid_said laid) = record { rows = c.in_ok-rows.ensures.cases ∙ is.rows; print = c.in_ok-shared.ensures.cases ∙ print } in
    let there = subst (λ (s : ParagraphKey). IsLaidBy tables (s, laid_said laid)) (sym says) right in
    let used = used-put tables hash_key kept c.put.new.self c.in_ok-key.key c.in_ok-key.ensures.hashed c.self.invariant laid c.in_ok-put.ensures.entries there in
    used.kept

pub returns-clause-print : goal.returns-clause-print
returns-clause-print c =
    let tables = c.args.tables.now in
    let hash_key = c.self.inside.hash_key in
    let kept = c.self.inside.kept in
    let text = c.args.para.now.text in
    let key = paragraph_key text c.args.width c.args.base in
    let first = sym c.peek_mru.ensures ∙ ap (option_map deref_pair) c.unwrap.ensures in
    let is = newest-laid hash_key kept c.args.self.now c.self.view_is tables key c.requires.laid c.requires.newest (c.unwrap.result.0.now, c.unwrap.result.1.now) first in
    let same = c.as_slice.ensures.value ∙ c.in_ok-rows.ensures.cases ∙ is.rows in
    let print = print-made tables key c.text.result.now c.as_slice.result.now (rc_slice_items c.in_ok-print.print) c.in_ok-print.ensures c.text.ensures same in
    print

pub returns-clause-keys : goal.returns-clause-keys
returns-clause-keys c =
    let tables = c.args.tables.now in
    let hash_key = c.self.inside.hash_key in
    let kept = c.self.inside.kept in
    let text = c.args.para.now.text in
    let key = paragraph_key text c.args.width c.args.base in
    let first = sym c.peek_mru.ensures ∙ ap (option_map deref_pair) c.unwrap.ensures in
    let is = newest-laid hash_key kept c.args.self.now c.self.view_is tables key c.requires.laid c.requires.newest (c.unwrap.result.0.now, c.unwrap.result.1.now) first in
    let same = c.as_slice.ensures.value ∙ c.in_ok-rows.ensures.cases ∙ is.rows in
    let print = print-made tables key c.text.result.now c.as_slice.result.now (rc_slice_items c.in_ok-print.print) c.in_ok-print.ensures c.text.ensures same in
    let says = c.in_ok-key.ensures.says ∙ ap (λ t. paragraph_key t c.args.width c.args.base) c.text-2.ensures in
    let laid : Laid = record { rows = c.in_ok-rows.rows; print = Some c.in_ok-shared.shared } in
    let right : IsLaidBy tables (key, laid_said laid) = record { rows = c.in_ok-rows.ensures.cases ∙ is.rows; print = c.in_ok-shared.ensures.cases ∙ print } in
    let there = subst (λ (s : ParagraphKey). IsLaidBy tables (s, laid_said laid)) (sym says) right in
    let used = used-put tables hash_key kept c.put.new.self c.in_ok-key.key c.in_ok-key.ensures.hashed c.self.invariant laid c.in_ok-put.ensures.entries there in
    keys-same tables hash_key kept c.put.new.self c.args.self.now c.self.view_is c.in_ok-key.key key says c.in_ok-key.ensures.hashed c.self.invariant used c.requires.newest

pub returns-clause-laid : goal.returns-clause-laid
returns-clause-laid c =
    let tables = c.args.tables.now in
    let hash_key = c.self.inside.hash_key in
    let kept = c.self.inside.kept in
    let text = c.args.para.now.text in
    let key = paragraph_key text c.args.width c.args.base in
    let first = sym c.peek_mru.ensures ∙ ap (option_map deref_pair) c.unwrap.ensures in
    let is = newest-laid hash_key kept c.args.self.now c.self.view_is tables key c.requires.laid c.requires.newest (c.unwrap.result.0.now, c.unwrap.result.1.now) first in
    let same = c.as_slice.ensures.value ∙ c.in_ok-rows.ensures.cases ∙ is.rows in
    let print = print-made tables key c.text.result.now c.as_slice.result.now (rc_slice_items c.in_ok-print.print) c.in_ok-print.ensures c.text.ensures same in
    let says = c.in_ok-key.ensures.says ∙ ap (λ t. paragraph_key t c.args.width c.args.base) c.text-2.ensures in
    let laid : Laid = record { rows = c.in_ok-rows.rows; print = Some c.in_ok-shared.shared } in
    let right : IsLaidBy tables (key, laid_said laid) = record { rows = c.in_ok-rows.ensures.cases ∙ is.rows; print = c.in_ok-shared.ensures.cases ∙ print } in
    let there = subst (λ (s : ParagraphKey). IsLaidBy tables (s, laid_said laid)) (sym says) right in
    let used = used-put tables hash_key kept c.put.new.self c.in_ok-key.key c.in_ok-key.ensures.hashed c.self.invariant laid c.in_ok-put.ensures.entries there in
    laid-done tables hash_key kept c.put.new.self c.args.self.now c.self.view_is c.in_ok-key.key key says c.in_ok-key.ensures.hashed c.self.invariant used c.requires.laid
