-- The first of the entries, with their numbers, that ends at the place.
use Rattle.std.proofs.Common.{◌≡◌, ℕ, List, length, rules, sym, ap, ◌∙◌, arith, inl}
use Rattle.std.proofs.lemmas.Iterator.Adapters.{option_map_id}
use Rattle.std.proofs.lemmas.Iterator.Consumers.{YieldsList-from_first, YieldsList-from_enumerate}
use Rattle.std.proofs.lemmas.Iterator.Search.{find_from_yields_List}
use borrow.Author.Tests.{tests}
use Rattle.cell_grid.specs.declared.entry.Entry.{Entry}
use Rattle.caret.specs.Places.{ends_at}
use Rattle.caret.proofs.Finding.{number-within}
use Rattle.caret.proofs.place.entry_up_to.Goals as goal

pub find-requires-clause-can : goal.find-requires-clause-can
find-requires-clause-can c =
    let none = c.enumerate.ensures.count in
    let same : length c.enumerate.result.iter ≡ length c.args.row.now.entries = ap length c.enumerate.ensures.source ∙ ap length c.entries.ensures in
    (tt, tt, inl (omega (arith, none, same, c.entry_count-count.ensures.count, c.entry_count-count.ensures.most)))

pub returns-clause-entry : goal.returns-clause-entry
returns-clause-entry c =
    let list = YieldsList-from_enumerate (YieldsList-from_first (λ x. x) (λ (left : List Entry). left) c.args.row.now.entries (cc)) (cc) in
    sym (option_map_id c.find.result)
    ∙ find_from_yields_List (λ (numbered : ℕ × Entry). ends_at c.args.place numbered.1) _ _ c.find.result c.find.ensures.ran list (λ x b q k. search (rules, tests))

pub returns-clause-within : goal.returns-clause-within
returns-clause-within c =
    let list = YieldsList-from_enumerate (YieldsList-from_first (λ x. x) (λ (left : List Entry). left) c.args.row.now.entries (cc)) (cc) in
    number-within (ends_at c.args.place) c.args.row.now.entries c.find.result
    (sym (option_map_id c.find.result)
    ∙ find_from_yields_List (λ (numbered : ℕ × Entry). ends_at c.args.place numbered.1) _ _ c.find.result c.find.ensures.ran list (λ x b q k. search (rules, tests)))
