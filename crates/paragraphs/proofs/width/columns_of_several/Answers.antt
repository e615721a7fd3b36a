-- The cases in their order, by the first.
use Rattle.std.proofs.Common.{◌≡◌, true, false, ◌||◌, refl, sym, ap, ◌∙◌, rules}
use Rattle.std.proofs.lemmas.Iterator.{YieldsList-from_chars}
use Rattle.std.proofs.lemmas.Iterator.Search.{all_from_yields_List, any_from_yields_List}
use Rattle.std.specs.List.{list_all, list_any}
use borrow.Author.Tests.{tests}
use Rattle.paragraphs.specs.Text.{code_points}
use Rattle.paragraphs.specs.Columns.{ends_line, is_invisible, takes_two, takes_two_by_choice}
use Rattle.paragraphs.proofs.OneColumns.{columns-first}
use Rattle.paragraphs.proofs.width.columns_of_several.Goals as goal
use Rattle.paragraphs.proofs.width.columns_of_several.Goals.{Joined-ends_line, Joined-any, then-ends_line, else-ends_line, then-any, else-any}

-- nothing is seen
unseen : (c : Joined-ends_line)
    → c.if-ends_line.value ≡ (ends_line c.args.tables.now c.args.first || list_all (is_invisible c.args.tables.now) (code_points c.args.cluster.now))
unseen c =
    let later = list_all (is_invisible c.args.tables.now) (code_points c.args.cluster.now) in
    elim c.if-ends_line.branch [
      | then-ends_line w ↦ w.value-is ∙ w.if-ends_line.true ∙ ap (λ b. b || later) (sym w.if-ends_line.true ∙ c.ends_line.ensures)
      | else-ends_line w ↦
          w.value-is
          ∙ all_from_yields_List (is_invisible c.args.tables.now) _ _ _ w.all.ensures.ran
          (YieldsList-from_chars c.args.cluster.now c.utf8.cluster w.chars.ensures.rest) (λ x b q k. search (rules, tests))
          ∙ ap (λ b. b || later) (sym w.if-ends_line.false ∙ c.ends_line.ensures)
    ]

-- one is wide, or the first is made wide
wide : (c : Joined-any)
    → c.if-any.value ≡ (list_any (takes_two c.args.tables.now) (code_points c.args.cluster.now) || takes_two_by_choice c.args.tables.now c.args.first)
wide c =
    let choice = takes_two_by_choice c.args.tables.now c.args.first in
    let any =
    any_from_yields_List (takes_two c.args.tables.now) _ _ _ c.any.ensures.ran
    (YieldsList-from_chars c.args.cluster.now c.utf8.cluster c.chars-else-all.ensures.rest) (λ x b q k. search (rules, tests)) in
    elim c.if-any.branch [
      | then-any w ↦ w.value-is ∙ w.if-any.true ∙ ap (λ b. b || choice) (sym w.if-any.true ∙ any)
      | else-any w ↦ w.value-is ∙ w.takes_two_by_choice.ensures ∙ ap (λ b. b || choice) (sym w.if-any.false ∙ any)
    ]

pub returns-then-all : goal.returns-then-all
returns-then-all c =
    columns-first c.args.tables.now (code_points c.args.cluster.now) c.args.first true _ c.requires
    (sym c.if-all.true ∙ unseen (goal.at.returns-then-all c).Joined-ends_line) refl

pub returns-then-takes_two_by_choice : goal.returns-then-takes_two_by_choice
returns-then-takes_two_by_choice c =
    columns-first c.args.tables.now (code_points c.args.cluster.now) c.args.first false true c.requires
    (sym c.if-all.false ∙ unseen (goal.at.returns-then-takes_two_by_choice c).Joined-ends_line)
    (sym c.if-takes_two_by_choice.true ∙ wide (goal.at.returns-then-takes_two_by_choice c).Joined-any)

pub returns-else-takes_two_by_choice : goal.returns-else-takes_two_by_choice
returns-else-takes_two_by_choice c =
    columns-first c.args.tables.now (code_points c.args.cluster.now) c.args.first false false c.requires
    (sym c.if-all.false ∙ unseen (goal.at.returns-else-takes_two_by_choice c).Joined-ends_line)
    (sym c.if-takes_two_by_choice.false ∙ wide (goal.at.returns-else-takes_two_by_choice c).Joined-any)
