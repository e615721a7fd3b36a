-- What is passed has no separator.
use Rattle.std.proofs.Common.{◌≤◌, ◌++◌, ℕ, List, Option, MatchOption, Bor, length, take, encode_utf8, ap, subst, sym, ◌∙◌, arith, take-append-drop, length-drop, take_all}
use Rattle.std.proofs.lemmas.Str.{IsUtf8-take}
use Rattle.std.specs.List.{list_any}
use Rattle.unicode_tables.specs.Tables.{bidi_of}
use Rattle.paragraphs.specs.Classes.{is_separator}
use Rattle.paragraphs.specs.Text.{code_points}
use Rattle.paragraphs.specs.Separators.{HasNoSeparator, IsBehind}
use Rattle.paragraphs.proofs.cuts.first_likely.Goals as goal

pub returns : goal.returns
returns c =
    let text = c.args.text.now in
    let bytes = c.before_separator-bytes.result.0 in
    let passed = c.before_separator-bytes.ensures in
    record {
      front = take bytes text;
      utf8 = IsUtf8-take text bytes c.utf8.text passed.boundary;
      count = passed.count;
      none = passed.none;
      whole =
          sym (take-append-drop bytes text)
          ∙ ap (λ t. take bytes text ++ t) (sym c.range_from.ensures.value ∙ sym c.chars-chars.ensures.rest ∙ c.in_ok-c.ensures.steps.0 ∙ ap (λ t. encode_utf8 c.in_ok-c.c ++ t) (sym c.as_str.ensures));
    }

pub returns-in_err-c : goal.returns-in_err-c
returns-in_err-c c =
    let text = c.args.text.now in
    let bytes = c.before_separator-bytes.result.0 in
    let class = bidi_of c.args.tables.now in
    let read = ap length (c.chars-chars.ensures.rest ∙ c.range_from.ensures.value) in
    let left = length-drop bytes text in
    let end = c.in_err-c.ensures.steps.0.0 in
    let all : length text ≤ bytes = omega (arith, read, left, end) in
    let none : HasNoSeparator class text = ap (λ t. list_any (λ c. is_separator (class c)) (code_points t)) (sym (take_all bytes text all)) ∙ c.before_separator-bytes.ensures.none in
    subst (λ (r : Option (ℕ × ℕ × Bor (List ℕ))). MatchOption r (HasNoSeparator class text) (λ first. IsBehind class text first.0 first.1 first.2.now)) (sym c.from_residual.ensures) none
