-- The goals of `put_scalar` that are answered by hand.
use Rattle.std.proofs.Common.{◌++◌, ◌∷◌, ◌/◌, ◌%◌, true, ◌∙◌, List, ℕ, ap, sym, drop, arith}
use Rattle.std.specs.Fmt.{digit_glyph}
use Rattle.op_listing.specs.Listing.{scalar_word}
use Rattle.op_listing.proofs.Padding.{four_put, scalar_word-of_four, scalar_word-of_five, scalar_word-of_six}
use Rattle.op_listing.proofs.written.put_scalar.Goals as goal

pub returns-then-code-lt65536-clause-word : goal.returns-then-code-lt65536-clause-word
returns-then-code-lt65536-clause-word c =
    let rest = drop c.args.end c.args.line.now in
    let code = c.from-code.ensures in
    let small = c.if-code-lt65536.true in
    let four = four_put c.from-code.result rest _ _ _ _ c.put_digit-start.ensures.digit c.put_digit-start-2.ensures.digit c.put_digit-start-3.ensures.digit c.put_digit-start-4.ensures.digit in
    four ∙ ap (λ (w : List ℕ). w ++ rest) (sym (scalar_word-of_four c.from-code.result small)) ∙ ap (λ (n : ℕ). scalar_word n ++ rest) code

pub returns-then-code-lt1048576-clause-word : goal.returns-then-code-lt1048576-clause-word
returns-then-code-lt1048576-clause-word c =
    let rest = drop c.args.end c.args.line.now in
    let code = c.from-code.ensures in
    let four = four_put c.from-code.result rest _ _ _ _ c.put_digit-start.ensures.digit c.put_digit-start-2.ensures.digit c.put_digit-start-3.ensures.digit c.put_digit-start-4.ensures.digit in
    c.put_digit-start-5.ensures.digit ∙ ap (λ (w : List ℕ). digit_glyph true (c.from-code.result / 65_536 % 16) ∷ w) four
    ∙ ap (λ (w : List ℕ). w ++ rest) (sym (scalar_word-of_five c.from-code.result c.if-code-lt65536.false c.if-code-lt1048576.true)) ∙ ap (λ (n : ℕ). scalar_word n ++ rest) code

pub returns-clause-word : goal.returns-clause-word
returns-clause-word c =
    let rest = drop c.args.end c.args.line.now in
    let code = c.from-code.ensures in
    let four = four_put c.from-code.result rest _ _ _ _ c.put_digit-start.ensures.digit c.put_digit-start-2.ensures.digit c.put_digit-start-3.ensures.digit c.put_digit-start-4.ensures.digit in
    c.put_digit.ensures.digit
    ∙ ap (λ (w : List ℕ). digit_glyph true (c.from-code.result / 1_048_576 % 16) ∷ w) c.put_digit-start-5.ensures.digit
    ∙ ap (λ (w : List ℕ). digit_glyph true (c.from-code.result / 1_048_576 % 16) ∷ digit_glyph true (c.from-code.result / 65_536 % 16) ∷ w) four
    ∙ ap (λ (w : List ℕ). w ++ rest) (sym (scalar_word-of_six c.from-code.result c.if-code-lt1048576.false (omega (arith, code, c.ranges.ch.1.1)))) ∙ ap (λ (n : ℕ). scalar_word n ++ rest) code
