-- The goals of `blanks_before` that are answered by hand.
use Rattle.std.proofs.Common.{sym, arith, rules, tests}
use Rattle.std.proofs.lemmas.List.Sums.{prefix_len_is}
use Rattle.ucd_files.specs.Line.{is_among}
use Rattle.ucd_files.proofs.line.blanks_before.Goals as goal

pub returns-then-not-contains-clause-value : goal.returns-then-not-contains-clause-value
returns-then-not-contains-clause-value c =
    sym (prefix_len_is (is_among c.args.blanks.now) c.args.bytes.now c.loop-i.i 0 (omega arith) c.loop-i.invariant (λ _. search (rules, tests)))

pub returns-clause-value : goal.returns-clause-value
returns-clause-value c =
    sym (prefix_len_is (is_among c.args.blanks.now) c.args.bytes.now _ 0 (omega arith) (search rules) (λ h. absurd (omega (arith, h))))
