-- The goals of `read_whole` that are answered by hand.
use Rattle.std.proofs.Common.{◌≡◌, ◌≤◌, ℕ, ◌+◌, List, length, take, Option, None, Some, IfSome, arith, length-take, min, ◌∙◌, rules}
use Rattle.std.proofs.lemmas.List.{take_all}
use Rattle.std.specs.Option.{option_map}
use Rattle.command_line.proofs.reading.read_whole.Goals as goal

-- a beginning that ends before its bound is the whole
whole-taken : (known : Option (List ℕ)) (limit : ℕ) (bytes : List ℕ) → IfSome (option_map (take (limit + 1)) known) (λ taken. bytes ≡ taken)
    → length bytes ≤ limit → IfSome known (λ all. bytes ≡ all)
whole-taken None limit bytes taken short = tt
whole-taken (Some all) limit bytes taken short =
    let count : length bytes ≡ min (limit + 1) (length all) = rw taken (length-take (limit + 1) all) in
    taken ∙ take_all (limit + 1) all (omega (arith, count, short))

pub returns-clause-whole : goal.returns-clause-whole
returns-clause-whole g c =
    let taken : IfSome (option_map (take (c.args.limit + 1)) (g.F.Read.remaining c.args.file)) (λ all. c.read_to_end.new.buf.items ≡ all) =
    search (rules, c.in_ok-count.ensures.bytes, c.take.ensures.limit, c.take.ensures.inner, c.new-bytes.ensures.items) in
    whole-taken (g.F.Read.remaining c.args.file) c.args.limit c.read_to_end.new.buf.items taken
    (omega (arith, c.in_ok-count.ensures.ok, c.new-bytes.ensures.len, c.if-count-limit.false))
