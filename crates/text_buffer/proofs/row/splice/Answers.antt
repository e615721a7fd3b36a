-- The others come in their order.
use Rattle.std.proofs.Common.{Ok, ◌≡◌, ℕ, ◌++◌, take, drop, refl, arith}
use Rattle.std.proofs.lemmas.Iterator.Adapters.{items_from_extend, YieldsList-from_vec}
use Rattle.text_buffer.proofs.row.splice.Goals as goal

pub returns-clause-ok : goal.returns-clause-ok
returns-clause-ok g c =
    let e = c.in_ok-splice.ensures.items in
    let old = c.args.row.now.items in
    let all = c.args.others.items in
    let gives = e.2 in
    items_from_extend {E = ℕ} {P = λ xs. c.splice.new.self.items ≡ take c.args.from old ++ (xs ++ drop c.args.to old)} (Ok tt) (e.0, e.1, refl, e.4, e.3)
    (YieldsList-from_vec all gives.0 (omega (arith, gives.1, c.args.others.ok)))
