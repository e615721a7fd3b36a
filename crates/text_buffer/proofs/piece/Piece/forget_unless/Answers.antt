-- Where nothing is kept nothing goes.
use Rattle.std.proofs.Common.{◌≡◌, Bool, true, false, cond, Option, None, Some, refl, sym, ◌∙◌}
use Rattle.std.specs.Prelude.{is_some}
use Rattle.text_buffer.specs.Forgetting.{stays}
use Rattle.text_buffer.proofs.piece.Piece.forget_unless.Goals as goal

none-stays : {K : Type 0} (b : Bool) (k : Option K) → is_some k ≡ false → k ≡ cond b k None
none-stays true None none = refl
none-stays false None none = refl
none-stays b (Some k) none = cc

pub returns-then-not-is_some-clause-kept : goal.returns-then-not-is_some-clause-kept
returns-then-not-is_some-clause-kept g c = none-stays (stays c.args.spared c.args.number) c.args.self.now.kept (sym c.is_some.ensures ∙ c.if-not-is_some.true)
