-- The character was put, or refused.
use Rattle.std.proofs.Common.{refl, sym, ◌∙◌}
use Rattle.live_document.proofs.Cost.{of-ok}
use Rattle.live_document.proofs.Forgotten.{held-after}
use Rattle.live_document.proofs.Followed.{on-ok, stays-after, stays-same}
use Rattle.live_document.proofs.following.follow_typed.Goals as goal

pub returns-then-behind-clause-kept : goal.returns-then-behind-clause-kept
returns-then-behind-clause-kept c = stays-same c.args.tables.now c.args.buffer.now c.args.buffer.now refl

pub returns-clause-text : goal.returns-clause-text
returns-clause-text c = λ made. on-ok c.put.result (sym c.is_err.ensures.value ∙ made) c.put.ensures.text

pub returns-clause-touched : goal.returns-clause-touched
returns-clause-touched c = λ made. of-ok c.put.result (sym c.is_err.ensures.value ∙ made) c.put.ensures.touched

pub returns-clause-kept : goal.returns-clause-kept
returns-clause-kept c =
    stays-after c.args.tables.now c.args.buffer.now c.put.new.self c.args.place c.args.place c.put.result c.put.ensures.touched c.put.ensures.split c.put.ensures.unchanged

pub returns-clause-held : goal.returns-clause-held
returns-clause-held c = held-after c.args.buffer.now c.put.new.self c.args.place c.args.place c.put.result c.put.ensures.touched c.put.ensures.unchanged
