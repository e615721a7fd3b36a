-- The changes were made, or some of them.
use Rattle.std.proofs.Common.{refl, sym, ◌∙◌}
use Rattle.live_document.proofs.Forgotten.{held-all}
use Rattle.live_document.proofs.Followed.{on-ok, stays-all, stays-same}
use Rattle.live_document.proofs.following.follow_all.Goals as goal

pub returns-then-behind-clause-kept : goal.returns-then-behind-clause-kept
returns-then-behind-clause-kept c = stays-same c.args.tables.now c.args.buffer.now c.args.buffer.now refl

pub returns-clause-text : goal.returns-clause-text
returns-clause-text c = λ made. on-ok c.apply_all.result (sym c.is_err.ensures.value ∙ made) c.apply_all.ensures.text

pub returns-clause-touched : goal.returns-clause-touched
returns-clause-touched c = λ made. on-ok c.apply_all.result (sym c.is_err.ensures.value ∙ made) c.apply_all.ensures.touched

pub returns-clause-kept : goal.returns-clause-kept
returns-clause-kept c =
    stays-all c.args.tables.now c.args.buffer.now c.apply_all.new.self c.args.changes.now c.apply_all.result c.apply_all.ensures.touched c.apply_all.ensures.made_touched c.apply_all.ensures.split

pub returns-clause-held : goal.returns-clause-held
returns-clause-held c = held-all c.args.buffer.now c.apply_all.new.self c.args.changes.now c.apply_all.result c.apply_all.ensures.touched c.apply_all.ensures.made_touched
