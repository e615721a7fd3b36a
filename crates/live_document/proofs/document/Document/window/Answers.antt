-- What is shown is no window of an older text.
use Rattle.std.proofs.Common.{ap, subst}
use Rattle.live_document.specs.Documents.{LiveDocument, IsWindowOf}
use Rattle.live_document.proofs.Followed.{live-readable}
use Rattle.live_document.proofs.document.Document.window.Goals as goal

pub invariant_of-result : goal.invariant_of-result
invariant_of-result c = let i = c.self.inside in live-readable i.desk i.tables.value i.width i.base i.behind i.buffer i.shown i.held c.self.invariant

pub returns-clause-window : goal.returns-clause-window
returns-clause-window c = ap (λ (d : LiveDocument). d.window) c.self.view_is

pub returns-clause-of_now : goal.returns-clause-of_now
returns-clause-of_now c = subst (λ (d : LiveDocument). IsWindowOf d.desk.set d.tables d.width d.base d.window) c.self.view_is c.self.invariant.of_now
