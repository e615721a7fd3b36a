-- The rows of the first entry, where there is one.
use Rattle.std.proofs.Common.{sym, ◌∙◌}
use Rattle.view_cache.proofs.Kept.{newest-laid, newest-some}
use Rattle.view_cache.proofs.kept_rows.KeptRows.newest.Goals as goal

pub returns-in-Some : goal.returns-in-Some
returns-in-Some c = λ tables key laid newest.
    let is = newest-laid c.self.inside.hash_key c.self.inside.kept c.args.self.now c.self.view_is tables key laid newest (c.in-Some.field-0-0.now, c.in-Some.laid.now) (sym c.in-Some.ensures) in
    c.as_slice.ensures.value ∙ is.rows

pub returns-in-None : goal.returns-in-None
returns-in-None c = λ tables key laid newest.
    absurd (newest-some c.self.inside.hash_key c.self.inside.kept c.args.self.now c.self.view_is tables key laid newest (sym c.in-None.ensures))
