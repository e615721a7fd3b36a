-- The desks so far are shown.
use Rattle.desk_runs.proofs.Running.{HasDone}
use Rattle.desk_runs.proofs.Rounds.{desk_shows, before}
use Rattle.desk_runs.proofs.replaying.round.show_all.Given as goal

abbrev pub invariant-loop-desk : goal.invariant-loop-desk
invariant-loop-desk g l =
    HasDone l.setting l.desks (before desk_shows 1 l.desk) l.view l.desks (g.S.Sink.written l.fn.out) (g.S.Sink.written l.out) (g.S.Sink.has_failed l.out)
