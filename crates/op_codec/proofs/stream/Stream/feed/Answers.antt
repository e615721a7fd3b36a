-- The goals of `feed` that are answered by hand.
use Rattle.std.proofs.Common.{◌≡◌, ℕ, List, length, take, Result, Err, sym, ap, subst, ◌∙◌, arith, rules}
use Rattle.std.specs.Prelude.{OnOk, IfErr}
use Rattle.bg_types.specs.declared.op.OpView.{OpView}
use Rattle.op_codec.specs.declared.fault.CodecFault.{CodecFault}
use Rattle.op_codec.specs.declared.fault.CodecFault.TheVariants.{Memory}
use Rattle.op_codec.specs.Feed.{kept_fault, IsMissing, TellsKept, Standing, StandsAfter, GoesOn, added}
use Rattle.op_codec.proofs.Feeds.{shown_missing}
use Rattle.op_codec.proofs.Streams.{goes_faulty, goes_on, goes_nowhere}
use Rattle.op_codec.proofs.stream.Stream.feed.Goals as goal

pub read_on-requires-clause-missing : goal.read_on-requires-clause-missing
read_on-requires-clause-missing c =
    let old = c.self.inside in
    shown_missing old.position old.kept.items c.self.invariant (subst (λ (k : List ℕ). IsMissing (kept_fault old.position k)) c.deref.ensures.0 c.in_ok-judge.ensures.ok)

pub returns-in_err-judge-clause-outcome : goal.returns-in_err-judge-clause-outcome
returns-in_err-judge-clause-outcome c =
    λ bytes before h. (let old = c.self.inside in
    let s : Standing = record { position = old.position; kept = old.kept.items } in
    let fault = c.in_err-judge.field-0.0 in
    let told = subst (λ (k : List ℕ). TellsKept (kept_fault old.position k) fault) c.deref.ensures.0 c.in_err-judge.ensures.err in
    let is : c.from_residual.result ≡ Err fault = search rules in
    let ops = c.args.ops.now.items in
    let goes = goes_faulty s bytes c.args.piece.now before (subst (λ (t : Standing). StandsAfter t bytes before) (sym c.self.view_is) h) ops fault told in
    subst (λ (r : Result (Unit {0}) CodecFault). GoesOn bytes c.args.piece.now before (added ops ops) c.args.self.now r) (sym is)
    (subst (λ (t : Standing). GoesOn bytes c.args.piece.now before (added ops ops) t (Err fault)) c.self.view_is goes))

pub returns-in-Ok-clause-outcome : goal.returns-in-Ok-clause-outcome
returns-in-Ok-clause-outcome c =
    λ bytes before h. (let old = c.self.inside in
    let s : Standing = record { position = old.position; kept = old.kept.items } in
    let missing = subst (λ (k : List ℕ). IsMissing (kept_fault old.position k)) c.deref.ensures.0 c.in_ok-judge.ensures.ok in
    let ok = subst (λ (k : List ℕ). OnOk c.judge-in-Ok.result (IsMissing (kept_fault c.in-Ok.position k))) c.deref-in-Ok.ensures.0 c.judge-in-Ok.ensures.ok in
    let err = subst (λ (k : List ℕ). IfErr c.judge-in-Ok.result (TellsKept (kept_fault c.in-Ok.position k))) c.deref-in-Ok.ensures.0 c.judge-in-Ok.ensures.err in
    goes_on s bytes c.args.piece.now before (subst (λ (t : Standing). StandsAfter t bytes before) (sym c.self.view_is) h) missing c.in-Ok.position (added c.args.ops.now.items c.read_on.new.ops.items) c.read_on.new.kept.items c.judge-in-Ok.result
    (c.in-Ok.ensures.taken before) ok err)

pub returns-in-Err-clause-outcome : goal.returns-in-Err-clause-outcome
returns-in-Err-clause-outcome c =
    λ bytes before h. (let old = c.self.inside in
    let s : Standing = record { position = old.position; kept = old.kept.items } in
    let missing = subst (λ (k : List ℕ). IsMissing (kept_fault old.position k)) c.deref.ensures.0 c.in_ok-judge.ensures.ok in
    let first = c.args.ops.now in
    let counted : c.len-before.result ≡ length first.items = omega (arith, c.len-before.ensures, first.ok.0) in
    let ops = c.truncate.ensures.items ∙ ap (λ (k : ℕ). take k c.read_on.new.ops.items) counted ∙ c.in-Err.ensures.ops in
    let kept = c.truncate-in-Err.ensures.items ∙ ap (λ (k : ℕ). take k c.read_on.new.kept.items) c.len-kept.ensures.value ∙ c.in-Err.ensures.kept in
    let goes = goes_nowhere s bytes c.args.piece.now before (subst (λ (t : Standing). StandsAfter t bytes before) (sym c.self.view_is) h) missing first.items (c.in-Err.ensures.memory before) in
    subst (λ (k : List ℕ). GoesOn bytes c.args.piece.now before (added first.items c.truncate.new.self.items) (record { position = old.position; kept = k }) (Err Memory)) (sym kept)
    (subst (λ (xs : List OpView). GoesOn bytes c.args.piece.now before (added first.items xs) s (Err Memory)) (sym ops) goes))
