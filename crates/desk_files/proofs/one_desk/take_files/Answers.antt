-- The goals of `take_files` that are answered by hand.
use Rattle.std.proofs.Common.{List, [], ◌∷◌, ◌++◌, None, inr, refl, sym, subst, ◌∙◌, arith}
use Rattle.std.specs.Prelude.{map as each, slice_set}
use Rattle.std.specs.List.{AllZip}
use Rattle.bg_types.specs.declared.op.OpView.{OpView}
use Rattle.desk_files.specs.Reading.{IsReadAs}
use Rattle.desk_files.specs.Readers.{EndsOver}
use Rattle.desk_files.specs.Files.{IsSetOfFiles, joined}
use Rattle.desk_files.specs.Taking.{HasTaken}
use Rattle.desk_files.specs.Cause.{IsReadCaused, IsTakingCaused}
use Rattle.desk_files.proofs.Spelled.{joined-push}
use Rattle.desk_files.proofs.Taking.{nothing-taken}
use Rattle.desk_files.proofs.Answered.{taking-refused, taking-unread}
use Rattle.desk_files.proofs.HandedOn.{err_handed}
use Rattle.desk_files.proofs.Readings.{none_read, asked_works, next_asked, next_read, not_read, all_read, told_so, ends_so}
use Rattle.desk_files.proofs.one_desk.take_files.Goals as goal

pub loop-place-init : goal.loop-place-init
loop-place-init g c = record { lists = []; read = none_read g.R.Source.remaining g.R.Source.has_failed c.args.files.now c.requires.working; taken = subst (λ s. HasTaken [] s None) (sym c.requires.empty) (nothing-taken c.nothing_held.ensures); site = refl }

pub take_file-requires : goal.take_file-requires
take_file-requires g c =
    let l = c.loop-place in
    asked_works g.R.Source.remaining g.R.Source.has_failed c.args.files.now l.files l.place l.invariant.lists l.invariant.read c.loop-place-test.true c.index-files-place.result c.index-files-place.result c.index-files-place.is

pub returns-in_err-take_file-clause-fault : goal.returns-in_err-take_file-clause-fault
returns-in_err-take_file-clause-fault g c =
    let l = c.loop-place in
    let readers = each g.R.Source.remaining c.args.files.now in
    let now = slice_set l.files l.place c.take_file.new.reader in
    let left = each g.R.Source.remaining now in
    let failed = each g.R.Source.has_failed now in
    let fault = c.in_err-take_file.field-0.0 in
    err_handed (EndsOver readers left failed IsTakingCaused) c.from_residual.result fault c.from_residual.ensures.1
    (ends_so readers left failed IsReadCaused IsTakingCaused fault (λ told. taking-unread told fault)
    (not_read g.R.Source.remaining g.R.Source.has_failed c.args.files.now l.files l.place l.invariant.lists l.invariant.read c.loop-place-test.true c.index-files-place.result c.take_file.new.reader c.index-files-place.is fault
    c.in_err-take_file.ensures.fault))

pub loop-place-preserved : goal.loop-place-preserved
loop-place-preserved g c =
    let l = c.loop-place in
    let lists = l.invariant.lists in
    let more = c.in_ok-take_file.ensures.taken (joined lists) l.invariant.taken in
    record {
      lists = lists ++ more.0 ∷ [];
      read = next_read g.R.Source.remaining g.R.Source.has_failed c.args.files.now l.files l.place lists l.invariant.read c.loop-place-test.true c.index-files-place.result c.take_file.new.reader c.index-files-place.is more.0 more.1
          c.take_file.ensures.asked c.in_ok-take_file.ensures.working;
      site = c.in_ok-take_file.ensures.site ∙ l.invariant.site;
      taken = subst (λ (ops : List OpView). HasTaken ops c.take_file.new.desk.set c.take_file.new.refused) (sym (joined-push lists more.0)) more.2;
    }

pub returns-in-Some-clause-fault : goal.returns-in-Some-clause-fault
returns-in-Some-clause-fault g c =
    let l = c.loop-place in
    let lists = l.invariant.lists in
    let first = subst (λ r. HasTaken (joined lists) l.desk.set r) c.in-Some.is l.invariant.taken in
    subst (EndsOver _ _ _ IsTakingCaused) (sym c.step_fault.ensures)
    (inr (told_so _ _ (λ told. AllZip IsReadAs told lists) (λ told. IsTakingCaused told _) (λ told spelled. taking-refused told lists c.in-Some.fault spelled first)
    (all_read g.R.Source.remaining g.R.Source.has_failed c.args.files.now l.files l.place lists l.invariant.read (omega (arith, c.loop-place-test.false)))))

pub returns-in-None-clause-ok : goal.returns-in-None-clause-ok
returns-in-None-clause-ok g c =
    let l = c.loop-place in
    let lists = l.invariant.lists in
    let all = subst (λ r. HasTaken (joined lists) l.desk.set r) c.in-None.is l.invariant.taken in
    told_so _ _ (λ told. AllZip IsReadAs told lists) (λ told. IsSetOfFiles told l.desk.set) (λ told spelled. record { lists = lists; spelled = spelled; of_all = all.0 })
    (all_read g.R.Source.remaining g.R.Source.has_failed c.args.files.now l.files l.place lists l.invariant.read (omega (arith, c.loop-place-test.false)))

pub returns-in-None-clause-limited : goal.returns-in-None-clause-limited
returns-in-None-clause-limited g c =
    let l = c.loop-place in
    (subst (λ r. HasTaken (joined l.invariant.lists) l.desk.set r) c.in-None.is l.invariant.taken).1

pub returns-in_err-take_file-clause-asked : goal.returns-in_err-take_file-clause-asked
returns-in_err-take_file-clause-asked g c =
    let l = c.loop-place in
    next_asked g.R.Source.remaining g.R.Source.has_failed c.args.files.now l.files l.place l.invariant.lists l.invariant.read c.loop-place-test.true c.index-files-place.result c.take_file.new.reader c.index-files-place.is c.take_file.ensures.asked

pub returns-in-Some-clause-asked : goal.returns-in-Some-clause-asked
returns-in-Some-clause-asked g c = c.loop-place.invariant.read.asked

pub returns-in-None-clause-asked : goal.returns-in-None-clause-asked
returns-in-None-clause-asked g c = c.loop-place.invariant.read.asked
