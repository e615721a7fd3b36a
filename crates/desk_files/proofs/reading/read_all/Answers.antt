-- The goals of `read_all` that are answered by hand.
use Rattle.std.proofs.Common.{◌≡◌, ◌+◌, ◌++◌, [], ◌∷◌, List, length, ap, subst, sym, ◌∙◌, arith}
use Rattle.std.specs.Prelude.{map as each, slice_set}
use Rattle.std.specs.Global.{Vec}
use Rattle.std.proofs.lemmas.List.{map-append, length-append}
use Rattle.bg_types.specs.declared.op.OpView.{OpView}
use Rattle.desk_files.specs.declared.run_fault.RunFault.TheVariants as run
use Rattle.desk_files.specs.Readers.{EndsOver}
use Rattle.desk_files.specs.Cause.{IsReadCaused}
use Rattle.desk_files.proofs.HandedOn.{err_handed}
use Rattle.desk_files.proofs.Readings.{ReadTo, none_read, none_were_asked, no_memory, asked_works, next_asked, next_read, not_read, ends_unread}
use Rattle.desk_files.proofs.reading.read_all.Goals as goal

pub returns-in_err-all-clause-fault : goal.returns-in_err-all-clause-fault
returns-in_err-all-clause-fault g c =
    let readers = each g.R.Source.remaining c.args.files.now in
    let failed = each g.R.Source.has_failed c.args.files.now in
    err_handed (EndsOver readers readers failed IsReadCaused) c.from_residual.result run.Memory c.from_residual.ensures.1 (ends_unread readers readers failed IsReadCaused run.Memory c.requires (λ files. tt))

pub loop-place-init : goal.loop-place-init
loop-place-init g c =
    let none : c.in_ok-all.all.items ≡ [] = c.in_ok-all.ensures.items in
    record {
      read = subst (λ (all : List (Vec OpView)). ReadTo g.R.Source.remaining g.R.Source.has_failed c.args.files.now c.args.files.now 0 (each (λ ops. ops.items) all)) (sym none)
          (none_read g.R.Source.remaining g.R.Source.has_failed c.args.files.now c.requires);
      count = ap (λ (all : List (Vec OpView)). length all) none;
    }

pub read_file-requires : goal.read_file-requires
read_file-requires g c =
    asked_works g.R.Source.remaining g.R.Source.has_failed c.args.files.now c.loop-place.files c.loop-place.place (each (λ ops. ops.items) c.loop-place.all.items) c.loop-place.invariant.read c.loop-place-test.true
    c.index-files-place.result c.index-files-place.result c.index-files-place.is

pub returns-in_err-read_file-clause-fault : goal.returns-in_err-read_file-clause-fault
returns-in_err-read_file-clause-fault g c =
    let readers = each g.R.Source.remaining c.args.files.now in
    let now = slice_set c.loop-place.files c.loop-place.place c.read_file.new.reader in
    let left = each g.R.Source.remaining now in
    let failed = each g.R.Source.has_failed now in
    let fault = c.in_err-read_file.field-0.0 in
    err_handed (EndsOver readers left failed IsReadCaused) c.from_residual-in_err-read_file.result fault c.from_residual-in_err-read_file.ensures.1
    (not_read g.R.Source.remaining g.R.Source.has_failed c.args.files.now c.loop-place.files c.loop-place.place (each (λ ops. ops.items) c.loop-place.all.items) c.loop-place.invariant.read c.loop-place-test.true
    c.index-files-place.result c.read_file.new.reader c.index-files-place.is fault c.in_err-read_file.ensures.fault)

pub returns-in_err-push-clause-fault : goal.returns-in_err-push-clause-fault
returns-in_err-push-clause-fault g c =
    let readers = each g.R.Source.remaining c.args.files.now in
    let now = slice_set c.loop-place.files c.loop-place.place c.read_file.new.reader in
    let left = each g.R.Source.remaining now in
    let failed = each g.R.Source.has_failed now in
    let lists = each (λ ops. ops.items) c.loop-place.all.items in
    let next =
    next_read g.R.Source.remaining g.R.Source.has_failed c.args.files.now c.loop-place.files c.loop-place.place lists c.loop-place.invariant.read c.loop-place-test.true
    c.index-files-place.result c.read_file.new.reader c.index-files-place.is c.in_ok-read_file.field-0.items c.in_ok-read_file.ensures.ok c.read_file.ensures.asked c.in_ok-read_file.ensures.working in
    err_handed (EndsOver readers left failed IsReadCaused) c.from_residual-in_err-push.result run.Memory c.from_residual-in_err-push.ensures.1
    (no_memory g.R.Source.remaining g.R.Source.has_failed c.args.files.now now (c.loop-place.place + 1) (lists ++ c.in_ok-read_file.field-0.items ∷ []) next IsReadCaused (λ files. tt))

pub loop-place-preserved : goal.loop-place-preserved
loop-place-preserved g c =
    let now = slice_set c.loop-place.files c.loop-place.place c.read_file.new.reader in
    let lists : List (List OpView) = each (λ ops. ops.items) c.loop-place.all.items in
    let next =
    next_read g.R.Source.remaining g.R.Source.has_failed c.args.files.now c.loop-place.files c.loop-place.place lists c.loop-place.invariant.read c.loop-place-test.true
    c.index-files-place.result c.read_file.new.reader c.index-files-place.is c.in_ok-read_file.field-0.items c.in_ok-read_file.ensures.ok c.read_file.ensures.asked c.in_ok-read_file.ensures.working in
    let grown : each (λ ops. ops.items) c.push.new.self.items ≡ lists ++ c.in_ok-read_file.field-0.items ∷ [] =
    ap (each (λ ops. ops.items)) {y = c.loop-place.all.items ++ c.in_ok-read_file.field-0 ∷ []} c.in_ok-push.ensures.items ∙ map-append (λ ops. ops.items) c.loop-place.all.items (c.in_ok-read_file.field-0 ∷ []) in
    let longer : length c.push.new.self.items ≡ length c.loop-place.all.items + 1 = ap (λ (l : List (Vec OpView)). length l) {y = c.loop-place.all.items ++ c.in_ok-read_file.field-0 ∷ []} c.in_ok-push.ensures.items ∙ length-append c.loop-place.all.items (c.in_ok-read_file.field-0 ∷ []) in
    let count = c.loop-place.invariant.count in
    record {
      read = subst (λ (ls : List (List OpView)). ReadTo g.R.Source.remaining g.R.Source.has_failed c.args.files.now now (c.loop-place.place + 1) ls) (sym grown) next;
      count = omega (arith, longer, count);
    }

pub returns-in_err-all-clause-asked : goal.returns-in_err-all-clause-asked
returns-in_err-all-clause-asked g c = none_were_asked (each g.R.Source.remaining c.args.files.now)

pub returns-in_err-read_file-clause-asked : goal.returns-in_err-read_file-clause-asked
returns-in_err-read_file-clause-asked g c =
    next_asked g.R.Source.remaining g.R.Source.has_failed c.args.files.now c.loop-place.files c.loop-place.place (each (λ ops. ops.items) c.loop-place.all.items) c.loop-place.invariant.read c.loop-place-test.true
    c.index-files-place.result c.read_file.new.reader c.index-files-place.is c.read_file.ensures.asked

pub returns-in_err-push-clause-asked : goal.returns-in_err-push-clause-asked
returns-in_err-push-clause-asked g c =
    next_asked g.R.Source.remaining g.R.Source.has_failed c.args.files.now c.loop-place.files c.loop-place.place (each (λ ops. ops.items) c.loop-place.all.items) c.loop-place.invariant.read c.loop-place-test.true
    c.index-files-place.result c.read_file.new.reader c.index-files-place.is c.read_file.ensures.asked

pub returns-clause-asked : goal.returns-clause-asked
returns-clause-asked g c = c.loop-place.invariant.read.asked
