-- The goals of `read` that are answered by hand.
use Rattle.std.proofs.Common.{◌+◌, ◌∙◌, ap, get_or}
use Rattle.std.proofs.lemmas.Result.{err_from_is_err_and}
use Rattle.unicode_tables.proofs.Interface.{each_below-at}
use Rattle.ucd_files.specs.Line.{lines_of}
use Rattle.ucd_files.specs.Reading.{line_at}
use Rattle.ucd_files.specs.Faults.{fault_at}
use Rattle.ucd_files.specs.Passes.{data_said, overlaid}
use Rattle.ucd_files.proofs.FirstFault.{first_fault-bad, first_fault-text}
use Rattle.ucd_files.proofs.Writes.{value_at-passes}
use Rattle.ucd_files.proofs.read.read.Goals as goal

pub returns-in-Err-clause-fault : goal.returns-in-Err-clause-fault
returns-in-Err-clause-fault g c = λ _.
    let bytes = c.args.bytes.now in
    let error = c.in-Err.ensures in
    let told = ap (λ n. n + 1) c.number_of.ensures.value ∙ ap (line_at bytes) c.valid_up_to.ensures in
    ap (fault_at c.args.file) (first_fault-bad g.V.FileValue.reading bytes _ _ error.cases.1.short error.valid_len told)

pub returns-in_err-set_data-clause-fault : goal.returns-in_err-set_data-clause-fault
returns-in_err-set_data-clause-fault g c =
    let p = err_from_is_err_and c.from_residual-in_err-set_data.result c.from_residual-in_err-set_data.ensures.1 in
    rw (p.1, p.2) (λ grown. ap (fault_at c.args.file) (first_fault-text g.V.FileValue.reading c.args.bytes.now c.in_default.ensures.cases.1)
    ∙ c.in_err-set_data.ensures.fault grown)

pub returns-clause-sound : goal.returns-clause-sound
returns-clause-sound g c =
    ap (fault_at c.args.file)
    (first_fault-text g.V.FileValue.reading c.args.bytes.now c.in_default.ensures.cases.1 ∙ c.in_ok-set_data.ensures.sound)

pub returns-clause-values : goal.returns-clause-values
returns-clause-values g c = λ k h.
    let reading = g.V.FileValue.reading in
    let lines = lines_of c.args.bytes.now in
    c.in_ok-set_data.ensures.values k reading.absent h
    ∙ ap (overlaid (data_said reading) lines k) (c.in_ok-set_defaults.ensures k reading.absent h
    ∙ ap (overlaid reading.missing lines k) (ap (λ values. get_or values k reading.absent) c.in_ok-values.ensures
    ∙ each_below-at 0x110000 (λ _. c.args.absent) k reading.absent h ∙ c.requires))
    ∙ value_at-passes reading c.args.bytes.now k
