-- The goals of `read_and_walk` that are answered by hand.
use Rattle.std.proofs.Common.{◌≡◌, ℕ, List, None, string_bytes, subst, sym}
use Rattle.ucd_files.specs.Ucd.{fault_of_ucd}
use Rattle.desk_files.specs.Readers.{EndsOver}
use Rattle.desk_files.specs.Cause.{IsTakingCaused}
use Rattle.desk_files.specs.declared.run_fault.RunFault.TheVariants.{ReadFailed}
use Rattle.desk_files.specs.Fault.{of_ucd_fault}
use Rattle.desk_files.specs.TextOutcome.{IsTextOfFiles}
use Rattle.desk_runs.specs.CaretsOutcome.{Asked, asked, IsWalked, IsWalkCaused}
use Rattle.desk_files.proofs.Interface.{none_were_asked, err_handed, ends_so, ends_unread, err_over, ok_over}
use Rattle.desk_runs.proofs.WalkAnswers.{tables_unlike_read, tables_walk, files_walk, err_walk, ok_walk}
use Rattle.desk_runs.proofs.walking.read_and_walk.Goals as goal

pub returns-in_err-tables-clause-fault : goal.returns-in_err-tables-clause-fault
returns-in_err-tables-clause-fault g c =
    let asks : List (List ℕ) → Asked = λ told. asked c.args.ucd.now c.args.width c.args.base told c.args.place c.args.moves.now in
    let fault = c.in_err-tables.field-0.0 in
    err_handed (EndsOver _ _ _ (λ told. IsWalkCaused (asks told))) c.from_residual.result (of_ucd_fault fault) c.from_residual.ensures.1
    (ends_unread _ _ _ (λ told. IsWalkCaused (asks told)) (of_ucd_fault fault) c.requires.readers (λ told. tables_walk (asks told) fault c.in_err-tables.ensures.fault))

pub returns-in_err-tables-clause-tables_first : goal.returns-in_err-tables-clause-tables_first
returns-in_err-tables-clause-tables_first g c = λ n.
    let fault = c.in_err-tables.field-0.0 in
    err_handed (λ e. e ≡ ReadFailed n → fault_of_ucd c.args.ucd.now ≡ None) c.from_residual.result (of_ucd_fault fault) c.from_residual.ensures.1 (λ is. absurd (tables_unlike_read fault n is))

pub returns-in_err-text-clause-fault : goal.returns-in_err-text-clause-fault
returns-in_err-text-clause-fault g c =
    let asks : List (List ℕ) → Asked = λ told. asked c.args.ucd.now c.args.width c.args.base told c.args.place c.args.moves.now in
    let fault = c.in_err-text.field-0.0 in
    err_handed (EndsOver _ _ _ (λ told. IsWalkCaused (asks told))) c.from_residual-in_err-text.result fault c.from_residual-in_err-text.ensures.1
    (ends_so _ _ _ IsTakingCaused (λ told. IsWalkCaused (asks told)) fault (λ told. files_walk (asks told) fault c.in_ok-tables.ensures.sound) c.in_err-text.ensures.fault)

pub returns-clause-fault : goal.returns-clause-fault
returns-clause-fault g c =
    let asks : List (List ℕ) → Asked = λ told. asked c.args.ucd.now c.args.width c.args.base told c.args.place c.args.moves.now in
    err_over _ _ _ (λ told. IsTextOfFiles told (string_bytes c.in_ok-text.text)) (λ told. IsWalkCaused (asks told)) c.lines_over.result c.in_ok-text.ensures.ok
    (λ told read. err_walk (asks told) c.lines_over.result c.as_str.result.now c.in_ok-tables.ensures.sound (subst (IsTextOfFiles told) (sym c.as_str.ensures.value) read) c.lines_over.ensures.fault)

pub returns-clause-ok : goal.returns-clause-ok
returns-clause-ok g c =
    let asks : List (List ℕ) → Asked = λ told. asked c.args.ucd.now c.args.width c.args.base told c.args.place c.args.moves.now in
    ok_over _ _ (λ told. IsTextOfFiles told (string_bytes c.in_ok-text.text)) (λ told lines. IsWalked (asks told) (string_bytes lines)) c.lines_over.result c.in_ok-text.ensures.ok
    (λ told read. ok_walk (asks told) string_bytes c.lines_over.result c.as_str.result.now _ c.in_ok-tables.ensures.ok c.in_ok-tables.ensures.sound (subst (IsTextOfFiles told) (sym c.as_str.ensures.value) read) c.lines_over.ensures.within c.lines_over.ensures.lines)

pub returns-in_err-tables-clause-asked : goal.returns-in_err-tables-clause-asked
returns-in_err-tables-clause-asked g c = none_were_asked _
