-- The goals of `take_files` that are answered by hand.
use Rattle.std.proofs.Common.{◌≡◌, ◌+◌, ◌++◌, length, sym, ap, ◌∙◌, arith}
use Rattle.std.specs.Prelude.{ℕ, List}
use Rattle.std.specs.List.{range_with_len}
use Rattle.std.specs.Global.{Vec}
use Rattle.std.proofs.lemmas.List.{length-map}
use Rattle.bg_types.specs.declared.op.OpView.{OpView}
use Rattle.desk_runs.specs.Setting.{files_in}
use Rattle.desk_runs.specs.Round.{file_takes, files_takes, nth_turn, turn}
use Rattle.desk_runs.proofs.Takes.{taken_nothing, takes_done, takes_ended, takes_all}
use Rattle.desk_runs.proofs.Rounds.{turn_takes, before, before-next, before-begins, before-all, flat-each}
use Rattle.desk_runs.proofs.replaying.round.take_files.Goals as goal

-- what was taken last is the piece of this number
next_piece : (files : List (List OpView)) (desk behind file : ℕ) → file ≡ nth_turn (length files) desk behind → before (turn_takes files desk) 0 behind ++ file_takes files desk file ≡ before (turn_takes files desk) 0 (behind + 1)
next_piece files desk behind file is = ap (λ f. before (turn_takes files desk) 0 behind ++ file_takes files desk f) is ∙ before-next (turn_takes files desk) 0 behind (omega arith)

pub loop-behind-init : goal.loop-behind-init
loop-behind-init c = taken_nothing c.args.setting.now c.args.desks.now

pub nth_turn-file-requires-clause-first : goal.nth_turn-file-requires-clause-first
nth_turn-file-requires-clause-first c = c.requires.at_least

pub take_file-requires-clause-file_at_most : goal.take_file-requires-clause-file_at_most
take_file-requires-clause-file_at_most c = let most = c.nth_turn-file.ensures.at_most in omega (arith, most)

pub loop-behind-preserved : goal.loop-behind-preserved
loop-behind-preserved c =
    let files = files_in c.args.setting.now in
    let desk = c.args.desk in
    let behind = c.loop-behind.behind in
    let file = c.nth_turn-file.result in
    let many = length-map c.args.setting.now.files.now (λ (f : Vec OpView). f.items) in
    let is : file ≡ nth_turn (length files) desk behind = c.nth_turn-file.ensures.turn ∙ ap (λ k. nth_turn k desk behind) (sym many) in
    takes_done (file_takes files desk file) c.in_ok-take_file.field-0 c.loop-behind.invariant (next_piece files desk behind file is) c.in_ok-take_file.ensures

pub returns-in_err-take_file : goal.returns-in_err-take_file
returns-in_err-take_file c =
    let files = files_in c.args.setting.now in
    let desk = c.args.desk in
    let behind = c.loop-behind.behind in
    let file = c.nth_turn-file.result in
    let many = length-map c.args.setting.now.files.now (λ (f : Vec OpView). f.items) in
    let is : file ≡ nth_turn (length files) desk behind = c.nth_turn-file.ensures.turn ∙ ap (λ k. nth_turn k desk behind) (sym many) in
    let test = c.loop-behind-test.true in
    let begins = before-begins (turn_takes files desk) 0 (length files) (files_takes files desk (turn (length files) desk)) (flat-each (file_takes files desk) (nth_turn (length files) desk) (range_with_len 0 (length files)))
    behind (omega arith) (omega (arith, test, many)) in
    takes_ended (file_takes files desk file) c.loop-behind.invariant (next_piece files desk behind file is) begins c.take_file.new.desks c.take_file.new.desks
    c.from_residual.result c.in_err-take_file.field-0.0 c.from_residual.ensures.1 c.in_err-take_file.ensures

pub returns : goal.returns
returns c =
    let files = files_in c.args.setting.now in
    let desk = c.args.desk in
    let many = length-map c.args.setting.now.files.now (λ (f : Vec OpView). f.items) in
    let test = c.loop-behind-test.false in
    let end = c.loop-behind.auto.behind-end in
    takes_all tt c.loop-behind.invariant
    (before-all (turn_takes files desk) 0 (length files) (files_takes files desk (turn (length files) desk)) (flat-each (file_takes files desk) (nth_turn (length files) desk) (range_with_len 0 (length files)))
    c.loop-behind.behind (omega arith) (omega (arith, test, end, many)))
