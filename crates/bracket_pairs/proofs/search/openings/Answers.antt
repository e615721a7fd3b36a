-- The goals of `openings` that are answered by hand.
use Rattle.std.proofs.Common.{◌≡◌, ◌∙◌, refl, ap, sym, length, arith}
use Rattle.std.proofs.lemmas.Bool.{false≢true}
use Rattle.std.proofs.lemmas.Bool.Decides.{nat_tests}
use Rattle.bracket_pairs.specs.declared.role.Role.TheVariants.{Opening, Closing, Neither}
use Rattle.bracket_pairs.specs.Pairs.{roles, role_at, opens}
use Rattle.bracket_pairs.proofs.SearchSteps.{searched-is, step-open, step-neither, step-unmatched, step-matched, matched-within}
use Rattle.bracket_pairs.proofs.SearchEnd.{role-read, length-roles, opens-nowhere, end-all, end-full, end-pairs, end-order}
use Rattle.bracket_pairs.proofs.search.openings.Goals as goal
use Rattle.bracket_pairs.proofs.search.openings.Goals.{in-Opening+else-is_full+in_ok-push-in-Opening, in-Closing+in-Some, in-Closing+in_default, in-Neither, else-loop-place-test, then-loop-place-test+in-Opening+then-is_full}

pub index_mut-requires : goal.index_mut-requires
index_mut-requires c =
    let role : role_at (roles c.args.tables.now c.args.chars.now c.args.types.now) c.loop-place.place ≡ Closing c.in-Closing.c =
    role-read c.args.tables.now c.args.chars.now c.args.types.now c.loop-place.place c.index-chars-place.result _ c.role_of.result (Closing c.in-Closing.c)
    c.requires (omega arith) c.index-chars-place.is c.role_of.ensures c.in-Closing.is in
    let within = matched-within (roles c.args.tables.now c.args.chars.now c.args.types.now) c.loop-place.place
    c.in-Closing.c c.in-Some.waiting c.loop-place.stack.items c.close.new.stack.items c.loop-place.openings.items c.loop-place.invariant role c.in-Some.ensures in
    omega arith

pub loop-place-preserved : goal.loop-place-preserved
loop-place-preserved c =
    let rs = roles c.args.tables.now c.args.chars.now c.args.types.now in
    elim c.match-role_of.branch [
      | in-Opening+else-is_full+in_ok-push-in-Opening w ↦
          let role : role_at (roles c.args.tables.now c.args.chars.now c.args.types.now) c.loop-place.place ≡ Opening w.in-Opening.partner =
          role-read c.args.tables.now c.args.chars.now c.args.types.now c.loop-place.place c.index-chars-place.result _ c.role_of.result (Opening w.in-Opening.partner)
          c.requires (omega arith) c.index-chars-place.is c.role_of.ensures w.in-Opening.is in
          searched-is _ _ _ _ _ _ (cc) (rw w.openings-is w.in_ok-push-in-Opening.ensures.items)
          (step-open rs c.loop-place.place w.in-Opening.partner w.len-number.result
          c.loop-place.stack.items c.loop-place.openings.items c.loop-place.invariant role (grind (arith, nat_tests)) (w.len-number.ensures ∙ c.loop-place.openings.ok.0))
      | in-Closing+in-Some w ↦
          let role : role_at (roles c.args.tables.now c.args.chars.now c.args.types.now) c.loop-place.place ≡ Closing w.in-Closing.c =
          role-read c.args.tables.now c.args.chars.now c.args.types.now c.loop-place.place c.index-chars-place.result _ c.role_of.result (Closing w.in-Closing.c)
          c.requires (omega arith) c.index-chars-place.is c.role_of.ensures w.in-Closing.is in
          searched-is _ _ _ _ _ _ (cc) (rw w.openings-is refl)
          (step-matched rs c.loop-place.place w.in-Closing.c w.in-Some.waiting
          c.loop-place.stack.items w.close.new.stack.items c.loop-place.openings.items c.loop-place.invariant role w.in-Some.ensures)
      | in-Closing+in_default w ↦
          let role : role_at (roles c.args.tables.now c.args.chars.now c.args.types.now) c.loop-place.place ≡ Closing w.in-Closing.c =
          role-read c.args.tables.now c.args.chars.now c.args.types.now c.loop-place.place c.index-chars-place.result _ c.role_of.result (Closing w.in-Closing.c)
          c.requires (omega arith) c.index-chars-place.is c.role_of.ensures w.in-Closing.is in
          searched-is _ _ _ _ _ _ (rw w.stack-is w.in_default.ensures.1) (cc)
          (step-unmatched rs c.loop-place.place w.in-Closing.c
          c.loop-place.stack.items c.loop-place.openings.items c.loop-place.invariant role w.in_default.ensures.0)
      | in-Neither w ↦
          let role : role_at (roles c.args.tables.now c.args.chars.now c.args.types.now) c.loop-place.place ≡ Neither =
          role-read c.args.tables.now c.args.chars.now c.args.types.now c.loop-place.place c.index-chars-place.result _ c.role_of.result Neither
          c.requires (omega arith) c.index-chars-place.is c.role_of.ensures w.in-Neither.is in
          searched-is _ _ _ _ _ _ (cc) (cc)
          (step-neither rs c.loop-place.place c.loop-place.stack.items c.loop-place.openings.items c.loop-place.invariant role)
    ]

-- memory is taken at an opening bracket alone
pub returns-in_err-push-in-Opening-clause-none : goal.returns-in_err-push-in-Opening-clause-none
returns-in_err-push-in-Opening-clause-none c = λ none.
    let rs = roles c.args.tables.now c.args.chars.now c.args.types.now in
    let role : role_at (roles c.args.tables.now c.args.chars.now c.args.types.now) c.loop-place.place ≡ Opening c.in-Opening.partner =
    role-read c.args.tables.now c.args.chars.now c.args.types.now c.loop-place.place c.index-chars-place.result _ c.role_of.result (Opening c.in-Opening.partner)
    c.requires (omega arith) c.index-chars-place.is c.role_of.ensures c.in-Opening.is in
    absurd (false≢true (sym (opens-nowhere rs none c.loop-place.place) ∙ ap opens role))

pub returns-clause-pairs : goal.returns-clause-pairs
returns-clause-pairs c =
    let rs = roles c.args.tables.now c.args.chars.now c.args.types.now in
    let len = length-roles c.args.tables.now c.args.chars.now c.args.types.now c.requires in
    end-pairs rs c.loop-place.place c.loop-place.stack.items c.loop-place.openings.items c.loop-place.invariant (omega arith)
    (elim c.loop-place-test.branch [
      | else-loop-place-test w ↦
          end-all rs c.loop-place.place c.loop-place.stack.items c.loop-place.openings.items c.loop-place.invariant (omega arith)
      | then-loop-place-test+in-Opening+then-is_full w ↦
          end-full rs c.loop-place.place w.in-Opening.partner c.loop-place.stack.items c.loop-place.openings.items c.loop-place.invariant (omega arith)
          (role-read c.args.tables.now c.args.chars.now c.args.types.now c.loop-place.place w.index-chars-place.result _ w.role_of.result (Opening w.in-Opening.partner)
          c.requires (omega arith) w.index-chars-place.is w.role_of.ensures w.in-Opening.is)
          (grind (arith, nat_tests))
    ])

pub returns-clause-order : goal.returns-clause-order
returns-clause-order c =
    end-order (roles c.args.tables.now c.args.chars.now c.args.types.now) c.loop-place.place (length c.args.chars.now)
    c.loop-place.stack.items c.loop-place.openings.items c.loop-place.invariant (omega arith)
