-- The goals of `rehome` that are answered by hand.
use Rattle.std.proofs.Common.{◌≡◌, ◌∙◌, sym, ap, subst, take}
use Rattle.std.specs.Prelude.{IsSome}
use Rattle.std.specs.HashMap.{get}
use Rattle.std.specs.List.{list_any}
use Rattle.bg_types.specs.Identifier.{same_id}
use Rattle.rga_sequence.specs.Grouped.{group_of, home_in}
use Rattle.rga_sequence.proofs.Groups.{some_group}
use Rattle.rga_sequence.proofs.Homes.{id_eq, all_at, at_home, home_step}
use Rattle.rga_sequence.proofs.index.rehome.Goals as goal

pub unwrap-place-requires : goal.unwrap-place-requires
unwrap-place-requires c =
    let e = c.e-item.result in
    let old = c.args.index.now in
    let index = c.loop-e.index in
    let was : IsSome (home_in id_eq old e.id) = all_at (λ e. IsSome (home_in id_eq old e.id)) c.args.moved.now c.loop-e.e-index e c.requires.known c.loop-e-test.true c.e-item.is in
    let now : IsSome (home_in id_eq index e.id) = subst (λ o. IsSome o) (sym (c.loop-e.invariant.home e.id)) (at_home (list_any (λ x. same_id e.id x.id) (take c.loop-e.e-index c.args.moved.now)) c.args.number (home_in id_eq old e.id) was) in
    let found : c.find.result ≡ get id_eq index.groups (group_of e.id) = c.find.ensures ∙ ap (get id_eq index.groups) c.group.ensures in
    subst (λ o. IsSome o) (sym found) (some_group index.numbers.items e.id (get id_eq index.groups (group_of e.id)) now)

pub write-requires-clause-place : goal.write-requires-clause-place
write-requires-clause-place c = sym (c.find.ensures ∙ ap (get id_eq c.loop-e.index.groups) c.group.ensures) ∙ c.unwrap-place.ensures

pub loop-e-preserved : goal.loop-e-preserved
loop-e-preserved c =
    let e = c.e-item.result in
    record {
      home = home_step (home_in id_eq c.loop-e.index) (home_in id_eq c.write.new.index) (home_in id_eq c.args.index.now) c.args.moved.now c.loop-e.e-index e c.args.number c.loop-e-test.true c.e-item.is c.loop-e.invariant.home c.write.ensures.homes;
      grouped = c.write.ensures.grouped;
      room = λ n room. c.write.ensures.room n (c.loop-e.invariant.room n room);
    }
