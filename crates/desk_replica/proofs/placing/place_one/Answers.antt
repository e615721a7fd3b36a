-- The goals of `place_one` that are answered by hand.
use Rattle.std.proofs.Common.{ap, sym, subst, ◌∙◌}
use Rattle.bg_types.specs.WellFormed.{IsWellFormed}
use Rattle.bg_types.specs.declared.op.OpView.{OpView}
use Rattle.bg_types.specs.declared.op.OpView.TheVariants.{Insert}
use Rattle.rga_tree.specs.declared.element.Element.{Element}
use Rattle.rga_tree.specs.Elements.{with_element}
use Rattle.desk_replica.specs.Placement.{MayPlace, Places}
use Rattle.desk_replica.proofs.Leaf.{one_more}
use Rattle.bg_types.specs.declared.change.Change.TheVariants.{Put}
use Rattle.rga_tree.specs.TextOf.{visible_before}
use Rattle.desk_replica.proofs.Tellings.{tells_placed, shows_placed, one_told}
use Rattle.desk_replica.proofs.Hearing.{there_now}
use Rattle.desk_replica.proofs.placing.place_one.Goals as goal

pub returns-clause-places : goal.returns-clause-places
returns-clause-places g c =
    let t = g.S.Sequence.content c.args.seq.now in
    let u = g.S.Sequence.content c.place.new.self in
    subst (λ o. Places t c.args.held.now o u c.release_of.new.self) c.in-Insert.ensures.value (record {
      rest = c.drop_erasure-hidden.new.self;
      tree = c.place.ensures.content ∙ ap (λ b. with_element t (record { id = c.in-Insert.id; parent = c.in-Insert.parent; ch = c.in-Insert.ch; hidden = b })) c.drop_erasure-hidden.ensures.found;
      held = c.drop_erasure-hidden.ensures.dropped;
      released = c.drop_erasure-hidden.ensures.released;
      room = c.drop_erasure-hidden.ensures.room;
      releases = c.release_of.ensures;
    })

pub returns-clause-grows : goal.returns-clause-grows
returns-clause-grows g c =
    let t = g.S.Sequence.content c.args.seq.now in
    let u = g.S.Sequence.content c.place.new.self in
    let op : OpView = Insert c.in-Insert.id c.in-Insert.parent c.in-Insert.ch in
    let e : Element = record { id = c.in-Insert.id; parent = c.in-Insert.parent; ch = c.in-Insert.ch; hidden = c.drop_erasure-hidden.result } in
    let may : MayPlace t op = subst (MayPlace t) (sym c.in-Insert.ensures.value) c.requires.may in
    let is : IsWellFormed op = subst IsWellFormed (sym c.in-Insert.ensures.value) c.in-Insert.ensures.well_formed in
    one_more t u e c.place.ensures.content (g.met.S.Sequence.well_formed c.args.seq.now) (g.met.S.Sequence.is_tree c.args.seq.now) is may.0 may.1

pub tell_placed-requires-clause-placed : goal.tell_placed-requires-clause-placed
tell_placed-requires-clause-placed g c =
    there_now (g.S.Sequence.content c.args.seq.now) (g.S.Sequence.content c.place.new.self) c.in-Insert.id c.in-Insert.parent c.in-Insert.ch c.drop_erasure-hidden.result c.place.ensures.content

pub returns-clause-told : goal.returns-clause-told
returns-clause-told g c =
    let t = g.S.Sequence.content c.args.seq.now in
    let op : OpView = Insert c.in-Insert.id c.in-Insert.parent c.in-Insert.ch in
    let may : MayPlace t op = subst (MayPlace t) (sym c.in-Insert.ensures.value) c.requires.may in
    let is : IsWellFormed op = subst IsWellFormed (sym c.in-Insert.ensures.value) c.in-Insert.ensures.well_formed in
    tells_placed t c.in-Insert.id c.in-Insert.parent c.in-Insert.ch (record { well = g.met.S.Sequence.well_formed c.args.seq.now; tree = g.met.S.Sequence.is_tree c.args.seq.now; only = g.met.S.Sequence.only_placed c.args.seq.now })
    is may.0 may.1 (g.S.Sequence.content c.place.new.self) c.drop_erasure-hidden.result (g.L.Listener.told c.args.listener.now) (g.L.Listener.told c.tell_placed.new.listener) (g.met.S.Sequence.well_formed c.place.new.self) c.place.ensures.content c.tell_placed.ensures.told

pub returns-clause-few : goal.returns-clause-few
returns-clause-few g c =
    one_told c.drop_erasure-hidden.result (Put (visible_before (g.S.Sequence.content c.place.new.self) c.in-Insert.id) c.in-Insert.ch) (g.L.Listener.told c.args.listener.now) (g.L.Listener.told c.tell_placed.new.listener) c.tell_placed.ensures.told

pub returns-clause-shows : goal.returns-clause-shows
returns-clause-shows g c =
    let t = g.S.Sequence.content c.args.seq.now in
    let op : OpView = Insert c.in-Insert.id c.in-Insert.parent c.in-Insert.ch in
    let may : MayPlace t op = subst (MayPlace t) (sym c.in-Insert.ensures.value) c.requires.may in
    let is : IsWellFormed op = subst IsWellFormed (sym c.in-Insert.ensures.value) c.in-Insert.ensures.well_formed in
    shows_placed t c.in-Insert.id c.in-Insert.parent c.in-Insert.ch (record { well = g.met.S.Sequence.well_formed c.args.seq.now; tree = g.met.S.Sequence.is_tree c.args.seq.now; only = g.met.S.Sequence.only_placed c.args.seq.now })
    is may.0 may.1 (g.S.Sequence.content c.place.new.self) c.drop_erasure-hidden.result c.place.ensures.content
