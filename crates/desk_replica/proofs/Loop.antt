-- One turn of the loop that places what is ready.
use Rattle.std.proofs.Common.{◌≡◌, ◌<◌, ◌+◌, Bool, true, false, not, cond, Option, None, Some, sym, ap, ◌∙◌, refl, true≢false, is_some}
use Rattle.std.specs.Prelude.{◌||◌, ◌&&◌}
use Rattle.std.specs.Option.{option_map_or}
use Rattle.std.specs.FinMap as map
use Rattle.std.specs.FinSet as set
use Rattle.bg_types.specs.Identifier.{Identifier, id_cmp, same_id}
use Rattle.bg_types.specs.OperationSet.{Node, OperationSet, AllWellFormed, union}
use Rattle.bg_types.specs.declared.op.Place.{Place}
use Rattle.bg_types.specs.declared.op.Place.TheVariants.{Root, After}
use Rattle.bg_types.specs.declared.op.OpView.{OpView}
use Rattle.bg_types.specs.declared.op.OpView.TheVariants.{Insert, Erase}
use Rattle.bg_types.proofs.Interface.{id_cmp-total}
use Rattle.pending_ops.specs.Waiting.{Waiting, HandsOut, TakesOut, NoneReady, follows, is_ready, is_released}
use Rattle.pending_ops.specs.Releasing.{PlacesOne}
use Rattle.desk_replica.specs.Placement.{IsParted, IsSettled, MayPlace, Places, PlacesIn}
use Rattle.desk_replica.proofs.Whole.{some_not}
use Rattle.desk_replica.proofs.PlacedOne.{Stepped, parted_now, same_now, in_tree, del_tree, ins_held, del_held}
use Rattle.desk_replica.proofs.Sizes.{of_map, map_positive}
use Rattle.pending_ops.proofs.Interface.{is_ready-same}

-- where nothing is released nothing is ready
pub none_ready : (w : Waiting) → w.released ≡ set.empty → NoneReady w
none_ready w e q = by (map.get w.held.ins q)
  where
    by_place : (a : Place) → is_released w a ≡ false
    by_place Root = refl
    by_place (After p) = ap (λ s. set.contains s p) e ∙ set.contains-empty id_cmp p

    by : (o : Option Node) → option_map_or (λ (n : Node). is_released w n.parent) o false ≡ false
    by None = refl
    by (Some n) = by_place n.parent

pub stepped : (t : OperationSet) (w taken : Waiting) (id : Identifier) (node : Node) (u : OperationSet) (v : Waiting) → HandsOut w id node taken → PlacesIn t taken (id, node) u v
    → Stepped t w.held (is_ready w) id node u v.held (is_ready v)
stepped t w taken id node u v out p = record {
  was = out.was_held;
  placed_ins = in_tree t taken id node u v p;
  placed_del = λ q. del_tree t taken id node u v p q ∙ ap (λ (x : OperationSet). (same_id q id && set.contains x.del id) || set.contains t.del q) out.held;
  held_ins = λ q. ap (λ m. map.get m q) (ins_held t taken id node u v p ∙ ap (λ (x : OperationSet). x.ins) out.held) ∙ map.get-remove id_cmp-total w.held.ins id q;
  held_del = λ q. del_held t taken id node u v p q ∙ ap (λ (x : OperationSet). not (same_id q id) && set.contains x.del q) out.held;
  ready_next = λ q. p.releases.ready q ∙ (λ i. (is_ready-same p.rest taken (ap (λ (x : OperationSet). x.ins) p.held) p.released q ∙ out.ready q) i || follows (sym p.releases.held i) id q);
}

-- what one turn keeps
pub record AfterTurn (t : OperationSet) (w : Waiting) (u : OperationSet) (v : Waiting) : Type 0 where
  pub parted : IsParted u v.held (is_ready v)
  pub same : union u v.held ≡ union t w.held
  pub fewer : map.len v.held.ins + 1 ≡ map.len w.held.ins
  pub room : v.room ≡ w.room
  pub formed : AllWellFormed w.held → AllWellFormed v.held

pub formed_rest : (h v : OperationSet) (id : Identifier) → ((q : Identifier) → map.get v.ins q ≡ cond (same_id q id) None (map.get h.ins q)) → ((q : Identifier) → set.contains v.del q ≡ (not (same_id q id) && set.contains h.del q))
    → AllWellFormed h → AllWellFormed v
formed_rest h v id ins del well (Insert q parent ch) held = well (Insert q parent ch) (by (same_id q id) (sym (ins q) ∙ held))
  where
    by : (b : Bool) → cond b None (map.get h.ins q) ≡ Some (record { parent = parent; ch = ch }) → map.get h.ins q ≡ Some (record { parent = parent; ch = ch })
    by true e = some_not (record { parent = parent; ch = ch }) _ e
    by false e = e
formed_rest h v id ins del well (Erase q) held = well (Erase q) (by (same_id q id) (sym (del q) ∙ held))
  where
    by : (b : Bool) → (not b && set.contains h.del q) ≡ true → set.contains h.del q ≡ true
    by true e = absurd (true≢false (sym e))
    by false e = e

pub turn : (t : OperationSet) (w taken : Waiting) (op : OpView) (u : OperationSet) (v : Waiting) → IsParted t w.held (is_ready w) → TakesOut w op taken → Places t taken op u v → AfterTurn t w u v
turn t w taken (Insert id parent ch) u v d takes places =
    let node : Node = record { parent = parent; ch = ch } in
    let s = stepped t w taken id node u v takes places in
    record {
      parted = parted_now t w.held (is_ready w) id node u v.held (is_ready v) d s;
      same = same_now t w.held (is_ready w) id node u v.held (is_ready v) d s;
      fewer = ap (λ m. map.len m + 1) (ins_held t taken id node u v places ∙ ap (λ (x : OperationSet). x.ins) takes.held) ∙ of_map.size_cut w.held.ins id (ap is_some takes.was_held);
      room = places.releases.room ∙ places.room ∙ takes.room;
      formed = formed_rest w.held v.held id s.held_ins s.held_del;
    }
turn t w taken (Erase target) u v d takes places = absurd takes

-- and what it makes of what waits
pub places_one : (t : OperationSet) (w taken : Waiting) (op : OpView) (u : OperationSet) (v : Waiting) → TakesOut w op taken → Places t taken op u v → PlacesOne w op v
places_one t w taken (Insert id parent ch) u v takes places = record {
  taken = taken;
  rest = places.rest;
  takes = takes;
  insertions = ap (λ (x : OperationSet). x.ins) places.held;
  released = places.released;
  releases = places.releases;
}
places_one t w taken (Erase target) u v takes places = absurd takes

pub may_place : (t : OperationSet) (w taken : Waiting) (op : OpView) → IsParted t w.held (is_ready w) → TakesOut w op taken → MayPlace t op
may_place t w taken (Insert id parent ch) d takes = (
  d.stands id (record { parent = parent; ch = ch }) takes.was_held takes.was_ready,
  by (map.get t.ins id) refl,
) where
  by : (o : Option Node) → map.get t.ins id ≡ o → map.contains_key t.ins id ≡ false
  by None e = ap is_some e
  by (Some n) e = some_not (record { parent = parent; ch = ch }) (map.contains_key t.ins id ≡ false) (sym (d.apart id (ap is_some e)) ∙ takes.was_held)
may_place t w taken (Erase target) d takes = absurd takes

-- what is taken out was held
pub some_held : (w taken : Waiting) (op : OpView) → TakesOut w op taken → 0 < map.len w.held.ins
some_held w taken (Insert id parent ch) takes = map_positive w.held.ins (map.len w.held.ins) id refl (ap is_some takes.was_held)
some_held w taken (Erase target) takes = absurd takes

-- where nothing is ready any more, the rest waits
pub settled : (t : OperationSet) (w : Waiting) → IsParted t w.held (is_ready w) → w.released ≡ set.empty → AllWellFormed w.held → IsSettled t w
settled t w d e well = record {
  parted = record {
    apart = d.apart;
    stands = λ q n h r. absurd (true≢false (sym r));
    waits = λ q n h r. d.waits q n h (none_ready w e q);
    early = d.early;
  };
  none_released = e;
  well_formed = well;
}
