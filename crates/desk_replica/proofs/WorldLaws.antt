-- The order and the texts of the desks of a world.
use Rattle.std.proofs.Common.{◌≡◌, ℕ, zero, List, [], ◌∷◌, refl, ◌↔◌, arith}
use Rattle.std.specs.Prelude.{Contains, filter}
use Rattle.std.specs.declared.cmp.Ordering.TheVariants.{Less}
use Rattle.bg_types.specs.Identifier.{Identifier, id_cmp}
use Rattle.bg_types.specs.OperationSet.{OperationSet, AllWellFormed, Agree, Holds}
use Rattle.bg_types.specs.declared.op.Place.{Place}
use Rattle.bg_types.specs.declared.op.Place.TheVariants.{Root}
use Rattle.bg_types.specs.declared.op.OpView.{OpView}
use Rattle.bg_types.proofs.Interface.{same_operations}
use Rattle.rga_tree.specs.Walk.{walk}
use Rattle.rga_tree.specs.Order.{Precedes}
use Rattle.rga_tree.specs.Stretch.{IsChild, IsRun, IsLeftOf}
use Rattle.rga_tree.specs.Attached.{IsAttached, is_attached}
use Rattle.rga_tree.proofs.Interface.{AllWellFormed-part, IsAttached-more, inserted_part, walk-sub_walk, Precedes-agree, Precedes-part, runs_at_one_place}
use Rattle.std.proofs.lemmas.List.Elements.{Contains-append_left}
use Rattle.desk_replica.specs.DeskSets.{set_at}
use Rattle.desk_replica.specs.WorldStep.{WorldState}
use Rattle.desk_replica.specs.WorldRun.{IsLater, IsWorld, all_made}
use Rattle.desk_replica.proofs.Worlds.{IsSound, agree_parts}
use Rattle.desk_replica.proofs.WorldRuns.{IsSound-world, IsSound-later, desk_later}

-- what a desk of a world holds is well formed
pub well_formed_there : (sites : List ℕ) (w : WorldState) → IsSound sites w → (d : ℕ) → AllWellFormed (set_at w.sets d)
well_formed_there sites w sound d = AllWellFormed-part (set_at w.sets d) (all_made w) sound.well_formed (sound.part d)

module _ (sites : List ℕ) (w v : WorldState) (world : IsWorld sites w) (later : IsLater sites w v) where
  sound_w : IsSound sites w
  sound_w = IsSound-world sites w world

  sound_v : IsSound sites v
  sound_v = IsSound-later sites w v world later

  pub agree_worlds : (d e : ℕ) → Agree (set_at w.sets d) (set_at v.sets e)
  agree_worlds d e = agree_parts (set_at w.sets d) (set_at v.sets e) (all_made v) (desk_later sites w v world later d) (sound_v.part e)

  pub walk_worlds : (d : ℕ) → walk (set_at w.sets d) Root ≡ filter (λ e. is_attached (set_at w.sets d) e.0) (walk (all_made v) Root)
  walk_worlds d = walk-sub_walk (set_at w.sets d) (all_made v) sound_v.well_formed (desk_later sites w v world later d)

  pub order_worlds : (d e : ℕ) (a b : Identifier) → IsAttached (set_at w.sets d).ins a → IsAttached (set_at w.sets d).ins b → IsAttached (set_at v.sets e).ins a → IsAttached (set_at v.sets e).ins b
      → Precedes (set_at w.sets d) a b ↔ Precedes (set_at v.sets e) a b
  order_worlds d e a b = Precedes-agree (set_at w.sets d) (set_at v.sets e) (well_formed_there sites w sound_w d) (well_formed_there sites v sound_v e) (agree_worlds d e) a b

module _ (sites : List ℕ) (w : WorldState) (world : IsWorld sites w) (d : ℕ) where
  abbrev s : OperationSet
  s = set_at w.sets d

  sound : IsSound sites w
  sound = IsSound-world sites w world

  pub all_delivered : ((op : OpView) → Contains w.made op → Holds s op) → s ≡ all_made w
  all_delivered delivered = same_operations s (all_made w) (λ op. ((λ h. sound.part d op h), (λ h. delivered op ((sound.of_made op).0 h))))

  attached_all : (id : Identifier) → IsAttached s.ins id → IsAttached (all_made w).ins id
  attached_all id at = IsAttached-more s.ins (all_made w).ins (inserted_part s (all_made w) (sound.part d)) at

  pub runs_worlds : (place : Place) (a b : Identifier) (xs ys : List Identifier) → IsChild (all_made w).ins place a → IsChild (all_made w).ins place b → IsRun (all_made w).ins (a ∷ xs) → IsRun (all_made w).ins (b ∷ ys)
      → ((id : Identifier) → Contains (a ∷ xs) id → IsAttached s.ins id) → ((id : Identifier) → Contains (b ∷ ys) id → IsAttached s.ins id) → id_cmp b a ≡ Less → IsLeftOf s (a ∷ xs) (b ∷ ys)
  runs_worlds place a b xs ys child_a child_b run_a run_b at_a at_b less x y in_a in_b =
      Precedes-part s (all_made w) sound.well_formed (sound.part d) x y (at_a x in_a) (at_b y in_b)
      (runs_at_one_place (all_made w) sound.well_formed place a b xs ys (attached_all a (at_a a (here a xs))) (attached_all b (at_b b (here b ys))) child_a child_b run_a run_b less x y in_a in_b)
    where
      here : (c : Identifier) (zs : List Identifier) → Contains (c ∷ zs) c
      here c zs = Contains-append_left (c ∷ []) zs c (zero, omega arith, refl)
