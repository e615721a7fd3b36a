-- One turn of the loop of taking, placing and releasing.
use Rattle.std.proofs.Common.{◌≡◌, ℕ, Bool, true, false, not, cond, Option, None, Some, sym, ap, ◌∙◌, refl, true≢false, is_some}
use Rattle.std.specs.Prelude.{◌||◌, ◌&&◌}
use Rattle.std.specs.Option.{option_map_or}
use Rattle.std.specs.FinMap as map
use Rattle.std.specs.FinSet as set
use Rattle.bg_types.specs.Identifier.{Identifier, same_id}
use Rattle.bg_types.specs.OperationSet.{Node, OperationSet}
use Rattle.bg_types.specs.declared.op.Place.{Place}
use Rattle.bg_types.specs.declared.op.Place.TheVariants.{Root, After}
use Rattle.bg_types.specs.declared.op.OpView.TheVariants.{Insert, Erase}
use Rattle.bg_types.proofs.Interface.{id_cmp-total}
use Rattle.pending_ops.specs.Waiting.{Waiting, follows, is_after, is_ready, is_released}
use Rattle.pending_ops.specs.Releasing.{PlacesOne}
use Rattle.pending_ops.proofs.Tables.{one_of}
use Rattle.std.proofs.lemmas.Bool.{and_parts}

-- one insertion was held and ready, is no longer held, and what stands right after it is ready too
pub record Steps (old : Waiting) (id : Identifier) (node : Node) (new : Waiting) : Type 0 where
  pub held : map.get old.held.ins id ≡ Some node
  pub ready : is_ready old id ≡ true
  pub ins : (q : Identifier) → map.get new.held.ins q ≡ cond (same_id q id) None (map.get old.held.ins q)
  pub ready_then : (q : Identifier) → is_ready new q ≡ (not (same_id q id) && (is_ready old q || follows old.held id q))

pub place_released : (v w : Waiting) → v.released ≡ w.released → (a : Place) → is_released v a ≡ is_released w a
place_released v w e Root = refl
place_released v w e (After p) = ap (λ s. set.contains s p) e

-- what is ready goes by the insertions and by what was released
pub is_ready-same : (v w : Waiting) → v.held.ins ≡ w.held.ins → v.released ≡ w.released → (q : Identifier) → is_ready v q ≡ is_ready w q
is_ready-same v w ins released q = ap (λ m. option_map_or (λ (n : Node). is_released v n.parent) (map.get m q) false) ins ∙ by (map.get w.held.ins q)
  where
    by : (o : Option Node) → option_map_or (λ (n : Node). is_released v n.parent) o false ≡ option_map_or (λ (n : Node). is_released w n.parent) o false
    by None = refl
    by (Some n) = place_released v w released n.parent

pub and_or : (a b c : Bool) → ((a && b) || (a && c)) ≡ (a && (b || c))
and_or true b c = refl
and_or false b c = refl

pub after_cut : (b : Bool) (o : Option Node) (p : Identifier) → option_map_or (λ (n : Node). is_after n.parent p) (cond b None o) false ≡ (not b && option_map_or (λ (n : Node). is_after n.parent p) o false)
after_cut true o p = refl
after_cut false o p = refl

pub step_of : (old new : Waiting) (id : Identifier) (parent : Place) (ch : ℕ) → PlacesOne old (Insert id parent ch) new → Steps old id (record { parent = parent; ch = ch }) new
step_of old new id parent ch s = record {
  held = s.takes.was_held;
  ready = s.takes.was_ready;
  ins = λ q. ap (λ (x : OperationSet). map.get x.ins q) s.releases.held ∙ cut q;
  ready_then = λ q.
      s.releases.ready q
      ∙ (λ i. (is_ready-same s.rest s.taken s.insertions s.released q ∙ s.takes.ready q) i || (ap (λ o. option_map_or (λ (n : Node). is_after n.parent id) o false) (cut q)
      ∙ after_cut (same_id q id) (map.get old.held.ins q) id) i)
      ∙ and_or (not (same_id q id)) (is_ready old q) (follows old.held id q);
}
  where
    cut : (q : Identifier) → map.get s.rest.held.ins q ≡ cond (same_id q id) None (map.get old.held.ins q)
    cut q = ap (λ m. map.get m q) (s.insertions ∙ ap (λ (x : OperationSet). x.ins) s.takes.held) ∙ map.get-remove id_cmp-total old.held.ins id q

pub no_erasure : (old new : Waiting) (target : Identifier) → PlacesOne old (Erase target) new → ⊥
no_erasure old new target s = s.takes

-- what is held after a step was held before it
pub back : (b : Bool) (o : Option Node) (n : Node) → cond b None o ≡ Some n → (b ≡ false) × (o ≡ Some n)
back true o n e = let f : None ≡ Some n = e in absurd cc
back false o n e = (refl, e)

pub some_back : (b : Bool) (o : Option Node) → is_some (cond b None o) ≡ true → (b ≡ false) × (is_some o ≡ true)
some_back true o e = absurd (true≢false (sym e))
some_back false o e = (refl, e)

pub not_and : (a b : Bool) → a ≡ false → b ≡ true → (not a && b) ≡ true
not_and a b f g = (λ i. not (f i) && g i)

-- a test that is true, or false, as it is
pub decided : (b : Bool) (P : Type 0) → (b ≡ true → P) → (b ≡ false → P) → P
decided true P f g = f refl
decided false P f g = g refl

-- what follows after a step followed before it
pub follows_back : (old new : Waiting) (id : Identifier) (node : Node) → Steps old id node new → (p q : Identifier) → follows new.held p q ≡ true → follows old.held p q ≡ true
follows_back old new id node s p q h =
    (and_parts (not (same_id q id)) (follows old.held p q)
    (sym (ap (λ o. option_map_or (λ (n : Node). is_after n.parent p) o false) (s.ins q) ∙ after_cut (same_id q id) (map.get old.held.ins q) p) ∙ h)).1

pub ready_back : (old new : Waiting) (id : Identifier) (node : Node) → Steps old id node new → (q : Identifier) (P : Type 0) → is_ready new q ≡ true
    → (is_ready old q ≡ true → P) → (follows old.held id q ≡ true → P) → P
ready_back old new id node s q P r = one_of (is_ready old q) (follows old.held id q) P (and_parts (not (same_id q id)) (is_ready old q || follows old.held id q) (sym (s.ready_then q) ∙ r)).1
