-- The order of two identifiers is the same in all sets that agree.
use Rattle.std.proofs.Common.{◌≡◌, ◌⊎◌, inl, inr, Bool, true, false, cond, List, [], ◌∷◌, ◌++◌, refl, sym, ap, subst, ◌∙◌}
use Rattle.std.specs.Prelude.{◌↔◌, map as each, filter}
use Rattle.bg_types.specs.Identifier.{Identifier}
use Rattle.bg_types.specs.OperationSet.{OperationSet, Holds, Agree, AllWellFormed, union}
use Rattle.bg_types.specs.declared.op.OpView.{OpView}
use Rattle.bg_types.specs.declared.op.Place.TheVariants.{Root}
use Rattle.bg_types.proofs.Interface.{Holds-union, same_operations}
use Rattle.rga_tree.specs.Walk.{walk, walked_ids}
use Rattle.rga_tree.specs.TextOf.{text}
use Rattle.rga_tree.specs.Attached.{IsAttached, is_attached}
use Rattle.rga_tree.specs.Parts.{IsPartOf}
use Rattle.rga_tree.specs.Order.{StandsBefore, Precedes, StandsBetween}
use Rattle.rga_tree.proofs.WalkAmong.{Entry}
use Rattle.rga_tree.proofs.WalkDistinct.{IsDistinct-walked}
use Rattle.rga_tree.proofs.SubWalk.{walk-sub_walk, is_attached-test, AllWellFormed-part}
use Rattle.rga_tree.proofs.Lines.{is_among, among_here, among_left, either_way, never_both_ways, in_turn, StandsBefore-filtered, StandsBefore-unfiltered}

pub filter_ids : (p : Identifier → Bool) (es : List Entry) → each (λ e. e.0) (filter (λ e. p e.0) es) ≡ filter p (each (λ e. e.0) es)
filter_ids p [] = refl
filter_ids p (e ∷ es) =
    let rest = filter_ids p es in
    elim (p e.0) as (λ b. each (λ (x : Entry). x.0) (cond b (e ∷ filter (λ x. p x.0) es) (filter (λ x. p x.0) es)) ≡ cond b (e.0 ∷ filter p (each (λ x. x.0) es)) (filter p (each (λ x. x.0) es))) [
      | true ↦ ap (λ r. e.0 ∷ r) rest
      | false ↦ rest
    ]

pub walked_ids-sub_walk : (s t : OperationSet) → AllWellFormed t → IsPartOf s t → walked_ids s ≡ filter (is_attached s) (walked_ids t)
walked_ids-sub_walk s t well part = ap (each (λ (e : Entry). e.0)) (walk-sub_walk s t well part) ∙ filter_ids (is_attached s) (walk t Root)

-- ---- the order of one walk

pub Precedes-attached : (s : OperationSet) → AllWellFormed s → (a b : Identifier) → Precedes s a b → IsAttached s.ins a × IsAttached s.ins b
Precedes-attached s well a b h = (
  (is_attached-test s well a).0 (ap (is_among a) h.in_order ∙ among_left a (h.front ++ a ∷ h.between) (b ∷ h.back) (among_here a h.front h.between)),
  (is_attached-test s well b).0 (ap (is_among b) h.in_order ∙ among_here b (h.front ++ a ∷ h.between) h.back),
)

pub Precedes-either : (s : OperationSet) → AllWellFormed s → (a b : Identifier) → IsAttached s.ins a → IsAttached s.ins b → (a ≡ b → ⊥) → Precedes s a b ⊎ Precedes s b a
Precedes-either s well a b at_a at_b differ = either_way a b (walked_ids s) differ ((is_attached-test s well a).1 at_a) ((is_attached-test s well b).1 at_b)

pub Precedes-never_both : (s : OperationSet) → AllWellFormed s → (a b : Identifier) → Precedes s a b → Precedes s b a → ⊥
Precedes-never_both s well a b = never_both_ways a b (walked_ids s) (IsDistinct-walked s well)

pub Precedes-in_turn : (s : OperationSet) → AllWellFormed s → (a b c : Identifier) → Precedes s a b → Precedes s b c → Precedes s a c
Precedes-in_turn s well a b c = in_turn a b c (walked_ids s) (IsDistinct-walked s well)

-- ---- the order of sets that agree

pub Precedes-more : (s t : OperationSet) → AllWellFormed t → IsPartOf s t → (a b : Identifier) → Precedes s a b → Precedes t a b
Precedes-more s t well part a b h =
    StandsBefore-unfiltered (is_attached s) (walked_ids t) a b (subst (λ ids. StandsBefore ids a b) (walked_ids-sub_walk s t well part) h)

pub Precedes-part : (s t : OperationSet) → AllWellFormed t → IsPartOf s t → (a b : Identifier) → IsAttached s.ins a → IsAttached s.ins b → Precedes t a b → Precedes s a b
Precedes-part s t well part a b at_a at_b h =
    let test = is_attached-test s (AllWellFormed-part s t well part) in
    subst (λ ids. StandsBefore ids a b) (sym (walked_ids-sub_walk s t well part)) (StandsBefore-filtered (is_attached s) (walked_ids t) a b ((test a).1 at_a) ((test b).1 at_b) h)

either_holds : (s t : OperationSet) (P : OpView → Type 0) → ((op : OpView) → Holds s op → P op) → ((op : OpView) → Holds t op → P op) → (op : OpView) → Holds s op ⊎ Holds t op → P op
either_holds s t P f g op (inl h) = f op h
either_holds s t P f g op (inr h) = g op h

agree_one_way : (s t : OperationSet) → AllWellFormed s → AllWellFormed t → Agree s t → (a b : Identifier) → IsAttached t.ins a → IsAttached t.ins b → Precedes s a b → Precedes t a b
agree_one_way s t well_s well_t agree a b at_a at_b h =
    let u = union s t in
    let held = Holds-union s t agree in
    let well : AllWellFormed u = λ op h. either_holds s t _ well_s well_t op ((held op).0 h) in
    Precedes-part t u well (λ op h. (held op).1 (inr h)) a b at_a at_b (Precedes-more s u well (λ op h. (held op).1 (inl h)) a b h)

pub Precedes-agree : (s t : OperationSet) → AllWellFormed s → AllWellFormed t → Agree s t → (a b : Identifier) → IsAttached s.ins a → IsAttached s.ins b
    → IsAttached t.ins a → IsAttached t.ins b → Precedes s a b ↔ Precedes t a b
Precedes-agree s t well_s well_t agree a b s_a s_b t_a t_b =
    (agree_one_way s t well_s well_t agree a b t_a t_b, agree_one_way t s well_t well_s (λ q x y p r. sym (agree q y x r p)) a b s_a s_b)

pub StandsBetween-agree : (s t : OperationSet) → AllWellFormed s → AllWellFormed t → Agree s t → (a x b : Identifier) → StandsBetween s a x b
    → IsAttached t.ins a → IsAttached t.ins x → IsAttached t.ins b → StandsBetween t a x b
StandsBetween-agree s t well_s well_t agree a x b h t_a t_x t_b =
    (agree_one_way s t well_s well_t agree a x t_a t_x h.0, agree_one_way s t well_s well_t agree x b t_x t_b h.1)

-- ---- equal sets

pub text-same_operations : (s t : OperationSet) → IsPartOf s t → IsPartOf t s → text s ≡ text t
text-same_operations s t there back = ap text (same_operations s t (λ op. (there op, back op)))
