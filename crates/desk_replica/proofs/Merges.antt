-- A merge takes all operations of the other desk.
use Rattle.std.proofs.Common.{◌≡◌, ◌<◌, ◌≤◌, ◌+◌, ℕ, Bool, false, cond, zero, suc, true, List, [], ◌∷◌, length, Option, None, Some, sym, ap, subst, ◌∙◌, refl, true≢false, is_some, arith, inl, inr}
use Rattle.std.specs.Prelude.{All, Contains, slice_get}
use Rattle.std.proofs.lemmas.Option.{get_or_from_slice_get, slice_get-get_or, slice_get_within}
use Rattle.std.proofs.lemmas.List.Elements.{All-get_or}
use Rattle.std.specs.FinMap as map
use Rattle.std.specs.FinSet as set
use Rattle.bg_types.specs.Identifier.{Identifier}
use Rattle.bg_types.specs.OperationSet.{Node, OperationSet, Agree, Holds, MayJoin, ReusesIdentifier, union, with_operation, size}
use Rattle.bg_types.specs.declared.op.OpView.{OpView}
use Rattle.bg_types.specs.declared.op.OpView.TheVariants.{Insert, Erase}
use Rattle.bg_types.proofs.Interface.{id_cmp-total, Holds-union, Holds-with_operation, same_operations, size-with_operation, some_is}
use Rattle.desk_replica.specs.declared.answer.TakeFault.{TakeFault}
use Rattle.desk_replica.specs.declared.answer.TakeFault.TheVariants.{IdentifierReused, Full, Memory}
use Rattle.pending_ops.specs.Waiting.{ListsOnce}
use Rattle.desk_replica.specs.Telling.{IsUntaken}
use Rattle.desk_replica.specs.Merging.{Disagree, IsBetween, IsGrownBy, IsMergeRefusal, IsMergeRefused, with_operations}
use Rattle.desk_replica.proofs.Sizes.{len_map-map, len_set-set}
use Rattle.desk_replica.proofs.OnceEach.{nothing_at}

pub disagree_of : (s t : OperationSet) (op : OpView) → ReusesIdentifier s op → Holds t op → Disagree s t
disagree_of s t (Insert id parent ch) r h = record { id = id; one = r.0; other = record { parent = parent; ch = ch }; in_s = r.1; in_t = h; differ = r.2 }
disagree_of s t (Erase target) r h = absurd r

-- where each operation of t may join s, they agree
pub agree_of : (s t : OperationSet) → ((op : OpView) → Holds t op → MayJoin s op) → Agree s t
agree_of s t may id a b in_s in_t = may (Insert id b.parent b.ch) in_t a in_s

pub may_join : (s t u : OperationSet) (op : OpView) → Agree s t → IsBetween s t u → Holds t op → MayJoin u op
may_join s t u (Insert id parent ch) agree between h = λ kept found. elim (between.of_both (Insert id kept.parent kept.ch) found) [
  | inl in_s ↦ agree id kept (record { parent = parent; ch = ch }) in_s h
  | inr in_t ↦ some_is kept (record { parent = parent; ch = ch }) (sym in_t ∙ h)
]
may_join s t u (Erase target) agree between h = tt

pub between_start : (s t : OperationSet) → IsBetween s t s
between_start s t = record { keeps = λ op h. h; of_both = λ op h. inl h }

pub between_more : (s t u v : OperationSet) (op : OpView) → Agree s t → IsBetween s t u → Holds t op → v ≡ with_operation u op → IsBetween s t v × (Holds v op × ((x : OpView) → Holds u x → Holds v x))
between_more s t u v op agree between h e =
    let may = may_join s t u op agree between h in
    let joined = λ (x : OpView). Holds-with_operation u op x may in
    let keeps : (x : OpView) → Holds u x → Holds v x = λ x k. subst (λ (y : OperationSet). Holds y x) (sym e) ((joined x).1 (inr k)) in (
      record {
        keeps = λ x k. keeps x (between.keeps x k);
        of_both = λ x k. elim ((joined x).0 (subst (λ (y : OperationSet). Holds y x) e k)) [
          | inl same ↦ inr (subst (Holds t) (sym same) h)
          | inr old ↦ between.of_both x old
        ];
      },
      (subst (λ (y : OperationSet). Holds y op) (sym e) ((joined op).1 (inl refl)), keeps),
    )

node_there : (s : OperationSet) (q : Identifier) → map.contains_key s.ins q ≡ true → (n : Node) × (map.get s.ins q ≡ Some n)
node_there s q h = by (map.get s.ins q) refl h
  where
    by : (o : Option Node) → map.get s.ins q ≡ o → is_some o ≡ true → (n : Node) × (map.get s.ins q ≡ Some n)
    by None e h = absurd (true≢false (sym h))
    by (Some n) e h = (n, e)

pub size_more : (s u : OperationSet) → ((op : OpView) → Holds s op → Holds u op) → size s ≤ size u
size_more s u keeps =
    let a = len_map-map s.ins u.ins (λ q e. let n = node_there s q e in ap is_some (keeps (Insert q n.0.parent n.0.ch) n.1)) in
    let b = len_set-set s.del u.del (λ q e. keeps (Erase q) e) in
    omega (arith, a, b)

-- where an operation of t is left out, the union has more
union_larger : (s t u : OperationSet) (op : OpView) → Agree s t → IsBetween s t u → Holds t op → ¬ (Holds u op) → size u < size (union s t)
union_larger s t u op agree between h missing =
    let more = between_more s t u (with_operation u op) op agree between h refl in
    let grown = size-with_operation u op (may_join s t u op agree between h) missing in
    let within = size_more (with_operation u op) (union s t) (λ x k. (Holds-union s t agree x).1 (more.0.of_both x k)) in
    omega (arith, grown, within)

never_reused : (s t u : OperationSet) (op : OpView) → Agree s t → IsBetween s t u → Holds t op → ReusesIdentifier u op → ⊥
never_reused s t u (Insert id parent ch) agree between h r = r.2 (may_join s t u (Insert id parent ch) agree between h r.0 r.1)
never_reused s t u (Erase target) agree between h r = r

pub merge_refused : (s t u : OperationSet) (op : OpView) (fault : TakeFault) → Agree s t → IsBetween s t u → Holds t op → IsUntaken u op fault → IsMergeRefused s t u fault
merge_refused s t u op IdentifierReused agree between h r = absurd (never_reused s t u op agree between h r)
merge_refused s t u op Full agree between h r =
    let larger = union_larger s t u op agree between h r.1 in
    let full = r.2 in
    ((agree, omega (arith, larger, full)), between, r.2)
merge_refused s t u op Memory agree between h r = (agree, between, r.room, (op, (h, r.is_new)))

pub united : (s t u : OperationSet) → Agree s t → IsBetween s t u → ((op : OpView) → Holds t op → Holds u op) → u ≡ union s t
united s t u agree between all = same_operations u (union s t) (λ op.
    let both = Holds-union s t agree op in (
      (λ h. both.1 (between.of_both op h)),
      (λ h. elim (both.0 h) [ inl a ↦ between.keeps op a | inr b ↦ all op b ]),
    ))

-- where the other holds nothing new, only a reuse is refused
pub nothing_refused : (s t u : OperationSet) (fault : TakeFault) → ((op : OpView) → Holds t op → Holds s op) → IsMergeRefused s t u fault → ⊥
nothing_refused s t u IdentifierReused sub r =
    let d = r.0 in
    d.differ (some_is d.one d.other (sym d.in_s ∙ sub (Insert d.id d.other.parent d.other.ch) d.in_t))
nothing_refused s t u Full sub r =
    let larger = r.0.1 in
    let full = r.2 in
    let within = size_more (union s t) u (λ op h. r.1.keeps op (elim ((Holds-union s t r.0.0 op).0 h) [ inl in_s ↦ in_s | inr in_t ↦ sub op in_t ])) in
    absurd (omega (arith, larger, full, within))
nothing_refused s t u Memory sub r = r.3.1.1 (r.1.keeps r.3.0 (sub r.3.0 r.3.1.0))

pub disagree_apart : (s t : OperationSet) → Disagree s t → Agree s t → ⊥
disagree_apart s t d agree = d.differ (agree d.id d.one d.other d.in_s d.in_t)

-- a merge that made a union within the limit is not refused
pub merge_accepted : (s t : OperationSet) → Agree s t → size (union s t) ≤ 1_000_000 → (fault : TakeFault) → ¬ (IsMergeRefusal s t fault)
merge_accepted s t agree limited IdentifierReused h = disagree_apart s t h agree
merge_accepted s t agree limited Full h = let above = h.1 in omega (arith, above, limited)
merge_accepted s t agree limited Memory h = h

-- a merge of sets that agree is not refused for a reuse
pub refused_otherwise : (s t u : OperationSet) (fault : TakeFault) (A : Type 0) → Agree s t → IsMergeRefused s t u fault → fault ≡ IdentifierReused → A
refused_otherwise s t u IdentifierReused A agree r is = absurd (disagree_apart s t r.0 agree)
refused_otherwise s t u Full A agree r is = cc
refused_otherwise s t u Memory A agree r is = cc

-- what operations of t make of a set between S and S with t
pub record Joins (s t u v : OperationSet) (ops : List OpView) : Type 0 where
  pub between : IsBetween s t v
  pub keeps : (op : OpView) → Holds u op → Holds v op
  pub holds : (j : ℕ) (op : OpView) → slice_get ops j ≡ Some op → Holds v op

pub joins_all : (s t u : OperationSet) (ops : List OpView) → Agree s t → IsBetween s t u → ((j : ℕ) (op : OpView) → slice_get ops j ≡ Some op → Holds t op) → Joins s t u (with_operations u ops) ops
joins_all s t u [] agree between of_t = record { between = between; keeps = λ op h. h; holds = λ j op h. absurd (nothing_at j op h) }
joins_all s t u (x ∷ ops) agree between of_t =
    let v = with_operation u x in
    let one = between_more s t u v x agree between (of_t zero x refl) refl in
    let rest = joins_all s t v ops agree one.0 (λ j op h. of_t (suc j) op h) in
    record { between = rest.between; keeps = λ op h. rest.keeps op (one.1.1 op h); holds = held (with_operations v ops) (rest.keeps x one.1.0) rest.holds }
  where
    held : (w : OperationSet) → Holds w x → ((j : ℕ) (op : OpView) → slice_get ops j ≡ Some op → Holds w op) → (j : ℕ) (op : OpView) → slice_get (x ∷ ops) j ≡ Some op → Holds w op
    held w here rest zero op h = let same : x ≡ op = (let f : Some x ≡ Some op = h in cc) in subst (Holds w) same here
    held w here rest (suc j) op h = rest j op h

-- S with each operation of t is their union
pub taken_united : (s t u : OperationSet) (ops : List OpView) → Agree s t → ListsOnce t ops → u ≡ with_operations s ops → (u ≡ union s t) × ((op : OpView) → Holds s op → Holds u op)
taken_united s t u ops agree lists taken =
    let all = joins_all s t s ops agree (between_start s t) (λ j op h. (lists.each op).1 (j, h)) in (
      taken ∙ united s t (with_operations s ops) agree all.between (λ op h. let f = (lists.each op).0 h in all.holds f.0 op f.1),
      λ op h. subst (λ x. Holds x op) (sym taken) (all.keeps op h),
    )

-- so that has no more operations than both
at_most : (b : Bool) (k : ℕ) → cond b k (k + 1) ≤ k + 1
at_most true k = omega arith
at_most false k = omega arith

pub size-one_more : (s : OperationSet) (op : OpView) → size (with_operation s op) ≤ size s + 1
size-one_more s (Insert id parent ch) = omega (arith, map.len-insert id_cmp-total s.ins id (record { parent = parent; ch = ch }), at_most (map.contains_key s.ins id) (map.len s.ins))
size-one_more s (Erase target) = omega (arith, set.len-insert id_cmp-total s.del target, at_most (set.contains s.del target) (set.len s.del))

size-with_operations : (s : OperationSet) (ops : List OpView) → size (with_operations s ops) ≤ size s + length ops
size-with_operations s [] = omega arith
size-with_operations s (op ∷ ops) = omega (arith, size-with_operations (with_operation s op) ops, size-one_more s op)

union_within : (s t : OperationSet) (ops : List OpView) → Agree s t → ListsOnce t ops → size (union s t) ≤ size s + size t
union_within s t ops agree lists =
    let is = (taken_united s t (with_operations s ops) ops agree lists refl).0 in
    omega (arith, ap size is, size-with_operations s ops, lists.all)

-- ---- by operations of a list of all that t holds

listed_held : (t : OperationSet) (ops : List OpView) → ListsOnce t ops → (op : OpView) → Contains ops op → Holds t op
listed_held t ops lists op h = (lists.each op).1 (h.0, slice_get-get_or ops h.0 op h.1 ∙ ap (λ (x : OpView). Some x) h.2)

module _ (s t u : OperationSet) (ops : List OpView) (agree : Agree s t) (lists : ListsOnce t ops) (grown : IsGrownBy s ops u) where
  between : IsBetween s t u
  between = record { keeps = grown.keeps; of_both = λ op h. elim (grown.of_list op h) [ inl old ↦ inl old | inr new ↦ inr (listed_held t ops lists op new) ] }

  pub grown_united : All (Holds u) ops → u ≡ union s t
  grown_united all = united s t u agree between (λ op h.
      let f = (lists.each op).0 h in subst (Holds u) (get_or_from_slice_get ops f.0 op op f.1) (All-get_or (Holds u) ops f.0 op (slice_get_within ops f.0 op f.1) all))

  -- where an operation of t is refused, so is the merge
  pub stopped_refused : (op : OpView) (fault : TakeFault) → Contains ops op → IsUntaken u op fault → IsMergeRefused s t u fault
  stopped_refused op fault listed refused = merge_refused s t u op fault agree between (listed_held t ops lists op listed) refused

  pub stopped_below : (op : OpView) (fault : TakeFault) → Contains ops op → IsUntaken u op fault → size u < size (union s t)
  stopped_below op fault listed refused = let held = listed_held t ops lists op listed in union_larger s t u op agree between held (left_out fault held refused)
    where
      left_out : (fault : TakeFault) → Holds t op → IsUntaken u op fault → ¬ (Holds u op)
      left_out IdentifierReused held r = absurd (never_reused s t u op agree between held r)
      left_out Full held r = r.1
      left_out Memory held r = r.is_new

  pub stopped_short : (op : OpView) (fault : TakeFault) → Contains ops op → IsUntaken u op fault → size u < size s + size t
  stopped_short op fault listed refused = omega (arith, stopped_below op fault listed refused, union_within s t ops agree lists)
