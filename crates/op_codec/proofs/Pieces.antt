-- Files that are read piece by piece: what lasts, and what the whole frames are.
use Rattle.std.proofs.Common.{◌≡◌, ◌≢◌, ℕ, List, [], ◌++◌, Some, refl, sym, ap, subst, ◌∙◌, append_assoc, arith, inl, inr, ◌⊎◌}
use Rattle.std.specs.List.{AllByRecursion}
use Rattle.std.proofs.lemmas.List.{append-nil, length-append}
use Rattle.bg_types.specs.WellFormed.{IsWellFormed}
use Rattle.bg_types.specs.declared.op.OpView.{OpView}
use Rattle.op_codec.specs.declared.fault.Cause.{Cause}
use Rattle.op_codec.specs.declared.fault.Cause.TheVariants.{Truncated}
use Rattle.op_codec.specs.declared.fault.CodecFault.TheVariants.{Malformed, Memory}
use Rattle.std.specs.Prelude.{Ok, Err}
use Rattle.op_codec.specs.declared.position.Version.{Version}
use Rattle.op_codec.specs.Spelling.{most_insertions, tip_of, spelling_in, Spells}
use Rattle.op_codec.specs.Fault.{header_cause, cause_at, IsFault}
use Rattle.op_codec.specs.Feed.{IsWhole, IsSound, IsLasting, IsFed, IsFeedOutcome}
use Rattle.op_codec.proofs.Settled.{Settles, missing, settled, header_settles, cause_settles}
use Rattle.op_codec.proofs.Unique.{Ends-fault, ops_unique, versions_unique, spelling_right, never_both, one_fault}

-- ---- faults last

settles : (cause_of : List ℕ → _) (most : ℕ) (xs more : List ℕ) (cause : Cause) → Settles cause_of most xs more → cause_of xs ≡ Some cause → cause ≢ Truncated → cause_of (xs ++ more) ≡ Some cause
settles cause_of most xs more cause (missing e few) shown other = absurd (other (let same = sym shown ∙ e in cc))
settles cause_of most xs more cause (settled e never) shown other = e ∙ shown

longer : (bytes front rest more : List ℕ) → bytes ≡ front ++ rest → bytes ++ more ≡ front ++ (rest ++ more)
longer bytes front rest more e = ap (λ (s : List ℕ). s ++ more) e ∙ append_assoc front rest more

pub lasting : (bytes more : List ℕ) (n : ℕ) (cause : Cause) → IsFault bytes n cause → cause ≢ Truncated → IsFault (bytes ++ more) n cause
lasting bytes more n cause (inl h) other = inl (h.0, settles header_cause 5 bytes more cause (header_settles bytes more) h.1 other)
lasting bytes more n cause (inr h) other = inr (record {
  version = h.version;
  ops = h.ops;
  rest = h.rest ++ more;
  number = h.number;
  before = longer bytes (spelling_in h.version h.ops) h.rest more h.before;
  well_formed = h.well_formed;
  goes_on = let some = h.goes_on in omega (arith, some, length-append h.rest more);
  shown = settles (cause_at h.version (tip_of (most_insertions h.version) h.ops)) 4111 h.rest more cause (cause_settles h.version (tip_of (most_insertions h.version) h.ops) h.rest more) h.shown other;
})

-- ---- the whole frames

-- what bytes of whole frames and what follows them are
whole_one : (v w : Version) (xs ys : List OpView) (x y : List ℕ) (c d : Cause) → AllByRecursion IsWellFormed xs → AllByRecursion IsWellFormed ys
    → cause_at v (tip_of (most_insertions v) xs) x ≡ Some c → cause_at w (tip_of (most_insertions w) ys) y ≡ Some d → spelling_in v xs ++ x ≡ spelling_in w ys ++ y → (v ≡ w) × (xs ≡ ys) × (x ≡ y)
whole_one v w xs ys x y c d p q ends ends' e =
    let version = versions_unique v w xs ys x y e in
    let here : cause_at w (tip_of (most_insertions w) xs) x ≡ Some c = ap (λ (u : Version). cause_at u (tip_of (most_insertions u) xs) x) (sym version) ∙ ends in
    let same = ops_unique w xs ys x y p q (Ends-fault w (tip_of (most_insertions w) xs) x c here) (Ends-fault w (tip_of (most_insertions w) ys) y d ends')
    (ap (λ (u : Version). spelling_in u xs ++ x) (sym version) ∙ e) in
    (version, same.0, same.1)

pub lasting_whole : (bytes more : List ℕ) (ops : List OpView) (n : ℕ) (cause : Cause) → IsWhole bytes ops → IsFault bytes n cause → cause ≢ Truncated → IsWhole (bytes ++ more) ops
lasting_whole bytes more ops n cause (inl p) (inl h) other = inl (p.0, (cause, settles header_cause 5 bytes more cause (header_settles bytes more) h.1 other))
lasting_whole bytes more ops n cause (inl p) (inr h) other = absurd (spelling_right h.version bytes h.rest h.ops p.1.0 h.before p.1.1)
lasting_whole bytes more ops n cause (inr p) (inl h) other = absurd (spelling_right p.version bytes p.rest ops cause p.spelled h.1)
lasting_whole bytes more ops n cause (inr p) (inr h) other =
    let same = whole_one p.version h.version ops h.ops p.rest h.rest p.cause cause p.well_formed h.well_formed p.no_frame h.shown (sym p.spelled ∙ h.before) in
    let shown : cause_at p.version (tip_of (most_insertions p.version) ops) p.rest ≡ Some cause = (λ i. cause_at (same.0 i) (tip_of (most_insertions (same.0 i)) (same.1 i)) (same.2 i)) ∙ h.shown in
    inr (record {
      version = p.version;
      rest = p.rest ++ more;
      cause = cause;
      spelled = longer bytes (spelling_in p.version ops) p.rest more p.spelled;
      well_formed = p.well_formed;
      no_frame = settles (cause_at p.version (tip_of (most_insertions p.version) ops)) 4111 p.rest more cause (cause_settles p.version (tip_of (most_insertions p.version) ops) p.rest more) shown other;
    })

-- ---- what is kept of what was fed

all_kept : (bytes kept more : List ℕ) → bytes ≡ kept ++ more → more ≡ [] → bytes ≡ kept
all_kept bytes kept more begins none = begins ∙ ap (λ (s : List ℕ). kept ++ s) none ∙ append-nil kept

pub fed_whole : (bytes kept : List ℕ) (ops : List OpView) → IsFed bytes kept → IsWhole kept ops → IsWhole bytes ops
fed_whole bytes kept ops h whole = elim h.up_to [
  | inl none ↦ subst (λ (s : List ℕ). IsWhole s ops) (sym (all_kept bytes kept h.more h.begins none)) whole
  | inr (n, cause, fault) ↦ subst (λ (s : List ℕ). IsWhole s ops) (sym h.begins) (lasting_whole kept h.more ops n cause whole fault.0 fault.1)
]

pub fed_spelled : (bytes kept : List ℕ) (ops : List OpView) → IsFed bytes kept → Spells kept ops → Spells bytes ops
fed_spelled bytes kept ops h spelled = elim h.up_to [
  | inl none ↦ subst (λ (s : List ℕ). Spells s ops) (sym (all_kept bytes kept h.more h.begins none)) spelled
  | inr (n, cause, fault) ↦ absurd (never_both kept ops n cause spelled fault.0)
]

pub fed_fault : (bytes kept : List ℕ) (n : ℕ) (cause : Cause) → IsFed bytes kept → IsFault kept n cause → IsFault bytes n cause
fed_fault bytes kept n cause h fault = elim h.up_to [
  | inl none ↦ subst (λ (s : List ℕ). IsFault s n cause) (sym (all_kept bytes kept h.more h.begins none)) fault
  | inr (m, other, last) ↦
      let same = one_fault kept n m cause other fault last.0 in
      subst (λ (s : List ℕ). IsFault s n cause) (sym h.begins) (lasting kept h.more n cause fault (λ e. last.1 (sym same.1 ∙ e)))
]

-- ---- one more piece

sound_kept : (bytes kept : List ℕ) → IsFed bytes kept → IsSound kept → bytes ≡ kept
sound_kept bytes kept h sound = elim h.up_to [
  | inl none ↦ all_kept bytes kept h.more h.begins none
  | inr (n, cause, fault) ↦ absurd (fault.1 (sound n cause fault.0))
]

pub all_fed : (bytes kept : List ℕ) → bytes ≡ kept → IsFed bytes kept
all_fed bytes kept e = record { more = []; begins = e ∙ sym (append-nil kept); up_to = inl refl }

-- what shows no lasting fault with a piece after it showed none before
sound_before : (old piece : List ℕ) → IsSound (old ++ piece) → IsSound old
sound_before old piece sound n cause fault = elim (truncated_or cause) [
  | inl e ↦ e
  | inr other ↦ absurd (other (sound n cause (lasting old piece n cause fault other)))
] where
  truncated_or : (c : Cause) → (c ≡ Truncated) ⊎ (c ≢ Truncated)
  truncated_or Truncated = inl refl
  truncated_or c = inr (λ e. cc)

pub piece_taken : (all old piece new : List ℕ) → IsFed all old → IsFeedOutcome old piece new (Ok tt) → IsFed (all ++ piece) new × IsSound (all ++ piece)
piece_taken all old piece new h (is, sound) =
    let before : IsSound old = sound_before old piece (subst IsSound is sound) in
    let whole : all ++ piece ≡ new = ap (λ (s : List ℕ). s ++ piece) (sound_kept all old h before) ∙ sym is in
    (all_fed (all ++ piece) new whole, subst IsSound (sym whole) sound)

pub piece_faulty : (all old piece new : List ℕ) (n : ℕ) (cause : Cause) → IsFed all old → IsFeedOutcome old piece new (Err (Malformed n cause)) → IsFed (all ++ piece) new × IsLasting (all ++ piece) n cause
piece_faulty all old piece new n cause h (inl is, last) =
    let begins : all ++ piece ≡ new ++ (h.more ++ piece) = longer all old h.more piece h.begins ∙ ap (λ (s : List ℕ). s ++ (h.more ++ piece)) (sym is) in
    let fed : IsFed (all ++ piece) new = record { more = h.more ++ piece; begins = begins; up_to = inr (n, cause, last) } in
    (fed, (fed_fault (all ++ piece) new n cause fed last.0, last.1))
piece_faulty all old piece new n cause h (inr (sound, fed), last) =
    let same : all ++ piece ≡ old ++ piece = ap (λ (s : List ℕ). s ++ piece) (sound_kept all old h sound) in
    let grown = subst (λ (s : List ℕ). IsFed s new) (sym same) fed in
    (grown, (fed_fault (all ++ piece) new n cause grown last.0, last.1))

pub piece_refused : (all old piece new : List ℕ) → IsFed all old → IsFeedOutcome old piece new (Err Memory) → IsFed all new × IsSound all
piece_refused all old piece new h out =
    let whole = sound_kept all old h out.1 in
    (subst (IsFed all) (sym out.0) h, subst IsSound (sym whole) out.1)
