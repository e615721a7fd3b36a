-- One more cluster behind runs.
use Rattle.std.proofs.Common.{◌≡◌, ℕ, suc, ◌+◌, ◌*◌, ◌<◌, ◌≤◌, true, false, not, cond, ◌==◌, ◌&&◌, eqb-true, inl, inr, List, [], ◌∷◌, ◌++◌, map, length, replicate, refl, sym, ap, ap₂, subst, ◌∙◌, arith}
use Rattle.std.proofs.Math.Nat.{suc-mul}
use Rattle.std.proofs.lemmas.Bool.{and_parts, eq-eqb}
use Rattle.std.proofs.lemmas.Bool.Decides.{eqb_tells}
use Rattle.std.proofs.lemmas.List.{append-nil, append_assoc, replicate_more, take_at}
use Rattle.std.proofs.lemmas.List.Concat.{flat_map-append}
use Rattle.std.proofs.lemmas.List.Elements.{All-take, All-push}
use Rattle.std.proofs.lemmas.List.FromFn.{map-range_with_len_more}
use Rattle.std.specs.List.{All, flat_map, range_with_len}
use Rattle.paragraphs.specs.declared.span.Span.{Span}
use Rattle.line_break.specs.declared.run.ShapeRun.{ShapeRun}
use Rattle.line_break.specs.Runs.{span_in, spans_of, sizes_of, columns_of, alone, if_some, have_one_shape, ends_before, are_longest, longer, EndsAt, AreJoined}

-- a run with clusters
abbrev pub HasSome : ShapeRun → Type 0
HasSome run = 0 < run.count

-- behind a list of runs

joined-last : {A : Type 0} (f : ShapeRun → List A) (front : List ShapeRun) (x y : ShapeRun) (more : List A) → f y ≡ f x ++ more
    → flat_map f (front ++ y ∷ []) ≡ flat_map f (front ++ x ∷ []) ++ more
joined-last f front x y more e =
    flat_map-append f front (y ∷ []) ∙ ap (λ l. flat_map f front ++ l) (append-nil (f y) ∙ e)
    ∙ sym (append_assoc (flat_map f front) (f x) more)
    ∙ ap (λ l. l ++ more) (ap (λ l. flat_map f front ++ l) (sym (append-nil (f x))) ∙ sym (flat_map-append f front (x ∷ [])))

joined-alone : {A : Type 0} (f : ShapeRun → List A) (before : List ShapeRun) (y : ShapeRun) → flat_map f (before ++ y ∷ []) ≡ flat_map f before ++ f y
joined-alone f before y = flat_map-append f before (y ∷ []) ∙ ap (λ l. flat_map f before ++ l) (append-nil (f y))

-- runs that are as long as they can be

ends-push : (run : ShapeRun) (runs : List ShapeRun) (x : ShapeRun) (more : List ShapeRun) → ends_before run ((runs ++ x ∷ []) ++ more) ≡ ends_before run (runs ++ x ∷ [])
ends-push run [] x more = refl
ends-push run (next ∷ runs) x more = refl

-- another behind them
longest-push : (runs : List ShapeRun) (x y : ShapeRun) → are_longest (runs ++ x ∷ []) ≡ true → have_one_shape x y ≡ false → are_longest ((runs ++ x ∷ []) ++ y ∷ []) ≡ true
longest-push [] x y all off = ap (λ b. not b && true) off
longest-push (run ∷ runs) x y all off =
    let parts = and_parts (ends_before run (runs ++ x ∷ [])) (are_longest (runs ++ x ∷ [])) all in
    ap₂ ◌&&◌ (ends-push run runs x (y ∷ []) ∙ parts.0) (longest-push runs x y parts.1 off)

-- the last of them longer
longest-longer : (runs : List ShapeRun) (x : ShapeRun) → are_longest (runs ++ longer x ∷ []) ≡ are_longest (runs ++ x ∷ [])
longest-longer [] x = refl
longest-longer (run ∷ []) x = refl
longest-longer (run ∷ next ∷ runs) x = ap (λ b. ends_before run (next ∷ []) && b) (longest-longer (next ∷ runs) x)

-- a run of its own
AreJoined-alone : (before : List ShapeRun) (next : ShapeRun) → next.count ≡ 1 → (are_longest before ≡ true → are_longest (before ++ next ∷ []) ≡ true)
    → AreJoined before next (before ++ next ∷ [])
AreJoined-alone before next one longest = record {
  spans = joined-alone spans_of before next;
  sizes = joined-alone sizes_of before next;
  columns = joined-alone columns_of before next;
  some = λ all. All-push HasSome before next all (omega arith);
  longest = longest;
}

longest-first : (runs : List ShapeRun) (next : ShapeRun) → runs ≡ [] → are_longest (runs ++ next ∷ []) ≡ true
longest-first runs next none = ap (λ (l : List ShapeRun). are_longest (l ++ next ∷ [])) none

-- a cluster alone

span_parts : {a b c d e f g h : ℕ} → a ≡ e → b ≡ f → c ≡ g → d ≡ h
    → ◌≡◌ {A = Span} (record { first_byte = a; end_byte = b; first_place = c; end_place = d }) (record { first_byte = e; end_byte = f; first_place = g; end_place = h })
span_parts p q r s = cc

same_span : (s t : Span) → s.first_byte ≡ t.first_byte → s.end_byte ≡ t.end_byte → s.first_place ≡ t.first_place → s.end_place ≡ t.end_place → s ≡ t
same_span s t p q r u = span_parts p q r u

-- the span of a run of one
abbrev pub one_span : ShapeRun → Span
one_span run = record {
  first_byte = run.first_byte;
  end_byte = run.first_byte + run.bytes;
  first_place = run.first_place;
  end_place = run.first_place + run.points;
}

pub spans-one : (run : ShapeRun) → run.count ≡ 1 → spans_of run ≡ one_span run ∷ []
spans-one run one =
    ap (λ (n : ℕ). map (span_in run) (range_with_len 0 n)) one
    ∙ ap (λ (s : Span). s ∷ []) (same_span (span_in run 0) (one_span run) (omega arith) (omega arith) (omega arith) (omega arith))

pub sizes-one : (run : ShapeRun) → run.count ≡ 1 → sizes_of run ≡ run.points ∷ []
sizes-one run one = ap (λ (n : ℕ). replicate n run.points) one

pub columns-one : (run : ShapeRun) → run.count ≡ 1 → columns_of run ≡ run.columns ∷ []
columns-one run one = ap (λ (n : ℕ). replicate n run.columns) one

-- a run that may be empty

pub some-kept : (run : ShapeRun) → 0 < run.count → if_some run ≡ run ∷ []
some-kept run some = elim (eqb_tells run.count 0) [
  | inl none ↦ absurd (let same = none.1 in omega arith)
  | inr more ↦ ap (λ b. cond b [] (run ∷ [])) more.0
]

none-kept : (run : ShapeRun) → run.count ≡ 0 → if_some run ≡ []
none-kept run none = ap (λ b. cond b [] (run ∷ [])) (eq-eqb run.count 0 none)

spans-none : (run : ShapeRun) → run.count ≡ 0 → spans_of run ≡ []
spans-none run none = ap (λ (n : ℕ). map (span_in run) (range_with_len 0 n)) none

sizes-none : (run : ShapeRun) → run.count ≡ 0 → sizes_of run ≡ []
sizes-none run none = ap (λ (n : ℕ). replicate n run.points) none

columns-none : (run : ShapeRun) → run.count ≡ 0 → columns_of run ≡ []
columns-none run none = ap (λ (n : ℕ). replicate n run.columns) none

flat-kept : {A : Type 0} (f : ShapeRun → List A) (front : List ShapeRun) (run : ShapeRun) → (run.count ≡ 0 → f run ≡ [])
    → flat_map f (front ++ if_some run) ≡ flat_map f (front ++ run ∷ [])
flat-kept f front run none =
    elim (eqb_tells run.count 0) [
      | inl same ↦
          ap (λ (l : List ShapeRun). flat_map f (front ++ l)) (none-kept run same.1) ∙ ap (flat_map f) (append-nil front)
          ∙ sym (append-nil (flat_map f front)) ∙ ap (λ l. flat_map f front ++ l) (sym (none same.1)) ∙ sym (joined-alone f front run)
      | inr more ↦ ap (λ (l : List ShapeRun). flat_map f (front ++ l)) (some-kept run (let ne = more.1 in omega arith))
    ]

-- a run of its own behind them
pub AreJoined-push : (front : List ShapeRun) (run next : ShapeRun) → (run.count ≡ 0 → front ≡ []) → next.count ≡ 1 → have_one_shape run next ≡ false
    → AreJoined (front ++ if_some run) next ((front ++ if_some run) ++ if_some next)
AreJoined-push front run next first one off =
    subst (λ (l : List ShapeRun). AreJoined (front ++ if_some run) next ((front ++ if_some run) ++ l)) (sym (some-kept next (omega arith)))
    (AreJoined-alone (front ++ if_some run) next one
    (λ all. elim (eqb_tells run.count 0) [
      | inl none ↦ longest-first (front ++ if_some run) next (ap (λ (l : List ShapeRun). l ++ if_some run) (first none.1) ∙ none-kept run none.1)
      | inr more ↦
          let kept = ap (λ (l : List ShapeRun). front ++ l) (some-kept run (let ne = more.1 in omega arith)) in
          ap (λ (l : List ShapeRun). are_longest (l ++ next ∷ [])) kept
          ∙ longest-push front run next (sym (ap are_longest kept) ∙ all) off
    ]))

-- the run gets longer

-- two runs of which the clusters have one shape
record AreAlike (run next : ShapeRun) : Type 0 where
  bytes : run.bytes ≡ next.bytes
  points : run.points ≡ next.points
  columns : run.columns ≡ next.columns

alike : (run next : ShapeRun) → have_one_shape run next ≡ true → AreAlike run next
alike run next h =
    let all = and_parts (run.bytes == next.bytes && run.points == next.points) (run.columns == next.columns) h in
    let first = and_parts (run.bytes == next.bytes) (run.points == next.points) all.0 in
    record {
      bytes = eqb-true run.bytes next.bytes first.0;
      points = eqb-true run.points next.points first.1;
      columns = eqb-true run.columns next.columns all.1;
    }

module _ (run next : ShapeRun) (one : next.count ≡ 1) (end : EndsAt run next.first_byte next.first_place) (h : have_one_shape run next ≡ true) where
  on : AreAlike run next
  on = alike run next h

  spans-longer : spans_of (longer run) ≡ spans_of run ++ spans_of next
  spans-longer =
      let b = end.bytes in
      let p = end.places in
      let bytes = on.bytes in
      let points = on.points in
      map-range_with_len_more (span_in run) 0 run.count run.count (omega arith)
      ∙ ap (λ (s : Span). spans_of run ++ s ∷ []) (same_span (span_in run run.count) (one_span next) (omega arith) (omega arith) (omega arith) (omega arith))
      ∙ ap (λ (l : List Span). spans_of run ++ l) (sym (spans-one next one))

  sizes-longer : sizes_of (longer run) ≡ sizes_of run ++ sizes_of next
  sizes-longer =
      sym (replicate_more run.count run.points)
      ∙ ap (λ (n : ℕ). sizes_of run ++ n ∷ []) on.points
      ∙ ap (λ (l : List ℕ). sizes_of run ++ l) (sym (sizes-one next one))

  columns-longer : columns_of (longer run) ≡ columns_of run ++ columns_of next
  columns-longer =
      sym (replicate_more run.count run.columns)
      ∙ ap (λ (n : ℕ). columns_of run ++ n ∷ []) on.columns
      ∙ ap (λ (l : List ℕ). columns_of run ++ l) (sym (columns-one next one))

  module _ (front : List ShapeRun) (first : run.count ≡ 0 → front ≡ []) where
    kept-longer : front ++ if_some (longer run) ≡ front ++ longer run ∷ []
    kept-longer = ap (λ (l : List ShapeRun). front ++ l) (some-kept (longer run) (omega arith))

    flat-longer : {A : Type 0} (f : ShapeRun → List A) → (run.count ≡ 0 → f run ≡ []) → f (longer run) ≡ f run ++ f next
        → flat_map f (front ++ if_some (longer run)) ≡ flat_map f (front ++ if_some run) ++ f next
    flat-longer f none e =
        ap (flat_map f) kept-longer ∙ joined-last f front run (longer run) (f next) e
        ∙ ap (λ l. l ++ f next) (sym (flat-kept f front run none))

    longest-kept : are_longest (front ++ if_some run) ≡ true → are_longest (front ++ longer run ∷ []) ≡ true
    longest-kept all =
        elim (eqb_tells run.count 0) [
          | inl none ↦ longest-first front (longer run) (first none.1)
          | inr more ↦
              longest-longer front run
              ∙ sym (ap (λ (l : List ShapeRun). are_longest (front ++ l)) (some-kept run (let ne = more.1 in omega arith))) ∙ all
        ]

    pub AreJoined-longer : AreJoined (front ++ if_some run) next (front ++ if_some (longer run))
    AreJoined-longer = record {
      spans = flat-longer spans_of (spans-none run) spans-longer;
      sizes = flat-longer sizes_of (sizes-none run) sizes-longer;
      columns = flat-longer columns_of (columns-none run) columns-longer;
      some = λ all.
          subst (All HasSome) (sym kept-longer)
          (All-push HasSome front (longer run)
          (subst (All HasSome) (take_at front (if_some run) (length front) refl) (All-take HasSome (length front) (front ++ if_some run) all)) (omega arith));
      longest = λ all. ap are_longest kept-longer ∙ longest-kept all;
    }

  pub EndsAt-longer : 0 < next.points → EndsAt (longer run) (next.first_byte + next.bytes) (next.first_place + next.points)
  EndsAt-longer some =
      let few = end.few in
      let b = end.bytes in
      let p = end.places in
      let bytes = on.bytes in
      let points = on.points in
      let more_bytes = suc-mul run.count run.bytes in
      let more_points = suc-mul run.count run.points in
      let next_count : run.count + 1 ≡ suc run.count = omega arith in
      let all_bytes = ap (λ (n : ℕ). n * run.bytes) next_count in
      let all_points = ap (λ (n : ℕ). n * run.points) next_count in
      record {
        few = omega arith;
        bytes = omega arith;
        places = omega arith;
      }

pub EndsAt-alone : (next : ShapeRun) → next.count ≡ 1 → 0 < next.points → EndsAt next (next.first_byte + next.bytes) (next.first_place + next.points)
EndsAt-alone next one some =
    let bytes = ap (λ (n : ℕ). n * next.bytes) one in
    let points = ap (λ (n : ℕ). n * next.points) one in
    record {
      few = omega arith;
      bytes = omega arith;
      places = omega arith;
    }

-- the span of a cluster alone is that where it stands
pub alone-span : (span : Span) (columns : ℕ) → span.first_byte ≤ span.end_byte → span.first_place ≤ span.end_place → one_span (alone span columns) ≡ span
alone-span span columns bytes places = same_span (one_span (alone span columns)) span refl (omega arith) refl (omega arith)

-- a run that ends with it ends where it does
pub EndsAt-span : (run next : ShapeRun) (span : Span) (columns : ℕ) → next ≡ alone span columns → span.first_byte ≤ span.end_byte
    → span.first_place ≤ span.end_place → EndsAt run (next.first_byte + next.bytes) (next.first_place + next.points) → EndsAt run span.end_byte span.end_place
EndsAt-span run next span columns is bytes places end =
    let b = ap (λ (n : ShapeRun). n.first_byte + n.bytes) is in
    let p = ap (λ (n : ShapeRun). n.first_place + n.points) is in
    let at_byte : next.first_byte + next.bytes ≡ span.end_byte = omega arith in
    let at_place : next.first_place + next.points ≡ span.end_place = omega arith in
    subst (λ (n : ℕ). EndsAt run n span.end_place) at_byte (subst (λ (n : ℕ). EndsAt run (next.first_byte + next.bytes) n) at_place end)
