-- What is kept goes on being kept over changes, so what was shown needn't be laid out again.
use Rattle.std.proofs.Common.{◌≡◌, ℕ, zero, suc, ◌+◌, ◌-◌, ◌<◌, ◌≤◌, ◌⊎◌, inl, inr, Bool, true, false, cond, not, Option, Some, None, List, [], ◌∷◌, ◌++◌, length, map, take, drop, replicate, count_by, slice_range, refl, sym, ap, ap₂, subst, ◌∙◌, arith}
use Rattle.std.proofs.lemmas.List.{map-append, take-map, drop-map, length-map, length-drop, length-take-le}
use Rattle.std.proofs.lemmas.List.Edits.{split_between, length-between, get_or-between}
use Rattle.std.specs.Prelude.{Result, Ok, Err, is_err, is_some, option_map, encode_utf8_all, IfOk}
use Rattle.bg_types.specs.OperationSet.{OperationSet}
use Rattle.bg_types.specs.declared.change.Change.{Change}
use Rattle.rga_tree.specs.TextOf.{text}
use Rattle.desk_replica.specs.Desk.{Desk}
use Rattle.unicode_tables.specs.Tables.{TableValues}
use Rattle.paragraphs.specs.Paragraphs.{paragraph_points}
use Rattle.bg_types.specs.declared.class.Base.{Base}
use Rattle.text_buffer.specs.Buffers.{KeptParagraph, paragraphs_in}
use Rattle.cell_grid.specs.Grids.{grid_rows}
use Rattle.cell_grid.specs.Rows.{DrawnRow}
use Rattle.text_buffer.specs.Edits.{anew, IsParagraphOf, IsTouched, IsTouchedInTurn, AreTouched, Step}
use Rattle.text_buffer.specs.declared.touched.Touched.{Touched}
use Rattle.live_document.specs.Keeping.{Rows, KeptText, rows_weight, flags, is_kept}
use Rattle.live_document.specs.Documents.{LiveDocument, counted, paragraphs_of, IsLive}
use Rattle.live_document.specs.Cost.{HasRow, AreForgotten, IsBare, IsLaidOut, allowed, marks, unmarked, weight_kept, weight_outside, carried, stretch_marks}
use Rattle.live_document.specs.declared.shown.Shown.{Shown}
use Rattle.live_document.proofs.Marks.{count-cons, cond-most}

-- ---- what is marked in one list is in the other

abbrev AreMarked : List Bool → List Bool → Type 0
AreMarked [] [] = Unit {0}
AreMarked [] (b ∷ ys) = ⊥
AreMarked (a ∷ xs) [] = ⊥
AreMarked (a ∷ xs) (b ∷ ys) = (a ≡ true → b ≡ true) × AreMarked xs ys

marked-same : (xs : List Bool) → AreMarked xs xs
marked-same [] = tt
marked-same (a ∷ xs) = (λ h. h, marked-same xs)

marked-take : (n : ℕ) (xs ys : List Bool) → AreMarked xs ys → AreMarked (take n xs) (take n ys)
marked-take zero xs ys h = tt
marked-take (suc n) [] [] h = tt
marked-take (suc n) [] (b ∷ ys) h = absurd h
marked-take (suc n) (a ∷ xs) [] h = absurd h
marked-take (suc n) (a ∷ xs) (b ∷ ys) h = (h.0, marked-take n xs ys h.1)

marked-drop : (n : ℕ) (xs ys : List Bool) → AreMarked xs ys → AreMarked (drop n xs) (drop n ys)
marked-drop zero xs ys h = h
marked-drop (suc n) [] [] h = tt
marked-drop (suc n) [] (b ∷ ys) h = absurd h
marked-drop (suc n) (a ∷ xs) [] h = absurd h
marked-drop (suc n) (a ∷ xs) (b ∷ ys) h = marked-drop n xs ys h.1

marked-both : (xs ys cs ds : List Bool) → AreMarked xs ys → AreMarked cs ds → AreMarked (xs ++ cs) (ys ++ ds)
marked-both [] [] cs ds h i = i
marked-both [] (b ∷ ys) cs ds h i = absurd h
marked-both (a ∷ xs) [] cs ds h i = absurd h
marked-both (a ∷ xs) (b ∷ ys) cs ds h i = (h.0, marked-both xs ys cs ds h.1 i)

-- so of no more nothing is kept
marked-count : (xs ys : List Bool) → AreMarked xs ys → count_by not ys ≤ count_by not xs
marked-count [] [] h = omega arith
marked-count [] (b ∷ ys) h = absurd h
marked-count (a ∷ xs) [] h = absurd h
marked-count (a ∷ xs) (b ∷ ys) h =
    let e = count-cons a xs in
    let f = count-cons b ys in
    let later = marked-count xs ys h.1 in
    let one = first-one a b h.0 in
    omega arith
  where
    first-one : (a b : Bool) → (a ≡ true → b ≡ true) → cond {A = ℕ} b 0 1 ≤ cond {A = ℕ} a 0 1
    first-one false b h = cond-most b
    first-one true true h = omega arith
    first-one true false h = let e = h refl in cc

marked-carried : (steps : List Step) (xs ys : List Bool) → AreMarked xs ys → AreMarked (carried steps xs) (carried steps ys)
marked-carried [] xs ys h = h
marked-carried (s ∷ steps) xs ys h =
    let t = s.touched in
    marked-carried steps _ _
    (marked-both (take t.first xs) (take t.first ys) (replicate t.new false ++ drop (t.first + t.old) xs) (replicate t.new false ++ drop (t.first + t.old) ys)
    (marked-take t.first xs ys h)
    (marked-both (replicate t.new false) (replicate t.new false) (drop (t.first + t.old) xs) (drop (t.first + t.old) ys)
    (marked-same (replicate t.new false)) (marked-drop (t.first + t.old) xs ys h)))

none-marked : (ys : List Bool) → AreMarked (replicate (length ys) false) ys
none-marked [] = tt
none-marked (b ∷ ys) = (λ h. cc, none-marked ys)

each-marked : (ys : List Bool) → ((k : ℕ) → k < length ys → is_kept ys k ≡ true) → AreMarked (replicate (length ys) true) ys
each-marked [] h = tt
each-marked (b ∷ ys) h = (λ e. h 0 (omega arith), each-marked ys (λ k below. h (suc k) (omega arith)))

-- a stretch of which all rows are kept
stretch-marked : (ms : List Bool) (from to : ℕ) → from ≤ to → to ≤ length ms → ((k : ℕ) → from ≤ k → k < to → is_kept ms k ≡ true)
    → AreMarked (stretch_marks from to (length ms)) ms
stretch-marked ms from to order within inside =
    let n = length-between ms from to within in
    let a = length-take-le from ms (omega arith) in
    let c = length-drop to ms in
    subst (AreMarked (stretch_marks from to (length ms))) (sym (split_between ms from to order))
    (marked-both (replicate from false) (take from ms) (replicate (to - from) true ++ replicate (length ms - to) false) (slice_range ms from to ++ drop to ms)
    (subst (λ m. AreMarked (replicate m false) (take from ms)) a (none-marked (take from ms)))
    (marked-both (replicate (to - from) true) (slice_range ms from to) (replicate (length ms - to) false) (drop to ms)
    (subst (λ m. AreMarked (replicate m true) (slice_range ms from to)) n
    (each-marked (slice_range ms from to) (λ k below. get_or-between ms from to k false (omega arith) ∙ inside (from + k) (omega arith) (omega arith))))
    (subst (λ m. AreMarked (replicate m false) (drop to ms)) c (none-marked (drop to ms)))))

-- whatever is kept besides, no more is laid out than of what was shown and not made anew
pub cost-of : (ms : List Bool) (from to first end : ℕ) (steps : List Step) → from ≤ to → to ≤ length ms → ((k : ℕ) → from ≤ k → k < to → is_kept ms k ≡ true)
    → unmarked (carried steps ms) first end ≤ unmarked (carried steps (stretch_marks from to (length ms))) first end
cost-of ms from to first end steps order within inside =
    let few = stretch_marks from to (length ms) in
    marked-count (slice_range (carried steps few) first end) (slice_range (carried steps ms) first end)
    (marked-take (end - first) (drop first (carried steps few)) (drop first (carried steps ms))
    (marked-drop first (carried steps few) (carried steps ms) (marked-carried steps few ms (stretch-marked ms from to order within inside))))

-- ---- what an edit leaves

marks-both : (xs ys : List (KeptParagraph ℕ)) → marks (xs ++ ys) ≡ marks xs ++ marks ys
marks-both [] ys = refl
marks-both (x ∷ xs) ys = ap (λ later. is_some x.kept ∷ later) (marks-both xs ys)

marks-anew : (texts : List (List ℕ)) → marks (map (anew {K = ℕ}) texts) ≡ replicate (length texts) false
marks-anew [] = refl
marks-anew (t ∷ texts) = ap (λ later. false ∷ later) (marks-anew texts)

pub count-marks : (ps : List (KeptParagraph ℕ)) → length (marks ps) ≡ length ps
count-marks ps = length-map ps (λ (p : KeptParagraph ℕ). is_some p.kept)

pub count-points : (ps : List (KeptParagraph ℕ)) → length (paragraphs_in ps) ≡ length ps
count-points ps = length-map ps (λ (p : KeptParagraph ℕ). p.points)

marks-touched : (old new : List (KeptParagraph ℕ)) (from to : ℕ) (t : Touched) → IsTouched old from to t new
    → marks new ≡ take t.first (marks old) ++ (replicate t.new false ++ drop (t.first + t.old) (marks old))
marks-touched old new from to t h =
    ap marks h.paragraphs
    ∙ marks-both (take t.first old) (map anew h.made ++ drop (t.first + t.old) old)
    ∙ ap₂ (λ x y. x ++ y) (sym (take-map (λ (p : KeptParagraph ℕ). is_some p.kept) t.first old))
    (marks-both (map anew h.made) (drop (t.first + t.old) old)
    ∙ ap₂ (λ x y. x ++ y) (marks-anew h.made ∙ ap (λ n. replicate n false) h.count) (sym (drop-map (λ (p : KeptParagraph ℕ). is_some p.kept) (t.first + t.old) old)))

pub marks-in_turn : (old new : List (KeptParagraph ℕ)) (steps : List Step) → IsTouchedInTurn old steps new → marks new ≡ carried steps (marks old)
marks-in_turn old new [] same = ap marks same
marks-in_turn old new (s ∷ steps) h = marks-in_turn h.0 new steps h.2 ∙ ap (carried steps) (marks-touched old h.0 s.from s.to s.touched h.1)

-- ---- the same of the rows themselves

some-count : (o : Option Rows) → is_some (option_map rows_weight o) ≡ is_some o
some-count None = refl
some-count (Some rows) = refl

pub marks-counted : (kept : KeptText) → marks (map counted kept) ≡ flags kept
marks-counted [] = refl
marks-counted (p ∷ kept) = ap₂ (λ b later. b ∷ later) (some-count p.kept) (marks-counted kept)

pub flags-anew : (texts : List (List ℕ)) → flags (map (anew {K = Rows}) texts) ≡ replicate (length texts) false
flags-anew [] = refl
flags-anew (t ∷ texts) = ap (λ later. false ∷ later) (flags-anew texts)

pub texts-counted : (kept : KeptText) → paragraphs_in (map counted kept) ≡ paragraphs_in kept
texts-counted [] = refl
texts-counted (p ∷ kept) = ap (λ later. p.points ∷ later) (texts-counted kept)

texts-anew : (texts : List (List ℕ)) → paragraphs_in (map (anew {K = ℕ}) texts) ≡ texts
texts-anew [] = refl
texts-anew (t ∷ texts) = ap (λ later. t ∷ later) (texts-anew texts)

counted-anew : (texts : List (List ℕ)) → map counted (map (anew {K = Rows}) texts) ≡ map (anew {K = ℕ}) texts
counted-anew [] = refl
counted-anew (t ∷ texts) = ap (λ later. anew t ∷ later) (counted-anew texts)

touched-counted : (old new : KeptText) (from to : ℕ) (t : Touched) → IsTouched old from to t new → IsTouched (map counted old) from to t (map counted new)
touched-counted old new from to t h = record {
  made = h.made;
  paragraphs =
      ap (map counted) h.paragraphs
      ∙ map-append counted (take t.first old) (map anew h.made ++ drop (t.first + t.old) old)
      ∙ ap₂ (λ x y. x ++ y) (sym (take-map counted t.first old))
      (map-append counted (map anew h.made) (drop (t.first + t.old) old)
      ∙ ap₂ (λ x y. x ++ y) (counted-anew h.made) (sym (drop-map counted (t.first + t.old) old)));
  count = h.count;
  some = h.some;
  first = subst (λ ts. IsParagraphOf ts from t.first ⊎ IsParagraphOf ts from (t.first + 1)) (sym (texts-counted old)) h.first;
  last = subst (λ ts. IsParagraphOf ts to (t.first + t.old - 1)) (sym (texts-counted old)) h.last;
}

in_turn-counted : (old new : KeptText) (steps : List Step) → IsTouchedInTurn old steps new → IsTouchedInTurn (map counted old) steps (map counted new)
in_turn-counted old new [] same = ap (map counted) same
in_turn-counted old new (s ∷ steps) h =
    (map counted h.0, touched-counted old h.0 s.from s.to s.touched h.1, in_turn-counted h.0 new steps h.2)

-- ---- a document

pub none-kept : (n k : ℕ) → is_kept (replicate n false) k ≡ false
none-kept zero k = refl
none-kept (suc n) zero = refl
none-kept (suc n) (suc k) = none-kept n k

-- what is behind keeps nothing
pub bare-behind : (tables : TableValues) (set : OperationSet) (kept : KeptText) → IsBare (paragraphs_of true tables set kept)
bare-behind tables set kept = ap (map anew) (sym (texts-anew (paragraph_points tables (text set))))

-- nor does one whose rows were all dropped
pub forgotten-all : (behind : Bool) (tables : TableValues) (set : OperationSet) (kept now : KeptText) → now ≡ map anew (paragraphs_in kept)
    → AreForgotten (paragraphs_of behind tables set kept) (paragraphs_of behind tables set now)
forgotten-all true tables set kept now is = bare-behind tables set now
forgotten-all false tables set kept now is = ap (map counted) is ∙ counted-anew (paragraphs_in kept) ∙ ap (map anew) (sym (texts-counted kept))

pub unkept-behind : (behind : Bool) (tables : TableValues) (set : OperationSet) (kept : KeptText) → (behind ≡ false → ⊥) → (k : ℕ) → is_kept (marks (paragraphs_of behind tables set kept)) k ≡ false
unkept-behind false tables set kept behind k = absurd (behind refl)
unkept-behind true tables set kept behind k =
    ap (λ ms. is_kept ms k) (marks-anew (paragraph_points tables (text set))) ∙ none-kept (length (paragraph_points tables (text set))) k

-- paragraphs are behind, or they came so from older ones
abbrev OrBehind : (behind : Bool) → List (KeptParagraph ℕ) → (came : Type 0) → Type 0
OrBehind behind ps came = ((behind ≡ true) × IsBare ps) ⊎ came

module _ (tables : TableValues) (before after : OperationSet) (kept now : KeptText) (ps : List (KeptParagraph ℕ)) where
  -- an edit of the paragraphs is one of the document, or they are behind
  pub keeps-others : (behind later : Bool) (from to : ℕ) → paragraphs_of behind tables before kept ≡ ps → (later ≡ false → behind ≡ false) → (later ≡ false → (t : Touched) × IsTouched kept from to t now)
      → OrBehind later (paragraphs_of later tables after now) ((t : Touched) × IsTouched ps from to t (paragraphs_of later tables after now))
  keeps-others behind true from to is follows touched = inl (refl, bare-behind tables after now)
  keeps-others true false from to is follows touched = let e = follows refl in cc
  keeps-others false false from to is follows touched =
      let h = touched refl in
      inr (h.0, subst (λ (old : List (KeptParagraph ℕ)). IsTouched old from to h.0 (map counted now)) is (touched-counted kept now from to h.0 h.1))

  -- so are changes
  pub keeps-unchanged : (behind later : Bool) (changes told : List Change) → paragraphs_of behind tables before kept ≡ ps → changes ≡ told → (later ≡ false → behind ≡ false) → (later ≡ false → AreTouched kept changes now)
      → OrBehind later (paragraphs_of later tables after now) (AreTouched ps told (paragraphs_of later tables after now))
  keeps-unchanged behind true changes told is same follows touched = inl (refl, bare-behind tables after now)
  keeps-unchanged true false changes told is same follows touched = let e = follows refl in cc
  keeps-unchanged false false changes told is same follows touched =
      let h = touched refl in
      inr (record {
        steps = h.steps;
        all = sym same ∙ h.all;
        touched = subst (λ (old : List (KeptParagraph ℕ)). IsTouchedInTurn old h.steps (map counted now)) is (in_turn-counted kept now h.steps h.touched);
        whole = h.whole;
      })

-- the paragraphs of a document are those of its desk's text
pub texts-live : (desk : Desk) (tables : TableValues) (width : ℕ) (base : Base) (behind : Bool) (kept : KeptText) (s : Shown) (held : ℕ) → IsLive desk tables width base behind kept s held
    → paragraphs_in (paragraphs_of behind tables desk.set kept) ≡ paragraph_points tables (text desk.set)
texts-live desk tables width base true kept s held live = texts-anew (paragraph_points tables (text desk.set))
texts-live desk tables width base false kept s held live = texts-counted kept ∙ live.kept_at.split ∙ ap (paragraph_points tables) (live.text_is refl)

-- after catching up the paragraphs are what the document showed
pub live-caught : (behind : Bool) (tables : TableValues) (set : OperationSet) (old new : KeptText) → (behind ≡ false → new ≡ old) → (behind ≡ true → new ≡ map anew (paragraphs_in new))
    → paragraphs_in new ≡ paragraph_points tables (text set) → map counted new ≡ paragraphs_of behind tables set old
live-caught false tables set old new same fresh split = ap (map counted) (same refl)
live-caught true tables set old new same fresh split = ap (map counted) (fresh refl) ∙ counted-anew (paragraphs_in new) ∙ ap (map anew) split

-- a paragraph's row, by the same tables, paragraphs and text
pub row-alike : (one two : TableValues) (width : ℕ) (base : Base) (texts same : List (List ℕ)) (points alike : List ℕ) (number : ℕ) (row : List DrawnRow → ℕ)
    → HasRow one width base texts number (row (grid_rows one width base (encode_utf8_all points))) → one ≡ two → texts ≡ same → points ≡ alike
    → HasRow two width base same number (row (grid_rows two width base (encode_utf8_all alike)))
row-alike one two width base texts same points alike number row h e f g =
    subst (λ (t : TableValues). HasRow t width base same number (row (grid_rows t width base (encode_utf8_all alike)))) e
    (subst (λ (ts : List (List ℕ)). HasRow one width base ts number (row (grid_rows one width base (encode_utf8_all alike)))) f
    (subst (λ (ps : List ℕ). HasRow one width base texts number (row (grid_rows one width base (encode_utf8_all ps)))) g h))

-- what holds of the answer after Ok
pub of-ok : {A E : Type 0} {P : A → Type 0} (r : Result A E) → is_err r ≡ false → IfOk r P → (v : A) × P v
of-ok (Ok v) e h = (v, h)
of-ok (Err x) e h = cc

-- a window that was laid out of the same paragraphs was laid out of these
pub laid-from : (mid old new : LiveDocument) (place above below : ℕ) → mid.paragraphs ≡ old.paragraphs → IsLaidOut mid new place above below → IsLaidOut old new place above below
laid-from mid old new place above below alike h = record {
  first = h.first;
  end = h.end;
  order = h.order;
  top = h.top;
  bottom = h.bottom;
  laid = h.laid ∙ ap (λ ps. unmarked (marks ps) h.first h.end) alike;
  kept = h.kept;
  stays =
      subst (λ (ps : List (KeptParagraph ℕ)). weight_outside ps h.first h.end + weight_kept (slice_range new.paragraphs h.first h.end) ≤ allowed new.most new.width (length new.window.rows)
      → (k : ℕ) → is_kept (marks ps) k ≡ true → is_kept (marks new.paragraphs) k ≡ true) alike h.stays;
  no_more = subst (λ (ps : List (KeptParagraph ℕ)). (k : ℕ) → is_kept (marks new.paragraphs) k ≡ true → (is_kept (marks ps) k ≡ true) ⊎ ((h.first ≤ k) × (k < h.end))) alike h.no_more;
  held = h.held;
  texts = h.texts;
  same = h.same ∙ ap paragraphs_in alike;
  caught_up = h.caught_up;
}

-- so it is where it may not have been counted
pub counted-from : (mid old new : LiveDocument) (place above below : ℕ) → mid.paragraphs ≡ old.paragraphs → mid.laid ≡ old.laid
    → (new.laid ≡ mid.laid) ⊎ IsLaidOut mid new place above below → (new.laid ≡ old.laid) ⊎ IsLaidOut old new place above below
counted-from mid old new place above below alike count (inl same) = inl (same ∙ count)
counted-from mid old new place above below alike count (inr h) = inr (laid-from mid old new place above below alike h)
