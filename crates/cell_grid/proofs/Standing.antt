-- Where clusters stand: slices of the list of spans, and their extent.
use Rattle.std.proofs.Common.{◌≡◌, ℕ, zero, suc, ◌+◌, ◌-◌, ◌<◌, List, [], ◌∷◌, ◌++◌, map, length, take, drop, fold, sum, chars, slice_range, refl, sym, ap, subst, ◌∙◌, arith, length-append, append_assoc}
use Rattle.std.proofs.lemmas.List.{take_at, drop_at}
use Rattle.std.proofs.lemmas.List.Sums.{sum_by-cons}
use Rattle.std.proofs.lemmas.List.Elements.{All-head, All-tail, All-append}
use Rattle.std.proofs.lemmas.Str.{chars-nil, chars-append, IsUtf8-append, IsUtf8-nil, IsCharBoundary-at_seam}
use Rattle.std.specs.List.{All, concat}
use Rattle.std.specs.Str.{IsUtf8, IsCharBoundary}
use Rattle.paragraphs.specs.Text.{code_points}
use Rattle.paragraphs.specs.declared.span.Span.{Span}
use Rattle.cell_grid.specs.Spans.{span_at, spans_from, up_to, extent}

-- how many bytes and how many code points some clusters have
abbrev pub bytes : List (List ℕ) → ℕ
bytes [] = 0
bytes (c ∷ cs) = length c + bytes cs

abbrev pub points : List (List ℕ) → ℕ
points [] = 0
points (c ∷ cs) = length (code_points c) + points cs

pub bytes-concat : (cs : List (List ℕ)) → length (concat cs) ≡ bytes cs
bytes-concat [] = refl
bytes-concat (c ∷ cs) = length-append c (concat cs) ∙ ap (λ n. length c + n) (bytes-concat cs)

pub bytes-append : (xs ys : List (List ℕ)) → bytes (xs ++ ys) ≡ bytes xs + bytes ys
bytes-append [] ys = omega arith
bytes-append (x ∷ xs) ys = let e = bytes-append xs ys in omega arith

pub points-append : (xs ys : List (List ℕ)) → points (xs ++ ys) ≡ points xs + points ys
points-append [] ys = omega arith
points-append (x ∷ xs) ys = let e = points-append xs ys in omega arith

pub concat-append : (xs ys : List (List ℕ)) → concat (xs ++ ys) ≡ concat xs ++ concat ys
concat-append [] ys = refl
concat-append (x ∷ xs) ys = ap (λ t. x ++ t) (concat-append xs ys) ∙ sym (append_assoc x (concat xs) (concat ys))

pub concat-utf8 : (cs : List (List ℕ)) → All IsUtf8 cs → IsUtf8 (concat cs)
concat-utf8 [] u = IsUtf8-nil
concat-utf8 (c ∷ cs) u = IsUtf8-append c (concat cs) (All-head IsUtf8 c cs u) (concat-utf8 cs (All-tail IsUtf8 c cs u))

pub points-concat : (cs : List (List ℕ)) → All IsUtf8 cs → length (code_points (concat cs)) ≡ points cs
points-concat [] u = ap length chars-nil
points-concat (c ∷ cs) u =
    ap length (chars-append c (concat cs) (All-head IsUtf8 c cs u)) ∙ length-append (code_points c) (code_points (concat cs))
    ∙ ap (λ n. length (code_points c) + n) (points-concat cs (All-tail IsUtf8 c cs u))

pub points-sum : (cs : List (List ℕ)) → sum (map length (map code_points cs)) ≡ points cs
points-sum [] = refl
points-sum (c ∷ cs) =
    sum_by-cons (λ (n : ℕ). n) (length (code_points c)) (map length (map code_points cs)) ∙ ap (λ n. length (code_points c) + n) (points-sum cs)

-- ---- spans of parts

pub length-spans : (b p : ℕ) (cs : List (List ℕ)) → length (spans_from b p cs) ≡ length cs
length-spans b p [] = refl
length-spans b p (c ∷ cs) = ap suc (length-spans (b + length c) (p + length (code_points c)) cs)

pub same_spans : (b b' p p' : ℕ) (cs : List (List ℕ)) → b ≡ b' → p ≡ p' → spans_from b p cs ≡ spans_from b' p' cs
same_spans b b' p p' cs e f = ap (λ n. spans_from n p cs) e ∙ ap (λ n. spans_from b' n cs) f

pub spans-drop : (k b p : ℕ) (cs : List (List ℕ)) → drop k (spans_from b p cs) ≡ spans_from (b + bytes (take k cs)) (p + points (take k cs)) (drop k cs)
spans-drop zero b p cs = same_spans b (b + 0) p (p + 0) cs (omega arith) (omega arith)
spans-drop (suc k) b p [] = refl
spans-drop (suc k) b p (c ∷ cs) =
    spans-drop k (b + length c) (p + length (code_points c)) cs
    ∙ same_spans (b + length c + bytes (take k cs)) (b + (length c + bytes (take k cs))) (p + length (code_points c) + points (take k cs)) (p + (length (code_points c) + points (take k cs)))
    (drop k cs) (omega arith) (omega arith)

pub spans-take : (k b p : ℕ) (cs : List (List ℕ)) → take k (spans_from b p cs) ≡ spans_from b p (take k cs)
spans-take zero b p cs = refl
spans-take (suc k) b p [] = refl
spans-take (suc k) b p (c ∷ cs) = ap (λ l. span_at b p c ∷ l) (spans-take k (b + length c) (p + length (code_points c)) cs)

-- the spans of the clusters from i up to j
pub spans-range : (i j b p : ℕ) (cs : List (List ℕ)) → slice_range (spans_from b p cs) i j ≡ spans_from (b + bytes (take i cs)) (p + points (take i cs)) (slice_range cs i j)
spans-range i j b p cs = ap (take (j - i)) (spans-drop i b p cs) ∙ spans-take (j - i) (b + bytes (take i cs)) (p + points (take i cs)) (drop i cs)

-- ---- their extent

abbrev pub span_of : (first_byte end_byte first_place end_place : ℕ) → Span
span_of a b c d = record { first_byte = a; end_byte = b; first_place = c; end_place = d }

same_ends : (a b b' c d d' : ℕ) → b ≡ b' → d ≡ d' → span_of a b c d ≡ span_of a b' c d'
same_ends a b b' c d d' e f = ap (λ n. span_of a n c d) e ∙ ap (λ n. span_of a b' c n) f

extent-fold : (a b c p : ℕ) (cs : List (List ℕ)) → fold up_to (span_of a b c p) (spans_from b p cs) ≡ span_of a (b + bytes cs) c (p + points cs)
extent-fold a b c p [] = same_ends a b (b + 0) c p (p + 0) (omega arith) (omega arith)
extent-fold a b c p (x ∷ cs) =
    extent-fold a (b + length x) c (p + length (code_points x)) cs
    ∙ same_ends a (b + length x + bytes cs) (b + (length x + bytes cs)) c (p + length (code_points x) + points cs) (p + (length (code_points x) + points cs)) (omega arith) (omega arith)

pub extent-spans : (b p : ℕ) (cs : List (List ℕ)) → 0 < length cs → extent (spans_from b p cs) ≡ span_of b (b + bytes cs) p (p + points cs)
extent-spans b p [] some = absurd (omega arith)
extent-spans b p (c ∷ cs) some =
    extent-fold b (b + length c) p (p + length (code_points c)) cs
    ∙ same_ends b (b + length c + bytes cs) (b + (length c + bytes cs)) p (p + length (code_points c) + points cs) (p + (length (code_points c) + points cs)) (omega arith) (omega arith)

-- ---- the text that they have

module _ (text : List ℕ) (front mid back : List (List ℕ)) (joined : concat (front ++ (mid ++ back)) ≡ text) (uf : All IsUtf8 front) (um : All IsUtf8 mid) (ub : All IsUtf8 back) where
  split : text ≡ concat front ++ (concat mid ++ concat back)
  split = sym joined ∙ concat-append front (mid ++ back) ∙ ap (λ t. concat front ++ t) (concat-append mid back)

  pub start-boundary : IsCharBoundary text (bytes front)
  start-boundary = subst (IsCharBoundary text) (bytes-concat front) (IsCharBoundary-at_seam text (concat front) (concat mid ++ concat back) split (IsUtf8-append (concat mid) (concat back) (concat-utf8 mid um) (concat-utf8 back ub)))

  pub end-boundary : IsCharBoundary text (bytes front + bytes mid)
  end-boundary =
      let n : length (concat front ++ concat mid) ≡ bytes front + bytes mid = (let a = length-append (concat front) (concat mid) in let b = bytes-concat front in let c = bytes-concat mid in omega arith) in
      subst (IsCharBoundary text) n
      (IsCharBoundary-at_seam text (concat front ++ concat mid) (concat back) (split ∙ sym (append_assoc (concat front) (concat mid) (concat back))) (concat-utf8 back ub))

  pub text-between : slice_range text (bytes front) (bytes front + bytes mid) ≡ concat mid
  text-between =
      let n : bytes front + bytes mid - bytes front ≡ bytes mid = omega arith in
      ap (λ k. take k (drop (bytes front) text)) n
      ∙ ap (take (bytes mid)) (ap (drop (bytes front)) split ∙ drop_at (concat front) (concat mid ++ concat back) (bytes front) (bytes-concat front))
      ∙ take_at (concat mid) (concat back) (bytes mid) (bytes-concat mid)

  points-split : code_points text ≡ code_points (concat front) ++ (code_points (concat mid) ++ code_points (concat back))
  points-split =
      ap code_points split ∙ chars-append (concat front) (concat mid ++ concat back) (concat-utf8 front uf)
      ∙ ap (λ l. code_points (concat front) ++ l) (chars-append (concat mid) (concat back) (concat-utf8 mid um))

  pub points-between : chars (slice_range text (bytes front) (bytes front + bytes mid)) ≡ slice_range (code_points text) (points front) (points front + points mid)
  points-between =
      let n : points front + points mid - points front ≡ points mid = omega arith in
      let part : slice_range (code_points text) (points front) (points front + points mid) ≡ code_points (concat mid) =
      ap (λ k. take k (drop (points front) (code_points text))) n
      ∙ ap (take (points mid)) (ap (drop (points front)) points-split ∙ drop_at (code_points (concat front)) (code_points (concat mid) ++ code_points (concat back)) (points front) (points-concat front uf))
      ∙ take_at (code_points (concat mid)) (code_points (concat back)) (points mid) (points-concat mid um) in
      ap chars text-between ∙ sym part

  pub points-all : length (code_points text) ≡ points front + points mid + points back
  points-all =
      let whole : All IsUtf8 (front ++ (mid ++ back)) = All-append IsUtf8 front (mid ++ back) uf (All-append IsUtf8 mid back um ub) in
      let a = ap (λ t. length (code_points t)) (sym joined) ∙ points-concat (front ++ (mid ++ back)) whole in
      let b = points-append front (mid ++ back) in
      let c = points-append mid back in
      omega arith
