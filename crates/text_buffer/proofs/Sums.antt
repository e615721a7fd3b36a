-- How many bytes and code points paragraphs have, and of how many something is kept.
use Rattle.std.proofs.Common.{◌≡◌, ℕ, suc, ◌+◌, ◌-◌, ◌≤◌, ◌<◌, List, [], ◌∷◌, ◌++◌, cond, length, take, drop, get_or, set, add-one, sym, ap, ◌∙◌, arith}
use Rattle.std.proofs.lemmas.List.{append-nil, length-append, map-append, set_split, drop_more, take_more, take-append-drop, take-take, drop-drop}
use Rattle.std.proofs.lemmas.List.Sums.{sum_by-append, count_by-le-length}
use Rattle.std.proofs.lemmas.Str.{encodes-append, encodes-chars, IsUtf8-string_bytes, length-le-encodes}
use Rattle.std.specs.List.{concat}
use Rattle.std.specs.Prelude.{encode_utf8_all, is_some, string_bytes}
use Rattle.paragraphs.proofs.Interface.{concat-append}
use Rattle.text_buffer.specs.declared.piece.Piece.{Piece}
use Rattle.text_buffer.specs.Buffers.{bytes_in}
use Rattle.text_buffer.specs.Pieces.{points_of, points_in, kept_count}

pub places-append : (xs ys : List (List ℕ)) → length (concat (xs ++ ys)) ≡ length (concat xs) + length (concat ys)
places-append xs ys = ap length (concat-append xs ys) ∙ length-append (concat xs) (concat ys)

pub bytes_in-append : (x y : List ℕ) → bytes_in (x ++ y) ≡ bytes_in x + bytes_in y
bytes_in-append x y = ap length (encodes-append x y) ∙ length-append (encode_utf8_all x) (encode_utf8_all y)

pub bytes-append : (xs ys : List (List ℕ)) → bytes_in (concat (xs ++ ys)) ≡ bytes_in (concat xs) + bytes_in (concat ys)
bytes-append xs ys = ap bytes_in (concat-append xs ys) ∙ bytes_in-append (concat xs) (concat ys)

pub places-few : (x : List ℕ) → length x ≤ bytes_in x
places-few x = length-le-encodes x

-- the front of a text has no more bytes than a longer front
pub bytes-front : (x : List ℕ) (i j : ℕ) → i ≤ j → bytes_in (take i x) ≤ bytes_in (take j x)
bytes-front x i j order =
    let all = ap bytes_in (sym (take-append-drop i (take j x))) ∙ bytes_in-append (take i (take j x)) (drop i (take j x)) in
    let same = ap bytes_in (take-take i j x order) in
    omega (arith, all, same)

pub bytes-some : (x : List ℕ) (i : ℕ) → bytes_in (take i x) ≤ bytes_in x
bytes-some x i = let all = ap bytes_in (sym (take-append-drop i x)) ∙ bytes_in-append (take i x) (drop i x) in omega (arith, all)

pub bytes-one : (x : List ℕ) → bytes_in (concat (x ∷ [])) ≡ bytes_in x
bytes-one x = ap bytes_in (append-nil x)

module _ {K : Type 0} where
  -- a paragraph's bytes are those of its code points
  pub bytes-piece : (p : Piece K) → bytes_in (points_of p) ≡ length (string_bytes p.text)
  bytes-piece p = ap length (encodes-chars (string_bytes p.text) (IsUtf8-string_bytes p.text))

  -- the sums with one more
  pub bytes-more : (ps : List (Piece K)) (i : ℕ) (p : Piece K) → i < length ps → get_or ps i p ≡ p
      → bytes_in (concat (points_in (take (i + 1) ps))) ≡ bytes_in (concat (points_in (take i ps))) + length (string_bytes p.text)
  bytes-more ps i p within is =
      ap (λ t. bytes_in (concat (points_in t))) (take_more ps i p within ∙ ap (λ x. take i ps ++ x ∷ []) is)
      ∙ ap (λ t. bytes_in (concat t)) (map-append points_of (take i ps) (p ∷ []))
      ∙ bytes-append (points_in (take i ps)) (points_of p ∷ [])
      ∙ ap (λ n. bytes_in (concat (points_in (take i ps))) + n) (bytes-one (points_of p) ∙ bytes-piece p)

  pub places-more : (ps : List (Piece K)) (i : ℕ) (p : Piece K) → i < length ps → get_or ps i p ≡ p
      → length (concat (points_in (take (i + 1) ps))) ≡ length (concat (points_in (take i ps))) + p.places
  places-more ps i p within is =
      ap (λ t. length (concat (points_in t))) (take_more ps i p within ∙ ap (λ x. take i ps ++ x ∷ []) is)
      ∙ ap (λ t. length (concat t)) (map-append points_of (take i ps) (p ∷ []))
      ∙ places-append (points_in (take i ps)) (points_of p ∷ [])
      ∙ ap (λ n. length (concat (points_in (take i ps))) + n) (ap length (append-nil (points_of p)) ∙ sym p.counted)

  -- the sums of two rows, one behind the other
  pub bytes-both : (ps qs : List (Piece K)) → bytes_in (concat (points_in (ps ++ qs))) ≡ bytes_in (concat (points_in ps)) + bytes_in (concat (points_in qs))
  bytes-both ps qs = ap (λ t. bytes_in (concat t)) (map-append points_of ps qs) ∙ bytes-append (points_in ps) (points_in qs)

  pub places-both : (ps qs : List (Piece K)) → length (concat (points_in (ps ++ qs))) ≡ length (concat (points_in ps)) + length (concat (points_in qs))
  places-both ps qs = ap (λ t. length (concat t)) (map-append points_of ps qs) ∙ places-append (points_in ps) (points_in qs)

  -- the sums of two parts of a row
  pub bytes-parts : (ps : List (Piece K)) (n : ℕ) → bytes_in (concat (points_in ps)) ≡ bytes_in (concat (points_in (take n ps))) + bytes_in (concat (points_in (drop n ps)))
  bytes-parts ps n = ap (λ t. bytes_in (concat (points_in t))) (sym (take-append-drop n ps)) ∙ bytes-both (take n ps) (drop n ps)

  pub places-parts : (ps : List (Piece K)) (n : ℕ) → length (concat (points_in ps)) ≡ length (concat (points_in (take n ps))) + length (concat (points_in (drop n ps)))
  places-parts ps n = ap (λ t. length (concat (points_in t))) (sym (take-append-drop n ps)) ∙ places-both (take n ps) (drop n ps)

  -- a stretch of a row, with what stands before it and behind it
  pub bytes-between : (ps : List (Piece K)) (from to : ℕ) → from ≤ to
      → bytes_in (concat (points_in ps)) ≡ bytes_in (concat (points_in (take from ps))) + (bytes_in (concat (points_in (take (to - from) (drop from ps)))) + bytes_in (concat (points_in (drop to ps))))
  bytes-between ps from to order =
      let last = ap (λ t. bytes_in (concat (points_in t))) (drop-drop (to - from) from ps) in
      let same : from + (to - from) ≡ to = omega arith in
      let rest = ap (λ n. bytes_in (concat (points_in (drop n ps)))) same in
      omega (arith, bytes-parts ps from, bytes-parts (drop from ps) (to - from), last, rest)

  pub places-between : (ps : List (Piece K)) (from to : ℕ) → from ≤ to
      → length (concat (points_in ps)) ≡ length (concat (points_in (take from ps))) + (length (concat (points_in (take (to - from) (drop from ps)))) + length (concat (points_in (drop to ps))))
  places-between ps from to order =
      let last = ap (λ t. length (concat (points_in t))) (drop-drop (to - from) from ps) in
      let same : from + (to - from) ≡ to = omega arith in
      let rest = ap (λ n. length (concat (points_in (drop n ps)))) same in
      omega (arith, places-parts ps from, places-parts (drop from ps) (to - from), last, rest)

module _ {K : Type 0} where
  pub kept-both : (ps qs : List (Piece K)) → kept_count (ps ++ qs) ≡ kept_count ps + kept_count qs
  kept-both ps qs = sum_by-append (λ (p : Piece K). cond (is_some p.kept) 1 0) ps qs

  pub kept-one : (p : Piece K) → kept_count (p ∷ []) ≡ cond (is_some p.kept) 1 0
  kept-one p = omega arith

  pub kept-few : (ps : List (Piece K)) → kept_count ps ≤ length ps
  kept-few ps = count_by-le-length (λ (p : Piece K). is_some p.kept) ps

  pub kept-more : (ps : List (Piece K)) (i : ℕ) (p : Piece K) → i < length ps → get_or ps i p ≡ p → kept_count (take (i + 1) ps) ≡ kept_count (take i ps) + cond (is_some p.kept) 1 0
  kept-more ps i p within is =
      ap kept_count (take_more ps i p within ∙ ap (λ x. take i ps ++ x ∷ []) is) ∙ kept-both (take i ps) (p ∷ []) ∙ ap (λ n. kept_count (take i ps) + n) (kept-one p)

  pub kept-parts : (ps : List (Piece K)) (n : ℕ) → kept_count ps ≡ kept_count (take n ps) + kept_count (drop n ps)
  kept-parts ps n = ap kept_count (sym (take-append-drop n ps)) ∙ kept-both (take n ps) (drop n ps)

  pub kept-between : (ps : List (Piece K)) (from to : ℕ) → from ≤ to → kept_count ps ≡ kept_count (take from ps) + (kept_count (take (to - from) (drop from ps)) + kept_count (drop to ps))
  kept-between ps from to order =
      let last = ap kept_count (drop-drop (to - from) from ps) in
      let same : from + (to - from) ≡ to = omega arith in
      let rest = ap (λ n. kept_count (drop n ps)) same in
      omega (arith, kept-parts ps from, kept-parts (drop from ps) (to - from), last, rest)

  -- with one that is another
  pub kept-set : (ps : List (Piece K)) (i : ℕ) (x d : Piece K) → i < length ps → kept_count (set ps i x) + cond (is_some (get_or ps i d).kept) 1 0 ≡ kept_count ps + cond (is_some x.kept) 1 0
  kept-set ps i x d within =
      let new = ap kept_count (set_split ps i x within) ∙ kept-both (take i ps) (x ∷ drop (suc i) ps) in
      let p = get_or ps i d in
      let old = kept-parts ps i in
      let here = ap kept_count (drop_more ps i d within) in
      let next = ap (λ n. kept_count (drop n ps)) (add-one i) in
      omega (arith, new, old, here, next, kept-both (x ∷ []) (drop (suc i) ps), kept-both (p ∷ []) (drop (i + 1) ps), kept-one x, kept-one p)

module _ {K : Type 0} where
  -- it is at least that of one
  pub kept-least : (ps : List (Piece K)) (i : ℕ) (y : Piece K) → i < length ps → y ≡ get_or ps i y → cond (is_some y.kept) 1 0 ≤ kept_count ps
  kept-least ps i y within at =
      let more = kept-more ps i y within (sym at) in
      omega (arith, more, kept-parts ps (i + 1))

  -- the count with another in the place of one
  pub kept-write : (ps : List (Piece K)) (i : ℕ) (x y : Piece K) (was is n : ℕ) → i < length ps → y ≡ get_or ps i y → was ≡ cond (is_some y.kept) 1 0 → is ≡ cond (is_some x.kept) 1 0 → n ≡ kept_count ps
      → n - was + is ≡ kept_count (set ps i x)
  kept-write ps i x y was is n within at was_is is_is count =
      let old = ap (λ (p : Piece K). cond {A = ℕ} (is_some p.kept) 1 0) at in
      omega (arith, kept-set ps i x y within, kept-least ps i y within at, old, was_is, is_is, count)

pub bytes-take : (xs : List (List ℕ)) (n : ℕ) → bytes_in (concat (take n xs)) ≤ bytes_in (concat xs)
bytes-take xs n =
    let all = ap (λ t. bytes_in (concat t)) (sym (take-append-drop n xs)) in
    omega (arith, all, bytes-append (take n xs) (drop n xs))
