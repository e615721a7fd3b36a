-- An edit of paragraphs is an edit of their text.
use Rattle.std.proofs.Common.{◌≡◌, ◌⊎◌, ℕ, ◌+◌, ◌-◌, ◌<◌, ◌≤◌, List, [], ◌∷◌, ◌++◌, map, length, take, drop, get_or, refl, sym, ap, ap₂, subst, ◌∙◌, inl, inr, arith}
use Rattle.std.proofs.lemmas.Bool.{cases_lt}
use Rattle.std.proofs.lemmas.List.{append-nil, append_assoc, length-append, take-take, take-append-drop, length-take-le, length-drop}
use Rattle.std.proofs.Math.Seq.{take-append-add, drop-append-add}
use Rattle.std.specs.List.{concat}
use Rattle.text_buffer.specs.declared.piece.Piece.{Piece}
use Rattle.text_buffer.specs.Buffers.{bytes_in, paragraphs_in}
use Rattle.text_buffer.specs.Edits.{replaced, anew, IsParagraphOf}
use Rattle.text_buffer.specs.Pieces.{points_in, seen}
use Rattle.text_buffer.specs.Stretches.{text_with}
use Rattle.text_buffer.proofs.Sums.{bytes_in-append, bytes-front, places-append}
use Rattle.text_buffer.proofs.Texts.{concat-at, places-more-at}
use Rattle.text_buffer.proofs.Places.{seen-points}

-- fewer paragraphs have no more code points
places-order : (kept : List (List ℕ)) (i j : ℕ) → i ≤ j → length (concat (take i kept)) ≤ length (concat (take j kept))
places-order kept i j order =
    let all = ap (λ t. length (concat t)) (sym (take-append-drop i (take j kept))) ∙ places-append (take i (take j kept)) (drop i (take j kept)) in
    let same = ap (λ t. length (concat t)) (take-take i j kept order) in
    omega (arith, all, same)

-- a place behind so many code points of a paragraph
module _ (kept : List (List ℕ)) (n place : ℕ) (f b : List ℕ) (within : n < length kept) (own : f ++ b ≡ get_or kept n []) (at : length (concat (take n kept)) + length f ≡ place) where
  halves : concat kept ≡ concat (take n kept) ++ (f ++ (b ++ concat (drop (n + 1) kept)))
  halves = concat-at kept n within ∙ ap (λ p. concat (take n kept) ++ (p ++ concat (drop (n + 1) kept))) (sym own) ∙ ap (λ t. concat (take n kept) ++ t) (append_assoc f b (concat (drop (n + 1) kept)))

  pub text-front : take place (concat kept) ≡ concat (take n kept) ++ f
  text-front =
      let a = concat (take n kept) in
      let t = b ++ concat (drop (n + 1) kept) in
      let none : length f ≡ length f + 0 = omega arith in
      ap₂ take (sym at) halves ∙ take-append-add a (f ++ t) (length f)
      ∙ ap (λ x. a ++ x) (ap (λ k. take k (f ++ t)) none ∙ take-append-add f t 0 ∙ append-nil f)

  pub text-back : drop place (concat kept) ≡ b ++ concat (drop (n + 1) kept)
  text-back =
      let a = concat (take n kept) in
      let t = b ++ concat (drop (n + 1) kept) in
      let none : length f ≡ length f + 0 = omega arith in
      ap₂ drop (sym at) halves ∙ drop-append-add a (f ++ t) (length f) ∙ ap (λ k. drop k (f ++ t)) none ∙ drop-append-add f t 0

  pub is-paragraph : (n + 1 < length kept → 0 < length b) → IsParagraphOf kept place n
  is-paragraph some =
      let size = ap length own in
      record {
        there = within;
        begun = omega (arith, at);
        last = λ more. let later = some more in omega (arith, at, later, places-more-at kept n within, sym (length-append f b) ∙ size);
      }

-- a text in the place of all from one place up to another
module _ (kept : List (List ℕ)) (m n from to : ℕ) (f g h b : List ℕ) (m_within : m < length kept) (n_within : n < length kept)
    (m_own : f ++ g ≡ get_or kept m []) (n_own : h ++ b ≡ get_or kept n [])
    (m_at : length (concat (take m kept)) + length f ≡ from) (n_at : length (concat (take n kept)) + length h ≡ to) where
  pub text-replaced : (t : List ℕ) → text_with kept m (n + 1) (f ++ (t ++ b)) ≡ replaced (concat kept) from to t
  text-replaced t =
      let a = concat (take m kept) in
      let z = concat (drop (n + 1) kept) in
      ap (λ x. a ++ x) (append_assoc f (t ++ b) z ∙ ap (λ x. f ++ x) (append_assoc t b z)) ∙ sym (append_assoc a f (t ++ (b ++ z)))
      ∙ ap₂ (λ x y. x ++ (t ++ y)) (sym (text-front kept m from f g m_within m_own m_at)) (sym (text-back kept n to h b n_within n_own n_at))

  pub paragraphs-order : from ≤ to → (n + 1 < length kept → 0 < length b) → m ≤ n
  paragraphs-order order some =
      elim (cases_lt n m) [
        | inr fine ↦ fine
        | inl less ↦
            let later = some (omega arith) in
            let size = ap length n_own in
            absurd (omega (arith, later, places-order kept (n + 1) m (omega arith), places-more-at kept n n_within, sym (length-append h b) ∙ size, m_at, n_at, order))
      ]

-- how many bytes a text has then
pub bytes-replaced : (text points : List ℕ) (from to : ℕ) → from ≤ to
    → bytes_in (replaced text from to points) + (bytes_in (take to text) - bytes_in (take from text)) ≡ bytes_in text + bytes_in points
bytes-replaced text points from to order =
    let all = ap bytes_in (sym (take-append-drop to text)) ∙ bytes_in-append (take to text) (drop to text) in
    let new = bytes_in-append (take from text) (points ++ drop to text) in
    omega (arith, all, new, bytes_in-append points (drop to text), bytes-front text from to order)

pub places-replaced : (text points : List ℕ) (from to : ℕ) → from ≤ to → to ≤ length text → length (replaced text from to points) + (to - from) ≡ length text + length points
places-replaced text points from to order within =
    let new = length-append (take from text) (points ++ drop to text) in
    omega (arith, new, length-append points (drop to text), length-take-le from text (omega arith), length-drop to text)

-- the text of a stretch whose paragraph in front may be made anew too
pub of-first : (kept : List (List ℕ)) (place m from : ℕ) → IsParagraphOf kept place m → (from ≡ m) ⊎ (from + 1 ≡ m) → IsParagraphOf kept place from ⊎ IsParagraphOf kept place (from + 1)
of-first kept place m from is (inl same) = inl (subst (IsParagraphOf kept place) (sym same) is)
of-first kept place m from is (inr next) = inr (subst (IsParagraphOf kept place) (sym next) is)

-- paragraphs of which nothing is kept have these code points
anew-points : (K : Type 0) (xs : List (List ℕ)) → paragraphs_in {K = K} (map anew xs) ≡ xs
anew-points K [] = refl
anew-points K (x ∷ xs) = ap (λ t. x ∷ t) (anew-points K xs)

pub points-anew : {K : Type 0} (ps : List (Piece K)) (xs : List (List ℕ)) → map seen ps ≡ map anew xs → points_in ps ≡ xs
points-anew {K} ps xs is = sym (seen-points ps) ∙ ap paragraphs_in is ∙ anew-points K xs
