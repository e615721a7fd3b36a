-- Paragraphs beside each other, and texts that begin and end at their cuts.
use Rattle.std.proofs.Common.{◌≡◌, ℕ, zero, suc, ◌+◌, ◌-◌, ◌<◌, ◌≤◌, true, List, [], ◌∷◌, ◌++◌, length, take, drop, get_or, refl, sym, ap, ◌∙◌, inl, inr, add-one, arith}
use Rattle.std.proofs.lemmas.Bool.{cases_lt}
use Rattle.std.proofs.lemmas.List.{append-nil, append_assoc, length-append, length-drop, take-append-drop, drop_more, take_more}
use Rattle.std.specs.List.{concat}
use Rattle.unicode_tables.specs.Tables.{TableValues, bidi_of}
use Rattle.paragraphs.specs.Paragraphs.{meets_at_cut}
use Rattle.paragraphs.proofs.Interface.{parts, parts-some, IsHalved, IsHalved-from, meets-front, meets-last, concat-append}
use Rattle.text_buffer.specs.Stretches.{IsBegun, IsRemade, text_with}
use Rattle.text_buffer.proofs.Texts.{places-at}

concat-more : (kept : List (List ℕ)) (i : ℕ) → i < length kept → concat (take (i + 1) kept) ≡ concat (take i kept) ++ get_or kept i []
concat-more kept i within =
    ap concat (take_more kept i [] within) ∙ concat-append (take i kept) (get_or kept i [] ∷ []) ∙ ap (λ t. concat (take i kept) ++ t) (append-nil (get_or kept i []))

concat-later : (kept : List (List ℕ)) (i : ℕ) → i < length kept → concat (drop i kept) ≡ get_or kept i [] ++ concat (drop (i + 1) kept)
concat-later kept i within = ap concat (drop_more kept i [] within)

-- ---- the text with another in place of some paragraphs

pub text-joined_front : (kept : List (List ℕ)) (i to : ℕ) (t : List ℕ) → i < length kept → text_with kept i to (get_or kept i [] ++ t) ≡ text_with kept (i + 1) to t
text-joined_front kept i to t within =
    let p = get_or kept i [] in
    let z = concat (drop to kept) in
    ap (λ x. concat (take i kept) ++ x) (append_assoc p t z) ∙ sym (append_assoc (concat (take i kept)) p (t ++ z)) ∙ ap (λ x. x ++ (t ++ z)) (sym (concat-more kept i within))

module _ (tables : TableValues) (kept : List (List ℕ)) (is : kept ≡ parts (bidi_of tables) (concat kept)) where
  halved : (i : ℕ) → i < length kept → IsHalved (bidi_of tables) (take i kept) (drop i kept)
  halved i within = IsHalved-from (bidi_of tables) kept (take i kept) (drop i kept) is (sym (take-append-drop i kept)) (omega (arith, length-drop i kept))

  -- a paragraph that is followed is not empty
  some-at : (i : ℕ) → i + 1 < length kept → 0 < length (get_or kept i [])
  some-at i more =
      let p = get_or kept i [] in
      let within : i < length kept = omega arith in
      let h = IsHalved-from (bidi_of tables) (drop i kept) (p ∷ []) (drop (i + 1) kept) (halved i within).after (drop_more kept i [] within) (omega (arith, length-drop (i + 1) kept)) in
      let n = h.some (omega arith) in
      omega (arith, n, ap length (append-nil p))

  few-before : (i : ℕ) → i < length kept → i ≤ length (concat (take i kept))
  few-before zero within = omega arith
  few-before (suc i) within =
      let before = few-before i (omega arith) in
      let one = some-at i (omega arith) in
      let more = ap length (concat-more kept i (omega arith)) ∙ length-append (concat (take i kept)) (get_or kept i []) in
      let next = ap (λ k. length (concat (take k kept))) (add-one i) in
      omega (arith, before, one, more, next)

  -- there are more paragraphs than code points at most by one
  pub few-paragraphs : length kept ≤ length (concat kept) + 1
  few-paragraphs =
      elim (cases_lt 0 (length kept)) [
        | inl some ↦
            let i = length kept - 1 in
            let before = few-before i (omega arith) in
            omega (arith, before, places-at kept i (omega arith))
        | inr none ↦ omega (arith, none)
      ]

  pub some-paragraph : 0 < length kept
  some-paragraph = let p = parts-some (bidi_of tables) (concat kept) in let e = ap length (is ∙ p.2) in omega (arith, e)

  -- what begins with a paragraph begins at a cut, and what ends with one ends at one
  begins : (i : ℕ) (rest : List ℕ) → i + 1 < length kept → meets_at_cut (bidi_of tables) (concat (take i kept)) (get_or kept i [] ++ rest) ≡ true
  begins i rest more =
      let class = bidi_of tables in
      let a = concat (take i kept) in
      let p = get_or kept i [] in
      let later = concat (drop (i + 1) kept) in
      let some = some-at i more in
      let within : i < length kept = omega arith in
      meets-front class a p rest some ∙ sym (meets-front class a p later some) ∙ ap (meets_at_cut class a) (sym (concat-later kept i within)) ∙ (halved i within).met

  ends : (i : ℕ) → i + 1 < length kept → meets_at_cut (bidi_of tables) (get_or kept i []) (concat (drop (i + 1) kept)) ≡ true
  ends i more =
      let class = bidi_of tables in
      let p = get_or kept i [] in
      let later = concat (drop (i + 1) kept) in
      sym (meets-last class (concat (take i kept)) p later (some-at i more)) ∙ ap (λ t. meets_at_cut class t later) (sym (concat-more kept i (omega arith))) ∙ (halved (i + 1) more).met

  -- ---- in front

  pub begun-first : (to : ℕ) (t : List ℕ) → 0 < to → to ≤ length kept → IsBegun tables kept 0 to t
  begun-first to t order within = record { order = order; within = within; before = refl }

  -- with the beginning of its first paragraph a text begins at a cut
  pub begun-own : (i to : ℕ) (f g t : List ℕ) → i < to → to ≤ length kept → f ++ g ≡ get_or kept i [] → 0 < length f → IsBegun tables kept i to (f ++ t)
  begun-own i to f g t order within own some =
      let class = bidi_of tables in
      let a = concat (take i kept) in
      let z = concat (drop to kept) in
      let later = concat (drop (i + 1) kept) in
      let here : i < length kept = omega arith in
      let is : concat (drop i kept) ≡ f ++ (g ++ later) = concat-later kept i here ∙ ap (λ p. p ++ later) (sym own) ∙ append_assoc f g later in
      record {
        order = order;
        within = within;
        before =
            ap (meets_at_cut class a) (append_assoc f t z) ∙ meets-front class a f (t ++ z) some ∙ sym (meets-front class a f (g ++ later) some)
            ∙ ap (meets_at_cut class a) (sym is) ∙ (halved i here).met;
      }

  pub begun-alone : (i to : ℕ) (t : List ℕ) → i + 1 < to → to ≤ length kept → 0 < length t → meets_at_cut (bidi_of tables) (get_or kept i []) t ≡ true → IsBegun tables kept (i + 1) to t
  begun-alone i to t order within some met =
      let class = bidi_of tables in
      let p = get_or kept i [] in
      let z = concat (drop to kept) in
      record {
        order = order;
        within = within;
        before =
            ap (λ x. meets_at_cut class x (t ++ z)) (concat-more kept i (omega arith)) ∙ meets-last class (concat (take i kept)) p (t ++ z) (some-at i (omega arith))
            ∙ meets-front class p t z some ∙ met;
      }

  pub begun-joined : (i to : ℕ) (t : List ℕ) → i + 1 < to → to ≤ length kept → IsBegun tables kept i to (get_or kept i [] ++ t)
  begun-joined i to t order within =
      let p = get_or kept i [] in
      let z = concat (drop to kept) in
      record {
        order = omega arith;
        within = within;
        before = ap (meets_at_cut (bidi_of tables) (concat (take i kept))) (append_assoc p t z) ∙ begins i (t ++ z) (omega arith);
      }

  -- ---- behind

  -- with the end of its last paragraph it ends at a cut
  pub stretch-own : (from i : ℕ) (f g x t : List ℕ) → IsBegun tables kept from (i + 1) t → f ++ g ≡ get_or kept i [] → (i + 1 < length kept → 0 < length g) → t ≡ x ++ g → IsRemade tables kept from (i + 1) t
  stretch-own from i f g x t begun own some is =
      let class = bidi_of tables in
      record {
        begun = begun;
        after = λ more.
            let later = concat (drop (i + 1) kept) in
            ap (λ y. meets_at_cut class y later) is ∙ meets-last class x g later (some more) ∙ sym (meets-last class f g later (some more))
            ∙ ap (λ y. meets_at_cut class y later) own ∙ ends i more;
      }
