-- Others in the place of a stretch are the paragraphs of the new text.
use Rattle.std.proofs.Common.{◌≡◌, ℕ, ◌+◌, ◌-◌, ◌<◌, ◌≤◌, true, cond, List, [], ◌∷◌, ◌++◌, map, length, take, drop, sym, ap, ◌∙◌, inl, inr, eq-eqb, arith}
use Rattle.std.proofs.lemmas.Bool.{cases_lt, eqb-true, eqb-false}
use Rattle.std.proofs.lemmas.List.{length-append}
use Rattle.std.specs.List.{concat}
use Rattle.std.specs.Str.{IsUtf8}
use Rattle.std.specs.Prelude.{nat_eq}
use Rattle.unicode_tables.specs.Tables.{TableValues, bidi_of}
use Rattle.paragraphs.specs.Text.{code_points}
use Rattle.paragraphs.specs.Paragraphs.{Paragraph, paragraphs}
use Rattle.paragraphs.proofs.Interface.{parts, points-parts}
use Rattle.text_buffer.specs.Buffers.{bytes_in}
use Rattle.text_buffer.specs.Stretches.{IsRemade, text_with}
use Rattle.text_buffer.proofs.Sums.{bytes-append, places-append, places-few}
use Rattle.text_buffer.proofs.Splits.{put-stretch, text-of_parts, split-of_parts, some-parts}
use Rattle.text_buffer.proofs.Begun.{few-paragraphs}

pub record IsMade (tables : TableValues) (kept : List (List ℕ)) (from to : ℕ) (put : List (List ℕ)) (text : List ℕ) : Type 0 where
  pub order : from < to
  pub within : to ≤ length kept
  pub parts_is : take from kept ++ (put ++ drop to kept) ≡ parts (bidi_of tables) text
  pub bytes : bytes_in (concat put) ≤ bytes_in text
  pub paragraphs : length put ≤ bytes_in text + 1
  pub some : 0 < length put

some-put : (xs : List (List ℕ)) → 0 < length (concat xs) → 0 < length xs
some-put [] some = absurd (omega (arith, some))
some-put (x ∷ xs) some = omega arith

abbrev pub all_points : TableValues → List ℕ → List (List ℕ)
all_points tables bytes = map (λ (p : Paragraph). code_points p.text) (paragraphs tables bytes)

made-parts : (tables : TableValues) (kept : List (List ℕ)) (from to count : ℕ) (points bytes : List ℕ) (put : List (List ℕ)) → kept ≡ parts (bidi_of tables) (concat kept) → count ≡ length kept
    → IsRemade tables kept from to points → IsUtf8 bytes → code_points bytes ≡ points
    → put ≡ cond (nat_eq to count) (all_points tables bytes) (take (length (all_points tables bytes) - 1) (all_points tables bytes))
    → take from kept ++ (put ++ drop to kept) ≡ parts (bidi_of tables) (text_with kept from to points)
made-parts tables kept from to count points bytes put is counted s u e made =
    let class = bidi_of tables in
    let order = s.begun.within in
    ap (λ t. take from kept ++ (t ++ drop to kept)) (made ∙ ap (λ all. cond (nat_eq to count) all (take (length all - 1) all)) (points-parts tables bytes u ∙ ap (parts class) e))
    ∙ put-stretch tables kept from to points is s (nat_eq to count) (λ h. eqb-true to count h ∙ counted)
    (λ h. elim (cases_lt to (length kept)) [
      | inl more ↦ more
      | inr end ↦ absurd (eqb-false to count h (omega (arith, order, end, counted)))
    ])

pub made-change : (tables : TableValues) (kept : List (List ℕ)) (from to count : ℕ) (points bytes : List ℕ) (put : List (List ℕ)) → kept ≡ parts (bidi_of tables) (concat kept) → count ≡ length kept
    → IsRemade tables kept from to points → (to < length kept → 0 < length points) → IsUtf8 bytes → code_points bytes ≡ points
    → put ≡ cond (nat_eq to count) (all_points tables bytes) (take (length (all_points tables bytes) - 1) (all_points tables bytes))
    → IsMade tables kept from to put (text_with kept from to points)
made-change tables kept from to count points bytes put is counted s more u e made =
    let text = text_with kept from to points in
    let all = made-parts tables kept from to count points bytes put is counted s u e made in
    let new = take from kept ++ (put ++ drop to kept) in
    let whole = text-of_parts tables new text all in
    let joined = ap bytes_in whole in
    let few = few-paragraphs tables new (split-of_parts tables new text all) in
    let sum = bytes-append (take from kept) (put ++ drop to kept) in
    let parted = bytes-append put (drop to kept) in
    let places = sym (ap length whole) ∙ places-append (take from kept) (put ++ drop to kept) in
    let wanted = length-append (concat (take from kept)) (points ++ concat (drop to kept)) in
    record {
      order = s.begun.order;
      within = s.begun.within;
      parts_is = all;
      bytes = omega (arith, joined, sum, parted);
      paragraphs = omega (arith, joined, few, places-few (concat new), length-append (take from kept) (put ++ drop to kept), length-append put (drop to kept));
      some = elim (cases_lt to (length kept)) [
        | inl later ↦ some-put put (omega (arith, more later, places, wanted, length-append points (concat (drop to kept)), places-append put (drop to kept)))
        | inr end ↦
            let order = s.begun.within in
            let last : nat_eq to count ≡ true = eq-eqb to count (omega (arith, order, end, counted)) in
            some-parts tables put points (made ∙ ap (λ b. cond b (all_points tables bytes) (take (length (all_points tables bytes) - 1) (all_points tables bytes))) last
            ∙ points-parts tables bytes u ∙ ap (parts (bidi_of tables)) e)
      ];
    }
