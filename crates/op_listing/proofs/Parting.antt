-- Cutting bytes at the first one of a kind: words off a line, and lines off a text.
use Rattle.std.proofs.Common.{◌≡◌, ℕ, suc, ◌+◌, ◌<◌, Bool, true, false, not, cond, eqb, List, [], ◌∷◌, length, get_or, take, drop, drop-cons, add-one, refl, sym, ap, ◌∙◌, inl, inr, ◌⊎◌, arith, subst}
use borrow.Author.Tests.{ne_eqb}
use Rattle.std.specs.Prelude.{filter, ◌==◌}
use Rattle.std.specs.List.{slice_split, onto_first, prefix_len, position_or_len}
use Rattle.std.specs.Str.Lines.{lines, lines_of_parts, strip_carriage_return}
use Rattle.std.proofs.lemmas.List.{drop_all, take_all}
use Rattle.std.proofs.lemmas.List.Splits.{slice_split-cons_yes, slice_split-cons_no, length-slice_split}
use Rattle.op_listing.specs.Words.{is_word, words, TakesWord}

-- ---- the first part

-- what stands before the first byte that passes p is the first part, and the other parts are those of what follows
pub record FirstPart (p : ℕ → Bool) (xs : List ℕ) : Type 0 where
  pub parts : List (List ℕ)
  pub split : slice_split p xs ≡ take (position_or_len p xs) xs ∷ parts
  pub rest : slice_split p (drop (position_or_len p xs) xs) ≡ [] ∷ parts

first_part_at : (p : ℕ → Bool) (x : ℕ) (xs : List ℕ) (b : Bool) → p x ≡ b → FirstPart p xs → FirstPart p (x ∷ xs)
first_part_at p x xs true e h =
    let n : position_or_len p (x ∷ xs) ≡ 0 = ap (λ t. cond (not t) (1 + position_or_len p xs) 0) e in
    let s = slice_split-cons_yes p x xs e in
    record {
      parts = slice_split p xs;
      split = s ∙ ap (λ (k : ℕ). take k (x ∷ xs) ∷ slice_split p xs) (sym n);
      rest = ap (λ (k : ℕ). slice_split p (drop k (x ∷ xs))) n ∙ s;
    }
first_part_at p x xs false e h =
    let one : 1 + position_or_len p xs ≡ suc (position_or_len p xs) = omega arith in
    let n : position_or_len p (x ∷ xs) ≡ suc (position_or_len p xs) = ap (λ t. cond (not t) (1 + position_or_len p xs) 0) e ∙ one in
    record {
      parts = h.parts;
      split = slice_split-cons_no p x xs e ∙ ap (onto_first x) h.split ∙ ap (λ (k : ℕ). take k (x ∷ xs) ∷ h.parts) (sym n);
      rest = ap (λ (k : ℕ). slice_split p (drop k (x ∷ xs))) n ∙ h.rest;
    }

pub first_part : (p : ℕ → Bool) (xs : List ℕ) → FirstPart p xs
first_part p [] = record { parts = []; split = refl; rest = refl }
first_part p (x ∷ xs) = first_part_at p x xs (p x) refl (first_part p xs)

-- ---- words

spaces-yes : (x : ℕ) (xs : List ℕ) → eqb x 32 ≡ true → prefix_len (λ b. b == 32) (x ∷ xs) ≡ suc (prefix_len (λ b. b == 32) xs)
spaces-yes x xs e = let one : 1 + prefix_len (λ b. b == 32) xs ≡ suc (prefix_len (λ b. b == 32) xs) = omega arith in ap (λ t. cond t (1 + prefix_len (λ b. b == 32) xs) 0) e ∙ one

spaces-no : (x : ℕ) (xs : List ℕ) → eqb x 32 ≡ false → prefix_len (λ b. b == 32) (x ∷ xs) ≡ 0
spaces-no x xs e = ap (λ t. cond t (1 + prefix_len (λ b. b == 32) xs) 0) e

without_spaces : List ℕ → List ℕ
without_spaces xs = drop (prefix_len (λ b. b == 32) xs) xs

-- after the spaces at the front the words are the same
skip_at : (x : ℕ) (xs : List ℕ) (b : Bool) → eqb x 32 ≡ b → words (without_spaces xs) ≡ words xs → words (without_spaces (x ∷ xs)) ≡ words (x ∷ xs)
unfolding without_spaces
skip_at x xs true e h =
    ap (λ (k : ℕ). words (drop k (x ∷ xs))) (spaces-yes x xs e) ∙ h ∙ sym (ap (filter is_word) (slice_split-cons_yes (λ b. b == 32) x xs e))
skip_at x xs false e h = ap (λ (k : ℕ). words (drop k (x ∷ xs))) (spaces-no x xs e)

skip_spaces : (xs : List ℕ) → words (without_spaces xs) ≡ words xs
unfolding without_spaces
skip_spaces [] = refl
skip_spaces (x ∷ xs) = skip_at x xs (eqb x 32) refl (skip_spaces xs)

-- there is nothing, or a byte that is no space
abbrev Begins : List ℕ → Type 0
Begins xs = (xs ≡ []) ⊎ ((x : ℕ) × (ys : List ℕ) × (xs ≡ x ∷ ys) × (eqb x 32 ≡ false))

begins_at : (x : ℕ) (xs : List ℕ) (b : Bool) → eqb x 32 ≡ b → Begins (without_spaces xs) → Begins (without_spaces (x ∷ xs))
unfolding without_spaces
begins_at x xs true e h = subst (λ (k : ℕ). Begins (drop k (x ∷ xs))) (sym (spaces-yes x xs e)) h
begins_at x xs false e h = subst (λ (k : ℕ). Begins (drop k (x ∷ xs))) (sym (spaces-no x xs e)) (inr (x, xs, refl, e))

begins : (xs : List ℕ) → Begins (without_spaces xs)
unfolding without_spaces
begins [] = inl refl
begins (x ∷ xs) = begins_at x xs (eqb x 32) refl (begins xs)

-- where nothing stands before the first space, there is no word
no_word : (xs : List ℕ) → Begins xs → length (take (position_or_len (λ b. b == 32) xs) xs) ≡ 0 → words xs ≡ []
no_word xs (inl none) empty = ap words none
no_word xs (inr (x, ys, is, e)) empty =
    let one : 1 + position_or_len (λ b. b == 32) ys ≡ suc (position_or_len (λ b. b == 32) ys) = omega arith in
    let n : position_or_len (λ b. b == 32) (x ∷ ys) ≡ suc (position_or_len (λ b. b == 32) ys) = ap (λ t. cond (not t) (1 + position_or_len (λ b. b == 32) ys) 0) e ∙ one in
    let first : length (take (position_or_len (λ b. b == 32) xs) xs) ≡ length (x ∷ take (position_or_len (λ b. b == 32) ys) ys) =
    ap (λ (zs : List ℕ). length (take (position_or_len (λ b. b == 32) zs) zs)) is ∙ ap (λ (k : ℕ). length (take k (x ∷ ys))) n in
    absurd (omega (arith, first, empty))

taken : (word : List ℕ) (parts all others : List (List ℕ)) → all ≡ filter is_word (word ∷ parts) → others ≡ filter is_word parts → (length word ≡ 0 → all ≡ []) → TakesWord word all others
taken [] parts all others is behind none = (none refl, behind ∙ sym is ∙ none refl)
taken (b ∷ word) parts all others is behind none = is ∙ ap (λ (ws : List (List ℕ)). (b ∷ word) ∷ ws) (sym behind)

pub takes_word : (line rest word after : List ℕ) (start end : ℕ) → start ≡ prefix_len (λ b. b == 32) line → rest ≡ drop start line → end ≡ position_or_len (λ b. b == 32) rest
    → word ≡ take end rest → after ≡ drop end rest → TakesWord word (words line) (words after)
unfolding without_spaces
takes_word line rest word after start end start_is rest_is end_is word_is after_is =
    let trimmed : rest ≡ without_spaces line = rest_is ∙ ap (λ (k : ℕ). drop k line) start_is in
    let same : words line ≡ words rest = sym (skip_spaces line) ∙ ap words (sym trimmed) in
    let part = first_part (λ b. b == 32) rest in
    let front : word ≡ take (position_or_len (λ b. b == 32) rest) rest = word_is ∙ ap (λ (k : ℕ). take k rest) end_is in
    let back : after ≡ drop (position_or_len (λ b. b == 32) rest) rest = after_is ∙ ap (λ (k : ℕ). drop k rest) end_is in
    taken word part.parts (words line) (words after)
    (same ∙ ap (filter is_word) (part.split ∙ ap (λ (w : List ℕ). w ∷ part.parts) (sym front)))
    (ap words back ∙ ap (filter is_word) part.rest)
    (λ empty. same ∙ no_word rest (subst Begins (sym trimmed) (begins line)) (ap length (sym front) ∙ empty))

-- ---- lines

parts_behind : (p : ℕ → Bool) (x : ℕ) (xs : List ℕ) (parts : List (List ℕ)) (b : Bool) → p x ≡ b → slice_split p (x ∷ xs) ≡ [] ∷ parts → parts ≡ slice_split p xs
parts_behind p x xs parts true e h = let s = slice_split-cons_yes p x xs e in cc
parts_behind p x xs parts false e h = absurd (never (slice_split p xs) (sym (slice_split-cons_no p x xs e) ∙ h)) where
  never : (ps : List (List ℕ)) → onto_first x ps ≡ [] ∷ parts → ⊥
  never [] h = cc
  never (part ∷ ps) h = cc

pub more_lines : (line : List ℕ) (parts : List (List ℕ)) → 0 < length parts → lines_of_parts (line ∷ parts) ≡ strip_carriage_return line ∷ lines_of_parts parts
more_lines line [] some = absurd (omega (arith, some))
more_lines line (part ∷ parts) some = refl

-- a text without a line feed is one line
pub last_line : (text : List ℕ) → position_or_len (λ b. b == 10) text ≡ length text → 0 < length text → lines text ≡ text ∷ lines (drop (length text) text)
last_line [] whole some = absurd (omega (arith, some))
last_line (x ∷ xs) whole some =
    let text = x ∷ xs in
    let part = first_part (λ b. b == 10) text in
    let nothing : drop (length text) text ≡ [] = drop_all (length text) text (omega arith) in
    let all : take (length text) text ≡ text = take_all (length text) text (omega arith) in
    let behind : slice_split (λ b. b == 10) [] ≡ [] ∷ part.parts = ap (slice_split (λ b. b == 10)) (sym nothing ∙ ap (λ (k : ℕ). drop k text) (sym whole)) ∙ part.rest in
    let none : part.parts ≡ [] = cc in
    let split : slice_split (λ b. b == 10) text ≡ text ∷ [] = part.split ∙ (λ i. take (whole i) text ∷ none i) ∙ ap (λ (t : List ℕ). t ∷ []) all in
    let long : eqb (length text) 0 ≡ false = ne_eqb (length text) 0 (λ e. omega (arith, e, some)) in
    ap lines_of_parts split ∙ ap (λ (t : Bool). cond t [] (text ∷ [])) long ∙ ap (λ (r : List ℕ). text ∷ lines r) (sym nothing)

-- the first line ends at the first line feed
pub next_line : (text : List ℕ) (end : ℕ) → end ≡ position_or_len (λ b. b == 10) text → end < length text → lines text ≡ strip_carriage_return (take end text) ∷ lines (drop (end + 1) text)
next_line text end is within =
    let part = first_part (λ b. b == 10) text in
    let cut : drop end text ≡ get_or text end 0 ∷ drop (end + 1) text = rw add-one (drop-cons text end 0 within) in
    let behind : slice_split (λ b. b == 10) (get_or text end 0 ∷ drop (end + 1) text) ≡ [] ∷ part.parts = ap (slice_split (λ b. b == 10)) (sym cut ∙ ap (λ (k : ℕ). drop k text) is) ∙ part.rest in
    let parts = parts_behind (λ b. b == 10) (get_or text end 0) (drop (end + 1) text) part.parts _ refl behind in
    let split : slice_split (λ b. b == 10) text ≡ take end text ∷ slice_split (λ b. b == 10) (drop (end + 1) text) = part.split ∙ (λ i. take (sym is i) text ∷ parts i) in
    let some = length-slice_split (λ b. b == 10) (drop (end + 1) text) in
    ap lines_of_parts split ∙ more_lines (take end text) (slice_split (λ b. b == 10) (drop (end + 1) text)) (omega (arith, some))
