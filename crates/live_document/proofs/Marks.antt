-- Of which paragraphs rows are kept, one after the other.
use Rattle.std.proofs.Common.{◌≡◌, ℕ, suc, ◌+◌, ◌-◌, ◌<◌, ◌≤◌, ◌⊎◌, inl, inr, Bool, true, false, cond, not, List, [], ◌∷◌, ◌++◌, length, get_or, set, take, drop, count_by, slice_range, flat_map, refl, sym, ap, ◌∙◌, arith, length-append}
use Rattle.std.proofs.lemmas.Bool.{cases_lt}
use Rattle.std.proofs.lemmas.List.{drop_more, length-set, get_or-set_same, get_or-set_other, ext_get_or}
use Rattle.std.proofs.lemmas.List.Concat.{flat_map-append, flat_map-cons}
use Rattle.std.proofs.lemmas.List.Edits.{between_none, between_more, length-between, get_or-between}
use Rattle.std.proofs.lemmas.List.Sums.{sum_by-cons, sum_by-append}
use Rattle.std.proofs.Common.{append-nil}
use Rattle.bg_types.specs.declared.class.Base.{Base}
use Rattle.unicode_tables.specs.Tables.{TableValues}
use Rattle.cell_grid.proofs.Interface.{slice-parts}
use Rattle.live_document.specs.Keeping.{is_kept, rows_of_text, rows_of_texts, row_weight, rows_weight, IsMarked}

-- nothing was marked yet
pub marked-none : (marks : List Bool) (n : ℕ) → IsMarked marks n n marks
marked-none marks n = record { count = refl; inside = λ k from to. absurd (omega arith); outside = λ k h. refl }

-- one more at the front
pub marked-up : (old now new : List Bool) (from first end : ℕ) → from ≡ first + 1 → IsMarked old from end now → new ≡ set now first true → first < length now → first < end
    → IsMarked old first end new
marked-up old now new from first end e h is within order = record {
  count = ap length is ∙ length-set now first true ∙ h.count;
  inside = λ k low to. ap (λ l. is_kept l k) is ∙ (elim (cases_lt first k) [
    | inl later ↦ get_or-set_other now first k true false (λ s. omega (arith, s)) ∙ h.inside k (omega arith) to
    | inr here ↦ (let same : k ≡ first = omega arith in ap (λ j. get_or (set now first true) j false) same ∙ get_or-set_same now first true false within)
  ]);
  outside = λ k out. ap (λ l. is_kept l k) is ∙ (elim out [
    | inl below ↦ get_or-set_other now first k true false (λ s. omega (arith, s)) ∙ h.outside k (inl (omega arith))
    | inr above ↦ get_or-set_other now first k true false (λ s. omega (arith, s)) ∙ h.outside k (inr above)
  ]);
}

-- one more at the end
pub marked-down : (old now new : List Bool) (first end : ℕ) → IsMarked old first end now → new ≡ set now end true → end < length now → first ≤ end
    → IsMarked old first (end + 1) new
marked-down old now new first end h is within order = record {
  count = ap length is ∙ length-set now end true ∙ h.count;
  inside = λ k from to. ap (λ l. is_kept l k) is ∙ (elim (cases_lt k end) [
    | inl before ↦ get_or-set_other now end k true false (λ s. omega (arith, s)) ∙ h.inside k from before
    | inr here ↦ (let same : k ≡ end = omega arith in ap (λ j. get_or (set now end true) j false) same ∙ get_or-set_same now end true false within)
  ]);
  outside = λ k out. ap (λ l. is_kept l k) is ∙ (elim out [
    | inl below ↦ get_or-set_other now end k true false (λ s. omega (arith, s)) ∙ h.outside k (inl below)
    | inr above ↦ get_or-set_other now end k true false (λ s. omega (arith, s)) ∙ h.outside k (inr (omega arith))
  ]);
}

-- a stretch that begins one earlier
pub slice-front : {X : Type 0} (xs : List X) (first end : ℕ) (d : X) → first < length xs → first < end
    → slice_range xs first end ≡ get_or xs first d ∷ slice_range xs (first + 1) end
slice-front xs first end d within order =
    let n : end - first ≡ suc (end - (first + 1)) = omega arith in
    ap (λ m. take m (drop first xs)) n ∙ ap (take (suc (end - (first + 1)))) (drop_more xs first d within)

pub cond-most : (b : Bool) → cond {A = ℕ} b 0 1 ≤ 1
cond-most true = omega arith
cond-most false = omega arith

pub count-cons : (b : Bool) (marks : List Bool) → count_by not (b ∷ marks) ≡ cond {A = ℕ} b 0 1 + count_by not marks
count-cons true marks = sum_by-cons (λ b. cond {A = ℕ} (not b) 1 0) true marks
count-cons false marks = sum_by-cons (λ b. cond {A = ℕ} (not b) 1 0) false marks

count-both : (xs ys : List Bool) → count_by not (xs ++ ys) ≡ count_by not xs + count_by not ys
count-both [] ys = omega arith
count-both (x ∷ xs) ys = let e = count-cons x (xs ++ ys) in let f = count-cons x xs in let g = count-both xs ys in omega arith

-- lists that agree inside a stretch have it alike
pub slice-agrees : (xs ys : List Bool) (i j : ℕ) → length xs ≡ length ys → j ≤ length ys → ((k : ℕ) → i ≤ k → k < j → is_kept xs k ≡ is_kept ys k)
    → slice_range xs i j ≡ slice_range ys i j
slice-agrees xs ys i j size within same =
    ext_get_or false (slice_range xs i j) (slice_range ys i j)
    (length-between xs i j (omega arith) ∙ sym (length-between ys i j within))
    (λ k below. let n = length-between xs i j (omega arith) in
    get_or-between xs i j k false (omega arith) ∙ same (i + k) (omega arith) (omega arith) ∙ sym (get_or-between ys i j k false (omega arith)))

count-append : (marks : List Bool) (b : Bool) → count_by not (marks ++ b ∷ []) ≡ count_by not marks + cond {A = ℕ} b 0 1
count-append [] b = let e = count-cons b [] in omega arith
count-append (a ∷ marks) b = let e = count-cons a (marks ++ b ∷ []) in let f = count-cons a marks in let g = count-append marks b in omega arith

-- how many are not kept, with one more at the front or at the end
pub count-up : (marks : List Bool) (from first end : ℕ) → from ≡ first + 1 → first < length marks → first < end
    → count_by not (slice_range marks first end) ≡ cond {A = ℕ} (is_kept marks first) 0 1 + count_by not (slice_range marks from end)
count-up marks from first end e within order =
    ap (count_by not) (slice-front marks first end false within order) ∙ count-cons (get_or marks first false) (slice_range marks (first + 1) end)
    ∙ ap (λ n. cond {A = ℕ} (is_kept marks first) 0 1 + count_by not (slice_range marks n end)) (sym e)

pub count-down : (marks : List Bool) (first end : ℕ) → end < length marks → first ≤ end
    → count_by not (slice_range marks first (end + 1)) ≡ count_by not (slice_range marks first end) + cond {A = ℕ} (is_kept marks end) 0 1
count-down marks first end within order =
    ap (count_by not) (between_more marks first end false order within) ∙ count-append (slice_range marks first end) (get_or marks end false)

pub count-none : (marks : List Bool) (n : ℕ) → count_by not (slice_range marks n n) ≡ 0
count-none marks n = ap (count_by not) (between_none marks n)

-- one in the middle, and then those up to the front and down to the end
module _ (old one two new : List Bool) (first number end : ℕ) (within : number < length old) (low : first ≤ number) (high : number < end)
    (own : one ≡ set old number true) (up : IsMarked one first number two) (down : IsMarked two (number + 1) end new) where
  own-mark : is_kept one number ≡ true
  own-mark = ap (λ l. is_kept l number) own ∙ get_or-set_same old number true false within

  other-mark : (k : ℕ) → (k ≡ number → ⊥) → is_kept one k ≡ is_kept old k
  other-mark k apart = ap (λ l. is_kept l k) own ∙ get_or-set_other old number k true false apart

  pub marked-whole : IsMarked old first end new
  marked-whole = record {
    count = down.count ∙ up.count ∙ ap length own ∙ length-set old number true;
    inside = λ k from to. elim (cases_lt k number) [
      | inl front ↦ down.outside k (inl (omega arith)) ∙ up.inside k from front
      | inr not_front ↦ (elim (cases_lt number k) [
        | inl back ↦ down.inside k (omega arith) to
        | inr not_back ↦
            (let here : k ≡ number = omega arith in
            down.outside k (inl (omega arith)) ∙ up.outside k (inr (omega arith)) ∙ ap (is_kept one) here ∙ own-mark)
      ])
    ];
    outside = λ k out. elim out [
      | inl below ↦ down.outside k (inl (omega arith)) ∙ up.outside k (inl below) ∙ other-mark k (λ e. omega (arith, e))
      | inr above ↦ down.outside k (inr above) ∙ up.outside k (inr (omega arith)) ∙ other-mark k (λ e. omega (arith, e))
    ];
  }

  -- each that was not kept was laid out once
  pub laid-whole : (own_laid up_laid down_laid : ℕ) → end ≤ length old → own_laid ≡ cond {A = ℕ} (is_kept old number) 0 1 → up_laid ≡ count_by not (slice_range one first number)
      → down_laid ≡ count_by not (slice_range two (number + 1) end) → own_laid + up_laid + down_laid ≡ count_by not (slice_range old first end)
  laid-whole own_laid up_laid down_laid last a b d =
      let size : length one ≡ length old = ap length own ∙ length-set old number true in
      let f = ap (count_by not) (slice-agrees one old first number size (omega arith) (λ k from to. other-mark k (λ e. omega (arith, e)))) in
      let g = ap (count_by not) (slice-agrees two old (number + 1) end (up.count ∙ size) last (λ k from to. up.outside k (inr (omega arith)) ∙ other-mark k (λ e. omega (arith, e)))) in
      let parts = ap (count_by not) (slice-parts old first number end low (omega arith)) ∙ count-both (slice_range old first number) (slice_range old number end) in
      let here = count-up old (number + 1) number end refl within high in
      omega arith

-- how many rows paragraphs have, with one more at the front or at the end
module _ (tables : TableValues) (width : ℕ) (base : Base) where
  pub rows-up : (texts : List (List ℕ)) (from first end : ℕ) → from ≡ first + 1 → first < length texts → first < end
      → length (rows_of_texts tables width base (slice_range texts first end))
      ≡ length (rows_of_text tables width base (get_or texts first [])) + length (rows_of_texts tables width base (slice_range texts from end))
  rows-up texts from first end e within order =
      let f = rows_of_text tables width base in
      ap (λ l. length (flat_map f l)) (slice-front texts first end [] within order)
      ∙ ap length (flat_map-cons f (get_or texts first []) (slice_range texts (first + 1) end))
      ∙ length-append (f (get_or texts first [])) (flat_map f (slice_range texts (first + 1) end))
      ∙ ap (λ n. length (f (get_or texts first [])) + length (flat_map f (slice_range texts n end))) (sym e)

  pub rows-down : (texts : List (List ℕ)) (first end : ℕ) → end < length texts → first ≤ end
      → length (rows_of_texts tables width base (slice_range texts first (end + 1)))
      ≡ length (rows_of_texts tables width base (slice_range texts first end)) + length (rows_of_text tables width base (get_or texts end []))
  rows-down texts first end within order =
      let f = rows_of_text tables width base in
      let x = get_or texts end [] in
      ap (λ l. length (flat_map f l)) (between_more texts first end [] order within)
      ∙ ap length (flat_map-append f (slice_range texts first end) (x ∷ []))
      ∙ length-append (flat_map f (slice_range texts first end)) (flat_map f (x ∷ []))
      ∙ ap (λ l. length (flat_map f (slice_range texts first end)) + length l) (flat_map-cons f x [] ∙ append-nil (f x))

  pub rows-none : (texts : List (List ℕ)) (n : ℕ) → length (rows_of_texts tables width base (slice_range texts n n)) ≡ 0
  rows-none texts n = ap (λ l. length (flat_map (rows_of_text tables width base) l)) (between_none texts n)

  -- so is what they weigh
  pub weight-up : (texts : List (List ℕ)) (from first end : ℕ) → from ≡ first + 1 → first < length texts → first < end
      → rows_weight (rows_of_texts tables width base (slice_range texts first end))
      ≡ rows_weight (rows_of_text tables width base (get_or texts first [])) + rows_weight (rows_of_texts tables width base (slice_range texts from end))
  weight-up texts from first end e within order =
      let f = rows_of_text tables width base in
      ap (λ l. rows_weight (flat_map f l)) (slice-front texts first end [] within order)
      ∙ ap rows_weight (flat_map-cons f (get_or texts first []) (slice_range texts (first + 1) end))
      ∙ sum_by-append row_weight (f (get_or texts first [])) (flat_map f (slice_range texts (first + 1) end))
      ∙ ap (λ n. rows_weight (f (get_or texts first [])) + rows_weight (flat_map f (slice_range texts n end))) (sym e)

  pub weight-down : (texts : List (List ℕ)) (first end : ℕ) → end < length texts → first ≤ end
      → rows_weight (rows_of_texts tables width base (slice_range texts first (end + 1)))
      ≡ rows_weight (rows_of_texts tables width base (slice_range texts first end)) + rows_weight (rows_of_text tables width base (get_or texts end []))
  weight-down texts first end within order =
      let f = rows_of_text tables width base in
      let x = get_or texts end [] in
      ap (λ l. rows_weight (flat_map f l)) (between_more texts first end [] order within)
      ∙ ap rows_weight (flat_map-append f (slice_range texts first end) (x ∷ []))
      ∙ sum_by-append row_weight (flat_map f (slice_range texts first end)) (flat_map f (x ∷ []))
      ∙ ap (λ l. rows_weight (flat_map f (slice_range texts first end)) + rows_weight l) (flat_map-cons f x [] ∙ append-nil (f x))

  -- in front of one of them, its own, and behind it
  pub weight-whole : (texts : List (List ℕ)) (first number end : ℕ) → first ≤ number → number < end → number < length texts
      → rows_weight (rows_of_texts tables width base (slice_range texts first end))
      ≡ rows_weight (rows_of_texts tables width base (slice_range texts first number))
      + (rows_weight (rows_of_text tables width base (get_or texts number [])) + rows_weight (rows_of_texts tables width base (slice_range texts (number + 1) end)))
  weight-whole texts first number end low high within =
      let f = rows_of_text tables width base in
      let parts = ap (λ l. rows_weight (flat_map f l)) (slice-parts texts first number end low (omega arith)) ∙ ap rows_weight (flat_map-append f (slice_range texts first number) (slice_range texts number end)) in
      let both = sum_by-append row_weight (flat_map f (slice_range texts first number)) (flat_map f (slice_range texts number end)) in
      let own = weight-up texts (number + 1) number end refl within high in
      omega arith

  pub weight-none : (texts : List (List ℕ)) (n : ℕ) → rows_weight (rows_of_texts tables width base (slice_range texts n n)) ≡ 0
  weight-none texts n = ap (λ l. rows_weight (flat_map (rows_of_text tables width base) l)) (between_none texts n)

-- the one that was set
pub set-mark : (marks new : List Bool) (n : ℕ) → new ≡ set marks n true → n < length marks → is_kept new n ≡ true
set-mark marks new n is within = ap (λ l. is_kept l n) is ∙ get_or-set_same marks n true false within

-- and the others
pub set-apart : (marks new : List Bool) (n k : ℕ) → new ≡ set marks n true → (k < n) ⊎ (n < k) → is_kept new k ≡ is_kept marks k
set-apart marks new n k is apart = elim apart [
  | inl below ↦ ap (λ l. is_kept l k) is ∙ get_or-set_other marks n k true false (λ s. omega (arith, s))
  | inr above ↦ ap (λ l. is_kept l k) is ∙ get_or-set_other marks n k true false (λ s. omega (arith, s))
]
