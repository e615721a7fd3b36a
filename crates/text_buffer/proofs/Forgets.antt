-- What is left of what is kept, paragraph by paragraph and row by row.
use Rattle.std.proofs.Common.{◌≡◌, ℕ, zero, suc, ◌+◌, ◌-◌, ◌<◌, ◌≤◌, List, [], ◌∷◌, ◌++◌, Option, None, Some, ◌%◌, ◌⊎◌, inl, inr, Bool, cond, true, false, not, ◌&&◌, ◌||◌, ◌==◌, length, take, drop, get_or, set, add-zero, refl, sym, ap, ap₂, ◌∙◌, arith}
use Rattle.std.proofs.lemmas.Bool.{and_left, and_right, le-leb, lt-leb, le-ltb, lt-ltb}
use Rattle.std.proofs.lemmas.Nat.{mod_below}
use Rattle.std.proofs.lemmas.List.{append-nil, map-append, length-append, length-map, length-set, length-take-le, take_more_set, take_more, take_all, drop-set-lt, drop-drop, get_or-drop}
use Rattle.std.proofs.lemmas.List.Sums.{sum_by-append}
use Rattle.std.specs.Prelude.{nat_le, nat_lt, is_some, string_bytes}
use Rattle.paragraphs.specs.Text.{code_points}
use Rattle.text_buffer.specs.declared.piece.Piece.{Piece}
use Rattle.text_buffer.specs.Buffers.{forgotten, kept_but}
use Rattle.text_buffer.specs.Pieces.{points_of, points_in, kept_of, kept_count}
use Rattle.text_buffer.specs.Blocks.{joined}
use Rattle.text_buffer.specs.declared.spared.Spared.{Spared}
use Rattle.text_buffer.specs.Forgetting.{stays, left_of}
use Rattle.text_buffer.proofs.Joins.{joined-append, joined-more}

-- a stretch alone is spared
abbrev pub between : (from to : ℕ) → Spared
between from to = record { from = from; to = to; step = 1; turn = 0 }

none-over : (n : ℕ) → not ((n % 1) == 0) ≡ false
none-over n =
    let below = mod_below n 1 (omega arith) in
    let none : n % 1 ≡ 0 = omega arith in
    ap (λ m. not (m == 0)) none

module _ {K : Type 0} where
  -- of a list behind another
  pub left-append : (s : Spared) (first : ℕ) (xs ys : List (Option K)) → left_of s first (xs ++ ys) ≡ left_of s first xs ++ left_of s (first + length xs) ys
  left-append s first [] ys = let e : first ≡ first + 0 = omega arith in ap (λ n. left_of s n ys) e
  left-append s first (x ∷ xs) ys =
      let e : first + 1 + length xs ≡ first + suc (length xs) = omega arith in
      ap (λ ks. cond (stays s first) x None ∷ ks) (left-append s (first + 1) xs ys ∙ ap (λ n. left_of s (first + 1) xs ++ left_of s n ys) e)

  -- with one more
  pub left-more : (s : Spared) (first i : ℕ) (xs : List (Option K)) (k : Option K) → length xs ≡ i → left_of s first (xs ++ k ∷ []) ≡ left_of s first xs ++ cond (stays s (first + i)) k None ∷ []
  left-more s first i xs k size = left-append s first xs (k ∷ []) ∙ ap (λ n. left_of s first xs ++ cond (stays s (first + n)) k None ∷ []) size

  stays-in : (from to n : ℕ) (x y : Option K) → from ≤ n → n < to → cond (stays (between from to) n) x y ≡ x
  stays-in from to n x y low high =
      let over = not ((n % 1) == 0) in
      ap (λ b. cond ((b && nat_lt n to) || over) x y) (le-leb from n low) ∙ ap (λ b. cond (b || over) x y) (lt-ltb n to high)

  goes-out : (from to n : ℕ) (x y : Option K) → (n < from) ⊎ (to ≤ n) → cond (stays (between from to) n) x y ≡ y
  goes-out from to n x y out =
      let outside : (nat_le from n && nat_lt n to) ≡ false = elim out [
        | inl low ↦ and_left (nat_le from n) (nat_lt n to) (lt-leb from n low)
        | inr high ↦ and_right (nat_le from n) (nat_lt n to) (le-ltb n to high)
      ] in
      ap (λ b. cond (b || not ((n % 1) == 0)) x y) outside ∙ ap (λ b. cond b x y) (none-over n)

  goes-all : (from to first : ℕ) (xs : List (Option K)) → to ≤ first → left_of (between from to) first xs ≡ forgotten xs
  goes-all from to first [] le = refl
  goes-all from to first (x ∷ xs) le = ap₂ (λ k ks. k ∷ ks) (goes-out from to first x None (inr le)) (goes-all from to (first + 1) xs (omega arith))

  stays-front : (from count first : ℕ) (xs : List (Option K)) → from ≤ first → left_of (between from (first + count)) first xs ≡ take count xs ++ forgotten (drop count xs)
  stays-front from zero first xs low = goes-all from (first + 0) first xs (omega arith)
  stays-front from (suc count) first [] low = refl
  stays-front from (suc count) first (x ∷ xs) low =
      let to : first + suc count ≡ first + 1 + count = omega arith in
      ap₂ (λ k ks. k ∷ ks) (stays-in from (first + suc count) first x None low (omega arith))
      (ap (λ j. left_of (between from j) (first + 1) xs) to ∙ stays-front from count (first + 1) xs (omega arith))

  stays-between : (from to first : ℕ) (xs : List (Option K)) → from ≤ to → left_of (between (first + from) (first + to)) first xs ≡ kept_but from to xs
  stays-between zero to first xs order =
      let all : to - 0 ≡ to = omega arith in
      stays-front (first + 0) to first xs (omega arith) ∙ sym (ap (λ n. take n xs ++ forgotten (drop to xs)) all)
  stays-between (suc from) zero first xs order = absurd (omega arith)
  stays-between (suc from) (suc to) first [] order =
      let xs : List (Option K) = [] in
      sym (ap (λ t. t ++ xs) (take_all (suc to - suc from) xs (omega arith)))
  stays-between (suc from) (suc to) first (x ∷ xs) order =
      let f : first + suc from ≡ first + 1 + from = omega arith in
      let t : first + suc to ≡ first + 1 + to = omega arith in
      let rest : to - from ≡ suc to - suc from = omega arith in
      ap₂ (λ k ks. k ∷ ks) (goes-out (first + suc from) (first + suc to) first x None (inl (omega arith)))
      (ap₂ (λ i j. left_of (between i j) (first + 1) xs) f t ∙ stays-between from to (first + 1) xs (omega arith)
      ∙ ap (λ n. forgotten (take from xs) ++ (take n (drop from xs) ++ forgotten (drop to xs))) rest)

  -- it is what was kept of that stretch
  pub left-but : (from to : ℕ) (xs : List (Option K)) → from ≤ to → left_of (between from to) 0 xs ≡ kept_but from to xs
  left-but from to xs order =
      let f : from ≡ 0 + from = omega arith in
      let t : to ≡ 0 + to = omega arith in
      ap₂ (λ i j. left_of (between i j) 0 xs) f t ∙ stays-between from to 0 xs order

  -- where nothing is kept nothing goes
  count-more : (p : Piece K) (ps : List (Piece K)) → kept_count (p ∷ ps) ≡ cond (is_some p.kept) 1 0 + kept_count ps
  count-more p ps = let e = sum_by-append (λ (q : Piece K). cond (is_some q.kept) 1 0) (p ∷ []) ps in omega (arith, e)

  none-kept : (k : Option K) (b : Bool) → cond {A = ℕ} (is_some k) 1 0 ≡ 0 → cond b k None ≡ k
  none-kept None true none = refl
  none-kept None false none = refl
  none-kept (Some k) b none = absurd (omega (arith, none))

  pub left-none : (s : Spared) (first : ℕ) (ps : List (Piece K)) → kept_count ps ≡ 0 → left_of s first (kept_of ps) ≡ kept_of ps
  left-none s first [] none = refl
  left-none s first (p ∷ ps) none =
      let e = count-more p ps in
      ap₂ (λ k ks. k ∷ ks) (none-kept p.kept _ (omega (arith, e, none))) (left-none s (first + 1) ps (omega (arith, e, none)))

pub same-at : {A : Type 0} (now old : List A) (i : ℕ) (d : A) → drop i now ≡ drop i old → get_or now i d ≡ get_or old i d
same-at now old i d same =
    let at = add-zero i in
    ap (λ n. get_or now n d) (sym at) ∙ sym (get_or-drop i now 0 d) ∙ ap (λ t. get_or t 0 d) same ∙ get_or-drop i old 0 d ∙ ap (λ n. get_or old n d) at

same-later : {A : Type 0} (now old : List A) (i : ℕ) (x : A) → drop i now ≡ drop i old → drop (i + 1) (set now i x) ≡ drop (i + 1) old
same-later now old i x same =
    drop-set-lt (i + 1) now i x (omega arith) ∙ sym (drop-drop 1 i now) ∙ ap (drop 1) same ∙ drop-drop 1 i old

-- the first paragraphs are done, and the others are as they were
pub record IsSwept {K : Type 0} (spared : Spared) (first : ℕ) (old now : List (Piece K)) (i : ℕ) : Type 0 where
  pub size : length now ≡ length old
  pub points : points_in (take i now) ≡ points_in (take i old)
  pub kept : kept_of (take i now) ≡ left_of spared first (kept_of (take i old))
  pub back : drop i now ≡ drop i old

module _ {K : Type 0} (spared : Spared) (first : ℕ) (old now : List (Piece K)) (i : ℕ) (s : IsSwept spared first old now i) where
  pub swept-more : (d x : Piece K) → i < length old → x.text ≡ (get_or now i d).text → x.kept ≡ cond (stays spared (first + i)) (get_or now i d).kept None → IsSwept spared first old (set now i x) (i + 1)
  swept-more d x within text kept =
      let there : i < length now = let e = s.size in omega (arith, within, e) in
      let front = take_more_set now i x there in
      let was = take_more old i d within in
      let one = same-at now old i d s.back in
      let same : points_of x ≡ points_of (get_or old i d) = ap (λ t. code_points (string_bytes t)) text ∙ ap points_of one in
      record {
        size = length-set now i x ∙ s.size;
        points =
            ap points_in front ∙ map-append points_of (take i now) (x ∷ []) ∙ ap₂ (λ t p. t ++ p ∷ []) s.points same
            ∙ sym (ap points_in was ∙ map-append points_of (take i old) (get_or old i d ∷ []));
        kept =
            ap kept_of front ∙ map-append (λ (p : Piece K). p.kept) (take i now) (x ∷ [])
            ∙ ap₂ (λ ks k. ks ++ k ∷ []) s.kept (kept ∙ ap (λ (p : Piece K). cond (stays spared (first + i)) p.kept None) one)
            ∙ sym (left-more spared first i (kept_of (take i old)) (get_or old i d).kept (length-map (take i old) (λ (p : Piece K). p.kept) ∙ length-take-le i old (omega (arith, within))))
            ∙ ap (left_of spared first) (sym (ap kept_of was ∙ map-append (λ (p : Piece K). p.kept) (take i old) (get_or old i d ∷ [])));
        back = same-later now old i x s.back;
      }

-- the first rows are done, and the others are as they were
pub record AreSwept {K : Type 0} (spared : Spared) (old now : List (List (Piece K))) (q before : ℕ) : Type 0 where
  pub size : length now ≡ length old
  pub before_is : before ≡ length (joined (take q old))
  pub points : points_in (joined (take q now)) ≡ points_in (joined (take q old))
  pub kept : kept_of (joined (take q now)) ≡ left_of spared 0 (kept_of (joined (take q old)))
  pub back : drop q now ≡ drop q old

module _ {K : Type 0} (spared : Spared) (old now : List (List (Piece K))) (q before : ℕ) (s : AreSwept spared old now q before) where
  pub rows-swept : (row : List (Piece K)) → q < length old → points_in row ≡ points_in (get_or now q []) → kept_of row ≡ left_of spared before (kept_of (get_or now q []))
      → AreSwept spared old (set now q row) (q + 1) (before + length (get_or now q []))
  rows-swept row within points kept =
      let there : q < length now = let e = s.size in omega (arith, within, e) in
      let front : joined (take (q + 1) (set now q row)) ≡ joined (take q now) ++ row =
      ap joined (take_more_set now q row there) ∙ joined-append (take q now) (row ∷ []) ∙ ap (λ t. joined (take q now) ++ t) (append-nil row) in
      let a = joined (take q old) in
      let r = get_or old q [] in
      let was : joined (take (q + 1) old) ≡ a ++ r = joined-more old q within in
      let one = same-at now old q [] s.back in
      let n : before ≡ length (kept_of a) = s.before_is ∙ sym (length-map a (λ (p : Piece K). p.kept)) in
      let all : 0 + length (kept_of a) ≡ length (kept_of a) = omega arith in
      record {
        size = length-set now q row ∙ s.size;
        before_is = ap₂ (λ i j. i + length j) s.before_is one ∙ sym (ap length was ∙ length-append a r);
        points =
            ap points_in front ∙ map-append points_of (joined (take q now)) row ∙ ap₂ (λ x y. x ++ y) s.points (points ∙ ap points_in one)
            ∙ sym (ap points_in was ∙ map-append points_of a r);
        kept =
            ap kept_of front ∙ map-append (λ (p : Piece K). p.kept) (joined (take q now)) row
            ∙ ap₂ (λ x y. x ++ y) s.kept (kept ∙ ap₂ (λ m t. left_of spared m (kept_of t)) n one)
            ∙ sym (left-append spared 0 (kept_of a) (kept_of r) ∙ ap (λ m. left_of spared 0 (kept_of a) ++ left_of spared m (kept_of r)) all)
            ∙ ap (left_of spared 0) (sym (ap kept_of was ∙ map-append (λ (p : Piece K). p.kept) a r));
        back = same-later now old q row s.back;
      }
