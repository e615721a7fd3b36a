-- How much stands before a block, in it and behind it.
use Rattle.std.proofs.Common.{Result, Ok, Err, cond, ◌≡◌, ℕ, suc, ◌+◌, ◌-◌, ◌<◌, ◌≤◌, List, [], ◌∷◌, ◌++◌, length, take, drop, get_or, slice_set, reverse, refl, map, sym, ap, ap₂, ◌∙◌, inl, inr, arith}
use Rattle.std.proofs.lemmas.Bool.{cases_lt, false≢true}
use Rattle.std.proofs.lemmas.List.{append-nil, length-append, length-map, get_or-map, get_or_append_left, get_or-append-add, map-set, map-append, take-map, drop-map, reverse-append, drop_all, take_all, take-append-le}
use Rattle.std.proofs.Math.Seq.{take-append-add}
use Rattle.std.specs.List.{concat, insert, remove}
use Rattle.std.specs.Result.{IsOk, is_ok}
use Rattle.text_buffer.specs.declared.piece.Piece.{Piece}
use Rattle.text_buffer.specs.declared.block.Block.{Block}
use Rattle.text_buffer.specs.declared.find.Before.{Before}
use Rattle.text_buffer.specs.Buffers.{bytes_in, paragraphs_in, kept_in}
use Rattle.text_buffer.specs.Pieces.{points_of, points_in, kept_of, seen}
use Rattle.text_buffer.specs.Blocks.{rows_of, joined, pieces_in, texts_in}
use Rattle.text_buffer.specs.Places.{IsInFront}
use Rattle.text_buffer.proofs.Sums.{bytes-both, places-both}
use Rattle.text_buffer.proofs.Joins.{joined-at, joined-more, joined-set, joined-onto, within-less}

-- a block before which something stands is not the first
pub record HasFront (b : Before) : Type 0 where
  pub paragraphs : 0 < b.paragraphs → 0 < b.block
  pub places : 0 < b.places → 0 < b.block

module _ {K : Type 0} where
  pub length-rows : (bs : List (Block K)) → length (rows_of bs) ≡ length bs
  length-rows bs = length-map bs (λ (b : Block K). b.pieces.items)

  -- a block that was read is a row
  pub row-at : (bs : List (Block K)) (q : ℕ) (b : Block K) → q < length bs → b ≡ get_or bs q b → get_or (rows_of bs) q [] ≡ b.pieces.items
  row-at bs q b within is =
      get_or-map (λ (x : Block K). x.pieces.items) bs q b [] within ∙ ap (λ (x : Block K). x.pieces.items) (sym is)

  pub row-get : (bs : List (Block K)) (q : ℕ) (b : Block K) → q < length bs → get_or (rows_of bs) q [] ≡ (get_or bs q b).pieces.items
  row-get bs q b within = get_or-map (λ (x : Block K). x.pieces.items) bs q b [] within

  pub length-points : (ps : List (Piece K)) → length (points_in ps) ≡ length ps
  length-points ps = length-map ps points_of

  -- where a paragraph stands, a block does
  pub blocks-some : (bs : List (Block K)) → 0 < length (pieces_in bs) → 0 < length bs
  blocks-some [] some = absurd (omega (arith, some))
  blocks-some (b ∷ bs) some = omega arith

  -- what is seen of paragraphs has their code points
  pub seen-points : (ps : List (Piece K)) → paragraphs_in (map seen ps) ≡ points_in ps
  seen-points [] = refl
  seen-points (p ∷ ps) = ap (λ t. points_of p ∷ t) (seen-points ps)

pub if_ok : {T E X : Type 0} (r : Result T E) (x a b : X) → IsOk r → x ≡ cond (is_ok r) a b → x ≡ a
if_ok (Ok v) x a b h e = e
if_ok (Err v) x a b h e = absurd (false≢true h)

get_or-both : (a r c : List (List ℕ)) (j : ℕ) → j < length r → get_or (a ++ (r ++ c)) (length a + j) [] ≡ get_or r j []
get_or-both a r c j inside = get_or-append-add a (r ++ c) j [] ∙ get_or_append_left r c [] j inside

module _ {K : Type 0} where
  -- what is seen of paragraphs is what is kept of them too
  pub seen-kept : (ps : List (Piece K)) → kept_in (map seen ps) ≡ kept_of ps
  seen-kept [] = refl
  seen-kept (p ∷ ps) = ap (λ t. p.kept ∷ t) (seen-kept ps)

-- what all blocks have is what stands before one, in it and behind it
pub record HasParts {K : Type 0} (bs : List (Block K)) (b : Before) : Type 0 where
  pub paragraphs : length (texts_in bs) ≡ b.paragraphs + (length (get_or (rows_of bs) b.block []) + length (joined (drop (b.block + 1) (rows_of bs))))
  pub bytes : bytes_in (concat (texts_in bs)) ≡ b.bytes + (bytes_in (concat (points_in (get_or (rows_of bs) b.block []))) + bytes_in (concat (points_in (joined (drop (b.block + 1) (rows_of bs))))))
  pub places : length (concat (texts_in bs)) ≡ b.places + (length (concat (points_in (get_or (rows_of bs) b.block []))) + length (concat (points_in (joined (drop (b.block + 1) (rows_of bs))))))
  pub last : length bs ≤ b.block + 1 → drop (b.block + 1) (rows_of bs) ≡ []

-- what stands before one is what stands before the block in front of it, and in that
pub record HasPrevious {K : Type 0} (bs : List (Block K)) (b : Before) : Type 0 where
  pub paragraphs : b.paragraphs ≡ length (points_in (joined (take (b.block - 1) (rows_of bs)))) + length (get_or (rows_of bs) (b.block - 1) [])
  pub bytes : b.bytes ≡ bytes_in (concat (points_in (joined (take (b.block - 1) (rows_of bs))))) + bytes_in (concat (points_in (get_or (rows_of bs) (b.block - 1) [])))
  pub places : b.places ≡ length (concat (points_in (joined (take (b.block - 1) (rows_of bs))))) + length (concat (points_in (get_or (rows_of bs) (b.block - 1) [])))

module _ {K : Type 0} where
  pub parts-of : (bs : List (Block K)) (b : Before) → IsInFront bs b → HasParts bs b
  parts-of bs b s =
      let rows = rows_of bs in
      let a = joined (take b.block rows) in
      let r = get_or rows b.block [] in
      let c = joined (drop (b.block + 1) rows) in
      let within : b.block < length rows = let w = s.within in omega (arith, length-rows bs) in
      let all = joined-at rows b.block within in
      record {
        paragraphs = length-points (pieces_in bs) ∙ ap length all ∙ length-append a (r ++ c) ∙ ap₂ (λ m n. m + n) (sym (s.paragraphs ∙ length-points a)) (length-append r c);
        bytes = ap (λ t. bytes_in (concat (points_in t))) all ∙ bytes-both a (r ++ c) ∙ ap₂ (λ m n. m + n) (sym s.bytes) (bytes-both r c);
        places = ap (λ t. length (concat (points_in t))) all ∙ places-both a (r ++ c) ∙ ap₂ (λ m n. m + n) (sym s.places) (places-both r c);
        last = λ h. drop_all (b.block + 1) rows (omega (arith, length-rows bs, h));
      }

  -- past a block
  pub stands-next : (bs : List (Block K)) (b : Before) → IsInFront bs b → (next : Before) → next.block ≡ b.block + 1
      → next.paragraphs ≡ b.paragraphs + length (get_or (rows_of bs) b.block [])
      → next.bytes ≡ b.bytes + bytes_in (concat (points_in (get_or (rows_of bs) b.block [])))
      → next.places ≡ b.places + length (concat (points_in (get_or (rows_of bs) b.block [])))
      → b.block + 1 < length bs → IsInFront bs next
  stands-next bs b s next block paragraphs bytes places more =
      let rows = rows_of bs in
      let a = joined (take b.block rows) in
      let r = get_or rows b.block [] in
      let within : b.block < length rows = let w = s.within in omega (arith, length-rows bs) in
      let all : joined (take next.block rows) ≡ a ++ r = ap (λ n. joined (take n rows)) block ∙ joined-more rows b.block within in
      record {
        within = omega (arith, block, more);
        paragraphs = paragraphs ∙ ap (λ m. m + length r) (s.paragraphs ∙ length-points a) ∙ sym (length-points (joined (take next.block rows)) ∙ ap length all ∙ length-append a r);
        bytes = bytes ∙ ap (λ m. m + bytes_in (concat (points_in r))) s.bytes ∙ sym (ap (λ t. bytes_in (concat (points_in t))) all ∙ bytes-both a r);
        places = places ∙ ap (λ m. m + length (concat (points_in r))) s.places ∙ sym (ap (λ t. length (concat (points_in t))) all ∙ places-both a r);
      }

  -- what stands before a block stands before the one in front of it, or in that one
  pub previous-of : (bs : List (Block K)) (b : Before) → IsInFront bs b → 0 < b.block → HasPrevious bs b
  previous-of bs b s some =
      let rows = rows_of bs in
      let q = b.block - 1 in
      let next : q + 1 ≡ b.block = omega (arith, some) in
      let a = joined (take q rows) in
      let r = get_or rows q [] in
      let within : q < length rows = let w = s.within in omega (arith, length-rows bs, next) in
      let all : joined (take b.block rows) ≡ a ++ r = ap (λ n. joined (take n rows)) (sym next) ∙ joined-more rows q within in
      record {
        paragraphs = s.paragraphs ∙ length-points (joined (take b.block rows)) ∙ ap length all ∙ length-append a r ∙ ap (λ m. m + length r) (sym (length-points a));
        bytes = s.bytes ∙ ap (λ t. bytes_in (concat (points_in t))) all ∙ bytes-both a r;
        places = s.places ∙ ap (λ t. length (concat (points_in t))) all ∙ places-both a r;
      }

  pub stands-previous : (bs : List (Block K)) (b : Before) → IsInFront bs b → 0 < b.block → (p : Before) → p.block ≡ b.block - 1
      → p.paragraphs + length (get_or (rows_of bs) (b.block - 1) []) ≡ b.paragraphs
      → p.bytes + bytes_in (concat (points_in (get_or (rows_of bs) (b.block - 1) []))) ≡ b.bytes
      → p.places + length (concat (points_in (get_or (rows_of bs) (b.block - 1) []))) ≡ b.places → IsInFront bs p
  stands-previous bs b s some p block paragraphs bytes places =
      let has = previous-of bs b s some in
      record {
        within = let w = s.within in omega (arith, block, w);
        paragraphs = omega (arith, has.paragraphs, paragraphs, ap (λ n. length (points_in (joined (take n (rows_of bs))))) block);
        bytes = omega (arith, has.bytes, bytes, ap (λ n. bytes_in (concat (points_in (joined (take n (rows_of bs)))))) block);
        places = omega (arith, has.places, places, ap (λ n. length (concat (points_in (joined (take n (rows_of bs)))))) block);
      }

  -- a paragraph of a block among all, and those before it
  pub kept-at : (bs : List (Block K)) (b : Before) → IsInFront bs b → (j : ℕ) → j < length (get_or (rows_of bs) b.block [])
      → get_or (texts_in bs) (b.paragraphs + j) [] ≡ get_or (points_in (get_or (rows_of bs) b.block [])) j []
  kept-at bs b s j inside =
      let rows = rows_of bs in
      let within : b.block < length rows = let w = s.within in omega (arith, length-rows bs) in
      let at : b.paragraphs + j ≡ length (joined (take b.block rows)) + j = ap (λ n. n + j) (s.paragraphs ∙ length-points (joined (take b.block rows))) in
      let r = get_or rows b.block [] in
      let c = joined (drop (b.block + 1) rows) in
      let a = joined (take b.block rows) in
      let p = ap points_in (joined-at rows b.block within) ∙ map-append points_of a (r ++ c) ∙ ap (λ t. points_in a ++ t) (map-append points_of r c) in
      ap (λ n. get_or (texts_in bs) (n + j) []) s.paragraphs ∙ ap (λ t. get_or t (length (points_in a) + j) []) p
      ∙ get_or-both (points_in a) (points_in r) (points_in c) j (omega (arith, length-points r, inside))

  pub take-at : (bs : List (Block K)) (b : Before) → IsInFront bs b → (j : ℕ) → j ≤ length (get_or (rows_of bs) b.block [])
      → take (b.paragraphs + j) (pieces_in bs) ≡ joined (take b.block (rows_of bs)) ++ take j (get_or (rows_of bs) b.block [])
  take-at bs b s j inside =
      let rows = rows_of bs in
      let a = joined (take b.block rows) in
      let r = get_or rows b.block [] in
      let c = joined (drop (b.block + 1) rows) in
      let within : b.block < length rows = let w = s.within in omega (arith, length-rows bs) in
      ap₂ (λ n t. take (n + j) t) (s.paragraphs ∙ length-points a) (joined-at rows b.block within) ∙ take-append-add a (r ++ c) j ∙ ap (λ t. a ++ t) (take-append-le j r c inside)

  -- where a paragraph stands behind a block, a block does
  pub block-more : (bs : List (Block K)) (b : Before) → IsInFront bs b → (number : ℕ) → number < length (texts_in bs)
      → b.paragraphs + length (get_or (rows_of bs) b.block []) ≤ number → b.block + 1 < length bs
  block-more bs b s number there passed =
      let all = parts-of bs b s in
      elim (cases_lt (b.block + 1) (length bs)) [
        | inl more ↦ more
        | inr last ↦ let none = ap (λ t. length (joined t)) (all.last last) in absurd (omega (arith, all.paragraphs, none, there, passed))
      ]

  -- before the first block stands nothing
  pub stands-first : (bs : List (Block K)) (b : Before) → 0 < length bs → b.block ≡ 0 → b.paragraphs ≡ 0 → b.bytes ≡ 0 → b.places ≡ 0 → IsInFront bs b
  stands-first bs b some block paragraphs bytes places =
      let none : joined (take b.block (rows_of bs)) ≡ [] = ap (λ n. joined (take n (rows_of bs))) block in
      record {
        within = omega (arith, block, some);
        paragraphs = paragraphs ∙ sym (ap (λ t. length (points_in t)) none);
        bytes = bytes ∙ sym (ap (λ t. bytes_in (concat (points_in t))) none);
        places = places ∙ sym (ap (λ t. length (concat (points_in t))) none);
      }

  -- where something stands before a block, that isn't the first
  pub first-none : (bs : List (Block K)) (b : Before) → IsInFront bs b → HasFront b
  first-none bs b s =
      let none : b.block ≡ 0 → joined (take b.block (rows_of bs)) ≡ [] = λ is. ap (λ n. joined (take n (rows_of bs))) is in
      record {
        paragraphs = λ some.
            elim (cases_lt 0 b.block) [
              | inl more ↦ more
              | inr last ↦ absurd (omega (arith, s.paragraphs, ap (λ t. length (points_in t)) (none (omega (arith, last))), some))
            ];
        places = λ some.
            elim (cases_lt 0 b.block) [
              | inl more ↦ more
              | inr last ↦ absurd (omega (arith, s.places, ap (λ t. length (concat (points_in t))) (none (omega (arith, last))), some))
            ];
      }

  -- with the same blocks before it and one there a block stands where it stood
  pub stands-same : (old new : List (Block K)) (b : Before) → IsInFront old b → take b.block (rows_of new) ≡ take b.block (rows_of old) → b.block < length new → IsInFront new b
  stands-same old new b s same within =
      record {
        within = within;
        paragraphs = s.paragraphs ∙ sym (ap (λ t. length (points_in (joined t))) same);
        bytes = s.bytes ∙ sym (ap (λ t. bytes_in (concat (points_in (joined t)))) same);
        places = s.places ∙ sym (ap (λ t. length (concat (points_in (joined t)))) same);
      }

  -- with the same texts in each block a block stands where it stood
  points-joined : (rows : List (List (Piece K))) → points_in (joined rows) ≡ joined (map points_in rows)
  points-joined [] = refl
  points-joined (r ∷ rows) = map-append points_of r (joined rows) ∙ ap (λ t. points_in r ++ t) (points-joined rows)

  pub stands-alike : (old new : List (Block K)) (b : Before) → IsInFront old b → map points_in (rows_of new) ≡ map points_in (rows_of old) → IsInFront new b
  stands-alike old new b s same =
      let q = b.block in
      let front : points_in (joined (take q (rows_of new))) ≡ points_in (joined (take q (rows_of old))) =
      points-joined (take q (rows_of new)) ∙ ap joined (sym (take-map points_in q (rows_of new)) ∙ ap (take q) same ∙ take-map points_in q (rows_of old)) ∙ sym (points-joined (take q (rows_of old))) in
      let size = sym (length-map (rows_of new) points_in) ∙ ap length same ∙ length-map (rows_of old) points_in in
      record {
        within = omega (arith, size, length-rows new, length-rows old, s.within);
        paragraphs = s.paragraphs ∙ sym (ap length front);
        bytes = s.bytes ∙ sym (ap (λ t. bytes_in (concat t)) front);
        places = s.places ∙ sym (ap (λ t. length (concat t)) front);
      }

  -- where the blocks before it stay and a paragraph stands behind these, a block stands where it stood
  pub stands-still : (old new : List (Block K)) (b : Before) → IsInFront old b → take b.block (rows_of new) ≡ take b.block (rows_of old) → b.paragraphs < length (pieces_in new) → IsInFront new b
  stands-still old new b s same there =
      elim (cases_lt b.block (length new)) [
        | inl within ↦ stands-same old new b s same within
        | inr last ↦
            let all = sym (ap joined same) ∙ ap joined (take_all b.block (rows_of new) (omega (arith, length-rows new, last))) in
            absurd (omega (arith, ap length all, s.paragraphs, length-points (joined (take b.block (rows_of old))), there))
      ]

  -- ---- one block that is made anew

  pub rows-set : (bs : List (Block K)) (q : ℕ) (new : Block K) → rows_of (slice_set bs q new) ≡ slice_set (rows_of bs) q new.pieces.items
  rows-set bs q new = map-set (λ (x : Block K). x.pieces.items) bs q new

  pub rows-insert : (bs : List (Block K)) (i : ℕ) (b : Block K) → rows_of (insert bs i b) ≡ insert (rows_of bs) i b.pieces.items
  rows-insert bs i b =
      let row = λ (x : Block K). x.pieces.items in
      map-append row (take i bs) (b ∷ drop i bs) ∙ ap₂ (λ x y. x ++ b.pieces.items ∷ y) (sym (take-map row i bs)) (sym (drop-map row i bs))

  pub rows-remove : (bs : List (Block K)) (i : ℕ) → rows_of (remove bs i) ≡ remove (rows_of bs) i
  rows-remove bs i =
      let row = λ (x : Block K). x.pieces.items in
      map-append row (take i bs) (drop (suc i) bs) ∙ ap₂ (λ x y. x ++ y) (sym (take-map row i bs)) (sym (drop-map row (suc i) bs))

  -- others in the place of some blocks are rows in their place
  pub rows-put : (bs cs : List (Block K)) (i j : ℕ) → rows_of (take i bs ++ (cs ++ drop j bs)) ≡ take i (rows_of bs) ++ (rows_of cs ++ drop j (rows_of bs))
  rows-put bs cs i j =
      let row = λ (x : Block K). x.pieces.items in
      map-append row (take i bs) (cs ++ drop j bs) ∙ ap₂ (λ x y. x ++ y) (sym (take-map row i bs)) (map-append row cs (drop j bs) ∙ ap (λ t. rows_of cs ++ t) (sym (drop-map row j bs)))

  -- others in the place of some paragraphs, by what they are seen as
  pub points-put : (ps qs : List (Piece K)) (i j : ℕ) → points_in (take i ps ++ (qs ++ drop j ps)) ≡ take i (points_in ps) ++ (points_in qs ++ drop j (points_in ps))
  points-put ps qs i j =
      map-append points_of (take i ps) (qs ++ drop j ps)
      ∙ ap₂ (λ x y. x ++ y) (sym (take-map points_of i ps)) (map-append points_of qs (drop j ps) ∙ ap (λ t. points_in qs ++ t) (sym (drop-map points_of j ps)))

  pub seen-put : (ps qs : List (Piece K)) (i j : ℕ) → map seen (take i ps ++ (qs ++ drop j ps)) ≡ take i (map seen ps) ++ (map seen qs ++ drop j (map seen ps))
  seen-put ps qs i j =
      map-append seen (take i ps) (qs ++ drop j ps)
      ∙ ap₂ (λ x y. x ++ y) (sym (take-map seen i ps)) (map-append seen qs (drop j ps) ∙ ap (λ t. map seen qs ++ t) (sym (drop-map seen j ps)))

  -- one block more at the end is one more in front of those in reverse
  pub kept-reverse : (bs : List (Block K)) (b : Block K) → pieces_in (reverse (bs ++ b ∷ [])) ≡ b.pieces.items ++ pieces_in (reverse bs)
  kept-reverse bs b = ap pieces_in (reverse-append bs (b ∷ []))

  -- a row has no more bytes than all
  pub bytes-row : (bs : List (Block K)) (q : ℕ) → q < length bs → bytes_in (concat (points_in (get_or (rows_of bs) q []))) ≤ bytes_in (concat (texts_in bs))
  bytes-row bs q within =
      let rows = rows_of bs in
      let a = joined (take q rows) in
      let r = get_or rows q [] in
      let c = joined (drop (q + 1) rows) in
      let all = ap (λ t. bytes_in (concat (points_in t))) (joined-at rows q (omega (arith, length-rows bs, within))) in
      omega (arith, all, bytes-both a (r ++ c), bytes-both r c)

  -- a row and the next one have no more bytes than all
  pub bytes-onto : (rows : List (List (Piece K))) (q : ℕ) → q + 1 < length rows
      → bytes_in (concat (points_in (get_or (remove rows (q + 1)) q []))) + bytes_in (concat (points_in (get_or rows (q + 1) []))) ≤ bytes_in (concat (points_in (joined rows)))
  bytes-onto rows q more =
      let less = remove rows (q + 1) in
      let own = get_or less q [] in
      let next = get_or rows (q + 1) [] in
      let a = joined (take q less) in
      let c = joined (drop (q + 1) less) in
      let all = ap (λ t. bytes_in (concat (points_in t))) (sym (joined-onto rows q more) ∙ joined-set less q (own ++ next) (within-less rows q more)) in
      omega (arith, all, bytes-both a ((own ++ next) ++ c), bytes-both (own ++ next) c, bytes-both own next)

  -- ---- a slice that was written to

  pub written : (new old : List (Block K)) (n : ℕ) → length new ≡ n → length old ≤ n → take n (new ++ drop (length new) old) ≡ new
  written new old n size few =
      ap (λ t. take n (new ++ t)) (drop_all (length new) old (omega (arith, size, few))) ∙ ap (take n) (append-nil new) ∙ take_all n new (omega (arith, size))

  -- ---- a paragraph that was found

  pub found-text : (bs : List (Block K)) (b : Before) (x r : Block K) (p : Piece K) (number : ℕ) → IsInFront bs b → x ≡ get_or bs b.block r → b.paragraphs ≤ number
      → number < b.paragraphs + length (get_or (rows_of bs) b.block []) → p ≡ get_or x.pieces.items (number - b.paragraphs) p → get_or (texts_in bs) number [] ≡ points_of p
  found-text bs b x r p number s is reached here at =
      let row = row-get bs b.block r s.within ∙ ap (λ (y : Block K). y.pieces.items) (sym is) in
      let j = number - b.paragraphs in
      let same : b.paragraphs + j ≡ number = omega (arith, reached) in
      let inside : j < length (get_or (rows_of bs) b.block []) = omega (arith, reached, here) in
      let near : j < length x.pieces.items = omega (arith, inside, ap length row) in
      ap (λ n. get_or (texts_in bs) n []) (sym same) ∙ kept-at bs b s j inside ∙ ap (λ r. get_or (points_in r) j []) row
      ∙ get_or-map points_of x.pieces.items j p [] near ∙ ap points_of (sym at)
