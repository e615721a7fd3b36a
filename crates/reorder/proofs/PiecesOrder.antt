-- The visual order of pieces: each block moves as its piece, and is turned where its level is odd.
use Rattle.std.proofs.Common.{ℕ, suc, ◌≡◌, ◌-◌, ◌<◌, ◌≤◌, ◌⊎◌, inl, inr, refl, ap, sym, ◌∙◌, subst, List, [], ◌∷◌, ◌++◌, length, get_or, take, Bool, true, zero-add, arith}
use Rattle.std.specs.List.{AllByRecursion, flat_map, enumerate_from}
use Rattle.std.proofs.lemmas.Bool.{cases_lt, false_from_ne_true}
use Rattle.std.proofs.lemmas.List.{map-append, length-map, get_or-map}
use Rattle.std.proofs.lemmas.List.Elements.{All-from_get_or, recursion_from_All}
use Rattle.std.proofs.lemmas.List.FromFn.{length-enumerate_from, get_or-enumerate_from}
use Rattle.reorder.specs.VisualList.{Cluster, numbers, is_odd, greatest, lowest_odd, arranged, visual_list}
use Rattle.reorder.specs.Pieces.{LevelPiece, no_piece, count_of, levels_of, piece_order, PiecesMoveAsOne}
use Rattle.reorder.proofs.Rounds.{all-rounds}
use Rattle.reorder.proofs.Arranged.{is_odd_count, level-le-greatest, lowest-cases, lowest-le, count-parity}
use Rattle.reorder.proofs.Blocks.{turned, IsBlock, every-weaker, rounds_turned, rounds-blocks, rounds-turned}
use Rattle.reorder.proofs.Pieces.{HasSome, own_levels, same-rounds, block_from, blocks_from, block_in, pieces-line, block-at, some-at, IsBlock-from, numbers-turned}

-- a level is turned by the rounds from the lowest odd level on exactly if it is odd
turns-odd : (top low l : ℕ) → l < top → (low ≡ top) ⊎ (is_odd low ≡ true) → (is_odd l ≡ true → low ≤ l) → is_odd_count (suc l - low) ≡ is_odd l
turns-odd top low l below odd lowest = elim (cases_lt l low) [
  | inl lt ↦
      let none : suc l - low ≡ 0 = omega arith in
      ap is_odd_count none ∙ sym (false_from_ne_true (is_odd l) (λ o. (let le = lowest o in omega arith)))
  | inr ge ↦
      let is : is_odd low ≡ true = elim odd [ inl e ↦ absurd (omega arith) | inr o ↦ o ] in
      count-parity low (suc l - low) l is (omega arith)
]

-- above all levels of the pieces
abbrev top_of : List LevelPiece → ℕ
top_of pieces = suc (greatest (own_levels pieces))

abbrev lowest_of : List LevelPiece → ℕ
lowest_of pieces = lowest_odd (suc (greatest (own_levels pieces))) (own_levels pieces)

-- what the reversals of the pieces' line make of the block of one of its clusters
abbrev turned_in : List LevelPiece → Cluster → List Cluster
turned_in pieces c = rounds_turned (top_of pieces - lowest_of pieces) (lowest_of pieces) (block_in (blocks_from 0 pieces)) c

record StandsFor (pieces : List LevelPiece) (c : Cluster) : Type 0 where
  block : IsBlock c.1 (block_in (blocks_from 0 pieces) c)
  order : numbers (turned_in pieces c) ≡ piece_order pieces c.0

module _ (pieces : List LevelPiece) (some : AllByRecursion HasSome pieces) where
  stands-at : (i : ℕ) → i < length pieces → StandsFor pieces (i, get_or (own_levels pieces) i 0)
  stands-at i lt =
      let n = length-map pieces (λ (p : LevelPiece). p.level) in
      let within : i < length (own_levels pieces) = omega arith in
      let level : get_or (own_levels pieces) i 0 ≡ (get_or pieces i no_piece).level = get_or-map (λ (p : LevelPiece). p.level) pieces i no_piece 0 lt in
      let at : get_or (blocks_from 0 pieces) i [] ≡ block_from (count_of (take i pieces)) (get_or pieces i no_piece) =
      block-at 0 pieces i lt ∙ ap (λ (k : ℕ). block_from k (get_or pieces i no_piece)) (zero-add (count_of (take i pieces))) in
      let le = level-le-greatest (own_levels pieces) i within in
      record {
        block = subst (IsBlock (get_or (own_levels pieces) i 0)) (sym at)
            (subst (λ (l : ℕ). IsBlock l (block_from (count_of (take i pieces)) (get_or pieces i no_piece))) (sym level)
            (IsBlock-from (count_of (take i pieces)) (get_or pieces i no_piece) (some-at pieces i lt some)));
        order =
            ap numbers (rounds-turned (top_of pieces - lowest_of pieces) (lowest_of pieces) (block_in (blocks_from 0 pieces)) (i, get_or (own_levels pieces) i 0) (omega arith))
            ∙ ap (λ (b : Bool). numbers (turned b (get_or (blocks_from 0 pieces) i [])))
            (turns-odd (top_of pieces) (lowest_of pieces) (get_or (own_levels pieces) i 0) (omega arith)
            (lowest-cases (top_of pieces) (own_levels pieces)) (lowest-le (top_of pieces) (own_levels pieces) i within))
            ∙ ap (λ (l : ℕ). numbers (turned (is_odd l) (get_or (blocks_from 0 pieces) i []))) level
            ∙ ap (λ (b : List Cluster). numbers (turned (is_odd (get_or pieces i no_piece).level) b)) at
            ∙ numbers-turned (is_odd (get_or pieces i no_piece).level) (count_of (take i pieces)) (get_or pieces i no_piece).count (get_or pieces i no_piece).level;
      }

  all-stand : AllByRecursion (StandsFor pieces) (enumerate_from 0 (own_levels pieces))
  all-stand =
      let n = length-enumerate_from 0 (own_levels pieces) in
      let m = length-map pieces (λ (p : LevelPiece). p.level) in
      recursion_from_All (StandsFor pieces) (enumerate_from 0 (own_levels pieces))
      (All-from_get_or (StandsFor pieces) (enumerate_from 0 (own_levels pieces)) (0, 0)
      (λ i lt.
      let within : i < length (own_levels pieces) = omega arith in
      let lt' : i < length pieces = omega arith in
      subst (StandsFor pieces)
      (sym (get_or-enumerate_from 0 (own_levels pieces) i (0, 0) within ∙ ap (λ k. (k, get_or (own_levels pieces) i 0)) (zero-add i)))
      (stands-at i lt')))

  pieces-arranged : arranged (levels_of pieces) (enumerate_from 0 (levels_of pieces))
      ≡ flat_map (turned_in pieces) (arranged (own_levels pieces) (enumerate_from 0 (own_levels pieces)))
  unfolding arranged
  pieces-arranged =
      same-rounds pieces (enumerate_from 0 (levels_of pieces)) some
      ∙ ap (arranged (own_levels pieces)) (sym (pieces-line pieces))
      ∙ rounds-blocks (top_of pieces - lowest_of pieces) (lowest_of pieces) (block_in (blocks_from 0 pieces)) (enumerate_from 0 (own_levels pieces))
      (every-weaker (StandsFor pieces) (λ (c : Cluster). IsBlock c.1 (block_in (blocks_from 0 pieces) c)) (λ c s. s.block) (enumerate_from 0 (own_levels pieces)) all-stand)

  all-arranged : AllByRecursion (StandsFor pieces) (arranged (own_levels pieces) (enumerate_from 0 (own_levels pieces)))
  unfolding arranged
  all-arranged = all-rounds (StandsFor pieces) (top_of pieces - lowest_of pieces) (lowest_of pieces) (enumerate_from 0 (own_levels pieces)) all-stand

numbers-turned_in : (pieces : List LevelPiece) (cs : List Cluster) → AllByRecursion (StandsFor pieces) cs →
    numbers (flat_map (turned_in pieces) cs) ≡ flat_map (piece_order pieces) (numbers cs)
numbers-turned_in pieces [] h = refl
numbers-turned_in pieces (c ∷ cs) h =
    map-append (λ (z : Cluster). z.0) (turned_in pieces c) (flat_map (turned_in pieces) cs)
    ∙ ap (λ l. l ++ numbers (flat_map (turned_in pieces) cs)) h.0.order
    ∙ ap (λ l. piece_order pieces c.0 ++ l) (numbers-turned_in pieces cs h.1)

pieces-order : (pieces : List LevelPiece) → AllByRecursion HasSome pieces → visual_list (levels_of pieces) ≡ flat_map (piece_order pieces) (visual_list (own_levels pieces))
unfolding visual_list
pieces-order pieces some =
    ap numbers (pieces-arranged pieces some)
    ∙ numbers-turned_in pieces (arranged (own_levels pieces) (enumerate_from 0 (own_levels pieces))) (all-arranged pieces some)

pub pieces-move_as_one : PiecesMoveAsOne
pieces-move_as_one pieces some = pieces-order pieces (recursion_from_All HasSome pieces some)
