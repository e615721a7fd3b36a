-- Stretches of one level, and the order of the pieces in them.
use Rattle.std.proofs.Common.{◌≡◌, ℕ, zero, suc, ◌+◌, ◌-◌, ◌<◌, ◌≤◌, true, false, List, [], ◌∷◌, ◌++◌, map, length, take, drop, slice_range, get_or, reverse, replicate, flat_map, cond, refl, sym, ap, subst, ◌∙◌, arith, append-nil, append_assoc, inl, inr}
use Rattle.std.proofs.lemmas.Bool.Decides.{leb_tells}
use Rattle.std.proofs.lemmas.List.{map-append, reverse-append, length-map, length_push, get_or_push, get_or_append_left, get_or_default, take-append-le, take_at, replicate_more, length-replicate, length-append}
use Rattle.std.proofs.lemmas.List.Concat.{flat_map-append, flat_map-cons}
use Rattle.std.proofs.lemmas.List.Elements.{All-nil, All-push, All-map, All-head, All-tail}
use Rattle.std.proofs.lemmas.List.Sums.{sum_by-cons, sum_by-append}
use Rattle.std.proofs.lemmas.Simd.{map-map}
use Rattle.std.proofs.Math.ListN.{get_or-map}
use Rattle.std.specs.List.{All, range_with_len}
use Rattle.reorder.specs.Pieces.{LevelPiece, PiecesMoveAsOne, count_of, levels_of, piece_order}
use Rattle.reorder.specs.Pieces.{no_piece as no_level}
use Rattle.reorder.specs.VisualList.{is_odd, visual_list}
use Rattle.cell_grid.specs.declared.cluster_run.ClusterRun.{ClusterRun}
use Rattle.cell_grid.specs.declared.stretch.Stretch.{Stretch}
use Rattle.cell_grid.specs.Pieces.{no_piece, piece_at, arranged}
use Rattle.cell_grid.specs.Stretches.{level_piece, stretch_at, IsAmong, AreStretches}
use Rattle.cell_grid.proofs.Steps.{drop-next, take-next, take-whole}

abbrev pub no_stretch : Stretch
no_stretch = record { first = 0; end = 0; level = 0 }

abbrev own_levels : List ClusterRun → List ℕ
own_levels pieces = map (λ (r : ClusterRun). r.level) pieces

-- ---- one stretch after the other

-- the stretches so far have the pieces up to here
pub record AreSoFar (pieces : List ClusterRun) (count : ℕ) (stretches : List Stretch) : Type 0 where
  pub most : count ≤ length pieces
  pub among : All (IsAmong (length pieces)) stretches
  pub follow : (k : ℕ) → k < length stretches → (stretch_at stretches k).first ≡ count_of (take k (map level_piece stretches))
  pub counted : count_of (map level_piece stretches) ≡ count
  pub levels_alike : levels_of (map level_piece stretches) ≡ take count (own_levels pieces)

pub so-far-start : (pieces : List ClusterRun) (stretches : List Stretch) → stretches ≡ [] → AreSoFar pieces 0 stretches
so-far-start pieces stretches none = subst (AreSoFar pieces 0) (sym none) (record {
  most = omega arith;
  among = All-nil (IsAmong (length pieces));
  follow = λ k lt. absurd (omega arith);
  counted = refl;
  levels_alike = refl;
})

-- as many levels alike as pieces
levels-on : (pieces : List ClusterRun) (first n level : ℕ) → first + n ≤ length pieces → ((k : ℕ) → first ≤ k → k < first + n → (piece_at pieces k).level ≡ level)
    → take (first + n) (own_levels pieces) ≡ take first (own_levels pieces) ++ replicate n level
levels-on pieces first zero level le same =
    let e : first + 0 ≡ first = omega arith in
    ap (λ k. take k (own_levels pieces)) e ∙ sym (append-nil (take first (own_levels pieces)))
levels-on pieces first (suc n) level le same =
    let e : first + suc n ≡ first + n + 1 = omega arith in
    let many = length-map pieces (λ (r : ClusterRun). r.level) in
    let lt : first + n < length (own_levels pieces) = omega arith in
    let is : level ≡ get_or (own_levels pieces) (first + n) 0 = sym (get_or-map (λ (r : ClusterRun). r.level) pieces (first + n) no_piece ∙ same (first + n) (omega arith) (omega arith)) in
    let up : n + 1 ≡ suc n = omega arith in
    ap (λ k. take k (own_levels pieces)) e ∙ take-next (own_levels pieces) (first + n) level 0 lt is
    ∙ ap (λ l. l ++ level ∷ []) (levels-on pieces first n level (omega arith) (λ k low high. same k low (omega arith)))
    ∙ append_assoc (take first (own_levels pieces)) (replicate n level) (level ∷ [])
    ∙ ap (λ l. take first (own_levels pieces) ++ l) (replicate_more n level ∙ ap (λ k. replicate k level) up)

module _ (pieces : List ClusterRun) (first : ℕ) (stretches : List Stretch) (h : AreSoFar pieces first stretches) (s : Stretch) (begun : s.first ≡ first) (among : IsAmong (length pieces) s)
    (level : (k : ℕ) → first ≤ k → k < s.end → (piece_at pieces k).level ≡ s.level) where
  groups-push : map level_piece (stretches ++ s ∷ []) ≡ map level_piece stretches ++ level_piece s ∷ []
  groups-push = map-append level_piece stretches (s ∷ [])

  follow-on : (k : ℕ) → k < length (stretches ++ s ∷ []) → (stretch_at (stretches ++ s ∷ []) k).first ≡ count_of (take k (map level_piece (stretches ++ s ∷ [])))
  follow-on k lt =
      let n = length_push stretches s in
      let m = length-map stretches level_piece in
      elim (leb_tells (suc k) (length stretches)) [
        | inl le ↦
            let within = le.1 in
            ap (λ (x : Stretch). x.first) (get_or_append_left stretches (s ∷ []) no_stretch k (omega arith)) ∙ h.follow k (omega arith)
            ∙ ap count_of (sym (ap (take k) groups-push ∙ take-append-le k (map level_piece stretches) (level_piece s ∷ []) (omega arith)))
        | inr gt ↦
            let last = gt.1 in
            let e : length stretches ≡ k = omega arith in
            ap (λ (x : Stretch). x.first) (get_or_push stretches s no_stretch k e) ∙ begun ∙ sym h.counted
            ∙ ap count_of (sym (ap (take k) groups-push ∙ take_at (map level_piece stretches) (level_piece s ∷ []) k (m ∙ e)))
      ]

  counted-on : count_of (map level_piece (stretches ++ s ∷ [])) ≡ s.end
  counted-on =
      let all = ap count_of groups-push ∙ sum_by-append (λ (p : LevelPiece). p.count) (map level_piece stretches) (level_piece s ∷ []) in
      let one = sum_by-cons (λ (p : LevelPiece). p.count) (level_piece s) [] in
      let before = h.counted in
      let some = among.some in
      omega arith

  levels-after : levels_of (map level_piece (stretches ++ s ∷ [])) ≡ take s.end (own_levels pieces)
  levels-after =
      let some = among.some in
      let within = among.within in
      let n : s.end - s.first ≡ s.end - first = omega arith in
      let e : first + (s.end - first) ≡ s.end = omega arith in
      ap levels_of groups-push ∙ flat_map-append (λ (p : LevelPiece). replicate p.count p.level) (map level_piece stretches) (level_piece s ∷ [])
      ∙ ap (λ l. l ++ levels_of (level_piece s ∷ [])) h.levels_alike
      ∙ ap (λ l. take first (own_levels pieces) ++ l) (flat_map-cons (λ (p : LevelPiece). replicate p.count p.level) (level_piece s) [] ∙ append-nil (replicate (s.end - s.first) s.level) ∙ ap (λ k. replicate k s.level) n)
      ∙ sym (levels-on pieces first (s.end - first) s.level (omega arith) (λ k low high. level k low (omega arith)))
      ∙ ap (λ k. take k (own_levels pieces)) e

  so-far-pushed : AreSoFar pieces s.end (stretches ++ s ∷ [])
  so-far-pushed = record {
    most = among.within;
    among = All-push (IsAmong (length pieces)) stretches s h.among among;
    follow = follow-on;
    counted = counted-on;
    levels_alike = levels-after;
  }

  pub so-far-on : (more : List Stretch) → more ≡ stretches ++ s ∷ [] → AreSoFar pieces s.end more
  so-far-on more put = subst (AreSoFar pieces s.end) (sym put) so-far-pushed

pub so-far-all : (pieces : List ClusterRun) (count : ℕ) (stretches : List Stretch) → length pieces ≤ count → AreSoFar pieces count stretches → AreStretches pieces stretches
so-far-all pieces count stretches all h =
    let n = length-map pieces (λ (r : ClusterRun). r.level) in
    record {
      among = h.among;
      follow = h.follow;
      levels_alike = h.levels_alike ∙ take-whole (own_levels pieces) count (omega arith);
    }

-- ---- the order of the pieces

-- the pieces of a stretch
slice-numbers : (pieces : List ClusterRun) (first n : ℕ) → first + n ≤ length pieces → map (piece_at pieces) (range_with_len first n) ≡ take n (drop first pieces)
slice-numbers pieces first zero le = refl
slice-numbers pieces first (suc n) le =
    ap (λ l. piece_at pieces first ∷ l) (slice-numbers pieces (first + 1) n (omega arith))
    ∙ sym (ap (take (suc n)) (drop-next pieces first (piece_at pieces first) no_piece (omega arith) refl))

map-reverse : {X Y : Type 0} (f : X → Y) (xs : List X) → map f (reverse xs) ≡ reverse (map f xs)
map-reverse f [] = refl
map-reverse f (x ∷ xs) =
    ap (map f) (reverse-append (x ∷ []) xs) ∙ map-append f (reverse xs) (x ∷ []) ∙ ap (λ l. l ++ f x ∷ []) (map-reverse f xs)
    ∙ sym (reverse-append (f x ∷ []) (map f xs))

-- no more groups of levels than levels
few-groups : (groups : List LevelPiece) → All (λ (p : LevelPiece). 0 < p.count) groups → length groups ≤ length (levels_of groups)
few-groups [] some = omega arith
few-groups (g ∷ groups) some =
    let n = ap length (flat_map-cons (λ (p : LevelPiece). replicate p.count p.level) g groups) ∙ length-append (replicate g.count g.level) (levels_of groups) in
    let own = length-replicate g.count g.level in
    let one = All-head (λ (p : LevelPiece). 0 < p.count) g groups some in
    let later = few-groups groups (All-tail (λ (p : LevelPiece). 0 < p.count) g groups some) in
    omega arith

module _ (pieces : List ClusterRun) (stretches : List Stretch) (h : AreStretches pieces stretches) where
  all-some : All (λ (p : LevelPiece). 0 < p.count) (map level_piece stretches)
  all-some = All-map (λ (p : LevelPiece). 0 < p.count) level_piece stretches (λ k d lt. let one = (h.among k d lt).some in omega arith)

  pub few-stretches : length stretches ≤ length pieces
  few-stretches =
      let few = few-groups (map level_piece stretches) all-some in
      let all = ap length h.levels_alike in
      let n = length-map stretches level_piece in
      let m = length-map pieces (λ (r : ClusterRun). r.level) in
      omega arith

  -- a stretch's pieces from left to right
  pub stretch-order : (k : ℕ) (s : Stretch) (own : List ClusterRun) → k < length stretches → s ≡ stretch_at stretches k → own ≡ slice_range pieces s.first s.end
      → cond (is_odd s.level) (reverse own) own ≡ map (piece_at pieces) (piece_order (map level_piece stretches) k)
  stretch-order k s own lt is own_is =
      let many = length-map stretches level_piece in
      let in_all = subst (IsAmong (length pieces)) (sym is) (h.among k no_stretch lt) in
      let some = in_all.some in
      let within = in_all.within in
      let group = get_or_default (map level_piece stretches) k no_level (level_piece no_stretch) (omega arith) ∙ get_or-map level_piece stretches k no_stretch ∙ ap level_piece (sym is) in
      let first = sym (h.follow k lt) ∙ ap (λ (x : Stretch). x.first) (sym is) in
      let order : piece_order (map level_piece stretches) k ≡ cond (is_odd s.level) (reverse (range_with_len s.first (s.end - s.first))) (range_with_len s.first (s.end - s.first)) =
      ap (λ (p : LevelPiece). cond (is_odd p.level) (reverse (range_with_len (count_of (take k (map level_piece stretches))) p.count)) (range_with_len (count_of (take k (map level_piece stretches))) p.count)) group
      ∙ ap (λ n. cond (is_odd s.level) (reverse (range_with_len n (s.end - s.first))) (range_with_len n (s.end - s.first))) first in
      ap (λ l. cond (is_odd s.level) (reverse l) l) (own_is ∙ sym (slice-numbers pieces s.first (s.end - s.first) (omega arith)))
      ∙ elim (is_odd s.level) as (λ o. cond o (reverse (map (piece_at pieces) (range_with_len s.first (s.end - s.first)))) (map (piece_at pieces) (range_with_len s.first (s.end - s.first)))
      ≡ map (piece_at pieces) (cond o (reverse (range_with_len s.first (s.end - s.first))) (range_with_len s.first (s.end - s.first)))) [
        | true ↦ sym (map-reverse (piece_at pieces) (range_with_len s.first (s.end - s.first)))
        | false ↦ refl
      ]
      ∙ ap (map (piece_at pieces)) (sym order)

  pub arranged-stretches : PiecesMoveAsOne → (levels numbers : List ℕ) → levels ≡ map (λ (s : Stretch). s.level) stretches → numbers ≡ visual_list levels
      → map (piece_at pieces) (flat_map (piece_order (map level_piece stretches)) numbers) ≡ arranged pieces
  arranged-stretches law levels numbers levels_are numbers_are =
      let groups = map level_piece stretches in
      ap (λ l. map (piece_at pieces) (flat_map (piece_order groups) l)) (numbers_are ∙ ap visual_list (levels_are ∙ sym (map-map (λ (p : LevelPiece). p.level) level_piece stretches)))
      ∙ ap (map (piece_at pieces)) (sym (law groups all-some) ∙ ap visual_list h.levels_alike)
