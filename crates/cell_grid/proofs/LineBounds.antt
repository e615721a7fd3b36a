-- Lines that follow one another: how far they reach, and what they join to.
use Rattle.std.proofs.Common.{◌≡◌, ℕ, ◌<◌, ◌≤◌, List, [], ◌∷◌, ◌++◌, length, drop, flat_map, slice_range, sym, ap, ◌∙◌, arith}
use Rattle.std.proofs.lemmas.List.Concat.{flat_map-cons}
use Rattle.std.proofs.lemmas.List.Elements.{All-nil, All-cons}
use Rattle.std.proofs.lemmas.List.Folds.{drop_split}
use Rattle.std.proofs.Math.ListN.{drop_of_length-le}
use Rattle.std.specs.List.{All}
use Rattle.line_break.specs.declared.line.Line.{Line}
use Rattle.line_break.specs.Ranges.{Follow}

-- the line has a cluster, and ends where there are clusters
pub record IsBounded (count : ℕ) (line : Line) : Type 0 where
  pub some : line.start < line.end
  pub within : line.end ≤ count

pub bounds-follow : (ls : List Line) (from to : ℕ) → Follow from ls to → (from ≤ to) × All (IsBounded to) ls
bounds-follow [] from to f = (omega arith, All-nil (IsBounded to))
bounds-follow (line ∷ ls) from to f =
    let later = bounds-follow ls line.end to f.2 in
    let start = f.0 in
    let some = f.1 in
    let le = later.0 in
    (omega arith, All-cons (IsBounded to) line ls (record { some = omega arith; within = le }) later.1)

-- what the lines have of a list with an element for each cluster
pub joined-follow : {X : Type 0} (xs : List X) (ls : List Line) (from : ℕ) → Follow from ls (length xs) → flat_map (λ (line : Line). slice_range xs line.start line.end) ls ≡ drop from xs
joined-follow xs [] from f = sym (drop_of_length-le xs (omega arith))
joined-follow xs (line ∷ ls) from f =
    let start = f.0 in
    let some = f.1 in
    flat_map-cons (λ (l : Line). slice_range xs l.start l.end) line ls
    ∙ ap (λ t. slice_range xs line.start line.end ++ t) (joined-follow xs ls line.end f.2)
    ∙ sym (drop_split xs line.start line.end (omega arith))
    ∙ ap (λ n. drop n xs) start
