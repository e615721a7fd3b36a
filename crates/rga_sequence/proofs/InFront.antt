-- How many visible elements stand before one of the row, by its blocks.
use Rattle.std.proofs.Common.{◌≡◌, ℕ, ◌≤◌, ◌+◌, List, [], length, take, drop, get_or, sym, ap, ◌∙◌, length-drop, arith}
use Rattle.std.proofs.lemmas.List.{take-append-drop, length-take-le}
use Rattle.rga_tree.specs.declared.element.Element.{Element}
use Rattle.rga_sequence.specs.Blocks.{seen, seen_all}
use Rattle.rga_sequence.proofs.Grown.{seen_le}
use Rattle.rga_sequence.proofs.Nth.{seen-rest, seen_all-append}
use Rattle.rga_sequence.proofs.Seen.{seen_all-more}

-- in a row that shows all
pub all_before : (es : List Element) (k : ℕ) → seen es ≡ length es → k ≤ length es → seen (take k es) ≡ k
all_before es k all within = omega (arith, all, seen-rest es k, seen_le (take k es), seen_le (drop k es), length-drop k es, length-take-le k es within)

-- ---- parts of all blocks

seen_all-parted : (xs : List (List Element)) (b : ℕ) → seen_all (take b xs) + seen_all (drop b xs) ≡ seen_all xs
seen_all-parted xs b = sym (seen_all-append (take b xs) (drop b xs)) ∙ ap seen_all (take-append-drop b xs)

pub seen_all-within : (xs : List (List Element)) (b : ℕ) → seen_all (take b xs) ≤ seen_all xs
seen_all-within xs b = omega (arith, seen_all-parted xs b)

pub before_within : (xs : List (List Element)) (b at : ℕ) → seen_all (take b xs) + seen (take at (get_or xs b [])) ≤ seen_all xs
before_within xs b at = omega (arith, seen_all-more xs b, seen_all-within xs (b + 1), seen-rest (get_or xs b []) at)
