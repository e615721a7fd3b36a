-- In a line that fits, only spaces at its end hang.
use Rattle.std.proofs.Common.{◌≡◌, ℕ, ◌-◌, true, false, cond, [], ◌∷◌, ◌++◌, map, length, drop, refl, sym, ap, ◌∙◌, arith}
use Rattle.std.proofs.lemmas.List.{map-append}
use Rattle.std.proofs.lemmas.List.Sums.{sum-map}
use Rattle.std.proofs.lemmas.Bool.{leb-true}
use Rattle.std.specs.List.{list_all}
use Rattle.line_break.specs.LineClusters.{hangs}
use Rattle.line_break.specs.Lines.{without_tail, tail, columns, fits}
use Rattle.cell_grid.specs.Hanging.{hung}
use Rattle.cell_grid.proofs.Sides.{hung-append}

-- a line is what stands before its tail, and its tail
pub without_tail-tail : (line : _) → without_tail line ++ tail line ≡ line
without_tail-tail [] = refl
without_tail-tail (c ∷ line) =
    elim (list_all hangs (c ∷ line)) as (λ b. cond b [] (c ∷ without_tail line) ++ drop (length (cond b [] (c ∷ without_tail line))) (c ∷ line) ≡ c ∷ line) [
      | true ↦ refl
      | false ↦ ap (λ l. c ∷ l) (without_tail-tail line)
    ]

-- in a line that fits, each cluster takes its columns while there is room
pub hung-line : (width : ℕ) (line : _) → fits width line ≡ true
    → hung width (map (λ c. c.columns) line) ≡ map (λ c. c.columns) (without_tail line) ++ hung (width - columns (without_tail line)) (map (λ c. c.columns) (tail line))
hung-line width line fit =
    let le = leb-true (columns (without_tail line)) width fit in
    let total = sum-map (λ c. c.columns) (without_tail line) in
    ap (λ l. hung width (map (λ c. c.columns) l)) (sym (without_tail-tail line))
    ∙ ap (hung width) (map-append (λ c. c.columns) (without_tail line) (tail line))
    ∙ hung-append width (map (λ c. c.columns) (without_tail line)) (map (λ c. c.columns) (tail line)) (omega arith)
    ∙ ap (λ n. map (λ c. c.columns) (without_tail line) ++ hung (width - n) (map (λ c. c.columns) (tail line))) total
