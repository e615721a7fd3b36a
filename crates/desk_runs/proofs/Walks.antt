-- The carets of a walk, one move after the other.
use Rattle.std.proofs.Common.{◌≡◌, ℕ, ◌+◌, List, [], ◌∷◌, ◌++◌, take, refl, ap, sym, ◌∙◌}
use Rattle.std.specs.List.{flat_map}
use Rattle.std.proofs.lemmas.List.{append-nil}
use Rattle.std.proofs.lemmas.List.Concat.{flat_map-append}
use Rattle.cell_grid.specs.Rows.{DrawnRow}
use Rattle.caret.specs.declared.caret.Caret.{Caret}
use Rattle.caret.specs.declared.moves.Move.{Move}
use Rattle.desk_runs.specs.Carets.{moved, walk, caret_line}

-- the caret after some moves
abbrev pub after : List DrawnRow → Caret → List Move → Caret
after rows caret [] = caret
after rows caret (m ∷ moves) = after rows (moved rows caret m) moves

pub after-push : (rows : List DrawnRow) (caret : Caret) (moves : List Move) (m : Move) → after rows caret (moves ++ m ∷ []) ≡ moved rows (after rows caret moves) m
after-push rows caret [] m = refl
after-push rows caret (n ∷ moves) m = after-push rows (moved rows caret n) moves m

walk-push : (rows : List DrawnRow) (caret : Caret) (moves : List Move) (m : Move) → walk rows caret (moves ++ m ∷ []) ≡ walk rows caret moves ++ moved rows (after rows caret moves) m ∷ []
walk-push rows caret [] m = refl
walk-push rows caret (n ∷ moves) m = ap (λ cs. caret ∷ cs) (walk-push rows (moved rows caret n) moves m)

module _ (rows : List DrawnRow) (start : Caret) (moves : List Move) (i : ℕ) (m : Move) (more : take (i + 1) moves ≡ take i moves ++ m ∷ []) where
  -- one more move, and one more line
  pub after-more : (caret next : Caret) → caret ≡ after rows start (take i moves) → next ≡ moved rows caret m → next ≡ after rows start (take (i + 1) moves)
  after-more caret next before step =
      step ∙ ap (λ c. moved rows c m) before ∙ sym (after-push rows start (take i moves) m) ∙ ap (after rows start) (sym more)

  pub lines-more : (old new : List ℕ) (caret next : Caret) → old ≡ flat_map caret_line (walk rows start (take i moves)) → caret ≡ after rows start (take i moves)
      → next ≡ moved rows caret m → new ≡ old ++ caret_line next → new ≡ flat_map caret_line (walk rows start (take (i + 1) moves))
  lines-more old new caret next lines before step pushed =
      let carets : walk rows start (take (i + 1) moves) ≡ walk rows start (take i moves) ++ next ∷ [] =
      ap (walk rows start) more ∙ walk-push rows start (take i moves) m ∙ ap (λ c. walk rows start (take i moves) ++ c ∷ []) (ap (λ c. moved rows c m) (sym before) ∙ sym step) in
      pushed ∙ ap (λ l. l ++ caret_line next) lines
      ∙ ap (λ l. flat_map caret_line (walk rows start (take i moves)) ++ l) (sym (append-nil (caret_line next)))
      ∙ sym (ap (flat_map caret_line) carets ∙ flat_map-append caret_line (walk rows start (take i moves)) (next ∷ []))
