-- Where clusters stand together.
use Rattle.std.proofs.Common.{◌≡◌, ◌-◌, List, [], ◌∷◌, length, get_or, fold, slice_get, Some, refl, sym, ap, ◌∙◌, arith}
use Rattle.std.proofs.lemmas.Option.{get_or_from_slice_get}
use Rattle.paragraphs.specs.declared.span.Span.{Span}
use Rattle.cell_grid.specs.Spans.{up_to, extent}

fold-last : (s : Span) (later : List Span) (d : Span) → fold up_to s later ≡ up_to s (get_or (s ∷ later) (length later) d)
fold-last s [] d = refl
fold-last s (t ∷ []) d = refl
fold-last s (t ∷ u ∷ later) d = fold-last (up_to s t) (u ∷ later) d

last-is : (s : Span) (later : List Span) (e : Span) → Some e ≡ slice_get (s ∷ later) (length later) → up_to s e ≡ fold up_to s later
last-is s later e last = ap (up_to s) (sym (get_or_from_slice_get (s ∷ later) (length later) e s (sym last))) ∙ sym (fold-last s later s)

-- from the first to the last
pub extent-ends : (spans : List Span) (s e : Span) → Some s ≡ slice_get spans 0 → Some e ≡ slice_get spans (length spans - 1) → up_to s e ≡ extent spans
extent-ends [] s e first last = cc
extent-ends (x ∷ later) s e first last =
    let same : s ≡ x = cc in
    let n : length (x ∷ later) - 1 ≡ length later = omega arith in
    ap (λ y. up_to y e) same ∙ last-is x later e (last ∙ ap (slice_get (x ∷ later)) n)
