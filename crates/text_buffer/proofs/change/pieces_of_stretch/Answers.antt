-- The last one goes from what is seen too.
use Rattle.std.proofs.Common.{cond, ◌≡◌, ℕ, ◌-◌, List, map, length, take, sym, ap, ◌∙◌, arith}
use Rattle.std.proofs.lemmas.List.{take-map, length-map}
use Rattle.std.specs.Prelude.{string_bytes}
use Rattle.paragraphs.specs.Text.{code_points}
use Rattle.paragraphs.specs.Paragraphs.{Paragraph, paragraphs}
use Rattle.text_buffer.specs.Edits.{anew}
use Rattle.text_buffer.specs.Pieces.{seen}
use Rattle.text_buffer.proofs.change.pieces_of_stretch.Goals as goal

pub returns : goal.returns
returns g c =
    let ps = c.in_ok-pieces-2.pieces in
    let points = λ (t : List ℕ). map (λ (p : Paragraph). code_points p.text) (paragraphs c.args.tables.now t) in
    let all = points (string_bytes c.args.text) in
    let fresh = anew {K = g.row.K.Denot} in
    let is = c.in_ok-pieces-2.ensures ∙ ap (λ t. map fresh (points t)) c.deref.ensures in
    let size : ps.len ≡ length all = omega (arith, ps.ok, length-map ps.items seen, ap length is, length-map all fresh) in
    ap (map seen) c.pop.ensures.rest ∙ sym (take-map seen (ps.len - 1) ps.items) ∙ ap (take (ps.len - 1)) is ∙ take-map fresh (ps.len - 1) all
    ∙ ap (λ n. map fresh (take (n - 1) all)) size ∙ ap (λ b. map fresh (cond b all (take (length all - 1) all))) (sym c.if-last.false)
