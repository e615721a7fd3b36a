-- The goals of `split_line` that are answered by hand.
use Rattle.std.proofs.Common.{◌≡◌, ◌+◌, ◌-◌, ◌<◌, ◌∷◌, List, ℕ, length, take, drop, sym, ap, ◌∙◌, arith}
use Rattle.std.specs.Str.Lines.{lines}
use Rattle.std.proofs.lemmas.List.{take_all, length-drop}
use Rattle.op_listing.proofs.Parting.{last_line, next_line}
use Rattle.op_listing.proofs.lines.split_line.Goals as goal

pub returns-then-end-text-clause-lines : goal.returns-then-end-text-clause-lines
returns-then-end-text-clause-lines c =
    let text = c.args.text.now in
    let end = c.first_place-end.result in
    let rest : take (length text - end) (drop end text) ≡ drop (length text) text =
    take_all (length text - end) (drop end text) (omega (arith, length-drop end text)) ∙ ap (λ (k : ℕ). drop k text) c.if-end-text.true in
    last_line text (sym c.first_place-end.ensures.place ∙ c.if-end-text.true) c.requires ∙ ap (λ (r : List ℕ). text ∷ lines r) (sym rest)

pub returns-clause-lines : goal.returns-clause-lines
returns-clause-lines c =
    let text = c.args.text.now in
    let end = c.first_place-end.result in
    let within : end < length text = let le = c.first_place-end.ensures.within in let ne = c.if-end-text.false in omega (arith, le, ne) in
    let line = c.without_return.ensures in
    let rest : take (length text - (end + 1)) (drop (end + 1) text) ≡ drop (end + 1) text = take_all (length text - (end + 1)) (drop (end + 1) text) (omega (arith, length-drop (end + 1) text)) in
    next_line text end c.first_place-end.ensures.place within ∙ (λ i. sym line i ∷ lines (sym rest i))
