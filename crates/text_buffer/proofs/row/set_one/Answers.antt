-- There is one alone.
use Rattle.std.proofs.Common.{◌≡◌, ◌++◌, [], ◌∷◌, take, drop, add-one, sym, ap, ap₂, ◌∙◌, arith}
use Rattle.std.proofs.lemmas.List.{nil_from_length, set_split}
use Rattle.text_buffer.proofs.row.set_one.Goals as goal

pub returns-in-Some : goal.returns-in-Some
returns-in-Some g c =
    let old = c.args.row.now.items in
    let x = c.in-Some.other in
    let none = nil_from_length c.pop.new.self.items (omega (arith, c.in-Some.ensures.cases, c.requires.one, c.pop.new.self.ok)) in
    let one : c.args.others.items ≡ x ∷ [] = c.in-Some.ensures.items ∙ ap (λ t. t ++ x ∷ []) none in
    set_split old c.args.at x c.requires.within ∙ ap₂ (λ t n. take c.args.at old ++ (t ++ drop n old)) (sym one) (sym (add-one c.args.at))
