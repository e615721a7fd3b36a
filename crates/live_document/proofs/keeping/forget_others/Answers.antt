-- What is left are the rows of the stretch.
use Rattle.std.proofs.Common.{◌≤◌, inr, length, sym, ap, ◌∙◌, arith}
use Rattle.live_document.proofs.Forgotten.{laid-but, held-but, inside-but, outside-but}
use Rattle.live_document.proofs.Stretches.{count-texts}
use Rattle.live_document.proofs.keeping.forget_others.Goals as goal

pub returns-clause-laid : goal.returns-clause-laid
returns-clause-laid c = λ tables width base all.
    let thin = c.thin_out-left.new.buffer in
    let many = ap length c.thin_out-left.ensures.paragraphs in
    let within : c.args.to ≤ length thin = omega (arith, c.requires.within, many, count-texts thin, count-texts c.args.buffer.now) in
    laid-but thin c.forget_but.new.self c.args.from c.args.to c.requires.order within c.forget_but.ensures.paragraphs c.forget_but.ensures.kept tables width base
    (c.thin_out-left.ensures.laid tables width base all)

pub returns-clause-inside : goal.returns-clause-inside
returns-clause-inside c = λ k low high.
    let thin = c.thin_out-left.new.buffer in
    let many = ap length c.thin_out-left.ensures.paragraphs in
    let within : c.args.to ≤ length thin = omega (arith, c.requires.within, many, count-texts thin, count-texts c.args.buffer.now) in
    inside-but thin c.forget_but.new.self c.args.from c.args.to c.requires.order within c.forget_but.ensures.paragraphs c.forget_but.ensures.kept k low high
    ∙ c.thin_out-left.ensures.inside k low high

pub returns-clause-held : goal.returns-clause-held
returns-clause-held c =
    let thin = c.thin_out-left.new.buffer in
    let many = ap length c.thin_out-left.ensures.paragraphs in
    let within : c.args.to ≤ length thin = omega (arith, c.requires.within, many, count-texts thin, count-texts c.args.buffer.now) in
    let h = held-but thin c.forget_but.new.self c.args.from c.args.to c.requires.order within c.forget_but.ensures.paragraphs c.forget_but.ensures.kept in
    omega (arith, h, c.thin_out-left.ensures.within, c.requires.weight)

pub returns-clause-bounded : goal.returns-clause-bounded
returns-clause-bounded c =
    let thin = c.thin_out-left.new.buffer in
    let many = ap length c.thin_out-left.ensures.paragraphs in
    let within : c.args.to ≤ length thin = omega (arith, c.requires.within, many, count-texts thin, count-texts c.args.buffer.now) in
    inr (outside-but thin c.forget_but.new.self c.args.from c.args.to c.requires.order within c.forget_but.ensures.paragraphs c.forget_but.ensures.kept)

pub returns-clause-no_more : goal.returns-clause-no_more
returns-clause-no_more c = λ k there.
    let thin = c.thin_out-left.new.buffer in
    let many = ap length c.thin_out-left.ensures.paragraphs in
    let within : c.args.to ≤ length thin = omega (arith, c.requires.within, many, count-texts thin, count-texts c.args.buffer.now) in
    let inside = outside-but thin c.forget_but.new.self c.args.from c.args.to c.requires.order within c.forget_but.ensures.paragraphs c.forget_but.ensures.kept k there in
    let same = inside-but thin c.forget_but.new.self c.args.from c.args.to c.requires.order within c.forget_but.ensures.paragraphs c.forget_but.ensures.kept k inside.0 inside.1 in
    c.thin_out-left.ensures.no_more k (sym same ∙ there)

pub kept_weight-kept-requires : goal.kept_weight-kept-requires
kept_weight-kept-requires c = omega (arith, c.requires.held, c.requires.few)

pub thin_out-left-requires : goal.thin_out-left-requires
thin_out-left-requires c = omega (arith, c.requires.held, c.requires.few)
