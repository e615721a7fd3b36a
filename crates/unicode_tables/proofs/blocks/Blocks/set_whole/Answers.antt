-- The goals of `set_whole` that are answered by hand.
use Rattle.std.proofs.Common.{◌∙◌, ◌++◌, false, cond, leb, ltb, get_or, length, take, drop, ap}
use Rattle.std.specs.Prelude.{◌&&◌}
use Rattle.unicode_tables.proofs.BlockValues.{set_whole-value, row-written}
use Rattle.unicode_tables.proofs.blocks.Blocks.set_whole.Goals as goal

pub returns-clause-value : goal.returns-clause-value
returns-clause-value g c = λ k d h.
    let values = c.args.self.now.values in
    let paged = c.args.self.now.paged in
    let v = c.fill.new.row in
    let p = c.fill-2.new.row in
    let from = c.args.from in
    let to = c.args.to in
    set_whole-value paged.items (take paged.len (p ++ drop (length p) paged.items)) c.args.self.now.pages.items
    values.items (take values.len (v ++ drop (length v) values.items)) from to c.args.value k d
    (λ j e. ap (λ row. get_or row j e) (row-written values.items c.deref_mut.result.now v values.len c.deref_mut.ensures.value c.fill.ensures.len values.ok.0)
    ∙ c.fill.ensures.value j e ∙ ap (λ row. cond (leb from j && ltb j to) c.args.value (get_or row j e)) c.deref_mut.ensures.value)
    (λ j e. ap (λ row. get_or row j e) (row-written paged.items c.deref_mut-2.result.now p paged.len c.deref_mut-2.ensures.value c.fill-2.ensures.len paged.ok.0)
    ∙ c.fill-2.ensures.value j e ∙ ap (λ row. cond (leb from j && ltb j to) false (get_or row j e)) c.deref_mut-2.ensures.value)
