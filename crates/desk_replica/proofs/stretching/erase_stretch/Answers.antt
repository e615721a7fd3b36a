-- The goals of `erase_stretch` that are answered by hand.
use Rattle.std.proofs.Common.{◌≡◌, ◌-◌, length, take, drop, ◌∙◌, sym, ap, subst, arith}
use Rattle.std.specs.Prelude.{All}
use Rattle.std.proofs.lemmas.List.{take_rest, drop_at}
use Rattle.bg_types.specs.OperationSet.{OperationSet}
use Rattle.desk_replica.specs.Replacement.{MayHide, deletions}
use Rattle.desk_replica.proofs.Ranges.{may_hide}
use Rattle.desk_replica.proofs.stretching.erase_stretch.Goals as goal

pub hide_targets-requires : goal.hide_targets-requires
hide_targets-requires g c =
    let t = g.S.Sequence.content c.args.seq.now in
    let gone = deletions t c.args.from c.args.count in
    let before = c.len-before.result in
    let all = c.deref.result.now in
    let made : take (length all - before) (drop before all) ≡ gone =
    take_rest all before ∙ ap (drop before) (c.deref.ensures.value ∙ c.list_stretch.ensures.made) ∙ drop_at c.args.made.now.items gone before (omega (arith, c.len-before.ensures)) in
    subst (All (MayHide (g.S.Sequence.content c.list_stretch.new.seq))) (sym made)
    (subst (λ (s : OperationSet). All (MayHide s) gone) (sym c.list_stretch.ensures.content) (may_hide t c.args.from c.args.count c.requires.within))
