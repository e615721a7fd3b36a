-- The goals of `push_run` that are answered by hand.
use Rattle.std.proofs.Common.{ℕ, refl, ap, ◌∙◌, ◌+◌, cond, None, ltb, sym, ◌≡◌, List, [], ◌∷◌, ◌++◌, take, length, append_assoc}
use Rattle.std.proofs.Math.Seq.{take-length}
use Rattle.bg_types.specs.declared.op.OpView.{OpView}
use Rattle.op_codec.specs.Spelling.{further_ops}
use Rattle.op_codec.specs.Fault.{characters_in}
use Rattle.op_codec.proofs.Characters.{length-characters_in}
use Rattle.op_codec.proofs.Runs.{grown_push}
use Rattle.op_codec.proofs.Feeds.{grown_twice}
use Rattle.op_codec.proofs.run.push_run.Goals as goal

pub returns-clause-next : goal.returns-clause-next
returns-clause-next c =
    let count = ap (λ (k : ℕ). k + 1) (sym (length-characters_in c.args.further.now)) in
    record {
      version = refl;
      frames = refl;
      tip = c.open_tip-at.ensures ∙ (λ i. cond (ltb (count i) (c.most_insertions.ensures i)) (c.in_ok-last.ensures.last i) None);
    }

-- what has grown by the first operation, and then by the further ones
grown_run : (ops kept pushed new : List OpView) (first : OpView) → kept ≡ ops → pushed ≡ kept ++ first ∷ [] → take (length pushed) new ≡ pushed → take (length ops) new ≡ ops
grown_run ops kept pushed new first same is more =
    let one : pushed ≡ ops ++ first ∷ [] = is ∙ ap (λ (s : List OpView). s ++ first ∷ []) same in
    grown_twice ops pushed new (grown_push ops ops pushed first (take-length ops) one) more

pub returns-in_err-reserve-clause-grown : goal.returns-in_err-reserve-clause-grown
returns-in_err-reserve-clause-grown c =
    let ops = c.args.ops.now.items in
    ap (λ (s : List OpView). take (length ops) s) c.in_err-reserve.ensures.items ∙ take-length ops

pub returns-in_err-last-clause-grown : goal.returns-in_err-last-clause-grown
returns-in_err-last-clause-grown c =
    grown_run c.args.ops.now.items c.reserve.new.self.items c.push.new.self.items c.push_further.new.ops.items c.args.first.now c.in_ok-reserve.ensures.items c.in_ok-push.ensures.items c.push_further.ensures.grown

pub returns-clause-ops : goal.returns-clause-ops
returns-clause-ops c =
    let first = c.args.first.now in
    let further = further_ops first (characters_in c.args.further.now) in
    let ops = c.args.ops.now.items in
    c.in_ok-last.ensures.ops ∙ (λ i. (c.in_ok-push.ensures.items ∙ (λ k. c.in_ok-reserve.ensures.items k ++ first ∷ [])) i ++ further) ∙ append_assoc ops (first ∷ []) further

pub returns-clause-grown : goal.returns-clause-grown
returns-clause-grown c =
    grown_run c.args.ops.now.items c.reserve.new.self.items c.push.new.self.items c.push_further.new.ops.items c.args.first.now c.in_ok-reserve.ensures.items c.in_ok-push.ensures.items c.push_further.ensures.grown
