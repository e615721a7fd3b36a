-- The goals of `feed` that are answered by hand.
use Rattle.std.proofs.Common.{List, ℕ, subst, arith}
use Rattle.op_codec.specs.Feed.{IsFeedOutcome, bytes_of}
use Rattle.op_codec.proofs.Streams.{position_few, fed_outcome, fed_cut}
use Rattle.op_codec.proofs.feed.Feed.feed.Goals as goal

pub feed-requires : goal.feed-requires
feed-requires c =
    let old = c.self.inside in
    record { few = position_few old.stream.position old.ops.items old.stream.kept c.args.piece.now c.self.invariant (omega (arith, old.ops.ok.0, old.ops.ok.1, old.ops.small)) }

pub invariant_of-self : goal.invariant_of-self
invariant_of-self c =
    let old = c.self.inside in
    fed_cut old.stream c.feed.new.self old.ops.items c.feed.new.ops.items c.args.piece.now c.feed.result c.self.invariant c.feed.ensures.grown c.feed.ensures.outcome

pub returns : goal.returns
returns c =
    let old = c.self.inside in
    let now = c.feed.new.self in
    record {
      outcome = subst (λ (s : List ℕ). IsFeedOutcome s c.args.piece.now (bytes_of now.position c.feed.new.ops.items now.kept) c.feed.result) c.self.view_is
          (fed_outcome old.stream now old.ops.items c.feed.new.ops.items c.args.piece.now c.feed.result c.self.invariant c.feed.ensures.grown c.feed.ensures.outcome);
    }
