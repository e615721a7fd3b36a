-- The goals of `walk_into` that are answered by hand.
use Rattle.std.proofs.Common.{arith, ◌≡◌, ◌<◌, ◌++◌, ◌+◌, ◌-◌, ◌∷◌, [], ap, sym, ◌∙◌, subst, append_assoc, length, get_or, All}
use Rattle.std.proofs.lemmas.List.Elements.{All-head, All-tail}
use Rattle.reorder.specs.Links.{walk}
use Rattle.reorder.proofs.Linked.{walk-more}
use Rattle.reorder.proofs.links.walk_into.Goals as goal

pub loop-init : goal.loop-init
loop-init c =
    let links = c.args.links.now in
    let all : length c.args.links.now ≡ length c.args.links.now - 0 = omega arith in
    record {
      walked = ap (λ xs. xs ++ walk (length links - 0) links c.args.first) c.clear.ensures.items ∙ sym (ap (λ n. walk n links c.args.first) all);
      within = subst (λ n. All (λ at. at < length links) (walk n links c.args.first)) all c.requires;
    }

pub bounds-links-at : goal.bounds-links-at
bounds-links-at c =
    let links = c.args.links.now in
    All-head (λ at. at < length links) c.loop.at (walk (length links - (c.loop.counter + 1)) links (get_or links c.loop.at 0))
    (subst (All (λ at. at < length links)) (walk-more (length links) c.loop.counter links c.loop.at c.loop-test.true) c.loop.invariant.within)

pub loop-preserved : goal.loop-preserved
loop-preserved c =
    let links = c.args.links.now in
    let rest = walk (length links - (c.loop.counter + 1)) links (get_or links c.loop.at 0) in
    let more = walk-more (length links) c.loop.counter links c.loop.at c.loop-test.true in
    record {
      walked = ap (λ xs. xs ++ rest) c.in_ok-push.ensures.items
          ∙ append_assoc c.loop.order.items (c.loop.at ∷ []) rest
          ∙ ap (λ xs. c.loop.order.items ++ xs) (sym more) ∙ c.loop.invariant.walked;
      within = All-tail (λ at. at < length links) c.loop.at rest
          (subst (All (λ at. at < length links)) more c.loop.invariant.within);
    }
