-- The goals of `cmp` that are answered by hand.
use Rattle.bg_types.proofs.id.IdOrd.cmp.Goals as goal

pub returns : goal.returns
returns c =
    rw (c.then.ensures, c.cmp-counters.ensures, c.cmp-sites.ensures, c.counter.ensures.value, c.counter-2.ensures.value, c.site.ensures.value, c.site-2.ensures.value)
