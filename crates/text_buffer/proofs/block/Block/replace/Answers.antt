-- What stays and what comes have the sums of all then.
use Rattle.std.proofs.Common.{◌-◌, ◌++◌, length, take, drop, ap, arith}
use Rattle.std.proofs.lemmas.List.{length-append}
use Rattle.std.specs.List.{concat}
use Rattle.text_buffer.specs.Buffers.{bytes_in}
use Rattle.text_buffer.specs.Pieces.{points_in, kept_count}
use Rattle.text_buffer.proofs.Sums.{bytes-both, places-both, bytes-between, places-between, places-few, kept-both, kept-between, kept-few}
use Rattle.text_buffer.proofs.block.Block.replace.Goals as goal

pub sum_up-gone-requires : goal.sum_up-gone-requires
sum_up-gone-requires g c =
    let e = ap (λ ps. bytes_in (concat (points_in (take (c.args.to - c.args.from) (drop c.args.from ps))))) c.deref.ensures.value in
    record { few = omega (arith, e, bytes-between c.args.self.now.pieces.items c.args.from c.args.to c.requires.order, c.requires.few) }

pub overflow_sub-self : goal.overflow_sub-self
overflow_sub-self g c =
    let e = ap (λ ps. bytes_in (concat (points_in (take (c.args.to - c.args.from) (drop c.args.from ps))))) c.deref.ensures.value in
    omega (arith, e, bytes-between c.args.self.now.pieces.items c.args.from c.args.to c.requires.order, c.sum_up-gone.ensures.bytes, c.args.self.now.bytes_is)

pub overflow_sub-self-2 : goal.overflow_sub-self-2
overflow_sub-self-2 g c =
    let e = ap (λ ps. length (concat (points_in (take (c.args.to - c.args.from) (drop c.args.from ps))))) c.deref.ensures.value in
    omega (arith, e, places-between c.args.self.now.pieces.items c.args.from c.args.to c.requires.order, c.sum_up-gone.ensures.places, c.args.self.now.places_is)

pub overflow_add-self-2 : goal.overflow_add-self-2
overflow_add-self-2 g c =
    let come = ap (λ ps. length (concat (points_in ps))) c.deref-2.ensures.value in
    omega (arith, come, c.sum_up-come.ensures.places, c.args.self.now.places_is, places-few (concat (points_in c.args.self.now.pieces.items)), places-few (concat (points_in c.args.pieces.items)), c.requires.few)

pub overflow_sub-self-3 : goal.overflow_sub-self-3
overflow_sub-self-3 g c =
    let e = ap (λ ps. kept_count (take (c.args.to - c.args.from) (drop c.args.from ps))) c.deref.ensures.value in
    omega (arith, e, kept-between c.args.self.now.pieces.items c.args.from c.args.to c.requires.order, c.sum_up-gone.ensures.kept, c.args.self.now.kept_is)

pub overflow_add-self-3 : goal.overflow_add-self-3
overflow_add-self-3 g c =
    let ps = c.args.self.now.pieces.items in
    let qs = c.args.pieces.items in
    let new = c.in_ok-splice.ensures.ok in
    let gone = ap (λ ps. kept_count (take (c.args.to - c.args.from) (drop c.args.from ps))) c.deref.ensures.value in
    let come = ap kept_count c.deref-2.ensures.value in
    omega (
      arith,
      gone,
      come,
      kept-between ps c.args.from c.args.to c.requires.order,
      c.sum_up-gone.ensures.kept,
      c.sum_up-come.ensures.kept,
      c.args.self.now.kept_is,
      ap kept_count new,
      kept-both (take c.args.from ps) (qs ++ drop c.args.to ps),
      kept-both qs (drop c.args.to ps),
      kept-few c.splice.new.row.items,
      c.splice.new.row.ok,
    )

pub invariant_of-self-2 : goal.invariant_of-self-2
invariant_of-self-2 g c =
    let ps = c.args.self.now.pieces.items in
    let qs = c.args.pieces.items in
    let from = c.args.from in
    let to = c.args.to in
    let new = c.in_ok-splice.ensures.ok in
    let gone_bytes = ap (λ ps. bytes_in (concat (points_in (take (c.args.to - c.args.from) (drop c.args.from ps))))) c.deref.ensures.value in
    let gone_places = ap (λ ps. length (concat (points_in (take (c.args.to - c.args.from) (drop c.args.from ps))))) c.deref.ensures.value in
    let come_bytes = ap (λ ps. bytes_in (concat (points_in ps))) c.deref-2.ensures.value in
    let come_places = ap (λ ps. length (concat (points_in ps))) c.deref-2.ensures.value in
    record {
      some = omega (arith, ap length new, length-append (take from ps) (qs ++ drop to ps), length-append qs (drop to ps), c.requires.some, c.args.pieces.ok, c.splice.new.row.ok);
      bytes_is = omega (
        arith,
        gone_bytes,
        come_bytes,
        bytes-between ps from to c.requires.order,
        c.sum_up-gone.ensures.bytes,
        c.sum_up-come.ensures.bytes,
        c.args.self.now.bytes_is,
        ap (λ t. bytes_in (concat (points_in t))) new,
        bytes-both (take from ps) (qs ++ drop to ps),
        bytes-both qs (drop to ps),
      );
      places_is = omega (
        arith,
        gone_places,
        come_places,
        places-between ps from to c.requires.order,
        c.sum_up-gone.ensures.places,
        c.sum_up-come.ensures.places,
        c.args.self.now.places_is,
        ap (λ t. length (concat (points_in t))) new,
        places-both (take from ps) (qs ++ drop to ps),
        places-both qs (drop to ps),
      );
      kept_is = omega (
        arith,
        ap (λ ps. kept_count (take (c.args.to - c.args.from) (drop c.args.from ps))) c.deref.ensures.value,
        ap kept_count c.deref-2.ensures.value,
        kept-between ps from to c.requires.order,
        c.sum_up-gone.ensures.kept,
        c.sum_up-come.ensures.kept,
        c.args.self.now.kept_is,
        ap kept_count new,
        kept-both (take from ps) (qs ++ drop to ps),
        kept-both qs (drop to ps),
      );
    }
