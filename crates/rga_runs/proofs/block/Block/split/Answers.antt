-- The goals of `split` that are answered by hand.
use Rattle.std.proofs.Common.{◌≡◌, ℕ, List, ◌≤◌, ◌+◌, ◌-◌, ◌++◌, ◌∙◌, cond, true, ap, sym, length, take, drop, length-drop, arith}
use Rattle.std.specs.Prelude.{is_ok, vec_len, vec_capacity}
use Rattle.std.proofs.Math.Seq.{paste}
use Rattle.std.specs.List.{sum_by}
use Rattle.std.proofs.lemmas.List.{length-take-le, take_all, take-append-drop}
use Rattle.std.proofs.lemmas.List.Edits.{take-paste}
use Rattle.std.proofs.lemmas.List.Sums.{sum_by-append}
use Rattle.rga_runs.specs.declared.stretch.Stretch.{Stretch}
use Rattle.rga_runs.specs.Stretches.{count_in, visible_in, visible_of}
use Rattle.rga_runs.specs.Blocks.{none_below}
use Rattle.rga_runs.proofs.Sums.{few_counted, few_visible}
use Rattle.rga_runs.proofs.block.Block.split.Goals as goal

-- those that stay and those that move
in_two : (f : Stretch → ℕ) (ss : List Stretch) (cut : ℕ) → sum_by f ss ≡ sum_by f (take cut ss) + sum_by f (drop cut ss)
in_two f ss cut = ap (sum_by f) (sym (take-append-drop cut ss)) ∙ sum_by-append f (take cut ss) (drop cut ss)

pub slice_bounds-extend_from_slice-end : goal.slice_bounds-extend_from_slice-end
slice_bounds-extend_from_slice-end c =
    let d = c.deref.result.now in
    let many : c.args.cut ≤ length d = omega (arith, ap length c.deref.ensures.value, c.requires.full, c.requires.most) in
    sym (length-take-le c.args.cut d many)

pub unwrap-requires : goal.unwrap-requires
unwrap-requires c =
    let d = c.deref.result.now in
    let many : c.args.cut ≤ length d = omega (arith, ap length c.deref.ensures.value, c.requires.full, c.requires.most) in
    c.extend_from_slice.ensures.succeeds (omega (arith, length-take-le c.args.cut d many, c.requires.most, c.args.lower.ok, ap length c.requires.empty, c.requires.room))

pub least_of-self-requires : goal.least_of-self-requires
least_of-self-requires c =
    let d = c.deref.result.now in
    let many : c.args.cut ≤ length d = omega (arith, ap length c.deref.ensures.value, c.requires.full, c.requires.most) in
    let low = take c.args.cut d in
    let none = c.args.lower.items in
    let ok : is_ok c.extend_from_slice.result ≡ true =
    c.extend_from_slice.ensures.succeeds (omega (arith, length-take-le c.args.cut d many, c.requires.most, c.args.lower.ok, ap length c.requires.empty, c.requires.room)) in
    let items : c.extend_from_slice.new.self.items ≡ low =
    c.extend_from_slice.ensures.items ∙ ap (λ b. cond b (none ++ low) none) ok ∙ ap (λ u. u ++ low) c.requires.empty in
    let replaced : length c.replace-upper.new.dest.items ≡ length c.extend_from_slice.new.self.items = λ i. length (c.replace-upper.ensures.after i).items in
    omega (arith, ap length c.deref-5.ensures.value, replaced, ap length items, length-take-le c.args.cut d many, c.requires.some)

pub returns-clause-upper : goal.returns-clause-upper
returns-clause-upper c =
    let e = c.args.self.now.stretches.items in
    let whole : c.replace-upper.result.items ≡ e = λ i. (c.replace-upper.ensures.value i).items in
    let cut = c.args.cut in
    let rest = drop cut e in
    let long : length rest ≡ 256 - cut = length-drop cut e ∙ ap (λ n. n - cut) c.requires.full in
    let moved : vec_len c.replace-upper.result - cut ≡ 256 - cut = ap (λ n. n - cut) (omega (arith, ap length whole, c.replace-upper.result.ok, c.requires.full)) in
    let none : 256 - cut ≡ 0 + (256 - cut) = omega arith in
    c.truncate.ensures.items ∙ ap (take (256 - cut)) (c.copy_within.ensures.items ∙ (λ i. paste (whole i) 0 (drop cut (whole i)) (moved i)))
    ∙ ap (λ n. take n (paste e 0 rest (256 - cut))) none ∙ take-paste e 0 rest (256 - cut) (omega arith) (omega (arith, long)) ∙ take_all (256 - cut) rest (omega (arith, long))

pub count_all-count-requires : goal.count_all-count-requires
count_all-count-requires c = omega (arith, few_counted c.deref-3.result.now, ap length c.deref-3.ensures.value, c.truncate.new.self.ok, c.truncate.ensures.len)

pub count_visible-visible-requires : goal.count_visible-visible-requires
count_visible-visible-requires c = omega (arith, few_visible c.deref-4.result.now, ap length c.deref-4.ensures.value, c.truncate.new.self.ok, c.truncate.ensures.len)

pub overflow_sub-self : goal.overflow_sub-self
overflow_sub-self c =
    let e = c.args.self.now.stretches.items in
    let whole : c.replace-upper.result.items ≡ e = λ i. (c.replace-upper.ensures.value i).items in
    let cut = c.args.cut in
    let rest = drop cut e in
    let long : length rest ≡ 256 - cut = length-drop cut e ∙ ap (λ n. n - cut) c.requires.full in
    let moved : vec_len c.replace-upper.result - cut ≡ 256 - cut = ap (λ n. n - cut) (omega (arith, ap length whole, c.replace-upper.result.ok, c.requires.full)) in
    let none : 256 - cut ≡ 0 + (256 - cut) = omega arith in
    let upper : c.truncate.new.self.items ≡ rest =
    c.truncate.ensures.items ∙ ap (take (256 - cut)) (c.copy_within.ensures.items ∙ (λ i. paste (whole i) 0 (drop cut (whole i)) (moved i)))
    ∙ ap (λ n. take n (paste e 0 rest (256 - cut))) none ∙ take-paste e 0 rest (256 - cut) (omega arith) (omega (arith, long)) ∙ take_all (256 - cut) rest (omega (arith, long)) in
    let was = c.args.self.now.counted in
    omega (arith, was, c.count_all-count.ensures, ap count_in (c.deref-3.ensures.value ∙ upper), in_two (λ (s : Stretch). s.count) e cut)

pub overflow_sub-self-2 : goal.overflow_sub-self-2
overflow_sub-self-2 c =
    let e = c.args.self.now.stretches.items in
    let whole : c.replace-upper.result.items ≡ e = λ i. (c.replace-upper.ensures.value i).items in
    let cut = c.args.cut in
    let rest = drop cut e in
    let long : length rest ≡ 256 - cut = length-drop cut e ∙ ap (λ n. n - cut) c.requires.full in
    let moved : vec_len c.replace-upper.result - cut ≡ 256 - cut = ap (λ n. n - cut) (omega (arith, ap length whole, c.replace-upper.result.ok, c.requires.full)) in
    let none : 256 - cut ≡ 0 + (256 - cut) = omega arith in
    let upper : c.truncate.new.self.items ≡ rest =
    c.truncate.ensures.items ∙ ap (take (256 - cut)) (c.copy_within.ensures.items ∙ (λ i. paste (whole i) 0 (drop cut (whole i)) (moved i)))
    ∙ ap (λ n. take n (paste e 0 rest (256 - cut))) none ∙ take-paste e 0 rest (256 - cut) (omega arith) (omega (arith, long)) ∙ take_all (256 - cut) rest (omega (arith, long)) in
    let was = c.args.self.now.visible_are in
    omega (arith, was, c.count_visible-visible.ensures, ap visible_in (c.deref-4.ensures.value ∙ upper), in_two visible_of e cut)

pub invariant_of-self : goal.invariant_of-self
invariant_of-self c =
    let e = c.args.self.now.stretches.items in
    let whole : c.replace-upper.result.items ≡ e = λ i. (c.replace-upper.ensures.value i).items in
    let cut = c.args.cut in
    let rest = drop cut e in
    let long : length rest ≡ 256 - cut = length-drop cut e ∙ ap (λ n. n - cut) c.requires.full in
    let moved : vec_len c.replace-upper.result - cut ≡ 256 - cut = ap (λ n. n - cut) (omega (arith, ap length whole, c.replace-upper.result.ok, c.requires.full)) in
    let none : 256 - cut ≡ 0 + (256 - cut) = omega arith in
    let upper : c.truncate.new.self.items ≡ rest =
    c.truncate.ensures.items ∙ ap (take (256 - cut)) (c.copy_within.ensures.items ∙ (λ i. paste (whole i) 0 (drop cut (whole i)) (moved i)))
    ∙ ap (λ n. take n (paste e 0 rest (256 - cut))) none ∙ take-paste e 0 rest (256 - cut) (omega arith) (omega (arith, long)) ∙ take_all (256 - cut) rest (omega (arith, long)) in
    let d = c.deref.result.now in
    let many : c.args.cut ≤ length d = omega (arith, ap length c.deref.ensures.value, c.requires.full, c.requires.most) in
    let low = take c.args.cut d in
    let none_yet = c.args.lower.items in
    let new = c.replace-upper.new.dest in
    let ok : is_ok c.extend_from_slice.result ≡ true =
    c.extend_from_slice.ensures.succeeds (omega (arith, length-take-le c.args.cut d many, c.requires.most, c.args.lower.ok, ap length c.requires.empty, c.requires.room)) in
    let items : c.extend_from_slice.new.self.items ≡ low =
    c.extend_from_slice.ensures.items ∙ ap (λ b. cond b (none_yet ++ low) none_yet) ok ∙ ap (λ u. u ++ low) c.requires.empty in
    let replaced : length new.items ≡ length c.extend_from_slice.new.self.items = λ i. length (c.replace-upper.ensures.after i).items in
    let few : vec_len new ≤ 256 = omega (arith, new.ok, replaced, ap length items, length-take-le c.args.cut d many, c.requires.most) in
    let room_is : vec_capacity new ≡ vec_capacity c.extend_from_slice.new.self = λ i. vec_capacity (c.replace-upper.ensures.after i) in
    let room : 256 ≤ vec_capacity new = omega (arith, room_is, c.extend_from_slice.ensures.capacity, c.requires.room) in
    let stay : new.items ≡ take cut e = (λ i. (c.replace-upper.ensures.after i).items) ∙ items ∙ ap (take cut) c.deref.ensures.value in
    let was = c.args.self.now.counted in
    let was_visible = c.args.self.now.visible_are in
    record {
      some = omega (arith, new.ok, replaced, ap length items, length-take-le c.args.cut d many, c.requires.some);
      few = few;
      room = room;
      counted = omega (arith, was, c.count_all-count.ensures, ap count_in (c.deref-3.ensures.value ∙ upper), in_two (λ (s : Stretch). s.count) e cut, ap count_in stay);
      visible_are = omega (arith, was_visible, c.count_visible-visible.ensures, ap visible_in (c.deref-4.ensures.value ∙ upper), in_two visible_of e cut, ap visible_in stay);
      low = (λ i. none_below c.least_of-self.result (sym c.deref-5.ensures.value i)) ∙ c.least_of-self.ensures;
    }
