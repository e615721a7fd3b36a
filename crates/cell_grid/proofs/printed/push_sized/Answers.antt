-- One cluster after the other, from the last.
use Rattle.std.proofs.Common.{◌≡◌, ◌<◌, ◌≤◌, ◌+◌, ◌-◌, ◌*◌, ◌++◌, ℕ, List, length, take, flat_map, slice_range, refl, sym, ap, subst, ◌∙◌, arith, append_assoc, append-nil}
use Rattle.std.specs.Str.{IsCharBoundary}
use Rattle.cell_grid.specs.declared.entry.Entry.{Entry}
use Rattle.cell_grid.specs.Print.{slice_of}
use Rattle.cell_grid.specs.Runs.{run_span, byte_count, span_after, cluster_count, cluster_from_left, run_entry, run_entries}
use Rattle.cell_grid.proofs.RunEntries.{length-run_entries}
use Rattle.cell_grid.proofs.RunPrinting.{entry-within, entry-read, ends-next, left-is, start-odd, end-odd, start-next, within-odd, slice-odd}
use Rattle.cell_grid.proofs.Steps.{take-whole, flat_map-take_next}
use Rattle.cell_grid.proofs.printed.push_sized.Goals as goal

pub loop-init : goal.loop-init
loop-init c =
    let r = c.args.run in
    let last = c.end_byte-end.ensures in
    let same = ends-next c.args.text.now r c.requires.run r.span.further in
    let all : cluster_count c.args.run - 0 ≡ cluster_count c.args.run = omega arith in
    record {
      end = last ∙ same ∙ ap (λ k. (run_span r).first_byte + k * byte_count (run_span r)) (sym all);
      so_far = sym (append-nil c.args.held.now.bytes);
      room = subst (λ k. length c.args.held.now.bytes + k * byte_count (run_span r) ≤ 256) (sym all) (subst (λ k. length c.args.held.now.bytes + cluster_count r * k ≤ 256) c.requires.bytes c.requires.room);
    }

pub overflow_sub-start : goal.overflow_sub-start
overflow_sub-start c =
    let n = c.loop.counter in
    let count = c.count-count.ensures.number in
    let lt : c.loop.counter < cluster_count c.args.run = omega arith in
    let within = within-odd c.args.text.now c.args.run c.requires.run c.requires.odd n c.loop.end lt c.loop.invariant.end in
    let size = c.requires.bytes in
    omega arith

pub range-cluster-requires-clause-start_boundary : goal.range-cluster-requires-clause-start_boundary
range-cluster-requires-clause-start_boundary c = λ _.
    let text = c.args.text.now in
    let r = c.args.run in
    let n = c.loop.counter in
    let count = c.count-count.ensures.number in
    let lt : c.loop.counter < cluster_count c.args.run = omega arith in
    subst (IsCharBoundary text) (sym (ap (λ k. c.loop.end - k) c.requires.bytes ∙ start-odd text r c.requires.run c.requires.odd n c.loop.end lt c.loop.invariant.end))
    (slice-odd text r c.requires.run c.requires.odd n c.loop.end lt c.loop.invariant.end).start

pub range-cluster-requires-clause-end_boundary : goal.range-cluster-requires-clause-end_boundary
range-cluster-requires-clause-end_boundary c =
    let text = c.args.text.now in
    let r = c.args.run in
    let n = c.loop.counter in
    let count = c.count-count.ensures.number in
    let lt : c.loop.counter < cluster_count c.args.run = omega arith in
    let within = within-odd text r c.requires.run c.requires.odd n c.loop.end lt c.loop.invariant.end in
    let size = c.requires.bytes in
    let stop : c.loop.end - c.args.bytes + c.args.bytes ≡ c.loop.end = omega arith in
    subst (IsCharBoundary text) (sym (stop ∙ end-odd text r c.requires.run c.requires.odd n c.loop.end lt c.loop.invariant.end))
    (slice-odd text r c.requires.run c.requires.odd n c.loop.end lt c.loop.invariant.end).end

pub push_str-requires : goal.push_str-requires
push_str-requires c =
    let n = c.loop.counter in
    let count = c.count-count.ensures.number in
    let lt : c.loop.counter < cluster_count c.args.run = omega arith in
    let left = left-is c.args.text.now c.args.run c.requires.run c.requires.odd n c.loop.end lt c.loop.invariant.end in
    let own = c.requires.bytes in
    let len = c.range-cluster.ensures.len in
    let room = c.loop.invariant.room in
    (omega arith, omega (arith, left, own, len, room))

pub loop-preserved : goal.loop-preserved
loop-preserved c =
    let text = c.args.text.now in
    let r = c.args.run in
    let n = c.loop.counter in
    let count = c.count-count.ensures.number in
    let lt : c.loop.counter < cluster_count c.args.run = omega arith in
    let f : Entry → List ℕ = λ e. slice_of c.args.text.now e.span in
    let e = run_entry 0 r n in
    let before = c.args.held.now.bytes in
    let done = flat_map f (take n (run_entries 0 r)) in
    let size = ap (λ k. c.loop.end - k) c.requires.bytes in
    let start = size ∙ start-odd text r c.requires.run c.requires.odd n c.loop.end lt c.loop.invariant.end in
    let within = within-odd text r c.requires.run c.requires.odd n c.loop.end lt c.loop.invariant.end in
    let own = c.requires.bytes in
    let stop : c.loop.end - c.args.bytes + c.args.bytes ≡ c.loop.end = omega arith in
    let end = stop ∙ end-odd text r c.requires.run c.requires.odd n c.loop.end lt c.loop.invariant.end in
    let bytes = c.range-cluster.ensures.value ∙ ap (λ k. slice_range text k (c.loop.end - c.args.bytes + c.args.bytes)) start ∙ ap (slice_range text (span_after (cluster_from_left r n) (run_span r)).first_byte) end in
    record {
      end = size ∙ start-next text r c.requires.run c.requires.odd n c.loop.end lt c.loop.invariant.end;
      so_far =
          c.push_str.ensures.bytes ∙ ap (λ t. t ++ c.range-cluster.result.now) c.loop.invariant.so_far
          ∙ append_assoc before done c.range-cluster.result.now
          ∙ ap (λ t. before ++ (done ++ t)) bytes
          ∙ sym (ap (λ t. before ++ t) (flat_map-take_next f (run_entries 0 r) n e e (entry-within text r n lt) (entry-read text r n e e lt refl)));
      room =
          let left = left-is text r c.requires.run c.requires.odd n c.loop.end lt c.loop.invariant.end in
          let e : cluster_count r - (n + 1) ≡ r.span.further - n = omega arith in
          let later = ap (λ k. k * byte_count (run_span r)) e in
          let len = c.range-cluster.ensures.len in
          let longer = c.push_str.ensures.len in
          let room = c.loop.invariant.room in
          omega (arith, left, own, later, len, longer, room);
    }

pub returns : goal.returns
returns c =
    let r = c.args.run in
    let f : Entry → List ℕ = λ e. slice_of c.args.text.now e.span in
    let count = c.count-count.ensures.number in
    let len = length-run_entries 0 r in
    let all : length (run_entries 0 r) ≤ c.loop.counter = omega arith in
    c.loop.invariant.so_far ∙ ap (λ l. c.args.held.now.bytes ++ flat_map f l) (take-whole (run_entries 0 r) c.loop.counter all)
