-- The goals of `list_row` that are answered by hand.
use Rattle.std.proofs.Common.{◌≡◌, ◌+◌, ◌++◌, ◌∷◌, [], length, take, drop, ◌∙◌, sym, ap, arith}
use Rattle.std.specs.Prelude.{map as each, vec_len, vec_capacity}
use Rattle.std.proofs.lemmas.List.{drop_more}
use Rattle.bg_types.specs.declared.op.OpView.TheVariants.{Erase}
use Rattle.rga_tree.specs.Row.{shown_ids}
use Rattle.desk_replica.proofs.Ranges.{passed_one, one_fewer, listed_one}
use Rattle.desk_replica.proofs.stretching.list_row.Goals.{then-not-e, else-not-e}
use Rattle.desk_replica.proofs.stretching.list_row.Goals as goal

pub loop-e-preserved : goal.loop-e-preserved
loop-e-preserved c =
    let row = c.args.row.now in
    let i = c.loop-e.e-index in
    let e = c.e-item.result in
    let now = c.loop-e.invariant in
    let at : drop i row ≡ e ∷ drop (i + 1) row = drop_more row i e c.loop-e-test.true ∙ ap (λ x. x ∷ drop (i + 1) row) (sym c.e-item.is) in
    let some = c.if-left-eq0.false in
    elim c.if-not-e.branch [
      | then-not-e w ↦ let pushed = w.push_reserved.ensures in
          let less : c.if-not-e.left + 1 ≡ c.loop-e.left = omega (arith, w.left-is, some) in
          record {
            made = ap (λ m. m.items ++ each Erase (take c.if-not-e.left (shown_ids (drop (i + 1) row)))) w.made-is
                ∙ listed_one row i e at c.loop-e.made.items w.push_reserved.new.self.items c.loop-e.left c.if-not-e.left w.if-not-e.true (pushed.items ∙ ap (λ o. c.loop-e.made.items ++ o ∷ []) w.erase.ensures.value) less
                ∙ now.made;
            left = omega (arith, one_fewer row i e at w.if-not-e.true, less, now.left);
            len = omega (arith, ap vec_len w.made-is, pushed.len, less, now.len);
            capacity = ap vec_capacity w.made-is ∙ pushed.capacity ∙ now.capacity;
          }
      | else-not-e w ↦ let same = passed_one row i e at w.if-not-e.false in
          record {
            made = (λ j. (w.made-is j).items ++ each Erase (take (w.left-is j) (shown_ids (drop (i + 1) row)))) ∙ ap (λ l. c.loop-e.made.items ++ each Erase (take c.loop-e.left l)) (sym same) ∙ now.made;
            left = omega (arith, ap length same, w.left-is, now.left);
            len = omega (arith, ap vec_len w.made-is, w.left-is, now.len);
            capacity = ap vec_capacity w.made-is ∙ now.capacity;
          }
    ]
