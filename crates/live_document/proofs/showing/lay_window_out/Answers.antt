-- What was reached has the window.
use Rattle.std.proofs.Common.{◌≡◌, ◌⊎◌, ◌+◌, ◌*◌, ◌-◌, ◌<◌, ◌≤◌, inl, inr, ℕ, true, [], refl, not, drop, length, get_or, count_by, slice_range, sym, ap, subst, ◌∙◌, arith}
use Rattle.std.proofs.lemmas.Bool.{cases_lt}
use Rattle.std.proofs.lemmas.Nat.{mul-le}
use Rattle.std.proofs.lemmas.Option.{slice_get-get_or}
use Rattle.std.proofs.lemmas.List.Elements.{All-take, All-drop}
use Rattle.std.specs.List.{concat}
use Rattle.std.specs.Prelude.{encode_utf8_all}
use Rattle.std.specs.Str.{IsUtf8}
use Rattle.paragraphs.specs.Paragraphs.{Paragraph, paragraphs}
use Rattle.cell_grid.specs.Grids.{grid_rows}
use Rattle.cell_grid.specs.Windows.{window_of}
use Rattle.text_buffer.specs.Buffers.{KeptParagraph, bytes_in, paragraphs_in, text_in, IsSplit}
use Rattle.text_buffer.specs.Edits.{IsParagraphOf}
use Rattle.live_document.specs.Cost.{allowed, top_of, bottom_of, HasRow}
use Rattle.live_document.specs.Keeping.{Rows, flags, is_kept, weight_held, held_outside, rows_of_texts, rows_weight, IsKeptAt, IsLaid}
use Rattle.live_document.specs.Showing.{window_in, IsRowOf}
use Rattle.live_document.proofs.Marks.{marked-whole, laid-whole, weight-whole, set-apart}
use Rattle.live_document.proofs.Needed.{own-needed, up-needed, down-needed}
use Rattle.live_document.proofs.Forgotten.{held-most}
use Rattle.live_document.proofs.Placing.{slice-map}
use Rattle.live_document.proofs.Staying.{kept-stays}
use Rattle.live_document.proofs.Stretches.{count-texts, count-flags}
use Rattle.live_document.proofs.Windows.{count-paras, bottom-has, top-has, window-cut}
use Rattle.live_document.proofs.showing.lay_window_out.Goals as goal

pub overflow_add-own : goal.overflow_add-own
overflow_add-own c = let n = count-texts c.args.buffer.now in omega (arith, n, c.in_ok-own.ensures.number.there, c.paragraph_count-count.ensures, c.paragraph_count-count.type_inv)

pub forget_others-held-requires-clause-weight : goal.forget_others-held-requires-clause-weight
forget_others-held-requires-clause-weight c =
    let T = c.args.tables.now in
    let w = c.args.width in
    let base = c.args.base in
    let oe = c.in_ok-own.ensures in
    let ue = c.in_ok-up.ensures in
    let de = c.in_ok-down.ensures in
    let b0 = c.args.buffer.now in
    let b3 = c.reach_down.new.buffer in
    let texts = paragraphs_in b0 in
    let e02 = ue.paragraphs ∙ oe.paragraphs in
    let e03 = de.paragraphs ∙ e02 in
    let n0 = count-texts b0 in
    let f = c.in_ok-up.up.number in
    let e = c.in_ok-down.down.number in
    let most = held-most T w base (slice_range b3 f e) (All-take (IsLaid T w base) (e - f) (drop f b3) (All-drop (IsLaid T w base) f b3 de.kept.laid)) in
    let same = ap (λ ts. rows_weight (rows_of_texts T w base ts)) (sym (slice-map (λ (p : KeptParagraph Rows). p.points) b3 f e)) in
    let old = ap (λ ts. rows_weight (rows_of_texts T w base (slice_range ts f e))) e03 in
    let whole = weight-whole T w base texts f c.in_ok-own.own.number e ue.order (omega (arith, de.order)) (omega (arith, n0, oe.number.there)) in
    let ups = ue.weight ∙ ap (λ ts. rows_weight (rows_of_texts T w base (slice_range ts f c.in_ok-own.own.number))) oe.paragraphs in
    let downs = de.weight ∙ ap (λ ts. rows_weight (rows_of_texts T w base (slice_range ts (c.in_ok-own.own.number + 1) e))) e02 in
    omega (arith, most, same, old, whole, ups, downs, oe.weight)

pub forget_others-held-requires-clause-few : goal.forget_others-held-requires-clause-few
forget_others-held-requires-clause-few c =
    let oe = c.in_ok-own.ensures in
    let ue = c.in_ok-up.ensures in
    let de = c.in_ok-down.ensures in
    omega (arith, c.requires.held_few, oe.few, oe.most, oe.made, ue.few, ue.most, ue.made, de.few, de.most, de.made)

pub overflow_mul-rows : goal.overflow_mul-rows
overflow_mul-rows c =
    let rows : c.max-rows.result ≤ 1_000_000 = omega (arith, c.requires.most, c.max.ensures, c.max-rows.ensures, c.cut_out-shown.ensures.count) in
    omega (arith, mul-le c.max-rows.result (48 + 20 * c.from.result) 1_000_000 10_048 rows (omega (arith, c.from.ensures, c.requires.kept.at_most)))

pub returns : goal.returns
returns c =
    let T = c.args.tables.now in
    let w = c.args.width in
    let base = c.args.base in
    let place = c.args.place in
    let above = c.args.above in
    let below = c.args.below in
    let own = c.in_ok-own.own in
    let up = c.in_ok-up.up in
    let down = c.in_ok-down.down in
    let oe = c.in_ok-own.ensures in
    let ue = c.in_ok-up.ensures in
    let de = c.in_ok-down.ensures in
    let b0 = c.args.buffer.now in
    let b1 = c.own_row.new.buffer in
    let b2 = c.reach_up.new.buffer in
    let b3 = c.reach_down.new.buffer in
    let fe = c.forget_others-held.ensures in
    let b4 = c.forget_others-held.new.buffer in
    let e01 = oe.paragraphs in
    let e02 = ue.paragraphs ∙ e01 in
    let e03 = de.paragraphs ∙ e02 in
    let n0 = count-texts b0 in
    let n1 = count-texts b1 in
    let n2 = count-texts b2 in
    let n3 = count-texts b3 in
    let e04 = fe.paragraphs ∙ e03 in
    let n4 = count-texts b4 in
    let l4 = ap length e04 in
    let at : IsKeptAt T w base b4 = record { at_least = de.kept.at_least; at_most = de.kept.at_most; split = subst (IsSplit T) (sym fe.paragraphs) de.kept.split; laid = fe.laid T w base de.kept.laid } in
    let l1 = ap length e01 in
    let l2 = ap length e02 in
    let l3 = ap length e03 in
    let f0 = count-flags b0 in
    let there = oe.number.there in
    let b = c.bytes-bytes.ensures in
    let utf8 = subst (λ ts. IsUtf8 (encode_utf8_all (concat ts))) (sym e04) b.utf8 in
    let few : bytes_in (text_in b4) ≤ 4_000_000 = omega (arith, b.bytes, b.few, ap (λ ts. bytes_in (concat ts)) e04) in
    let whole = marked-whole (flags b0) (flags b1) (flags b2) (flags b3) up.number own.number down.number (omega arith) ue.order (omega (arith, de.order)) oe.marks ue.marked de.marked in
    let inside : (k : ℕ) → up.number ≤ k → k < down.number → is_kept (flags b4) k ≡ true = λ k from to. fe.inside k from to ∙ whole.inside k from to in
    let d : Paragraph = record { text = []; first_byte = 0; first_place = 0 } in
    let paras = paragraphs T (encode_utf8_all (text_in b4)) in
    let many = count-paras c.laws_below.ensures T w base b4 at utf8 few in
    let is = slice_get-get_or paras own.number d (omega arith) in
    let stands = subst (λ ts. IsParagraphOf ts place own.number) (sym e04) oe.number in
    let has = subst (λ ts. IsRowOf T w base ts place own.number own.row own.rows) (sym e04) oe.row in
    let ups = ue.rows ∙ ap (λ ts. length (rows_of_texts T w base (slice_range ts up.number own.number))) (e01 ∙ sym e04) in
    let downs = de.rows ∙ ap (λ ts. length (rows_of_texts T w base (slice_range ts (own.number + 1) down.number))) (e02 ∙ sym e04) in
    let cut = window-cut c.laws_below.ensures T w base b4 at utf8 few place above below own.number up.number down.number own.row own.rows up.rows down.rows
    (get_or paras own.number d) is stands ue.order (omega (arith, de.order)) (omega (arith, de.within)) has ups downs
    (elim ue.enough [ inl s ↦ inl (omega (arith, s, c.saturating_sub-wanted_up.ensures)) | inr n ↦ inr n ])
    (elim de.enough [ inl s ↦ inl (omega (arith, s, c.saturating_sub-wanted_down.ensures)) | inr n ↦ inr (omega (arith, n)) ])
    inside c.cut_out-shown.result c.cut_out-shown.ensures.first c.cut_out-shown.ensures.skip c.cut_out-shown.ensures.count c.cut_out-shown.ensures.number in
    let top = top-has c.laws_below.ensures T w base b4 at utf8 few place above below own.number up.number down.number own.row own.rows up.rows down.rows
    (get_or paras own.number d) is stands ue.order (omega (arith, de.order)) (omega (arith, de.within)) has ups downs
    (elim ue.enough [ inl s ↦ inl (omega (arith, s, c.saturating_sub-wanted_up.ensures)) | inr n ↦ inr n ])
    (elim de.enough [ inl s ↦ inl (omega (arith, s, c.saturating_sub-wanted_down.ensures)) | inr n ↦ inr (omega (arith, n)) ])
    (λ h. let same = ap (λ ts. length (rows_of_texts T w base (slice_range ts (up.number + 1) own.number))) (e01 ∙ sym e04) in
    let n = ue.needed h in omega (arith, n, same, c.saturating_sub-wanted_up.ensures)) in
    let bottom = bottom-has c.laws_below.ensures T w base b4 at utf8 few place above below own.number up.number down.number own.row own.rows up.rows down.rows
    (get_or paras own.number d) is stands ue.order (omega (arith, de.order)) (omega (arith, de.within)) has ups downs
    (elim ue.enough [ inl s ↦ inl (omega (arith, s, c.saturating_sub-wanted_up.ensures)) | inr n ↦ inr n ])
    (elim de.enough [ inl s ↦ inl (omega (arith, s, c.saturating_sub-wanted_down.ensures)) | inr n ↦ inr (omega (arith, n)) ])
    (λ h. let same = ap (λ ts. length (rows_of_texts T w base (slice_range ts (own.number + 1) (down.number - 1)))) (e02 ∙ sym e04) in
    let n = de.needed h in omega (arith, n, same, c.saturating_sub-wanted_down.ensures)) in
    let shown = c.cut_out-shown.result in
    let rows : c.max-rows.result ≤ 1_000_000 = omega (arith, c.requires.most, c.max.ensures, c.max-rows.ensures, c.cut_out-shown.ensures.count) in
    let wide = mul-le c.max-rows.result (48 + 20 * w) 1_000_000 10_048 rows (omega (arith, at.at_most)) in
    let broad = ap (λ n. c.max-rows.result * (48 + 20 * n)) c.from.ensures in
    let most : c.max-rows.result * (48 + 20 * c.from.result) ≡ allowed c.args.most w shown.count =
    broad ∙ ap (λ n. n * (48 + 20 * w)) (omega (arith, c.max.ensures, c.max-rows.ensures)) in
    record {
      kept = at;
      paragraphs = e04;
      window = subst (λ ts. window_in b4 shown ≡ window_of above below place (grid_rows T w base (encode_utf8_all (concat ts)))) e04 cut.0;
      at_hand = record {
        there = omega (arith, c.cut_out-shown.ensures.first, ue.order, there, n0, n4, l4);
        enough = cut.1;
        few = omega (arith, c.cut_out-shown.ensures.skip, c.cut_out-shown.ensures.count, oe.row.within, oe.few, ue.few, de.few);
      };
      order = omega (arith, c.cut_out-shown.ensures.first, ue.order, de.order);
      top =
          subst (λ n. HasRow T w base (paragraphs_in b0) n (top_of place above (grid_rows T w base (encode_utf8_all (text_in b0))))) (sym c.cut_out-shown.ensures.first)
          (subst (λ ts. HasRow T w base ts up.number (top_of place above (grid_rows T w base (encode_utf8_all (concat ts))))) e04 top);
      bottom = subst (λ ts. HasRow T w base ts (down.number - 1) (bottom_of place below (grid_rows T w base (encode_utf8_all (concat ts))))) e04 bottom;
      marked = λ k from to. inside k (omega (arith, from, c.cut_out-shown.ensures.first)) to;
      stays =
          subst (λ (n : ℕ). held_outside b0 n down.number + weight_held (slice_range b4 n down.number) ≤ allowed c.args.most w shown.count → (k : ℕ) → is_kept (flags b0) k ≡ true → is_kept (flags b4) k ≡ true)
          (sym c.cut_out-shown.ensures.first)
          (kept-stays T w base b0 b3 b4 up.number down.number (allowed c.args.most w shown.count) (omega (arith, ue.order, de.order)) (omega (arith, n0, n3, l3, de.within, e01, e02))
          e03 fe.paragraphs whole fe.inside (λ few. fe.stays (subst (λ (n : ℕ). weight_held b3 ≤ n) (sym most) few)) c.requires.kept.laid de.kept.laid at.laid);
      no_more = λ k there. elim (cases_lt k up.number) [
        | inl above ↦ inl (sym (whole.outside k (inl above)) ∙ fe.no_more k there)
        | inr low ↦ (elim (cases_lt k down.number) [
          | inl high ↦ inr (omega (arith, low, c.cut_out-shown.ensures.first), high)
          | inr past ↦ inl (sym (whole.outside k (inr past)) ∙ fe.no_more k there)
        ])
      ];
      bounded = subst (λ (n : ℕ). (weight_held b4 ≤ allowed c.args.most w shown.count) ⊎ ((k : ℕ) → is_kept (flags b4) k ≡ true → (n ≤ k) × (k < down.number))) (sym c.cut_out-shown.ensures.first)
          (elim fe.bounded [ inl some ↦ inl (subst (λ (n : ℕ). weight_held b4 ≤ n) most some) | inr none ↦ inr none ]);
      held = fe.held;
      few = omega (arith, fe.few, ue.few, ue.most, oe.few, oe.most, de.few, de.most, rows, wide, broad);
      laid =
          laid-whole (flags b0) (flags b1) (flags b2) (flags b3) up.number own.number down.number (omega arith) ue.order (omega (arith, de.order)) oe.marks ue.marked de.marked
          own.laid up.laid down.laid (omega (arith, de.within)) oe.laid ue.laid de.laid
          ∙ ap (λ n. count_by not (slice_range (flags b0) n down.number)) (sym c.cut_out-shown.ensures.first);
      enough = λ h. refl;
    }

pub returns-in_err-own-clause-enough : goal.returns-in_err-own-clause-enough
returns-in_err-own-clause-enough c = λ h.
    let b = c.bytes-bytes.ensures in
    let r = c.in_err-own.ensures.refused in
    let needed = own-needed c.laws_below.ensures c.args.tables.now c.args.width c.args.base c.args.buffer.now c.requires.kept b.utf8 (omega (arith, b.bytes, b.few)) c.args.place r.0 r.1
    c.args.above c.args.below h.first h.last h.top_in h.bottom_in in
    let there = h.kept r.0 needed.0 needed.1 in
    let none = r.2 in
    cc

pub returns-in_err-up-clause-enough : goal.returns-in_err-up-clause-enough
returns-in_err-up-clause-enough c = λ h.
    let b = c.bytes-bytes.ensures in
    let own = c.in_ok-own.own in
    let oe = c.in_ok-own.ensures in
    let b0 = c.args.buffer.now in
    let r = c.in_err-up.ensures.refused in
    let rows = ap (λ ts. length (rows_of_texts c.args.tables.now c.args.width c.args.base (slice_range ts (r.0 + 1) own.number))) oe.paragraphs in
    let needed = up-needed c.laws_below.ensures c.args.tables.now c.args.width c.args.base b0 c.requires.kept b.utf8 (omega (arith, b.bytes, b.few)) c.args.place own.number oe.number
    c.args.above c.args.below h.first h.last h.top_in h.bottom_in own.row own.rows r.0 oe.row r.1 (omega (arith, rows, r.3, c.saturating_sub-wanted_up.ensures)) in
    let there = h.kept r.0 needed.0 needed.1 in
    let none = sym (set-apart (flags b0) (flags c.own_row.new.buffer) own.number r.0 oe.marks (inl r.1)) ∙ r.2 in
    cc

pub returns-in_err-down-clause-enough : goal.returns-in_err-down-clause-enough
returns-in_err-down-clause-enough c = λ h.
    let b = c.bytes-bytes.ensures in
    let own = c.in_ok-own.own in
    let oe = c.in_ok-own.ensures in
    let ue = c.in_ok-up.ensures in
    let b0 = c.args.buffer.now in
    let b1 = c.own_row.new.buffer in
    let b2 = c.reach_up.new.buffer in
    let r = c.in_err-down.ensures.refused in
    let texts = ue.paragraphs ∙ oe.paragraphs in
    let n0 = count-texts b0 in
    let n2 = count-texts b2 in
    let rows = ap (λ ts. length (rows_of_texts c.args.tables.now c.args.width c.args.base (slice_range ts (own.number + 1) r.0))) texts in
    let needed = down-needed c.laws_below.ensures c.args.tables.now c.args.width c.args.base b0 c.requires.kept b.utf8 (omega (arith, b.bytes, b.few)) c.args.place own.number oe.number
    c.args.above c.args.below h.first h.last h.top_in h.bottom_in own.row own.rows r.0 oe.row r.1 (omega (arith, r.2, ap length texts, n0, n2)) (omega (arith, rows, r.4, c.saturating_sub-wanted_down.ensures)) in
    let there = h.kept r.0 needed.0 needed.1 in
    let none = sym (ue.marked.outside r.0 (inr (omega (arith, r.1))) ∙ set-apart (flags b0) (flags b1) own.number r.0 oe.marks (inr (omega (arith, r.1)))) ∙ r.3 in
    cc
