-- What is laid out is kept beside the paragraphs of the desk's text.
use Rattle.std.proofs.Common.{◌≡◌, inl, inr, ℕ, false, List, length, map, arith, refl, ap, ap₂, sym, subst, ◌∙◌}
use Rattle.std.specs.List.{concat}
use Rattle.paragraphs.specs.Paragraphs.{paragraph_points}
use Rattle.rga_tree.specs.TextOf.{text}
use Rattle.text_buffer.specs.Buffers.{paragraphs_in}
use Rattle.unicode_tables.specs.Tables.{TableValues}
use Rattle.live_document.specs.Cost.{allowed, top_of, bottom_of, marks, weight_outside, unmarked, IsLaidOut, IsWindowKept}
use Rattle.live_document.specs.Documents.{LiveDocument, counted}
use Rattle.live_document.specs.Keeping.{is_kept, IsKeptAt}
use Rattle.live_document.specs.Showing.{rows_from, window_in}
use Rattle.cell_grid.proofs.Interface.{on_err}
use Rattle.live_document.proofs.Followed.{live-bare}
use Rattle.live_document.proofs.Forgotten.{kept-held, none-behind, outside-held, slice-held}
use Rattle.live_document.proofs.Cost.{live-caught, unkept-behind, marks-counted, row-alike, texts-counted, texts-live}
use Rattle.live_document.proofs.Spots.{window-size}
use Rattle.live_document.proofs.document.Document.show.Goals as goal

pub lay_window_out-requires-clause-kept : goal.lay_window_out-requires-clause-kept
lay_window_out-requires-clause-kept c =
    let i = c.self.inside in
    let before = subst (λ (tables : TableValues). IsKeptAt tables i.width i.base i.buffer) (sym c.deref.ensures) c.self.invariant.kept_at in
    subst (λ (tables : TableValues). IsKeptAt tables i.width i.base c.catch_up.new.buffer) (c.deref.ensures ∙ sym c.deref-2.ensures) (c.in_ok-catch_up.ensures.kept i.width i.base before)

pub returns-in-Ok-clause-laid : goal.returns-in-Ok-clause-laid
returns-in-Ok-clause-laid c =
    let i = c.self.inside in
    let o = c.in-Ok.outcome in
    let e = c.in-Ok.ensures in
    let caught = c.in_ok-catch_up.ensures in
    let before = c.catch_up.new.buffer in
    let after = c.lay_window_out.new.buffer in
    let T = c.deref-2.result.now in
    let old = subst (λ (tables : TableValues). IsKeptAt tables i.width i.base i.buffer) (sym c.deref.ensures) c.self.invariant.kept_at in
    let split = (caught.kept i.width i.base old).split ∙ ap₂ (λ (t : TableValues) (ps : List ℕ). paragraph_points t ps) c.deref.ensures caught.text in
    let texts = texts-counted after ∙ e.paragraphs ∙ split in
    let seen = live-caught i.behind i.tables.value i.desk.set i.buffer before caught.same caught.nothing split in
    let outside = outside-held before o.shown.first o.end ∙ ap (λ ps. weight_outside ps o.shown.first o.end) seen in
    let inside = slice-held after o.shown.first o.end in
    let size : length (window_in after o.shown).rows ≡ o.shown.count = window-size (rows_from after o.shown.first) o.shown.skip o.shown.count e.at_hand.enough in
    let count = ap (allowed i.most.rows i.width) size in
    let new : LiveDocument = record { desk = i.desk; tables = i.tables.value; width = i.width; base = i.base; paragraphs = map counted after; behind = false; most = i.most.rows; window = window_in after o.shown; laid = o.laid } in
    subst (λ (d : LiveDocument). IsLaidOut d new c.args.place c.args.above c.args.below) c.self.view_is
    (record {
      first = o.shown.first;
      end = o.end;
      order = e.order;
      top = row-alike T i.tables.value i.width i.base (paragraphs_in before) _ _ (text i.desk.set) o.shown.first (top_of c.args.place c.args.above) e.top c.deref-2.ensures (sym (texts-counted after ∙ e.paragraphs)) caught.text;
      bottom = row-alike T i.tables.value i.width i.base (paragraphs_in before) _ _ (text i.desk.set) _ (bottom_of c.args.place c.args.below) e.bottom c.deref-2.ensures (sym (texts-counted after ∙ e.paragraphs)) caught.text;
      laid = e.laid ∙ ap (λ ms. unmarked ms o.shown.first o.end) (sym (marks-counted before) ∙ ap marks seen);
      stays = λ fits k there. ap (λ ms. is_kept ms k) (marks-counted after)
          ∙ e.stays (omega (arith, fits, count, outside, inside)) k (sym (ap (λ ms. is_kept ms k) (marks-counted before)) ∙ ap (λ ps. is_kept (marks ps) k) seen ∙ there);
      kept = λ k from to. ap (λ ms. is_kept ms k) (marks-counted after) ∙ e.marked k from to;
      no_more = λ k there. elim (e.no_more k (sym (ap (λ ms. is_kept ms k) (marks-counted after)) ∙ there)) [
        | inl was ↦ inl (sym (ap (λ ps. is_kept (marks ps) k) seen) ∙ ap (λ ms. is_kept ms k) (marks-counted before) ∙ was)
        | inr within ↦ inr within
      ];
      held = elim e.bounded [ inl few ↦ inl (omega (arith, few, kept-held after, count)) | inr none ↦ inr (λ k there. none k (sym (ap (λ ms. is_kept ms k) (marks-counted after)) ∙ there)) ];
      texts = texts;
      same = texts ∙ sym (texts-live i.desk i.tables.value i.width i.base i.behind i.buffer i.shown i.held c.self.invariant);
      caught_up = refl;
    })

pub invariant_of-self-in-Err : goal.invariant_of-self-in-Err
invariant_of-self-in-Err c =
    let i = c.self.inside in
    let now = c.lay_window_out.new.buffer in
    let f = c.forget_rows in
    let at = subst (λ (tables : TableValues). IsKeptAt tables i.width i.base now) c.deref-2.ensures c.lay_window_out.ensures.kept in
    live-bare i.desk i.tables.value i.width i.base now f.new.buffer at (ap concat c.lay_window_out.ensures.paragraphs ∙ c.in_ok-catch_up.ensures.text) f.ensures.paragraphs
    (f.ensures.none i.tables.value i.width i.base) f.ensures.held

pub returns-in_err-catch_up-clause-forgotten : goal.returns-in_err-catch_up-clause-forgotten
returns-in_err-catch_up-clause-forgotten c =
    let i = c.self.inside in
    on_err c.from_residual.result (none-behind i.behind i.tables.value i.desk.set c.catch_up.new.buffer (λ is. (let e = c.in_err-catch_up.ensures.enough is in cc)))

pub returns-in_err-catch_up-clause-enough : goal.returns-in_err-catch_up-clause-enough
returns-in_err-catch_up-clause-enough c = λ h.
    let i = c.self.inside in
    let old = subst (λ (d : LiveDocument). IsWindowKept d c.args.place c.args.above c.args.below) (sym c.self.view_is) h in
    let there = old.kept old.first (omega arith) old.order in
    let none = unkept-behind i.behind i.tables.value i.desk.set i.buffer (λ is. (let e = c.in_err-catch_up.ensures.enough is in cc)) old.first in
    cc

pub returns-in-Err-clause-enough : goal.returns-in-Err-clause-enough
returns-in-Err-clause-enough c = λ h.
    let i = c.self.inside in
    let caught = c.in_ok-catch_up.ensures in
    let before = c.catch_up.new.buffer in
    let T = c.deref-2.result.now in
    let old = subst (λ (tables : TableValues). IsKeptAt tables i.width i.base i.buffer) (sym c.deref.ensures) c.self.invariant.kept_at in
    let split = (caught.kept i.width i.base old).split ∙ ap₂ (λ (t : TableValues) (ps : List ℕ). paragraph_points t ps) c.deref.ensures caught.text in
    let seen = live-caught i.behind i.tables.value i.desk.set i.buffer before caught.same caught.nothing split in
    let all = subst (λ (d : LiveDocument). IsWindowKept d c.args.place c.args.above c.args.below) (sym c.self.view_is) h in
    let texts = sym (ap (λ ps. paragraphs_in ps) seen) ∙ texts-counted before in
    let e = c.in-Err.ensures.enough (record {
      first = all.first;
      last = all.last;
      order = all.order;
      top_in = row-alike i.tables.value T i.width i.base _ (paragraphs_in before) (text i.desk.set) _ all.first (top_of c.args.place c.args.above) all.top_in (sym c.deref-2.ensures) texts (sym caught.text);
      bottom_in = row-alike i.tables.value T i.width i.base _ (paragraphs_in before) (text i.desk.set) _ all.last (bottom_of c.args.place c.args.below) all.bottom_in (sym c.deref-2.ensures) texts (sym caught.text);
      kept = λ k from to. sym (ap (λ ms. is_kept ms k) (marks-counted before)) ∙ ap (λ ps. is_kept (marks ps) k) seen ∙ all.kept k from to;
    }) in
    cc
