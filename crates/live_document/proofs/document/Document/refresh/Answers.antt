-- The paragraphs' text is one that is drawn.
use Rattle.std.proofs.Common.{◌≡◌, inl, ℕ, List, length, refl, sym, ap, ap₂, subst, ◌∙◌, arith}
use Rattle.std.specs.Prelude.{encode_utf8_all}
use Rattle.std.specs.Str.{IsUtf8}
use Rattle.unicode_tables.specs.Tables.{TableValues}
use Rattle.paragraphs.specs.Paragraphs.{paragraph_points}
use Rattle.rga_tree.specs.TextOf.{text}
use Rattle.cell_grid.specs.Grids.{IsDrawn}
use Rattle.text_buffer.specs.Buffers.{text_in}
use Rattle.live_document.specs.Documents.{LiveDocument, whole_grid}
use Rattle.live_document.specs.Keeping.{IsKeptAt}
use Rattle.live_document.proofs.Cost.{live-caught as paragraphs-caught}
use Rattle.live_document.proofs.Followed.{live-caught, nothing, nothing-at_hand, nothing-window}
use Rattle.live_document.proofs.document.Document.refresh.Goals as goal

pub returns-clause-whole : goal.returns-clause-whole
returns-clause-whole c =
    let i = c.self.inside in
    let at = c.self.invariant.kept_at in
    let b = c.bytes-bytes.ensures in
    let is : text_in c.catch_up.new.buffer ≡ text i.desk.set = c.in_ok-catch_up.ensures.text in
    subst (λ (d : LiveDocument). IsDrawn (whole_grid d)) c.self.view_is (record {
      width = i.width;
      base = i.base;
      at_least = at.at_least;
      at_most = at.at_most;
      utf8 = subst (λ points. IsUtf8 (encode_utf8_all points)) is b.utf8;
      size = omega (arith, ap (λ points. length (encode_utf8_all points)) is, b.bytes, b.few);
      rows = refl;
    })

pub returns-clause-paragraphs : goal.returns-clause-paragraphs
returns-clause-paragraphs c =
    let i = c.self.inside in
    let caught = c.in_ok-catch_up.ensures in
    let before = subst (λ (tables : TableValues). IsKeptAt tables i.width i.base i.buffer) (sym c.deref.ensures) c.self.invariant.kept_at in
    let split = (caught.kept i.width i.base before).split ∙ ap₂ (λ (t : TableValues) (ps : List ℕ). paragraph_points t ps) c.deref.ensures caught.text in
    paragraphs-caught i.behind i.tables.value i.desk.set i.buffer c.catch_up.new.buffer caught.same caught.nothing split ∙ ap (λ (d : LiveDocument). d.paragraphs) c.self.view_is

pub invariant_of-self-2 : goal.invariant_of-self-2
invariant_of-self-2 c =
    let i = c.self.inside in
    let now = c.catch_up.new.buffer in
    let before = subst (λ (tables : TableValues). IsKeptAt tables i.width i.base i.buffer) (sym c.deref.ensures) c.self.invariant.kept_at in
    let at = subst (λ (tables : TableValues). IsKeptAt tables i.width i.base now) c.deref.ensures (c.in_ok-catch_up.ensures.kept i.width i.base before) in
    live-caught i.desk i.tables.value i.width i.base now nothing i.held at
    c.in_ok-catch_up.ensures.text (nothing-at_hand i.tables.value now at.split) (inl (nothing-window now))
    (omega (arith, c.in_ok-catch_up.ensures.held, c.self.invariant.held_is)) c.self.invariant.held_few
