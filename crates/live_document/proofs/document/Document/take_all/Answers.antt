-- The paragraphs follow all that was told, or are behind.
use Rattle.std.proofs.Common.{◌≡◌, length, drop, take, refl, ap, subst, arith}
use Rattle.std.proofs.lemmas.Bool.{not-false}
use Rattle.bg_types.specs.Edit.{IsEdit}
use Rattle.rga_tree.specs.TextOf.{text}
use Rattle.unicode_tables.specs.Tables.{TableValues}
use Rattle.live_document.specs.Documents.{LiveDocument}
use Rattle.live_document.specs.Keeping.{StaysKept}
use Rattle.live_document.proofs.Followed.{told-behind, live-range, live-told}
use Rattle.live_document.proofs.Taking.{edit_in_turn, edit_of_slice}
use Rattle.live_document.proofs.Cost.{bare-behind, keeps-unchanged}
use Rattle.live_document.proofs.document.Document.take_all.Goals as goal

pub follow_all-self-inside-requires-clause-places : goal.follow_all-self-inside-requires-clause-places
follow_all-self-inside-requires-clause-places c =
    let i = c.self.inside in
    let t = c.take_each-outcome in
    let count : c.len-told.result ≡ length c.args.changes.now.items = omega (arith, c.len-told.ensures) in
    let told = t.ensures.told (not-false t.result.told c.if-not-outcome.false) in
    let edit = edit_of_slice c.told_changes.ensures.in_turn i.desk t.new.desk (take t.result.taken c.args.ops.now) c.args.changes.now.items t.new.changes.items
    c.deref-2.result.now c.len-told.result count c.deref-2.ensures.value t.ensures.taken.set told in
    live-range i.desk i.tables.value i.width i.base i.behind i.buffer i.shown i.held _ (text t.new.desk.set) c.self.invariant edit

pub invariant_of-self-2 : goal.invariant_of-self-2
invariant_of-self-2 c =
    let i = c.self.inside in
    let t = c.take_each-outcome in
    let f = c.follow_all-self-inside in
    let count : c.len-told.result ≡ length c.args.changes.now.items = omega (arith, c.len-told.ensures) in
    let told = t.ensures.told (not-false t.result.told c.if-not-outcome.false) in
    let edit = edit_of_slice c.told_changes.ensures.in_turn i.desk t.new.desk (take t.result.taken c.args.ops.now) c.args.changes.now.items t.new.changes.items
    c.deref-2.result.now c.len-told.result count c.deref-2.ensures.value t.ensures.taken.set told in
    live-told i.desk t.new.desk i.tables.value i.width i.base i.behind f.result i.buffer f.new.buffer i.shown i.held _
    c.self.invariant (subst (λ (tables : TableValues). StaysKept tables i.buffer f.new.buffer) c.deref.ensures f.ensures.kept) f.ensures.held f.ensures.before f.ensures.text edit

pub returns-clause-edit : goal.returns-clause-edit
returns-clause-edit c = λ is.
    let i = c.self.inside in
    let t = c.take_each-outcome in
    subst (λ (d : LiveDocument). IsEdit (text d.desk.set) (drop (length c.args.changes.now.items) t.new.changes.items) (text t.new.desk.set)) c.self.view_is
    (edit_in_turn c.told_changes.ensures.in_turn i.desk t.new.desk (take t.result.taken c.args.ops.now) c.args.changes.now.items t.new.changes.items t.ensures.taken.set (t.ensures.told is))

pub returns-clause-kept : goal.returns-clause-kept
returns-clause-kept c = λ is.
    let i = c.self.inside in
    let t = c.take_each-outcome in
    let f = c.follow_all-self-inside in
    let count : c.len-told.result ≡ length c.args.changes.now.items = omega (arith, c.len-told.ensures) in
    let told = told-behind c.args.changes.now.items t.new.changes.items c.deref-2.result.now c.len-told.result count c.deref-2.ensures.value in
    keeps-unchanged i.tables.value i.desk.set t.new.desk.set i.buffer f.new.buffer c.args.self.now.paragraphs i.behind f.result _ _ (ap (λ (d : LiveDocument). d.paragraphs) c.self.view_is) told
    f.ensures.before f.ensures.touched

pub returns-then-not-outcome-clause-behind : goal.returns-then-not-outcome-clause-behind
returns-then-not-outcome-clause-behind c = λ is. (let i = c.self.inside in (refl, bare-behind i.tables.value c.take_each-outcome.new.desk.set i.buffer))
