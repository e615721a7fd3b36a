-- The paragraphs follow the desk's text, or are behind it.
use Rattle.std.proofs.Common.{◌≡◌, length, ap, arith, subst}
use Rattle.rga_tree.specs.TextOf.{text}
use Rattle.unicode_tables.specs.Tables.{TableValues}
use Rattle.live_document.specs.Documents.{LiveDocument}
use Rattle.live_document.specs.Keeping.{StaysKept}
use Rattle.live_document.proofs.Followed.{told-behind, told-edit, live-range, live-told}
use Rattle.live_document.proofs.Cost.{keeps-unchanged}
use Rattle.live_document.proofs.document.Document.take_telling.Goals as goal

pub follow_all-self-inside-requires-clause-places : goal.follow_all-self-inside-requires-clause-places
follow_all-self-inside-requires-clause-places c =
    let i = c.self.inside in
    let t = c.take_telling in
    let all = c.deref-2.result.now in
    let count : c.len-told.result ≡ length c.args.changes.now.items = omega (arith, c.len-told.ensures) in
    let told = told-behind c.args.changes.now.items t.new.changes.items all c.len-told.result count c.deref-2.ensures.value in
    let edit = told-edit c.told_changes.ensures.change i.desk.set t.new.self.set c.args.changes.now.items t.new.changes.items _ told t.ensures.told in
    live-range i.desk i.tables.value i.width i.base i.behind i.buffer i.shown i.held _ (text t.new.self.set) c.self.invariant edit

pub invariant_of-self-2 : goal.invariant_of-self-2
invariant_of-self-2 c =
    let i = c.self.inside in
    let t = c.take_telling in
    let f = c.follow_all-self-inside in
    let all = c.deref-2.result.now in
    let count : c.len-told.result ≡ length c.args.changes.now.items = omega (arith, c.len-told.ensures) in
    let told = told-behind c.args.changes.now.items t.new.changes.items all c.len-told.result count c.deref-2.ensures.value in
    let edit = told-edit c.told_changes.ensures.change i.desk.set t.new.self.set c.args.changes.now.items t.new.changes.items _ told t.ensures.told in
    live-told i.desk t.new.self i.tables.value i.width i.base i.behind f.result i.buffer f.new.buffer i.shown i.held _
    c.self.invariant (subst (λ (tables : TableValues). StaysKept tables i.buffer f.new.buffer) c.deref.ensures f.ensures.kept) f.ensures.held f.ensures.before f.ensures.text edit

pub returns-clause-kept : goal.returns-clause-kept
returns-clause-kept c =
    let i = c.self.inside in
    let t = c.take_telling in
    let f = c.follow_all-self-inside in
    let all = c.deref-2.result.now in
    let count : c.len-told.result ≡ length c.args.changes.now.items = omega (arith, c.len-told.ensures) in
    let told = told-behind c.args.changes.now.items t.new.changes.items all c.len-told.result count c.deref-2.ensures.value in
    keeps-unchanged i.tables.value i.desk.set t.new.self.set i.buffer f.new.buffer c.args.self.now.paragraphs i.behind f.result _ _ (ap (λ (d : LiveDocument). d.paragraphs) c.self.view_is) told
    f.ensures.before f.ensures.touched
