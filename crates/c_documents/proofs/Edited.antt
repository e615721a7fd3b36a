-- What an edit of a document tells.
use Rattle.std.proofs.Common.{◌≡◌, false, ◌≤◌, ◌<◌, ◌+◌, ◌-◌, ◌^◌, ◌++◌, ℕ, zero, suc, List, [], ◌∷◌, length, take, drop, add-zero, sym, ap, ap₂, ◌∙◌, subst, arith}
use Rattle.std.proofs.lemmas.List.{append_assoc, length-append, length-drop, length-map, length-take-le, take_at, drop_at, drop-drop, take-append-drop}
use Rattle.std.proofs.Math.Seq.{drop-append-add}
use Rattle.bg_types.specs.OperationSet.{next, size}
use Rattle.bg_types.specs.declared.change.Change.{Change}
use Rattle.bg_types.specs.Edit.{IsEdit}
use Rattle.bg_types.proofs.Interface.{edit_both}
use Rattle.rga_tree.specs.TextOf.{text, visible}
use Rattle.text_buffer.specs.Edits.{cuts_at, puts_at}
use Rattle.desk_replica.specs.Desk.{Desk}
use Rattle.desk_replica.specs.declared.answer.TypeFault.TheVariants.{CounterSpent, Full}
use Rattle.live_document.specs.Documents.{LiveDocument}
use Rattle.c_documents.specs.declared.told_document.ToldDocument.{ToldDocument}
use Rattle.c_documents.specs.Changes.{edit_changes}
use Rattle.c_desks.specs.Desks.{HasRoomFor, IsReplaced}
use Rattle.c_desks.specs.Keystrokes.{IsKeystroke}
use Rattle.c_desks.specs.declared.keystroke.Keystroke.TheVariants.{Typed, Erased}
use Rattle.c_documents.specs.Documents.{IsEditFollowed, IsEdited}

-- ---- what the changes make of a text

cuts-edit : (n k : ℕ) (xs : List ℕ) → k + n ≤ length xs → IsEdit xs (cuts_at k n) (take k xs ++ drop (k + n) xs)
cuts-edit zero k xs within = ap (λ j. take k xs ++ drop j xs) (add-zero k) ∙ take-append-drop k xs
cuts-edit (suc n) k xs within =
    let a = take k xs in
    let b = drop (suc k) xs in
    let size : length a ≡ k = length-take-le k xs (omega (arith, within)) in
    let same : suc k + n ≡ k + suc n = omega arith in
    let back : drop (k + n) (a ++ b) ≡ drop (k + suc n) xs = ap (λ j. drop (j + n) (a ++ b)) (sym size) ∙ drop-append-add a b n ∙ drop-drop n (suc k) xs ∙ ap (λ j. drop j xs) same in
    let left : k + n ≤ length (a ++ b) = omega (arith, length-append a b, size, length-drop (suc k) xs, within) in (
      omega (arith, within),
      subst (IsEdit (a ++ b) (cuts_at k n)) (ap₂ (λ x y. x ++ y) (take_at a b k size) back) (cuts-edit n k (a ++ b) left),
    )

puts-edit : (ys : List ℕ) (k : ℕ) (xs : List ℕ) → k ≤ length xs → IsEdit xs (puts_at k ys) (take k xs ++ (ys ++ drop k xs))
puts-edit [] k xs within = take-append-drop k xs
puts-edit (c ∷ cs) k xs within =
    let a = take k xs in
    let d = drop k xs in
    let size : length a ≡ k = length-take-le k xs within in
    let more : length (a ++ c ∷ []) ≡ k + 1 = omega (arith, length-append a (c ∷ []), size) in
    let whole : a ++ c ∷ d ≡ (a ++ c ∷ []) ++ d = sym (append_assoc a (c ∷ []) d) in
    let later = puts-edit cs (k + 1) (a ++ c ∷ d) (omega (arith, length-append a (c ∷ d), size)) in
    let front = ap (take (k + 1)) whole ∙ take_at (a ++ c ∷ []) d (k + 1) more in
    let back = ap (drop (k + 1)) whole ∙ drop_at (a ++ c ∷ []) d (k + 1) more in
    (within, subst (IsEdit (a ++ c ∷ d) (puts_at (k + 1) cs)) (ap₂ (λ x y. x ++ (cs ++ y)) front back ∙ append_assoc a (c ∷ []) (cs ++ d)) later)

edited : (from to : ℕ) (ys xs : List ℕ) → from ≤ to → to ≤ length xs → IsEdit xs (edit_changes from to ys) (take from xs ++ (ys ++ drop to xs))
edited from to ys xs order within =
    let a = take from xs in
    let b = drop to xs in
    let same : from + (to - from) ≡ to = omega (arith, order) in
    let size : length a ≡ from = length-take-le from xs (omega (arith, order, within)) in
    let cut = subst (IsEdit xs (cuts_at from (to - from))) (ap (λ j. a ++ drop j xs) same) (cuts-edit (to - from) from xs (omega (arith, order, within))) in
    let put = puts-edit ys from (a ++ b) (omega (arith, length-append a b, size)) in
    edit_both xs (a ++ b) (a ++ (ys ++ b)) (cuts_at from (to - from)) (puts_at from ys) cut
    (subst (IsEdit (a ++ b) (puts_at from ys)) (ap₂ (λ x y. x ++ (ys ++ y)) (take_at a b from size) (drop_at a b from size)) put)

-- ---- of a document

module _ (old new : Desk) (from to : ℕ) (chs before after : List ℕ) (told : ℕ) (r : IsReplaced old from to chs new before after told) where
  pub few_changed : (to - from) + length chs ≤ 1_000_000
  few_changed =
      let low : 2 ^ 32 - next old.set < length chs → ⊥ = λ big. r.accepted CounterSpent big in
      let room : 1_000_000 < size old.set + ((to - from) + length chs) → ⊥ = λ big. r.accepted Full (omega (arith, low), big) in
      omega (arith, room)

  within : to ≤ length (text old.set)
  within = omega (arith, length-map (visible old.set) (λ e. e.1.ch), r.within)

  pub end_of_typed : from + length chs ≤ length (visible new.set)
  end_of_typed =
      let a = take from (text old.set) in
      let b = drop to (text old.set) in
      omega (
        arith,
        length-map (visible new.set) (λ e. e.1.ch),
        ap length r.replaced,
        length-append a (chs ++ b),
        length-append chs b,
        length-take-le from (text old.set) (omega (arith, r.order, within)),
      )

  pub edit_led : IsEdit (text old.set) (edit_changes from to chs) (text new.set)
  edit_led = subst (IsEdit (text old.set) (edit_changes from to chs)) (sym r.replaced) (edited from to chs (text old.set) r.order within)

-- a keystroke is an edit from its place up to the end of what it erases
pub typed_followed : (desk : Desk) (old new : LiveDocument) (from to ch room : ℕ) (chs : List ℕ) → HasRoomFor desk from to (length chs) room → IsKeystroke (to - from) chs (Typed ch)
    → IsEditFollowed old from from new → IsEditFollowed old from to new
typed_followed desk old new from to ch room chs has key followed =
    let same : from ≡ to = omega (arith, key.0, has.order) in
    subst (λ (end : ℕ). IsEditFollowed old from end new) same followed

pub erased_followed : (old new : LiveDocument) (from to : ℕ) (chs : List ℕ) → IsKeystroke (to - from) chs Erased → IsEditFollowed old from (from + 1) new → IsEditFollowed old from to new
erased_followed old new from to chs key followed =
    let same : from + 1 ≡ to = omega (arith, key.0) in
    subst (λ (end : ℕ). IsEditFollowed old from end new) same followed

-- a change of a document that is told
pub told_edit : (old mid new : ToldDocument) (from to : ℕ) (chs before after : List ℕ) (told : ℕ) → IsReplaced old.document.desk from to chs mid.document.desk before after told → IsEditFollowed old.document from to mid.document
    → new.document ≡ mid.document → (new.lost ≡ false → new.told.items ≡ edit_changes from to chs)
    → IsReplaced old.document.desk from to chs new.document.desk before after told × IsEdited old from to chs new
told_edit old mid new from to chs before after told r followed same tells =
    let replaced = subst (λ (d : LiveDocument). IsReplaced old.document.desk from to chs d.desk before after told) (sym same) r in
    let led = edit_led old.document.desk new.document.desk from to chs before after told replaced in (
      replaced,
      record {
        followed = subst (IsEditFollowed old.document from to) (sym same) followed;
        told = tells;
        edit = λ all. subst (λ (changes : List Change). IsEdit (text old.document.desk.set) changes (text new.document.desk.set)) (sym (tells all)) led;
      },
    )
