-- What stands in stretches, as a row of elements.
use Rattle.std.proofs.Common.{◌≡◌, ℕ, ◌<◌, ◌+◌, Bool, true, false, List, length, take, get_or, Some, refl, sym, ap, subst, ◌∙◌, arith}
use Rattle.std.specs.Prelude.{All, slice_get}
use Rattle.std.specs.Bool.{OnTrue, OnFalse}
use Rattle.std.proofs.lemmas.List.{get_or_default}
use Rattle.bg_types.specs.Identifier.{Identifier}
use Rattle.rga_tree.specs.declared.element.Element.{Element}
use Rattle.rga_tree.specs.KeepsWalk.{KeepsWalk}
use Rattle.rga_tree.specs.Spot.{seen, IsVisiblePlace, offset}
use Rattle.rga_tree.specs.Row.{has}
use Rattle.rga_tree.proofs.Interface.{slice_get_joined, offset_less, seen_all-joined}
use Rattle.rga_runs.specs.declared.stretch.Stretch.{Stretch}
use Rattle.rga_runs.specs.Typed.{later, is_odd, bits_from, unset}
use Rattle.rga_runs.specs.Stretches.{elements_of, parts_in, elements_in, are_stored, visible_in, IsOutside, AreApart}
use Rattle.rga_runs.proofs.Apart.{apart_of}
use Rattle.rga_runs.proofs.Chunks.{one_there}
use Rattle.rga_runs.proofs.Rows.{length-parts, part_there, outside_row, until_has, seen_row, seen_front, seen_in_part, stored_at, hidden_at, some_of_get}
use Rattle.rga_runs.proofs.Spots.{StandsAt, place_is, part_within}

pub kept_apart : (chars : List ℕ) (ss : List Stretch) → are_stored (length chars) ss ≡ true → KeepsWalk (elements_in chars ss) → AreApart ss
kept_apart chars ss stored keeps = apart_of chars ss stored keeps.distinct

pub seen_elements : (chars : List ℕ) (ss : List Stretch) → are_stored (length chars) ss ≡ true → visible_in ss ≡ seen (elements_in chars ss)
seen_elements chars ss stored = sym (seen_row chars ss stored) ∙ seen_all-joined (parts_in chars ss)

-- ---- what stands

pub stands_has : (q : Identifier) (chars : List ℕ) (ss : List Stretch) (p k : ℕ) → are_stored (length chars) ss ≡ true → AreApart ss → StandsAt ss p k q → has q (elements_in chars ss) ≡ true
stands_has q chars ss p k stored apart at =
    let xs = parts_in chars ss in
    let d = one_there ss p at.there in
    let less = offset_less xs p k (omega (arith, length-parts chars ss, at.there)) (part_within chars ss p k d stored at.there (at.inside d)) in
    until_has q (elements_in chars ss) (omega (arith, place_is q chars ss p k stored apart at, less))

pub all_outside : (q : Identifier) (chars : List ℕ) (ss : List Stretch) → are_stored (length chars) ss ≡ true → AreApart ss → has q (elements_in chars ss) ≡ false → All (IsOutside q) ss
all_outside q chars ss stored apart none = λ p d there k less is.
    let at : StandsAt ss p k q = record {
      there = there;
      inside = λ e. subst (λ (s : Stretch). k < s.count) (get_or_default ss p d e there) less;
      is = λ e. is ∙ ap (λ (s : Stretch). later s.first k) (get_or_default ss p d e there);
    } in
    let here = stands_has q chars ss p k stored apart at in
    absurd cc

-- whether it was found to stand
pub has_stands : (q : Identifier) (chars : List ℕ) (ss : List Stretch) (t : Bool) → are_stored (length chars) ss ≡ true → AreApart ss → OnTrue t (All (IsOutside q) ss → ⊥) → OnFalse t (All (IsOutside q) ss)
    → t ≡ has q (elements_in chars ss)
has_stands q chars ss false stored apart found lacks = sym (outside_row q chars ss lacks)
has_stands q chars ss true stored apart found lacks = by_has (has q (elements_in chars ss)) refl where
  by_has : (b : Bool) → has q (elements_in chars ss) ≡ b → true ≡ has q (elements_in chars ss)
  by_has true is = sym is
  by_has false is = absurd (found (all_outside q chars ss stored apart is))

-- ---- what is read

pub read_element : (chars : List ℕ) (ss : List Stretch) (p k : ℕ) (d : Stretch) (e : Element) → are_stored (length chars) ss ≡ true → p < length ss → k < (get_or ss p d).count
    → slice_get (elements_of chars (get_or ss p d)) k ≡ Some e → slice_get (elements_in chars ss) (offset (parts_in chars ss) p k) ≡ Some e
read_element chars ss p k d e stored there inside is =
    slice_get_joined (parts_in chars ss) p k (omega (arith, length-parts chars ss, there)) (part_within chars ss p k d stored there inside)
    ∙ ap (λ (es : List Element). slice_get es k) (part_there chars ss p d there) ∙ is

pub visible_read : (chars : List ℕ) (ss : List Stretch) (p k : ℕ) (d : Stretch) (e : Element) → are_stored (length chars) ss ≡ true → p < length ss → k < (get_or ss p d).count → is_odd (bits_from k (get_or ss p d).hidden) ≡ false
    → slice_get (elements_of chars (get_or ss p d)) k ≡ Some e → e.hidden ≡ false
visible_read chars ss p k d e stored there inside visible is =
    let s = get_or ss p d in
    ap (λ (z : Element). z.hidden) (sym (some_of_get (elements_of chars s) k e e is)) ∙ hidden_at chars s k e (stored_at (length chars) ss p d stored there) inside ∙ visible

pub visible_place : (chars : List ℕ) (ss : List Stretch) (n p k : ℕ) (d : Stretch) (e : Element) → are_stored (length chars) ss ≡ true → p < length ss → k < (get_or ss p d).count → is_odd (bits_from k (get_or ss p d).hidden) ≡ false
    → visible_in (take p ss) + unset k (get_or ss p d).hidden ≡ n → slice_get (elements_of chars (get_or ss p d)) k ≡ Some e → IsVisiblePlace (parts_in chars ss) n p k e
visible_place chars ss n p k d e stored there inside visible place is = record {
  there = ap (λ (es : List Element). slice_get es k) (part_there chars ss p d there) ∙ is;
  visible = visible_read chars ss p k d e stored there inside visible is;
  before = omega (arith, seen_front chars ss p stored, seen_in_part chars ss p k d stored there (omega (arith, inside)), place);
}
