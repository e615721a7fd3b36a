-- Where the visible elements of a row stand.
use Rattle.std.proofs.Common.{◌≡◌, ℕ, ◌<◌, ◌≤◌, ◌+◌, true, false, cond, List, [], ◌∷◌, ◌++◌, length, take, drop, Some, sym, ap, ◌∙◌, zero-add, length-append, length-drop, arith}
use Rattle.std.specs.Prelude.{slice_get}
use Rattle.std.proofs.Math.Seq.{take-add}
use Rattle.std.proofs.lemmas.List.{length-take-le, take-append-drop}
use Rattle.rga_tree.specs.declared.element.Element.{Element}
use Rattle.rga_sequence.specs.Blocks.{seen, seen_all}
use Rattle.rga_sequence.proofs.Grown.{seen_le}
use Rattle.rga_sequence.proofs.Seen.{not_all, seen-more}
use Rattle.rga_tree.proofs.Interface.{seen-append}

pub seen-add : (es : List Element) (at n : ℕ) → seen (take (at + n) es) ≡ seen (take at es) + seen (take n (drop at es))
seen-add es at n = ap seen (take-add at n es) ∙ seen-append (take at es) (take n (drop at es))

pub seen-rest : (es : List Element) (at : ℕ) → seen (take at es) + seen (drop at es) ≡ seen es
seen-rest es at = sym (seen-append (take at es) (drop at es)) ∙ ap seen (take-append-drop at es)

-- as many elements stand behind as visible ones are left
pub room_behind : (es : List Element) (at left : ℕ) → seen (take at es) + left < seen es → at + left < length es
room_behind es at left few = omega (arith, seen-rest es at, seen_le (drop at es), length-drop at es)

-- in any row the next n have at most n visible ones
pub seen-next : (es : List Element) (at n : ℕ) → n ≤ length (drop at es) → seen (take n (drop at es)) ≤ n
seen-next es at n many = omega (arith, seen_le (take n (drop at es)), length-take-le n (drop at es) many)

-- where all are visible, all of any part are
pub all_visible : (es : List Element) (at n : ℕ) → seen es ≡ length es → seen (take n (drop at es)) ≡ length (take n (drop at es))
all_visible es at n all =
    let part = drop at es in
    omega (
      arith,
      all,
      seen-rest es at,
      seen-rest part n,
      seen_le (take at es),
      seen_le (take n part),
      seen_le (drop n part),
      ap length (take-append-drop at es),
      length-append (take at es) part,
      ap length (take-append-drop n part),
      length-append (take n part) (drop n part),
    )

-- one more hidden element
pub hidden-next : (es : List Element) (j : ℕ) (e : Element) → slice_get es j ≡ Some e → e.hidden ≡ true → seen (take (j + 1) es) ≡ seen (take j es)
hidden-next es j e is hidden = omega (arith, seen-more es j e is, ap {B = ℕ} (λ h. cond h 0 1) hidden)

-- one more visible element
pub visible-next : (es : List Element) (j : ℕ) (e : Element) → slice_get es j ≡ Some e → e.hidden ≡ false → seen (take (j + 1) es) ≡ seen (take j es) + 1
visible-next es j e is visible = omega (arith, seen-more es j e is, ap {B = ℕ} (λ h. cond h 0 1) visible)

-- where visible ones are left behind a hidden one there is a further element
pub further-there : (es : List Element) (at from : ℕ) (e : Element) → slice_get es at ≡ Some e → e.hidden ≡ true
    → seen (take at es) ≡ seen (take from es) → seen (take from es) < seen es → at + 1 < length es
further-there es at from e is hidden same few = not_all es (at + 1) (omega (arith, hidden-next es at e is hidden, same, few))

pub seen_all-append : (xs ys : List (List Element)) → seen_all (xs ++ ys) ≡ seen_all xs + seen_all ys
seen_all-append [] ys = sym (zero-add (seen_all ys))
seen_all-append (x ∷ xs) ys = omega (arith, seen_all-append xs ys)

-- the next n blocks
pub seen_all-add : (bs : List (List Element)) (b n : ℕ) → seen_all (take (b + n) bs) ≡ seen_all (take b bs) + seen_all (take n (drop b bs))
seen_all-add bs b n = ap seen_all (take-add b n bs) ∙ seen_all-append (take b bs) (take n (drop b bs))
