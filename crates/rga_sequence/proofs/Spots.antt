-- Elements of the row by their blocks.
use Rattle.std.proofs.Common.{◌≡◌, ℕ, zero, suc, ◌<◌, ◌≤◌, ◌+◌, List, [], ◌∷◌, length, take, get_or, Option, Some, None, true, false, refl, sym, ap, subst, ◌∙◌, length-append, arith}
use Rattle.std.specs.Prelude.{set, slice_get, IsSome}
use Rattle.std.specs.Option.{IfNone}
use Rattle.std.proofs.lemmas.Option.{get_or_from_slice_get, slice_get_within}
use Rattle.rga_tree.specs.declared.element.Element.{Element}
use Rattle.rga_tree.proofs.Interface.{until, until_none, offset_less, get_or_joined, seen-append}
use Rattle.rga_sequence.specs.Blocks.{seen, joined, offset}
use Rattle.rga_sequence.specs.declared.block.Block.{Block}
use Rattle.rga_sequence.specs.BlockRows.{items_of, has, home_of}
use Rattle.rga_tree.specs.Row.{ids_of, is_distinct}
use Rattle.bg_types.specs.Identifier.{Identifier, same_id}
use Rattle.rga_sequence.proofs.Members.{IsFirst, home-first, until-there, has-there}
use Rattle.rga_sequence.proofs.Numbers.{length-items}
use Rattle.rga_sequence.proofs.Passing.{items_there}

-- the block that the index and the places tell is the first that has the identifier
pub found_first : (xs : List (List Element)) (ns places : List ℕ) (q : Identifier) (number r : ℕ) → ((p : ℕ) → p < length xs → slice_get places (get_or ns p 0) ≡ Some p)
    → home_of xs ns q ≡ Some number → r ≡ get_or places number r → IsFirst xs ns q number r
found_first xs ns places q number r inverts found is =
    let f = home-first xs ns q number found in
    let at : slice_get places number ≡ Some f.0 = ap (slice_get places) (sym f.1.number) ∙ inverts f.0 f.1.there in
    subst (IsFirst xs ns q number) (sym (is ∙ get_or_from_slice_get places number f.0 r at)) f.1

pub found_within : (xs : List (List Element)) (ns places : List ℕ) (q : Identifier) (number : ℕ) → ((p : ℕ) → p < length xs → slice_get places (get_or ns p 0) ≡ Some p)
    → home_of xs ns q ≡ Some number → number < length places
found_within xs ns places q number inverts found =
    let f = home-first xs ns q number found in
    slice_get_within places number f.0 (ap (slice_get places) (sym f.1.number) ∙ inverts f.0 f.1.there)

pub some_spot : (o : Option (ℕ × ℕ)) (q : Identifier) (es : List Element) → IfNone o (has q es ≡ false) → until q es + 1 ≤ length es → IsSome o
some_spot None q es absent there = let all = until_none q es absent in absurd (omega arith)
some_spot (Some s) q es absent there = refl

pub seen_set : (xs : List (List Element)) (p : ℕ) (y : List Element) → p < length xs → seen (joined (set xs p y)) + seen (get_or xs p []) ≡ seen (joined xs) + seen y
seen_set [] p y there = absurd (omega arith)
seen_set (x ∷ xs) zero y there = omega (arith, seen-append y (joined xs), seen-append x (joined xs))
seen_set (x ∷ xs) (suc p) y there = omega (arith, seen-append x (joined (set xs p y)), seen-append x (joined xs), seen_set xs p y (omega arith))

-- where a place isn't in the first blocks there is one more
pub more_blocks : (xs : List (List Element)) (b k j : ℕ) → b < length xs → length (joined (take (suc b) xs)) + k ≡ j → j < length (joined xs) → suc b < length xs
more_blocks [] b k j there place within = absurd (omega arith)
more_blocks (x ∷ []) zero k j there place within = absurd (omega (arith, length-append x []))
more_blocks (x ∷ y ∷ xs) zero k j there place within = omega arith
more_blocks (x ∷ xs) (suc b) k j there place within =
    let rest = more_blocks xs b k (length (joined (take (suc b) xs)) + k) (omega arith) refl (omega (arith, length-append x (joined (take (suc b) xs)), length-append x (joined xs))) in
    omega arith

-- ---- an element that was read in its block

-- it stands there in the row
pub record IsReadAt (bs : List Block) (p j : ℕ) (e : Element) : Type 0 where
  pub block : p < length (items_of bs)
  pub within : j < length (get_or (items_of bs) p [])
  pub element : e ≡ get_or (joined (items_of bs)) (offset (items_of bs) p j) e

pub read_at : (bs : List Block) (p j : ℕ) (x : Block) (e : Element) → p < length bs → x ≡ get_or bs p x → j < length x.elements.items → e ≡ get_or x.elements.items j e → IsReadAt bs p j e
read_at bs p j x e some block inside element =
    let xs = items_of bs in
    let items : get_or xs p [] ≡ x.elements.items = items_there bs p x some ∙ ap (λ (b : Block). b.elements.items) (sym block) in
    let there : p < length xs = omega (arith, length-items bs, some) in
    let within : j < length (get_or xs p []) = omega (arith, ap length items, inside) in
    record { block = there; within = within; element = sym (get_or_joined xs p j e there within ∙ ap (λ es. get_or es j e) items ∙ sym element) }

-- an element with the identifier stands there, and no other has it
pub stands_at : (bs : List Block) (p j : ℕ) (e : Element) (q : Identifier) → p < length bs → j < length (get_or (items_of bs) p []) → e ≡ get_or (joined (items_of bs)) (offset (items_of bs) p j) e → same_id q e.id ≡ true
    → (has q (joined (items_of bs)) ≡ true) × (is_distinct (ids_of (joined (items_of bs))) ≡ true → offset (items_of bs) p j ≡ until q (joined (items_of bs)))
stands_at bs p j e q some within element same =
    let xs = items_of bs in
    let less = offset_less xs p j (omega (arith, length-items bs, some)) within in
    let it : same_id q (get_or (joined xs) (offset xs p j) e).id ≡ true = ap (λ (z : Element). same_id q z.id) (sym element) ∙ same in
    (has-there (joined xs) q (offset xs p j) e less it, λ distinct. sym (until-there q (joined xs) (offset xs p j) e distinct less it))
