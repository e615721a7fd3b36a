-- Where a visible element stands in elements that are in parts.
use Rattle.std.specs.Prelude.{◌≡◌, ◌+◌, ◌++◌, ℕ, List, [], ◌∷◌, false, not, length, filter, take, drop, slice_get, get_or, Some}
use Rattle.std.specs.List.{flat_map}
use Rattle.rga_tree.specs.declared.element.Element.{Element}

-- how many elements are visible
abbrev pub seen : List Element → ℕ
seen es = length (filter (λ e. not e.hidden) es)

-- how many elements of all parts are visible
abbrev pub seen_all : List (List Element) → ℕ
seen_all [] = 0
seen_all (part ∷ parts) = seen part + seen_all parts

-- element j of part p is e, which is visible, and k visible elements stand before it
pub record IsVisiblePlace (parts : List (List Element)) (k p j : ℕ) (e : Element) : Type 0 where
  pub there : slice_get (get_or parts p []) j ≡ Some e
  pub visible : e.hidden ≡ false
  pub before : seen_all (take p parts) + seen (take j (get_or parts p [])) ≡ k

-- the elements of all parts, in order
abbrev pub joined : List (List Element) → List Element
joined parts = flat_map (λ part. part) parts

-- where element j of part p stands among them
abbrev pub offset : List (List Element) → ℕ → ℕ → ℕ
offset parts p j = length (joined (take p parts)) + j

-- the elements from element j of part p on: the rest of the part, and the parts behind it
abbrev pub from_spot : List (List Element) → (p j : ℕ) → List Element
from_spot parts p j = drop j (get_or parts p []) ++ joined (drop (p + 1) parts)
