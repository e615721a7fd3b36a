-- The elements that stretches stand for.
use Rattle.std.specs.Prelude.{◌≡◌, ℕ, zero, suc, ◌+◌, ◌<◌, Bool, true, not, List, [], ◌∷◌, All, take, drop, map as each, nat_lt}
use Rattle.std.specs.List.{list_all, sum_by, flat_map}
use Rattle.bg_types.specs.Identifier.{Identifier}
use Rattle.bg_types.specs.declared.op.Place.{Place}
use Rattle.bg_types.specs.declared.op.Place.TheVariants.{Root, After}
use Rattle.rga_tree.specs.declared.element.Element.{Element}
use Rattle.rga_tree.specs.Row.{is_distinct}
use Rattle.rga_tree.specs.Spot.{joined}
use Rattle.rga_runs.specs.Typed.{later, typed, unset}
use Rattle.rga_runs.specs.declared.stretch.Stretch.{Stretch}

-- its characters, among all in the order of their arrival
abbrev pub characters_of : List ℕ → Stretch → List ℕ
characters_of chars s = take s.count (drop s.start chars)

abbrev pub elements_of : List ℕ → Stretch → List Element
elements_of chars s = typed s.first s.parent s.hidden (characters_of chars s)

-- a part for each stretch
abbrev pub parts_in : List ℕ → List Stretch → List (List Element)
parts_in chars ss = each (elements_of chars) ss

abbrev pub elements_in : List ℕ → List Stretch → List Element
elements_in chars ss = joined (parts_in chars ss)

-- its characters are among the first n
abbrev pub is_stored : ℕ → Stretch → Bool
is_stored n s = not (nat_lt n (s.start + s.count))

abbrev pub are_stored : ℕ → List Stretch → Bool
are_stored n ss = list_all (is_stored n) ss

-- how many characters stretches have
abbrev pub count_in : List Stretch → ℕ
count_in ss = sum_by (λ s. s.count) ss

-- how many of a stretch's characters are visible
abbrev pub visible_of : Stretch → ℕ
visible_of s = unset s.count s.hidden

-- and of those of several
abbrev pub visible_in : List Stretch → ℕ
visible_in ss = sum_by visible_of ss

-- none of its characters has the identifier
abbrev pub IsOutside : Identifier → Stretch → Type 0
IsOutside q s = (k : ℕ) → k < s.count → q ≡ later s.first k → ⊥

-- its first character has another identifier
abbrev pub BeginsElsewhere : Identifier → Stretch → Type 0
BeginsElsewhere q s = s.first ≡ q → ⊥

-- the parent is the root, or a character's identifier
abbrev pub IsPlaced : Place → List Stretch → Type 0
IsPlaced Root ss = Unit {0}
IsPlaced (After q) ss = All (IsOutside q) ss → ⊥

-- the identifiers of n characters, of which the first has this one
abbrev pub ids_from : Identifier → ℕ → List Identifier
ids_from id zero = []
ids_from id (suc n) = id ∷ ids_from (later id 1) n

abbrev pub ids_in : List Stretch → List Identifier
ids_in ss = flat_map (λ s. ids_from s.first s.count) ss

-- no identifier is that of two characters
abbrev pub AreApart : List Stretch → Type 0
AreApart ss = is_distinct (ids_in ss) ≡ true
