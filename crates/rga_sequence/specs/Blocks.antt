-- Rows of blocks of elements.
use Rattle.std.specs.Prelude.{◌≡◌, ◌+◌, ◌<◌, ◌≤◌, ◌&&◌, ℕ, Bool, true, not, List, length, drop, get_or}
use Rattle.std.specs.List.{list_all, list_any, prefix_len}
use Rattle.std.specs.Ordering.{is_lt}
use Rattle.std.proofs.Props.{props}
use Rattle.bg_types.specs.Identifier.{Identifier, id_cmp, same_id}
use Rattle.rga_tree.specs.declared.element.Element.{Element}
pub use Rattle.rga_tree.specs.Spot.{seen, seen_all, IsVisiblePlace, joined, offset}

-- where the first stands that isn't greater, from element j of block b on
abbrev pub sought : Identifier → List (List Element) → ℕ → ℕ → ℕ
sought id bs b j = let start = offset bs b j in start + prefix_len (λ e. is_lt (id_cmp id e.id)) (drop start (joined bs))

-- this many looks find visible element k, which is e: the place of its block plus its place there, both from 1
abbrev pub FindsBy : List (List Element) → ℕ → Element → ℕ → Type 0
FindsBy bs k e n = (b : ℕ) × (j : ℕ) × IsVisiblePlace bs k b j e × (n ≡ (b + 1) + (j + 1))

-- no element's identifier is smaller
abbrev pub none_below : Identifier → List Element → Bool
none_below least es = list_all (λ e. not (is_lt (id_cmp e.id least))) es

-- the identifier is that of an element, and no element's is smaller
abbrev pub is_least : Identifier → List Element → Bool
is_least least es = none_below least es && list_any (λ e. same_id least e.id) es

-- from place n on, each identifier is greater than the next
abbrev pub FallsFrom : ℕ → List Element → Type 0
FallsFrom n es = (k : ℕ) (d : Element) → n ≤ k → k + 1 < length es → is_lt (id_cmp (get_or es (k + 1) d).id (get_or es k d).id) ≡ true

-- it has at most one proof, so that a ghost field may say it
pub FallsFrom-prop : (n : ℕ) (es : List Element) → IsProp (FallsFrom n es)
FallsFrom-prop n es = hlevel props
