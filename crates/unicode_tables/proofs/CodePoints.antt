-- Lists with a value for each code point.
use Rattle.std.proofs.Common.{◌≡◌, ℕ, ◌<◌, get_or, map, ◌∙◌, arith}
use Rattle.std.specs.List.{range_with_len}
use Rattle.std.proofs.lemmas.List.FromFn.{get_or-map-range_with_len, length-map-range_with_len, fill_by_all}
use Rattle.unicode_tables.specs.Tables.{each_below}

pub each_below-at : {V : Type 0} (n : ℕ) (value : ℕ → V) (c : ℕ) (d : V) → c < n → get_or (each_below n value) c d ≡ value c
unfolding each_below
each_below-at n value c d h = get_or-map-range_with_len value 0 n c c d h (omega arith)

pub each_below-same : {V : Type 0} (n : ℕ) (value other : ℕ → V) (d : V) → ((c : ℕ) → c < n → value c ≡ other c) → each_below n value ≡ each_below n other
unfolding each_below
each_below-same n value other d h =
    fill_by_all other (map value (range_with_len 0 n)) n d (length-map-range_with_len value 0 n)
    (λ k below. get_or-map-range_with_len value 0 n k k d below (omega arith) ∙ h k below)
