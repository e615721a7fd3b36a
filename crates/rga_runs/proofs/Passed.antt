-- Blocks that are passed whole.
use Rattle.std.proofs.Common.{◌≡◌, ℕ, zero, suc, ◌<◌, ◌≤◌, ◌+◌, Bool, true, cond, List, [], ◌∷◌, length, drop, get_or, refl, sym, ap, ◌∙◌, zero-add, arith}
use Rattle.std.specs.Prelude.{nat_eq}
use Rattle.std.specs.List.{prefix_len}
use Rattle.bg_types.specs.Identifier.{Identifier}
use Rattle.rga_runs.specs.declared.block.Block.{Block}
use Rattle.rga_runs.specs.Blocks.{passed}
use Rattle.rga_runs.specs.BlockRows.{items_of}
use Rattle.rga_runs.proofs.Low.{all_greater}

abbrev pub is_passed : Identifier → Block → Bool
is_passed id b = nat_eq (passed id b.stretches.items) (length b.stretches.items)

pub prefix_map : (id : Identifier) (bs : List Block) → prefix_len (is_passed id) bs ≡ prefix_len (all_greater id) (items_of bs)
prefix_map id [] = refl
prefix_map id (b ∷ bs) = ap (λ n. cond (all_greater id b.stretches.items) (1 + n) 0) (prefix_map id bs)

-- blocks that are passed one after the other
pub passed_over : (t : Block → Bool) (bs : List Block) (n : ℕ) → n ≤ length bs → ((k : ℕ) (d : Block) → k < n → t (get_or bs k d) ≡ true) → prefix_len t bs ≡ n + prefix_len t (drop n bs)
passed_over t bs zero many all = sym (zero-add (prefix_len t bs))
passed_over t [] (suc n) many all = absurd (omega (arith, many))
passed_over t (b ∷ bs) (suc n) many all =
    ap (λ p. cond p (1 + prefix_len t bs) 0) (all 0 b (omega arith))
    ∙ omega (arith, passed_over t bs n (omega (arith, many)) (λ k d less. all (suc k) d (omega (arith, less))))
