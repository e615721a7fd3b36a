-- The walk along the links of a whole line.
use Rattle.std.proofs.Common.{ℕ, ◌≡◌, ◌<◌, ◌≤◌, inl, inr, ap, sym, ◌∙◌, subst, List, [], ◌++◌, length, get_or, take, drop, arith}
use Rattle.std.proofs.lemmas.List.{nil_from_length, take_at}
use Rattle.std.specs.List.{range_with_len}
use Rattle.std.proofs.lemmas.List.FromFn.{length-range_with_len, get_or-range_with_len}
use Rattle.std.proofs.lemmas.Bool.{cases_lt}
use Rattle.std.proofs.lemmas.List.Elements.{All-from_get_or}
use Rattle.std.proofs.lemmas.List.Sorted.{length_permutation, All-permutation}
use Rattle.std.specs.Prelude.{All}
use Rattle.reorder.proofs.Rearranged.{visual_list-permutes}
use Rattle.reorder.specs.VisualList.{numbers, arranged, visual_list}
use Rattle.reorder.specs.Links.{IsLinked, clusters_between, walk}
use Rattle.reorder.proofs.Between.{between-all}
use Rattle.reorder.proofs.Linked.{walk-linked}
use Rattle.reorder.proofs.Parts.{IsArranged}

whole-length : (levels : List ℕ) → length (visual_list levels) ≡ length levels
whole-length levels =
    length_permutation (range_with_len 0 (length levels)) (visual_list levels) (visual_list-permutes levels) ∙ length-range_with_len 0 (length levels)

pub visual_list-empty : (levels : List ℕ) → length levels ≡ 0 → [] ≡ visual_list levels
visual_list-empty levels none = sym (nil_from_length (visual_list levels) (whole-length levels ∙ none))

pub walk-line : (levels links : List ℕ) (f l end : ℕ) → end ≡ length levels →
    IsArranged levels links f l 0 end → walk (length levels) links f ≡ visual_list levels
unfolding visual_list
walk-line levels links f l end e h =
    let whole : IsLinked links f l (visual_list levels) =
    subst (IsLinked links f l) (ap (λ n. numbers (arranged levels (clusters_between levels 0 n))) e ∙ ap (λ cs. numbers (arranged levels cs)) (between-all levels)) h in
    ap (λ n. walk n links f) (sym (whole-length levels)) ∙ walk-linked links f l (visual_list levels) whole

pub visual_list-within : (levels : List ℕ) → All (λ k. k < length levels) (visual_list levels)
visual_list-within levels =
    All-permutation (λ k. k < length levels) (range_with_len 0 (length levels)) (visual_list levels) (visual_list-permutes levels)
    (All-from_get_or (λ k. k < length levels) (range_with_len 0 (length levels)) 0
    (λ k lt. let n = length-range_with_len 0 (length levels) in
    let lt' : k < length levels = omega arith in
    subst (λ v. v < length levels) (sym (get_or-range_with_len 0 (length levels) k 0 lt')) (omega arith)))

pub walk-now : (levels items links now : List ℕ) (len f l end : ℕ) → now ≡ take len (links ++ drop (length links) items) →
    length links ≡ len → len ≡ length levels → end ≤ length levels → (end < length levels → get_or levels end 0 < 0) →
    IsArranged levels links f l 0 end → walk (length now) now f ≡ visual_list levels
walk-now levels items links now len f l end at n n' le whole h =
    let e : end ≡ length levels = elim (cases_lt end (length levels)) [
      | inl lt ↦ (let no = whole lt in absurd (omega arith))
      | inr ge ↦ omega arith
    ] in
    ap (λ x. walk (length x) x f) (at ∙ take_at links (drop (length links) items) len n)
    ∙ ap (λ m. walk m links f) (n ∙ n') ∙ walk-line levels links f l end e h

pub walk-within : (levels now : List ℕ) (f : ℕ) → length now ≡ length levels → walk (length now) now f ≡ visual_list levels →
    All (λ at. at < length now) (walk (length now) now f)
walk-within levels now f n e =
    subst (All (λ at. at < length now)) (sym e) (subst (λ m. All (λ at. at < m) (visual_list levels)) (sym n) (visual_list-within levels))
