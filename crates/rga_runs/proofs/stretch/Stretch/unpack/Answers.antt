-- The goals of `unpack` that are answered by hand.
use Rattle.std.proofs.Common.{◌≡◌, ◌+◌, ◌<◌, ◌∙◌, ℕ, zero, suc, List, [], ◌∷◌, Some, take, length, sym, ap, arith}
use Rattle.std.specs.Prelude.{set, slice_get}
use Rattle.std.proofs.lemmas.List.{take_all}
use Rattle.rga_tree.specs.declared.element.Element.{Element}
use Rattle.rga_runs.specs.Stretches.{elements_of}
use Rattle.rga_runs.proofs.Rows.{length-elements, stored_is}
use Rattle.rga_runs.proofs.stretch.Stretch.unpack.Goals as goal

-- one more is written
written : (xs ys : List Element) (k : ℕ) (e : Element) → k < length xs → slice_get ys k ≡ Some e → take k xs ≡ take k ys → take (suc k) (set xs k e) ≡ take (suc k) ys
written [] ys k e there is same = absurd (omega (arith, there))
written (x ∷ xs) [] k e there is same = absurd cc
written (x ∷ xs) (y ∷ ys) zero e there is same = let here : y ≡ e = cc in ap (λ z. z ∷ []) (sym here)
written (x ∷ xs) (y ∷ ys) (suc k) e there is same =
    (λ i. first y (same i) ∷ take (suc k) (set xs k e)) ∙ ap (λ l. y ∷ l) (written xs ys k e (omega (arith, there)) is (ap rest same)) where
      first : Element → List Element → Element
      first d [] = d
      first d (z ∷ zs) = z

      rest : List Element → List Element
      rest [] = []
      rest (z ∷ zs) = zs

pub loop-k-preserved : goal.loop-k-preserved
loop-k-preserved c =
    let next : c.loop-k.k + 1 ≡ suc c.loop-k.k = omega arith in
    let long = c.loop-k.unpacked.long in
    let few = c.args.self.now.few in
    let there : c.loop-k.k < length c.loop-k.unpacked.elements = omega (arith, long, few, c.loop-k-test.true, c.len-k-end.ensures) in
    rw next (written c.loop-k.unpacked.elements (elements_of c.args.chars.now c.args.self.now) c.loop-k.k c.element.result there c.element.ensures c.loop-k.invariant)

pub returns : goal.returns
returns c =
    let s = c.args.self.now in
    let chars = c.args.chars.now in
    let long : length (elements_of chars s) ≡ s.count = length-elements chars s (stored_is (length chars) s c.requires) in
    let all : c.loop-k.k ≡ c.len.result = omega (arith, c.loop-k-test.false, c.len.ensures, c.len-k-end.ensures, c.loop-k.auto.k-end) in
    ap (λ n. take n c.loop-k.unpacked.elements) (sym all) ∙ c.loop-k.invariant ∙ take_all c.loop-k.k (elements_of chars s) (omega (arith, long, all, c.len.ensures))
