-- The goals of `part` that are answered by hand.
use Rattle.std.proofs.Common.{◌≡◌, ◌+◌, ◌-◌, ◌/◌, ◌^◌, ◌∙◌, take, drop, sym, ap, arith}
use Rattle.std.proofs.lemmas.List.{take-take, drop-take, drop-drop}
use Rattle.rga_runs.specs.Typed.{typed, bits_from, unset}
use Rattle.rga_runs.proofs.Bits.{bits_from-is, bits_from_le, unset-split}
use Rattle.rga_runs.proofs.Typed.{typed-take, typed-drop}
use Rattle.rga_runs.proofs.stretch.Stretch.part.Goals as goal

pub returns-clause-elements : goal.returns-clause-elements
returns-clause-elements c = λ chars.
    let s = c.args.self.now in
    ap (typed s.first s.parent s.hidden) (sym (take-take c.args.k s.count (drop s.start chars) (omega (arith, c.requires.within))))
    ∙ typed-take s.first s.parent s.hidden (take s.count (drop s.start chars)) c.args.k

pub returns-clause-rest : goal.returns-clause-rest
returns-clause-rest c = λ chars.
    let s = c.args.self.now in
    let k = c.args.k in
    let whole : k + (s.count - k) ≡ s.count = omega (arith, c.requires.within) in
    let characters : take (s.count - k) (drop (s.start + k) chars) ≡ drop k (take s.count (drop s.start chars)) =
    ap (take (s.count - k)) (sym (drop-drop k s.start chars)) ∙ sym (drop-take k (s.count - k) (drop s.start chars)) ∙ ap (λ n. drop k (take n (drop s.start chars))) whole in
    let bits : c.of-2.result ≡ bits_from k s.hidden = c.of-2.ensures ∙ ap (λ n. n / 2 ^ k) c.bits.ensures.value ∙ sym (bits_from-is k s.hidden) in
    (λ i. typed (c.id_at.ensures i) ((c.of.ensures ∙ c.parent_of.ensures) i) (bits i) (characters i)) ∙ typed-drop s.first s.parent s.hidden (take s.count (drop s.start chars)) k

pub of-requires-2 : goal.of-requires-2
of-requires-2 c =
    let s = c.args.self.now in
    omega (arith, c.bits.ensures.few, bits_from_le c.args.k s.hidden, bits_from-is c.args.k s.hidden, ap (λ n. n / 2 ^ c.args.k) c.bits.ensures.value)

pub returns-clause-visible : goal.returns-clause-visible
returns-clause-visible c =
    let s = c.args.self.now in
    let bits : c.of-2.result ≡ bits_from c.args.k s.hidden = c.of-2.ensures ∙ ap (λ n. n / 2 ^ c.args.k) c.bits.ensures.value ∙ sym (bits_from-is c.args.k s.hidden) in
    omega (arith, unset-split c.args.k s.count s.hidden (omega (arith, c.requires.within)), ap (unset (s.count - c.args.k)) bits)
