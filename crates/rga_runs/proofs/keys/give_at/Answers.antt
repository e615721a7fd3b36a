-- The goals of `give_at` that are answered by hand.
use Rattle.std.proofs.Common.{◌≡◌, ℕ, ◌+◌, ◌-◌, ◌<◌, ◌++◌, ◌∙◌, [], List, length, take, drop, get_or, sym, ap, length-append, length-set, arith}
use Rattle.std.specs.Prelude.{set}
use Rattle.std.proofs.Math.ListN.{get_or-append}
use Rattle.std.proofs.lemmas.List.{map-set, set-append_left, set-append_right, get_or-append_right}
use Rattle.rga_runs.specs.declared.leaf.Leaf.{Leaf}
use Rattle.rga_runs.specs.Leaves.{keys_of}
use Rattle.rga_runs.proofs.LeafRows.{keys_there}
use Rattle.rga_runs.proofs.keys.give_at.Goals as goal

-- ---- two leaves, borrowed out of the parts of a row

module _ (front back : List Leaf) (b : ℕ) (long : length front ≡ b + 1) (some : 0 < length back) where
  none_left : b + 1 - (b + 1) ≡ 0
  none_left = omega arith

  keys_last : (x : Leaf) → get_or (keys_of (front ++ back)) b [] ≡ (get_or front b x).keys.items
  keys_last x =
      keys_there (front ++ back) b x (omega (arith, long, length-append front back))
      ∙ ap (λ (l : Leaf). l.keys.items) (get_or-append front back x b (omega (arith, long)))

  keys_next : (y : Leaf) → get_or (keys_of (front ++ back)) (b + 1) [] ≡ (get_or back 0 y).keys.items
  keys_next y =
      keys_there (front ++ back) (b + 1) y (omega (arith, long, some, length-append front back))
      ∙ ap (λ (l : Leaf). l.keys.items) (get_or-append_right front back (b + 1) (b + 1) y long (omega arith))
      ∙ ap (λ n. (get_or back n y).keys.items) none_left

  keys_set : (low high : Leaf) → keys_of (set front b low ++ set back 0 high) ≡ set (set (keys_of (front ++ back)) b low.keys.items) (b + 1) high.keys.items
  keys_set low high =
      ap (λ n. keys_of (set front b low ++ set back n high)) (sym none_left)
      ∙ ap keys_of (sym (set-append_right (set front b low) back (b + 1) (b + 1) high (length-set front b low ∙ long) (omega arith)))
      ∙ ap (λ (ls : List Leaf). keys_of (set ls (b + 1) high)) (sym (set-append_left front back b low (omega (arith, long))))
      ∙ map-set (λ (l : Leaf). l.keys.items) (set (front ++ back) b low) (b + 1) high
      ∙ ap (λ xs. set xs (b + 1) high.keys.items) (map-set (λ (l : Leaf). l.keys.items) (front ++ back) b low)

pub bounds-front-b : goal.bounds-front-b
bounds-front-b c = omega (arith, c.split_at_mut-front.ensures.front_len)

pub bounds-back-0 : goal.bounds-back-0
bounds-back-0 c = omega (arith, c.split_at_mut-front.ensures.back_len, c.requires.next)

pub give-requires-clause-within : goal.give-requires-clause-within
give-requires-clause-within c =
    let front = c.split_at_mut-front.result.0.now in
    let back = c.split_at_mut-front.result.1.now in
    let long = c.split_at_mut-front.ensures.front_len in
    let some : 0 < length back = omega (arith, c.split_at_mut-front.ensures.back_len, c.requires.next) in
    let last = keys_last front back c.args.b long some c.index-front-b.result in
    omega (arith, c.requires.within, ap (λ (ls : List Leaf). length (get_or (keys_of ls) c.args.b [])) c.split_at_mut-front.ensures.value, ap length last)

pub give-requires-clause-room : goal.give-requires-clause-room
give-requires-clause-room c =
    let front = c.split_at_mut-front.result.0.now in
    let back = c.split_at_mut-front.result.1.now in
    let long = c.split_at_mut-front.ensures.front_len in
    let some : 0 < length back = omega (arith, c.split_at_mut-front.ensures.back_len, c.requires.next) in
    let last = keys_last front back c.args.b long some c.index-front-b.result in
    let next = keys_next front back c.args.b long some c.index-back-0.result in
    omega (
      arith,
      c.requires.room,
      ap (λ (ls : List Leaf). length (get_or (keys_of ls) c.args.b [])) c.split_at_mut-front.ensures.value,
      ap length last,
      ap (λ (ls : List Leaf). length (get_or (keys_of ls) (c.args.b + 1) [])) c.split_at_mut-front.ensures.value,
      ap length next,
    )

pub returns : goal.returns
returns c =
    let front = c.split_at_mut-front.result.0.now in
    let back = c.split_at_mut-front.result.1.now in
    let b = c.args.b in
    let at = c.args.at in
    let long = c.split_at_mut-front.ensures.front_len in
    let some : 0 < length back = omega (arith, c.split_at_mut-front.ensures.back_len, c.requires.next) in
    let last = keys_last front back b long some c.index-front-b.result in
    let next = keys_next front back b long some c.index-back-0.result in
    let kept : c.give.new.self.keys.items ≡ take at (get_or (keys_of (front ++ back)) b []) = c.give.ensures.keys ∙ ap (take at) (sym last) in
    let more : c.give.new.next.keys.items ≡ drop at (get_or (keys_of (front ++ back)) b []) ++ get_or (keys_of (front ++ back)) (b + 1) [] =
    c.give.ensures.next ∙ (λ i. drop at (sym last i) ++ sym next i) in
    keys_set front back b long some c.give.new.self c.give.new.next
    ∙ (λ i. set (set (keys_of (front ++ back)) b (kept i)) (b + 1) (more i))
    ∙ ap (λ (ls : List Leaf). set (set (keys_of ls) b (take at (get_or (keys_of ls) b []))) (b + 1) (drop at (get_or (keys_of ls) b []) ++ get_or (keys_of ls) (b + 1) []))
    (sym c.split_at_mut-front.ensures.value)
