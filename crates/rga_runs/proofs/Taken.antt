-- The room that stretches take.
use Rattle.std.proofs.Common.{◌≡◌, ℕ, true, ◌<◌, ◌≤◌, ◌+◌, ◌-◌, ◌*◌, List, length, ap, arith}
use Rattle.std.proofs.Math.Nat.{min-le_left, min-le_right, le-min}
use Rattle.rga_runs.specs.declared.stretch.Stretch.{Stretch}
use Rattle.rga_runs.specs.declared.row.Row.{Row}
use Rattle.rga_runs.specs.Stretches.{elements_in, are_stored}
use Rattle.rga_runs.specs.Indexed.{stretches_in, stretches_for, IsIndexed, HasRoom, TakesRoom}
use Rattle.rga_runs.proofs.Rows.{length-row, length_counted}
use Rattle.rga_runs.proofs.Spots.{less_room}

-- no stretch more
pub none_more : (old new : Row) → length (stretches_in new) ≡ length (stretches_in old) → ((n : ℕ) → HasRoom old n → HasRoom new n) → TakesRoom 0 old new
none_more old new same kept = record {
  least = omega (arith, same);
  most = omega (arith, same);
  room = λ m k le room. kept k (less_room old m k (omega (arith, le, same)) room);
}

-- a stretch more
pub one_more : (old new : Row) → length (stretches_in new) ≡ length (stretches_in old) + 1 → ((n : ℕ) → HasRoom old (n + 1) → HasRoom new n) → TakesRoom 1 old new
one_more old new longer left = record {
  least = omega (arith, longer);
  most = omega (arith, longer);
  room = λ m k le room. left k (less_room old m (k + 1) (omega (arith, le, longer)) room);
}

-- a row that stays as it is
pub none_taken : (n : ℕ) (r : Row) → TakesRoom n r r
none_taken n r = record {
  least = omega arith;
  most = omega arith;
  room = λ m k le room. less_room r m k (omega (arith, le)) room;
}

pub more_taken : (m n : ℕ) (old new : Row) → m ≤ n → TakesRoom m old new → TakesRoom n old new
more_taken m n old new le taken = record {
  least = taken.least;
  most = omega (arith, le, taken.most);
  room = taken.room;
}

-- one change after the other
pub both_taken : (m n : ℕ) (a b c : Row) → TakesRoom m a b → TakesRoom n b c → TakesRoom (m + n) a c
both_taken m n a b c first second = record {
  least = omega (arith, first.least, second.least);
  most = omega (arith, first.most, second.most);
  room = λ i k le room.
      let j = length (stretches_in a) + i - length (stretches_in b) in
      let fits : length (stretches_in b) + j ≡ length (stretches_in a) + i = omega (arith, le, second.least) in
      second.room j k (omega (arith, le, fits)) (first.room i j (omega (arith, fits)) room);
}

-- what is left
pub room_left : (m n : ℕ) (old new : Row) → TakesRoom m old new → HasRoom old (n + m) → HasRoom new n
room_left m n old new taken room = taken.room (n + m) n (omega (arith, taken.most)) room

-- no more stretches than elements
pub few_stretches : (chars : List ℕ) (ss : List Stretch) → are_stored (length chars) ss ≡ true → length ss ≤ length (elements_in chars ss)
few_stretches chars ss stored = omega (arith, length_counted ss, length-row chars ss stored)

pub most_for : (n characters stretches : ℕ) → stretches_for n characters stretches ≤ 2 * n
most_for n characters stretches = min-le_left (2 * n) (characters + n + 1 - stretches)

-- a placing has room for two
pub two_for : (n characters stretches : ℕ) → 1 ≤ n → stretches ≤ characters → 2 ≤ stretches_for n characters stretches
two_for n characters stretches some few = le-min (omega (arith, some)) (omega (arith, some, few))

-- where characters are placed, of which the first made two stretches at most, the others have room yet
pub less_for : (n m c d s t : ℕ) → m < n → d + m ≡ c + n → t ≤ d → t ≤ s + 2 → t + stretches_for m d t ≤ s + stretches_for n c s
less_for n m c d s t less same few most =
    let x = stretches_for m d t in
    let twice : x ≤ 2 * m = min-le_left (2 * m) (d + m + 1 - t) in
    let all : x ≤ d + m + 1 - t = min-le_right (2 * m) (d + m + 1 - t) in
    let enough : t + x - s ≤ stretches_for n c s = le-min (omega (arith, twice, less, most)) (omega (arith, all, same, few)) in
    omega (arith, enough)

pub room_for_less : (n m c d : ℕ) (old new : Row) → m < n → d + m ≡ c + n → length (stretches_in new) ≤ d → TakesRoom 2 old new
    → HasRoom old (stretches_for n c (length (stretches_in old))) → HasRoom new (stretches_for m d (length (stretches_in new)))
room_for_less n m c d old new less same few taken room =
    taken.room (stretches_for n c (length (stretches_in old))) (stretches_for m d (length (stretches_in new)))
    (less_for n m c d (length (stretches_in old)) (length (stretches_in new)) less same few taken.most) room

-- where none is placed
pub room_for_same : (n c : ℕ) (old new : Row) → TakesRoom 0 old new → HasRoom old (stretches_for n c (length (stretches_in old))) → HasRoom new (stretches_for n c (length (stretches_in new)))
room_for_same n c old new taken room =
    let same : length (stretches_in new) ≡ length (stretches_in old) = omega (arith, taken.least, taken.most) in
    taken.room (stretches_for n c (length (stretches_in old))) (stretches_for n c (length (stretches_in new))) (omega (arith, same, ap (stretches_for n c) same)) room

-- ---- a row that has noted another place

pub noted : (r : Row) (b j : ℕ) → IsIndexed r → IsIndexed (record r { recent = (b, j) })
noted r b j is = record {
  homes = is.homes;
  known = is.known;
  places = is.places;
  as_many = is.as_many;
  keyed = is.keyed;
  counted = is.counted;
  halves = is.halves;
  bounds = is.bounds;
  sums = is.sums;
  few = is.few;
}

pub room_noted : (r : Row) (b j n : ℕ) → HasRoom r n → HasRoom (record r { recent = (b, j) }) n
room_noted r b j n room = record {
  paid = room.paid;
  keys = room.keys;
  blocks = room.blocks;
  places = room.places;
  few = room.few;
}
