-- The hasher of tables by identifier, and what it reads.
use Rattle.std.specs.Prelude.{ℕ, true, false, ◌+◌, ◌*◌, ◌/◌, ◌%◌, ◌^◌, List, get_or, if◌then◌else◌}
use Rattle.bg_types.specs.declared.keyed.Keyed.{Keyed}
use Rattle.bg_types.specs.declared.keyed.KeyedHasher.{KeyedHasher}

-- the first four bytes as a number, the lowest first
abbrev pub word : List ℕ → ℕ
word bs = get_or bs 0 0 + 0x100 * get_or bs 1 0 + 0x1_0000 * get_or bs 2 0 + 0x100_0000 * get_or bs 3 0

-- the hasher of a key: one half of it is the factor of the first number written, the other that of each further one
abbrev pub keyed : ℕ → Keyed
keyed key = record {
  start = record {
    sum = 0;
    near = 0;
    is_new = true;
    factor = (key % 2 ^ 64 + 0x9e37_79b9_7f4a_7c15) % 2 ^ 64;
    next = (key / 2 ^ 64 + 0x2545_f491_4f6c_dd1d) % 2 ^ 64;
  };
}

-- after a further number: of the first one the sum has the eighth part, and the rest of the division is beside it
abbrev pub written : KeyedHasher → ℕ → KeyedHasher
written h number = if h.is_new
    then record { sum = h.factor * (number / 8) % 2 ^ 64; near = 0x2000_0000 * (number % 8); is_new = false; factor = h.factor; next = h.next }
    else record { sum = (h.sum + h.next * number) % 2 ^ 64; near = h.near; is_new = false; factor = h.factor; next = h.next }
