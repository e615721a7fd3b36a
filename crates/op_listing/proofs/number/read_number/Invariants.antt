-- What stays true in the loop of `read_number`.
use Rattle.std.proofs.Common.{◌≡◌, ◌<◌, ◌^◌, take}
use Rattle.std.specs.Str.Parse.{AllDigits, digits_value}
use Rattle.op_listing.proofs.number.read_number.Given as goal

abbrev pub invariant-loop-byte : goal.invariant-loop-byte
invariant-loop-byte l = record {
  digits : AllDigits l.base (take l.byte-index l.word);
  value_is : l.value ≡ digits_value l.base (take l.byte-index l.word);
  small : l.value < 2 ^ 32;
}
