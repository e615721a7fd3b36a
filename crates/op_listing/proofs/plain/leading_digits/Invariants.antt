-- What stays true in the loop of `leading_digits`.
use Rattle.std.proofs.Common.{◌≡◌, ◌≤◌, ◌-◌, take}
use Rattle.std.specs.Str.Parse.{AllDigits, digits_value}
use Rattle.op_listing.proofs.plain.leading_digits.Given as goal

abbrev pub invariant-loop-count : goal.invariant-loop-count
invariant-loop-count l = record {
  within : l.count ≤ 9;
  digits : AllDigits 10 (take l.count l.bytes);
  value_is : l.value ≡ digits_value 10 (take l.count l.bytes);
}

abbrev pub decreases-loop-count : goal.decreases-loop-count
decreases-loop-count l = 9 - l.count
