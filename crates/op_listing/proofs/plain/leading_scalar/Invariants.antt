-- What stays true in the loop of `leading_scalar`.
use Rattle.std.proofs.Common.{◌≡◌, ◌≤◌, ◌-◌, take}
use Rattle.std.specs.Str.Parse.{AllDigits, digits_value}
use Rattle.op_listing.proofs.plain.leading_scalar.Given as goal

abbrev pub invariant-loop-count : goal.invariant-loop-count
invariant-loop-count l = record {
  within : l.count ≤ 6;
  digits : AllDigits 16 (take l.count l.bytes);
  code_is : l.code ≡ digits_value 16 (take l.count l.bytes);
}

abbrev pub decreases-loop-count : goal.decreases-loop-count
decreases-loop-count l = 6 - l.count
