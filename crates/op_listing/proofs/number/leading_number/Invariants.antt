-- What stays true in the loop of `leading_number`.
use Rattle.std.proofs.Common.{◌≡◌, ◌≤◌, ◌-◌, take}
use Rattle.std.specs.Str.Parse.{AllDigits, digits_value}
use Rattle.op_listing.proofs.number.leading_number.Given as goal

abbrev pub invariant-loop-count : goal.invariant-loop-count
invariant-loop-count l = record {
  within : l.count ≤ l.end;
  digits : AllDigits 10 (take l.count l.word);
  value_is : l.value ≡ digits_value 10 (take l.count l.word);
}

abbrev pub decreases-loop-count : goal.decreases-loop-count
decreases-loop-count l = l.end - l.count
