-- What stays true in the loop of `code`.
use Rattle.std.proofs.Common.{◌≡◌, ◌<◌, ◌≤◌, ◌^◌, true, length, take}
use Rattle.std.specs.List.{list_all}
use Rattle.ucd_files.specs.Code.{hex_value, is_hex_digit}
use Rattle.ucd_files.proofs.code.code.Given as goal

abbrev pub invariant-loop-b : goal.invariant-loop-b
invariant-loop-b l =
    (l.code ≡ hex_value (take l.b-index l.digits)) × (list_all is_hex_digit (take l.b-index l.digits) ≡ true)
    × (l.code < 16 ^ l.b-index) × (4 ≤ length l.digits) × (length l.digits ≤ 6)
