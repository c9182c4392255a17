use Rattle.std.proofs.Common.{◌≡◌, ◌≤◌, length, take}
use Rattle.std.specs.Str.Parse.{digits_value, AllDigits}
use Rattle.charset_map.proofs.characters.code_point.Given as goal

abbrev pub invariant-loop-digit : goal.invariant-loop-digit
invariant-loop-digit l = record {
  few : length l.digits ≤ 6;
  some : 1 ≤ length l.digits;
  hexadecimal : AllDigits 16 (take l.digit-index l.digits);
  value : l.code ≡ digits_value 16 (take l.digit-index l.digits);
}
