use Rattle.std.proofs.Common.{◌≡◌, ◌<◌, ◌^◌, true, take, drop}
use Rattle.std.specs.List.{list_all}
use Rattle.std.specs.Char.{is_digit}
use Rattle.std.specs.Str.Parse.{digits_value, digits_value_after}
use Rattle.line_words.proofs.number.natural.Given as goal

abbrev pub invariant-loop-c : goal.invariant-loop-c
invariant-loop-c l = record {
  small : l.value < 2 ^ 32;
  digits : list_all (λ c. is_digit c l.radix) (take l.c-index l.digits) ≡ true;
  value : digits_value_after l.radix l.value (drop l.c-index l.digits) ≡ digits_value l.radix l.digits;
}
