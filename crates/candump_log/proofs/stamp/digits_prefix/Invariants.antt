use Rattle.std.proofs.Common.{◌≡◌, ◌≤◌, ◌<◌, ℕ, true, take, get_or}
use Rattle.std.specs.Char.{is_ascii_digit}
use Rattle.byte_forms.specs.declared.numerals.Radix.TheVariants as radixes
use Rattle.byte_forms.specs.Numerals.{number_of}
use Rattle.candump_log.proofs.stamp.digits_prefix.Given as goal

abbrev pub invariant-loop-i : goal.invariant-loop-i
invariant-loop-i l = record {
  digits : (k : ℕ) → k < l.i → is_ascii_digit (get_or l.bytes k 0) ≡ true;
  value_is : l.value ≡ number_of radixes.Decimal (take l.i l.bytes);
  few : l.i ≤ l.most;
}
