use Rattle.std.proofs.Common.{◌≡◌, ◌<◌, ◌≤◌, ℕ, true, take, get_or}
use Rattle.byte_forms.specs.Classes.{is_in}
use Rattle.byte_forms.specs.Numerals.{digit_class, number_of}
use Rattle.byte_forms.proofs.numerals.number_up_to.Given as goal

abbrev pub invariant-loop-digit : goal.invariant-loop-digit
invariant-loop-digit l = record {
  value : l.value ≡ number_of l.radix (take l.digit-index l.text);
  below : l.value ≤ l.limit;
  digits : (k : ℕ) → k < l.digit-index → is_in (digit_class l.radix) (get_or l.text k 0) ≡ true;
}
