-- Where a text is cut, and what an exponent and the parts of a text are.
use Rattle.std.proofs.Common.{◌≡◌, ℕ, zero, suc, ◌+◌, ◌-◌, ◌*◌, ◌^◌, ◌<◌, ◌≤◌, min, ◌⊎◌, Bool, true, false, List, [], ◌∷◌, ◌++◌, length, take, drop, get_or, Option, Some, None, sym, ap, ◌∙◌, subst, refl, ⊎_elim, arith}
use Rattle.std.specs.Prelude.{IfSome}
use Rattle.std.proofs.Math.Seq.{drop-cons}
use Rattle.std.proofs.lemmas.List.{take_more, take-append-drop, append-nil}
use Rattle.exact_scale.specs.Digits.{IsDigit, AllDigits, number}
use Rattle.exact_scale.specs.Parts.{NoDigitFirst, NoPointFirst, TakesSign, SignSplit, DigitSplit, PointSplit, ExponentRead, NoExponent, SignedRead, NoSigned, HasParts, is_minus, capped}
use Rattle.exact_scale.specs.Numeral.{Sign, NoSign, Plus, Minus, sign_text, Numeral, fraction_digits, fraction_text, exponent_text, IsTextOf, IsDecimalText, upward, downward}
use Rattle.exact_scale.proofs.DigitLaws.{AllDigits-append}
use Rattle.exact_scale.proofs.NumeralLaws.{Prefix, prefix_of, prefix_once, digits_once, sign_once, digits_take_sign, head_same, tail_same, SameParts}

-- ---- digits in front

pub digits_more : (text : List ℕ) (i : ℕ) → i < length text → AllDigits (take i text) → IsDigit (get_or text i 0) → AllDigits (take (i + 1) text)
digits_more text i within all digit = subst AllDigits (sym (take_more text i 0 within)) (AllDigits-append (take i text) (get_or text i 0 ∷ []) all (digit, tt))

pub stops_at : (text : List ℕ) (i : ℕ) → i < length text → (IsDigit (get_or text i 0) → ⊥) → NoDigitFirst (drop i text)
stops_at text i within other = subst NoDigitFirst (sym (drop-cons text i 0 within)) other

pub split_at_stop : (text prefix back : List ℕ) (i : ℕ) → i < length text → AllDigits (take i text) → (IsDigit (get_or text i 0) → ⊥) → prefix ≡ take i text → back ≡ drop i text → DigitSplit text prefix back
split_at_stop text prefix back i within all other f b = record {
  joined = sym (take-append-drop i text) ∙ ap (λ l. l ++ drop i text) (sym f) ∙ ap (λ l. prefix ++ l) (sym b);
  digits = subst AllDigits (sym f) all;
  stop = subst NoDigitFirst (sym b) (stops_at text i within other);
}

take_all : (text : List ℕ) (i : ℕ) → length text ≤ i → take i text ≡ text
take_all [] zero past = refl
take_all [] (suc i) past = refl
take_all (d ∷ text) zero past = absurd (omega arith)
take_all (d ∷ text) (suc i) past = ap (λ l. d ∷ l) (take_all text i (omega arith))

drop_all : (text : List ℕ) (i : ℕ) → length text ≤ i → drop i text ≡ []
drop_all [] zero past = refl
drop_all [] (suc i) past = refl
drop_all (d ∷ text) zero past = absurd (omega arith)
drop_all (d ∷ text) (suc i) past = drop_all text i (omega arith)

-- all digits
pub split_at_end : (text prefix back : List ℕ) (i : ℕ) → length text ≤ i → AllDigits (take i text) → prefix ≡ take (length text) text → back ≡ drop (length text) text → DigitSplit text prefix back
split_at_end text prefix back i past all f b = record {
  joined = sym (take-append-drop (length text) text) ∙ ap (λ l. l ++ drop (length text) text) (sym f) ∙ ap (λ l. prefix ++ l) (sym b);
  digits = subst AllDigits (take_all text i past ∙ sym (take_all text (length text) (omega arith)) ∙ sym f) all;
  stop = subst NoDigitFirst (sym (b ∙ drop_all text (length text) (omega arith))) tt;
}

-- ---- a point

pub point_taken : (text after digits tail : List ℕ) → text ≡ 46 ∷ after → DigitSplit after digits tail → PointSplit text digits tail
point_taken text after digits tail e split = record {
  fraction = Some digits;
  joined = e ∙ ap (λ l. 46 ∷ l) split.joined;
  shown = refl;
  all = split.digits;
  takes = tt;
  stop = split.stop;
}

pub no_point : (text digits tail : List ℕ) → NoPointFirst text → NoDigitFirst text → digits ≡ [] → tail ≡ text → PointSplit text digits tail
no_point text digits tail other stop none same = record {
  fraction = None;
  joined = sym same;
  shown = sym none;
  all = subst AllDigits (sym none) tt;
  takes = subst NoPointFirst (sym same) other;
  stop = subst NoDigitFirst (sym same) stop;
}

-- ---- an exponent

upward_by : (sign : Sign) (n : ℕ) → is_minus sign ≡ true → (upward sign n ≡ 0) × (downward sign n ≡ n)
upward_by NoSign n e = cc
upward_by Plus n e = cc
upward_by Minus n e = (refl, refl)

downward_by : (sign : Sign) (n : ℕ) → is_minus sign ≡ false → (upward sign n ≡ n) × (downward sign n ≡ 0)
downward_by NoSign n e = (refl, refl)
downward_by Plus n e = (refl, refl)
downward_by Minus n e = cc

signed_digits : (text unsigned digits rest : List ℕ) (sign : Sign) → text ≡ sign_text sign ++ unsigned → unsigned ≡ digits ++ rest → rest ≡ [] → text ≡ sign_text sign ++ digits
signed_digits text unsigned digits rest sign e split none = e ∙ ap (λ l. sign_text sign ++ l) (split ∙ ap (λ l. digits ++ l) none ∙ append-nil digits)

pub signed_down : (text unsigned digits rest : List ℕ) (size : ℕ) → SignSplit text true unsigned → DigitSplit unsigned digits rest → 0 < length digits → rest ≡ []
    → size ≡ capped (number digits) → SignedRead text 0 size
signed_down text unsigned digits rest size s d some none e = record {
  sign = s.sign;
  digits = digits;
  all = d.digits;
  some_digit = some;
  joined = signed_digits text unsigned digits rest s.sign s.joined d.joined none;
  upward = sym (ap capped (upward_by s.sign (number digits) s.minus).0);
  downward = e ∙ sym (ap capped (upward_by s.sign (number digits) s.minus).1);
}

pub signed_up : (text unsigned digits rest : List ℕ) (size : ℕ) → SignSplit text false unsigned → DigitSplit unsigned digits rest → 0 < length digits → rest ≡ []
    → size ≡ capped (number digits) → SignedRead text size 0
signed_up text unsigned digits rest size s d some none e = record {
  sign = s.sign;
  digits = digits;
  all = d.digits;
  some_digit = some;
  joined = signed_digits text unsigned digits rest s.sign s.joined d.joined none;
  upward = e ∙ sym (ap capped (downward_by s.sign (number digits) s.minus).0);
  downward = sym (ap capped (downward_by s.sign (number digits) s.minus).1);
}

pub no_signed : (text unsigned digits rest : List ℕ) (negative : Bool) → SignSplit text negative unsigned → DigitSplit unsigned digits rest
    → (length digits ≡ 0) ⊎ (0 < length rest) → NoSigned text
no_signed text unsigned digits rest negative s d fault sign ds all some e =
    let body = sign_once sign s.sign ds unsigned (digits_take_sign sign ds all) s.takes (sym e ∙ s.joined) in
    let same = digits_once ds digits [] rest all d.digits tt d.stop (append-nil ds ∙ body.1 ∙ d.joined) in
    ⊎_elim (λ none. omega (arith, ap length same.0)) (λ more. omega (arith, ap length same.1)) fault

pub exponent_read : (text after : List ℕ) (mark up down : ℕ) → text ≡ mark ∷ after → (mark ≡ 101) ⊎ (mark ≡ 69) → SignedRead after up down → ExponentRead text up down
exponent_read text after mark up down e is_mark s = record {
  exponent = Some (record { mark = mark; sign = s.sign; digits = s.digits });
  valid = (is_mark, s.all, s.some_digit);
  joined = e ∙ ap (λ l. mark ∷ l) s.joined;
  upward = s.upward;
  downward = s.downward;
}

pub no_exponent_after : (text after : List ℕ) (mark : ℕ) → text ≡ mark ∷ after → NoSigned after → NoExponent text
no_exponent_after text after mark e none None valid same = cc
no_exponent_after text after mark e none (Some x) valid same = none x.sign x.digits valid.1 valid.2 (tail_same (sym e ∙ same))

pub no_exponent_other : (text after : List ℕ) (mark : ℕ) → text ≡ mark ∷ after → (mark ≡ 101 → ⊥) → (mark ≡ 69 → ⊥) → NoExponent text
no_exponent_other text after mark e small large None valid same = cc
no_exponent_other text after mark e small large (Some x) valid same =
    let head : mark ≡ x.mark = head_same (sym e ∙ same) in
    ⊎_elim (λ m. small (head ∙ m)) (λ m. large (head ∙ m)) valid.0

-- ---- the parts together

split_prefix : (text unsigned whole after digits tail : List ℕ) (negative : Bool) (s : SignSplit text negative unsigned) → DigitSplit unsigned whole after → (p : PointSplit after digits tail)
    → Prefix text s.sign whole p.fraction tail
split_prefix text unsigned whole after digits tail negative s d p =
    let body = d.joined ∙ ap (λ l. whole ++ l) p.joined in
    record {
      joined = s.joined ∙ ap (λ l. sign_text s.sign ++ l) body;
      takes_sign = subst (TakesSign s.sign) body s.takes;
      whole_digits = d.digits;
      point_digits = subst AllDigits (sym p.shown) p.all;
      takes_point = p.takes;
      no_digit = p.stop;
    }

pub has_parts : (text unsigned whole after digits tail : List ℕ) (negative : Bool) (up down : ℕ) → SignSplit text negative unsigned → DigitSplit unsigned whole after
    → PointSplit after digits tail → ExponentRead tail up down → 0 < length whole + length digits → HasParts text negative whole digits up down
has_parts text unsigned whole after digits tail negative up down s d p x some =
    let prefix = split_prefix text unsigned whole after digits tail negative s d p in
    record {
      numeral = record { sign = s.sign; whole = whole; fraction = p.fraction; exponent = x.exponent };
      written_so = record {
        valid = record { whole = d.digits; fraction = prefix.point_digits; some_digit = omega (arith, ap length p.shown); exponent = x.valid };
        joined = prefix.joined ∙ ap (λ l. sign_text s.sign ++ (whole ++ (fraction_text p.fraction ++ l))) x.joined;
      };
      minus = s.minus;
      whole = refl;
      fraction = p.shown;
      upward = x.upward;
      downward = x.downward;
    }

same_parts : (text unsigned whole after digits tail : List ℕ) (negative : Bool) (s : SignSplit text negative unsigned) → DigitSplit unsigned whole after → (p : PointSplit after digits tail)
    → (t : Numeral) → IsTextOf text t → SameParts s.sign t.sign whole t.whole p.fraction t.fraction tail (exponent_text t.exponent)
same_parts text unsigned whole after digits tail negative s d p t written_so =
    prefix_once text s.sign t.sign whole t.whole p.fraction t.fraction tail (exponent_text t.exponent)
    (split_prefix text unsigned whole after digits tail negative s d p) (prefix_of text t written_so)

pub no_digits : (text unsigned whole after digits tail : List ℕ) (negative : Bool) → SignSplit text negative unsigned → DigitSplit unsigned whole after
    → PointSplit after digits tail → length whole + length digits ≡ 0 → ¬ IsDecimalText text
no_digits text unsigned whole after digits tail negative s d p none (t, written_so) =
    let same = same_parts text unsigned whole after digits tail negative s d p t written_so in
    let count = ap (λ f. length (fraction_digits f)) same.fraction in
    omega (arith, written_so.valid.some_digit, ap length same.whole, count, ap length p.shown)

pub bad_exponent : (text unsigned whole after digits tail : List ℕ) (negative : Bool) → SignSplit text negative unsigned → DigitSplit unsigned whole after
    → PointSplit after digits tail → NoExponent tail → ¬ IsDecimalText text
bad_exponent text unsigned whole after digits tail negative s d p none (t, written_so) =
    none t.exponent written_so.valid.exponent (same_parts text unsigned whole after digits tail negative s d p t written_so).tail

-- ---- a text by its first byte

pub first_byte : (text : List ℕ) (byte : ℕ) → 1 ≤ length text → get_or text 0 0 ≡ byte → text ≡ byte ∷ take (length text - 1) (drop 1 text)
first_byte [] byte some e = absurd (omega arith)
first_byte (d ∷ text) byte some e =
    let less : length text ≤ suc (length text) - 1 = omega arith in
    ap (λ l. d ∷ l) (sym (take_all text (suc (length text) - 1) less)) ∙ ap (λ b. b ∷ take (suc (length text) - 1) text) e

pub capped_more : (n digit size result : ℕ) → size ≡ capped n → result ≡ min (size * 10 + digit) (2 ^ 100) → result ≡ capped (n * 10 + digit)
capped_more n digit size result so_far e = omega arith

pub some_weaker : {T : Type 0} (r : Option T) (P Q : T → Type 0) → ((x : T) → P x → Q x) → IfSome r P → IfSome r Q
some_weaker None P Q weaker h = tt
some_weaker (Some x) P Q weaker h = weaker x h
