-- Decimal digits at the front of a text.
use Rattle.std.proofs.Common.{◌≡◌, ℕ, ◌+◌, ◌-◌, ◌*◌, ◌^◌, ◌<◌, ◌≤◌, Bool, true, false, leb, List, [], ◌∷◌, length, ◌++◌, get_or, take, drop, cond, codes, Some, None, refl, sym, ap, ◌∙◌, arith, ltb, inl, inr, below_more, length-append}
use Rattle.std.proofs.lemmas.Grind.{common_steps}
use Rattle.std.specs.Char.{is_ascii_digit, digit_value}
use Rattle.std.specs.List.{list_all, prefix_len}
use Rattle.std.proofs.lemmas.Bool.{cases_Bool, and_parts, leb-true, le-leb, lt-ltb}
use Rattle.std.proofs.lemmas.List.{get_or-take, length-take, take-append-drop, take_at, drop_at}
use Rattle.std.proofs.lemmas.List.Sums.{prefix_len_is, prefix_len_stops, prefix_len-le-length}
use Rattle.std.proofs.Math.Nat.{one-le-pow}
use Rattle.std.proofs.lemmas.Int.Digits.{digits_value_more}
use Rattle.byte_forms.specs.declared.numerals.Radix.TheVariants as radixes
use Rattle.byte_forms.specs.Numerals.{number_of, is_numeral}
use Rattle.byte_forms.specs.Pieces.{after_literal}
use Rattle.candump_log.specs.Line.{AreDigits}
use Rattle.candump_log.specs.LineOf.{digits_prefix, number_before, stamp_prefix}
use Rattle.candump_log.proofs.ByteLaws.{LiteralLaw, CountLaw, bind_some, list_all_from, list_all-take_while}
use Rattle.candump_log.proofs.BlankLaws.{StopsAt, prefix_len-before}

-- this many digits are at the front at least
abbrev pub DigitsTo : List ℕ → ℕ → Type 0
DigitsTo bytes i = (k : ℕ) → k < i → is_ascii_digit (get_or bytes k 0) ≡ true

all_to : (bytes : List ℕ) (i : ℕ) → i ≤ length bytes → DigitsTo bytes i → list_all is_ascii_digit (take i bytes) ≡ true
all_to bytes i within digits =
    let n : length (take i bytes) ≡ i = omega (arith, length-take {A = ℕ}) in
    list_all_from is_ascii_digit (take i bytes) (λ k lt. let low : k < i = omega arith in rw (get_or-take i bytes k 0 low) (digits k low))

-- digits are a numeral
pub numeral_of : (text : List ℕ) → 0 < length text → list_all is_ascii_digit text ≡ true → is_numeral radixes.Decimal text ≡ true
numeral_of text some all = let t = lt-ltb 0 (length text) some in rw (all, t) refl

below_all : (law : CountLaw) (text : List ℕ) (k : ℕ) → list_all is_ascii_digit text ≡ true → length text ≤ k → number_of radixes.Decimal text < 10 ^ k
below_all law [] k all short = one-le-pow k 10 (omega arith)
below_all law (b ∷ bs) k all short = law (b ∷ bs) k (numeral_of (b ∷ bs) (omega arith) all) short

-- the number of so many digits
pub value-below : (law : CountLaw) (bytes : List ℕ) (i k value : ℕ) → i ≤ length bytes → i ≤ k → DigitsTo bytes i → value ≡ number_of radixes.Decimal (take i bytes) → value < 10 ^ k
value-below law bytes i k value within few digits is =
    let n : length (take i bytes) ≡ i = omega (arith, length-take {A = ℕ}) in
    rw is (below_all law (take i bytes) k (all_to bytes i within digits) (omega arith))

digit_value-is : (b : ℕ) → is_ascii_digit b ≡ true → digit_value b ≡ b - 48
digit_value-is b digit = grind (arith, common_steps)

-- one digit more
pub value_more : (bytes : List ℕ) (i value : ℕ) → i < length bytes → is_ascii_digit (get_or bytes i 0) ≡ true → value ≡ number_of radixes.Decimal (take i bytes)
    → value * 10 + (get_or bytes i 0 - 48) ≡ number_of radixes.Decimal (take (i + 1) bytes)
value_more bytes i value lt digit is =
    let more = digits_value_more 10 bytes i lt in
    let d = digit_value-is (get_or bytes i 0) digit in
    omega (arith, more, d)

-- the digits end here
pub digits_end : (most : ℕ) (bytes : List ℕ) (i value : ℕ) → i ≤ length bytes → i ≤ most → DigitsTo bytes i → (i < length bytes → is_ascii_digit (get_or bytes i 0) ≡ false)
    → value ≡ number_of radixes.Decimal (take i bytes) → Some (i, value) ≡ digits_prefix most bytes
unfolding digits_prefix
digits_end most bytes i value within few digits stop is =
    let n : prefix_len is_ascii_digit bytes ≡ i = prefix_len_is is_ascii_digit bytes i 0 within digits stop in
    rw (n, le-leb i most few, is) refl

-- there are more than that
pub digits_too_many : (most : ℕ) (bytes : List ℕ) → most < length bytes → DigitsTo bytes most → is_ascii_digit (get_or bytes most 0) ≡ true → None ≡ digits_prefix most bytes
unfolding digits_prefix
digits_too_many most bytes within digits last =
    elim (cases_Bool (leb (prefix_len is_ascii_digit bytes) most)) [
      | inl holds ↦
          let few : prefix_len is_ascii_digit bytes ≤ most = leb-true (prefix_len is_ascii_digit bytes) most holds in
          absurd (not_both (is_ascii_digit (get_or bytes (prefix_len is_ascii_digit bytes) 0))
          (all_most most bytes digits last (prefix_len is_ascii_digit bytes) few)
          (prefix_len_stops is_ascii_digit bytes 0 (omega arith)))
      | inr fails ↦ rw fails refl
    ]
  where
    not_both : (b : Bool) → b ≡ true → b ≡ false → ⊥
    not_both b t f = cc

    all_most : (most : ℕ) (bytes : List ℕ) → DigitsTo bytes most → is_ascii_digit (get_or bytes most 0) ≡ true → (n : ℕ) → n ≤ most → is_ascii_digit (get_or bytes n 0) ≡ true
    all_most most bytes digits last n few = below_more _ _ digits last n (omega arith)

-- what follows a literal is no longer than the whole
pub after_literal-shorter : (law : LiteralLaw) (literal bytes rest : List ℕ) → Some rest ≡ after_literal literal bytes → length rest ≤ length bytes
after_literal-shorter law literal bytes rest e = omega (arith, ap length ((law literal bytes rest).0 (sym e)), length-append literal rest)

-- the number of these digits, which nothing of their kind follows
record IsDigits (least most : ℕ) (digits : List ℕ) (n : ℕ) : Type 0 where
  all : list_all is_ascii_digit digits ≡ true
  least_is : least ≤ length digits
  most_is : length digits ≤ most
  value : n ≡ number_of radixes.Decimal digits

pair_of : (b : Bool) (x y : ℕ × ℕ) → cond b (Some x) None ≡ Some y → (b ≡ true) × (x ≡ y)
pair_of true x y e = (refl, cc)
pair_of false x y e = absurd cc

number_of_cond : (b : Bool) (x y : ℕ × List ℕ) → cond b (Some x) None ≡ Some y → (b ≡ true) × (x ≡ y)
number_of_cond true x y e = (refl, cc)
number_of_cond false x y e = absurd cc

digits_prefix_takes : (most : ℕ) (bytes : List ℕ) (d : ℕ × ℕ) → digits_prefix most bytes ≡ Some d →
    (d.0 ≤ most) × (d.0 ≡ prefix_len is_ascii_digit bytes) × (d.1 ≡ number_of radixes.Decimal (take (prefix_len is_ascii_digit bytes) bytes))
unfolding digits_prefix
digits_prefix_takes most bytes d e =
    let n = prefix_len is_ascii_digit bytes in
    let test = pair_of (leb n most) (n, number_of radixes.Decimal (take n bytes)) d e in
    let count : n ≡ d.0 = ap (λ (x : ℕ × ℕ). x.0) test.1 in
    (omega (arith, leb-true n most test.0, count), sym count, sym (ap (λ (x : ℕ × ℕ). x.1) test.1))

number_before_takes : (law : LiteralLaw) (least most : ℕ) (literal bytes rest : List ℕ) (n : ℕ) → number_before least most literal bytes ≡ Some (n, rest) →
    (digits : List ℕ) × IsDigits least most digits n × (bytes ≡ digits ++ (literal ++ rest))
unfolding number_before
number_before_takes law least most literal bytes rest n e =
    let d = bind_some (digits_prefix most bytes) _ _ e in
    let prefix = digits_prefix_takes most bytes d.0 d.1 in
    let l = bind_some (after_literal literal (drop d.0.0 bytes)) _ _ d.2 in
    let test = number_of_cond (leb least d.0.0) (d.0.1, l.0) (n, rest) l.2 in
    let k = prefix_len is_ascii_digit bytes in
    let within : k ≤ length bytes = prefix_len-le-length is_ascii_digit bytes in
    let count : length (take k bytes) ≡ k = omega (arith, length-take k bytes) in
    let value : d.0.1 ≡ n = ap (λ (x : ℕ × List ℕ). x.0) test.1 in
    let behind : l.0 ≡ rest = ap (λ (x : ℕ × List ℕ). x.1) test.1 in
    let low : least ≤ d.0.0 = leb-true least d.0.0 test.0 in
    let whole : take k bytes ++ drop k bytes ≡ bytes = take-append-drop k bytes in
    let after : drop k bytes ≡ literal ++ rest = ap (λ (m : ℕ). drop m bytes) (sym prefix.1) ∙ (law literal (drop d.0.0 bytes) l.0).0 l.1 ∙ ap (λ (r : List ℕ). literal ++ r) behind in (
      take k bytes,
      record {
        all = list_all-take_while is_ascii_digit bytes;
        least_is = omega (arith, low, prefix.1, count);
        most_is = omega (arith, prefix.0, prefix.1, count);
        value = sym value ∙ prefix.2;
      },
      sym whole ∙ ap (λ (r : List ℕ). take k bytes ++ r) after,
    )

number_before-append : (law : LiteralLaw) (least most : ℕ) (literal digits rest : List ℕ) (n : ℕ) → IsDigits least most digits n → StopsAt is_ascii_digit (literal ++ rest) →
    number_before least most literal (digits ++ (literal ++ rest)) ≡ Some (n, rest)
unfolding number_before digits_prefix
number_before-append law least most literal digits rest n is stop =
    let k : prefix_len is_ascii_digit (digits ++ (literal ++ rest)) ≡ length digits = prefix_len-before is_ascii_digit digits (literal ++ rest) is.all stop in
    let few : leb (length digits) most ≡ true = le-leb (length digits) most is.most_is in
    let low : leb least (length digits) ≡ true = le-leb least (length digits) is.least_is in
    let prefix : take (length digits) (digits ++ (literal ++ rest)) ≡ digits = take_at digits (literal ++ rest) (length digits) refl in
    let behind : drop (length digits) (digits ++ (literal ++ rest)) ≡ literal ++ rest = drop_at digits (literal ++ rest) (length digits) refl in
    let after : after_literal literal (literal ++ rest) ≡ Some rest = (law literal (literal ++ rest) rest).1 refl in
    rw (k, few, prefix, behind, after, low) (ap (λ (m : ℕ). Some (m, rest)) (sym is.value))

are_digits : (least most : ℕ) (digits : List ℕ) (n : ℕ) → 1 ≤ least → IsDigits least most digits n → AreDigits least most digits
are_digits least most digits n some is = (numeral_of digits (omega (arith, is.least_is)) is.all, is.least_is, is.most_is)

is_digits : (least most : ℕ) (digits : List ℕ) → AreDigits least most digits → IsDigits least most digits (number_of radixes.Decimal digits)
is_digits least most digits are =
    record { all = (and_parts (ltb 0 (length digits)) (list_all is_ascii_digit digits) are.0).1; least_is = are.1; most_is = are.2; value = refl }

-- a stamp's text
abbrev pub stamp_text : List ℕ → List ℕ → List ℕ → List ℕ
stamp_text seconds micros rest = codes "(" ++ (seconds ++ (codes "." ++ (micros ++ (codes ")" ++ rest))))

pub record IsStamp (bytes seconds micros : List ℕ) (n : ℕ) (rest : List ℕ) : Type 0 where
  pub text : bytes ≡ stamp_text seconds micros rest
  pub seconds_are : AreDigits 1 12 seconds
  pub micros_are : AreDigits 6 6 micros
  pub value : n ≡ number_of radixes.Decimal seconds * 1000000 + number_of radixes.Decimal micros

pub stamp_prefix_takes : (law : LiteralLaw) (bytes rest : List ℕ) (n : ℕ) → stamp_prefix bytes ≡ Some (n, rest) → (seconds : List ℕ) × (micros : List ℕ) × IsStamp bytes seconds micros n rest
unfolding stamp_prefix
stamp_prefix_takes law bytes rest n e =
    let o = bind_some (after_literal (codes "(") bytes) _ _ e in
    let s = bind_some (number_before 1 12 (codes ".") o.0) _ _ o.2 in
    let m = bind_some (number_before 6 6 (codes ")") s.0.1) _ _ s.2 in
    let seconds = number_before_takes law 1 12 (codes ".") o.0 s.0.1 s.0.0 s.1 in
    let micros = number_before_takes law 6 6 (codes ")") s.0.1 m.0.1 m.0.0 m.1 in
    let value : s.0.0 * 1000000 + m.0.0 ≡ n = some_first _ _ m.2 in
    let behind : m.0.1 ≡ rest = some_second _ _ m.2 in
    let opened : bytes ≡ codes "(" ++ o.0 = (law (codes "(") bytes o.0).0 o.1 in (
      seconds.0,
      micros.0,
      record {
        text = opened
            ∙ ap (λ (r : List ℕ). codes "(" ++ r) (seconds.2 ∙ ap (λ (r : List ℕ). seconds.0 ++ (codes "." ++ r)) (micros.2 ∙ ap (λ (r : List ℕ). micros.0 ++ (codes ")" ++ r)) behind));
        seconds_are = are_digits 1 12 seconds.0 s.0.0 (omega arith) seconds.1;
        micros_are = are_digits 6 6 micros.0 m.0.0 (omega arith) micros.1;
        value = sym value ∙ same_stamp s.0.0 m.0.0 _ _ seconds.1.value micros.1.value;
      },
    )
  where
    some_first : (x y : ℕ × List ℕ) → Some x ≡ Some y → x.0 ≡ y.0
    some_first x y e = let same : x ≡ y = cc in ap (λ (p : ℕ × List ℕ). p.0) same

    some_second : (x y : ℕ × List ℕ) → Some x ≡ Some y → x.1 ≡ y.1
    some_second x y e = let same : x ≡ y = cc in ap (λ (p : ℕ × List ℕ). p.1) same

    same_stamp : (s m a b : ℕ) → s ≡ a → m ≡ b → s * 1000000 + m ≡ a * 1000000 + b
    same_stamp s m a b e f = omega arith

pub stamp_prefix-text : (law : LiteralLaw) (seconds micros rest : List ℕ) → AreDigits 1 12 seconds → AreDigits 6 6 micros →
    stamp_prefix (stamp_text seconds micros rest) ≡ Some (number_of radixes.Decimal seconds * 1000000 + number_of radixes.Decimal micros, rest)
unfolding stamp_prefix
stamp_prefix-text law seconds micros rest s m =
    rw (
      (law (codes "(") (codes "(" ++ (seconds ++ (codes "." ++ (micros ++ (codes ")" ++ rest))))) (seconds ++ (codes "." ++ (micros ++ (codes ")" ++ rest))))).1 refl,
      number_before-append law 1 12 (codes ".") seconds (micros ++ (codes ")" ++ rest)) _ (is_digits 1 12 seconds s) refl,
      number_before-append law 6 6 (codes ")") micros rest _ (is_digits 6 6 micros m) refl,
    )
    refl
