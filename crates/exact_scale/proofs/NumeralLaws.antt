-- A text is written in one way.
use Rattle.std.proofs.Common.{◌≡◌, ℕ, ◌+◌, ◌<◌, List, [], ◌∷◌, ◌++◌, length, Option, Some, None, sym, ap, ◌∙◌, subst, refl, ⊎_elim, arith}
use Rattle.exact_scale.specs.Digits.{AllDigits}
use Rattle.exact_scale.specs.Parts.{NoDigitFirst, NoPointFirst, NoSignFirst, TakesSign, TakesPoint}
use Rattle.exact_scale.specs.Numeral.{Sign, NoSign, Plus, Minus, sign_text, Exponent, Numeral, fraction_digits, fraction_text, exponent_text, IsValidExponent, IsTextOf}

pub head_same : {x y : ℕ} {xs ys : List ℕ} → x ∷ xs ≡ y ∷ ys → x ≡ y
head_same e = cc

pub tail_same : {x y : ℕ} {xs ys : List ℕ} → x ∷ xs ≡ y ∷ ys → xs ≡ ys
tail_same e = cc

-- the digits in front are the same, and so is what follows
pub digits_once : (prefix prefix' back back' : List ℕ) → AllDigits prefix → AllDigits prefix' → NoDigitFirst back → NoDigitFirst back'
    → prefix ++ back ≡ prefix' ++ back' → (prefix ≡ prefix') × (back ≡ back')
digits_once [] [] back back' all all' stop stop' e = (refl, e)
digits_once [] (d ∷ prefix') back back' all all' stop stop' e = absurd (subst NoDigitFirst e stop all'.0)
digits_once (d ∷ prefix) [] back back' all all' stop stop' e = absurd (subst NoDigitFirst (sym e) stop' all.0)
digits_once (d ∷ prefix) (d' ∷ prefix') back back' all all' stop stop' e =
    let rest = digits_once prefix prefix' back back' all.1 all'.1 stop stop' (tail_same e) in
    let head : d ≡ d' = head_same e in
    (ap (λ x. x ∷ prefix) head ∙ ap (λ l. d' ∷ l) rest.0, rest.1)

-- the sign is the same, and so is what follows
pub sign_once : (sign sign' : Sign) (body body' : List ℕ) → TakesSign sign body → TakesSign sign' body'
    → sign_text sign ++ body ≡ sign_text sign' ++ body' → (sign ≡ sign') × (body ≡ body')
sign_once NoSign NoSign body body' takes takes' e = (refl, e)
sign_once NoSign Plus body body' takes takes' e = absurd ((subst NoSignFirst e takes).0 refl)
sign_once NoSign Minus body body' takes takes' e = absurd ((subst NoSignFirst e takes).1 refl)
sign_once Plus NoSign body body' takes takes' e = absurd ((subst NoSignFirst (sym e) takes').0 refl)
sign_once Plus Plus body body' takes takes' e = (refl, tail_same e)
sign_once Plus Minus body body' takes takes' e = absurd (omega (arith, head_same e))
sign_once Minus NoSign body body' takes takes' e = absurd ((subst NoSignFirst (sym e) takes').1 refl)
sign_once Minus Plus body body' takes takes' e = absurd (omega (arith, head_same e))
sign_once Minus Minus body body' takes takes' e = (refl, tail_same e)

-- the point and its digits are the same, and so is what follows
pub point_once : (fraction fraction' : Option (List ℕ)) (rest rest' : List ℕ) → AllDigits (fraction_digits fraction) → AllDigits (fraction_digits fraction')
    → TakesPoint fraction rest → TakesPoint fraction' rest' → NoDigitFirst rest → NoDigitFirst rest'
    → fraction_text fraction ++ rest ≡ fraction_text fraction' ++ rest' → (fraction ≡ fraction') × (rest ≡ rest')
point_once None None rest rest' all all' takes takes' stop stop' e = (refl, e)
point_once None (Some ds) rest rest' all all' takes takes' stop stop' e = absurd (subst NoPointFirst e takes refl)
point_once (Some ds) None rest rest' all all' takes takes' stop stop' e = absurd (subst NoPointFirst (sym e) takes' refl)
point_once (Some ds) (Some ds') rest rest' all all' takes takes' stop stop' e =
    let same = digits_once ds ds' rest rest' all all' stop stop' (tail_same e) in
    (ap Some same.0, same.1)

-- a text up to its exponent
pub record Prefix (text : List ℕ) (sign : Sign) (whole : List ℕ) (fraction : Option (List ℕ)) (tail : List ℕ) : Type 0 where
  pub joined : text ≡ sign_text sign ++ (whole ++ (fraction_text fraction ++ tail))
  pub takes_sign : TakesSign sign (whole ++ (fraction_text fraction ++ tail))
  pub whole_digits : AllDigits whole
  pub point_digits : AllDigits (fraction_digits fraction)
  pub takes_point : TakesPoint fraction tail
  pub no_digit : NoDigitFirst tail

point_no_digit : (fraction : Option (List ℕ)) (tail : List ℕ) → NoDigitFirst tail → NoDigitFirst (fraction_text fraction ++ tail)
point_no_digit None tail stop = stop
point_no_digit (Some ds) tail stop = λ digit. absurd (omega (arith, digit.0))

-- the parts of a text up to its exponent are these and stop others
pub record SameParts (s s' : Sign) (w w' : List ℕ) (f f' : Option (List ℕ)) (t t' : List ℕ) : Type 0 where
  pub sign : s ≡ s'
  pub whole : w ≡ w'
  pub fraction : f ≡ f'
  pub tail : t ≡ t'

pub prefix_once : (text : List ℕ) (sign sign' : Sign) (whole whole' : List ℕ) (fraction fraction' : Option (List ℕ)) (tail tail' : List ℕ)
    → Prefix text sign whole fraction tail → Prefix text sign' whole' fraction' tail' → SameParts sign sign' whole whole' fraction fraction' tail tail'
prefix_once text sign sign' whole whole' fraction fraction' tail tail' a b =
    let signs = sign_once sign sign' _ _ a.takes_sign b.takes_sign (sym a.joined ∙ b.joined) in
    let wholes = digits_once whole whole' _ _ a.whole_digits b.whole_digits (point_no_digit fraction tail a.no_digit) (point_no_digit fraction' tail' b.no_digit) signs.1 in
    let points = point_once fraction fraction' tail tail' a.point_digits b.point_digits a.takes_point b.takes_point a.no_digit b.no_digit wholes.1 in
    record { sign = signs.0; whole = wholes.0; fraction = points.0; tail = points.1 }

-- ---- what a numeral gives

mark_no_digit : (exponent : Option Exponent) → IsValidExponent exponent → NoDigitFirst (exponent_text exponent)
mark_no_digit None valid = tt
mark_no_digit (Some e) valid = λ digit. ⊎_elim (λ m. omega (arith, digit.1)) (λ m. omega (arith, digit.1)) valid.0

mark_no_point : (fraction : Option (List ℕ)) (exponent : Option Exponent) → IsValidExponent exponent → TakesPoint fraction (exponent_text exponent)
mark_no_point None None valid = tt
mark_no_point None (Some e) valid = λ point. ⊎_elim (λ m. omega arith) (λ m. omega arith) valid.0
mark_no_point (Some ds) exponent valid = tt

some_takes_sign : (sign : Sign) (body : List ℕ) → NoSignFirst body → TakesSign sign body
some_takes_sign NoSign body stop = stop
some_takes_sign Plus body stop = tt
some_takes_sign Minus body stop = tt

pub body_no_sign : (whole : List ℕ) (fraction : Option (List ℕ)) (tail : List ℕ) → AllDigits whole → 0 < length whole + length (fraction_digits fraction)
    → NoSignFirst (whole ++ (fraction_text fraction ++ tail))
body_no_sign [] None tail all some = absurd (omega arith)
body_no_sign [] (Some ds) tail all some = (λ e. omega arith, λ e. omega arith)
body_no_sign (d ∷ whole) fraction tail all some = (λ e. omega (arith, all.0.0), λ e. omega (arith, all.0.0))

pub prefix_of : (text : List ℕ) (s : Numeral) → IsTextOf text s → Prefix text s.sign s.whole s.fraction (exponent_text s.exponent)
prefix_of text s written_so = record {
  joined = written_so.joined;
  takes_sign = some_takes_sign s.sign _ (body_no_sign s.whole s.fraction (exponent_text s.exponent) written_so.valid.whole written_so.valid.some_digit);
  whole_digits = written_so.valid.whole;
  point_digits = written_so.valid.fraction;
  takes_point = mark_no_point s.fraction s.exponent written_so.valid.exponent;
  no_digit = mark_no_digit s.exponent written_so.valid.exponent;
}

digits_no_sign : (digits : List ℕ) → AllDigits digits → NoSignFirst digits
digits_no_sign [] all = tt
digits_no_sign (d ∷ digits) all = (λ e. omega (arith, all.0.0), λ e. omega (arith, all.0.0))

-- digits take any sign
pub digits_take_sign : (sign : Sign) (digits : List ℕ) → AllDigits digits → TakesSign sign digits
digits_take_sign sign digits all = some_takes_sign sign digits (digits_no_sign digits all)

same_exponent : (x y : Exponent) → x.mark ≡ y.mark → x.sign ≡ y.sign → x.digits ≡ y.digits → Some x ≡ Some y
same_exponent x y m s d =
    ap (λ mark. Some (record { mark = mark; sign = x.sign; digits = x.digits })) m
    ∙ ap (λ sign. Some (record { mark = y.mark; sign = sign; digits = x.digits })) s
    ∙ ap (λ digits. Some (record { mark = y.mark; sign = y.sign; digits = digits })) d

pub exponent_once : (a b : Option Exponent) → IsValidExponent a → IsValidExponent b → exponent_text a ≡ exponent_text b → a ≡ b
exponent_once None None p q e = refl
exponent_once None (Some y) p q e = cc
exponent_once (Some x) None p q e = cc
exponent_once (Some x) (Some y) p q e =
    let after = sign_once x.sign y.sign x.digits y.digits (digits_take_sign x.sign x.digits p.1) (digits_take_sign y.sign y.digits q.1) (tail_same e) in
    same_exponent x y (head_same e) after.0 after.1

same_numeral : (s t : Numeral) → s.sign ≡ t.sign → s.whole ≡ t.whole → s.fraction ≡ t.fraction → s.exponent ≡ t.exponent → s ≡ t
same_numeral s t a b c d =
    ap (λ x. record { sign = x; whole = s.whole; fraction = s.fraction; exponent = s.exponent }) a
    ∙ ap (λ x. record { sign = t.sign; whole = x; fraction = s.fraction; exponent = s.exponent }) b
    ∙ ap (λ x. record { sign = t.sign; whole = t.whole; fraction = x; exponent = s.exponent }) c
    ∙ ap (λ x. record { sign = t.sign; whole = t.whole; fraction = t.fraction; exponent = x }) d

-- one text, one numeral
pub written_so_once : (text : List ℕ) (s t : Numeral) → IsTextOf text s → IsTextOf text t → s ≡ t
written_so_once text s t p q =
    let parts = prefix_once text s.sign t.sign s.whole t.whole s.fraction t.fraction (exponent_text s.exponent) (exponent_text t.exponent) (prefix_of text s p) (prefix_of text t q) in
    same_numeral s t parts.sign parts.whole parts.fraction (exponent_once s.exponent t.exponent p.valid.exponent q.valid.exponent parts.tail)
