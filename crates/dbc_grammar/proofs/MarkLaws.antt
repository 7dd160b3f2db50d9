-- The form of a mark finds exactly the marks: `M`, `m` and digits, or `m`, digits and `M`.
use Rattle.std.proofs.Common.{◌≡◌, ◌∙◌, sym, ap, refl, arith, ℕ, ◌+◌, ◌-◌, ◌<◌, inl, inr, Bool, true, false, ◌&&◌, List, [], ◌∷◌, ◌++◌, length, take, drop, get_or}
use Rattle.std.specs.Prelude.{Option, Some, None, ◌↔◌, ◌==◌, codes, nat_le, nat_lt, slice_index, if◌then◌else◌}
use Rattle.std.specs.List.{list_all}
use Rattle.std.specs.Option.{option_map}
use Rattle.std.specs.Str.{bytes_eq}
use Rattle.std.proofs.Math.Bool.{and-false}
use Rattle.std.proofs.Math.Seq.{take-append_seam, get_or-append_seam}
use Rattle.std.proofs.lemmas.Bool.{and_parts, eqb-true}
use Rattle.std.proofs.lemmas.List.{drop_all, length-append}
use Rattle.std.proofs.lemmas.List.Folds.{list_all-append}
use Rattle.std.proofs.lemmas.Option.{none-some, cond_some}
use Rattle.std.proofs.lemmas.Slice.Eq.{bytes_eq-Decides}
use Rattle.byte_forms.specs.declared.class.Class.TheVariants as classes
use Rattle.byte_forms.specs.declared.numerals.Radix.{Radix}
use Rattle.byte_forms.specs.declared.numerals.Radix.TheVariants.{Decimal}
use Rattle.byte_forms.specs.Classes.{is_in}
use Rattle.byte_forms.specs.Numerals.{number_of, is_numeral, number_up_to}
use Rattle.byte_forms.specs.Pieces.{◌>>=◌, after_literal}
use Rattle.multiplex_tree.specs.declared.mark.Mark.{Mark}
use Rattle.token_forms.specs.Grammar.{HasValue}
use Rattle.dbc_grammar.specs.Limits.{small_limit}
use Rattle.dbc_grammar.specs.Statements.{IsGroupMark, IsMark, plain, grouped, both}
use Rattle.dbc_grammar.specs.Forms.{◌<|>◌, without_last_M, group_mark, mark_of}
use Rattle.dbc_grammar.proofs.PartLaws.{step, unbind, either_bool, none_or_some}
use Rattle.dbc_grammar.proofs.WideLaws.{cut_at}

-- digits of a value, as the crates below have it
pub record Values : Type 0 where
  pub value : (radix : Radix) (text : List ℕ) (limit n : ℕ) → (number_up_to radix limit text ≡ Some n) ↔ HasValue radix text limit n

some_same : {A : Type 0} (x y : A) → Some x ≡ Some y → x ≡ y
some_same x y e = cc

-- what is behind the m
after_m : (text digits : List ℕ) → after_literal (codes "m") text ≡ Some digits → text ≡ codes "m" ++ digits
unfolding after_literal
after_m [] digits e = absurd (none-some digits e)
after_m (b ∷ bs) digits e =
    let found = cond_some (b == 109) bs digits e in
    ap (λ c. c ∷ bs) (eqb-true b 109 found.0) ∙ ap (λ r. 109 ∷ r) found.1

behind_m : (digits : List ℕ) → after_literal (codes "m") (codes "m" ++ digits) ≡ Some digits
unfolding after_literal
behind_m digits = refl

-- what is before the last M
last_cut : (text : List ℕ) → 0 < length text → text ≡ take (length text - 1) text ++ get_or text (length text - 1) 0 ∷ []
last_cut text some =
    let less : length text - 1 < length text = omega arith in
    let all : drop (length text - 1 + 1) text ≡ [] = drop_all (length text - 1 + 1) text (omega arith) in
    cut_at text (length text - 1) 0 less ∙ ap (λ r. take (length text - 1) text ++ get_or text (length text - 1) 0 ∷ r) all

before_M : (text digits : List ℕ) → without_last_M text ≡ Some digits → text ≡ digits ++ codes "M"
before_M text digits e =
    let found = cond_some (nat_lt 0 (length text) && (slice_index text (length text - 1) == 77)) (take (length text - 1) text) digits e in
    let parts = and_parts (nat_lt 0 (length text)) (slice_index text (length text - 1) == 77) found.0 in
    let some : 0 < length text = grind (arith, parts.0) in
    last_cut text some ∙ ap (λ b. take (length text - 1) text ++ b ∷ []) (eqb-true (get_or text (length text - 1) 0) 77 parts.1)
    ∙ ap (λ d. d ++ codes "M") found.1

lt_true : (a b : ℕ) → a < b → nat_lt a b ≡ true
lt_true a b lt = grind (arith, lt)

there_M : (digits text : List ℕ) → text ≡ digits ++ codes "M" → without_last_M text ≡ Some digits
there_M digits text e =
    let long : length text ≡ length digits + 1 = ap length e ∙ length-append digits (codes "M") in
    let place : length text - 1 ≡ length digits = omega arith in
    let some : nat_lt 0 (length text) ≡ true = lt_true 0 (length text) (omega arith) in
    let last : slice_index text (length text - 1) ≡ 77 =
    ap (slice_index text) place ∙ ap (λ t. slice_index t (length digits)) e ∙ get_or-append_seam digits 77 [] 0 in
    let prefix : take (length text - 1) text ≡ digits =
    ap (λ n. take n text) place ∙ ap (take (length digits)) e ∙ take-append_seam digits (codes "M") in
    ap (λ b. if b && (slice_index text (length text - 1) == 77) then Some (take (length text - 1) text) else None) some
    ∙ ap (λ n. if n == 77 then Some (take (length text - 1) text) else None) last ∙ ap Some prefix

-- digits do not end in an M
no_digits : (digits : List ℕ) → list_all (is_in classes.DecimalDigit) (digits ++ codes "M") ≡ false
no_digits digits =
    list_all-append (is_in classes.DecimalDigit) digits (codes "M") ∙ and-false (list_all (is_in classes.DecimalDigit) digits)

not_number : (text : List ℕ) → list_all (is_in classes.DecimalDigit) text ≡ false → number_up_to Decimal small_limit text ≡ None
unfolding number_up_to
not_number text none =
    let isnt : is_numeral Decimal text ≡ false = ap (λ b. nat_lt 0 (length text) && b) none ∙ and-false (nat_lt 0 (length text)) in
    ap (λ b. if b && nat_le (number_of Decimal text) small_limit then Some (number_of Decimal text) else None) isnt

-- ---- marks

abbrev last_mark : List ℕ → Option Mark
last_mark digits = without_last_M digits >>= λ d. option_map (group_mark true) (number_up_to Decimal small_limit d)

abbrev behind_mark : List ℕ → Option Mark
behind_mark digits = option_map (group_mark false) (number_up_to Decimal small_limit digits) <|> last_mark digits

group_found : Values → (digits : List ℕ) (multiplexor : Bool) (mark : Mark)
    → option_map (group_mark multiplexor) (number_up_to Decimal small_limit digits) ≡ Some mark → IsGroupMark digits multiplexor mark
group_found below digits multiplexor mark is = elim (none_or_some (number_up_to Decimal small_limit digits)) [
  | inl none ↦ absurd (none-some mark (sym (ap (option_map (group_mark multiplexor)) none) ∙ is))
  | inr (n, e) ↦ record {
    group = n;
    has_value = (below.value Decimal digits small_limit n).0 e;
    mark_is = some_same mark (group_mark multiplexor n) (sym is ∙ ap (option_map (group_mark multiplexor)) e);
  }
]

group_there : Values → (digits : List ℕ) (multiplexor : Bool) (mark : Mark) → IsGroupMark digits multiplexor mark
    → option_map (group_mark multiplexor) (number_up_to Decimal small_limit digits) ≡ Some mark
group_there below digits multiplexor mark is =
    ap (option_map (group_mark multiplexor)) ((below.value Decimal digits small_limit is.group).1 is.has_value) ∙ ap Some (sym is.mark_is)

behind_found : Values → (text digits : List ℕ) (mark : Mark) → text ≡ codes "m" ++ digits → behind_mark digits ≡ Some mark → IsMark text mark
behind_found below text digits mark prefix is =
    let first = option_map (group_mark false) (number_up_to Decimal small_limit digits) in
    elim (none_or_some first) [
      | inr (x, e) ↦ grouped digits prefix (group_found below digits false mark (e ∙ (sym (ap (λ o. o <|> last_mark digits) e) ∙ is)))
      | inl none ↦
          let last = unbind (without_last_M digits) (λ d. option_map (group_mark true) (number_up_to Decimal small_limit d)) mark
          (sym (ap (λ o. o <|> last_mark digits) none) ∙ is) in
          both last.0 (prefix ∙ ap (λ d. codes "m" ++ d) (before_M digits last.0 last.1)) (group_found below last.0 true mark last.2)
    ]

pub mark_found : Values → (text : List ℕ) (mark : Mark) → mark_of text ≡ Some mark → IsMark text mark
unfolding mark_of
mark_found below text mark e = elim (either_bool (bytes_eq text (codes "M"))) [
  | inl is ↦ plain ((bytes_eq-Decides text (codes "M")).0 is)
      (some_same mark (record { multiplexor = true; group = None }) (sym e ∙ ap (λ (b : Bool). if b
      then Some (record { multiplexor = true; group = None }) else after_literal (codes "m") text >>= behind_mark) is))
  | inr isnt ↦
      let parts = unbind (after_literal (codes "m") text) behind_mark mark
      (sym (ap (λ (b : Bool). if b then Some (record { multiplexor = true; group = None })
      else after_literal (codes "m") text >>= behind_mark) isnt) ∙ e) in
      behind_found below text parts.0 mark (after_m text parts.0 parts.1) parts.2
]

begins_with_m : (text digits : List ℕ) → text ≡ codes "m" ++ digits → bytes_eq text (codes "M") ≡ false
begins_with_m text digits e = ap (λ t. bytes_eq t (codes "M")) e

behind_there : (text digits : List ℕ) (mark : Mark) → text ≡ codes "m" ++ digits → behind_mark digits ≡ Some mark → mark_of text ≡ Some mark
unfolding mark_of
behind_there text digits mark prefix is =
    ap (λ (b : Bool). if b then Some (record { multiplexor = true; group = None }) else after_literal (codes "m") text >>= behind_mark)
    (begins_with_m text digits prefix)
    ∙ step (after_literal (codes "m") text) behind_mark digits (Some mark) (ap (after_literal (codes "m")) prefix ∙ behind_m digits) is

pub mark_there : Values → (text : List ℕ) (mark : Mark) → IsMark text mark → mark_of text ≡ Some mark
unfolding mark_of
mark_there below text mark (plain is mark_is) =
    ap (λ (b : Bool). if b then Some (record { multiplexor = true; group = None }) else after_literal (codes "m") text >>= behind_mark)
    ((bytes_eq-Decides text (codes "M")).1 is) ∙ ap Some (sym mark_is)
mark_there below text mark (grouped digits prefix is) =
    behind_there text digits mark prefix (ap (λ o. o <|> last_mark digits) (group_there below digits false mark is))
mark_there below text mark (both digits prefix is) =
    let none = ap (option_map (group_mark false)) (not_number (digits ++ codes "M") (no_digits digits)) in
    behind_there text (digits ++ codes "M") mark prefix (ap (λ o. o <|> last_mark (digits ++ codes "M")) none
    ∙ step (without_last_M (digits ++ codes "M")) (λ d. option_map (group_mark true) (number_up_to Decimal small_limit d)) digits (Some mark)
    (there_M digits (digits ++ codes "M") refl) (group_there below digits true mark is))
