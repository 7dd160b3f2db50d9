-- A factor and an offset have one scale, or are too wide: one of them has no decimal within the limits, or has none over the
-- common power of ten.
use Rattle.std.proofs.Common.{Result, Ok, Err, ◌≡◌, ◌∙◌, sym, ap, subst, refl, ℕ, ◌-◌, ◌*◌, ◌^◌, ◌<◌, ◌≤◌, max, ◌⊎◌, inl, inr, List, ℤ, pos, true, false, arith}
use Rattle.std.specs.Prelude.{nat_lt, unsigned_abs, IsErr, IsErrAnd}
use Rattle.std.proofs.Math.Nat.{le-mul_of_pos_right, one-le-pow}
use Rattle.std.proofs.lemmas.Bool.Decides.{nat_tests}
use Rattle.std.proofs.lemmas.Int.{unsigned_abs-mul}
use Rattle.exact_scale.specs.declared.scaling.Scale.{Scale}
use Rattle.exact_scale.specs.Numeral.{Denotes}
use Rattle.exact_scale.specs.Limits.{most_places, numerator_limit, IsNarrow, IsScale, IsTooWide, numerator_over}
use Rattle.token_forms.specs.declared.fault.NumberFault.{NumberFault}
use Rattle.token_forms.specs.declared.fault.NumberFault.TheVariants.{Wide, Memory}
use Rattle.token_forms.specs.Numbers.{HasNoDecimal}
use Rattle.token_forms.specs.Outcomes.{IsNoDecimal, IsNoScale}
use Rattle.token_forms.specs.Scaling.{scale_over, IsScaling, HasNoScaling}

-- a text denotes one decimal at most, and each text one within the limits or none
abbrev pub OneDecimal : Type 0
OneDecimal = (text : List ℕ) (n m : ℤ) (k j : ℕ) → Denotes text n k → Denotes text m j → (n ≡ m) × (k ≡ j)

abbrev pub SomeDecimal : Type 0
SomeDecimal = (text : List ℕ) → ((n : ℤ) × ((k : ℕ) × (Denotes text n k × (k ≤ most_places) × IsNarrow n))) ⊎ HasNoDecimal text

-- over a greater power of ten a numerator is no less in size
grows : (to : ℕ) (n : ℤ) (k : ℕ) → unsigned_abs n ≤ unsigned_abs (numerator_over to n k)
grows to n k =
    let power : 0 < 10 ^ (to - k) = one-le-pow (to - k) 10 (omega arith) in
    let more : unsigned_abs n ≤ unsigned_abs n * 10 ^ (to - k) = le-mul_of_pos_right (unsigned_abs n) power in
    subst (λ m. unsigned_abs n ≤ m) (sym (unsigned_abs-mul n (pos (10 ^ (to - k))))) more

too_wide : (to : ℕ) (n : ℤ) (k : ℕ) → IsTooWide n k → to ≤ most_places → k ≤ to → IsNarrow (numerator_over to n k) → ⊥
too_wide to n k (inl places) few within narrow = absurd (omega arith)
too_wide to n k (inr size) few within narrow = let more = grows to n k in absurd (omega arith)

-- the factor has no decimal within the limits, or the offset has none
no_factor : (factor offset : List ℕ) → HasNoDecimal factor → HasNoScaling factor offset
no_factor factor offset none scale s =
    let over : IsScale (scale_over s.factor_num s.factor_places s.offset_num s.offset_places) = subst IsScale s.scale_is s.within in
    too_wide (max s.factor_places s.offset_places) s.factor_num s.factor_places (none s.factor_num s.factor_places s.factor_denoted)
    over.places (omega arith) over.factor

no_offset : (factor offset : List ℕ) → HasNoDecimal offset → HasNoScaling factor offset
no_offset factor offset none scale s =
    let over : IsScale (scale_over s.factor_num s.factor_places s.offset_num s.offset_places) = subst IsScale s.scale_is s.within in
    too_wide (max s.factor_places s.offset_places) s.offset_num s.offset_places (none s.offset_num s.offset_places s.offset_denoted)
    over.places (omega arith) over.offset

-- the error that `?` passes on is the one that it was given
pub same_error : {T E : Type 0} (r : Result T E) (e : E) → IsErr r × IsErrAnd r (λ x. x ≡ e) → r ≡ Err e
same_error (Ok x) e h = absurd h.1
same_error (Err y) e h = ap Err h.1

pub factor_refuses : (factor offset : List ℕ) (fault : NumberFault) → IsNoDecimal factor fault → IsNoScale factor offset fault
factor_refuses factor offset Wide none = no_factor factor offset none
factor_refuses factor offset Memory none = tt

pub offset_refuses : (factor offset : List ℕ) (fault : NumberFault) → IsNoDecimal offset fault → IsNoScale factor offset fault
offset_refuses factor offset Wide none = no_offset factor offset none
offset_refuses factor offset Memory none = tt

-- the scale of texts that denote these decimals is theirs
same_over : (fn gn : ℤ) (fk gk : ℕ) (on pn : ℤ) (ok pk : ℕ) → fn ≡ gn → fk ≡ gk → on ≡ pn → ok ≡ pk
    → scale_over fn fk on ok ≡ scale_over gn gk pn pk
same_over fn gn fk gk on pn ok pk e f g h = rw (e, f, g, h) refl

is_over : OneDecimal → (factor offset : List ℕ) (scale : Scale) (fn : ℤ) (fk : ℕ) (on : ℤ) (ok : ℕ) → IsScaling factor offset scale
    → Denotes factor fn fk → Denotes offset on ok → scale ≡ scale_over fn fk on ok
is_over once factor offset scale fn fk on ok s df do' =
    let f = once factor s.factor_num fn s.factor_places fk s.factor_denoted df in
    let o = once offset s.offset_num on s.offset_places ok s.offset_denoted do' in
    s.scale_is ∙ same_over s.factor_num fn s.factor_places fk s.offset_num on s.offset_places ok f.0 f.1 o.0 o.1

pub scales_are_one : OneDecimal → (factor offset : List ℕ) (s t : Scale) → IsScaling factor offset s → IsScaling factor offset t → s ≡ t
scales_are_one once factor offset s t p q =
    is_over once factor offset s q.factor_num q.factor_places q.offset_num q.offset_places p q.factor_denoted q.offset_denoted
    ∙ sym q.scale_is

-- a numerator over the common power of ten is too wide
pub together_refuse : OneDecimal → (factor offset : List ℕ) (fn : ℤ) (fk : ℕ) (on : ℤ) (ok : ℕ) → Denotes factor fn fk → Denotes offset on ok
    → ((numerator_limit ≤ unsigned_abs (numerator_over (max fk ok) fn fk)) ⊎ (numerator_limit ≤ unsigned_abs (numerator_over (max fk ok) on ok)))
    → HasNoScaling factor offset
together_refuse once factor offset fn fk on ok df do' wide scale s =
    let over : IsScale (scale_over fn fk on ok) = subst IsScale (is_over once factor offset scale fn fk on ok s df do') s.within in
    let narrow_factor = over.factor in
    let narrow_offset = over.offset in
    elim wide [
      | inl w ↦ absurd (omega arith)
      | inr w ↦ absurd (omega arith)
    ]

-- and else there is one
lt_cases : (m n : ℕ) → ((nat_lt m n ≡ true) × (m < n)) ⊎ ((nat_lt m n ≡ false) × (n ≤ m))
lt_cases m n = grind (arith, nat_tests)

scale_by : OneDecimal → (factor offset : List ℕ) (fn : ℤ) (fk : ℕ) (on : ℤ) (ok : ℕ) → Denotes factor fn fk → Denotes offset on ok
    → fk ≤ most_places → ok ≤ most_places → ((scale : Scale) × IsScaling factor offset scale) ⊎ HasNoScaling factor offset
scale_by once factor offset fn fk on ok df do' few_f few_o = elim
    (lt_cases (unsigned_abs (numerator_over (max fk ok) fn fk)) numerator_limit) [
      | inr wide ↦ inr (together_refuse once factor offset fn fk on ok df do' (inl wide.1))
      | inl small ↦ elim (lt_cases (unsigned_abs (numerator_over (max fk ok) on ok)) numerator_limit) [
        | inr wide ↦ inr (together_refuse once factor offset fn fk on ok df do' (inr wide.1))
        | inl too ↦ inl (
          scale_over fn fk on ok,
          record {
            factor_num = fn;
            factor_places = fk;
            offset_num = on;
            offset_places = ok;
            factor_denoted = df;
            offset_denoted = do';
            scale_is = refl;
            within = record { factor = small.1; offset = too.1; places = omega arith };
          },
        )
      ]
    ]

pub some_scale : OneDecimal → SomeDecimal → (factor offset : List ℕ)
    → ((scale : Scale) × IsScaling factor offset scale) ⊎ HasNoScaling factor offset
some_scale once decimal factor offset = elim (decimal factor) [
  | inr none ↦ inr (no_factor factor offset none)
  | inl (fn, (fk, (df, few_f, narrow_f))) ↦ elim (decimal offset) [
    | inr none ↦ inr (no_offset factor offset none)
    | inl (on, (ok, (do', few_o, narrow_o))) ↦ scale_by once factor offset fn fk on ok df do' few_f few_o
  ]
]
