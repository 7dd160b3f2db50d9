-- A refusal makes the trailing gap one record longer where this turn's Start was put, and changes nothing else.
use Rattle.std.proofs.Common.{◌≡◌, ◌≢◌, ◌+◌, ◌==◌, ◌&&◌, Bool, true, false, cond, List, [], ◌∷◌, ◌++◌, filter, Some, refl, ap, ◌∙◌, append-nil, eq-eqb, ne_eqb}
use Rattle.gap_ring.specs.declared.entries.Outcome.{Outcome}
use Rattle.gap_ring.specs.declared.entries.Outcome.TheVariants as outcome
use Rattle.gap_ring.specs.declared.entries.Offered.{Offered}
use Rattle.gap_ring.specs.Offers.{puts, refuses, is_put, is_missed_in, turn_of, trailing, gap_of, longer, missed_count, put_of}
use Rattle.gap_ring.proofs.OneMoreLaws.{turn-snoc}
use Rattle.gap_ring.proofs.OfferLaws.{trailing_put, trailing_more, trailing_away, gap_longer, longer_counts, put_unput}
use Rattle.std.proofs.lemmas.Bool.{cond-false}

-- whether this refusal is one of the last turn
refusal_kept : (os : List Offered) (o : Offered) (b : Bool) → o.outcome ≡ outcome.Refused → (o.attach == turn_of os) ≡ b → filter (is_missed_in (turn_of os)) (o ∷ []) ≡ cond b (o ∷ []) []
refusal_kept os o b refused e =
    ap (λ (c : Bool). cond (c && (o.attach == turn_of os)) (o ∷ []) []) (ap refuses refused) ∙ ap (λ (c : Bool). cond c (o ∷ []) []) e

abbrev Counted : List Offered → Offered → Type 0
Counted os o =
    (trailing (os ++ o ∷ []) ≡ trailing os ++ o ∷ [])
    × (gap_of (trailing (os ++ o ∷ [])) ≡ Some (longer (gap_of (trailing os)) o.reading))
    × (missed_count (gap_of (trailing (os ++ o ∷ []))) ≡ missed_count (gap_of (trailing os)) + 1)

pub counted : (os : List Offered) (o : Offered) → o.outcome ≡ outcome.Refused → o.attach ≡ turn_of os → Counted os o
counted os o refused same =
    let more : trailing (os ++ o ∷ []) ≡ trailing os ++ o ∷ [] =
    trailing_more os o (ap puts refused) ∙ ap (λ (l : List Offered). trailing os ++ l) (refusal_kept os o true refused (eq-eqb o.attach (turn_of os) same)) in
    let gap = ap gap_of more ∙ gap_longer (trailing os) o in
    (more, gap, ap missed_count gap ∙ longer_counts (gap_of (trailing os)) o.reading)

pub uncounted : (os : List Offered) (o : Offered) → o.outcome ≡ outcome.Refused → o.attach ≢ turn_of os → trailing (os ++ o ∷ []) ≡ trailing os
uncounted os o refused other =
    trailing_more os o (ap puts refused)
    ∙ (ap (λ (l : List Offered). trailing os ++ l) (refusal_kept os o false refused (ne_eqb o.attach (turn_of os) other)) ∙ append-nil (trailing os))

pub away : (os : List Offered) (o : Offered) → o.outcome ≡ outcome.Away → trailing (os ++ o ∷ []) ≡ trailing os
away = trailing_away

pub nothing_else : (os : List Offered) (o : Offered) → o.outcome ≢ outcome.Put → (put_of (os ++ o ∷ []) ≡ put_of os) × (turn_of (os ++ o ∷ []) ≡ turn_of os)
nothing_else os o other = let unput : is_put o ≡ false = unput_by o.outcome other in
    (put_unput os o unput, turn-snoc os o ∙ cond-false (is_put o) o.attach (turn_of os) unput)
  where
    unput_by : (how : Outcome) → how ≢ outcome.Put → puts how ≡ false
    unput_by outcome.Put h = absurd (h refl)
    unput_by outcome.Refused h = refl
    unput_by outcome.Away h = refl

pub put_closes : (os : List Offered) (o : Offered) → o.outcome ≡ outcome.Put → trailing (os ++ o ∷ []) ≡ []
put_closes os o put = trailing_put os o (ap puts put)
