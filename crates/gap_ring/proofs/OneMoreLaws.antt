-- What one more offer changes: the turn, what follows the last put, and what was put.
use Rattle.std.proofs.Common.{◌≡◌, ℕ, ◌≤◌, true, false, cond, List, [], ◌∷◌, ◌++◌, fold, All}
use Rattle.std.proofs.Common.{refl, sym, ap, ◌∙◌, subst, arith, append-nil, append_assoc, ⊎_elim}
use Rattle.std.proofs.lemmas.List.Sums.{fold_push}
use Rattle.std.proofs.lemmas.Bool.{cases_Bool}
use Rattle.std.proofs.lemmas.List.Elements.{All-head, All-tail}
use Rattle.gap_ring.specs.declared.entries.Offered.{Offered}
use Rattle.gap_ring.specs.Offers.{is_put, turn_of, since_put, put_by, put_after, put_of, IsOffered, AreOffersAfter}

pub turn-snoc : (os : List Offered) (o : Offered) → turn_of (os ++ o ∷ []) ≡ cond (is_put o) o.attach (turn_of os)
turn-snoc os o = fold_push (λ turn p. cond (is_put p) p.attach turn) 0 os o

pub since-snoc : (os : List Offered) (o : Offered) → since_put (os ++ o ∷ []) ≡ cond (is_put o) [] (since_put os ++ o ∷ [])
since-snoc os o = fold_push (λ since p. cond (is_put p) [] (since ++ p ∷ [])) [] os o

pub put_after-append : (before os more : List Offered) → put_after before (os ++ more) ≡ put_after before os ++ put_after (before ++ os) more
put_after-append before [] more = rw append-nil refl
put_after-append before (o ∷ os) more =
    let rest = put_after-append (before ++ o ∷ []) os more in
    ap (λ xs. put_by before o ++ xs) rest
    ∙ (sym (append_assoc (put_by before o) (put_after (before ++ o ∷ []) os) (put_after (before ++ o ∷ [] ++ os) more))
    ∙ ap (λ b. (put_by before o ++ put_after (before ++ o ∷ []) os) ++ put_after b more) (append_assoc before (o ∷ []) os))

pub put-snoc : (os : List Offered) (o : Offered) → put_of (os ++ o ∷ []) ≡ put_of os ++ put_by os o
put-snoc os o = put_after-append [] os (o ∷ []) ∙ ap (λ xs. put_of os ++ xs) (append-nil (put_by os o))

pub offers-snoc : (bus capacity : ℕ) (before os : List Offered) (o : Offered) → AreOffersAfter bus capacity before os
    → IsOffered bus capacity (before ++ os) o → AreOffersAfter bus capacity before (os ++ o ∷ [])
offers-snoc bus capacity before [] o h last = (subst (λ b. IsOffered bus capacity b o) (append-nil before) last, tt)
offers-snoc bus capacity before (p ∷ os) o h last = (
  h.0,
  offers-snoc bus capacity (before ++ p ∷ []) os o h.1
      (subst (λ b. IsOffered bus capacity b o) (sym (append_assoc before (p ∷ []) os)) last),
)

-- the turn is no higher than a word that no offer's word is above
turn_from : (a t : ℕ) (os : List Offered) → t ≤ a → All (λ p. p.attach ≤ a) os → fold (λ turn p. cond (is_put p) p.attach turn) t os ≤ a
turn_from a t [] low h = low
turn_from a t (p ∷ os) low h =
    let first : p.attach ≤ a = All-head (λ q. q.attach ≤ a) p os h in
    let rest : All (λ q. q.attach ≤ a) os = All-tail (λ q. q.attach ≤ a) p os h in
    let at_put = turn_from a p.attach os first rest in
    let at_else = turn_from a t os low rest in
    ⊎_elim
    (λ (e : is_put p ≡ true). rw e at_put)
    (λ (e : is_put p ≡ false). rw e at_else)
    (cases_Bool (is_put p))

pub turn_bounded : (a : ℕ) (os : List Offered) → All (λ p. p.attach ≤ a) os → turn_of os ≤ a
turn_bounded a os h = turn_from a 0 os (omega arith) h
