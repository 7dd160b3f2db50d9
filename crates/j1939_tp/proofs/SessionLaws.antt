-- What one more frame makes of the numbers, the bytes and the last stamp of a session's frames.
use Rattle.std.proofs.Common.{◌≡◌, ℕ, zero, suc, ◌<◌, ◌≤◌, ◌==◌, List, [], ◌∷◌, ◌++◌, max, find}
use Rattle.std.proofs.Common.{Option, None, Some, IsSome, refl, ◌∙◌, ap, arith, Bool, false}
use Rattle.std.specs.Option.{option_or}
use Rattle.std.proofs.lemmas.List.Folds.{find-append}
use Rattle.std.proofs.lemmas.Bool.{ne_eqb, eq-eqb}
use Rattle.j1939_tp.specs.Frames.{Frame, carried}
use Rattle.j1939_tp.specs.Session.{number, most, packets_to, last_stamp_of}

-- the packets of this number
abbrev pub is_number : ℕ → Frame → Bool
is_number n = λ f. number f == n

pub last_stamp-snoc : (stamp : ℕ) (fs : List Frame) (f : Frame) → last_stamp_of stamp (fs ++ f ∷ []) ≡ f.micros
last_stamp-snoc stamp [] f = refl
last_stamp-snoc stamp (g ∷ fs) f = last_stamp-snoc g.micros fs f

pub most-snoc : (fs : List Frame) (f : Frame) → most (fs ++ f ∷ []) ≡ max (most fs) (number f)
most-snoc [] f = omega arith
most-snoc (g ∷ fs) f = omega (arith, most-snoc fs f)

-- one that is there stays the first
same_or : {A : Type 0} (o p : Option A) → IsSome o → option_or o p ≡ o
same_or None p h = absurd (cc)
same_or (Some x) p h = refl

pub find-snoc : (n : ℕ) (fs : List Frame) (f : Frame) → IsSome (find (is_number n) fs) → find (is_number n) (fs ++ f ∷ []) ≡ find (is_number n) fs
find-snoc n fs f h = find-append (is_number n) fs (f ∷ []) ∙ same_or (find (is_number n) fs) (find (is_number n) (f ∷ [])) h

-- none is above the greatest
pub none_above : (n : ℕ) (fs : List Frame) → most fs < n → find (is_number n) fs ≡ None
none_above n [] h = refl
none_above n (g ∷ fs) h =
    let other : (number g == n) ≡ false = ne_eqb (number g) n (λ e. omega arith) in
    let below : most fs < n = omega arith in
    rw other (none_above n fs below)

pub find-next : (n : ℕ) (fs : List Frame) (f : Frame) → most fs < n → number f ≡ n → find (is_number n) (fs ++ f ∷ []) ≡ Some f
find-next n fs f above is =
    let first : find (is_number n) (f ∷ []) ≡ Some f = rw (eq-eqb (number f) n is) refl in
    find-append (is_number n) fs (f ∷ []) ∙ ap (λ o. option_or o (find (is_number n) (f ∷ []))) (none_above n fs above) ∙ first

-- the packets up to one of which each is there stay the same
pub packets_to-snoc : (fs : List Frame) (f : Frame) (m : ℕ) → ((n : ℕ) → 0 < n → n ≤ m → IsSome (find (is_number n) fs)) → packets_to (fs ++ f ∷ []) m ≡ packets_to fs m
packets_to-snoc fs f zero there = refl
packets_to-snoc fs f (suc m) there =
    let before : packets_to (fs ++ f ∷ []) m ≡ packets_to fs m = packets_to-snoc fs f m (λ n low high. there n low (omega arith)) in
    let same : find (is_number (suc m)) (fs ++ f ∷ []) ≡ find (is_number (suc m)) fs = find-snoc (suc m) fs f (there (suc m) (omega arith) (omega arith)) in
    rw (before, same) refl

-- the next packet comes after these
pub packets_to-next : (fs : List Frame) (f : Frame) (m : ℕ) → ((n : ℕ) → 0 < n → n ≤ m → IsSome (find (is_number n) fs)) → most fs ≡ m → number f ≡ suc m → packets_to (fs ++ f ∷ []) (suc m) ≡ packets_to fs m ++ carried f
packets_to-next fs f m there greatest is =
    let before : packets_to (fs ++ f ∷ []) m ≡ packets_to fs m = packets_to-snoc fs f m there in
    let next : find (is_number (suc m)) (fs ++ f ∷ []) ≡ Some f = find-next (suc m) fs f (omega arith) is in
    rw (before, next) refl
