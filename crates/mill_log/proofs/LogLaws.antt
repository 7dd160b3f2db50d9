-- A log goes on with the next frame.
use Rattle.std.proofs.Common.{◌≡◌, ◌∙◌, ℕ, zero, suc, ◌+◌, List, [], ◌∷◌, ◌++◌, refl, ap, sym, arith, add-one, append_assoc}
use Rattle.std.specs.List.{flat_map, range_with_len}
use Rattle.std.proofs.lemmas.List.{append-nil}
use Rattle.mill_log.specs.GeneratedLog.{number_after, number_at, frame_number, line_of_frame, log_from}

pub log_append : (seed a n m : ℕ) → log_from seed a (n + m) ≡ log_from seed a n ++ log_from seed (a + n) m
unfolding log_from
log_append seed a zero m =
    let same : zero + m ≡ m = omega arith in
    let place : a ≡ a + zero = omega arith in
    ap (λ k. log_from seed a k) same ∙ ap (λ b. log_from seed b m) place
log_append seed a (suc n) m =
    let count : suc n + m ≡ suc (n + m) = omega arith in
    let place : a + 1 + n ≡ a + suc n = omega arith in
    let line = line_of_frame a (frame_number seed a) in
    ap (λ k. log_from seed a k) count
    ∙ ap (λ xs. line ++ xs) (log_append seed (a + 1) n m ∙ ap (λ b. log_from seed (a + 1) n ++ log_from seed b m) place)
    ∙ sym (append_assoc line (log_from seed (a + 1) n) (log_from seed (a + suc n) m))

pub one_line : (seed a : ℕ) → log_from seed a 1 ≡ line_of_frame a (frame_number seed a)
unfolding log_from
one_line seed a = append-nil (line_of_frame a (frame_number seed a))

-- a frame more
pub log_more : (seed a n : ℕ) → log_from seed a (n + 1) ≡ log_from seed a n ++ line_of_frame (a + n) (frame_number seed (a + n))
log_more seed a n = log_append seed a n 1 ∙ ap (λ xs. log_from seed a n ++ xs) (one_line seed (a + n))

-- the number after one is that of the next frame
pub next_number : (seed i x : ℕ) → x ≡ number_at seed i → number_after x ≡ frame_number seed i
unfolding number_at
next_number seed i x e = ap number_after e

pub no_frames : (seed a : ℕ) → log_from seed a 0 ≡ []
unfolding log_from
no_frames seed a = refl
