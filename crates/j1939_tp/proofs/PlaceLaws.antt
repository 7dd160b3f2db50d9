-- The open sessions are those of the last openings that no frame ended since.
use Rattle.std.proofs.Common.{◌≡◌, ◌≢◌, ℕ, zero, suc, ◌+◌, ◌<◌, ◌≤◌, Bool, true, false, List, []}
use Rattle.std.proofs.Common.{◌∷◌, ◌++◌, length, take, drop, slice_get, IsSomeAnd, IsSome, Option, None}
use Rattle.std.proofs.Common.{Some, is_some, refl, sym, ◌∙◌, ap, subst, ⊎_elim, inl, inr, ◌⊎◌, arith}
use Rattle.std.proofs.Common.{append_assoc, length-append, if◌then◌else◌}
use Rattle.std.proofs.lemmas.List.{take-append-le, drop-append-le, drop_all, append-nil, take-append-drop}
use Rattle.std.proofs.lemmas.Option.{slice_get_past, slice_get_within}
use Rattle.std.proofs.lemmas.Bool.{cases_Bool, cases_order, cases_lt, true≢false, and_parts}
use Rattle.std.proofs.Math.Seq.{take-append_seam}
use Rattle.j1939_tp.specs.declared.out.TpOut.TheVariants.{Nothing}
use Rattle.j1939_tp.specs.Frames.{Frame, role}
use Rattle.j1939_tp.specs.Session.{Session, Outcome, nothing, whole, cut, outcome, with_frame}
use Rattle.j1939_tp.specs.OpenSessions.{Pair, Sessions, same_pair, pair_of, opens_pair}
use Rattle.j1939_tp.specs.OpenSessions.{is_opening, acts_on, left_by, left_of, after_acting}
use Rattle.j1939_tp.specs.OpenSessions.{open_after, answer, answer_of, answer_by, answer_at}
use Rattle.j1939_tp.specs.Places.{At, Opens, Ends, is_same, acting, IsOpenSince}
use Rattle.j1939_tp.proofs.HearingLaws.{open_after-snoc}
use Rattle.j1939_tp.proofs.PairLaws.{same_pair-eq, same_pair-refl}

-- a fact of every list of frames: of none, and of one more frame
by_frames : (P : List Frame → Type 0) → P [] → ((before : List Frame) (f : Frame) → P before → P (before ++ f ∷ [])) → (frames : List Frame) → P frames
by_frames P none more frames = from [] frames none
  where
    from : (before later : List Frame) → P before → P (before ++ later)
    from before [] h = subst P (sym (append-nil before)) h
    from before (f ∷ later) h = subst P (append_assoc before (f ∷ []) later) (from (before ++ f ∷ []) later (more before f h))

-- the places of a log with one more frame
get-before : (fs : List Frame) (f : Frame) (k : ℕ) → k < length fs → slice_get (fs ++ f ∷ []) k ≡ slice_get fs k
get-before [] f k h = absurd (omega arith)
get-before (g ∷ fs) f zero h = refl
get-before (g ∷ fs) f (suc k) h = get-before fs f k (omega arith)

get-last : (fs : List Frame) (f : Frame) → slice_get (fs ++ f ∷ []) (length fs) ≡ Some f
get-last [] f = refl
get-last (g ∷ fs) f = get-last fs f

At-before : (P : List Frame → Frame → Type 0) (fs : List Frame) (f : Frame) (k : ℕ) → k < length fs → At P (fs ++ f ∷ []) k → At P fs k
At-before P fs f k h at =
    let Q : Option Frame → Type 0 = λ o. IsSomeAnd o (P (take k (fs ++ f ∷ []))) in
    subst (λ (before : List Frame). IsSomeAnd (slice_get fs k) (P before)) (take-append-le k fs (f ∷ []) (omega arith)) (subst Q (get-before fs f k h) at)

At-kept : (P : List Frame → Frame → Type 0) (fs : List Frame) (f : Frame) (k : ℕ) → k < length fs → At P fs k → At P (fs ++ f ∷ []) k
At-kept P fs f k h at =
    let Q : Option Frame → Type 0 = λ o. IsSomeAnd o (P (take k (fs ++ f ∷ []))) in
    subst Q (sym (get-before fs f k h)) (subst (λ (before : List Frame). IsSomeAnd (slice_get fs k) (P before)) (sym (take-append-le k fs (f ∷ []) (omega arith))) at)

At-last : (P : List Frame → Frame → Type 0) (fs : List Frame) (f : Frame) → At P (fs ++ f ∷ []) (length fs) → P fs f
At-last P fs f at =
    let Q : Option Frame → Type 0 = λ o. IsSomeAnd o (P (take (length fs) (fs ++ f ∷ []))) in
    subst (λ (before : List Frame). P before f) (take-append_seam fs (f ∷ [])) (subst Q (get-last fs f) at)

At-at-last : (P : List Frame → Frame → Type 0) (fs : List Frame) (f : Frame) → P fs f → At P (fs ++ f ∷ []) (length fs)
At-at-last P fs f at =
    let Q : Option Frame → Type 0 = λ o. IsSomeAnd o (P (take (length fs) (fs ++ f ∷ []))) in
    subst Q (sym (get-last fs f)) (subst (λ (before : List Frame). P before f) (sym (take-append_seam fs (f ∷ []))) at)

At-past : (P : List Frame → Frame → Type 0) (fs : List Frame) (k : ℕ) → length fs ≤ k → At P fs k → ⊥
At-past P fs k h at =
    let Q : Option Frame → Type 0 = λ o. IsSomeAnd o (P (take k fs)) in
    subst Q (slice_get_past fs k h) at

-- at no place past this one, if not at those before the last and not at the last
not_at-snoc : (P : List Frame → Frame → Type 0) (fs : List Frame) (f : Frame) (i : ℕ) → ((k : ℕ) → i < k → ¬ At P fs k) → ¬ P fs f → (k : ℕ) → i < k → ¬ At P (fs ++ f ∷ []) k
not_at-snoc P fs f i before last k past at =
    ⊎_elim
    (λ same. last (At-last P fs f (subst (At P (fs ++ f ∷ [])) same at)))
    (λ other. ⊎_elim
    (λ earlier. before k past (At-before P fs f k earlier at))
    (λ later. At-past P (fs ++ f ∷ []) k (omega (arith, length-append fs (f ∷ []))) at)
    other)
    (cases_order k (length fs))

acting-snoc : (p : Pair) (earlier later : List Frame) (f : Frame)
    → acting p earlier (later ++ f ∷ []) ≡ acting p earlier later ++ (if is_same p (acts_on (open_after (earlier ++ later)) f) then f ∷ [] else [])
acting-snoc p earlier [] f = rw (append-nil earlier) (append-nil (if is_same p (acts_on (open_after earlier) f) then f ∷ [] else []))
acting-snoc p earlier (g ∷ later) f =
    let first = if is_same p (acts_on (open_after earlier) g) then g ∷ [] else [] in
    ap (λ (fs : List Frame). first ++ fs) (acting-snoc p (earlier ++ g ∷ []) later f)
    ∙ rw (append_assoc earlier (g ∷ []) later) (sym (append_assoc first (acting p (earlier ++ g ∷ []) later) (if is_same p (acts_on (open_after (earlier ++ g ∷ later)) f) then f ∷ [] else [])))

acting-more : (p : Pair) (before : List Frame) (f : Frame) (i : ℕ) → i < length before
    → acting p (take (i + 1) (before ++ f ∷ [])) (drop (i + 1) (before ++ f ∷ []))
    ≡ acting p (take (i + 1) before) (drop (i + 1) before) ++ (if is_same p (acts_on (open_after before) f) then f ∷ [] else [])
acting-more p before f i within =
    let enough : i + 1 ≤ length before = omega arith in
    rw (take-append-le (i + 1) before (f ∷ []) enough, drop-append-le (i + 1) before (f ∷ []) enough)
    (acting-snoc p (take (i + 1) before) (drop (i + 1) before) f
    ∙ ap (λ (fs : List Frame). acting p (take (i + 1) before) (drop (i + 1) before) ++ (if is_same p (acts_on (open_after fs) f) then f ∷ [] else [])) (take-append-drop (i + 1) before))

-- a frame acts on the session of the pair, or on that of another or on none
acts_cases : (p : Pair) (o : Option Pair) → ((is_same p o ≡ true) × (o ≡ Some p)) ⊎ (is_same p o ≡ false)
acts_cases p None = inr refl
acts_cases p (Some q) = ⊎_elim (λ same. inl (same, ap Some (same_pair-eq q p same))) (λ other. inr other) (cases_Bool (same_pair q p))

apart_after : (p : Pair) (o : Option Pair) (sessions : Sessions) (f : Frame) → is_same p o ≡ false → after_acting o sessions f p ≡ sessions p
apart_after p None sessions f apart = refl
apart_after p (Some q) sessions f apart = rw apart refl

same_after : (p : Pair) (o : Option Pair) (sessions : Sessions) (f : Frame) → o ≡ Some p → after_acting o sessions f p ≡ left_of (sessions p) f
same_after p o sessions f same = ap (λ (o : Option Pair). after_acting o sessions f p) same ∙ rw (same_pair-refl p) refl

-- one more frame, where it opens the pair and where it does not
after_opening : (before : List Frame) (f : Frame) (p : Pair) → opens_pair f p ≡ true → open_after (before ++ f ∷ []) p ≡ Some (record { opening = f; acted = [] })
after_opening before f p opens = open_after-snoc before f p
    ∙ ap (λ (b : Bool). if b then Some (record { opening = f; acted = [] }) else after_acting (acts_on (open_after before) f) (open_after before) f p) opens

after_no_opening : (before : List Frame) (f : Frame) (p : Pair) → opens_pair f p ≡ false
    → open_after (before ++ f ∷ []) p ≡ after_acting (acts_on (open_after before) f) (open_after before) f p
after_no_opening before f p no_opening = open_after-snoc before f p
    ∙ ap (λ (b : Bool). if b then Some (record { opening = f; acted = [] }) else after_acting (acts_on (open_after before) f) (open_after before) f p) no_opening

-- a session that is left is the earlier one with this frame, and nothing came of it
left_some : (o : Option Session) (f : Frame) (s : Session) → left_of o f ≡ Some s
    → (t : Session) × ((o ≡ Some t) × (outcome t f ≡ nothing) × (s ≡ with_frame t f))
left_some None f s e = absurd (cc)
left_some (Some t) f s e = by_outcome (outcome t f) refl
  where
    by_outcome : (comes : Outcome) → outcome t f ≡ comes → (t' : Session) × ((Some t ≡ Some t') × (outcome t' f ≡ nothing) × (s ≡ with_frame t' f))
    by_outcome nothing is =
        let e' : Some (with_frame t f) ≡ Some s = sym (ap (λ (o : Outcome). left_by o t f) is) ∙ e in
        let same : s ≡ with_frame t f = cc in (t, (refl, is, same))
    by_outcome (whole bytes) is = let e' : None ≡ Some s = sym (ap (λ (o : Outcome). left_by o t f) is) ∙ e in absurd (cc)
    by_outcome (cut cause) is = let e' : None ≡ Some s = sym (ap (λ (o : Outcome). left_by o t f) is) ∙ e in absurd (cc)

-- an open session was opened at some place, and stays so with each further frame
abbrev Found : Pair → List Frame → Type 0
Found p frames = (s : Session) → open_after frames p ≡ Some s → (i : ℕ) × IsOpenSince p frames i s

found_new : (p : Pair) (before : List Frame) (f : Frame) → opens_pair f p ≡ true → IsOpenSince p (before ++ f ∷ []) (length before) (record { opening = f; acted = [] })
found_new p before f opens =
    let all : length (before ++ f ∷ []) ≡ length before + 1 = length-append before (f ∷ []) in
    record {
      opening = get-last before f;
      opens = opens;
      last = λ k past at. At-past (Opens p) (before ++ f ∷ []) k (omega arith) at;
      not_ended = λ k past at. At-past (Ends p) (before ++ f ∷ []) k (omega arith) at;
      acted = sym (ap (acting p (take (length before + 1) (before ++ f ∷ []))) (drop_all (length before + 1) (before ++ f ∷ []) (omega arith)));
    }

found_apart : (p : Pair) (before : List Frame) (f : Frame) (i : ℕ) (s : Session) → IsOpenSince p before i s → opens_pair f p ≡ false → is_same p (acts_on (open_after before) f) ≡ false
    → IsOpenSince p (before ++ f ∷ []) i s
found_apart p before f i s since no_opening apart =
    let within : i < length before = slice_get_within before i s.opening since.opening in
    record {
      opening = get-before before f i within ∙ since.opening;
      opens = since.opens;
      last = not_at-snoc (Opens p) before f i since.last (λ opens. true≢false (sym opens ∙ no_opening));
      not_ended = not_at-snoc (Ends p) before f i since.not_ended
          (λ ends. let same : is_same p (acts_on (open_after before) f) ≡ true = ap (is_same p) ends.0 ∙ same_pair-refl p in true≢false (sym same ∙ apart));
      acted = since.acted ∙ sym (acting-more p before f i within ∙ rw apart (append-nil (acting p (take (i + 1) before) (drop (i + 1) before))));
    }

found_acted : (p : Pair) (before : List Frame) (f : Frame) (i : ℕ) (s : Session) → IsOpenSince p before i s → opens_pair f p ≡ false → acts_on (open_after before) f ≡ Some p
    → open_after before p ≡ Some s → outcome s f ≡ nothing → IsOpenSince p (before ++ f ∷ []) i (with_frame s f)
found_acted p before f i s since no_opening acts is_open comes =
    let within : i < length before = slice_get_within before i s.opening since.opening in
    let same : is_same p (acts_on (open_after before) f) ≡ true = ap (is_same p) acts ∙ same_pair-refl p in
    let nothing_comes : answer_at before f ≡ Nothing =
    ap (λ (o : Option Pair). answer o (open_after before) f) acts ∙ ap (λ (o : Option Session). answer_of p o f) is_open ∙ ap (answer_by p s) comes in
    record {
      opening = get-before before f i within ∙ since.opening;
      opens = since.opens;
      last = not_at-snoc (Opens p) before f i since.last (λ opens. true≢false (sym opens ∙ no_opening));
      not_ended = not_at-snoc (Ends p) before f i since.not_ended (λ ends. ends.1 nothing_comes);
      acted = ap (λ (fs : List Frame). fs ++ f ∷ []) since.acted ∙ sym (acting-more p before f i within ∙ rw same refl);
    }

found_more : (p : Pair) (before : List Frame) (f : Frame) → Found p before → Found p (before ++ f ∷ [])
found_more p before f found = λ s is.
    ⊎_elim
    (λ opens.
    let e : Some (record { opening = f; acted = [] }) ≡ Some s = sym (after_opening before f p opens) ∙ is in
    let same : record { opening = f; acted = [] } ≡ s = cc in
    subst (λ (t : Session). (i : ℕ) × IsOpenSince p (before ++ f ∷ []) i t) same (length before, found_new p before f opens))
    (λ no_opening.
    let left : after_acting (acts_on (open_after before) f) (open_after before) f p ≡ Some s = sym (after_no_opening before f p no_opening) ∙ is in
    ⊎_elim
    (λ acts.
    let earlier = left_some (open_after before p) f s (sym (same_after p (acts_on (open_after before) f) (open_after before) f acts.1) ∙ left) in
    let since = found earlier.0 earlier.1.0 in
    subst (λ (t : Session). (i : ℕ) × IsOpenSince p (before ++ f ∷ []) i t) (sym earlier.1.2)
    (since.0, found_acted p before f since.0 earlier.0 since.1 no_opening acts.1 earlier.1.0 earlier.1.1))
    (λ apart.
    let since = found s (sym (apart_after p (acts_on (open_after before) f) (open_after before) f apart) ∙ left) in
    (since.0, found_apart p before f since.0 s since.1 no_opening apart))
    (acts_cases p (acts_on (open_after before) f)))
    (cases_Bool (opens_pair f p))

pub found : (p : Pair) (frames : List Frame) → Found p frames
found p frames = by_frames (Found p) (λ s is. absurd (cc)) (found_more p) frames

-- and where the last opening was not ended, a session is open
abbrev Kept : Pair → List Frame → Type 0
Kept p frames = (i : ℕ) → At (Opens p) frames i → ((k : ℕ) → i < k → ¬ At (Opens p) frames k) → ((k : ℕ) → i < k → ¬ At (Ends p) frames k) → IsSome (open_after frames p)

-- at no place of the earlier frames past this one
not_at-before : (P : List Frame → Frame → Type 0) (fs : List Frame) (f : Frame) (i : ℕ) → ((k : ℕ) → i < k → ¬ At P (fs ++ f ∷ []) k) → (k : ℕ) → i < k → ¬ At P fs k
not_at-before P fs f i none k past at =
    ⊎_elim (λ within. none k past (At-kept P fs f k within at)) (λ beyond. At-past P fs k beyond at) (cases_lt k (length fs))

-- a session that no frame ends is left
some_left : (p : Pair) (o : Option Session) (f : Frame) → IsSome o → (answer_of p o f ≢ Nothing → ⊥) → IsSome (left_of o f)
some_left p None f some not_ended = some
some_left p (Some s) f some not_ended = by_outcome (outcome s f) refl
  where
    by_outcome : (comes : Outcome) → outcome s f ≡ comes → IsSome (left_by (outcome s f) s f)
    by_outcome nothing is = ap (λ (o : Outcome). is_some (left_by o s f)) is
    by_outcome (whole bytes) is = absurd (not_ended (λ none. let e = sym none ∙ ap (answer_by p s) is in cc))
    by_outcome (cut cause) is = absurd (not_ended (λ none. let e = sym none ∙ ap (answer_by p s) is in cc))

kept_more : (p : Pair) (before : List Frame) (f : Frame) → Kept p before → Kept p (before ++ f ∷ [])
kept_more p before f kept = λ i opened last not_ended.
    let all : length (before ++ f ∷ []) ≡ length before + 1 = length-append before (f ∷ []) in
    ⊎_elim
    (λ opens. ap is_some (after_opening before f p opens))
    (λ no_opening.
    let earlier : i < length before =
    ⊎_elim
    (λ same. absurd (true≢false (sym (At-last (Opens p) before f (subst (At (Opens p) (before ++ f ∷ [])) same opened)) ∙ no_opening)))
    (λ other. ⊎_elim (λ below. below) (λ above. absurd (At-past (Opens p) (before ++ f ∷ []) i (omega arith) opened)) other)
    (cases_order i (length before)) in
    let some : IsSome (open_after before p) =
    kept i (At-before (Opens p) before f i earlier opened) (not_at-before (Opens p) before f i last) (not_at-before (Ends p) before f i not_ended) in
    ap is_some (after_no_opening before f p no_opening)
    ∙ ⊎_elim
    (λ acts. ap is_some (same_after p (acts_on (open_after before) f) (open_after before) f acts.1)
    ∙ some_left p (open_after before p) f some
    (λ answers. not_ended (length before) earlier (At-at-last (Ends p) before f
    (acts.1, λ none. answers (sym (ap (λ (o : Option Pair). answer o (open_after before) f) acts.1) ∙ none)))))
    (λ apart. ap is_some (apart_after p (acts_on (open_after before) f) (open_after before) f apart) ∙ some)
    (acts_cases p (acts_on (open_after before) f)))
    (cases_Bool (opens_pair f p))

session_kept : (p : Pair) (frames : List Frame) → Kept p frames
session_kept p frames = by_frames (Kept p) (λ i opened last not_ended. absurd opened) (kept_more p) frames

-- the last opening is one, and so is the session
opens_at : (p : Pair) (frames : List Frame) (i : ℕ) (s : Session) → IsOpenSince p frames i s → At (Opens p) frames i
opens_at p frames i s since =
    subst (λ (o : Option Frame). IsSomeAnd o (Opens p (take i frames))) (sym since.opening) since.opens

one_place : (p : Pair) (frames : List Frame) (i j : ℕ) (s t : Session) → IsOpenSince p frames i s → IsOpenSince p frames j t → i ≡ j
one_place p frames i j s t a b =
    ⊎_elim
    (λ same. same)
    (λ other. ⊎_elim
    (λ before. absurd (a.last j before (opens_at p frames j t b)))
    (λ after'. absurd (b.last i after' (opens_at p frames i s a)))
    other)
    (cases_order i j)

same_session : (s t : Session) → s.opening ≡ t.opening → s.acted ≡ t.acted → s ≡ t
same_session s t opening acted =
    let first : s ≡ record { opening = t.opening; acted = s.acted } = ap (λ (f : Frame). let u : Session = record { opening = f; acted = s.acted } in u) opening in
    let second : record { opening = t.opening; acted = s.acted } ≡ t = ap (λ (fs : List Frame). let u : Session = record { opening = t.opening; acted = fs } in u) acted in
    first ∙ second

one_session : (p : Pair) (frames : List Frame) (i : ℕ) (s t : Session) → IsOpenSince p frames i s → IsOpenSince p frames i t → s ≡ t
one_session p frames i s t a b =
    let openings : Some s.opening ≡ Some t.opening = sym a.opening ∙ b.opening in
    let same : s.opening ≡ t.opening = cc in
    same_session s t same (a.acted ∙ sym b.acted)

is_some_from : (o : Option Session) → IsSome o → (s : Session) × (o ≡ Some s)
is_some_from None h = absurd (true≢false (sym h))
is_some_from (Some s) h = (s, refl)

pub open_since : (p : Pair) (frames : List Frame) (i : ℕ) (s : Session) → IsOpenSince p frames i s → open_after frames p ≡ Some s
open_since p frames i s since =
    let there = is_some_from (open_after frames p) (session_kept p frames i (opens_at p frames i s since) since.last since.not_ended) in
    let other = found p frames there.0 there.1 in
    let place : other.0 ≡ i = one_place p frames other.0 i there.0 s other.1 since in
    let other_there : IsOpenSince p frames i there.0 = subst (λ (j : ℕ). IsOpenSince p frames j there.0) place other.1 in
    there.1 ∙ ap Some (one_session p frames i there.0 s other_there since)

-- a session's opening opens its pair, so the pair's addresses are a byte each
pub pair_below : (p : Pair) (frames : List Frame) (s : Session) → open_after frames p ≡ Some s → (p.0 < 256) × (p.1 < 256)
pair_below p frames s is =
    let since = found p frames s is in
    let both = and_parts (is_opening (role s.opening)) (same_pair (pair_of s.opening) p) since.1.opens in
    let same : pair_of s.opening ≡ p = same_pair-eq (pair_of s.opening) p both.1 in
    let below : ((pair_of s.opening).0 < 256) × ((pair_of s.opening).1 < 256) = (omega arith, omega arith) in
    subst (λ (q : Pair). (q.0 < 256) × (q.1 < 256)) same below
