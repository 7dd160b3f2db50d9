-- One more frame: what is answered is what the protocol gives, and the sessions that are kept are those that are
-- open after it.
use Rattle.std.proofs.Common.{◌≡◌, ℕ, ◌==◌, ◌&&◌, Bool, List, [], ◌∷◌, ◌++◌, Option, None}
use Rattle.std.proofs.Common.{Some, is_some, refl, sym, ◌∙◌, ap, subst, ⊎_elim, arith}
use Rattle.std.proofs.Common.{true, false, if◌then◌else◌}
use Rattle.std.proofs.lemmas.List.Sums.{fold-append}
use Rattle.std.proofs.lemmas.Bool.{cases_Bool}
use Rattle.bench_model.specs.declared.reading.CutCause.TheVariants.{Again, Abort, End}
use Rattle.j1939_tp.specs.declared.out.TpOut.{TpOut}
use Rattle.j1939_tp.specs.declared.out.TpOut.TheVariants.{Nothing}
use Rattle.j1939_tp.specs.declared.tp_frame.Opening.{Opening}
use Rattle.j1939_tp.specs.Frames.{Frame, opens, renews, ends, aborts, packet, other, role, byte}
use Rattle.j1939_tp.specs.Frames.{carried, named_group}
use Rattle.j1939_tp.specs.Session.{Session, Outcome, nothing, whole, cut, outcome}
use Rattle.j1939_tp.specs.OpenSessions.{Pair, Sessions, same_pair, pair_of, reversed, no_sessions, if_open}
use Rattle.j1939_tp.specs.OpenSessions.{has_group, if_named, acts_by, acts_on, is_opening}
use Rattle.j1939_tp.specs.OpenSessions.{left_by, left_of, after_acting, after, open_after, answer_by}
use Rattle.j1939_tp.specs.OpenSessions.{answer_of, answer}
use Rattle.j1939_tp.specs.Keeping.{Kept, Entries, kept_of, Agrees, AgreeIfOpen, HasHeard, Fate}
use Rattle.j1939_tp.specs.Keeping.{goes_on, is_whole, is_cut, fate_of_end, fate_of_renewal}
use Rattle.j1939_tp.specs.Keeping.{fate_of_packet, kept_after, answer_to, Changes, MeetsBy, Hears, of_group}
use Rattle.j1939_tp.specs.Keeping.{keeps_group, aborted_pair}
use Rattle.j1939_tp.specs.FrameReading.{IsStatedBy, fresh, answer_to_opening}
use Rattle.j1939_tp.proofs.PairLaws.{is_at-pair_cmp, same_pair-eq}
use Rattle.j1939_tp.proofs.RowLaws.{HasFate, packet_fate, renewal_fate, end_fate, abort_fate, opening_fate}

pub open_after-snoc : (before : List Frame) (f : Frame) (p : Pair) → open_after (before ++ f ∷ []) p ≡ after (open_after before) f p
open_after-snoc before f p = ap (λ (sessions : Sessions). sessions p) (fold-append after no_sessions before (f ∷ []))

-- a frame that opens nothing and acts on nothing
untouched : (old new : Entries) (before : List Frame) (f : Frame) (answered : TpOut) → HasHeard old before → is_opening (role f) ≡ false
    → acts_on (open_after before) f ≡ None → answered ≡ Nothing → new ≡ old → Hears old new before f answered
untouched old new before f answered h no_opening no_acting nothing' same =
    record {
      answer = nothing' ∙ sym (ap (λ o. answer o (open_after before) f) no_acting);
      heard = record {
        each = λ p.
            let stays : open_after (before ++ f ∷ []) p ≡ open_after before p =
            open_after-snoc before f p ∙ rw no_opening (ap (λ o. after_acting o (open_after before) f p) no_acting) in
            rw (stays, same) (h.each p);
      };
    }

-- of what agrees, what comes of it agrees
answer_from_fate : (p : Pair) (s : Session) (k : Kept) (f : Frame) (comes : Outcome) (fate : Fate) → Agrees s k → HasFate s f comes fate → answer_to p k fate ≡ answer_by p s comes
answer_from_fate p s k f nothing (goes_on k') h has = refl
answer_from_fate p s k f (whole bytes) (is_whole bytes') h has = rw (h.group, has) refl
answer_from_fate p s k f (cut cause) (is_cut cause') h has = rw (h.group, has) refl
answer_from_fate p s k f nothing (is_whole bytes) h has = absurd has
answer_from_fate p s k f nothing (is_cut cause) h has = absurd has
answer_from_fate p s k f (whole bytes) (goes_on k') h has = absurd has
answer_from_fate p s k f (whole bytes) (is_cut cause) h has = absurd has
answer_from_fate p s k f (cut cause) (goes_on k') h has = absurd has
answer_from_fate p s k f (cut cause) (is_whole bytes) h has = absurd has

left_from_fate : (s : Session) (f : Frame) (comes : Outcome) (fate : Fate) → HasFate s f comes fate → AgreeIfOpen (left_by comes s f) (kept_after fate)
left_from_fate s f nothing (goes_on k') has = has
left_from_fate s f (whole bytes) (is_whole bytes') has = tt
left_from_fate s f (cut cause) (is_cut cause') has = tt
left_from_fate s f nothing (is_whole bytes) has = absurd has
left_from_fate s f nothing (is_cut cause) has = absurd has
left_from_fate s f (whole bytes) (goes_on k') has = absurd has
left_from_fate s f (whole bytes) (is_cut cause) has = absurd has
left_from_fate s f (cut cause) (goes_on k') has = absurd has
left_from_fate s f (cut cause) (is_whole bytes) has = absurd has

-- where a session is kept, one is open and agrees with it
open_from_kept : (o : Option Session) (k : Kept) → AgreeIfOpen o (Some k) → (s : Session) × ((o ≡ Some s) × Agrees s k)
open_from_kept None k h = absurd h
open_from_kept (Some s) k h = (s, (refl, h))

-- the session of a pair meets its fate
touched : (old new : Entries) (before : List Frame) (f : Frame) (p : Pair) (k : Kept) (fate : Fate) (answered : TpOut) → HasHeard old before → is_opening (role f) ≡ false
    → acts_on (open_after before) f ≡ Some p → kept_of old p ≡ Some k → ((s : Session) → Agrees s k → HasFate s f (outcome s f) fate)
    → answered ≡ answer_to p k fate → Changes old new p (kept_after fate) → Hears old new before f answered
touched old new before f p k fate answered h no_opening acts kept has answers changes =
    let found : (s : Session) × ((open_after before p ≡ Some s) × Agrees s k) =
    open_from_kept (open_after before p) k (subst (λ (o : Option Kept). AgreeIfOpen (open_after before p) o) kept (h.each p)) in
    let s = found.0 in
    let is_open : open_after before p ≡ Some s = found.1.0 in
    let met : HasFate s f (outcome s f) fate = has s found.1.1 in
    record {
      answer = answers ∙ answer_from_fate p s k f (outcome s f) fate found.1.1 met
          ∙ sym (ap (λ o. answer o (open_after before) f) acts ∙ ap (λ o. answer_of p o f) is_open);
      heard = record {
        each = λ q.
            let opened : open_after (before ++ f ∷ []) q ≡ (if same_pair p q then left_of (open_after before q) f else open_after before q) =
            open_after-snoc before f q ∙ rw no_opening (ap (λ o. after_acting o (open_after before) f q) acts) in
            let now_kept : kept_of new q ≡ (if same_pair p q then kept_after fate else kept_of old q) = changes q ∙ ap (λ (b : Bool). if b then kept_after fate else kept_of old q) (is_at-pair_cmp p q) in
            rw (opened, now_kept)
            (⊎_elim
            (λ same. let left : left_of (open_after before q) f ≡ left_by (outcome s f) s f =
            ap (λ r. left_of (open_after before r) f) (sym (same_pair-eq p q same)) ∙ ap (λ o. left_of o f) is_open in
            rw (same, left) (left_from_fate s f (outcome s f) fate met))
            (λ apart. rw apart (h.each q))
            (cases_Bool (same_pair p q)));
      };
    }

-- a frame that opens nothing, where the session that it acts on, if any, met its fate
row : (old new : Entries) (before : List Frame) (f : Frame) (p : Pair) (kept : Option Kept) (fate : Kept → Fate) (answered : TpOut) → HasHeard old before → is_opening (role f) ≡ false
    → acts_on (open_after before) f ≡ (if is_some kept then Some p else None) → ((k : Kept) → kept ≡ Some k → kept_of old p ≡ Some k)
    → ((s : Session) (k : Kept) → Agrees s k → HasFate s f (outcome s f) (fate k)) → MeetsBy old new p kept fate answered → Hears old new before f answered
row old new before f p None fate answered h no_opening acts kept has meets = untouched old new before f answered h no_opening acts meets.0 meets.1
row old new before f p (Some k) fate answered h no_opening acts kept has meets =
    touched old new before f p k (fate k) answered h no_opening acts (kept k refl) (λ s agrees. has s k agrees) meets.0 meets.1

-- the sessions that are open are kept, with their groups
same_some : (o : Option Session) (kept : Option Kept) → AgreeIfOpen o kept → is_some o ≡ is_some kept
same_some None None h = refl
same_some (Some s) (Some k) h = refl
same_some None (Some k) h = absurd h
same_some (Some s) None h = absurd h

some_if : (b : Bool) (k : Kept) → is_some (if b then Some k else None) ≡ b
some_if true k = refl
some_if false k = refl

same_named : (group : ℕ) (o : Option Session) (kept : Option Kept) → AgreeIfOpen o kept → has_group group o ≡ is_some (of_group group kept)
same_named group None None h = refl
same_named group (Some s) (Some k) h = ap (λ (g : ℕ). g == group) (sym h.group) ∙ sym (some_if (k.group == group) k)
same_named group None (Some k) h = absurd h
same_named group (Some s) None h = absurd h

of_group-some : (group : ℕ) (kept : Option Kept) (k : Kept) → of_group group kept ≡ Some k → kept ≡ Some k
of_group-some group None k is = absurd (cc)
of_group-some group (Some k') k is =
    ⊎_elim
    (λ yes. let e : of_group group (Some k') ≡ Some k' = rw yes refl in sym e ∙ is)
    (λ no. let e : of_group group (Some k') ≡ None = rw no refl in absurd (cc))
    (cases_Bool (k'.group == group))

keeps_named : (group : ℕ) (kept : Option Kept) → keeps_group group kept ≡ is_some (of_group group kept)
keeps_named group None = refl
keeps_named group (Some k) = sym (some_if (k.group == group) k)

acts_by_name : (old : Entries) (before : List Frame) (f : Frame) (p : Pair) → HasHeard old before
    → if_named (open_after before) f p ≡ (if is_some (of_group (named_group f) (kept_of old p)) then Some p else None)
acts_by_name old before f p h = ap (λ (b : Bool). if b then Some p else None) (same_named (named_group f) (open_after before p) (kept_of old p) (h.each p))

pub packet_heard : (old new : Entries) (before : List Frame) (f : Frame) (answered : TpOut) → HasHeard old before → role f ≡ packet
    → MeetsBy old new (pair_of f) (kept_of old (pair_of f)) (fate_of_packet f.micros (byte 1 f) (carried f)) answered → Hears old new before f answered
packet_heard old new before f answered h is meets =
    row old new before f (pair_of f) (kept_of old (pair_of f)) (fate_of_packet f.micros (byte 1 f) (carried f)) answered h (ap is_opening is)
    (ap (λ r. acts_by r (open_after before) f) is ∙ ap (λ (b : Bool). if b then Some (pair_of f) else None) (same_some (open_after before (pair_of f)) (kept_of old (pair_of f)) (h.each (pair_of f))))
    (λ k e. e) (λ s k agrees. packet_fate s k f agrees is) meets

pub renewal_heard : (old new : Entries) (before : List Frame) (f : Frame) (answered : TpOut) → HasHeard old before → role f ≡ renews
    → MeetsBy old new (reversed f) (of_group (named_group f) (kept_of old (reversed f))) (fate_of_renewal f.micros) answered → Hears old new before f answered
renewal_heard old new before f answered h is meets =
    row old new before f (reversed f) (of_group (named_group f) (kept_of old (reversed f))) (fate_of_renewal f.micros) answered h (ap is_opening is)
    (ap (λ r. acts_by r (open_after before) f) is ∙ acts_by_name old before f (reversed f) h)
    (λ k e. of_group-some (named_group f) (kept_of old (reversed f)) k e) (λ s k agrees. renewal_fate s k f agrees is) meets

pub end_heard : (old new : Entries) (before : List Frame) (f : Frame) (answered : TpOut) → HasHeard old before → role f ≡ ends
    → MeetsBy old new (reversed f) (of_group (named_group f) (kept_of old (reversed f))) (fate_of_end End f.micros) answered → Hears old new before f answered
end_heard old new before f answered h is meets =
    row old new before f (reversed f) (of_group (named_group f) (kept_of old (reversed f))) (fate_of_end End f.micros) answered h (ap is_opening is)
    (ap (λ r. acts_by r (open_after before) f) is ∙ acts_by_name old before f (reversed f) h)
    (λ k e. of_group-some (named_group f) (kept_of old (reversed f)) k e) (λ s k agrees. end_fate s k f agrees is) meets

-- an abort acts on the session that the code picks
acts_on_abort : (old : Entries) (before : List Frame) (f : Frame) → HasHeard old before
    → acts_by aborts (open_after before) f
    ≡ (if is_some (of_group (named_group f) (kept_of old (aborted_pair old (pair_of f) (named_group f)))) then Some (aborted_pair old (pair_of f) (named_group f)) else None)
acts_on_abort old before f h =
    let group = named_group f in
    let named : keeps_group group (kept_of old (pair_of f)) ≡ is_some (of_group group (kept_of old (pair_of f))) = keeps_named group (kept_of old (pair_of f)) in
    rw (acts_by_name old before f (pair_of f) h, acts_by_name old before f (reversed f) h)
    (⊎_elim
    (λ yes. let some : is_some (of_group group (kept_of old (pair_of f))) ≡ true = sym named ∙ yes in
    let picked : aborted_pair old (pair_of f) group ≡ pair_of f = rw yes refl in
    rw (picked, some) refl)
    (λ no. let none : is_some (of_group group (kept_of old (pair_of f))) ≡ false = sym named ∙ no in
    let picked : aborted_pair old (pair_of f) group ≡ reversed f = rw no refl in
    rw (picked, none) refl)
    (cases_Bool (keeps_group group (kept_of old (pair_of f)))))

pub abort_heard : (old new : Entries) (before : List Frame) (f : Frame) (answered : TpOut) → HasHeard old before → role f ≡ aborts
    → MeetsBy old new (aborted_pair old (pair_of f) (named_group f)) (of_group (named_group f) (kept_of old (aborted_pair old (pair_of f) (named_group f)))) (fate_of_end Abort f.micros) answered
    → Hears old new before f answered
abort_heard old new before f answered h is meets =
    let p = aborted_pair old (pair_of f) (named_group f) in
    row old new before f p (of_group (named_group f) (kept_of old p)) (fate_of_end Abort f.micros) answered h (ap is_opening is)
    (ap (λ r. acts_by r (open_after before) f) is ∙ acts_on_abort old before f h)
    (λ k e. of_group-some (named_group f) (kept_of old p) k e) (λ s k agrees. abort_fate s k f agrees is) meets

pub other_heard : (old : Entries) (before : List Frame) (f : Frame) → HasHeard old before → role f ≡ other → Hears old old before f Nothing
other_heard old before f h is = untouched old old before f Nothing h (ap is_opening is) (ap (λ r. acts_by r (open_after before) f) is) refl refl

-- a frame that opens a session
pub opening_heard : (old new : Entries) (before : List Frame) (f : Frame) (opening : Opening) (answered : TpOut) → HasHeard old before → role f ≡ opens
    → IsStatedBy f opening → Changes old new (pair_of f) (Some (fresh f.micros opening)) → answered ≡ answer_to_opening (pair_of f) f.micros (kept_of old (pair_of f))
    → Hears old new before f answered
opening_heard old new before f opening answered h is states changes answers =
    record {
      answer = answers ∙ by_earlier (open_after before (pair_of f)) (kept_of old (pair_of f)) (h.each (pair_of f))
          ∙ sym (ap (λ o. answer o (open_after before) f) (ap (λ r. acts_by r (open_after before) f) is) ∙ by_open (open_after before (pair_of f)) refl);
      heard = record {
        each = λ q.
            let opened : open_after (before ++ f ∷ []) q
            ≡ (if same_pair (pair_of f) q then Some (record { opening = f; acted = [] }) else after_acting (acts_on (open_after before) f) (open_after before) f q) =
            open_after-snoc before f q ∙ ap (λ r. if is_opening r && same_pair (pair_of f) q then Some (record { opening = f; acted = [] }) else after_acting (acts_on (open_after before) f) (open_after before) f q) is in
            let now_kept : kept_of new q ≡ (if same_pair (pair_of f) q then Some (fresh f.micros opening) else kept_of old q) =
            changes q ∙ ap (λ (b : Bool). if b then Some (fresh f.micros opening) else kept_of old q) (is_at-pair_cmp (pair_of f) q) in
            rw (opened, now_kept)
            (⊎_elim
            (λ same. rw same new_agrees)
            (λ apart. let stays : after_acting (acts_on (open_after before) f) (open_after before) f q ≡ open_after before q =
            ap (λ r. after_acting (acts_by r (open_after before) f) (open_after before) f q) is ∙ by_other (is_some (open_after before (pair_of f))) q apart in
            rw (apart, stays) (h.each q))
            (cases_Bool (same_pair (pair_of f) q)));
      };
    }
  where
    new_agrees : Agrees (record { opening = f; acted = [] }) (fresh f.micros opening)
    new_agrees = record { group = states.group; size = states.size; packets = states.packets; taken = refl; stamp = refl; bytes = refl; all_there = λ n above below. absurd (omega arith) }

    by_other : (b : Bool) (q : Pair) → same_pair (pair_of f) q ≡ false
        → after_acting (if b then Some (pair_of f) else None) (open_after before) f q ≡ open_after before q
    by_other true q apart = rw apart refl
    by_other false q apart = refl

    by_earlier : (o : Option Session) (kept : Option Kept) → AgreeIfOpen o kept → answer_to_opening (pair_of f) f.micros kept ≡ answer_of (pair_of f) o f
    by_earlier None None h' = refl
    by_earlier (Some s) (Some k) h' = answer_from_fate (pair_of f) s k f (outcome s f) (fate_of_end Again f.micros k) h' (opening_fate s k f h' is)
    by_earlier None (Some k) h' = absurd h'
    by_earlier (Some s) None h' = absurd h'

    by_open : (o : Option Session) → open_after before (pair_of f) ≡ o → answer (if_open (open_after before) (pair_of f)) (open_after before) f ≡ answer_of (pair_of f) o f
    by_open None e = ap (λ (o : Option Session). answer (if is_some o then Some (pair_of f) else None) (open_after before) f) e
    by_open (Some s) e = ap (λ (o : Option Session). answer (if is_some o then Some (pair_of f) else None) (open_after before) f) e ∙ ap (λ o. answer_of (pair_of f) o f) e
