-- What is kept of a session meets the fate that the protocol gives the session, row by row.
use Rattle.std.proofs.Common.{◌≡◌, ◌≢◌, ℕ, suc, ◌+◌, ◌<◌, ◌≤◌, ◌==◌, ◌&&◌, Bool, [], ◌∷◌, ◌++◌}
use Rattle.std.proofs.Common.{find, take, nat_lt, Some, IsSome, refl, sym, ◌∙◌, ap, arith}
use Rattle.std.proofs.Common.{true, false, if◌then◌else◌}
use Rattle.std.proofs.Common.{⊎_elim, subst}
use Rattle.std.proofs.lemmas.Bool.{eqb-true, eqb-false, ltb-false, cases_lt, cases_Bool}
use Rattle.bench_model.specs.declared.reading.CutCause.{CutCause}
use Rattle.bench_model.specs.declared.reading.CutCause.TheVariants.{Late, Again, Abort, End}
use Rattle.j1939_tp.specs.Frames.{Frame, Role, opens, renews, ends, aborts, packet, role, byte}
use Rattle.j1939_tp.specs.Frames.{carried, stated_packets, stated_size}
use Rattle.j1939_tp.specs.Session.{Session, Outcome, nothing, whole, cut, outcome, outcome_by}
use Rattle.j1939_tp.specs.Session.{outcome_of_packet, number, number_by, most, message_of}
use Rattle.j1939_tp.specs.Session.{last_stamp, longest_pause, with_frame}
use Rattle.j1939_tp.specs.Keeping.{Kept, Agrees, Fate, goes_on, is_whole, is_cut, is_late}
use Rattle.j1939_tp.specs.Keeping.{fate_of_end, fate_of_renewal, fate_of_packet, fate_in_time, fate_of_next}
use Rattle.j1939_tp.proofs.SessionLaws.{is_number, last_stamp-snoc, most-snoc, find-snoc, find-next}
use Rattle.j1939_tp.proofs.SessionLaws.{packets_to-snoc, packets_to-next}

-- the session has this fate: what is kept of it agrees with the session as it goes on
abbrev pub HasFate : Session → Frame → Outcome → Fate → Type 0
HasFate s f nothing (goes_on k) = Agrees (with_frame s f) k
HasFate s f (whole bytes) (is_whole bytes') = bytes ≡ bytes'
HasFate s f (cut cause) (is_cut cause') = cause ≡ cause'
HasFate s f _ _ = ⊥

-- a frame that carries no new packet
pub agrees_renewed : (s : Session) (k : Kept) (f : Frame) → Agrees s k → number f ≤ most s.acted → Agrees (with_frame s f) (record k { stamp = f.micros })
agrees_renewed s k f h low =
    let same : most (s.acted ++ f ∷ []) ≡ most s.acted = omega (arith, most-snoc s.acted f) in
    record {
      group = h.group;
      size = h.size;
      packets = h.packets;
      taken = h.taken ∙ sym same;
      stamp = sym (last_stamp-snoc s.opening.micros s.acted f);
      bytes = rw same (h.bytes ∙ sym (packets_to-snoc s.acted f (most s.acted) h.all_there));
      all_there = λ n above below. let there : IsSome (find (is_number n) s.acted) = h.all_there n above (omega arith) in
          rw (find-snoc n s.acted f there) there;
    }

-- the next packet
pub agrees_next : (s : Session) (k : Kept) (f : Frame) → Agrees s k → number f ≡ most s.acted + 1
    → Agrees (with_frame s f) (record k { taken = number f; stamp = f.micros; bytes = k.bytes ++ carried f })
agrees_next s k f h is =
    let greatest : most (s.acted ++ f ∷ []) ≡ suc (most s.acted) = omega (arith, most-snoc s.acted f) in
    let next : number f ≡ suc (most s.acted) = omega arith in
    record {
      group = h.group;
      size = h.size;
      packets = h.packets;
      taken = next ∙ sym greatest;
      stamp = sym (last_stamp-snoc s.opening.micros s.acted f);
      bytes = rw (greatest, h.bytes) (sym (packets_to-next s.acted f (most s.acted) h.all_there refl next));
      all_there = λ n above below. there_next s f n h.all_there next above (omega arith);
    }
  where
    there_next : (s : Session) (f : Frame) (n : ℕ) → ((n : ℕ) → 0 < n → n ≤ most s.acted → IsSome (find (is_number n) s.acted))
        → number f ≡ suc (most s.acted) → 0 < n → n ≤ suc (most s.acted) → IsSome (find (is_number n) (s.acted ++ f ∷ []))
    there_next s f n there next above below =
        ⊎_elim
        (λ earlier. let found : IsSome (find (is_number n) s.acted) = there n above (omega arith) in rw (find-snoc n s.acted f found) found)
        (λ past. let found : find (is_number n) (s.acted ++ f ∷ []) ≡ Some f = find-next n s.acted f (omega arith) (omega arith) in rw found refl)
        (cases_lt n (suc (most s.acted)))

-- the last packet
pub message_from_last : (s : Session) (k : Kept) (f : Frame) → Agrees s k → number f ≡ most s.acted + 1 → number f ≡ k.packets
    → message_of (with_frame s f) ≡ take k.size (k.bytes ++ carried f)
message_from_last s k f h is last =
    let next : number f ≡ suc (most s.acted) = omega arith in
    let packets : stated_packets s.opening ≡ suc (most s.acted) = sym h.packets ∙ sym last ∙ next in
    rw (packets, h.size, h.bytes) (ap (take (stated_size s.opening)) (packets_to-next s.acted f (most s.acted) h.all_there refl next))

-- a packet, where the pause was no longer than it may be
fate_of_packet_in_time : (s : Session) (k : Kept) (f : Frame) → Agrees s k → HasFate s f (outcome_of_packet s f) (fate_in_time f.micros (number f) (carried f) k)
fate_of_packet_in_time s k f h =
    ⊎_elim
    (λ gap. let gap' : nat_lt (k.taken + 1) (number f) ≡ true = rw h.taken gap in rw (gap, gap') refl)
    (λ no_gap. let no_gap' : nat_lt (k.taken + 1) (number f) ≡ false = rw h.taken no_gap in
    rw (no_gap, no_gap') (no_gap_fate (ltb-false (most s.acted + 1) (number f) no_gap)))
    (cases_Bool (nat_lt (most s.acted + 1) (number f)))
  where
    next_fate : number f ≡ most s.acted + 1
        → HasFate s f (if number f == stated_packets s.opening then whole (message_of (with_frame s f)) else nothing) (fate_of_next f.micros (number f) (carried f) k)
    next_fate is =
        ⊎_elim
        (λ last. let last' : (number f == k.packets) ≡ true = rw h.packets last in
        rw (last, last') (message_from_last s k f h is (eqb-true (number f) k.packets last')))
        (λ more. let more' : (number f == k.packets) ≡ false = rw h.packets more in rw (more, more') (agrees_next s k f h is))
        (cases_Bool (number f == stated_packets s.opening))

    no_gap_fate : number f ≤ most s.acted + 1
        → HasFate s f (if number f == most s.acted + 1 && number f == stated_packets s.opening then whole (message_of (with_frame s f)) else nothing)
        (if number f == k.taken + 1 then fate_of_next f.micros (number f) (carried f) k else goes_on (record k { stamp = f.micros }))
    no_gap_fate low =
        ⊎_elim
        (λ next. let next' : (number f == k.taken + 1) ≡ true = rw h.taken next in
        rw (next, next') (next_fate (eqb-true (number f) (most s.acted + 1) next)))
        (λ repeated. let repeated' : (number f == k.taken + 1) ≡ false = rw h.taken repeated in
        let other : number f ≢ most s.acted + 1 = eqb-false (number f) (most s.acted + 1) repeated in
        rw (repeated, repeated') (agrees_renewed s k f h (omega arith)))
        (cases_Bool (number f == most s.acted + 1))

-- the pause comes before all else
fate_by_pause : (s : Session) (k : Kept) (f : Frame) (comes : Outcome) (fate : Fate) → Agrees s k → HasFate s f comes fate
    → HasFate s f (if nat_lt (last_stamp s + longest_pause) f.micros then cut Late else comes) (if is_late k f.micros then is_cut Late else fate)
fate_by_pause s k f comes fate h has =
    ⊎_elim
    (λ late. let late' : is_late k f.micros ≡ true = rw h.stamp late in rw (late, late') refl)
    (λ in_time. let in_time' : is_late k f.micros ≡ false = rw h.stamp in_time in rw (in_time, in_time') has)
    (cases_Bool (nat_lt (last_stamp s + longest_pause) f.micros))

-- a frame of this role
fate_by_role : (s : Session) (k : Kept) (f : Frame) (r : Role) (fate : Fate) → Agrees s k → role f ≡ r → HasFate s f (outcome_by r s f) fate
    → HasFate s f (outcome s f) (if is_late k f.micros then is_cut Late else fate)
fate_by_role s k f r fate h is has =
    let P : Role → Type 0 = λ q. HasFate s f (if nat_lt (last_stamp s + longest_pause) f.micros then cut Late else outcome_by q s f) (if is_late k f.micros then is_cut Late else fate) in
    subst P (sym is) (fate_by_pause s k f (outcome_by r s f) fate h has)

pub packet_fate : (s : Session) (k : Kept) (f : Frame) → Agrees s k → role f ≡ packet
    → HasFate s f (outcome s f) (fate_of_packet f.micros (byte 1 f) (carried f) k)
packet_fate s k f h is =
    let numbered : number f ≡ byte 1 f = ap (λ r. number_by r f) is in
    let P : ℕ → Type 0 = λ n. HasFate s f (outcome s f) (fate_of_packet f.micros n (carried f) k) in
    subst P numbered (fate_by_role s k f packet (fate_in_time f.micros (number f) (carried f) k) h is (fate_of_packet_in_time s k f h))

pub renewal_fate : (s : Session) (k : Kept) (f : Frame) → Agrees s k → role f ≡ renews
    → HasFate s f (outcome s f) (fate_of_renewal f.micros k)
renewal_fate s k f h is =
    let none : number f ≡ 0 = ap (λ r. number_by r f) is in
    fate_by_role s k f renews (goes_on (record k { stamp = f.micros })) h is (agrees_renewed s k f h (omega arith))

-- a frame that ends the session by itself
fate_by_end : (s : Session) (k : Kept) (f : Frame) (r : Role) (cause : CutCause) → Agrees s k → role f ≡ r → outcome_by r s f ≡ cut cause
    → HasFate s f (outcome s f) (fate_of_end cause f.micros k)
fate_by_end s k f r cause h is ends_so =
    let joins : (b : Bool) → (if b then is_cut Late else is_cut cause) ≡ is_cut (if b then Late else cause) = λ b. elim b as (λ b. (if b then is_cut Late else is_cut cause) ≡ is_cut (if b then Late else cause)) [ true ↦ refl | false ↦ refl ] in
    let P : Fate → Type 0 = λ fate. HasFate s f (outcome s f) fate in
    subst P (joins (is_late k f.micros)) (fate_by_role s k f r (is_cut cause) h is (rw ends_so refl))

pub end_fate : (s : Session) (k : Kept) (f : Frame) → Agrees s k → role f ≡ ends → HasFate s f (outcome s f) (fate_of_end End f.micros k)
end_fate s k f h is = fate_by_end s k f ends End h is refl

pub abort_fate : (s : Session) (k : Kept) (f : Frame) → Agrees s k → role f ≡ aborts → HasFate s f (outcome s f) (fate_of_end Abort f.micros k)
abort_fate s k f h is = fate_by_end s k f aborts Abort h is refl

pub opening_fate : (s : Session) (k : Kept) (f : Frame) → Agrees s k → role f ≡ opens → HasFate s f (outcome s f) (fate_of_end Again f.micros k)
opening_fate s k f h is = fate_by_end s k f opens Again h is refl
