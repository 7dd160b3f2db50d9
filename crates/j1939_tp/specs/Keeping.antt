-- What the listener keeps of a session, and when that agrees with the session. The frames themselves are not
-- kept: the number of packets taken, the bytes and the last stamp stand for them.
use Rattle.std.specs.Prelude.{◌≡◌, ℕ, ◌+◌, ◌<◌, ◌≤◌, ◌==◌, Bool, false, List, [], ◌∷◌, ◌++◌, take}
use Rattle.std.specs.Prelude.{find, nat_lt, Option, None, Some, IsSome, MatchOption, if◌then◌else◌}
use Rattle.std.specs.declared.cmp.Ordering.{Ordering}
use Rattle.std.specs.Ordering.{nat_cmp, ordering_then}
use Rattle.std.specs.Map.{lookup}
use Rattle.std.specs.BTreeMap.{is_at}
use Rattle.bench_model.specs.declared.reading.CutCause.{CutCause}
use Rattle.bench_model.specs.declared.reading.CutCause.TheVariants.{Late, Order}
use Rattle.j1939_tp.specs.declared.out.TpOut.{TpOut}
use Rattle.j1939_tp.specs.declared.out.TpOut.TheVariants as out
use Rattle.j1939_tp.specs.Frames.{Frame, named_group, stated_size, stated_packets}
use Rattle.j1939_tp.specs.Session.{Session, longest_pause, last_stamp, number, most, packets_to}
use Rattle.j1939_tp.specs.OpenSessions.{Pair, open_after, answer_at}

-- a session as it is kept: the group, size and packets of its opening, how many packets were taken, the stamp
-- of its last frame, and the bytes of the packets taken
pub record Kept : Type 0 where
  pub group : ℕ
  pub size : ℕ
  pub packets : ℕ
  pub taken : ℕ
  pub stamp : ℕ
  pub bytes : List ℕ

-- the sessions as they are kept, in the order of their pairs
abbrev pub Entries : Type 0
Entries = List (Pair × Kept)

abbrev pub pair_cmp : Pair → Pair → Ordering
pair_cmp p q = ordering_then (nat_cmp p.0 q.0) (nat_cmp p.1 q.1)

abbrev pub kept_of : Entries → Pair → Option Kept
kept_of entries p = lookup (is_at (pair_cmp p)) entries

-- what is kept is that of the session
pub record Agrees (s : Session) (k : Kept) : Type 0 where
  pub group : k.group ≡ named_group s.opening
  pub size : k.size ≡ stated_size s.opening
  pub packets : k.packets ≡ stated_packets s.opening
  pub taken : k.taken ≡ most s.acted
  pub stamp : k.stamp ≡ last_stamp s
  pub bytes : k.bytes ≡ packets_to s.acted (most s.acted)
  pub all_there : (n : ℕ) → 0 < n → n ≤ most s.acted → IsSome (find (λ f. number f == n) s.acted)

abbrev pub AgreeIfOpen : Option Session → Option Kept → Type 0
AgreeIfOpen None None = Unit {0}
AgreeIfOpen (Some s) (Some k) = Agrees s k
AgreeIfOpen None (Some k) = ⊥
AgreeIfOpen (Some s) None = ⊥

-- the sessions kept are those that are open after these frames
pub record HasHeard (entries : Entries) (frames : List Frame) : Type 0 where
  pub each : (p : Pair) → AgreeIfOpen (open_after frames p) (kept_of entries p)

-- what becomes of a session that is kept
pub data Fate : Type 0 where
  goes_on : Kept → Fate
  is_whole : List ℕ → Fate
  is_cut : CutCause → Fate

abbrev pub is_late : Kept → ℕ → Bool
is_late k micros = nat_lt (k.stamp + longest_pause) micros

abbrev pub late_or : CutCause → Kept → ℕ → CutCause
late_or cause k micros = if is_late k micros then Late else cause

-- of one that a frame ends
abbrev pub fate_of_end : CutCause → ℕ → Kept → Fate
fate_of_end cause micros k = is_cut (late_or cause k micros)

abbrev pub fate_of_cut : CutCause → Kept → Fate
fate_of_cut cause k = is_cut cause

abbrev pub fate_of_last : List ℕ → Kept → Fate
fate_of_last carried k = is_whole (take k.size (k.bytes ++ carried))

-- of one that a frame renews
abbrev pub fate_in_time_of_renewal : ℕ → Kept → Fate
fate_in_time_of_renewal micros k = goes_on (record k { stamp = micros })

abbrev pub fate_of_renewal : ℕ → Kept → Fate
fate_of_renewal micros k = if is_late k micros then is_cut Late else fate_in_time_of_renewal micros k

-- of one that gets a packet: the next one, or any
abbrev pub fate_of_next : ℕ → ℕ → List ℕ → Kept → Fate
fate_of_next micros n carried k =
    if n == k.packets then is_whole (take k.size (k.bytes ++ carried))
    else goes_on (record k { taken = n; stamp = micros; bytes = k.bytes ++ carried })

abbrev pub fate_in_time : ℕ → ℕ → List ℕ → Kept → Fate
fate_in_time micros n carried k =
    if nat_lt (k.taken + 1) n then is_cut Order
    else if n == k.taken + 1 then fate_of_next micros n carried k
    else goes_on (record k { stamp = micros })

abbrev pub fate_of_packet : ℕ → ℕ → List ℕ → Kept → Fate
fate_of_packet micros n carried k = if is_late k micros then is_cut Late else fate_in_time micros n carried k

-- what is kept of a session after its fate, and what is answered
abbrev pub kept_after : Fate → Option Kept
kept_after (goes_on k) = Some k
kept_after _ = None

abbrev pub answer_to : Pair → Kept → Fate → TpOut
answer_to p k (goes_on k') = out.Nothing
answer_to p k (is_whole bytes) = out.Whole k.group p.0 p.1 bytes
answer_to p k (is_cut cause) = out.Cut k.group p.0 p.1 cause

-- one pair has this in place of what it had, and the others have what they had
abbrev pub Changes : Entries → Entries → Pair → Option Kept → Type 0
Changes old new p kept = (q : Pair) → kept_of new q ≡ (if is_at (pair_cmp p) q then kept else kept_of old q)

-- this session of the pair, if it is one, met this fate, and nothing else changed
abbrev pub MeetsBy : Entries → Entries → Pair → Option Kept → (Kept → Fate) → TpOut → Type 0
MeetsBy old new p kept fate answered =
    MatchOption kept ((answered ≡ out.Nothing) × (new ≡ old))
    (λ k. (answered ≡ answer_to p k (fate k)) × Changes old new p (kept_after (fate k)))

-- the session of the pair, where there is one
abbrev pub Meets : Entries → Entries → Pair → (Kept → Fate) → TpOut → Type 0
Meets old new p fate answered = MeetsBy old new p (kept_of old p) fate answered

-- the session of the pair, where it has this group
abbrev pub of_group : ℕ → Option Kept → Option Kept
of_group group None = None
of_group group (Some k) = if k.group == group then Some k else None

abbrev pub MeetsNamed : Entries → Entries → Pair → ℕ → (Kept → Fate) → TpOut → Type 0
MeetsNamed old new p group fate answered = MeetsBy old new p (of_group group (kept_of old p)) fate answered

abbrev pub keeps_group : ℕ → Option Kept → Bool
keeps_group group None = false
keeps_group group (Some k) = k.group == group

-- an abort is for the session of the pair where it has this group, and else for that of the other direction
abbrev pub aborted_pair : Entries → Pair → ℕ → Pair
aborted_pair entries p group = if keeps_group group (kept_of entries p) then p else (p.1, p.0)

-- after one more frame the answer is the protocol's, and the frames heard are those before and this one
pub record Hears (old new : Entries) (before : List Frame) (f : Frame) (answered : TpOut) : Type 0 where
  pub answer : answered ≡ answer_at before f
  pub heard : HasHeard new (before ++ f ∷ [])
