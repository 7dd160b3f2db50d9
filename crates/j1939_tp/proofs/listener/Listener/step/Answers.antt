use Rattle.std.proofs.Common.{◌≡◌, ◌++◌, ◌∷◌, [], List, Some, Result, Ok, Err, IfOk, OnErr, subst, refl}
use Rattle.std.proofs.Common.{sym}
use Rattle.std.proofs.lemmas.Result.{IfOk-weaker}
use Rattle.j1939_tp.specs.declared.tp_frame.TpFrame.{TpFrame}
use Rattle.j1939_tp.specs.declared.tp_frame.TpFrame.TheVariants as tp
use Rattle.j1939_tp.specs.Frames.{Frame, frame, role, opens}
use Rattle.j1939_tp.specs.OpenSessions.{answer_at}
use Rattle.j1939_tp.specs.Keeping.{Entries, HasHeard, Hears}
use Rattle.j1939_tp.specs.FrameReading.{IsReading, IsOpening}
use Rattle.j1939_tp.proofs.HearingLaws.{other_heard}
use Rattle.j1939_tp.proofs.listener.Listener.step.Goals as goal

pub returns-in_default-clause-answer : goal.returns-in_default-clause-answer
returns-in_default-clause-answer c = λ before h.
    (other_heard c.args.self.now before (frame c.args.micros c.args.id c.args.bytes.now) h (c.in_default.ensures c.args.micros)).answer

pub returns-in_default-clause-heard : goal.returns-in_default-clause-heard
returns-in_default-clause-heard c = λ before h.
    (other_heard c.args.self.now before (frame c.args.micros c.args.id c.args.bytes.now) h (c.in_default.ensures c.args.micros)).heard

-- what the call of `hear` says at the frames heard before
heard_by : (c : goal.After-hear) (before : List Frame) → HasHeard c.args.self.now before
    → IfOk c.hear.result (λ out. Hears c.self.inside.sessions.entries c.hear.new.sessions.entries before (frame c.args.micros c.args.id c.args.bytes.now) out)
heard_by c before h =
    let f = frame c.args.micros c.args.id c.args.bytes.now in
    let kept : HasHeard c.self.inside.sessions.entries before = subst (λ (entries : Entries). HasHeard entries before) (sym c.self.view_is) h in
    c.hear.ensures.heard before f kept (c.in-Some.ensures c.args.micros)
    (rw (c.source_of.ensures c.args.micros c.args.bytes.now, c.destination_of.ensures c.args.micros c.args.bytes.now) refl) refl

pub returns-clause-answer : goal.returns-clause-answer
returns-clause-answer c = λ before h. IfOk-weaker c.hear.result (λ out. Hears c.self.inside.sessions.entries c.hear.new.sessions.entries before (frame c.args.micros c.args.id c.args.bytes.now) out) (λ out. out ≡ answer_at before (frame c.args.micros c.args.id c.args.bytes.now)) (λ out hears. hears.answer) (heard_by c before h)

pub returns-clause-heard : goal.returns-clause-heard
returns-clause-heard c = λ before h.
    let f = frame c.args.micros c.args.id c.args.bytes.now in
    IfOk-weaker c.hear.result (λ out. Hears c.self.inside.sessions.entries c.hear.new.sessions.entries before f out)
    (λ out. HasHeard c.hear.new.sessions.entries (before ++ f ∷ [])) (λ out hears. hears.heard) (heard_by c before h)

opens_by_reading : (f : Frame) (w : TpFrame) → IsReading (role f) f (Some w) → IsOpening w → role f ≡ opens
opens_by_reading f (tp.Opens opening) reads is = reads.0
opens_by_reading f (tp.Renews pgn) reads is = absurd is
opens_by_reading f (tp.Ends pgn) reads is = absurd is
opens_by_reading f (tp.Aborts pgn) reads is = absurd is
opens_by_reading f (tp.Packet p) reads is = absurd is

on_err : {X Y : Type 0} (r : Result X Y) (P Q : Type 0) → (P → Q) → OnErr r P → OnErr r Q
on_err (Ok x) P Q then h = tt
on_err (Err e) P Q then h = then h

pub returns-clause-memory : goal.returns-clause-memory
returns-clause-memory c =
    let f = frame c.args.micros c.args.id c.args.bytes.now in
    on_err c.hear.result (IsOpening c.in-Some.frame) (role f ≡ opens) (opens_by_reading f c.in-Some.frame (c.in-Some.ensures c.args.micros)) c.hear.ensures.memory
