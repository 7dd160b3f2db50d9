use Rattle.std.proofs.Common.{◌≡◌, Some, Result, Ok, Err, IfOk, OnOk, subst}
use Rattle.j1939_tp.specs.declared.tp_frame.TpFrame.{TpFrame}
use Rattle.j1939_tp.specs.Frames.{Frame, role}
use Rattle.j1939_tp.specs.Keeping.{Changes, Hears, kept_of}
use Rattle.j1939_tp.specs.FrameReading.{IsReading, fresh, answer_to_opening}
use Rattle.j1939_tp.proofs.HearingLaws.{opening_heard, renewal_heard, end_heard, abort_heard, packet_heard}
use Rattle.j1939_tp.proofs.sessions.hear.Goals as goal

abbrev ReadSo : Frame → TpFrame → Type 0
ReadSo f w = IsReading (role f) f (Some w)

pub returns-in-Renews-clause-heard : goal.returns-in-Renews-clause-heard
returns-in-Renews-clause-heard c = λ before f h reads pair micros.
    let read = subst (ReadSo f) c.in-Renews.is reads in
    renewal_heard c.args.sessions.now.entries c.renew.new.sessions.entries before f c.renew.result h read.0 (rw (pair, micros, read.1) at c.renew.ensures)

pub returns-in-Ends-clause-heard : goal.returns-in-Ends-clause-heard
returns-in-Ends-clause-heard c = λ before f h reads pair micros.
    let read = subst (ReadSo f) c.in-Ends.is reads in
    end_heard c.args.sessions.now.entries c.cut.new.sessions.entries before f c.cut.result h read.0 (rw (pair, micros, read.1) at c.cut.ensures)

pub returns-in-Aborts-clause-heard : goal.returns-in-Aborts-clause-heard
returns-in-Aborts-clause-heard c = λ before f h reads pair micros.
    let read = subst (ReadSo f) c.in-Aborts.is reads in
    abort_heard c.args.sessions.now.entries c.abort.new.sessions.entries before f c.abort.result h read.0 (rw (pair, micros, read.1) at c.abort.ensures)

pub returns-in-Packet-clause-heard : goal.returns-in-Packet-clause-heard
returns-in-Packet-clause-heard c = λ before f h reads pair micros.
    let read = subst (ReadSo f) c.in-Packet.is reads in
    packet_heard c.args.sessions.now.entries c.take_packet.new.sessions.entries before f c.take_packet.result h read.0 (rw (pair, micros, read.1, read.2) at c.take_packet.ensures)

-- what holds on success and of the value
ok_both : {X Y : Type 0} (r : Result X Y) (P : Type 0) (Q R : X → Type 0) → OnOk r P → IfOk r Q → ((x : X) → P → Q x → R x) → IfOk r R
ok_both (Ok x) P Q R p q both = both x p q
ok_both (Err e) P Q R p q both = tt

pub returns-in-Opens-clause-heard : goal.returns-in-Opens-clause-heard
returns-in-Opens-clause-heard c = λ before f h reads pair micros.
    let old = c.args.sessions.now.entries in
    let new = c.open.new.sessions.entries in
    let read = subst (ReadSo f) c.in-Opens.is reads in
    ok_both c.open.result (Changes old new c.args.pair (Some (fresh c.args.micros c.in-Opens.opening)))
    (λ out. out ≡ answer_to_opening c.args.pair c.args.micros (kept_of old c.args.pair)) (λ out. Hears old new before f out)
    c.open.ensures.changed c.open.ensures.answered
    (λ out changed answered. opening_heard old new before f c.in-Opens.opening out h read.0 read.1 (rw (pair, micros) at changed) (rw (pair, micros) at answered))
