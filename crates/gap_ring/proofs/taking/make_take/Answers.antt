use Rattle.std.proofs.Common.{ap}
use Rattle.gap_ring.proofs.TakingLaws.{Took, rests_after, item_made, old_made, nothing_made, Found, end_made}
use Rattle.gap_ring.proofs.taking.make_take.Goals as goal

pub returns-then-tail-progress-clause-made : goal.returns-then-tail-progress-clause-made
returns-then-tail-progress-clause-made c =
    let seat = c.args.seat.now in
    let h : Found c.args.ring.now.shared.table_id.slots c.load_end-end.result c.load_tail-tail.result c.load_gap-first.result c.load_gap-last.result c.load_gap-versions.result c.args.progress.now seat.me c.load_end-end.new.seat.me c.load_tail-tail.new.seat.me c.load_gap-first.new.seat.me c.load_gap-last.new.seat.me c.load_gap-versions.new.seat.me = record {
      rests = c.requires.rests.0;
      odd = c.requires.attached;
      end_seen = c.load_end-end.ensures.seen;
      tail_seen = c.load_tail-tail.ensures.seen;
      same = c.if-tail-progress.true;
      ended = c.if-end-eq0.false;
      first_seen = c.load_gap-first.ensures.seen;
      last_seen = c.load_gap-last.ensures.seen;
      versions_seen = c.load_gap-versions.ensures.seen;
    } in
    end_made c.args.ring.now.shared.table_id.slots c.load_end-end.result c.load_tail-tail.result c.load_gap-first.result c.load_gap-last.result c.load_gap-versions.result c.args.progress.now seat.me c.load_end-end.new.seat.me c.load_tail-tail.new.seat.me c.load_gap-first.new.seat.me c.load_gap-last.new.seat.me c.load_gap-versions.new.seat.me h c.gap_to-gap.result c.gap_to-gap.ensures

pub returns-then-pass-clause-rests : goal.returns-then-pass-clause-rests
returns-then-pass-clause-rests c =
    let seat = c.args.seat.now in
    let h : Took c.args.ring.now.shared.table_id.slots c.load_end-end.result c.load_tail-tail.result c.args.progress.now c.take_item-item.result seat.me c.load_end-end.new.seat.me c.load_tail-tail.new.seat.me c.take_item-item.new.seat.me = record {
      rests = c.requires.rests.0;
      first = c.load_end-end.ensures.seen;
      second = c.load_tail-tail.ensures.seen;
      other = c.if-tail-progress.false;
      hand = c.take_item-item.ensures.item;
      third = c.take_item-item.ensures.taken;
    } in
    (rests_after c.args.ring.now.shared.table_id.slots c.load_end-end.result c.load_tail-tail.result c.args.progress.now c.take_item-item.result seat.me c.load_end-end.new.seat.me c.load_tail-tail.new.seat.me c.take_item-item.new.seat.me h c.pass.result c.pass.ensures.result c.pass.new.self c.pass.ensures.progress, ap (λ m. m.1) c.take_item-item.ensures.taken)

pub returns-then-pass-clause-made : goal.returns-then-pass-clause-made
returns-then-pass-clause-made c =
    let seat = c.args.seat.now in
    let h : Took c.args.ring.now.shared.table_id.slots c.load_end-end.result c.load_tail-tail.result c.args.progress.now c.take_item-item.result seat.me c.load_end-end.new.seat.me c.load_tail-tail.new.seat.me c.take_item-item.new.seat.me = record {
      rests = c.requires.rests.0;
      first = c.load_end-end.ensures.seen;
      second = c.load_tail-tail.ensures.seen;
      other = c.if-tail-progress.false;
      hand = c.take_item-item.ensures.item;
      third = c.take_item-item.ensures.taken;
    } in
    item_made c.args.ring.now.shared.table_id.slots c.load_end-end.result c.load_tail-tail.result c.args.progress.now c.take_item-item.result seat.me c.load_end-end.new.seat.me c.load_tail-tail.new.seat.me c.take_item-item.new.seat.me h c.pass.result c.pass.ensures.result c.if-pass.true

pub returns-else-pass-clause-rests : goal.returns-else-pass-clause-rests
returns-else-pass-clause-rests c =
    let seat = c.args.seat.now in
    let h : Took c.args.ring.now.shared.table_id.slots c.load_end-end.result c.load_tail-tail.result c.args.progress.now c.take_item-item.result seat.me c.load_end-end.new.seat.me c.load_tail-tail.new.seat.me c.take_item-item.new.seat.me = record {
      rests = c.requires.rests.0;
      first = c.load_end-end.ensures.seen;
      second = c.load_tail-tail.ensures.seen;
      other = c.if-tail-progress.false;
      hand = c.take_item-item.ensures.item;
      third = c.take_item-item.ensures.taken;
    } in
    (rests_after c.args.ring.now.shared.table_id.slots c.load_end-end.result c.load_tail-tail.result c.args.progress.now c.take_item-item.result seat.me c.load_end-end.new.seat.me c.load_tail-tail.new.seat.me c.take_item-item.new.seat.me h c.pass.result c.pass.ensures.result c.pass.new.self c.pass.ensures.progress, ap (λ m. m.1) c.take_item-item.ensures.taken)

pub returns-else-pass-clause-made : goal.returns-else-pass-clause-made
returns-else-pass-clause-made c =
    let seat = c.args.seat.now in
    let h : Took c.args.ring.now.shared.table_id.slots c.load_end-end.result c.load_tail-tail.result c.args.progress.now c.take_item-item.result seat.me c.load_end-end.new.seat.me c.load_tail-tail.new.seat.me c.take_item-item.new.seat.me = record {
      rests = c.requires.rests.0;
      first = c.load_end-end.ensures.seen;
      second = c.load_tail-tail.ensures.seen;
      other = c.if-tail-progress.false;
      hand = c.take_item-item.ensures.item;
      third = c.take_item-item.ensures.taken;
    } in
    old_made c.args.ring.now.shared.table_id.slots c.load_end-end.result c.load_tail-tail.result c.args.progress.now c.take_item-item.result seat.me c.load_end-end.new.seat.me c.load_tail-tail.new.seat.me c.take_item-item.new.seat.me h c.pass.result c.pass.ensures.result c.if-pass.false

pub returns-then-end-eq0-clause-made : goal.returns-then-end-eq0-clause-made
returns-then-end-eq0-clause-made c =
    let seat = c.args.seat.now in
    nothing_made c.args.ring.now.shared.table_id.slots c.load_end-end.result c.load_tail-tail.result c.args.progress.now seat.me c.load_end-end.new.seat.me c.load_tail-tail.new.seat.me
    c.requires.rests.0 c.load_end-end.ensures.seen c.load_tail-tail.ensures.seen c.if-tail-progress.true c.if-end-eq0.true
