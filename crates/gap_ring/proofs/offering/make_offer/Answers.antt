use Rattle.std.proofs.Common.{◌∙◌, ap, refl}
use Rattle.gap_ring.specs.declared.view.View.{View}
use Rattle.gap_ring.proofs.OfferLaws.{Attaching, Seen, odd_from, away_leaves, refused_end, refused_hand, may_items, put_end}
use Rattle.gap_ring.proofs.offering.make_offer.Goals as goal

pub returns-then-attach-eq0-clause-rests : goal.returns-then-attach-eq0-clause-rests
returns-then-attach-eq0-clause-rests g c =
    let e = c.load_attach-attach.ensures in
    let ring = c.args.ring.now.shared in
    let seat = c.args.seat.now in
    let words : Attaching seat.me.0 c.load_attach-attach.result = record { low = e.word.0; high = e.word.1 } in (
      (away_leaves ring.key ring.table_id.slots c.load_attach-attach.result c.args.count.now c.args.reading seat.me.0 c.requires.rests.0 c.requires.may words c.if-attach-eq0.true
          c.load_attach-attach.new.seat.me.0 (ap (λ m. m.0) e.seen)).0,
      ap (λ m. m.1) e.seen ∙ c.requires.rests.1,
    )

pub put_items-tail-requires-clause-may : goal.put_items-tail-requires-clause-may
put_items-tail-requires-clause-may g c =
    let e = c.load_attach-attach.ensures in
    let l = c.load_head-head.ensures in
    let ring = c.args.ring.now.shared in
    let v : View = c.args.seat.now.me.0 in
    let v1 : View = c.load_attach-attach.new.seat.me.0 in
    let v2 : View = c.load_head-head.new.seat.me.0 in
    let a = c.load_attach-attach.result in
    let h = c.load_head-head.result in
    let words : Attaching v a = record { low = e.word.0; high = e.word.1 } in
    let seen : Seen ring.table_id.slots a h c.args.count.now c.args.reading c.lead-lead.result v v1 v2 = record {
      words = words;
      odd = odd_from a c.if-attach-eq0.false;
      first = ap (λ m. m.0) e.seen;
      second = l.view;
      fits = l.head;
      led_is = c.lead-lead.ensures;
    } in
    may_items ring.key ring.table_id.slots a h c.args.count.now c.args.reading c.lead-lead.result v v1 v2 c.requires.rests.0 c.requires.may seen c.args.capacity c.slots_for-needed.result c.requires.sized.0 c.slots_for-needed.ensures c.if-capacity-count.false

pub returns-then-capacity-count-clause-rests : goal.returns-then-capacity-count-clause-rests
returns-then-capacity-count-clause-rests g c =
    let e = c.load_attach-attach.ensures in
    let l = c.load_head-head.ensures in
    let ring = c.args.ring.now.shared in
    let v : View = c.args.seat.now.me.0 in
    let v1 : View = c.load_attach-attach.new.seat.me.0 in
    let v2 : View = c.load_head-head.new.seat.me.0 in
    let a = c.load_attach-attach.result in
    let h = c.load_head-head.result in
    let words : Attaching v a = record { low = e.word.0; high = e.word.1 } in
    let seen : Seen ring.table_id.slots a h c.args.count.now c.args.reading c.lead-lead.result v v1 v2 = record {
      words = words;
      odd = odd_from a c.if-attach-eq0.false;
      first = ap (λ m. m.0) e.seen;
      second = l.view;
      fits = l.head;
      led_is = c.lead-lead.ensures;
    } in
    let end = refused_end ring.key ring.table_id.slots a h c.args.count.now c.args.reading c.lead-lead.result v v1 v2 c.requires.rests.0 c.requires.may seen c.args.capacity c.slots_for-needed.result c.requires.sized.0 c.slots_for-needed.ensures c.if-capacity-count.true in (
      rw c.refuse.ensures end.0,
      refused_hand ring.key ring.table_id.slots a h c.args.capacity c.slots_for-needed.result c.args.count.now c.args.reading c.lead-lead.result v v1 v2 c.requires.rests.0 c.requires.may seen c.requires.sized.0 c.slots_for-needed.ensures c.if-capacity-count.true c.load_head-head.new.seat.me.1 l.hand,
    )

pub returns-then-capacity-count-clause-made : goal.returns-then-capacity-count-clause-made
returns-then-capacity-count-clause-made g c =
    let e = c.load_attach-attach.ensures in
    let l = c.load_head-head.ensures in
    let ring = c.args.ring.now.shared in
    let v : View = c.args.seat.now.me.0 in
    let v1 : View = c.load_attach-attach.new.seat.me.0 in
    let v2 : View = c.load_head-head.new.seat.me.0 in
    let a = c.load_attach-attach.result in
    let h = c.load_head-head.result in
    let words : Attaching v a = record { low = e.word.0; high = e.word.1 } in
    let seen : Seen ring.table_id.slots a h c.args.count.now c.args.reading c.lead-lead.result v v1 v2 = record {
      words = words;
      odd = odd_from a c.if-attach-eq0.false;
      first = ap (λ m. m.0) e.seen;
      second = l.view;
      fits = l.head;
      led_is = c.lead-lead.ensures;
    } in
    let end = refused_end ring.key ring.table_id.slots a h c.args.count.now c.args.reading c.lead-lead.result v v1 v2 c.requires.rests.0 c.requires.may seen c.args.capacity c.slots_for-needed.result c.requires.sized.0 c.slots_for-needed.ensures c.if-capacity-count.true in
    end.1

pub returns-clause-rests : goal.returns-clause-rests
returns-clause-rests g c =
    let e = c.load_attach-attach.ensures in
    let l = c.load_head-head.ensures in
    let ring = c.args.ring.now.shared in
    let v : View = c.args.seat.now.me.0 in
    let v1 : View = c.load_attach-attach.new.seat.me.0 in
    let v2 : View = c.load_head-head.new.seat.me.0 in
    let a = c.load_attach-attach.result in
    let h = c.load_head-head.result in
    let words : Attaching v a = record { low = e.word.0; high = e.word.1 } in
    let seen : Seen ring.table_id.slots a h c.args.count.now c.args.reading c.lead-lead.result v v1 v2 = record {
      words = words;
      odd = odd_from a c.if-attach-eq0.false;
      first = ap (λ m. m.0) e.seen;
      second = l.view;
      fits = l.head;
      led_is = c.lead-lead.ensures;
    } in
    let end = put_end ring.key ring.table_id.slots a h c.args.count.now c.args.reading c.lead-lead.result v v1 v2 c.requires.rests.0 c.requires.may seen c.args.capacity c.slots_for-needed.result c.requires.sized.0 c.slots_for-needed.ensures c.if-capacity-count.false c.lead-lead.result refl c.put_items-tail.new.seat.me.0 c.put_items-tail.result c.put_items-tail.ensures.put in
    (end.0, c.put_items-tail.ensures.hand)

pub returns-clause-made : goal.returns-clause-made
returns-clause-made g c =
    let e = c.load_attach-attach.ensures in
    let l = c.load_head-head.ensures in
    let ring = c.args.ring.now.shared in
    let v : View = c.args.seat.now.me.0 in
    let v1 : View = c.load_attach-attach.new.seat.me.0 in
    let v2 : View = c.load_head-head.new.seat.me.0 in
    let a = c.load_attach-attach.result in
    let h = c.load_head-head.result in
    let words : Attaching v a = record { low = e.word.0; high = e.word.1 } in
    let seen : Seen ring.table_id.slots a h c.args.count.now c.args.reading c.lead-lead.result v v1 v2 = record {
      words = words;
      odd = odd_from a c.if-attach-eq0.false;
      first = ap (λ m. m.0) e.seen;
      second = l.view;
      fits = l.head;
      led_is = c.lead-lead.ensures;
    } in
    let end = put_end ring.key ring.table_id.slots a h c.args.count.now c.args.reading c.lead-lead.result v v1 v2 c.requires.rests.0 c.requires.may seen c.args.capacity c.slots_for-needed.result c.requires.sized.0 c.slots_for-needed.ensures c.if-capacity-count.false c.lead-lead.result refl c.put_items-tail.new.seat.me.0 c.put_items-tail.result c.put_items-tail.ensures.put in
    end.1
