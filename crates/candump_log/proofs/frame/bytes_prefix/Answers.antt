use Rattle.std.proofs.Common.{◌+◌, ◌-◌, ◌∷◌, [], length, sym, ap, arith, length-append}
use Rattle.std.specs.Prelude.{◌==◌}
use Rattle.candump_log.proofs.DataLaws.{all_read, limit_read, one_more, later_not_first}
use Rattle.candump_log.proofs.frame.bytes_prefix.Goals as goal

pub returns-in_default : goal.returns-in_default
returns-in_default c =
    all_read c.args.limit (c.args.limit - c.loop-i.i) (c.loop-i.i == 0) c.loop-i.payload c.loop-i.rest.now c.args.bytes.now c.loop-i.invariant.whole (sym c.in_default.ensures)

pub loop-i-preserved : goal.loop-i-preserved
loop-i-preserved c = record {
  count = omega (arith, ap length c.push.ensures, length-append c.loop-i.payload (c.in-Some.byte ∷ []), c.loop-i.invariant.count);
  whole =
      rw (later_not_first c.loop-i.i)
      (one_more c.args.limit (c.args.limit - c.loop-i.i) (c.args.limit - (c.loop-i.i + 1)) (c.loop-i.i == 0) c.loop-i.payload c.push.new.self c.loop-i.rest.now c.in-Some.after.now
      c.args.bytes.now c.in-Some.byte c.loop-i.invariant.whole (omega arith) (sym c.in-Some.ensures) c.push.ensures);
}

pub returns : goal.returns
returns c =
    limit_read c.args.limit (c.args.limit - c.loop-i.i) (c.loop-i.i == 0) c.loop-i.payload c.loop-i.rest.now c.args.bytes.now c.loop-i.invariant.whole (omega arith)
