use Rattle.std.proofs.Common.{◌+◌, ◌*◌, ◌^◌, take, arith}
use Rattle.exact_scale.specs.Digits.{number}
use Rattle.exact_scale.proofs.SignificandLaws.{extended_more}
use Rattle.exact_scale.proofs.significand.Significand.extend.Goals as goal

pub loop-byte-preserved : goal.loop-byte-preserved
loop-byte-preserved c = record {
  number = λ n s. let h = c.push-significand.ensures.number (n * 10 ^ c.loop-byte.byte-index + number (take c.loop-byte.byte-index c.args.digits.now)) (c.loop-byte.invariant.number n s) in
      extended_more n c.args.digits.now c.loop-byte.byte-index c.push-significand.result.size c.push-significand.result.zeros c.loop-byte-test.true h;
  zeros = omega arith;
}
