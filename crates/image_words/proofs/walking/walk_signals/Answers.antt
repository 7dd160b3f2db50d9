use Rattle.std.proofs.Common.{arith}
use Rattle.image_words.specs.Buffers.{if_there, value_in}
use Rattle.image_words.proofs.WordLaws.{learned_none, learned_then, earlier}
use Rattle.image_words.proofs.RunLaws.{visits_begin, visits_step, visits_end}
use Rattle.image_words.proofs.walking.walk_signals.Goals as goal

pub loop-place-init : goal.loop-place-init
loop-place-init g c = record {
  learned = learned_none _ _ g.met.W.Words.same _;
  so_far = λ image bench f m has. visits_begin g.V.Visit.takes c.args.visitor.now c.args.bytes.now m;
}

pub read_signal-requires-clause-some : goal.read_signal-requires-clause-some
read_signal-requires-clause-some g c = c.loop-place.invariant.learned.narrows.some c.requires.some

pub read_signal-requires-clause-signals : goal.read_signal-requires-clause-signals
read_signal-requires-clause-signals g c image bench f =
    c.requires.signals image bench (earlier _ _ _ _ image bench c.loop-place.invariant.learned f)

pub returns-in_err-there-clause-learned : goal.returns-in_err-there-clause-learned
returns-in_err-there-clause-learned g c = learned_then _ _ g.met.W.Words.chain _ _ _ c.loop-place.invariant.learned c.read_signal.ensures.learned

pub returns-in_err-give-clause-learned : goal.returns-in_err-give-clause-learned
returns-in_err-give-clause-learned g c = learned_then _ _ g.met.W.Words.chain _ _ _ c.loop-place.invariant.learned c.read_signal.ensures.learned

pub loop-place-preserved : goal.loop-place-preserved
loop-place-preserved g c = record {
  learned = learned_then _ _ g.met.W.Words.chain _ _ _ c.loop-place.invariant.learned c.read_signal.ensures.learned;
  so_far = λ image bench f m has.
      visits_step g.V.Visit.takes c.args.visitor.now c.loop-place.visitor c.give.new.visitor c.args.at c.args.count c.loop-place.place c.args.bytes.now image m
      (if_there c.in_ok-there.there (value_in c.read_signal.new.value)) has
      c.loop-place-test.true (c.in_ok-there.ensures.value image bench f m has) c.in_ok-give.ensures
      (c.loop-place.invariant.so_far image bench (earlier _ _ _ _ image bench c.read_signal.ensures.learned f) m has);
}

pub returns-clause-given : goal.returns-clause-given
returns-clause-given g c image bench f m has =
    visits_end g.V.Visit.takes c.args.visitor.now c.loop-place.visitor c.args.bytes.now m c.loop-place.place (omega (arith, has.signals.size))
    (c.loop-place.invariant.so_far image bench f m has)
