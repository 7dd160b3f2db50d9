use Rattle.std.proofs.Common.{arith}
use Rattle.model_tests.proofs.frames.decoded.Goals as goal

pub decode-requires-clause-some : goal.decode-requires-clause-some
decode-requires-clause-some c = c.whole_list_fits.ensures.some c.in_ok-image.image.items c.args.bench.now c.in_ok-image.ensures.encodes c.requires

pub decode-requires-clause-bus : goal.decode-requires-clause-bus
decode-requires-clause-bus c =
    let fits = c.whole_list_fits.ensures.fits c.in_ok-image.image.items c.args.bench.now c.in_ok-image.ensures.encodes c.requires in
    omega (arith, fits.buses, c.requires.some_buses)
