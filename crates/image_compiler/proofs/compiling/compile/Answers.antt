use Rattle.std.proofs.Common.{arith}
use Rattle.image_compiler.proofs.BenchLaws.{image_encodes, image_long}
use Rattle.image_compiler.proofs.compiling.compile.Goals as goal

pub returns-clause-encodes : goal.returns-clause-encodes
returns-clause-encodes c =
    image_encodes c.args.bench.now _ c.requires.valid c.valid_keeps_rules.ensures.keeps c.in_ok-need.ensures.typed c.in_ok-image.ensures

pub returns-clause-size : goal.returns-clause-size
returns-clause-size c =
    image_long c.args.bench.now _ c.requires.valid c.valid_keeps_rules.ensures.keeps c.in_ok-need.ensures.typed c.in_ok-image.ensures

pub returns-clause-room : goal.returns-clause-room
returns-clause-room c =
    let long = image_long c.args.bench.now _ c.requires.valid c.valid_keeps_rules.ensures.keeps c.in_ok-need.ensures.typed c.in_ok-image.ensures in
    omega (arith, long, c.in_ok-need.ensures.size)
