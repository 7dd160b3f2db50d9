use Rattle.image_compiler.proofs.BenchLaws.{layout_of}
use Rattle.image_compiler.proofs.compiling.write_image.Goals as goal

pub returns : goal.returns
returns c =
    layout_of c.args.bench.now c.items-buses.result.now _ _ _ c.write_table.new.out.items c.args.size c.items-buses.ensures c.in_ok-image.ensures.items c.in_ok-push.ensures.items
    c.in_ok-push-2.ensures.items c.in_ok-write_table.ensures c.requires
