use Rattle.std.proofs.Math.Facts.{to_z-of_z}
use Rattle.image_words.proofs.EntryLaws.{physical_coded}
use Rattle.image_words.proofs.coding.entry_value.Goals as goal

pub returns-in-1 : goal.returns-in-1
returns-in-1 c image e is =
    physical_coded image c.args.entry e c.args.raw _ c.apply.result c.scale_of.result is c.in-1.is c.scale_of.ensures
    (to_z-of_z c.ranges.raw) c.apply.ensures.value c.apply.ensures.places
