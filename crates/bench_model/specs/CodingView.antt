-- What the code makes of a raw value, as the meaning has it.
use Rattle.bench_model.specs.declared.coding.Physical.{Physical as Coded}
use Rattle.bench_model.specs.Meaning.{Physical}

abbrev pub physical_view : Coded → Physical
physical_view p = record { value = p.value; unit = p.unit; label = p.label }
