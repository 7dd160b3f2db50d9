-- That a database is valid is a fact with one proof at most, as a field of a struct has to be.
use Rattle.std.specs.Prelude.{All}
use Rattle.std.proofs.Props.{props}
use Rattle.multiplex_tree.specs.Trees.{IsTreeOver}
use Rattle.bench_model.specs.declared.database.Entry.{Entry}
use Rattle.bench_model.specs.declared.database.Entry.TheVariants as entry
use Rattle.bench_model.specs.declared.database.Coding.{Coding}
use Rattle.bench_model.specs.declared.database.Coding.TheVariants.{Scaled, Listed}
use Rattle.bench_model.specs.declared.database.Message.{Message}
use Rattle.bench_model.specs.declared.database.Database.{Database}
use Rattle.bench_model.specs.Limits.{IsEntry, IsCoding, IsMade}
use Rattle.bench_model.specs.Check.{IsValid}

pub IsEntry-prop : (e : Entry) → IsProp (IsEntry e)
IsEntry-prop (entry.Physical low high scale unit) = hlevel props
IsEntry-prop (entry.Logical raw text) = hlevel props
IsEntry-prop entry.Plain = hlevel props

pub IsCoding-prop : (c : Coding) → IsProp (IsCoding c)
IsCoding-prop (Scaled scale unit labels) = hlevel props
IsCoding-prop (Listed entries) = hlevel (IsEntry-prop, props)

pub IsValid-prop : (d : Database) → IsProp (IsValid d)
IsValid-prop d = hlevel (IsCoding-prop, props)
