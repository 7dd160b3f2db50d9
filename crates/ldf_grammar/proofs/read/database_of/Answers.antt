use Rattle.std.proofs.Common.{◌∙◌, map}
use Rattle.ldf_grammar.specs.Gather.{definitions_of}
use Rattle.ldf_grammar.specs.Lookup.{pair_of}
use Rattle.ldf_grammar.proofs.MadeLaws.{all_made}
use Rattle.ldf_grammar.proofs.ReadLaws.{same_database, made_too, unknown_passes}
use Rattle.ldf_grammar.proofs.read.database_of.Goals as goal

pub returns-in_err-check_names-clause-fault : goal.returns-in_err-check_names-clause-fault
returns-in_err-check_names-clause-fault c =
    let coded = map (pair_of c.args.bytes.now) c.in_ok-encodings.encodings.items in
    let has = rw c.deref.ensures.value at c.in_ok-lookups.ensures in
    let found = c.in_err-check_names.ensures.unknown (definitions_of c.args.bytes.now c.args.statements.now coded) has in
    unknown_passes c.from_residual-in_err-check_names.result _ c.args.bytes.now c.args.statements.now found.0 c.from_residual-in_err-check_names.ensures found.1
    (record { coded = coded; encodings = c.in_ok-encodings.ensures.ok; first = found.2 })

pub returns-clause-ok : goal.returns-clause-ok
returns-clause-ok c =
    let coded = map (pair_of c.args.bytes.now) c.in_ok-encodings.encodings.items in
    let has = rw c.deref.ensures.value at c.in_ok-lookups.ensures in
    let d = definitions_of c.args.bytes.now c.args.statements.now coded in
    record {
      coded = coded;
      encodings = c.in_ok-encodings.ensures.ok;
      known = c.in_ok-check_names.ensures.known d has;
      gathered = same_database c.of-2.result _ (c.of-2.ensures ∙ c.in_ok-messages.ensures d has);
    }

pub returns-clause-made : goal.returns-clause-made
returns-clause-made c =
    let coded = map (pair_of c.args.bytes.now) c.in_ok-encodings.encodings.items in
    let has = rw c.deref.ensures.value at c.in_ok-lookups.ensures in
    let d = definitions_of c.args.bytes.now c.args.statements.now coded in
    made_too c.of-2.result _ (c.of-2.ensures ∙ c.in_ok-messages.ensures d has) (all_made c.signals_without_parents.ensures.tree c.args.bytes.now c.args.statements.now coded c.in_ok-encodings.ensures.ok)
