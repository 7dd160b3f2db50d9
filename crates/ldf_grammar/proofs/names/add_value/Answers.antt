use Rattle.ldf_grammar.proofs.LookupLaws.{adds_first}
use Rattle.ldf_grammar.proofs.names.add_value.Goals as goal

pub returns : goal.returns
returns g c =
    adds_first c.args.firsts.now c.insert.new.self c.args.name.now c.first_value-first.result c.args.value c.value_of.result c.value_of.ensures
    c.first_value-first.ensures c.in_ok-insert.ensures.updates
