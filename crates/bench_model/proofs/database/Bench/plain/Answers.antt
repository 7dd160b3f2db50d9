use Rattle.std.proofs.Common.{◌∙◌, sym, ap, Some}
use Rattle.bench_model.specs.Decodable.{IsDecodable}
use Rattle.bench_model.proofs.FoundLaws.{IfSome-matching, from_IfSome, meaning_at, decodable_at}
use Rattle.bench_model.proofs.database.Bench.plain.Goals as goal

pub message_of-requires : goal.message_of-requires
message_of-requires c = from_IfSome IsDecodable _ _ c.in-Some.ensures (IfSome-matching IsDecodable _ _ _
    (decodable_at _ _ _ _ _ c.requires.bus c.items.ensures c.index-items-bus.is c.items-2.ensures c.requires.valid))

pub returns : goal.returns
returns c = ap Some c.in_ok-message_of.ensures
    ∙ sym (meaning_at _ _ _ _ _ _ _ _ c.requires.bus c.items.ensures c.index-items-bus.is c.items-2.ensures c.in-Some.ensures)
