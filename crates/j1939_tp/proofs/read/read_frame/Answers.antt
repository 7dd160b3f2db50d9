use Rattle.std.proofs.Common.{sym, ◌∙◌, ◌≡◌}
use Rattle.bench_model.specs.Meaning.{group_of}
use Rattle.j1939_tp.proofs.read.read_frame.Goals as goal

pub returns-in-60416 : goal.returns-in-60416
returns-in-60416 c = λ micros. let e : group_of c.args.id ≡ 60416 = sym c.pgn_of.ensures ∙ c.in-60416.is in rw (c.if-bytes-ne8.false, e) (c.read_control.ensures micros)
