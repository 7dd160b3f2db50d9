use Rattle.exact_scale.proofs.ShortestLaws.{shortest_text, same_fraction}
use Rattle.exact_scale.proofs.TextLaws.{same_text}
use Rattle.exact_scale.proofs.printing.Exact.append.Goals as goal

pub returns-in-Ok-clause-shortest : goal.returns-in-Ok-clause-shortest
returns-in-Ok-clause-shortest c = shortest_text c.args.self.now.num c.args.self.now.k

pub returns-in-Ok-clause-same : goal.returns-in-Ok-clause-same
returns-in-Ok-clause-same c = λ n k.
    (same_fraction n c.args.self.now.num k c.args.self.now.k, same_text n c.args.self.now.num k c.args.self.now.k)

pub returns-in-Err-clause-shortest : goal.returns-in-Err-clause-shortest
returns-in-Err-clause-shortest c = shortest_text c.args.self.now.num c.args.self.now.k

pub returns-in-Err-clause-same : goal.returns-in-Err-clause-same
returns-in-Err-clause-same c = λ n k.
    (same_fraction n c.args.self.now.num k c.args.self.now.k, same_text n c.args.self.now.num k c.args.self.now.k)
