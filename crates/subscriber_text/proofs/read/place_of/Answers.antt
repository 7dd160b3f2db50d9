use Rattle.std.proofs.Common.{[], sym, ap, ◌∙◌, arith}
use Rattle.std.proofs.lemmas.List.{get_or_default}
use Rattle.std.specs.Str.{bytes_eq}
use Rattle.subscriber_text.proofs.ReadLaws.{place_found, place_none}
use Rattle.subscriber_text.proofs.read.place_of.Goals as goal

pub returns-then-eq : goal.returns-then-eq
returns-then-eq c = place_found (λ name. bytes_eq name c.args.bus.now) c.args.names.now c.loop-i.i [] (omega arith) c.loop-i.invariant
    (sym (c.if-eq.ensures ∙ ap (λ name. bytes_eq name c.args.bus.now) (c.bytes.ensures ∙ c.index-names-i.is ∙ get_or_default c.args.names.now c.loop-i.i c.index-names-i.result [] (omega arith))))

pub returns : goal.returns
returns c = place_none (λ name. bytes_eq name c.args.bus.now) c.args.names.now [] (λ k lt. c.loop-i.invariant k (omega arith))
