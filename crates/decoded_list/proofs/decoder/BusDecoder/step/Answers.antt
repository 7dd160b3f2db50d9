use Rattle.std.proofs.Common.{sym, ap, ◌∙◌}
use Rattle.bench_model.specs.declared.database.Kind.{Kind}
use Rattle.bench_model.specs.Meaning.{bench_meaning}
use Rattle.decoded_list.specs.declared.decoder.BusDecoder.{BusDecoder}
use Rattle.decoded_list.specs.Records.{brought_on}
use Rattle.decoded_list.proofs.AskingLaws.{records_after}
use Rattle.decoded_list.proofs.decoder.BusDecoder.step.Goals as goal

pub returns-clause-records : goal.returns-clause-records
returns-clause-records c = λ before taken.
    let same = c.hear.ensures.same in
    let kind = ap (λ (d : BusDecoder). d.kind) same in
    let meaning = bench_meaning c.args.bench.now c.args.self.now.bus in
    let brought = c.in_ok-brought.ensures.brought before taken ∙ ap (λ (k : Kind). brought_on k before c.args.line.now) (sym kind) in
    records_after meaning c.args.self.now.kind c.hear.new.self.kind c.args.self.now.bus c.hear.new.self.bus c.args.self.now.next c.hear.new.self.next c.args.version before c.args.line.now c.records.result
    kind (ap (λ (d : BusDecoder). d.bus) same) (ap (λ (d : BusDecoder). d.next) same)
    (c.records.ensures.records meaning before c.in_ok-said.ensures.said brought c.in_ok-whole.ensures.said)
