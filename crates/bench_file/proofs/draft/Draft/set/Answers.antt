use Rattle.std.proofs.Common.{refl, sym, ◌∙◌, rules}
use Rattle.bench_file.specs.ReadingView.{set_in}
use Rattle.bench_file.proofs.DraftLaws.{refuse_number, draft_number}
use Rattle.bench_file.proofs.draft.Draft.set.Goals as goal

pub returns-then-is_some : goal.returns-then-is_some
returns-then-is_some c = λ lines. refuse_number c.args.self.now lines c.args.setting c.args.number c.of.result c.of.ensures (sym c.is_some.ensures ∙ c.if-is_some.true)

pub returns : goal.returns
returns c = λ lines. draft_number c.args.self.now _ lines c.args.setting c.args.number c.of.result c.of.ensures (sym c.is_some.ensures ∙ c.if-is_some.false) refl c.set.ensures
