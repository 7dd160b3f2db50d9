use Rattle.bench_file.specs.LineMeaning.{meaning_of}
use Rattle.bench_file.proofs.DraftLaws.{draft_passed}
use Rattle.bench_file.proofs.draft.Draft.add.Goals as goal

pub returns-in-Some-PassedOver : goal.returns-in-Some-PassedOver
returns-in-Some-PassedOver c = λ lines. draft_passed c.args.self.now lines (meaning_of c.args.line.now) (rw c.in-Some-PassedOver.field-0-is at c.in-Some-PassedOver.ensures)
