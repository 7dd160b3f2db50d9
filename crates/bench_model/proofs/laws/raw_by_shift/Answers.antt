use Rattle.bench_model.proofs.RawShiftLaws as law
use Rattle.bench_model.proofs.laws.raw_by_shift.Goals as goal

pub returns-clause-whole : goal.returns-clause-whole
returns-clause-whole c = law.whole

pub returns-clause-absent : goal.returns-clause-absent
returns-clause-absent c = law.absent

pub returns-clause-present : goal.returns-clause-present
returns-clause-present c = law.present

pub returns-clause-range : goal.returns-clause-range
returns-clause-range c = law.range
