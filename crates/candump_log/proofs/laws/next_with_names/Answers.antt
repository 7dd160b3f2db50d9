use Rattle.candump_log.proofs.AnswerLaws.{next_of, none_exactly, too_long_exactly, ended_gives_none}
use Rattle.candump_log.proofs.laws.next_with_names.Goals as goal

pub returns-clause-same : goal.returns-clause-same
returns-clause-same c = next_of

pub returns-clause-none : goal.returns-clause-none
returns-clause-none c before now answer next = none_exactly before now answer next.answer

pub returns-clause-too_long : goal.returns-clause-too_long
returns-clause-too_long c before now answer next = too_long_exactly before now answer next.answer

pub returns-clause-ended : goal.returns-clause-ended
returns-clause-ended c before now answer next = ended_gives_none before now answer next.advances next.answer
