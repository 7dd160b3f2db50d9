use Rattle.subscriber_text.proofs.FirstFaultLaws.{text_fault, text_wants}
use Rattle.subscriber_text.proofs.laws.the_first_faulty_line_decides.Goals as goal

pub returns-clause-fault : goal.returns-clause-fault
returns-clause-fault c = text_fault

pub returns-clause-wants : goal.returns-clause-wants
returns-clause-wants c = text_wants
