use Rattle.decoded_list.proofs.ListLaws as law
use Rattle.decoded_list.proofs.laws.a_record_is_of_a_line.Goals as goal

pub returns : goal.returns
returns c = law.of_a_line
