use Rattle.decoded_list.proofs.ListLaws as law
use Rattle.decoded_list.proofs.laws.the_list_goes_on.Goals as goal

pub returns-clause-lines : goal.returns-clause-lines
returns-clause-lines c = law.goes_on

pub returns-clause-line : goal.returns-clause-line
returns-clause-line c = law.goes_on_by_one
