use Rattle.decoded_list.proofs.ListLaws as law
use Rattle.decoded_list.proofs.laws.records_are_numbered_by_their_places.Goals as goal

pub returns : goal.returns
returns c = law.numbered
