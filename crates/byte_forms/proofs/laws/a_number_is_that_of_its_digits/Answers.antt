use Rattle.byte_forms.proofs.DigitLaws.{number_of-below}
use Rattle.byte_forms.proofs.NumberLaws.{number_up_to_exactly}
use Rattle.byte_forms.proofs.laws.a_number_is_that_of_its_digits.Goals as goal

pub returns-clause-value : goal.returns-clause-value
returns-clause-value c = number_up_to_exactly

pub returns-clause-below : goal.returns-clause-below
returns-clause-below c = number_of-below
