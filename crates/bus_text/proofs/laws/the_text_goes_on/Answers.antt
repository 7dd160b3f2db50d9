use Rattle.bus_text.proofs.TextLaws.{no_text, records_one, text_one, text_end, text_prefix}
use Rattle.bus_text.proofs.laws.the_text_goes_on.Goals as goal

pub returns-clause-none : goal.returns-clause-none
returns-clause-none c = no_text

pub returns-clause-records : goal.returns-clause-records
returns-clause-records c = records_one c.the_list_goes_on.ensures.line

pub returns-clause-line : goal.returns-clause-line
returns-clause-line c = text_one c.the_list_goes_on.ensures.line

pub returns-clause-end : goal.returns-clause-end
returns-clause-end c = text_end

pub returns-clause-prefix : goal.returns-clause-prefix
returns-clause-prefix c = text_prefix c.the_list_goes_on.ensures.lines
