use Rattle.byte_forms.proofs.PieceLaws.{after_literal_exactly, field_before_takes, field_before-append}
use Rattle.byte_forms.proofs.laws.pieces_are_what_a_text_begins_with.Goals as goal

pub returns-clause-literal : goal.returns-clause-literal
returns-clause-literal c = after_literal_exactly

pub returns-clause-found : goal.returns-clause-found
returns-clause-found c = field_before_takes

pub returns-clause-there : goal.returns-clause-there
returns-clause-there c = field_before-append
