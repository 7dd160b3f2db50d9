use Rattle.token_forms.proofs.DecimalTextLaws.{number_is_decimal, signed_is_decimal, each_token}
use Rattle.token_forms.proofs.laws.a_signed_number_is_a_decimal_text.Goals as goal

pub returns-clause-number : goal.returns-clause-number
returns-clause-number c = number_is_decimal

pub returns-clause-signed : goal.returns-clause-signed
returns-clause-signed c = signed_is_decimal

pub returns-clause-tokens : goal.returns-clause-tokens
returns-clause-tokens c = each_token
