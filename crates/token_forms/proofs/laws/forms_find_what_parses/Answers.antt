use Rattle.token_forms.proofs.ParsesLaws.{quoted_found, quoted_there, word_found, word_there, string_found, string_there, whole_found, whole_there}
use Rattle.token_forms.proofs.ParsesLaws.{digits_found, digits_there, number_up_to_found, number_up_to_there, signed_found, signed_there}
use Rattle.token_forms.proofs.ParsesLaws.{value_found, value_there}
use Rattle.token_forms.proofs.laws.forms_find_what_parses.Goals as goal

pub returns-clause-quoted : goal.returns-clause-quoted
returns-clause-quoted c text literal tokens rest = (quoted_found text literal tokens rest, quoted_there text literal tokens rest)

pub returns-clause-word : goal.returns-clause-word
returns-clause-word c tokens word rest = (word_found tokens word rest, word_there tokens word rest)

pub returns-clause-string : goal.returns-clause-string
returns-clause-string c tokens string rest = (string_found tokens string rest, string_there tokens string rest)

pub returns-clause-whole : goal.returns-clause-whole
returns-clause-whole c text limit tokens n rest = (whole_found text limit tokens n rest, whole_there text limit tokens n rest)

pub returns-clause-digits : goal.returns-clause-digits
returns-clause-digits c text tokens digits rest = (digits_found text tokens digits rest, digits_there text tokens digits rest)

pub returns-clause-number : goal.returns-clause-number
returns-clause-number c text limit tokens n rest = (number_up_to_found text limit tokens n rest, number_up_to_there text limit tokens n rest)

pub returns-clause-signed : goal.returns-clause-signed
returns-clause-signed c text tokens n rest = (signed_found text tokens n rest, signed_there text tokens n rest)

pub returns-clause-value : goal.returns-clause-value
returns-clause-value c radix text limit n = (value_found radix text limit n, value_there radix text limit n)
