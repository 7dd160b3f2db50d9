use Rattle.sig_text.proofs.ExistenceLaws.{tokens_or_fault}
use Rattle.sig_text.proofs.ReadingLaws.{tokens_unique, lex_fault_unique, tokens_without_fault}
use Rattle.sig_text.proofs.laws.reading_is_unique.Goals as goal

pub returns : goal.returns
returns c = record { some = tokens_or_fault; list = tokens_unique; fault = lex_fault_unique; never_both = tokens_without_fault }
