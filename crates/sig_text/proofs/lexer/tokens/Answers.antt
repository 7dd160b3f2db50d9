use Rattle.sig_text.proofs.ReadingLaws.{each_token, every_list, every_fault}
use Rattle.sig_text.proofs.lexer.tokens.Goals as goal

pub returns-clause-each : goal.returns-clause-each
returns-clause-each c = each_token c.args.bytes.now c.args.comments c.read_tokens.result c.read_tokens.ensures.ok

pub returns-clause-every_list : goal.returns-clause-every_list
returns-clause-every_list c = every_list c.args.bytes.now c.args.comments c.read_tokens.result c.read_tokens.ensures.ok c.read_tokens.ensures.fault

pub returns-clause-every_fault : goal.returns-clause-every_fault
returns-clause-every_fault c = every_fault c.args.bytes.now c.args.comments c.read_tokens.result c.read_tokens.ensures.ok c.read_tokens.ensures.fault
