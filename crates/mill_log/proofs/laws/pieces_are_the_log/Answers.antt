use Rattle.mill_log.proofs.LogLaws.{log_append}
use Rattle.mill_log.proofs.LineLaws.{lines_of_pieces}
use Rattle.mill_log.proofs.laws.pieces_are_the_log.Goals as goal

pub returns : goal.returns
returns c = record { bytes = λ seed first n m. log_append seed first n m; lines = λ seed first n m. lines_of_pieces seed first n m }
