use Rattle.std.proofs.Common.{◌≤◌, length}
use Rattle.std.proofs.lemmas.List.{length-map}
use Rattle.tool_words.specs.WordView.{words_of}
use Rattle.tool_words.proofs.WordLaws.{many}
use Rattle.tool_words.proofs.command.operand.Goals as goal

pub returns-in-len3-up : goal.returns-in-len3-up
returns-in-len3-up c =
    let enough : 3 ≤ length (words_of c.args.words.now) = simp length-map c.in-len3-up.len_at_least in
    many (words_of c.args.words.now) enough
