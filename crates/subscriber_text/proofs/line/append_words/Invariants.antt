use Rattle.std.proofs.Common.{◌≡◌, ◌++◌, take}
use Rattle.std.specs.Prelude.{flat_map}
use Rattle.text_words.specs.SpacedWords.{behind_blank}
use Rattle.subscriber_text.specs.WantView.{texts}
use Rattle.subscriber_text.proofs.line.append_words.Given as goal

-- the words so far were appended
abbrev pub invariant-loop-word : goal.invariant-loop-word
invariant-loop-word l =
    l.out.items ≡ l.fn.out.items ++ (l.fn.first ++ flat_map behind_blank (texts (take l.word-index l.words)))
