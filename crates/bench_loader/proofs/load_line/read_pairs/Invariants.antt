use Rattle.std.proofs.Common.{◌≡◌, ◌++◌, length}
use Rattle.text_words.specs.Words.{words_of}
use Rattle.bench_loader.specs.LoadLine.{words_of_pairs, KeepRules}
use Rattle.bench_loader.proofs.load_line.read_pairs.Given as goal

-- the words so far are those of the pairs
abbrev pub invariant-loop-bus : goal.invariant-loop-bus
invariant-loop-bus l = record {
  words : words_of l.words ≡ words_of_pairs l.pairs.items ++ words_of l.rest;
  rules : KeepRules l.pairs.items;
}

abbrev pub decreases-loop-bus : goal.decreases-loop-bus
decreases-loop-bus l = length (words_of l.rest)
