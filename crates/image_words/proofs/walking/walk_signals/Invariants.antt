use Rattle.std.proofs.Common.{drop}
use Rattle.std.specs.List.{filter_map, enumerate_from}
use Rattle.bench_model.specs.Meaning.{active_value, raw_values, active_values}
use Rattle.image_words.specs.Reading.{Learned, EachIs, SignalsAt}
use Rattle.image_words.proofs.RunLaws.{Leads}
use Rattle.image_words.proofs.walking.walk_signals.Given as goal

-- with the values of the signals that are left, the visitor was given the values of all
abbrev pub invariant-loop-place : goal.invariant-loop-place
invariant-loop-place g l = record {
  learned : Learned g.W.Words.knows g.W.Words.reads l.fn.words l.words;
  so_far : EachIs (g.W.Words.knows l.words) (SignalsAt l.at l.count) (λ image m.
      Leads g.V.Visit.takes l.fn.visitor (active_values l.bytes m) l.visitor
      (filter_map (active_value l.bytes m.tree.parents (raw_values l.bytes m.signals)) (enumerate_from l.place (drop l.place m.signals))));
}
