use Rattle.text_words.specs.Words.{words_of}
use Rattle.bench_loader.proofs.LineLaws.{one_word_left, stops_pairs}
use Rattle.bench_loader.proofs.load_line.read_pairs.Goals as goal

pub returns-in_default-next_word : goal.returns-in_default-next_word
returns-in_default-next_word c =
    one_word_left (words_of c.args.words.now) c.loop-bus.pairs.items c.in-Some.bus.now (words_of c.loop-bus.rest.now) (words_of c.in-Some.behind.now)
    c.loop-bus.invariant.words c.in-Some.ensures c.in_default-next_word.ensures

pub returns-in_err-add_pair : goal.returns-in_err-add_pair
returns-in_err-add_pair c =
    stops_pairs (words_of c.args.words.now) c.from_residual.result c.in_err-add_pair.field-0.0 c.loop-bus.pairs.items c.add_pair.new.pairs.items c.in-Some.bus.now c.in-Some-next_word.file.now
    (words_of c.loop-bus.rest.now) (words_of c.in-Some.behind.now) (words_of c.in-Some-next_word.behind.now)
    c.from_residual.ensures.1 c.loop-bus.invariant.words c.in-Some.ensures c.in-Some-next_word.ensures c.in_err-add_pair.ensures
