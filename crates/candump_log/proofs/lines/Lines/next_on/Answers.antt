use Rattle.std.proofs.Common.{refl, sym, ◌∙◌}
use Rattle.candump_log.proofs.GivenLineLaws.{gives_whole, takes_last, moved}
use Rattle.candump_log.proofs.FetchLaws.{lets_go, fetches, stops}
use Rattle.candump_log.proofs.lines.Lines.next_on.Goals as goal

pub invariant_of-self : goal.invariant_of-self
invariant_of-self g c =
    ((gives_whole _ _ _ _ _ _ _ _ c.lines.self-inside.failed c.in-Some.routed c.lines.invariant.goes c.in-Some.ensures).0, c.lines.invariant.ended)

pub returns-in-Some : goal.returns-in-Some
returns-in-Some g c =
    let ends = gives_whole _ _ _ _ _ _ _ _ c.lines.self-inside.failed c.in-Some.routed c.lines.invariant.goes c.in-Some.ensures in
    record { failed = c.lines.invariant.failed; advances = ends.1; answer = ends.2 }

pub invariant_of-self-then-self : goal.invariant_of-self-then-self
invariant_of-self-then-self g c =
    let inside = c.lines.self-inside in
    let e = c.in_default.ensures in
    let goes = moved _ _ _ inside.held c.take_whole.new.held inside.place c.take_whole.new.place c.lines.invariant.goes e.0 e.1 in
    ((takes_last _ _ _ _ _ _ _ _ inside.failed c.take_last.result goes (sym c.lines.invariant.ended ∙ c.if-self.true) (rw e.0 e.2) c.take_last.ensures).0, c.lines.invariant.ended)

pub returns-then-self : goal.returns-then-self
returns-then-self g c =
    let inside = c.lines.self-inside in
    let e = c.in_default.ensures in
    let goes = moved _ _ _ inside.held c.take_whole.new.held inside.place c.take_whole.new.place c.lines.invariant.goes e.0 e.1 in
    let ends = takes_last _ _ _ _ _ _ _ _ inside.failed c.take_last.result goes (sym c.lines.invariant.ended ∙ c.if-self.true) (rw e.0 e.2) c.take_last.ensures in
    record { failed = c.lines.invariant.failed; advances = ends.1; answer = ends.2 }

pub lines-preserved : goal.lines-preserved
lines-preserved g c =
    let inside = c.lines.self-inside in
    let e = c.in_default.ensures in
    let open' = sym c.lines.invariant.ended ∙ c.if-self.false in
    let goes = moved _ _ _ inside.held c.take_whole.new.held inside.place c.take_whole.new.place c.lines.invariant.goes e.0 e.1 in
    let gone = lets_go _ _ _ _ _ _ _ goes open' (rw e.0 e.2) c.let_go.ensures in
    let more = fetches _ _ _ _ _ _ _ _ _ _ gone.0 open' gone.1 c.in-Ok.ensures.fetches c.in-Ok.ensures.other in
    record { goes = more.0; ended = more.1; failed = c.lines.invariant.failed }

pub invariant_of-self-in-Err : goal.invariant_of-self-in-Err
invariant_of-self-in-Err g c =
    let inside = c.lines.self-inside in
    let e = c.in_default.ensures in
    let open' = sym c.lines.invariant.ended ∙ c.if-self.false in
    let goes = moved _ _ _ inside.held c.take_whole.new.held inside.place c.take_whole.new.place c.lines.invariant.goes e.0 e.1 in
    let gone = lets_go _ _ _ _ _ _ _ goes open' (rw e.0 e.2) c.let_go.ensures in
    let f = c.in-Err.ensures in
    let ends = stops c.args.names.now _ _ _ _ _ _ _ _ _ c.in-Err.why gone.0 open' gone.1 f.fetches.0 f.fetches.1 f.other in
    (ends.0.0, c.lines.invariant.ended ∙ sym ends.1)

pub returns-in-Err : goal.returns-in-Err
returns-in-Err g c =
    let inside = c.lines.self-inside in
    let e = c.in_default.ensures in
    let open' = sym c.lines.invariant.ended ∙ c.if-self.false in
    let goes = moved _ _ _ inside.held c.take_whole.new.held inside.place c.take_whole.new.place c.lines.invariant.goes e.0 e.1 in
    let gone = lets_go _ _ _ _ _ _ _ goes open' (rw e.0 e.2) c.let_go.ensures in
    let f = c.in-Err.ensures in
    let ends = stops c.args.names.now _ _ _ _ _ _ _ _ _ c.in-Err.why gone.0 open' gone.1 f.fetches.0 f.fetches.1 f.other in
    record { failed = refl; advances = ends.0.1; answer = ends.0.2 }
