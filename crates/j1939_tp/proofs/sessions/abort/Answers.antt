use Rattle.std.proofs.Common.{◌≡◌, sym, ◌∙◌, true, false}
use Rattle.j1939_tp.specs.Keeping.{kept_of, keeps_group, aborted_pair}
use Rattle.j1939_tp.proofs.sessions.abort.Goals as goal
use Rattle.j1939_tp.proofs.sessions.abort.Goals.{then-keeps_group, else-keeps_group}

pub returns : goal.returns
returns c =
    let old = c.args.sessions.now.entries in
    let picked : c.if-keeps_group.pair ≡ aborted_pair old c.args.pair c.args.pgn =
    elim c.if-keeps_group.branch [
      | then-keeps_group w ↦ (let yes : keeps_group c.args.pgn (kept_of old c.args.pair) ≡ true = sym c.keeps_group.ensures ∙ w.if-keeps_group.true in rw yes w.pair-is)
      | else-keeps_group w ↦ (let no : keeps_group c.args.pgn (kept_of old c.args.pair) ≡ false = sym c.keeps_group.ensures ∙ w.if-keeps_group.false in rw no w.pair-is)
    ] in
    rw (← picked) c.cut.ensures
