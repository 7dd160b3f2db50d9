use Rattle.std.proofs.Common.{subst, List}
use Rattle.multiplex_tree.specs.declared.mark.Mark.{Mark}
use Rattle.multiplex_tree.specs.declared.mark.Link.{Link}
use Rattle.multiplex_tree.specs.Fault.{IsFault}
use Rattle.dbc_grammar.proofs.read.tree_of.Goals as goal

pub returns-in-Err-clause-fault : goal.returns-in-Err-clause-fault
returns-in-Err-clause-fault c =
    let row = c.args.row.now in
    c.mux_fault.ensures row.marks.items row.links.items
    (subst (λ (l : List Link). IsFault row.marks.items l c.in-Err.fault) c.deref-2.ensures.value
    (subst (λ (marks : List Mark). IsFault marks c.deref-2.result.now c.in-Err.fault) c.deref.ensures.value c.in-Err.ensures.fault))
