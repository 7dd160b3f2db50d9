use Rattle.std.proofs.Common.{◌∙◌, ap, cond, None, ℕ, Bool, List}
use Rattle.std.specs.Borrow.{Bor}
use Rattle.std.specs.BTreeMap.{get_by}
use Rattle.dbc_grammar.specs.Noted.{signal_order}
use Rattle.dbc_grammar.specs.Naming.{same_key}
use Rattle.std.specs.Prelude.{◌&&◌}
use Rattle.std.specs.Str.{bytes_eq}
use Rattle.dbc_grammar.proofs.NoteLaws.{same_signal, taken_out}
use Rattle.dbc_grammar.proofs.notes.NoteIndex.take.Goals as goal

pub returns-in-Some-clause-left : goal.returns-in-Some-clause-left
returns-in-Some-clause-left c = λ k n.
    let q : (Bool × ℕ) × Bor (List ℕ) = ((k.extended, k.id), record c.args.name { now = n }) in
    let old = get_by (signal_order k n) c.args.self.now.notes in
    let new = get_by (signal_order k n) c.remove.new.self in
    taken_out (same_key c.args.key k && bytes_eq c.args.name.now n) old new
    (c.in-Some.ensures.updates.0 q ∙ ap (λ b. cond b None old) (same_signal c.args.key k c.args.name.now n))
