use Rattle.std.proofs.Common.{◌∙◌, ap, cond, Some, ℕ, Bool, List}
use Rattle.std.specs.Borrow.{Bor}
use Rattle.std.specs.BTreeMap.{get_by}
use Rattle.dbc_grammar.specs.Noted.{signal_order, notes_seen}
use Rattle.dbc_grammar.specs.Naming.{same_key}
use Rattle.std.specs.Prelude.{◌&&◌}
use Rattle.std.specs.Str.{bytes_eq}
use Rattle.dbc_grammar.proofs.NoteLaws.{same_signal, at_same_signal, one_added}
use Rattle.dbc_grammar.proofs.notes.NoteIndex.add.Goals as goal

pub returns : goal.returns
returns c = λ k n.
    let q : (Bool × ℕ) × Bor (List ℕ) = ((k.extended, k.id), record c.args.name { now = n }) in
    let mid = get_by (signal_order k n) c.take-list.new.self.notes in
    let new = get_by (signal_order k n) c.insert.new.self in
    let same = same_key c.args.key k && bytes_eq c.args.name.now n in
    one_added same c.push.new.self mid new c.take-list.result.items c.args.note
    (notes_seen c.args.self.now.notes k n) (notes_seen c.args.self.now.notes c.args.key c.args.name.now)
    (c.in_ok-insert.ensures.updates.0 q ∙ ap (λ b. cond b (Some c.push.new.self) mid) (same_signal c.args.key k c.args.name.now n))
    c.in_ok-push.ensures.items c.take-list.ensures.taken
    (at_same_signal c.args.self.now.notes c.args.key k c.args.name.now n)
    (c.take-list.ensures.left k n)
