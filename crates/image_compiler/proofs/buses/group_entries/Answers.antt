use Rattle.std.proofs.Common.{◌∙◌, ◌++◌, ◌+◌, drop, sym, ap, arith, List, ℕ}
use Rattle.image_compiler.proofs.WritingLaws.{group_more, group_not_here, groups_end}
use Rattle.image_words.specs.Index.{group_entries}
use Rattle.image_compiler.proofs.buses.group_entries.Goals as goal
use Rattle.image_compiler.proofs.buses.group_entries.Goals.{then-message+in_ok-push, else-message}

pub loop-message-preserved : goal.loop-message-preserved
loop-message-preserved c = elim c.if-message.branch [
  | then-message+in_ok-push w ↦ record {
    place = omega (arith, c.loop-message.invariant.place);
    written = sym (group_more c.args.messages.now c.loop-message.message-index _ c.message-item.result c.loop-message.entries.items c.if-message.entries.items c.loop-message-test.true c.message-item.is
        w.if-message.true (omega (arith, w.from.ensures, w.group_of.ensures, c.loop-message.invariant.place)) (ap (λ v. v.items) w.entries-is ∙ w.in_ok-push.ensures.items))
        ∙ c.loop-message.invariant.written;
  }
  | else-message w ↦ record {
    place = omega (arith, c.loop-message.invariant.place);
    written = ap (λ v. v.items ++ group_entries (c.loop-message.message-index + 1) (drop (c.loop-message.message-index + 1) c.args.messages.now)) w.entries-is
        ∙ ap (λ (words : List ℕ). c.loop-message.entries.items ++ words) (sym (group_not_here c.args.messages.now c.loop-message.message-index c.message-item.result c.loop-message-test.true c.message-item.is w.if-message.false))
        ∙ c.loop-message.invariant.written;
  }
]

pub returns : goal.returns
returns c = groups_end c.args.messages.now c.loop-message.message-index c.loop-message.entries.items c.loop-message-test.false ∙ c.loop-message.invariant.written
