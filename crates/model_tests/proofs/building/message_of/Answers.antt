use Rattle.std.proofs.Common.{◌≡◌, ◌∙◌, sym, ap, ℕ, List, All, length}
use Rattle.multiplex_tree.specs.declared.mark.Mark.{Mark}
use Rattle.multiplex_tree.specs.Trees.{IsTreeOver}
use Rattle.bench_model.specs.declared.database.Signal.{Signal}
use Rattle.bench_model.specs.declared.database.Message.{Message}
use Rattle.bench_model.specs.Limits.{IsCoding, IsMade}
use Rattle.model_tests.proofs.building.message_of.Goals as goal

made : (m : Message) (n : ℕ) (marks given : List Mark) (signals : List Signal) → m.signals ≡ signals → length signals ≡ n → length marks ≡ n → given ≡ marks →
    IsTreeOver (length given) m.tree.parents → All (λ (s : Signal). IsCoding s.coding) signals → IsMade m
made m n marks given signals same number marked is over codings =
    let count : length given ≡ length m.signals = ap length is ∙ marked ∙ sym (ap length same ∙ number) in
    record { tree = rw count at over; codings = rw same codings }

pub returns : goal.returns
returns c = made _ _ _ _ _ c.of-2.ensures c.in_ok-signals.ensures.number c.in_ok-marks.ensures c.deref.ensures.value c.in_ok-tree.ensures.over c.in_ok-signals.ensures.codings
