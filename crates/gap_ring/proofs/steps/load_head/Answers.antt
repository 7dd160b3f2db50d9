use Rattle.std.proofs.Common.{ℕ, Option, sym, subst, arith}
use mathlib.Core.Option.{none}
use Rattle.atomic_table.specs.Table.{step, Allows}
use Rattle.bench_model.specs.declared.reading.Reading.{Reading}
use Rattle.gap_ring.specs.Rule.{Kept, head_word}
use Rattle.gap_ring.specs.Steps.{PutterLoads, saw_head}
use Rattle.gap_ring.proofs.PutLaws.{sees_head}
use Rattle.gap_ring.proofs.steps.load_head.Goals as goal

-- the step keeps the rule, with the record that the offer is made of
pub load-requires : goal.load-requires
load-requires g c =
    let seat = c.args.seat.now in
    let ring = c.args.ring.now.shared in (
      c.requires.on.0,
      omega (arith, c.requires.on.1),
      subst (λ (r : Option Reading). Allows (Kept ring.key) ring.table_id.slots seat.id seat.me head_word (λ (n : ℕ). n) (PutterLoads (saw_head r) (step ring.table_id.slots head_word 0 0 none) seat.me))
          (sym c.requires.said) (sees_head ring.key ring.table_id.slots seat.id seat.me c.args.reading.now c.requires.may.0 c.requires.may.1),
    )
