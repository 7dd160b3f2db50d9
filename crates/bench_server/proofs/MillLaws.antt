-- A run of `mill` that was reported: its status, which is never that of a refused database, stays.
use Rattle.std.proofs.Common.{◌≡◌, ℕ, Option, Some, sym, subst, inl, inr}
use Rattle.tool_words.specs.Commands.{ToolCommand, Mills}
use Rattle.bench_server.specs.declared.status.Status.{Status}
use Rattle.bench_server.specs.Outcomes.{Seen}
use Rattle.bench_server.specs.MillOutcomes.{CausedMill, EndsMill}
use Rattle.bench_server.specs.Reporting.{Stays}
use Rattle.bench_server.specs.Tool.{EndsTool}

stays_so : (frames : ℕ) (s : Seen) (was now : Status) → EndsMill frames s was → Stays was now → EndsMill frames s now
stays_so frames s was now h stays =
    elim stays [
      | inl same ↦ subst (λ (end : Status). EndsMill frames s end) (sym same) h
      | inr lacks ↦ absurd (subst (λ (end : Status). CausedMill frames s end) lacks.refused h.caused)
    ]

pub mill_reported : (command : Option ToolCommand) (frames : ℕ) (s : Seen) (was now : Status) → command ≡ Some (Mills frames) → EndsMill frames s was → Stays was now → EndsTool command s now
mill_reported command frames s was now e h stays =
    subst (λ (c : Option ToolCommand). EndsTool c s now) (sym e) (stays_so frames s was now h stays)
