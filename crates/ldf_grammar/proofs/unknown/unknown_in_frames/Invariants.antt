use Rattle.std.proofs.Common.{◌≡◌, drop}
use Rattle.ldf_grammar.specs.Gather.{Definitions}
use Rattle.ldf_grammar.specs.Unknown.{first_place, unknown_in_frame}
use Rattle.ldf_grammar.specs.Lookup.{HasDefinitions}
use Rattle.ldf_grammar.proofs.unknown.unknown_in_frames.Given as goal

-- the first unknown name of all is that of those that are left
abbrev pub invariant-loop-frame : goal.invariant-loop-frame
invariant-loop-frame l = (d : Definitions) → HasDefinitions l.lookups d → first_place (unknown_in_frame l.bytes d) (drop l.frame-index l.frames) ≡ first_place (unknown_in_frame l.bytes d) l.frames
