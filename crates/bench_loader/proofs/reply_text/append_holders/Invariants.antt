use Rattle.std.proofs.Common.{◌≡◌, ◌++◌, take}
use Rattle.std.specs.Prelude.{flat_map}
use Rattle.bench_loader.proofs.ReplyLaws.{holder_text}
use Rattle.bench_loader.proofs.reply_text.append_holders.Given as goal

-- the holders so far were appended
abbrev pub invariant-loop-holder : goal.invariant-loop-holder
invariant-loop-holder l = l.out.items ≡ l.fn.out.items ++ flat_map holder_text (take l.holder-index l.holders)
