-- What the answers of a call for the next line say of one another and of the states.
use Rattle.std.proofs.Common.{◌≡◌, ◌⊎◌, ◌↔◌, ℕ, ◌<◌, true, false, List, Option, None, Some, IfSome, IsSome, IfOk, IsOkAnd, Result, Ok, Err, is_err, refl, sym, ap, subst, ◌∙◌, arith, inl, inr}
use Rattle.port_io.specs.OtherSide.{SourceState}
use Rattle.candump_log.specs.declared.log_line.LogLine.{LogLine}
use Rattle.candump_log.specs.declared.place.LinesRefused.{LinesRefused}
use Rattle.candump_log.specs.declared.place.LinesRefused.TheVariants as refused
use Rattle.candump_log.specs.declared.place.Routed.{Routed}
use Rattle.candump_log.specs.Line.{KeepsLimits}
use Rattle.candump_log.specs.LineOf.{line_of}
use Rattle.candump_log.specs.LinesState.{LinesState}
use Rattle.candump_log.specs.NextLine.{Advances, Answers, AnswersOn, NextLine, NextOn, IsAtEnd, IsAtLimit, unrouted}

-- `next_on` is `next`
unrouted_err : (r : Result (Option Routed) LinesRefused) → is_err (unrouted r) ≡ is_err r
unrouted_err (Ok (Some routed)) = refl
unrouted_err (Ok None) = refl
unrouted_err (Err why) = refl

unrouted_answer : (names : List (List ℕ)) (before now : LinesState) (r : Result (Option Routed) LinesRefused) → AnswersOn names before r now → Answers before (unrouted r) now
unrouted_answer names before now (Ok (Some routed)) a = a.0
unrouted_answer names before now (Ok None) a = a
unrouted_answer names before now (Err why) a = a

pub next_of : (names : List (List ℕ)) (before now : LinesState) (r : Result (Option Routed) LinesRefused) → NextOn names before r now → NextLine before (unrouted r) now
next_of names before now r n = record { failed = n.failed ∙ sym (unrouted_err r); advances = n.advances; answer = unrouted_answer names before now r n.answer }

-- none comes exactly at the end
pub none_exactly : (before now : LinesState) (r : Result (Option LogLine) LinesRefused) → Answers before r now → (r ≡ Ok None) ↔ IsAtEnd before now
none_exactly before now (Ok (Some line)) a = (λ no. absurd cc, λ end. absurd (omega (arith, a.given, end.given)))
none_exactly before now (Ok None) a = (λ _. record { given = a.0.given; ready = a.0.is_not_ready; ended = a.1.ended }, λ _. refl)
none_exactly before now (Err why) a = (λ no. absurd cc, λ end. absurd (let e = end.ended in let f = a.1.ended in cc))

-- too long comes exactly at the limit
pub too_long_exactly : (before now : LinesState) (r : Result (Option LogLine) LinesRefused) → Answers before r now → (r ≡ Err refused.TooLong) ↔ IsAtLimit before now
too_long_exactly before now (Ok (Some line)) a = (λ no. absurd cc, λ end. absurd (omega (arith, a.given, end.given)))
too_long_exactly before now (Ok None) a = (λ no. absurd cc, λ end. absurd (let e = end.ended in let f = a.1.ended in cc))
too_long_exactly before now (Err refused.ReadFault) a = (λ no. absurd cc, λ end. absurd (omega (arith, a.2.1, end.taken)))
too_long_exactly before now (Err refused.TooLong) a = (λ _. record { given = a.0.given; ready = a.0.is_not_ready; ended = a.1.ended; taken = a.2 }, λ _. refl)

-- where the log has ended and no line is ready, none comes
pub ended_gives_none : (before now : LinesState) (r : Result (Option LogLine) LinesRefused) → Advances before now → Answers before r now → before.ready ≡ false → before.source.ended ≡ true →
    r ≡ Ok None
ended_gives_none before now (Ok (Some line)) adv a none end = absurd (by_asked (a.asked none))
  where
    by_asked : (before.taken < now.taken) ⊎ ((before.source.ended ≡ false) × (now.source.ended ≡ true)) → ⊥
    by_asked (inl more) = omega (arith, adv.still (inr (inl end)))
    by_asked (inr said) = let no = said.0 in cc
ended_gives_none before now (Ok None) adv a none end = refl
ended_gives_none before now (Err why) adv a none end =
    absurd (let ended : now.source.ended ≡ true = ap (λ (s : SourceState). s.ended) (adv.unasked (inr (inl end))) ∙ end in let no = a.1.ended in cc)

-- where a line is ready it is given
pub ready_gives : (before now : LinesState) (r : Result (Option LogLine) LinesRefused) → Advances before now → Answers before r now → before.ready ≡ true →
    IsOkAnd r (λ line. IsSome line) × (now.source ≡ before.source)
ready_gives before now (Ok (Some line)) adv a ready = (refl, adv.unasked (inl ready))
ready_gives before now (Ok None) adv a ready = absurd (let no = a.0.was_not_ready in cc)
ready_gives before now (Err why) adv a ready = absurd (let no = a.0.was_not_ready in cc)

-- each line keeps its limits, where each text does
pub given_keeps : ((text : List ℕ) → KeepsLimits (line_of text)) → (before now : LinesState) (r : Result (Option LogLine) LinesRefused) → Answers before r now → IfOk r (λ line. IfSome line KeepsLimits)
given_keeps keeps before now (Ok (Some line)) a = let P : LogLine → Type 0 = KeepsLimits in subst P (sym a.line_is) (keeps a.text)
given_keeps keeps before now (Ok None) a = tt
given_keeps keeps before now (Err why) a = tt
