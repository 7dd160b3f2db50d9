use Rattle.std.proofs.Common.{◌≡◌, ◌+◌, ◌-◌, ◌++◌, List, ℕ, ◌∷◌, length, take, drop, refl, sym, ap, subst, ◌∙◌}
use Rattle.candump_log.specs.Steps.{route, next_place}
use Rattle.candump_log.proofs.CutLaws.{none_found, none_before, parted_at}
use Rattle.candump_log.proofs.steps.take_whole.Goals as goal
use Rattle.candump_log.specs.LogLines.{NoFeed}

pub returns-in_err-at : goal.returns-in_err-at
returns-in_err-at c =
    let none : NoFeed c.args.held.now = subst NoFeed c.bytes.ensures (none_found c.bytes.result.now (λ k low high p. c.in_err-at.ensures k low high p)) in
    rw c.from_residual.ensures (refl, refl, none)

pub returns : goal.returns
returns c =
    let at = c.in_ok-at.at in
    let was = c.args.held.now in
    let hay = c.bytes.result.now in
    let h = c.in_ok-at.ensures in
    let N : List ℕ → Type 0 = λ w. NoFeed (take at w) in
    let P : List ℕ → Type 0 = λ w. w ≡ take at w ++ 10 ∷ drop (at + 1) w in
    record {
      piece = take at was;
      plain = subst N c.bytes.ensures (none_before hay at h.0.high (λ k low high p. h.0.before k low high p));
      parted = subst P c.bytes.ensures (parted_at hay at h.0.high h.1) ∙ ap (λ (l : List ℕ). take at was ++ 10 ∷ l) (sym c.pass.ensures);
      routed_is = c.route-routed.ensures ∙ ap (λ (l : List ℕ). route c.args.names.now c.args.place.now.long (take at l)) c.bytes-2.ensures;
      now_is = ap (λ (l : List ℕ). next_place c.args.place.now (c.args.place.now.taken - length l)) c.bytes-3.ensures;
    }
