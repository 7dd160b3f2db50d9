use Rattle.std.proofs.Common.{◌≡◌, ◌≤◌, List, ℕ, ◌+◌, ◌-◌, ◌++◌, length, take, slice_range, sym, ap, ◌∙◌, arith}
use Rattle.std.proofs.lemmas.Result.{err_from_is_err_and}
use Rattle.std.proofs.lemmas.List.Edits.{length-between}
use Rattle.std.specs.List.{copy_within}
use Rattle.candump_log.proofs.HeldLaws.{filled, grown, kept, moved}
use Rattle.candump_log.proofs.held.Held.read_from.Goals as goal

pub slice_bounds-read-end : goal.slice_bounds-read-end
slice_bounds-read-end g c =
    let h = c.self.inside in
    omega (arith, ap length c.self.view_is, length-between h.buffer.items h.low h.high, c.self.invariant)

pub returns-in_err-count-clause-read : goal.returns-in_err-count-clause-read
returns-in_err-count-clause-read g c =
    let h = c.self.inside in
    let p = err_from_is_err_and c.from_residual.result c.from_residual.ensures.1 in
    let now : c.deref_mut.result.now ≡ copy_within h.buffer.items h.low h.high 0 = c.deref_mut.ensures.value ∙ c.copy_within.ensures.items in
    let within : h.high - h.low ≤ length c.deref_mut.result.now = omega (arith, c.self.invariant, c.deref_mut.ensures.len, c.copy_within.ensures.len) in
    let f = c.in_err-count.ensures in
    let v = c.copy_within.new.self in
    let mid = h.high - h.low + c.args.most - (h.high - h.low) in
    rw p.1 (record {
      held_is = ap (λ (l : List ℕ). slice_range l 0 (h.high - h.low)) (filled c.deref_mut.result.now c.read.new.buf v.items v.len (h.high - h.low) mid (omega (arith, c.copy_within.new.self.ok.0, ap length c.deref_mut.ensures.value)) (omega (arith, c.read.auto.buf))
          (omega (arith, c.self.invariant, c.deref_mut.ensures.len, c.copy_within.ensures.len, ap length c.self.view_is, length-between h.buffer.items h.low h.high)))
          ∙ kept c.deref_mut.result.now c.read.new.buf 0 (h.high - h.low) mid (omega arith) within
          ∙ ap (λ (l : List ℕ). slice_range l 0 (h.high - h.low)) now ∙ moved h.buffer.items h.low h.high c.self.invariant.0 (omega (arith, c.self.invariant)) ∙ c.self.view_is;
      left = f.left;
      taken = f.taken;
      ended = f.ended;
      later = f.cause.later;
      rose = f.cause.failed;
    })

pub returns-clause-read : goal.returns-clause-read
returns-clause-read g c =
    let h = c.self.inside in
    let n = c.in_ok-count.count in
    let bound = c.in_ok-count.ensures.bound in
    let now : c.deref_mut.result.now ≡ copy_within h.buffer.items h.low h.high 0 = c.deref_mut.ensures.value ∙ c.copy_within.ensures.items in
    let within : h.high - h.low ≤ length c.deref_mut.result.now = omega (arith, c.self.invariant, c.deref_mut.ensures.len, c.copy_within.ensures.len) in
    let v = c.copy_within.new.self in
    let mid = h.high - h.low + c.args.most - (h.high - h.low) in
    record {
      bytes = take n c.read.new.buf;
      count = sym bound.1;
      held_is = ap (λ (l : List ℕ). slice_range l 0 (h.high - h.low + n)) (filled c.deref_mut.result.now c.read.new.buf v.items v.len (h.high - h.low) mid (omega (arith, c.copy_within.new.self.ok.0, ap length c.deref_mut.ensures.value)) (omega (arith, c.read.auto.buf))
          (omega (arith, c.self.invariant, c.deref_mut.ensures.len, c.copy_within.ensures.len, ap length c.self.view_is, length-between h.buffer.items h.low h.high)))
          ∙ grown c.deref_mut.result.now c.read.new.buf 0 (h.high - h.low) mid n (omega arith) within bound.0
          ∙ ap (λ (l : List ℕ). l ++ take n c.read.new.buf)
          (ap (λ (l : List ℕ). slice_range l 0 (h.high - h.low)) now ∙ moved h.buffer.items h.low h.high c.self.invariant.0 (omega (arith, c.self.invariant)) ∙ c.self.view_is);
      left = c.in_ok-count.ensures.left;
      taken = c.in_ok-count.ensures.taken;
      ended = c.in_ok-count.ensures.ended;
      end = c.in_ok-count.ensures.end;
      later = c.in_ok-count.ensures.cause.later;
    }
