use Rattle.std.proofs.Common.{◌-◌, drop, arith}
use Rattle.std.proofs.lemmas.List.{length-drop}
use Rattle.image_words.proofs.ByteLaws.{small_number}
use Rattle.image_words.proofs.joining.little_endian.Goals as goal

pub overflow_mul-number : goal.overflow_mul-number
overflow_mul-number c =
    let rest = c.bytes_as_number.ensures.rest c.args.bytes.now c.loop-i.i (λ i. omega (arith, c.type_inv.bytes i)) in
    let below = c.bytes_as_number.ensures.below (drop c.loop-i.i c.args.bytes.now) rest in
    let small = small_number _ _ below (omega (arith, length-drop c.loop-i.i c.args.bytes.now, c.requires)) in
    record { fits = omega (arith, small, c.loop-i.invariant.number) }

pub overflow_add-number : goal.overflow_add-number
overflow_add-number c =
    let rest = c.bytes_as_number.ensures.rest c.args.bytes.now c.loop-i.i (λ i. omega (arith, c.type_inv.bytes i)) in
    let below = c.bytes_as_number.ensures.below (drop c.loop-i.i c.args.bytes.now) rest in
    let small = small_number _ _ below (omega (arith, length-drop c.loop-i.i c.args.bytes.now, c.requires)) in
    let byte = c.type_inv.bytes (c.loop-i.i - 1) in
    record { fits = omega (arith, small, c.loop-i.invariant.number, byte, c.from.ensures) }
