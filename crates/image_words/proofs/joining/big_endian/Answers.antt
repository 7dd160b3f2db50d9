use Rattle.std.proofs.Common.{take, arith}
use Rattle.std.proofs.lemmas.List.{length-take-le}
use Rattle.image_words.proofs.ByteLaws.{small_number}
use Rattle.image_words.proofs.joining.big_endian.Goals as goal

pub overflow_mul-number : goal.overflow_mul-number
overflow_mul-number c =
    let prefix = c.bytes_as_number.ensures.prefix c.args.bytes.now c.loop-byte.byte-index (λ i. omega (arith, c.type_inv.bytes i)) in
    let below = c.bytes_as_number.ensures.big_below (take c.loop-byte.byte-index c.args.bytes.now) prefix in
    let long = length-take-le c.loop-byte.byte-index c.args.bytes.now (omega arith) in
    let small = small_number _ _ below (omega (arith, long, c.requires)) in
    record { fits = omega (arith, small, c.loop-byte.invariant) }

pub overflow_add-number : goal.overflow_add-number
overflow_add-number c =
    let prefix = c.bytes_as_number.ensures.prefix c.args.bytes.now c.loop-byte.byte-index (λ i. omega (arith, c.type_inv.bytes i)) in
    let below = c.bytes_as_number.ensures.big_below (take c.loop-byte.byte-index c.args.bytes.now) prefix in
    let long = length-take-le c.loop-byte.byte-index c.args.bytes.now (omega arith) in
    let small = small_number _ _ below (omega (arith, long, c.requires)) in
    let byte = c.type_inv.bytes c.loop-byte.byte-index in
    record { fits = omega (arith, small, c.loop-byte.invariant, byte, c.from.ensures) }
