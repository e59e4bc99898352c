use Rattle.std.proofs.Common.{◌≤◌, arith}
use Rattle.segment_hash.proofs.Decimals.{pow_small}
use Rattle.segment_hash.proofs.segments.number.Goals as goal

pub overflow_mul-number : goal.overflow_mul-number
overflow_mul-number c =
    let few : c.loop-digit.digit-index ≤ 8 = omega arith in
    omega (arith, pow_small c.loop-digit.digit-index few)

pub overflow_add-number : goal.overflow_add-number
overflow_add-number c =
    let few : c.loop-digit.digit-index ≤ 8 = omega arith in
    omega (arith, pow_small c.loop-digit.digit-index few)
