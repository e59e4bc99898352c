use Rattle.std.proofs.Common.{◌≡◌, ◌<◌, not, take, length, sym, ap, ◌∙◌, arith}
use Rattle.std.proofs.lemmas.Bool.{not-false}
use Rattle.std.proofs.lemmas.List.{get_or-take, length-take-le}
use Rattle.std.proofs.lemmas.List.Quantifiers.{position-Some}
use Rattle.segment_hash.specs.Segments.{is_digit}
use Rattle.segment_hash.proofs.segments.group.Goals as goal

pub number-requires-clause-digits : goal.number-requires-clause-digits
number-requires-clause-digits c =
    let found = position-Some (λ byte. not (is_digit byte)) c.args.key.now c.in_ok-digits.digits 0 (sym c.in_ok-digits.ensures) in
    let long : length (take c.in_ok-digits.digits c.args.key.now) ≡ c.in_ok-digits.digits = length-take-le c.in_ok-digits.digits c.args.key.now (omega (arith, found.0)) in
    λ i h.
    let below : i < c.in_ok-digits.digits = omega (arith, long) in
    ap is_digit (get_or-take c.in_ok-digits.digits c.args.key.now i 0 below) ∙ not-false _ (found.2 i below)
