use Rattle.std.proofs.Common.{◌≡◌, ◌==◌, sym, ap, ◌∙◌, arith}
use Rattle.cluster_model.specs.State.{Calling, is_of, is_on, unit_in}
use Rattle.cluster_model.specs.Commands.{newest_in}
use Rattle.cluster_calls.specs.Tallies.{number_of}
use Rattle.cluster_calls.proofs.CallsLaws.{numbers}
use Rattle.cluster_calls.proofs.ListLaws.{same_some}
use Rattle.cluster_calls.proofs.QueryLaws.{find_newest, no_segment}
use Rattle.cluster_calls.proofs.RightLaws.{and_none}
use Rattle.cluster_calls.proofs.RoundLaws.{find_reverse_none, no_unit}
use Rattle.cluster_calls.proofs.calls.Calls.newest.Goals as goal

pub returns-then-number-self : goal.returns-then-number-self
returns-then-number-self c =
    let units = c.self.inside.units.items in
    sym (find_reverse_none (is_on c.args.number c.args.segment) units (no_segment c.self.inside.segments units c.self.inside.table c.args.number c.args.segment c.self.invariant.right (omega (arith, c.number.ensures))))
    ∙ ap (λ (x : Calling). newest_in x.units c.args.number c.args.segment) c.self.view_is

pub newest-requires : goal.newest-requires
newest-requires c =
    let kept = c.self.invariant.right.kept c.args.number c.in-Some.row.now (sym c.in-Some.ensures) in
    omega (arith, c.number.ensures, kept.tally.wide)

pub returns-in-None : goal.returns-in-None
returns-in-None c =
    let n = c.args.number in
    let units = c.self.inside.units.items in
    sym (find_reverse_none (is_on n c.args.segment) units (λ i u at. and_none (is_of n u) (u.work.segment == c.args.segment) (no_unit c.self.inside.segments units c.self.inside.table n c.self.invariant.right (sym c.in-None.ensures) i u at)))
    ∙ ap (λ (x : Calling). newest_in x.units n c.args.segment) c.self.view_is

pub returns-in-Some : goal.returns-in-Some
returns-in-Some c =
    let units = c.self.inside.units.items in
    let n = c.args.number in
    let s = c.args.segment in
    let kept = c.self.invariant.right.kept n c.in-Some.row.now (sym c.in-Some.ensures) in
    let number : c.newest.result ≡ number_of (newest_in units n s) =
    same_some c.newest.result (number_of (newest_in units n s)) (sym c.newest.ensures ∙ kept.tally.newest s (omega (arith, c.number.ensures))) in
    c.unit.ensures.unit
    ∙ ap (λ (x : Calling). unit_in x.units c.new.result) (sym c.self.view_is)
    ∙ ap (unit_in units) (c.new.ensures ∙ number)
    ∙ find_newest units n s (numbers c.self.inside c.self.invariant)
    ∙ ap (λ (x : Calling). newest_in x.units n s) c.self.view_is
