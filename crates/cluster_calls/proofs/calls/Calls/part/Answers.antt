use Rattle.std.proofs.Common.{sym, ap, ◌∙◌, arith}
use Rattle.cluster_model.specs.State.{Calling}
use Rattle.cluster_calls.specs.Parts.{part_in}
use Rattle.cluster_calls.proofs.PartQueries.{absent_part, none_part, past_part, some_part}
use Rattle.cluster_calls.proofs.calls.Calls.part.Goals as goal

pub returns-then-number-self : goal.returns-then-number-self
returns-then-number-self c =
    past_part c.self.inside.segments c.self.inside.units.items c.self.inside.table c.args.number c.args.segment c.self.invariant.right (omega (arith, c.number.ensures))
    ∙ ap (λ (x : Calling). part_in x c.args.number c.args.segment) c.self.view_is

pub returns-in-None : goal.returns-in-None
returns-in-None c =
    absent_part c.self.inside.segments c.self.inside.units.items c.self.inside.table c.args.number c.args.segment (sym c.in-None.ensures)
    ∙ ap (λ (x : Calling). part_in x c.args.number c.args.segment) c.self.view_is

pub returns-in-None-parts : goal.returns-in-None-parts
returns-in-None-parts c =
    none_part c.self.inside.segments c.self.inside.units.items c.self.inside.table c.args.number c.args.segment c.in-Some.row.now c.self.invariant.pieced (omega (arith, c.number.ensures))
    (sym c.in-Some.ensures) c.in-None-parts.is
    ∙ ap (λ (x : Calling). part_in x c.args.number c.args.segment) c.self.view_is

pub returns-in-Some-parts : goal.returns-in-Some-parts
returns-in-Some-parts c =
    c.booked.ensures
    ∙ some_part c.self.inside.segments c.self.inside.units.items c.self.inside.table c.args.number c.args.segment c.in-Some.row.now c.in-Some-parts.parts c.self.invariant.pieced
    (omega (arith, c.number.ensures)) (sym c.in-Some.ensures) c.in-Some-parts.is
    ∙ ap (λ (x : Calling). part_in x c.args.number c.args.segment) c.self.view_is
