use Rattle.std.proofs.Common.{sym, ap, ◌∙◌, arith}
use Rattle.cluster_model.specs.Topologies.{is_complete}
use Rattle.cluster_model.specs.State.{Calling}
use Rattle.cluster_calls.proofs.QueryLaws.{none_complete, past_complete}
use Rattle.cluster_calls.proofs.calls.Calls.is_complete.Goals as goal

pub returns-then-number-self : goal.returns-then-number-self
returns-then-number-self c =
    sym (past_complete c.self.inside.segments c.self.inside.units.items c.self.inside.table c.args.number c.args.segment c.self.invariant.right (omega (arith, c.number.ensures)))
    ∙ ap (λ (x : Calling). is_complete x.units c.args.number c.args.segment) c.self.view_is

pub returns-in-None : goal.returns-in-None
returns-in-None c =
    sym (none_complete c.self.inside.segments c.self.inside.units.items c.self.inside.table c.args.number c.self.invariant.right (sym c.in-None.ensures) c.args.segment)
    ∙ ap (λ (x : Calling). is_complete x.units c.args.number c.args.segment) c.self.view_is

pub returns-in-Some : goal.returns-in-Some
returns-in-Some c =
    let kept = c.self.invariant.right.kept c.args.number c.in-Some.row.now (sym c.in-Some.ensures) in
    c.is_complete.ensures ∙ kept.tally.complete c.args.segment ∙ ap (λ (x : Calling). is_complete x.units c.args.number c.args.segment) c.self.view_is
