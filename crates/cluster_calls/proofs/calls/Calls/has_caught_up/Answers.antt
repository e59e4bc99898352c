use Rattle.std.proofs.Common.{ap, ◌∙◌, nat_le}
use Rattle.std.specs.List.{list_all}
use Rattle.suspect_retry.specs.Rounds.{closed_at}
use Rattle.cluster_model.specs.State.{Unit}
use Rattle.cluster_calls.proofs.calls.Calls.has_caught_up.Goals as goal

pub returns : goal.returns
returns c = λ call is.
    c.are_closed_by.ensures ∙ ap (list_all (λ (unit : Unit). nat_le (closed_at unit.work.state) c.args.installed)) (c.last_round.ensures.units call is)
