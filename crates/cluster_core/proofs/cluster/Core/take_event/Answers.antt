use Rattle.std.proofs.Common.{Some, sym, ap, ◌∙◌}
use Rattle.std.specs.Option.{option_map}
use Rattle.grid_event.specs.Taking.{Taking}
use Rattle.grid_event.specs.declared.event.Event.TheVariants as events
use Rattle.cluster_core.proofs.TakeRows.{take_told}
use Rattle.cluster_core.proofs.cluster.Core.take_event.Goals as goal

pub returns-in_default : goal.returns-in_default
returns-in_default c =
    ap (option_map (λ (t : Taking). events.Take t)) (sym c.in_default.is ∙ c.in_ok-take.ensures) ∙ take_told c.args.self.now c.args.unit.now c.requires.there

pub returns : goal.returns
returns c =
    ap (λ (t : Taking). Some (events.Take t)) c.in_ok-take-2.ensures
    ∙ ap (option_map (λ (t : Taking). events.Take t)) (sym c.in-Some.is ∙ c.in_ok-take.ensures)
    ∙ take_told c.args.self.now c.args.unit.now c.requires.there
