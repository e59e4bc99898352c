-- The units are asked.
use Rattle.std.proofs.Common.{◌≡◌, ◌+◌, List, length, map, sym, subst, ap, ◌∙◌}
use Rattle.std.specs.List.{range_with_len}
use Rattle.grid_event.specs.declared.call_events.Ask.{Ask}
use Rattle.grid_event.specs.declared.event.Event.TheVariants as events
use Rattle.cluster_model.specs.State.{Calling}
use Rattle.cluster_calls.specs.Calling.{round_of}
use Rattle.cluster_core.proofs.RoundRows.{round_asks, round_seen}
use Rattle.cluster_core.proofs.Rows.{core_next}
use Rattle.cluster_core.proofs.cluster.Core.round.Goals as goal

pub round-requires-clause-left : goal.round-requires-clause-left
round-requires-clause-left c = (round_asks c.self.inside c.args.self.now c.args.round.now c.self.invariant c.self.view_is c.requires).left

pub round-requires-clause-closed : goal.round-requires-clause-closed
round-requires-clause-closed c = (round_asks c.self.inside c.args.self.now c.args.round.now c.self.invariant c.self.view_is c.requires).closed

pub round-requires-clause-numbered : goal.round-requires-clause-numbered
round-requires-clause-numbered c =
    subst (λ (asks : List Ask). map (λ (ask : Ask). ask.unit) asks ≡ range_with_len (length c.self.inside.calls.units + 1) (length asks)) (sym c.as_slice.ensures)
    (round_asks c.self.inside c.args.self.now c.args.round.now c.self.invariant c.self.view_is c.requires).numbered

pub round-requires-clause-segments : goal.round-requires-clause-segments
round-requires-clause-segments c =
    ap (map (λ (ask : Ask). ask.segment)) c.as_slice.ensures
    ∙ (round_asks c.self.inside c.args.self.now c.args.round.now c.self.invariant c.self.view_is c.requires).segments

pub invariant_of-self-2 : goal.invariant_of-self-2
invariant_of-self-2 c =
    let r = c.args.round.now in
    let is = c.in_ok-round.ensures.ok ∙ ap (λ (asks : List Ask). round_of r.call r.id asks c.self.inside.calls) c.as_slice.ensures in
    core_next c.self.inside (record c.self.inside { calls = c.round.new.self }) c.args.self.now (events.Round r) c.self.invariant c.self.view_is c.requires
    (round_seen c.self.inside c.args.self.now r c.round.new.self c.self.view_is is)
    (ap (λ (calls : Calling). calls.segments) is)

pub returns-clause-ok : goal.returns-clause-ok
returns-clause-ok c =
    let r = c.args.round.now in
    let is = c.in_ok-round.ensures.ok ∙ ap (λ (asks : List Ask). round_of r.call r.id asks c.self.inside.calls) c.as_slice.ensures in
    round_seen c.self.inside c.args.self.now r c.round.new.self c.self.view_is is
