use Rattle.std.proofs.Common.{◌≡◌, ◌-◌, List, take, drop, filter, length, sym, ap, ◌∙◌, arith}
use Rattle.std.specs.Option.{option_map}
use Rattle.cluster_model.specs.State.{Calling, Unit, call_of, is_open_unit}
use Rattle.cluster_model.specs.Commands.{open_units}
use Rattle.cluster_calls.specs.Calling.{round_units}
use Rattle.cluster_calls.specs.Rows.{calls_in}
use Rattle.cluster_calls.specs.declared.row.Row.{Row}
use Rattle.cluster_calls.proofs.CallsLaws.{numbers}
use Rattle.cluster_calls.proofs.ListLaws.{not_some, same_some}
use Rattle.cluster_calls.proofs.RowTables.{get-calls_in}
use Rattle.cluster_calls.proofs.RoundQueries.{kept_is, none_open, open_stretch, round_stretch}
use Rattle.cluster_calls.proofs.calls.Calls.last_round.Goals as goal

pub numbered_on-requires-clause-positive : goal.numbered_on-requires-clause-positive
numbered_on-requires-clause-positive c = λ l.
    let units = c.self.inside.units.items in
    let n = c.args.number in
    let row = c.in-Some.row.now in
    let kept = kept_is units n row.call c.last_round-start.result.0 c.last_round-start.result.1 (c.self.invariant.right.kept n row (sym c.in-Some.ensures)).round c.last_round-start.ensures in
    omega (arith, kept.first l, kept.round.positive)

pub numbered_on-requires-clause-within : goal.numbered_on-requires-clause-within
numbered_on-requires-clause-within c = λ l.
    let units = c.self.inside.units.items in
    let n = c.args.number in
    let row = c.in-Some.row.now in
    let kept = kept_is units n row.call c.last_round-start.result.0 c.last_round-start.result.1 (c.self.invariant.right.kept n row (sym c.in-Some.ensures)).round c.last_round-start.ensures in
    omega (arith, kept.first l, kept.many, kept.round.within, ap length c.as_slice.ensures.value)

pub returns-in-None-clause-units : goal.returns-in-None-clause-units
returns-in-None-clause-units c = λ call is.
    not_some call
    (ap (option_map (λ (r : Row). r.call)) c.in-None.ensures ∙ sym (get-calls_in c.self.inside.table c.args.number) ∙ ap (λ (x : Calling). call_of x c.args.number) c.self.view_is ∙ is)

pub returns-in-None-clause-unended : goal.returns-in-None-clause-unended
returns-in-None-clause-unended c =
    none_open c.self.inside.segments c.self.inside.units.items c.self.inside.table c.args.number (calls_in c.self.inside.table) c.self.invariant.right (sym c.in-None.ensures)
    ∙ ap (λ (x : Calling). open_units x c.args.number) c.self.view_is

pub returns-in-Some-clause-units : goal.returns-in-Some-clause-units
returns-in-Some-clause-units c = λ call is.
    let units = c.self.inside.units.items in
    let n = c.args.number in
    let row = c.in-Some.row.now in
    let kept = kept_is units n row.call c.last_round-start.result.0 c.last_round-start.result.1 (c.self.invariant.right.kept n row (sym c.in-Some.ensures)).round c.last_round-start.ensures in
    let same : row.call ≡ call =
    same_some row.call call
    (ap (option_map (λ (r : Row). r.call)) c.in-Some.ensures ∙ sym (get-calls_in c.self.inside.table n) ∙ ap (λ (x : Calling). call_of x n) c.self.view_is ∙ is) in
    c.numbered_on.ensures
    ∙ ap (λ (us : List Unit). take c.last_round-start.result.1 (drop (c.last_round-start.result.0 - 1) us)) c.as_slice.ensures.value
    ∙ sym (round_stretch units n row.call c.last_round-start.result.0 c.last_round-start.result.1 (numbers c.self.inside c.self.invariant) kept)
    ∙ ap (round_units units) same
    ∙ ap (λ (x : Calling). round_units x.units call) c.self.view_is

pub returns-in-Some-clause-unended : goal.returns-in-Some-clause-unended
returns-in-Some-clause-unended c =
    let units = c.self.inside.units.items in
    let n = c.args.number in
    let row = c.in-Some.row.now in
    let kept = kept_is units n row.call c.last_round-start.result.0 c.last_round-start.result.1 (c.self.invariant.right.kept n row (sym c.in-Some.ensures)).round c.last_round-start.ensures in
    ap (filter is_open_unit)
    (c.numbered_on.ensures ∙ ap (λ (us : List Unit). take c.last_round-start.result.1 (drop (c.last_round-start.result.0 - 1) us)) c.as_slice.ensures.value)
    ∙ open_stretch c.self.inside.segments units c.self.inside.table n row.call (calls_in c.self.inside.table) c.last_round-start.result.0 c.last_round-start.result.1 c.self.invariant.right kept
    ∙ ap (λ (x : Calling). open_units x n) c.self.view_is
