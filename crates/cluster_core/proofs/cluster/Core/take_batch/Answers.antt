use Rattle.std.proofs.Common.{◌≡◌, true, length, refl, sym, ap, ◌∙◌}
use Rattle.grid_event.specs.Taking.{Taking}
use Rattle.grid_event.specs.declared.event.Event.TheVariants as events
use Rattle.cluster_model.specs.State.{unit_of}
use Rattle.cluster_model.specs.Units.{can_take, further_items, taken_by}
use Rattle.cluster_calls.specs.Calling.{flies, is_one}
use Rattle.cluster_core.specs.Insides.{state_of}
use Rattle.cluster_core.specs.declared.cluster.Core.TheInside.{Inside}
use Rattle.cluster_core.proofs.Rows.{core_next}
use Rattle.cluster_core.proofs.TakeRows.{flying_there, given_many, same_segments, take_next}
use Rattle.cluster_core.proofs.cluster.Core.take_batch.Goals as goal

pub take-requires-clause-flies : goal.take-requires-clause-flies
take-requires-clause-flies c = (λ i. is_one flies (unit_of (c.self.view_is i).calling (c.take.view_is i).unit)) ∙ flying_there c.args.self.now c.args.take.now c.requires

pub take-requires-clause-given : goal.take-requires-clause-given
take-requires-clause-given c = λ unit call found there.
    let t : Taking = record { unit = c.take.inside.unit; entries = c.take.inside.entries.list; given = c.take.inside.given.list } in
    let may : can_take (state_of c.self.inside) t ≡ true = (λ i. can_take (c.self.view_is i) (c.take.view_is i)) ∙ c.requires in
    c.len-given.ensures ∙ given_many (state_of c.self.inside) t may unit call found there ∙ ap (λ es. length (further_items call es)) (sym c.as_slice.ensures)

pub invariant_of-self-2 : goal.invariant_of-self-2
invariant_of-self-2 c =
    let t : Taking = record { unit = c.take.inside.unit; entries = c.take.inside.entries.list; given = c.take.inside.given.list } in
    let may : can_take (state_of c.self.inside) t ≡ true = (λ i. can_take (c.self.view_is i) (c.take.view_is i)) ∙ c.requires in
    let later : Inside = record { store = c.self.inside.store; calls = c.take-2.new.self } in
    let told = take_next (state_of c.self.inside) t may c.self.inside.calls c.take-2.new.self refl c.as_slice.result.now c.len-given.result c.as_slice.ensures c.len-given.ensures c.in_ok-take.ensures.ok in
    core_next c.self.inside later (state_of c.self.inside) (events.Take t) c.self.invariant refl may told
    (same_segments c.take.inside.unit c.as_slice.result.now c.len-given.result (unit_of (state_of c.self.inside).calling c.take.inside.unit) c.self.inside.calls c.take-2.new.self c.in_ok-take.ensures.ok)

pub returns-clause-ok : goal.returns-clause-ok
returns-clause-ok c =
    let t : Taking = record { unit = c.take.inside.unit; entries = c.take.inside.entries.list; given = c.take.inside.given.list } in
    let may : can_take (state_of c.self.inside) t ≡ true = (λ i. can_take (c.self.view_is i) (c.take.view_is i)) ∙ c.requires in
    take_next (state_of c.self.inside) t may c.self.inside.calls c.take-2.new.self refl c.as_slice.result.now c.len-given.result c.as_slice.ensures c.len-given.ensures c.in_ok-take.ensures.ok
    ∙ (λ i. record (c.self.view_is i) { calling = taken_by (c.self.view_is i).calling (c.take.view_is i) })
