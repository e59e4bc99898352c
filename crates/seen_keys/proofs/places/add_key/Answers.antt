use Rattle.std.proofs.Common.{ap, ◌∙◌, arith, ◌<◌, ◌||◌, length, Some, unwrap_or}
use Rattle.std.proofs.lemmas.List.{set-set}
use Rattle.std.specs.List.{list_any}
use Rattle.grid_base.specs.Datum.{same_bytes}
use Rattle.seen_keys.specs.Passed.{with_key}
use Rattle.seen_keys.specs.Places.{passed_from, has_key}
use Rattle.seen_keys.proofs.PlaceLemmas.{with_key-placed, same_place, taken, has_more, OnErr-all}
use Rattle.seen_keys.proofs.places.add_key.Goals as goal

pub returns-in_err-added-clause-err : goal.returns-in_err-added-clause-err
returns-in_err-added-clause-err c =
    let inside : c.from-place.result < length c.grow.new.places.items = omega (arith, c.in_ok-grow.ensures.ok) in
    let had = taken c.grow.new.places.items c.from-place.result c.index_mut.result.now c.unwrap_or-keys.result c.new.result inside c.index_mut.ensures.value
    (c.unwrap_or-keys.ensures ∙ ap (λ t. unwrap_or t c.new.result) c.take.ensures.value) c.new.ensures.empty in
    OnErr-all c.from_residual-in_err-added.result
    (ap (passed_from 0) (set-set c.grow.new.places.items c.from-place.result c.take.new.self (Some c.insert-added.new.self))
    ∙ same_place c.grow.new.places.items (passed_from 0 c.args.places.now.items) c.from-place.result (Some c.insert-added.new.self) inside c.grow.ensures.same
    (λ k. ap (list_any (same_bytes k)) c.in_err-added.ensures.err ∙ had k))

pub returns-clause-ok : goal.returns-clause-ok
returns-clause-ok c =
    let inside : c.from-place.result < length c.grow.new.places.items = omega (arith, c.in_ok-grow.ensures.ok) in
    let had = taken c.grow.new.places.items c.from-place.result c.index_mut.result.now c.unwrap_or-keys.result c.new.result inside c.index_mut.ensures.value
    (c.unwrap_or-keys.ensures ∙ ap (λ t. unwrap_or t c.new.result) c.take.ensures.value) c.new.ensures.empty in
    ap (passed_from 0) (set-set c.grow.new.places.items c.from-place.result c.take.new.self (Some c.insert-added.new.self))
    ∙ with_key-placed c.grow.new.places.items (passed_from 0 c.args.places.now.items) c.from-place.result (Some c.insert-added.new.self) c.args.key.now inside c.grow.ensures.same
    (λ k. c.in_ok-added.ensures.updates.0 k ∙ has_more c.args.key.now k (has_key c.unwrap_or-keys.result k) ∙ ap (λ b. b || same_bytes k c.args.key.now) (had k))
    ∙ ap (λ n. with_key (passed_from 0 c.args.places.now.items) n c.args.key.now) (c.from-place.ensures ∙ c.number.ensures)
