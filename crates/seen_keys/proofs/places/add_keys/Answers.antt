use Rattle.std.proofs.Common.{ap, ◌∙◌, arith, ◌≡◌, ◌<◌, ◌||◌, List, ℕ, length, Some, unwrap_or}
use Rattle.std.proofs.lemmas.List.{set-set}
use Rattle.std.proofs.lemmas.Result.{on_ok_weaker, on_err_weaker}
use Rattle.std.specs.List.{list_any}
use Rattle.grid_base.specs.Datum.{same_bytes}
use Rattle.seen_keys.specs.Passed.{all_passed}
use Rattle.seen_keys.specs.Places.{passed_from, has_key}
use Rattle.seen_keys.proofs.PlaceLemmas.{all_passed-placed, same_place, taken}
use Rattle.seen_keys.proofs.places.add_keys.Goals as goal

pub returns-clause-ok : goal.returns-clause-ok
returns-clause-ok c =
    let inside : c.from-place.result < length c.grow.new.places.items = omega (arith, c.in_ok-grow.ensures.ok) in
    let had = taken c.grow.new.places.items c.from-place.result c.index_mut.result.now c.unwrap_or-keys.result c.new.result inside c.index_mut.ensures.value
    (c.unwrap_or-keys.ensures ∙ ap (λ t. unwrap_or t c.new.result) c.take.ensures.value) c.new.ensures.empty in
    let all = λ (k : List ℕ). list_any (λ entry. same_bytes k entry.key) c.args.entries.now in
    on_ok_weaker c.insert_keys-added.result
    (λ (adds : (k : List ℕ) → has_key c.insert_keys-added.new.keys k ≡ (has_key c.unwrap_or-keys.result k || all k)).
    ap (passed_from 0) (set-set c.grow.new.places.items c.from-place.result c.take.new.self (Some c.insert_keys-added.new.keys))
    ∙ all_passed-placed c.grow.new.places.items (passed_from 0 c.args.places.now.items) c.from-place.result (Some c.insert_keys-added.new.keys) c.args.entries.now inside c.grow.ensures.same
    (λ k. adds k ∙ ap (λ b. b || all k) (had k))
    ∙ ap (λ n. all_passed (passed_from 0 c.args.places.now.items) n c.args.entries.now) (c.from-place.ensures ∙ c.number.ensures))
    c.insert_keys-added.ensures.ok

pub returns-clause-err : goal.returns-clause-err
returns-clause-err c =
    let inside : c.from-place.result < length c.grow.new.places.items = omega (arith, c.in_ok-grow.ensures.ok) in
    let had = taken c.grow.new.places.items c.from-place.result c.index_mut.result.now c.unwrap_or-keys.result c.new.result inside c.index_mut.ensures.value
    (c.unwrap_or-keys.ensures ∙ ap (λ t. unwrap_or t c.new.result) c.take.ensures.value) c.new.ensures.empty in
    on_err_weaker c.insert_keys-added.result
    (λ (keeps : (k : List ℕ) → has_key c.insert_keys-added.new.keys k ≡ has_key c.unwrap_or-keys.result k).
    ap (passed_from 0) (set-set c.grow.new.places.items c.from-place.result c.take.new.self (Some c.insert_keys-added.new.keys))
    ∙ same_place c.grow.new.places.items (passed_from 0 c.args.places.now.items) c.from-place.result (Some c.insert_keys-added.new.keys) inside c.grow.ensures.same
    (λ k. keeps k ∙ had k))
    c.insert_keys-added.ensures.err
