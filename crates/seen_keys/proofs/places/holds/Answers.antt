use Rattle.std.proofs.Common.{ap, sym, ◌∙◌, arith, get_or, None, length, ◌≤◌, ◌<◌}
use Rattle.std.proofs.lemmas.List.{get_or_past}
use Rattle.seen_keys.specs.Places.{place_has}
use Rattle.seen_keys.proofs.PlaceLemmas.{has_passed-passed_from, read_at}
use Rattle.seen_keys.proofs.places.holds.Goals as goal

pub returns-then-place-len : goal.returns-then-place-len
returns-then-place-len c =
    let past : length c.args.places.now.items ≤ c.args.segment = omega arith in
    sym (has_passed-passed_from c.args.places.now.items c.args.segment c.args.key.now ∙ ap (λ p. place_has p c.args.key.now) (get_or_past c.args.places.now.items c.args.segment None past))

pub returns-in-Some : goal.returns-in-Some
returns-in-Some c =
    let inside : c.from-place.result < length c.args.places.now.items = omega arith in
    c.contains.ensures
    ∙ ap (λ p. place_has p c.args.key.now)
    (sym c.in-Some.is ∙ read_at c.args.places.now.items c.from-place.result c.index.result.now inside c.index.ensures ∙ ap (λ n. get_or c.args.places.now.items n None) (c.from-place.ensures ∙ c.number.ensures))
    ∙ sym (has_passed-passed_from c.args.places.now.items c.args.segment c.args.key.now)

pub returns-in-None : goal.returns-in-None
returns-in-None c =
    let inside : c.from-place.result < length c.args.places.now.items = omega arith in
    ap (λ p. place_has p c.args.key.now)
    (sym c.in-None.is ∙ read_at c.args.places.now.items c.from-place.result c.index.result.now inside c.index.ensures ∙ ap (λ n. get_or c.args.places.now.items n None) (c.from-place.ensures ∙ c.number.ensures))
    ∙ sym (has_passed-passed_from c.args.places.now.items c.args.segment c.args.key.now)
