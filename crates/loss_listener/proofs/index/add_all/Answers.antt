use Rattle.std.proofs.Common.{ap, sym, ◌∙◌, ◌||◌, cond, true, nat_cmp}
use Rattle.std.proofs.lemmas.Map.Iter.{rest_more}
use Rattle.std.specs.BTreeMap.{is_at}
use Rattle.std.specs.BTreeSet.{contains}
use Rattle.std.specs.List.{list_any}
use Rattle.std.specs.Map.Iter.{deref}
use Rattle.loss_listener.proofs.RegisteredLaws.{flipped, moved}
use Rattle.loss_listener.proofs.index.add_all.Goals as goal

pub loop-unit-preserved : goal.loop-unit-preserved
loop-unit-preserved c = λ u.
    let rest = list_any (is_at (nat_cmp u)) c.next.new.self in
    ap (λ b. b || rest) (c.in_ok-insert.ensures.updates.0 u)
    ∙ ap (λ b. cond b true (contains nat_cmp c.loop-unit.found u) || rest) (flipped c.in-Some-unit.unit.now u)
    ∙ moved (is_at (nat_cmp u) c.in-Some-unit.unit.now) (contains nat_cmp c.loop-unit.found u) rest
    ∙ ap (λ items. contains nat_cmp c.loop-unit.found u || list_any (is_at (nat_cmp u)) items)
    (sym (rest_more deref c.loop-unit.unit-iterator c.next.new.self c.next.result c.in-Some-unit.unit c.in-Some-unit.is c.next.ensures.steps))
    ∙ c.loop-unit.invariant u
