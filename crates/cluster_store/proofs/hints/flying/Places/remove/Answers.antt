-- The segment is taken out of the set of the node.
use Rattle.std.proofs.Common.{◌≡◌, ◌<◌, List, length, set, subst, arith, ◌∙◌}
use Rattle.std.specs.FinSet as set_of
use Rattle.std.specs.Ordering.{nat_cmp}
use Rattle.cluster_store.specs.Hints.{IsWithout}
use Rattle.cluster_store.specs.declared.hints.flying.Flying.TheVariants.{To}
use Rattle.cluster_store.proofs.Flights.{sets_without}
use Rattle.cluster_store.proofs.hints.flying.Places.remove.Goals as goal

pub returns : goal.returns
returns c =
    let at : c.from.result ≡ c.args.node = c.from.ensures ∙ c.number.ensures in
    let within : c.from.result < length c.self.inside.sets = omega (arith, c.self.invariant, at, c.requires.node) in
    subst (λ (sets : List (set_of.FinSet nat_cmp)). IsWithout (To sets) c.args.node c.args.segment (To (set c.self.inside.sets c.from.result c.remove.new.self))) c.self.view_is
    (sets_without c.self.inside.sets c.from.result c.args.segment c.index-self-from.result within c.index-self-from.is c.args.node at c.remove.new.self c.remove.ensures)
