use Rattle.std.proofs.Common.{◌≡◌, ◌-◌, ap, ◌∙◌, arith}
use Rattle.std.proofs.lemmas.Bool.Decides.{nat_tests}
use Rattle.std.specs.FinSet as set
use Rattle.std.specs.List.{range_with_len}
use Rattle.std.specs.Ordering.{nat_cmp}
use Rattle.grid_journal.proofs.FirstNodes.{members_below, more_nodes}
use Rattle.grid_journal.proofs.membership.first_nodes.Goals as goal

pub loop-number-init : goal.loop-number-init
loop-number-init c = λ q. ap (λ nodes. set.contains nodes q) c.new-made.ensures ∙ set.contains-empty nat_cmp q ∙ grind (arith, nat_tests)

pub loop-number-preserved : goal.loop-number-preserved
loop-number-preserved c = λ q. ap (λ nodes. set.contains nodes q) (c.add.ensures ∙ ap (set.insert c.loop-number.made) c.new.ensures) ∙ more_nodes c.loop-number.made c.loop-number.number c.loop-number.invariant q

pub returns : goal.returns
returns c =
    let last : c.loop-number.number ≡ c.args.nodes = omega arith in
    members_below c.loop-number.made c.loop-number.number (16 - c.loop-number.number) (omega arith) c.loop-number.invariant ∙ ap (range_with_len 0) last
