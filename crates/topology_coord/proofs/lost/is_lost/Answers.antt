use Rattle.std.proofs.Common.{◌≡◌, ℕ, ◌&&◌, not, true, false, sym, ap, ◌∙◌}
use Rattle.std.proofs.lemmas.Bool.{not-true, not-false}
use Rattle.std.specs.List.{filter, list_any}
use Rattle.topology_phase.specs.Owners.{among, is_ownerless}
use Rattle.topology_phase.specs.Topologies.{holders}
use Rattle.topology_coord.proofs.Living.{some_kept}
use Rattle.topology_coord.proofs.lost.is_lost.Goals as goal

pub returns-then-is_empty : goal.returns-then-is_empty
returns-then-is_empty c =
    let live = λ (n : ℕ). among n c.args.live.now in
    let left = λ (n : ℕ). among n c.args.left.now in
    let owners = holders c.args.topology.now c.args.segment in
    let told : c.is_empty.result ≡ not (list_any live owners) = c.is_empty.ensures ∙ ap is_ownerless (c.pruned.ensures ∙ ap (filter live) c.holders-holders.ensures) ∙ some_kept live owners in
    let none : list_any live owners ≡ false = not-true (list_any live owners) (sym told ∙ c.if-is_empty.true) in
    sym (ap (λ b. b && not (list_any left owners)) none)

pub returns : goal.returns
returns c =
    let live = λ (n : ℕ). among n c.args.live.now in
    let left = λ (n : ℕ). among n c.args.left.now in
    let owners = holders c.args.topology.now c.args.segment in
    let told : c.is_empty.result ≡ not (list_any live owners) = c.is_empty.ensures ∙ ap is_ownerless (c.pruned.ensures ∙ ap (filter live) c.holders-holders.ensures) ∙ some_kept live owners in
    let told_left : c.is_empty-2.result ≡ not (list_any left owners) = c.is_empty-2.ensures ∙ ap is_ownerless (c.pruned-2.ensures ∙ ap (filter left) c.holders-holders.ensures) ∙ some_kept left owners in
    let some : list_any live owners ≡ true = not-false (list_any live owners) (sym told ∙ c.if-is_empty.false) in
    told_left ∙ sym (ap (λ b. b && not (list_any left owners)) some)
