use Rattle.std.proofs.Common.{◌≡◌, ◌<◌, ℕ, nat_eq, take, length, get_or, true, arith, ap, sym, subst, ◌∙◌, List}
use Rattle.std.specs.List.{filter, IsDistinct}
use Rattle.topology_phase.specs.Owners.{among}
use Rattle.topology_phase.proofs.OwnerLists.{absent_filtered, filter_longer, filter_short}
use Rattle.topology_phase.proofs.owners.Owners.pruned.Goals as goal

pub add-requires-clause-absent : goal.add-requires-clause-absent
add-requires-clause-absent c =
    let items = c.nodes-number-items.result.now in
    let i = c.loop-number.number-index in
    let lives = λ (n : ℕ). among n c.args.live.now in
    let distinct : IsDistinct nat_eq items = (let P : List ℕ → Type 0 = IsDistinct nat_eq in subst P (sym c.nodes-number-items.ensures.nodes) c.nodes-number-items.ensures.distinct) in
    ap (among c.new-node.result) c.loop-number.invariant
    ∙ ap (λ n. among n (filter lives (take i items))) c.new-node.ensures
    ∙ absent_filtered lives items i distinct c.loop-number-test.true

pub add-requires-clause-room : goal.add-requires-clause-room
add-requires-clause-room c =
    let items = c.nodes-number-items.result.now in
    let i = c.loop-number.number-index in
    let lives = λ (n : ℕ). among n c.args.live.now in
    let passes : lives (get_or items i 0) ≡ true = ap lives (sym c.new-node.ensures) ∙ sym c.has.ensures ∙ c.if-has.true in
    let longer : length (filter lives (take i items)) < length (filter lives items) = filter_longer lives items i c.loop-number-test.true passes in
    omega (arith, longer, ap length c.loop-number.invariant, filter_short lives items, ap length c.nodes-number-items.ensures.nodes, c.nodes-number-items.ensures.few)
