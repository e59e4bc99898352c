use Rattle.std.proofs.Common.{◌≡◌, ◌<◌, ◌++◌, ℕ, false, not, nat_eq, take, length, get_or, arith, ap, sym, subst, ◌∙◌, length-append, List}
use Rattle.std.proofs.lemmas.Bool.{or_from, not_from_false}
use Rattle.std.proofs.lemmas.List.{take_all}
use Rattle.std.specs.List.{filter, IsDistinct}
use Rattle.topology_phase.specs.Owners.{among, joined}
use Rattle.topology_phase.proofs.OwnerLists.{among-append, absent_filtered, filter_longer}
use Rattle.topology_phase.proofs.owners.Owners.joined.Goals as goal

pub add-requires-clause-absent : goal.add-requires-clause-absent
add-requires-clause-absent c =
    let first = c.args.self.now in
    let items = c.nodes-number-items.result.now in
    let i = c.loop-number.number-index in
    let node : ℕ = c.new-node.result in
    let is : node ≡ get_or items i 0 = c.new-node.ensures in
    let distinct : IsDistinct nat_eq items = (let P : List ℕ → Type 0 = IsDistinct nat_eq in subst P (sym c.nodes-number-items.ensures.nodes) c.nodes-number-items.ensures.distinct) in
    let missing : among node first ≡ false = sym c.has.ensures ∙ c.if-not-has.true in
    ap (among node) c.loop-number.invariant
    ∙ among-append node first (filter (λ n. not (among n first)) (take i items))
    ∙ or_from (among node first) (among node (filter (λ n. not (among n first)) (take i items))) missing
    (ap (λ n. among n (filter (λ m. not (among m first)) (take i items))) is ∙ absent_filtered (λ n. not (among n first)) items i distinct c.loop-number-test.true)

pub add-requires-clause-room : goal.add-requires-clause-room
unfolding joined
add-requires-clause-room c =
    let first = c.args.self.now in
    let items = c.nodes-number-items.result.now in
    let i = c.loop-number.number-index in
    let p = λ (n : ℕ). not (among n first) in
    let missing : among (get_or items i 0) first ≡ false = ap (λ n. among n first) (sym c.new-node.ensures) ∙ sym c.has.ensures ∙ c.if-not-has.true in
    let longer : length (filter p (take i items)) < length (filter p items) = filter_longer p items i c.loop-number-test.true (not_from_false (among (get_or items i 0) first) missing) in
    let whole = ap (λ ys. length (first ++ filter p ys)) c.nodes-number-items.ensures.nodes in
    let here = ap length c.loop-number.invariant in
    omega (arith, longer, whole, here, c.requires, length-append first (filter p items), length-append first (filter p (take i items)))

pub returns : goal.returns
unfolding joined
returns c =
    let first = c.args.self.now in
    let items = c.nodes-number-items.result.now in
    c.loop-number.invariant
    ∙ ap (λ ys. first ++ filter (λ n. not (among n first)) ys) (take_all c.loop-number.number-index items c.loop-number-test.false ∙ c.nodes-number-items.ensures.nodes)
