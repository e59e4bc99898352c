use Rattle.std.proofs.Common.{◌≡◌, ◌<◌, None, is_some, length, sym, ap, arith, ◌∙◌}
use Rattle.std.specs.FinMap as map
use Rattle.std.specs.FinSet as set
use Rattle.container_seg.specs.Contents.{Contents}
use Rattle.state_transfer.specs.Slots.{Holdings, held, nodes_in, slot_at}
use Rattle.container_seg.proofs.Trees.{on_err}
use Rattle.state_transfer.proofs.SlotLaws as laws
use Rattle.state_transfer.proofs.holders.Holders.join.Goals as goal

pub returns-in_err-grow-clause-err : goal.returns-in_err-grow-clause-err
returns-in_err-grow-clause-err c =
    let slots = c.self.inside.slots.items in
    let more = c.grow.new.slots.items in
    on_err c.from_residual-in_err-grow.result
    ((λ i. record { nodes = laws.nodes_alike slots more c.in_err-grow.ensures.alike i; clock = c.self.inside.clock; cells = laws.held_alike slots more c.in_err-grow.ensures.alike i }) ∙ c.self.view_is)

pub returns-clause-ok : goal.returns-clause-ok
returns-clause-ok c =
    let slots = c.self.inside.slots.items in
    let more = c.grow.new.slots.items in
    let alike = c.in_ok-grow.ensures.alike in
    let at = c.from-at.ensures ∙ c.number.ensures in
    let joined : Contents = c.tick.new.self in
    let absent : slot_at more c.from-at.result ≡ None = laws.is_absent (slot_at more c.from-at.result)
    (ap is_some (alike c.from-at.result) ∙ ap (λ n. is_some (slot_at slots n)) at ∙ sym (laws.contains-nodes_in slots c.args.node) ∙ ap (λ (x : Holdings). set.contains x.nodes c.args.node) c.self.view_is ∙ c.requires) in
    let within : c.from-at.result < length more = omega (arith, c.in_ok-grow.ensures.ok) in
    let empty : joined.entries ≡ map.empty = laws.empty_joined _ _ _ joined c.in_ok-container.ensures.empty c.tick.ensures in
    (λ i. record {
      nodes = (ap nodes_in c.set_in.ensures ∙ laws.nodes_joined more c.from-at.result within joined ∙ (λ j. set.insert (laws.nodes_alike slots more alike j) (at j))) i;
      clock = c.self.inside.clock;
      cells = (ap held c.set_in.ensures ∙ laws.held_joined more c.from-at.result within joined empty absent ∙ laws.held_alike slots more alike) i;
    })
    ∙ ap (λ (x : Holdings). record { nodes = set.insert x.nodes c.args.node; clock = x.clock; cells = x.cells }) c.self.view_is
