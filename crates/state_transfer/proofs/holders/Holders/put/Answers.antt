use Rattle.std.proofs.Common.{◌≡◌, ◌<◌, is_some, length, sym, ap, arith, subst, ◌∙◌}
use Rattle.std.proofs.lemmas.Result.{IfOk-weaker}
use Rattle.std.specs.FinMap as map
use Rattle.std.specs.FinSet as set
use Rattle.container_seg.specs.Contents.{place}
use Rattle.container_seg.specs.Lifespans.{left}
use Rattle.state_transfer.specs.Copying.{copy_at}
use Rattle.state_transfer.specs.Slots.{AreKept, Holdings, entries_in, held, nodes_in, slot_at}
use Rattle.state_transfer.proofs.SlotLaws as laws
use Rattle.state_transfer.proofs.holders.Holders.put.Goals as goal

pub put_in-requires-clause-there : goal.put_in-requires-clause-there
put_in-requires-clause-there c =
    let slots = c.self.inside.slots.items in
    ap (λ n. is_some (slot_at slots n)) (c.from-at.ensures ∙ c.number.ensures)
    ∙ sym (laws.contains-nodes_in slots c.args.node)
    ∙ ap (λ (x : Holdings). set.contains x.nodes c.args.node) c.self.view_is
    ∙ c.requires.there

pub put_in-requires-clause-here : goal.put_in-requires-clause-here
put_in-requires-clause-here c =
    let slots = c.self.inside.slots.items in
    let within : c.from-at.result < length slots = laws.slot_within slots c.from-at.result
    (ap (λ n. is_some (slot_at slots n)) (c.from-at.ensures ∙ c.number.ensures)
    ∙ sym (laws.contains-nodes_in slots c.args.node)
    ∙ ap (λ (x : Holdings). set.contains x.nodes c.args.node) c.self.view_is
    ∙ c.requires.there) in
    omega (arith, within)

pub invariant_of-self : goal.invariant_of-self
invariant_of-self c =
    let slots = c.self.inside.slots.items in
    let within : c.from-at.result < length slots = laws.slot_within slots c.from-at.result
    (ap (λ n. is_some (slot_at slots n)) (c.from-at.ensures ∙ c.number.ensures) ∙ sym (laws.contains-nodes_in slots c.args.node) ∙ ap (λ (x : Holdings). set.contains x.nodes c.args.node) c.self.view_is ∙ c.requires.there) in
    laws.both_ways (AreKept c.self.inside.clock c.put_in.new.slots.items) c.put_in.result c.put_in.ensures.ok c.put_in.ensures.err
    (λ is. subst (AreKept c.self.inside.clock) (sym is) (laws.kept_entries slots c.from-at.result within c.self.inside.clock _ c.self.invariant))
    (λ is. subst (AreKept c.self.inside.clock) (sym is) c.self.invariant)

pub returns-clause-before : goal.returns-clause-before
returns-clause-before c =
    let slots = c.self.inside.slots.items in
    IfOk-weaker c.put_in.result (λ before. before ≡ map.get (entries_in (slot_at slots c.from-at.result)) (place c.args.segment c.args.key)) _
    (λ before is.
    is
    ∙ ap (λ n. map.get (entries_in (slot_at slots n)) (place c.args.segment c.args.key)) (c.from-at.ensures ∙ c.number.ensures)
    ∙ sym (laws.copy-held slots c.args.node c.args.segment c.args.key)
    ∙ ap (λ (x : Holdings). copy_at x.cells c.args.node c.args.segment c.args.key) c.self.view_is)
    c.put_in.ensures.before

pub returns-clause-lasting : goal.returns-clause-lasting
returns-clause-lasting c =
    let slots = c.self.inside.slots.items in
    let there = laws.there_is (slot_at slots c.from-at.result)
    (ap (λ n. is_some (slot_at slots n)) (c.from-at.ensures ∙ c.number.ensures) ∙ sym (laws.contains-nodes_in slots c.args.node) ∙ ap (λ (x : Holdings). set.contains x.nodes c.args.node) c.self.view_is ∙ c.requires.there) in
    let clock = (c.self.invariant c.from-at.result there.0 there.1).1 ∙ ap (λ (x : Holdings). x.clock) c.self.view_is in
    IfOk-weaker c.put_in.result _ _ (λ before lasts. ap (λ n. left n before) (sym clock) ∙ lasts there.0 there.1) c.put_in.ensures.lasting

pub returns-clause-ok : goal.returns-clause-ok
returns-clause-ok c =
    let slots = c.self.inside.slots.items in
    let at = c.from-at.ensures ∙ c.number.ensures in
    let there = ap (λ n. is_some (slot_at slots n)) at ∙ sym (laws.contains-nodes_in slots c.args.node) ∙ ap (λ (x : Holdings). set.contains x.nodes c.args.node) c.self.view_is ∙ c.requires.there in
    let within : c.from-at.result < length slots = laws.slot_within slots c.from-at.result there in
    laws.on_ok_weaker c.put_in.result
    (λ is.
    (λ i. record {
      nodes = (ap nodes_in is ∙ laws.nodes_kept slots c.from-at.result within _) i;
      clock = c.self.inside.clock;
      cells =
          (ap held is
          ∙ laws.held_insert slots c.from-at.result within c.args.segment c.args.key c.args.stamped there
          ∙ ap (λ n. map.insert (held slots) (record { node = n; segment = c.args.segment; key = c.args.key }) c.args.stamped) at) i;
    })
    ∙ ap (λ (x : Holdings). record { nodes = x.nodes; clock = x.clock; cells = map.insert x.cells (record { node = c.args.node; segment = c.args.segment; key = c.args.key }) c.args.stamped }) c.self.view_is)
    c.put_in.ensures.ok

pub returns-clause-absent : goal.returns-clause-absent
returns-clause-absent c =
    let slots = c.self.inside.slots.items in
    laws.on_err_weaker c.put_in.result
    (λ none.
    ap (λ (x : Holdings). copy_at x.cells c.args.node c.args.segment c.args.key) (sym c.self.view_is)
    ∙ laws.copy-held slots c.args.node c.args.segment c.args.key
    ∙ ap (λ n. map.get (entries_in (slot_at slots n)) (place c.args.segment c.args.key)) (sym (c.from-at.ensures ∙ c.number.ensures))
    ∙ none)
    c.put_in.ensures.absent
