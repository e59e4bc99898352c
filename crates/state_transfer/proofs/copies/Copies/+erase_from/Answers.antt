use Rattle.std.proofs.Common.{◌≡◌, ◌≤◌, ◌+◌, None, cond, drop, filter, length, true, sym, ap, subst, arith, ◌∙◌}
use Rattle.std.specs.FinMap as map
use Rattle.std.specs.FinSet as set
use Rattle.state_transfer.specs.Calls.{AreSound, marks_at, unmarks_at}
use Rattle.state_transfer.specs.Cells.{Destination}
use Rattle.state_transfer.specs.Changes.{changes}
use Rattle.state_transfer.specs.Copying.{Copying, Stores, each_changed}
use Rattle.state_transfer.specs.Slots.{Holdings}
use Rattle.state_transfer.proofs.SoundLaws.{sound_marked, sound_restored}
use Rattle.state_transfer.proofs.WriteLaws as laws
use Rattle.state_transfer.proofs.copies.Copies.+erase_from.Goals as goal

pub returns-then-from-len-clause-ok : goal.returns-then-from-len-clause-ok
returns-then-from-len-clause-ok t c =
    let self = c.args.self.now in
    let past : length c.args.owners.now ≤ c.args.from = omega (arith, c.len.ensures.len, c.if-from-len.true) in
    let none = laws.listed_none (set.contains self.nodes) c.args.from c.args.owners.now past in
    λ i. record {
      nodes = self.nodes;
      copying = (laws.changes_none c.args.segment c.args.key.now None self.copying ∙ ap (λ ns. changes ns c.args.segment c.args.key.now None self.copying) none) i;
    }

pub returns-in_default-clause-ok : goal.returns-in_default-clause-ok
returns-in_default-clause-ok t c =
    let self = c.args.self.now in
    let past : length c.args.owners.now ≤ c.args.from = laws.none_past c.args.owners.now c.args.from c.in_default.ensures in
    let none = laws.listed_none (set.contains self.nodes) c.args.from c.args.owners.now past in
    λ i. record {
      nodes = self.nodes;
      copying = (laws.changes_none c.args.segment c.args.key.now None self.copying ∙ ap (λ ns. changes ns c.args.segment c.args.key.now None self.copying) none) i;
    }

pub invariant_of-self-2 : goal.invariant_of-self-2
invariant_of-self-2 t c =
    let h = c.self.inside.holders in
    let at : Destination = record { receiver = c.in-Some.node; segment = c.args.segment } in
    subst (AreSound h.nodes h.clock) (sym c.in_ok-marked.ensures.ok) (sound_marked h.nodes h.clock c.self.inside.transfers at c.args.key.now c.self.invariant)

pub invariant_of-self-in-Err : goal.invariant_of-self-in-Err
invariant_of-self-in-Err t c =
    let h = c.self-2.inside.holders in
    let at : Destination = record { receiver = c.in-Some.node; segment = c.args.segment } in
    subst (AreSound h.nodes h.clock) (sym c.restore.ensures) (sound_restored h.nodes h.clock c.self-2.inside.transfers at c.args.key.now c.in_ok-marked.marked c.self-2.invariant)

pub returns-in-Ok-clause-ok : goal.returns-in-Ok-clause-ok
returns-in-Ok-clause-ok t c =
    let h = c.self.inside.holders in
    let more = c.self-2.inside.holders in
    let n = c.in-Some.node in
    let s = c.args.segment in
    let k = c.args.key.now in
    let at : Destination = record { receiver = n; segment = s } in
    let first : Copying = record { clock = h.clock; cells = h.cells; transfers = c.self.inside.transfers } in
    let marked : Copying = record first { transfers = each_changed (marks_at at k) first.transfers } in
    let there : set.contains h.nodes n ≡ true = sym c.has.ensures ∙ c.if-not-has.false in
    let others = filter (set.contains h.nodes) (drop (c.args.from + 1) c.args.owners.now) in
    let rest : ◌≡◌ {A = Stores} (record { nodes = more.nodes; copying = record { clock = more.clock; cells = more.cells; transfers = c.self-2.inside.transfers } }) (record { nodes = h.nodes; copying = changes others s k None marked }) =
    c.self-2.view_is ∙ c.in-Ok.ensures.ok
    ∙ (λ i. record { nodes = h.nodes; copying = changes others s k None (record first { transfers = c.in_ok-marked.ensures.ok i }) }) in
    (λ i. record {
      nodes = (ap (λ (x : Holdings). x.nodes) c.remove.ensures) i;
      copying = record { clock = (ap (λ (x : Holdings). x.clock) c.remove.ensures) i; cells = (ap (λ (x : Holdings). x.cells) c.remove.ensures) i; transfers = c.self-2.inside.transfers };
    })
    ∙ ap (λ (x : Stores). record x { copying = record x.copying { cells = map.remove x.copying.cells (record { node = n; segment = s; key = k }) } }) rest
    ∙ (λ i. record {
      nodes = h.nodes;
      copying =
          (laws.erased_more n others s k first
          ∙ ap (λ ns. changes ns s k None first) (laws.listed_there (set.contains h.nodes) c.args.from c.args.owners.now n c.in-Some.ensures there)) i;
    })
    ∙ ap (λ (x : Stores). record x { copying = changes (filter (set.contains x.nodes) (drop c.args.from c.args.owners.now)) s k None x.copying }) c.self.view_is

pub returns-in-Err-clause-err : goal.returns-in-Err-clause-err
returns-in-Err-clause-err t c =
    let h = c.self.inside.holders in
    let more = c.self-2.inside.holders in
    let n = c.in-Some.node in
    let s = c.args.segment in
    let k = c.args.key.now in
    let ts = c.self.inside.transfers in
    let at : Destination = record { receiver = n; segment = s } in
    let m = c.in_ok-marked.marked in
    (λ i. record { nodes = more.nodes; copying = record { clock = more.clock; cells = more.cells; transfers = c.restore.ensures i } })
    ∙ ap (λ (x : Stores). record x { copying = record x.copying { transfers = cond m (each_changed (unmarks_at at k) x.copying.transfers) x.copying.transfers } }) (c.self-2.view_is ∙ c.in-Err.ensures.err)
    ∙ (λ i. record {
      nodes = h.nodes;
      copying = record {
        clock = h.clock;
        cells = h.cells;
        transfers = (ap (λ x. cond m (each_changed (unmarks_at at k) x) x) c.in_ok-marked.ensures.ok ∙ laws.marks_taken_back ts n s k m c.in_ok-marked.ensures.marked) i;
      };
    })
    ∙ c.self.view_is
