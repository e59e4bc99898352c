use Rattle.std.proofs.Common.{◌≡◌, ◌∷◌, [], Some, cond, sym, ap, subst, ◌∙◌}
use Rattle.std.specs.FinMap as map
use Rattle.state_transfer.specs.Calls.{AreSound, marks_at, unmarks_at}
use Rattle.state_transfer.specs.Cells.{Destination}
use Rattle.state_transfer.specs.Changes.{changes}
use Rattle.state_transfer.specs.Copying.{Copying, Stores, Transfers, each_changed}
use Rattle.state_transfer.specs.Slots.{Holdings}
use Rattle.state_transfer.proofs.SoundLaws.{sound_marked}
use Rattle.state_transfer.proofs.WriteLaws.{changes_one, marks_taken_back}
use Rattle.state_transfer.proofs.copies.Copies.put_one.Goals as goal

pub invariant_of-self-in-Ok : goal.invariant_of-self-in-Ok
invariant_of-self-in-Ok c =
    let h = c.self.inside.holders in
    let at : Destination = record { receiver = c.args.node; segment = c.args.segment } in
    subst (λ (p : Holdings × Transfers). AreSound p.0.nodes p.0.clock p.1) (λ i. (sym c.in-Ok.ensures.ok i, sym c.in_ok-marked.ensures.ok i))
    (sound_marked h.nodes h.clock c.self.inside.transfers at c.args.key.now c.self.invariant)

pub invariant_of-self-in-Err : goal.invariant_of-self-in-Err
invariant_of-self-in-Err c =
    let ts = c.self.inside.transfers in
    let at : Destination = record { receiver = c.args.node; segment = c.args.segment } in
    let back : c.restore.new.self ≡ ts =
    c.restore.ensures ∙ ap (λ m. cond c.in_ok-marked.marked (each_changed (unmarks_at at c.args.key.now) m) m) c.in_ok-marked.ensures.ok
    ∙ marks_taken_back ts c.args.node c.args.segment c.args.key.now c.in_ok-marked.marked c.in_ok-marked.ensures.marked in
    subst (λ (p : Holdings × Transfers). AreSound p.0.nodes p.0.clock p.1) (λ i. (sym c.in-Err.ensures.err i, sym back i)) c.self.invariant

pub returns-in-Ok-clause-ok : goal.returns-in-Ok-clause-ok
returns-in-Ok-clause-ok c =
    let h = c.self.inside.holders in
    let ts = c.self.inside.transfers in
    let n = c.args.node in
    let s = c.args.segment in
    let k = c.args.key.now in
    let v = c.args.stamped.now in
    (λ i. let x : Holdings = c.in-Ok.ensures.ok i in record { nodes = x.nodes; copying = record { clock = x.clock; cells = x.cells; transfers = c.in_ok-marked.ensures.ok i } })
    ∙ (λ i. record {
      nodes = h.nodes;
      copying = record {
        clock = h.clock;
        cells = map.insert h.cells (record { node = n; segment = s; key = k }) (c.in_ok-put.ensures i);
        transfers = each_changed (marks_at (record { receiver = n; segment = s }) k) ts;
      };
    })
    ∙ ap (λ (x : Copying). record { nodes = h.nodes; copying = x }) (changes_one n s k (Some v) (record { clock = h.clock; cells = h.cells; transfers = ts }))
    ∙ ap (λ (x : Stores). record x { copying = changes (n ∷ []) s k (Some v) x.copying }) c.self.view_is

pub returns-in-Err-clause-err : goal.returns-in-Err-clause-err
returns-in-Err-clause-err c =
    let ts = c.self.inside.transfers in
    let at : Destination = record { receiver = c.args.node; segment = c.args.segment } in
    let back : c.restore.new.self ≡ ts =
    c.restore.ensures ∙ ap (λ m. cond c.in_ok-marked.marked (each_changed (unmarks_at at c.args.key.now) m) m) c.in_ok-marked.ensures.ok
    ∙ marks_taken_back ts c.args.node c.args.segment c.args.key.now c.in_ok-marked.marked c.in_ok-marked.ensures.marked in
    (λ i. let x : Holdings = c.in-Err.ensures.err i in record { nodes = x.nodes; copying = record { clock = x.clock; cells = x.cells; transfers = back i } })
    ∙ c.self.view_is
