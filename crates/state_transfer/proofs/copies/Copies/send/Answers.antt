use Rattle.std.proofs.Common.{◌≡◌, ◌==◌, ◌&&◌, ◌||◌, not, is_some, sym, ap, subst, ◌∙◌}
use Rattle.std.specs.FinMap as map
use Rattle.std.specs.FinSet as set
use Rattle.state_transfer.specs.Calls.{AreSound, are_lasting}
use Rattle.state_transfer.specs.Cells.{Destination}
use Rattle.state_transfer.specs.Chunks.{begun, sends, with_chunk}
use Rattle.state_transfer.specs.Copying.{Stores, Transfers}
use Rattle.state_transfer.specs.Slots.{Holdings}
use Rattle.state_transfer.proofs.SlotLaws.{some_lent}
use Rattle.state_transfer.proofs.SoundLaws.{sound_sent}
use Rattle.state_transfer.proofs.copies.Copies.send.Goals as goal

pub invariant_of-self-2 : goal.invariant_of-self-2
invariant_of-self-2 c =
    let h = c.self.inside.holders in
    let ts = c.self.inside.transfers in
    let at : Destination = record { receiver = c.args.receiver; segment = c.args.segment } in
    subst (λ (p : Holdings × Transfers). AreSound p.0.nodes p.0.clock p.1) (λ i. (sym c.drop_unless.ensures i, sym c.in_ok-send.ensures.ok i))
    (sound_sent h.nodes h.clock ts at (begun (map.get ts at) c.args.provider) c.args.chunk
    (ap (λ (x : Stores). set.contains x.nodes c.args.receiver) c.self.view_is ∙ c.requires.there)
    (ap (λ (x : Stores). are_lasting x.copying.clock c.args.chunk.entries) c.self.view_is ∙ c.requires.lasting)
    c.self.invariant)

pub returns-clause-ok : goal.returns-clause-ok
unfolding sends
returns-clause-ok c =
    let h = c.self.inside.holders in
    let ts = c.self.inside.transfers in
    let at : Destination = record { receiver = c.args.receiver; segment = c.args.segment } in
    let kept : c.is_some-kept.result ≡ is_some (map.get ts at) = c.is_some-kept.ensures ∙ some_lent c.get.result ∙ ap is_some c.get.ensures in
    (λ i. let x : Holdings = c.drop_unless.ensures i in record { nodes = x.nodes; copying = record { clock = x.clock; cells = x.cells; transfers = c.in_ok-send.ensures.ok i } })
    ∙ (λ i. record {
      nodes = h.nodes;
      copying = record {
        clock = h.clock;
        cells = map.retain_keys h.cells (λ cell. kept i || not ((cell.node == c.args.receiver) && (cell.segment == c.args.segment)));
        transfers = map.insert ts at (with_chunk c.args.chunk (begun (map.get ts at) c.args.provider));
      };
    })
    ∙ ap (λ (x : Stores). record x { copying = sends c.args.receiver c.args.segment c.args.provider c.args.chunk x.copying }) c.self.view_is
