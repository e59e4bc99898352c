use Rattle.std.proofs.Common.{ap, ◌∙◌}
use Rattle.container_seg.specs.Scans.{next_chunk}
use Rattle.state_transfer.specs.Chunks.{chunk_of, sent_of}
use Rattle.state_transfer.specs.Copying.{Stores}
use Rattle.state_transfer.proofs.PartLaws.{parts_are}
use Rattle.state_transfer.proofs.copies.Copies.next_chunk.Goals as goal

pub returns-in_default-get-clause-chunk : goal.returns-in_default-get-clause-chunk
returns-in_default-get-clause-chunk c =
    let parts = parts_are c.self.inside.holders.cells c.in-Some.container.now.entries c.args.provider c.args.segment (c.in-Some.ensures.copies c.args.segment) in
    c.in_ok-scan_stamped.ensures.chunk
    ∙ (λ i. next_chunk (c.in-Some.ensures.node i) (ap sent_of c.in_default-get.ensures i) c.args.most (parts i))
    ∙ ap (λ (x : Stores). chunk_of x.copying c.args.receiver c.args.segment c.args.provider c.args.most) c.self.view_is

pub returns-clause-chunk : goal.returns-clause-chunk
returns-clause-chunk c =
    let parts = parts_are c.self.inside.holders.cells c.in-Some.container.now.entries c.args.provider c.args.segment (c.in-Some.ensures.copies c.args.segment) in
    c.in_ok-scan_stamped-2.ensures.chunk
    ∙ (λ i. next_chunk (c.in-Some.ensures.node i) ((c.sent.ensures ∙ ap sent_of c.in-Some-get.ensures) i) c.args.most (parts i))
    ∙ ap (λ (x : Stores). chunk_of x.copying c.args.receiver c.args.segment c.args.provider c.args.most) c.self.view_is
