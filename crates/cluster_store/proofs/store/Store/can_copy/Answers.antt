-- The chunk is the next one of the sender.
use Rattle.std.proofs.Common.{◌≡◌, ◌==◌, ◌&&◌, Bool, true, false, not, refl, ap, sym, ◌∙◌}
use Rattle.std.proofs.lemmas.Bool.{eqb-true}
use Rattle.cluster_laws.proofs.copies.Facts.{turned}
use Rattle.cluster_model.specs.Same.{same_chunk}
use Rattle.cluster_model.specs.Transfers.{is_provided, next_chunk_of}
use Rattle.cluster_store.proofs.SendingLaws.{can_copy-sender}
use Rattle.cluster_store.proofs.store.Store.can_copy.Goals as goal

pub returns-in_default : goal.returns-in_default
returns-in_default c =
    let st = c.args.self.now in
    let e = c.args.copy.now in
    ap (λ found. is_provided e.provider found && same_chunk e.batch (next_chunk_of st e.receiver e.segment e.provider)) c.in_default.ensures ∙ sym (can_copy-sender st e)

pub returns-then-ne : goal.returns-then-ne
returns-then-ne c =
    let st = c.args.self.now in
    let e = c.args.copy.now in
    let differ : (e.provider == c.in-Some.provider) ≡ false = turned (e.provider == c.in-Some.provider) (sym c.if-ne.ensures) in
    ap (λ b. b && same_chunk e.batch (next_chunk_of st e.receiver e.segment e.provider)) (sym differ)
    ∙ ap (λ found. is_provided e.provider found && same_chunk e.batch (next_chunk_of st e.receiver e.segment e.provider)) c.in-Some.ensures
    ∙ sym (can_copy-sender st e)

pub returns : goal.returns
returns c =
    let st = c.args.self.now in
    let e = c.args.copy.now in
    let same : (e.provider == c.in-Some.provider) ≡ true = passes (e.provider == c.in-Some.provider) (sym c.if-ne.ensures) in
    c.same_chunk.ensures
    ∙ ap (same_chunk e.batch) c.in_ok-next.ensures
    ∙ ap (λ node. same_chunk e.batch (next_chunk_of st e.receiver e.segment node)) (sym (eqb-true e.provider c.in-Some.provider same))
    ∙ ap (λ b. b && same_chunk e.batch (next_chunk_of st e.receiver e.segment e.provider)) (sym same)
    ∙ ap (λ found. is_provided e.provider found && same_chunk e.batch (next_chunk_of st e.receiver e.segment e.provider)) c.in-Some.ensures
    ∙ sym (can_copy-sender st e)
  where
    passes : (b : Bool) → not b ≡ false → b ≡ true
    passes true h = refl
    passes false h = absurd (cc)
