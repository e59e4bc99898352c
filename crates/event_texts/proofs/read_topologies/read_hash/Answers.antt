use Rattle.std.proofs.Common.{[], ◌∷◌, ◌++◌, ap, ◌∙◌}
use Rattle.event_texts.proofs.Turns.{hash_missed, hash_read}
use Rattle.event_texts.proofs.read_topologies.read_hash.Goals as goal

pub returns : goal.returns
returns c =
    hash_missed _ _ _ _ _ c.read_more_rows.new.hash c.in-Err-read_more_rows.fault c.in_ok-rest.ensures c.in-Ok.ensures.read
    (c.in_ok-push.ensures.ok ∙ ap (λ h. h ++ c.in-Ok.read.0 ∷ []) c.new-hash.ensures) c.in-Err-read_more_rows.ensures

pub returns-in-Ok-read_more_rows : goal.returns-in-Ok-read_more_rows
returns-in-Ok-read_more_rows c =
    hash_read _ _ _ _ _ _ c.in_ok-rest.ensures c.in-Ok.ensures.read
    (c.in_ok-push.ensures.ok ∙ ap (λ h. h ++ c.in-Ok.read.0 ∷ []) c.new-hash.ensures) c.in-Ok-read_more_rows.ensures
