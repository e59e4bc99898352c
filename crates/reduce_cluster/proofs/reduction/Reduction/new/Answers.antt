use Rattle.std.proofs.Common.{◌∙◌, ap, false, None, replicate}
use Rattle.reduce_cluster.specs.Shares.{plain_shares}
use Rattle.reduce_cluster.proofs.ShareLaws.{none_seen}
use Rattle.reduce_cluster.proofs.reduction.Reduction.new.Goals as goal

pub returns : goal.returns
returns g c =
    (λ i. record { booked = plain_shares g.P.Part.plain (c.in_ok-booked.ensures i); complete = c.in_ok-complete.ensures i })
    ∙ ap (λ booked. record { booked = booked; complete = replicate c.from-2.result false }) (none_seen g.P.Part.plain c.from.result)
    ∙ (λ i. record { booked = replicate (c.from.ensures i) None; complete = replicate (c.from-2.ensures i) false })
