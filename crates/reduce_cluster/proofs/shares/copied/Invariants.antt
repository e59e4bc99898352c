use Rattle.std.proofs.Common.{◌≡◌, take}
use Rattle.reduce_cluster.specs.Shares.{plain_shares}
use Rattle.reduce_cluster.proofs.shares.copied.Given as goal

abbrev pub invariant-loop-share : goal.invariant-loop-share
invariant-loop-share g l = plain_shares g.P.Part.plain l.copied.items ≡ plain_shares g.P.Part.plain (take l.share-index l.shares)
