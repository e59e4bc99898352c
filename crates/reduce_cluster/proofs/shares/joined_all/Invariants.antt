use Rattle.std.proofs.Common.{◌≡◌, true}
use Rattle.std.specs.List.{fold}
use Rattle.reduce_cluster.specs.Reduced.{all_fit}
use Rattle.reduce_cluster.proofs.ShareLaws.{parts_from}
use Rattle.reduce_cluster.proofs.shares.joined_all.Given as goal

-- the shares that are left fit what is joined so far, and joined behind it they give the outcome
abbrev pub invariant-loop-share : goal.invariant-loop-share
invariant-loop-share g l =
    record {
      fit : all_fit g.P.Part.fitting g.P.Part.joined (g.P.Part.plain l.all) (parts_from g.P.Part.plain l.share-index l.shares) ≡ true;
      joins : fold g.P.Part.joined (g.P.Part.plain l.all) (parts_from g.P.Part.plain l.share-index l.shares) ≡ fold g.P.Part.joined g.P.Part.nothing (parts_from g.P.Part.plain 0 l.shares);
    }
