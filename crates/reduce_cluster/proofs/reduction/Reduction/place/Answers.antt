use Rattle.std.proofs.Common.{◌∙◌, refl, Some}
use Rattle.reduce_cluster.proofs.ShareLaws.{share_replaced}
use Rattle.reduce_cluster.proofs.reduction.Reduction.place.Goals as goal

pub returns : goal.returns
returns g c =
    share_replaced g.P.Part.plain c.self.inside.booked.items c.self.inside.complete.items c.args.self.now c.from-place.result c.args.segment (Some c.args.joined) (g.P.Part.plain c.args.joined)
    c.self.view_is (c.from-place.ensures ∙ c.number.ensures) refl
