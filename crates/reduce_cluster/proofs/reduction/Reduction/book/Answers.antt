use Rattle.std.proofs.Common.{◌<◌, ◌∙◌, ap, length, rules, Some, unwrap_or}
use Rattle.reduce_cluster.proofs.ShareLaws.{share_seen, share_replaced, share_kept, OnErr-all}
use Rattle.reduce_cluster.proofs.reduction.Reduction.book.Goals as goal

pub returns-in_err-put_behind-clause-err : goal.returns-in_err-put_behind-clause-err
returns-in_err-put_behind-clause-err g c =
    let inside : c.from-place.result < length c.self.inside.booked.items = search rules in
    OnErr-all c.from_residual.result
    (share_kept g.P.Part.plain c.self.inside.booked.items c.self.inside.complete.items c.args.self.now c.from-place.result c.index_mut.result.now c.put_behind.new.share
    c.self.view_is c.index_mut.ensures.value inside c.in_err-put_behind.ensures.err)

pub returns-clause-ok : goal.returns-clause-ok
returns-clause-ok g c =
    let inside : c.from-place.result < length c.self.inside.booked.items = search rules in
    let share = share_seen g.P.Part.plain c.self.inside.booked.items c.self.inside.complete.items c.args.self.now c.from-place.result c.args.segment c.index_mut.result.now
    c.self.view_is (c.from-place.ensures ∙ c.number.ensures) inside c.index_mut.ensures.value in
    share_replaced g.P.Part.plain c.self.inside.booked.items c.self.inside.complete.items c.args.self.now c.from-place.result c.args.segment c.put_behind.new.share _
    c.self.view_is (c.from-place.ensures ∙ c.number.ensures)
    (c.in_ok-put_behind.ensures.ok ∙ ap (λ s. Some (g.P.Part.joined (unwrap_or s g.P.Part.nothing) (g.P.Part.plain c.args.part))) share)
