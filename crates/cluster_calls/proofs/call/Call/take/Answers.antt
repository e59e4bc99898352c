use Rattle.std.proofs.Common.{◌≡◌, ◌+◌, ◌++◌, List, ◌∙◌, subst, sym, ap, length}
use Rattle.cluster_calls.specs.Takings.{IsTaking, taken_in}
use Rattle.cluster_model.specs.State.{Call, Taken}
use Rattle.cluster_model.specs.Units.{further_items}
use Rattle.cluster_calls.proofs.CallLaws.{on_ok, taken_seen}
use Rattle.cluster_calls.proofs.FeedLaws.{more_followed}
use Rattle.cluster_calls.proofs.call.Call.take.Goals as goal

pub invariant_of-self-2 : goal.invariant_of-self-2
invariant_of-self-2 c =
    let list : c.append.new.self.list ≡ c.self.inside.taken.list ++ taken_in c.args.segment c.args.entries.now =
    on_ok c.append.result (sym c.is_err.ensures.value ∙ c.if-is_err.false) c.append.ensures.ok
    ∙ (λ i. c.reserve.ensures.list i ++ c.in_ok-more.ensures i) in
    let many = c.requires ∙ ap (λ (call : Call). length (further_items call c.args.entries.now)) (sym c.self.view_is) in
    subst (λ (taken : List Taken). IsTaking c.self.inside.request taken c.note_keys.new.seen (c.self.inside.given + c.args.given) c.self.inside.feed c.self.inside.fed c.self.inside.shown) (sym list)
    (record {
      keys = taken_seen c.self.inside.request c.self.inside.taken.list c.self.inside.seen c.note_keys.new.seen c.args.segment c.args.entries.now c.self.invariant.keys c.in_ok-note_keys.ensures.ok;
      items = more_followed c.self.inside.request.pipeline c.self.inside.taken.list c.self.inside.given c.self.inside.feed c.self.inside.fed c.self.inside.shown c.self.invariant.items c.args.segment c.args.entries.now c.args.given many;
    })
