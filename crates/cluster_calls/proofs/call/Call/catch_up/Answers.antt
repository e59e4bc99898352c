use Rattle.std.proofs.Common.{◌≡◌, ◌++◌, List, [], drop, ◌∙◌, ap, sym}
use Rattle.cluster_calls.specs.Takings.{entries_in}
use Rattle.cluster_model.specs.State.{Taken}
use Rattle.cluster_calls.proofs.CallLaws.{on_ok}
use Rattle.cluster_calls.proofs.FeedLaws.{all_followed, rest_is}
use Rattle.cluster_calls.proofs.call.Call.catch_up.Goals as goal

pub invariant_of-self-2 : goal.invariant_of-self-2
invariant_of-self-2 c =
    let it = c.self.inside in
    let rest : c.as_slice-2.result.now ≡ entries_in (drop it.fed it.taken.list) ++ [] =
    c.as_slice-2.ensures ∙ c.in-Ok.ensures ∙ ap (λ (taken : List Taken). entries_in taken ++ []) (rest_is it.fed it.taken.list c.as_slice.result.now c.as_slice.ensures) in
    record {
      keys = c.self.invariant.keys;
      items =
          all_followed it.request.pipeline it.taken.list it.given it.feed it.fed it.shown c.self.invariant.items c.as_slice-2.result.now c.feed.new.self c.len-self-inside.result rest c.len-self-inside.ensures
          (on_ok c.feed.result (sym c.is_err.ensures.value ∙ c.if-is_err.false) c.feed.ensures.ok);
    }
