-- Every call of a run that serves a script is answered. A past lists events, the newest first.
use Rattle.std.proofs.Common.{◌≡◌, ℕ, true, List, reverse, Option, None, Some, is_some, refl, sym, ap, ◌∙◌}
use Rattle.std.specs.Option.{option_map}
use Rattle.grid_event.specs.Histories.{History}
use Rattle.grid_event.specs.Spans.{invoke_of, outcome_in}
use Rattle.grid_event.specs.declared.call_events.InvokeEvent.{InvokeEvent}
use Rattle.grid_event.specs.declared.config.Config.{Config}
use Rattle.grid_event.specs.declared.event.Event.{Event}
use Rattle.grid_event.specs.declared.request.Request.{Request}
use Rattle.grid_script.specs.Scripts.{Lives}
use Rattle.cluster_laws.specs.Laws.{is_settled}
use Rattle.cluster_model.specs.State.{start}
use Rattle.cluster_model.specs.Step.{state}
use Rattle.step_run.specs.Finished.{IsFinished}
use Rattle.live_run.specs.Serving.{IsServed, deeds_by}
use Rattle.live_run.proofs.Going.{made_deed}
use Rattle.live_run.proofs.Turning.{one_passes}

-- a run that serves a script has answered each call that was made, and has settled the topology
pub served_finished : (script : Lives) (history : History) → IsServed script history → IsFinished history
served_finished script history h = record {
  answered = λ call request asked. by_made call request (invoke_of past call) refl asked;
  settled = λ config is.
      let same : script.config ≡ config = (let s = h.settings in cc) in
      ap (λ (c : Config). is_settled (state (start c) history.events)) (sym same) ∙ h.settled;
}
  where
    past : List Event
    past = reverse history.events

    by_made : (call : ℕ) (request : Request) (found : Option InvokeEvent) → invoke_of past call ≡ found →
        option_map (λ (i : InvokeEvent). i.request) found ≡ Some request → is_some (outcome_in past call) ≡ true
    by_made call request None e asked = absurd (cc)
    by_made call request (Some invoke) e asked =
        let it = made_deed past call invoke e in
        one_passes (λ c. is_some (outcome_in past c)) (deeds_by invoke.by past) it.place call invoke.request (h.answered invoke.by) it.done
