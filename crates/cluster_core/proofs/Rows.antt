-- A core becomes what an event makes of it.
use Rattle.std.proofs.Common.{◌≡◌, sym, ap, subst, ◌∙◌, true}
use Rattle.grid_event.specs.Configs.{is_config}
use Rattle.grid_event.specs.declared.config.Config.{Config}
use Rattle.grid_event.specs.declared.event.Event.{Event}
use Rattle.cluster_model.specs.State.{State}
use Rattle.cluster_model.specs.Step.{allowed, changed}
use Rattle.cluster_model.proofs.Frames.{others_stay}
use Rattle.cluster_core.specs.Runs.{IsReached}
use Rattle.cluster_core.proofs.Reached.{reached_next}
use Rattle.cluster_core.specs.Insides.{IsCore, state_of}
use Rattle.cluster_core.specs.declared.cluster.Core.TheInside.{Inside}

-- after an event that may happen the fields are those of a core
pub core_next : (fields later : Inside) (st : State) (event : Event) → IsCore fields → state_of fields ≡ st → allowed st event ≡ true
    → state_of later ≡ changed st event → later.calls.segments ≡ fields.calls.segments → IsCore later
core_next fields later st event h view may is segments =
    let config : later.store.config ≡ fields.store.config =
    ap (λ (s : State). s.holding.config) is ∙ others_stay.config st event ∙ sym (ap (λ (s : State). s.holding.config) view) in
    let before : IsReached fields.store.config st = subst (λ s. IsReached fields.store.config s) view h.reached in
    let after : IsReached fields.store.config (state_of later) = subst (λ s. IsReached fields.store.config s) (sym is) (reached_next fields.store.config st event before may) in
    record {
      limits = ap is_config config ∙ h.limits;
      segments = segments ∙ h.segments ∙ ap (λ (c : Config). c.segments) (sym config);
      reached = subst (λ settings. IsReached settings (state_of later)) (sym config) after;
    }
