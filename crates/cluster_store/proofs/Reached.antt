-- Runs that lead to a state, and what they keep.
use Rattle.std.proofs.Common.{◌≡◌, Bool, true, false, ◌&&◌, List, [], ◌∷◌, ◌++◌, reverse, refl, ap, subst, ◌∙◌}
use Rattle.grid_event.specs.declared.config.Config.{Config}
use Rattle.grid_event.specs.declared.event.Event.{Event}
use Rattle.cluster_model.specs.Kept.{IsKept, KeepsParts}
use Rattle.cluster_model.specs.State.{Holding, State, first_holding, no_calls, start}
use Rattle.cluster_model.specs.Step.{allowed, changed, runs, state}
use Rattle.cluster_model.specs.Told.{Contents, contents_of}
use Rattle.cluster_laws.proofs.copies.ProviderSteps.{KeepsProviders, providers_kept}
use Rattle.cluster_laws.proofs.Runs.{always_kept}
use Rattle.cluster_store.specs.Insides.{IsReached, IsStore}
use Rattle.cluster_store.specs.declared.store.Store.TheInside.{Inside}

-- of two tests the second may be told from the first
joined : (a b c : Bool) → (a && b) ≡ true → (b ≡ true → c ≡ true) → (a && c) ≡ true
joined true b c h next = next h
joined false b c h next = h

-- an event that may happen behind others makes a longer run
pub runs-push : (st : State) (es : List Event) (e : Event) → runs st es ≡ true → allowed (state st es) e ≡ true → runs st (es ++ e ∷ []) ≡ true
runs-push st [] e r a = rw a refl
runs-push st (first ∷ es) e r a = joined (allowed st first) (runs (changed st first) es) (runs (changed st first) (es ++ e ∷ [])) r (λ rest. runs-push (changed st first) es e rest a)

-- the state after one event more is what that event makes of the state before
pub state-push : (st : State) (es : List Event) (e : Event) → state st (es ++ e ∷ []) ≡ changed (state st es) e
state-push st [] e = refl
state-push st (first ∷ es) e = state-push (changed st first) es e

-- the start is reached
pub start_reached : (config : Config) → IsReached config (first_holding config)
start_reached config = record { events = []; calling = no_calls config.segments; is_run = refl; reaches = refl }

-- an event that may happen leads on
pub reached_next : (config : Config) (holding later : Holding) (event : Event) (h : IsReached config holding) → allowed (record { holding = holding; calling = h.calling }) event ≡ true
    → (changed (record { holding = holding; calling = h.calling }) event).holding ≡ later → IsReached config later
reached_next config holding later event h may is = record {
  events = h.events ++ event ∷ [];
  calling = (changed (record { holding = holding; calling = h.calling }) event).calling;
  is_run = runs-push (start config) h.events event h.is_run (ap (λ (s : State). allowed s event) h.reaches ∙ may);
  reaches =
      state-push (start config) h.events event
      ∙ ap (λ (s : State). changed s event) h.reaches
      ∙ ap (λ (x : Holding). record { holding = x; calling = (changed (record { holding = holding; calling = h.calling }) event).calling }) is;
}

-- the parts that each event keeps stand in a store
pub store_parts : (fields : Inside) → IsStore fields → (m : Contents) × KeepsParts fields.config.segments fields.coord fields.copies.copying m
store_parts fields h =
    let past : List Event = reverse h.reached.events in
    (contents_of fields.config past, (subst (λ s. IsKept fields.config past s) h.reached.reaches (always_kept fields.config h.reached.events h.limits h.reached.is_run)).parts)

-- and each transfer is provided by a member that owns the segment as long as it lives
pub store_providers : (fields : Inside) → IsStore fields → KeepsProviders fields.coord fields.copies.copying.transfers
store_providers fields h =
    subst (λ (s : State). KeepsProviders s.holding.coord s.holding.copying.transfers) h.reached.reaches (providers_kept fields.config h.reached.events h.limits h.reached.is_run)
