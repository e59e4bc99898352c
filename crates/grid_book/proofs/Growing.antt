-- A book with one event more.
use Rattle.std.proofs.Common.{◌≡◌, true, List, [], ◌∷◌, ◌++◌, Option, None, Some, refl, sym, ap, ◌∙◌}
use Rattle.grid_event.specs.Histories.{History, Kept, with_event}
use Rattle.grid_event.specs.declared.config.Config.{Config}
use Rattle.grid_event.specs.declared.event.Event.{Event}
use Rattle.cluster_model.proofs.ChosenSteps.{chosen_may}
use Rattle.cluster_model.specs.Commands.{chosen}
use Rattle.cluster_model.specs.State.{State, start}
use Rattle.cluster_model.specs.Step.{allowed, changed, runs, state}
use Rattle.cluster_store.proofs.Reached.{runs-push, state-push}
use Rattle.grid_event.specs.declared.command.Command.{Command}
use Rattle.grid_book.specs.Booked.{changed_by, with_any}

-- what the type of a book keeps of a journal and a core
pub record Agrees (config : Config) (journal : Kept) (core : State) : Type 0 where
  pub history : journal.history ≡ record { config = Some config; events = journal.history.events; idle = [] }
  pub run : runs (start config) journal.history.events ≡ true
  pub cluster : core ≡ state (start config) journal.history.events

-- a journal that got an event that may happen, beside the core that did it
pub grown : (config : Config) (was is : Kept) (core next : State) (event : Event) → Agrees config was core → allowed core event ≡ true →
    next ≡ changed core event → is.history ≡ with_event was.history event → Agrees config is next
grown config was is core next event h may did told =
    let more : is.history.events ≡ was.history.events ++ event ∷ [] = ap (λ (past : History). past.events) told in
    record {
      history =
          told ∙ ap (λ (past : History). with_event past event) h.history
          ∙ sym (ap (λ (es : List Event). record { config = Some config; events = es; idle = [] }) more);
      run =
          ap (runs (start config)) more
          ∙ runs-push (start config) was.history.events event h.run (ap (λ (st : State). allowed st event) (sym h.cluster) ∙ may);
      cluster =
          did ∙ ap (λ (st : State). changed st event) h.cluster ∙ sym (state-push (start config) was.history.events event)
          ∙ sym (ap (state (start config)) more);
    }

-- the same journal beside the same core
same_ones : (config : Config) (was is : Kept) (core next : State) → Agrees config was core → next ≡ core → is.history ≡ was.history → Agrees config is next
same_ones config was is core next h did told =
    record {
      history = told ∙ h.history ∙ sym (ap (λ (past : History). record { config = Some config; events = past.events; idle = [] }) told);
      run = ap (λ (past : History). runs (start config) past.events) told ∙ h.run;
      cluster = did ∙ h.cluster ∙ sym (ap (λ (past : History). state (start config) past.events) told);
    }

-- and so with the event that a command chooses, where there is one
pub stepped : (config : Config) (was is : Kept) (core next : State) (command : Command) → Agrees config was core →
    next ≡ changed_by core (chosen core command) → is.history ≡ with_any was.history (chosen core command) → Agrees config is next
stepped config was is core next command h = by_found (chosen core command) refl
  where
    by_found : (found : Option Event) → chosen core command ≡ found → next ≡ changed_by core found → is.history ≡ with_any was.history found → Agrees config is next
    by_found None e did told = same_ones config was is core next h did told
    by_found (Some event) e did told = grown config was is core next event h (chosen_may core command event e) did told
