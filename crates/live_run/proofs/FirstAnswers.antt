-- What is known of the calls of a run.
use Rattle.std.proofs.Common.{◌≡◌, ℕ, true, List, reverse, None, sym, ap, ◌∙◌}
use Rattle.std.proofs.lemmas.Bool.{eqb-true}
use Rattle.grid_event.specs.Configs.{is_config}
use Rattle.grid_event.specs.Spans.{answers, outcome_in}
use Rattle.grid_event.specs.declared.config.Config.{Config}
use Rattle.grid_event.specs.declared.event.Event.{Event}
use Rattle.grid_event.specs.declared.event.Event.TheVariants.{Answer}
use Rattle.cluster_laws.proofs.answers.AnswerRuns.{calls_told_by}
use Rattle.cluster_laws.proofs.units.CallRequests.{answer_facts}
use Rattle.cluster_model.specs.State.{start}
use Rattle.cluster_model.specs.Step.{allowed, runs, state}

-- an answer that may come is the first of its call
pub first_answer : (config : Config) (events : List Event) (event : Event) (call : ℕ) → is_config config ≡ true → runs (start config) events ≡ true →
    allowed (state (start config) events) event ≡ true → answers call event ≡ true → outcome_in (reverse events) call ≡ None
first_answer config events (Answer a) call good is may t =
    let one = answer_facts (state (start config) events) a may in
    let told = (calls_told_by config events good is).calls a.call one.0 one.1.there in
    ap (outcome_in (reverse events)) (sym (eqb-true a.call call t)) ∙ told.outcome ∙ one.1.unanswered
first_answer config events _ call good is may t = absurd (cc)
