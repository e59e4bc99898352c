-- Where a call is answered its outcome is right, and what an unanswered walk gave so far is right.
use Rattle.std.proofs.Common.{◌≡◌, ℕ, ◌≤◌, ◌==◌, Bool, true, false, not, ◌&&◌, if◌then◌else◌, List, ◌∷◌, Option, None, Some, is_none, unwrap_or, refl, sym, ap, subst, ◌∙◌, arith}
use Rattle.delivery_mode.specs.declared.guarantee.Guarantee.{Guarantee}
use Rattle.delivery_mode.specs.declared.guarantee.Guarantee.TheVariants.{Exact, AtLeast, AtMost}
use Rattle.delivery_mode.specs.Guarantee.{asks_again}
use Rattle.grid_base.specs.declared.entry.Entry.{Entry}
use Rattle.grid_base.specs.declared.item.Item.{Item}
use Rattle.grid_event.specs.Configs.{is_config}
use Rattle.grid_event.specs.Spans.{outcome_in, span_end}
use Rattle.grid_event.specs.declared.call_events.AnswerEvent.{AnswerEvent}
use Rattle.grid_event.specs.declared.config.Config.{Config}
use Rattle.grid_event.specs.declared.event.Event.{Event}
use Rattle.grid_event.specs.declared.event.Event.TheVariants.{Answer}
use Rattle.grid_event.specs.declared.outcome.Outcome.{Outcome}
use Rattle.grid_event.specs.declared.outcome.Outcome.TheVariants as outcomes
use Rattle.grid_event.specs.declared.request.Request.{Request}
use Rattle.pipeline_eval.specs.Pipes.{end_answer, pipe, pipe_items}
use Rattle.pipeline_expr.specs.declared.answer.Answer.TheVariants as values
use Rattle.pipeline_expr.specs.declared.end.End.{End}
use Rattle.pipeline_expr.specs.declared.end.End.TheVariants as ends
use Rattle.suspect_retry.specs.Rounds.{granted_rounds}
use Rattle.topology_coord.specs.Coordination.{lives}
use Rattle.cluster_model.specs.Answers.{evidence_of, first_of, given_up, is_whole, outcome_by, outcome_of, whole_outcome}
use Rattle.cluster_model.specs.Calls.{granted, has_open, incomplete}
use Rattle.cluster_model.specs.Evidence.{Held, StoodOnce, evidence, given_in, request_of, taken_in, times}
use Rattle.cluster_model.specs.Rightness.{IsRightSoFar, RightOutcome, may_repeat}
use Rattle.cluster_model.specs.State.{Call, State, is_each, is_exact, is_walk}
use Rattle.cluster_laws.proofs.answers.AnswerEvidence.{reduction_told, walk_told}
use Rattle.cluster_laws.proofs.answers.AnswerFacts.{EvidenceKnown, evidence_known, keeps_right, walk_known}
use Rattle.cluster_laws.proofs.answers.AnswerStays.{open_goes_on}
use Rattle.cluster_laws.proofs.units.CallLinks.{request_told}
use Rattle.cluster_laws.proofs.units.CallRequests.{CanAnswer}
use Rattle.cluster_laws.proofs.Lists.{each_imply}
use Rattle.cluster_laws.proofs.copies.Starts.{good_config}
use Rattle.cluster_laws.proofs.answers.AnswerKept.{AllKept, end_told, known_units}

-- an outcome claims something of what was read where it is a value, or where a walk ends
abbrev claims : Outcome → Bool
claims (outcomes.Value answer) = true
claims outcomes.Ended = true
claims _ = false

-- an outcome that claims something is that of a call that is whole
claims_whole : (st : State) (number : ℕ) (call : Call) (outcome : Outcome) → outcome_of st number call ≡ Some outcome → claims outcome ≡ true → (is_whole st.calling number call ≡ true) × (whole_outcome st.calling number call ≡ outcome)
unfolding outcome_of
claims_whole st number call outcome is c = by_live (not (lives st.holding.coord call.originator)) _ is
  where
    by_given : (b : Bool) (suspect : ℕ) → (if b then Some (outcomes.Again call.rounds suspect) else None) ≡ Some outcome → ⊥
    by_given true suspect e = let f : claims outcome ≡ false = sym (ap (λ o. claims (unwrap_or o outcome)) e) in absurd (cc)
    by_given false suspect e = absurd (cc)

    by_suspect : (o : Option ℕ) → given_up st.calling number call o ≡ Some outcome → ⊥
    by_suspect None e = absurd (cc)
    by_suspect (Some suspect) e = by_given (asks_again call.request.guarantee && ((call.rounds == granted call) && not (has_open st.calling number))) suspect e

    by_whole : (b : Bool) → is_whole st.calling number call ≡ b → (if b then Some (whole_outcome st.calling number call) else given_up st.calling number call (first_of (incomplete st.calling number))) ≡ Some outcome →
        (is_whole st.calling number call ≡ true) × (whole_outcome st.calling number call ≡ outcome)
    by_whole true w e = (w, ap (λ o. unwrap_or o outcome) e)
    by_whole false w e = absurd (by_suspect (first_of (incomplete st.calling number)) e)

    by_lost : (o : Option ℕ) → outcome_by st.calling number call o ≡ Some outcome → (is_whole st.calling number call ≡ true) × (whole_outcome st.calling number call ≡ outcome)
    by_lost (Some segment) e = let f : claims outcome ≡ false = sym (ap (λ o. claims (unwrap_or o outcome)) e) in absurd (cc)
    by_lost None e = by_whole (is_whole st.calling number call) refl e

    by_live : (b : Bool) (lost : Option ℕ) → (if b then Some outcomes.OriginatorLeft else outcome_by st.calling number call lost) ≡ Some outcome → (is_whole st.calling number call ≡ true) × (whole_outcome st.calling number call ≡ outcome)
    by_live true lost e = let f : claims outcome ≡ false = sym (ap (λ o. claims (unwrap_or o outcome)) e) in absurd (cc)
    by_live false lost e = by_lost lost e

-- a walk's answer is the list of its items
walk_answer : (e : End) (items : List Item) → is_each e ≡ true → values.List items ≡ end_answer e items
walk_answer ends.Count items h = absurd (cc)
walk_answer ends.Sum items h = absurd (cc)
walk_answer ends.Min items h = absurd (cc)
walk_answer ends.Max items h = absurd (cc)
walk_answer ends.Collect items h = absurd (cc)
walk_answer ends.Each items h = refl

-- where a call is answered its outcome is right
pub answer_right : (config : Config) (past : List Event) (st : State) (a : AnswerEvent) (call : Call) → is_config config ≡ true → AllKept config past st → CanAnswer st a call → RightOutcome config (Answer a ∷ past) a.call call.request a.outcome
unfolding evidence
answer_right config past st a call good h can = by_outcome a.outcome refl
  where
    known : EvidenceKnown config past st.calling.units a.call call.request (evidence config past a.call)
    known = evidence_known config past st a.call call h.kept.told.segments h.links h.numbers (known_units config past st h) h.walks can.there

    asked : request_of past a.call ≡ Some call.request
    asked = request_told past st a.call call h.links.calls can.there

    by_outcome : (outcome : Outcome) → a.outcome ≡ outcome → RightOutcome config (Answer a ∷ past) a.call call.request outcome
    by_outcome (outcomes.Value answer) e =
        let w = claims_whole st a.call call (outcomes.Value answer) (can.outcome ∙ ap (λ o. Some o) e) refl in
        record {
          plain = value_is (is_walk call.request) refl w.1;
          keeps = keeps_right config past st a call (good_config config good).segments h.kept.told.segments h.links (end_told config past st h) h.keys (h.granted a.call call.request asked) w.0 known;
        }
      where
        value_is : (b : Bool) → is_walk call.request ≡ b → (if b then outcomes.Ended else outcomes.Value (pipe call.request.pipeline (evidence_of st.calling a.call call))) ≡ outcomes.Value answer → answer ≡ pipe call.request.pipeline (evidence config past a.call)
        value_is true f x = absurd (cc)
        value_is false f x =
            let same : pipe call.request.pipeline (evidence_of st.calling a.call call) ≡ answer = cc in
            sym same ∙ ap (pipe call.request.pipeline) (sym (reduction_told config past st a.call call h.kept.told.segments h.links (known_units config past st h) can.there f))
    by_outcome outcomes.Ended e =
        let w = claims_whole st a.call call outcomes.Ended (can.outcome ∙ ap (λ o. Some o) e) refl in
        record {
          plain = list_is (is_walk call.request) refl w.1;
          keeps = keeps_right config past st a call (good_config config good).segments h.kept.told.segments h.links (end_told config past st h) h.keys (h.granted a.call call.request asked) w.0 known;
        }
      where
        list_is : (b : Bool) → is_walk call.request ≡ b → (if b then outcomes.Ended else outcomes.Value (pipe call.request.pipeline (evidence_of st.calling a.call call))) ≡ outcomes.Ended →
            values.List (given_in past a.call) ≡ pipe call.request.pipeline (evidence config past a.call)
        list_is false f x = absurd (cc)
        list_is true f x =
            ap (λ items. values.List items) (h.walks.plain a.call call.request asked)
            ∙ walk_answer call.request.pipeline.end (pipe_items call.request.pipeline (taken_in past a.call)) f
            ∙ ap (pipe call.request.pipeline) (sym (walk_told config past st a.call call h.links can.there f))
    by_outcome (outcomes.Again rounds suspect) e = tt
    by_outcome (outcomes.SegmentLost segment) e = tt
    by_outcome outcomes.OriginatorLeft e = tt

-- what an unanswered walk gave so far is right
pub so_far : (config : Config) (past : List Event) (st : State) (call : ℕ) (request : Request) → AllKept config past st → request_of past call ≡ Some request → is_walk request ≡ true → is_none (outcome_in past call) ≡ true → IsRightSoFar config past call request
so_far config past st call request h asked form unanswered = record {
  plain = ap (λ items. values.List items) (h.walks.plain call request asked) ∙ walk_answer request.pipeline.end (pipe_items request.pipeline (taken_in past call)) form;
  held = each_imply (λ (e : Entry). StoodOnce config past call e.key e.value) (λ (e : Entry). Held config past call e.key e.value) (λ e s. subst (λ span. StoodOnce config span call e.key e.value) (sym span) s) (taken_in past call) (h.walks.held call);
  once = λ single key. by_guarantee request.guarantee refl single key;
}
  where
    span : span_end past call ≡ past
    span = ap (λ o. unwrap_or o past) (open_goes_on past call unanswered)

    by_guarantee : (g : Guarantee) → request.guarantee ≡ g → may_repeat g ≡ false → (key : List ℕ) → times key (taken_in past call) ≤ 1
    by_guarantee Exact e s key = h.walks.once call request asked (ap is_exact e) key
    by_guarantee AtLeast e s key = absurd (cc)
    by_guarantee AtMost e s key =
        let known = walk_known config past st call request h.numbers (known_units config past st h) h.walks asked form in
        let a = known.by_rounds key in
        let b = h.granted call request asked in
        let c = ap (λ x. granted_rounds x request.rounds) e in omega arith
