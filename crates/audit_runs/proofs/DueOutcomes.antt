-- Of which kinds the outcome of a call can be, and what each kind names.
use Rattle.std.proofs.Common.{◌≡◌, ℕ, ◌<◌, ◌==◌, nat_lt, Bool, true, false, not, ◌&&◌, if◌then◌else◌, Option, None, Some, refl, ap, ◌∙◌, arith}
use Rattle.std.proofs.lemmas.Bool.{lt-ltb}
use Rattle.std.specs.Bool.{beq}
use Rattle.std.specs.FinSet as set_of
use Rattle.std.specs.List.{list_all, range_with_len}
use Rattle.delivery_mode.specs.Guarantee.{asks_again}
use Rattle.grid_base.specs.declared.limits.TheConstants.{MOST_SEGMENTS}
use Rattle.grid_event.specs.declared.call_events.InvokeEvent.{InvokeEvent}
use Rattle.grid_event.specs.declared.outcome.Outcome.{Outcome}
use Rattle.grid_event.specs.declared.outcome.Outcome.TheVariants as outcomes
use Rattle.pipeline_eval.specs.Pipes.{pipe}
use Rattle.topology_coord.specs.Coordination.{lives}
use Rattle.cluster_model.specs.Answers.{evidence_of, first_of, given_up, is_whole, least_of, outcome_by, outcome_of, whole_outcome}
use Rattle.cluster_model.specs.Calls.{granted, has_open, incomplete}
use Rattle.cluster_model.specs.State.{Call, State, is_walk, segments_read}
use Rattle.cluster_model.specs.Topologies.{is_complete}
use Rattle.cluster_laws.proofs.causes.CauseOutcomes.{first_passes}
use Rattle.cluster_laws.proofs.causes.CauseWords.{row_below}
use Rattle.audit_clauses.specs.Mentions.{segments_of}
use Rattle.audit_clauses.specs.Shapes.{suits}
use Rattle.audit_runs.proofs.Lists.{alone}

-- the outcome of a call: its originator left; a noted segment was lost; it is whole; or it gave up for want of an incomplete one
pub data Due (st : State) (number : ℕ) (call : Call) (o : Outcome) : Type 0 where
  Left : o ≡ outcomes.OriginatorLeft → Due st number call o
  Lost : (segment : ℕ) → least_of call.lost ≡ Some segment → o ≡ outcomes.SegmentLost segment → Due st number call o
  Whole : o ≡ whole_outcome st.calling number call → Due st number call o
  GaveUp : (suspect : ℕ) → first_of (incomplete st.calling number) ≡ Some suspect → o ≡ outcomes.Again call.rounds suspect
      → Due st number call o

-- an outcome of a call is one of these
pub due : (st : State) (number : ℕ) (call : Call) (o : Outcome) → outcome_of st number call ≡ Some o → Due st number call o
unfolding outcome_of
due st number call o e = by_life (lives st.holding.coord call.originator) e
  where
    by_again : (b : Bool) (suspect : ℕ) → first_of (incomplete st.calling number) ≡ Some suspect
        → (if b then Some (outcomes.Again call.rounds suspect) else None) ≡ Some o → Due st number call o
    by_again true suspect is e = GaveUp suspect is (cc)
    by_again false suspect is e = absurd (cc)

    by_suspect : (s : Option ℕ) → first_of (incomplete st.calling number) ≡ s → given_up st.calling number call s ≡ Some o
        → Due st number call o
    by_suspect None is e = absurd (cc)
    by_suspect (Some suspect) is e = by_again (asks_again call.request.guarantee && ((call.rounds == granted call) && not (has_open st.calling number))) suspect is e

    by_whole : (b : Bool)
        → (if b then Some (whole_outcome st.calling number call) else given_up st.calling number call (first_of (incomplete st.calling number))) ≡ Some o
        → Due st number call o
    by_whole true e = Whole (cc)
    by_whole false e = by_suspect (first_of (incomplete st.calling number)) refl e

    by_lost : (l : Option ℕ) → least_of call.lost ≡ l → outcome_by st.calling number call l ≡ Some o → Due st number call o
    by_lost (Some segment) is e = Lost segment is (cc)
    by_lost None is e = by_whole (is_whole st.calling number call) e

    by_life : (b : Bool)
        → (if not b then Some outcomes.OriginatorLeft else outcome_by st.calling number call (least_of call.lost)) ≡ Some o
        → Due st number call o
    by_life false e = Left (cc)
    by_life true e = by_lost (least_of call.lost) refl e

-- an outcome suits the form of its call
pub due_suits : (st : State) (number : ℕ) (call : Call) (o : Outcome) → Due st number call o → (invoke : InvokeEvent)
    → invoke.request ≡ call.request → suits o (Some invoke) ≡ true
due_suits st number call o (Left is) invoke same = ap (λ x. suits x (Some invoke)) is
due_suits st number call o (Lost segment there is) invoke same = ap (λ x. suits x (Some invoke)) is
due_suits st number call o (GaveUp suspect there is) invoke same = ap (λ x. suits x (Some invoke)) is
due_suits st number call o (Whole is) invoke same = ap (λ x. suits x (Some invoke)) is ∙ by_form (is_walk call.request) (ap is_walk same)
  where
    by_form : (walk : Bool) → is_walk invoke.request ≡ walk
        → suits (if walk then outcomes.Ended else outcomes.Value (pipe call.request.pipeline (evidence_of st.calling number call))) (Some invoke) ≡ true
    by_form true form = ap (beq true) form
    by_form false form = ap (beq false) form

-- whether all segments that an outcome names are below a number
abbrev names_below : ℕ → Outcome → Bool
names_below most o = list_all (λ segment. nat_lt segment most) (segments_of o)

-- the segments that it names are below a number, where those are that its call noted as lost, and those that the call reads
pub due_segments : (st : State) (number : ℕ) (call : Call) (o : Outcome) (most : ℕ) → Due st number call o → st.calling.segments ≡ most
    → ((segment : ℕ) → set_of.contains call.lost segment ≡ true → segment < most) → names_below most o ≡ true
unfolding least_of
due_segments st number call o most due many noted = by_due due
  where
    whole_below : (walk : Bool)
        → names_below most (if walk then outcomes.Ended else outcomes.Value (pipe call.request.pipeline (evidence_of st.calling number call))) ≡ true
    whole_below true = refl
    whole_below false = refl

    by_due : Due st number call o → names_below most o ≡ true
    by_due (Left is) = ap (names_below most) is
    by_due (Lost segment there is) =
        let passes = first_passes (set_of.contains call.lost) (range_with_len 0 MOST_SEGMENTS) segment there in
        ap (names_below most) is ∙ alone (nat_lt segment most) (lt-ltb segment most (noted segment passes.0))
    by_due (GaveUp suspect there is) =
        let passes = first_passes (λ segment. not (is_complete st.calling.units number segment)) (segments_read st.calling) suspect there in
        let read = row_below 0 st.calling.segments suspect passes.1 in
        ap (names_below most) is
        ∙ alone (nat_lt suspect most) (lt-ltb suspect most (omega (arith, read, many)))
    by_due (Whole is) = ap (names_below most) is ∙ whole_below (is_walk call.request)
