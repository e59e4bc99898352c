-- In a run each event fits its past.
use Rattle.std.proofs.Common.{◌≡◌, true, List, refl}
use Rattle.std.specs.List.{AllByRecursion}
use Rattle.grid_event.specs.declared.config.Config.{Config}
use Rattle.grid_event.specs.declared.event.Event.{Event}
use Rattle.grid_event.specs.declared.event.Event.TheVariants.{Write, Tick, Join, Depart, Announce, Install, Invoke, Round, Begin, Scan, Fetch, Take, Done, Answer}
use Rattle.cluster_model.specs.State.{State}
use Rattle.cluster_model.specs.Step.{allowed}
use Rattle.cluster_laws.proofs.answers.AnswerKept.{AllKept}
use Rattle.cluster_laws.proofs.causes.CauseQuiet.{FewMembers}
use Rattle.cluster_laws.proofs.units.StageRuns.{IsTraced}
use Rattle.audit_clauses.specs.Shapes.{fits_past}
use Rattle.audit_runs.proofs.CallShapes.{UnitsTold, answer_fits, begin_event_fits, done_event_fits, fetch_fits, invoke_fits, round_fits, scan_fits, take_fits}
use Rattle.audit_runs.proofs.Flights.{Flies}
use Rattle.audit_runs.proofs.StoreShapes.{announce_fits, depart_fits, install_fits, join_fits, tick_fits, write_fits}

module _ (config : Config) (past : List Event) (st : State) (k : AllKept config past st) (t : IsTraced config past st)
    (few : FewMembers config past) (many : UnitsTold past st) (flies : AllByRecursion Flies st.calling.units) where
  -- an event that may happen fits its past
  pub event_fits : (event : Event) → allowed st event ≡ true → fits_past config past event ≡ true
  unfolding fits_past
  event_fits (Write w) may = write_fits config past st k.kept w may
  event_fits (Tick n) may = tick_fits config past st k.kept n may
  event_fits (Join node) may = join_fits config past st k.kept node may
  event_fits (Depart node) may = depart_fits config past st k.kept few node may
  event_fits (Announce topology) may = announce_fits config past st k.kept topology may
  event_fits (Install node id) may = install_fits config past st k.kept node id may
  event_fits (Invoke i) may = invoke_fits config past st k t i may
  event_fits (Round r) may = round_fits config past st k t r many may
  event_fits (Begin n runs) may = begin_event_fits config past st k t n runs may
  event_fits (Scan s) may = scan_fits config past st k t s may
  event_fits (Fetch f) may = fetch_fits config past st k t f may
  event_fits (Take x) may = take_fits config past st k t x flies may
  event_fits (Done n) may = done_event_fits config past st k t n may
  event_fits (Answer a) may = answer_fits config past st k t a may
  event_fits _ may = refl
