-- Each event keeps all, and so does each run.
use Rattle.std.proofs.Common.{◌≡◌, ℕ, ◌+◌, ◌==◌, Bool, true, false, cond, not, List, [], ◌∷◌, reverse, Option, Some, None, refl, sym, ap, subst, ◌∙◌}
use mathlib.Core.List.{reverse_aux}
use Rattle.std.proofs.lemmas.Bool.{and_parts, eqb-true}
use Rattle.grid_base.specs.declared.stamped.Stamped.{Stamped}
use Rattle.grid_event.specs.Configs.{is_config}
use Rattle.grid_event.specs.Maps.{clock_of, entries_of}
use Rattle.grid_event.specs.declared.config.Config.{Config}
use Rattle.grid_event.specs.declared.event.Event.{Event}
use Rattle.grid_event.specs.declared.event.Event.TheVariants.{Write, Erase, Tick, Join, Depart, Announce, Install, Copy, Land}
use Rattle.grid_event.specs.declared.store_events.CopyEvent.{CopyEvent}
use Rattle.grid_event.specs.declared.store_events.EraseEvent.{EraseEvent}
use Rattle.grid_event.specs.declared.store_events.WriteEvent.{WriteEvent}
use Rattle.segment_hash.specs.Segments.{segment_number}
use Rattle.state_transfer.specs.Changes.{changes, ticks}
use Rattle.state_transfer.specs.Copying.{Copying}
use Rattle.state_transfer.specs.Leaving.{closes}
use Rattle.state_transfer.proofs.LeavingLaws.{clock-closes, clock-departs, clock-drops}
use Rattle.state_transfer.proofs.StepLaws.{clock-changes, clock-lands, clock-sends, clock-ticks}
use Rattle.topology_coord.specs.Coordination.{installed_id, lives, loses}
use Rattle.topology_coord.proofs.MemberLaws.{topology-announces}
use Rattle.topology_coord.proofs.NextLaws.{IsNext, next_follows}
use Rattle.topology_phase.specs.Laws.{Follows}
use Rattle.topology_phase.specs.Owners.{among}
use Rattle.topology_phase.specs.Phases.{same_phase}
use Rattle.topology_phase.specs.Topologies.{Topology, holders, read_owners, write_owners}
use Rattle.topology_phase.specs.declared.phase.Phase.TheVariants.{ReadOld}
use Rattle.cluster_model.specs.Kept.{IsKept, KeepsParts}
use Rattle.cluster_model.specs.State.{State, segment_of, start}
use Rattle.cluster_model.specs.Step.{allowed, changed, runs, state}
use Rattle.cluster_model.specs.Told.{Contents, IsTold, contents_of}
use Rattle.cluster_model.specs.Answers.{answered}
use Rattle.cluster_model.specs.Calls.{invoked, rounded}
use Rattle.cluster_model.specs.Topologies.{all_copied, announced, can_announce, can_depart, can_install, can_join, departed, installed, joined, left_by, lost_by_departure, lost_by_installation}
use Rattle.cluster_model.specs.Transfers.{can_copy, can_land, copied, landed}
use Rattle.cluster_model.specs.Units.{begun_unit, ended_unit, fetched, scanned, taken_by}
use Rattle.cluster_model.specs.Writes.{can_change, can_erase, can_write, changed_key, erased, ticked, writers, written}
use Rattle.cluster_laws.specs.Laws.{HasCopies, TellsTheState}
use Rattle.cluster_laws.proofs.copies.ContentSteps.{changed_contents, departed_contents, erased_contents, lost_contents, ticked_contents, ticked_contents_are, written_contents}
use Rattle.cluster_laws.proofs.copies.CopySteps as copies
use Rattle.cluster_laws.proofs.copies.EmptySteps as empty
use Rattle.cluster_laws.proofs.copies.Facts.{safe_by, turned}
use Rattle.cluster_laws.proofs.copies.Histories.{TellsAlike, announced_told, departed_told, installed_told, installed_told_by, joined_told, loses_told, stands_told}
use Rattle.cluster_laws.proofs.copies.Requests.{MayChange, may_announce, may_change, may_copy, may_land, receiver_over, sending_held}
use Rattle.cluster_laws.proofs.copies.Starts.{good_config, start_kept}
use Rattle.cluster_laws.proofs.copies.TopologySteps as topologies
use Rattle.cluster_laws.proofs.copies.TransferSteps as transfers
use Rattle.cluster_laws.proofs.Along.{along}

-- ---- writes and erasures

-- a change of a key that may be made keeps the four parts
changed_parts : (segments : ℕ) (st : State) (m : Contents) (n s : ℕ) (k : List ℕ) (o : Option Stamped) → MayChange st n k s → KeepsParts segments st.holding.coord st.holding.copying m
    → KeepsParts segments st.holding.coord (changes (writers st.holding n s) s k o st.holding.copying) (changed_contents s k o m)
changed_parts segments st m n s k o may h = record {
  topologies = h.topologies;
  empty = empty.changed_empty st.holding.coord st.holding.copying m h.empty segments h.topologies n s k o may.reads;
  copies = copies.changed_copies st.holding.coord st.holding.copying m h.copies segments h.topologies n s k o may.reads;
  transfers = transfers.changed_transfers st.holding.coord st.holding.copying m h.transfers n s k o may.live;
}

-- a change of a key, told by an event that tells the same of members and topologies
changed_kept : (config : Config) (past later : List Event) (st after : State) (n s : ℕ) (k : List ℕ) (o : Option Stamped)
    → TellsAlike config past later → clock_of later ≡ clock_of past → contents_of config later ≡ changed_contents s k o (contents_of config past)
    → after ≡ record st { holding = changed_key st.holding n k o (Some s) } → MayChange st n k s → IsKept config past st → IsKept config later after
changed_kept config past later st after n s k o alike clock contents is may h =
    subst (λ x. IsKept config later x) (sym is) (record {
      told = stands_told config past later st (record st { holding = changed_key st.holding n k o (Some s) }) alike refl refl refl (clock-changes (writers st.holding n s) s k o st.holding.copying ∙ h.told.clock ∙ sym clock) h.told;
      parts = subst (λ m. KeepsParts config.segments st.holding.coord (changes (writers st.holding n s) s k o st.holding.copying) m) (sym contents) (changed_parts config.segments st (contents_of config past) n s k o may h.parts);
    })

-- the segment of a key by the settings
segment_by : (config : Config) (past : List Event) (st : State) (k : List ℕ) (s : ℕ) → IsTold config past st → segment_of st.holding k ≡ Some s → segment_number config.partition config.segments k ≡ Some s
segment_by config past st k s told is = ap (λ (c : Config). segment_number c.partition c.segments k) (sym told.settings) ∙ is

-- a write keeps all
written_kept : (config : Config) (past : List Event) (st : State) (w : WriteEvent) → can_write st.holding w ≡ true → IsKept config past st → IsKept config (Write w ∷ past) (changed st (Write w))
unfolding can_write written
written_kept config past st w can h =
    let may = may_change st w.node w.key (and_parts (can_change st.holding w.node w.key) _ can).0 in
    let stamped : Stamped = record { value = w.value; until = w.until } in
    changed_kept config past (Write w ∷ past) st (changed st (Write w)) w.node may.0 w.key (Some stamped)
    (record { live = refl; member = refl; newest = refl; installed = refl; numbered = refl }) refl
    (written_contents config past w may.0 (segment_by config past st w.key may.0 h.told may.1.has_segment))
    (ap (λ found. record st { holding = changed_key st.holding w.node w.key (Some stamped) found }) may.1.has_segment) may.1 h

-- an erasure keeps all
erased_kept : (config : Config) (past : List Event) (st : State) (e : EraseEvent) → can_erase st.holding e ≡ true → IsKept config past st → IsKept config (Erase e ∷ past) (changed st (Erase e))
unfolding can_erase erased
erased_kept config past st e can h =
    let may = may_change st e.node e.key can in
    changed_kept config past (Erase e ∷ past) st (changed st (Erase e)) e.node may.0 e.key None
    (record { live = refl; member = refl; newest = refl; installed = refl; numbered = refl }) refl
    (erased_contents config past e may.0 (segment_by config past st e.key may.0 h.told may.1.has_segment))
    (ap (λ found. record st { holding = changed_key st.holding e.node e.key None found }) may.1.has_segment) may.1 h

-- ---- ticks

-- a tick keeps all
ticked_kept : (config : Config) (past : List Event) (st : State) (number : ℕ) → IsKept config past st → IsKept config (Tick number ∷ past) (changed st (Tick number))
unfolding ticked
ticked_kept config past st number h =
    let clock : st.holding.copying.clock + number ≡ clock_of past + number = ap (λ (n : ℕ). n + number) h.told.clock in
    record {
      told = stands_told config past (Tick number ∷ past) st (changed st (Tick number)) (record { live = refl; member = refl; newest = refl; installed = refl; numbered = refl }) refl refl refl (clock-ticks (st.holding.copying.clock + number) st.holding.copying ∙ clock) h.told;
      parts =
          subst (λ m. KeepsParts config.segments st.holding.coord (ticks (st.holding.copying.clock + number) st.holding.copying) m)
          (ap (λ n. ticked_contents n (contents_of config past)) clock ∙ sym (ticked_contents_are config past number))
          (record {
            topologies = h.parts.topologies;
            empty = empty.ticked_empty st.holding.coord st.holding.copying (contents_of config past) h.parts.empty (st.holding.copying.clock + number);
            copies = copies.ticked_copies st.holding.coord st.holding.copying (contents_of config past) h.parts.copies (st.holding.copying.clock + number);
            transfers = transfers.ticked_transfers st.holding.coord st.holding.copying (contents_of config past) h.parts.transfers (st.holding.copying.clock + number);
          });
    }

-- ---- joins, departures, announcements and installations

-- a join keeps all
joined_kept : (config : Config) (past : List Event) (st : State) (q : ℕ) → can_join st.holding q ≡ true → IsKept config past st → IsKept config (Join q ∷ past) (changed st (Join q))
unfolding can_join joined entries_of
joined_kept config past st q can h = record {
  told = joined_told config past st (changed st (Join q)) h.told refl refl refl q refl;
  parts = record {
    topologies = topologies.joined_topologies config.segments st.holding.coord h.parts.topologies q can;
    empty = empty.joined_empty st.holding.coord st.holding.copying (contents_of config past) h.parts.empty q;
    copies = copies.joined_copies st.holding.coord st.holding.copying (contents_of config past) h.parts.copies config.segments h.parts.topologies q (turned _ (and_parts _ _ can).0);
    transfers = transfers.joined_transfers st.holding.coord st.holding.copying (contents_of config past) h.parts.transfers q;
  };
}

-- a departure keeps all
departed_kept : (config : Config) (past : List Event) (st : State) (q : ℕ) → can_depart st.holding q ≡ true → IsKept config past st → IsKept config (Depart q ∷ past) (changed st (Depart q))
unfolding can_depart departed lost_by_departure
departed_kept config past st q can h = record {
  told = departed_told config past st (changed st (Depart q)) h.told refl refl (clock-departs q (loses st.holding.coord q) st.holding.copying) q refl;
  parts =
      subst (λ m. KeepsParts config.segments (departed st.holding q).coord (left_by st.holding q) m)
      (ap (λ lost. lost_contents lost (contents_of config past)) (loses_told config past st h.told q) ∙ sym (departed_contents config past q))
      (record {
        topologies = topologies.departed_topologies config.segments st.holding.coord h.parts.topologies q can;
        empty = empty.departed_empty st.holding.coord st.holding.copying (contents_of config past) h.parts.empty q;
        copies = copies.departed_copies st.holding.coord st.holding.copying (contents_of config past) h.parts.copies q;
        transfers = transfers.departed_transfers st.holding.coord st.holding.copying (contents_of config past) h.parts.transfers q;
      });
}

-- the clock is the same where transfers are closed
clock_closed : (b : Bool) (p : Copying) → (cond b p (closes p)).clock ≡ p.clock
clock_closed true p = refl
clock_closed false p = clock-closes p

-- an announcement keeps all
announced_kept : (config : Config) (past : List Event) (st : State) (next : Topology) → can_announce st.holding next ≡ true → IsKept config past st → IsKept config (Announce next ∷ past) (changed st (Announce next))
unfolding announced entries_of
announced_kept config past st next can h =
    let parts = h.parts in
    let m : Contents = contents_of config past in
    let is : IsNext (all_copied st.holding) st.holding.coord next = may_announce config.segments st next parts.topologies can in
    let follows : Follows st.holding.coord.newest next (lives st.holding.coord) = next_follows (all_copied st.holding) st.holding.coord next parts.topologies.some_live parts.topologies.owned is in
    let same : st.holding.config.segments ≡ config.segments = ap (λ (c : Config). c.segments) h.told.settings in
    record {
      told = announced_told config past st (changed st (Announce next)) h.told refl refl (clock_closed (same_phase next.phase ReadOld) st.holding.copying) next follows.next_id refl;
      parts = record {
        topologies = topologies.announced_topologies config.segments st.holding.coord parts.topologies (all_copied st.holding) next is;
        empty = empty.announced_empty st.holding.coord st.holding.copying m parts.empty next (same_phase next.phase ReadOld) follows;
        copies = copies.announced_copies st.holding.coord st.holding.copying m parts.copies next (same_phase next.phase ReadOld) follows parts.empty parts.transfers
            (λ n t first second live pending current.
            receiver_over st (parts.topologies.all_segments ∙ sym same) parts.topologies.owned (is.after_copying first second) n t live (record { phase = first; pending = pending; current = current }));
        transfers = transfers.announced_transfers st.holding.coord st.holding.copying m parts.transfers next follows parts.empty (topology-announces st.holding.coord next is.installed follows.next_id);
      };
    }

-- an installation keeps all
installed_kept : (config : Config) (past : List Event) (st : State) (q id : ℕ) → can_install st.holding q id ≡ true → IsKept config past st → IsKept config (Install q id ∷ past) (changed st (Install q id))
unfolding can_install installed lost_by_installation entries_of
installed_kept config past st q id can h =
    let live = and_parts (lives st.holding.coord q) _ can in
    let number = and_parts (not (installed_id st.holding.coord q == st.holding.coord.newest.id)) (id == st.holding.coord.newest.id) live.1 in
    let m : Contents = contents_of config past in
    record {
      told = installed_told config past st (changed st (Install q id)) h.told refl refl (clock-drops q (λ segment. not (among q (write_owners st.holding.coord.newest segment))) st.holding.copying) q id live.0 (eqb-true id st.holding.coord.newest.id number.1) refl;
      parts = record {
        topologies = topologies.installed_topologies config.segments st.holding.coord h.parts.topologies q id can;
        empty = empty.installed_empty st.holding.coord st.holding.copying m h.parts.empty q (λ segment. not (among q (write_owners st.holding.coord.newest segment)));
        copies = copies.installed_copies st.holding.coord st.holding.copying m h.parts.copies q live.0;
        transfers = transfers.installed_transfers st.holding.coord st.holding.copying m h.parts.transfers q live.0;
      };
    }

-- ---- chunks

-- a chunk that is sent keeps all
copied_kept : (config : Config) (past : List Event) (st : State) (e : CopyEvent) → can_copy st.holding e ≡ true → IsKept config past st → IsKept config (Copy e ∷ past) (changed st (Copy e))
unfolding copied entries_of
copied_kept config past st e can h =
    let m : Contents = contents_of config past in
    let go = may_copy config.segments st m e h.parts can in
    record {
      told = stands_told config past (Copy e ∷ past) st (changed st (Copy e)) (record { live = refl; member = refl; newest = refl; installed = refl; numbered = refl }) refl refl refl (clock-sends e.receiver e.segment e.provider e.batch st.holding.copying ∙ h.told.clock) h.told;
      parts = record {
        topologies = h.parts.topologies;
        empty = empty.copied_empty st.holding.coord st.holding.copying m h.parts.empty e.receiver e.segment e.provider e.batch (sending_held config.segments st.holding.coord st.holding.copying m h.parts e.receiver e.segment e.provider e.batch go);
        copies = copies.copied_copies st.holding.coord st.holding.copying m h.parts.copies e.receiver e.segment e.provider e.batch go.receives;
        transfers = transfers.copied_transfers st.holding.coord st.holding.copying m h.parts.transfers e.receiver e.segment e.provider e.batch go;
      };
    }

-- a chunk that lands keeps all
landed_kept : (config : Config) (past : List Event) (st : State) (r s : ℕ) → can_land st.holding r s ≡ true → IsKept config past st → IsKept config (Land r s ∷ past) (changed st (Land r s))
unfolding landed entries_of
landed_kept config past st r s can h =
    let m : Contents = contents_of config past in
    let there = may_land st r s can in
    record {
      told = stands_told config past (Land r s ∷ past) st (changed st (Land r s)) (record { live = refl; member = refl; newest = refl; installed = refl; numbered = refl }) refl refl refl (clock-lands r s st.holding.copying ∙ h.told.clock) h.told;
      parts = record {
        topologies = h.parts.topologies;
        empty = empty.landed_empty st.holding.coord st.holding.copying m h.parts.empty r s there.0 there.1;
        copies = copies.landed_copies st.holding.coord st.holding.copying m h.parts.copies r s there.0 there.1 (h.parts.transfers r s there.0 there.1).receives;
        transfers = transfers.landed_transfers st.holding.coord st.holding.copying m h.parts.transfers r s there.0 there.1;
      };
    }

-- ---- calls and units

-- an event that leaves settings, members, topologies, copies and the map as they are keeps all
stands : (config : Config) (past later : List Event) (st after : State) → TellsAlike config past later → clock_of later ≡ clock_of past → contents_of config later ≡ contents_of config past
    → after.holding.config ≡ st.holding.config → after.calling.segments ≡ st.calling.segments → after.holding.coord ≡ st.holding.coord → after.holding.copying ≡ st.holding.copying → IsKept config past st → IsKept config later after
stands config past later st after alike clock contents settings segments coord copying h = record {
  told = stands_told config past later st after alike settings segments coord (ap (λ (p : Copying). p.clock) copying ∙ h.told.clock ∙ sym clock) h.told;
  parts =
      subst (λ m. KeepsParts config.segments after.holding.coord after.holding.copying m) (sym contents)
      (subst (λ p. KeepsParts config.segments after.holding.coord p (contents_of config past)) (sym copying)
      (subst (λ c. KeepsParts config.segments c st.holding.copying (contents_of config past)) (sym coord) h.parts));
}

-- each event that may happen keeps all
pub step_keeps : (config : Config) (past : List Event) (st : State) (event : Event) → allowed st event ≡ true → IsKept config past st → IsKept config (event ∷ past) (changed st event)
unfolding entries_of invoked rounded begun_unit scanned fetched taken_by ended_unit answered
step_keeps config past st (Write w) can h = written_kept config past st w can h
step_keeps config past st (Erase e) can h = erased_kept config past st e can h
step_keeps config past st (Tick number) can h = ticked_kept config past st number h
step_keeps config past st (Join q) can h = joined_kept config past st q can h
step_keeps config past st (Depart q) can h = departed_kept config past st q can h
step_keeps config past st (Announce next) can h = announced_kept config past st next can h
step_keeps config past st (Install q id) can h = installed_kept config past st q id can h
step_keeps config past st (Copy e) can h = copied_kept config past st e can h
step_keeps config past st (Land r s) can h = landed_kept config past st r s can h
-- the others change calls and units alone
step_keeps config past st event can h =
    stands config past (event ∷ past) st (changed st event) (record { live = refl; member = refl; newest = refl; installed = refl; numbered = refl }) refl refl refl refl refl refl h

-- a run keeps all
run_keeps : (config : Config) (past : List Event) (st : State) (events : List Event) → runs st events ≡ true → IsKept config past st → IsKept config (reverse_aux events past) (state st events)
run_keeps config = along (IsKept config) (step_keeps config)

-- in every run from the start all is kept
pub always_kept : (config : Config) (events : List Event) → is_config config ≡ true → runs (start config) events ≡ true → IsKept config (reverse events) (state (start config) events)
always_kept config events good is = run_keeps config [] (start config) events is (start_kept config (good_config config good))

-- ---- what follows from what is kept

-- the events tell what the cluster has
pub kept_told : (config : Config) (past : List Event) (st : State) → IsKept config past st → TellsTheState config past st
kept_told config past st h = record { told = h.told; installed = installed_told_by config.segments config past st h.told h.parts.topologies }

-- the copies are what the map says
pub kept_copies : (config : Config) (past : List Event) (st : State) → IsKept config past st → HasCopies config past st
kept_copies config past st h = record {
  complete = λ n s live held. h.parts.copies n s (h.told.live n ∙ live) (ap (λ (t : Topology). among n (holders t s)) h.told.newest ∙ held);
  readers = λ n s live reads.
      ap (λ (t : Topology). among n (holders t s)) (sym h.told.newest)
      ∙ (safe_by config.segments st.holding.coord h.parts.topologies n).read_is_held n s (h.told.live n ∙ live)
      (ap (λ (t : Topology). among n (read_owners t s)) (installed_told_by config.segments config past st h.told h.parts.topologies n live) ∙ reads);
}
