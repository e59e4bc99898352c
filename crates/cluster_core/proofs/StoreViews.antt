-- What the store tells of what a core holds is what the core's state has.
use Rattle.std.proofs.Common.{◌≡◌, ℕ, ap}
use Rattle.grid_event.specs.declared.store_events.CopyEvent.{CopyEvent}
use Rattle.grid_event.specs.declared.store_events.EraseEvent.{EraseEvent}
use Rattle.grid_event.specs.declared.store_events.WriteEvent.{WriteEvent}
use Rattle.topology_phase.specs.Topologies.{Topology}
use Rattle.cluster_model.specs.Commands.{advance_event, announce_event, copy_event, first_some, install_event, land_event}
use Rattle.cluster_model.specs.State.{Holding, State, segments_of}
use Rattle.cluster_model.specs.Topologies.{can_announce, can_depart, can_install, can_join}
use Rattle.cluster_model.specs.Transfers.{can_copy, can_land}
use Rattle.cluster_model.specs.Writes.{can_erase, can_tick, can_write}
use Rattle.cluster_core.specs.Insides.{state_of}
use Rattle.cluster_core.specs.declared.cluster.Core.TheInside.{Inside}

module _ (fields : Inside) (st : State) (is : state_of fields ≡ st) where
  -- what the store tells is told of what the state holds
  held : {A : Type 0} (f : Holding → A) → f fields.store ≡ f st.holding
  held f = ap (λ (s : State). f s.holding) is

  pub write_told : (w : WriteEvent) → can_write fields.store w ≡ can_write st.holding w
  write_told w = held (λ s. can_write s w)

  pub erase_told : (e : EraseEvent) → can_erase fields.store e ≡ can_erase st.holding e
  erase_told e = held (λ s. can_erase s e)

  pub tick_told : (n : ℕ) → can_tick fields.store n ≡ can_tick st.holding n
  tick_told n = held (λ s. can_tick s n)

  pub join_told : (n : ℕ) → can_join fields.store n ≡ can_join st.holding n
  join_told n = held (λ s. can_join s n)

  pub depart_told : (n : ℕ) → can_depart fields.store n ≡ can_depart st.holding n
  depart_told n = held (λ s. can_depart s n)

  pub announce_told : (t : Topology) → can_announce fields.store t ≡ can_announce st.holding t
  announce_told t = held (λ s. can_announce s t)

  pub install_told : (n id : ℕ) → can_install fields.store n id ≡ can_install st.holding n id
  install_told n id = held (λ s. can_install s n id)

  pub copy_told : (c : CopyEvent) → can_copy fields.store c ≡ can_copy st.holding c
  copy_told c = held (λ s. can_copy s c)

  pub land_told : (n s : ℕ) → can_land fields.store n s ≡ can_land st.holding n s
  land_told n s = held (λ x. can_land x n s)

  -- the events that commands choose
  pub announces_told : announce_event fields.store ≡ announce_event st.holding
  announces_told = held announce_event

  pub installs_told : (n : ℕ) → install_event fields.store n ≡ install_event st.holding n
  installs_told n = held (λ s. install_event s n)

  pub copies_told : (n s : ℕ) → copy_event fields.store n s ≡ copy_event st.holding n s
  copies_told n s = held (λ x. copy_event x n s)

  pub lands_told : (n s : ℕ) → land_event fields.store n s ≡ land_event st.holding n s
  lands_told n s = held (λ x. land_event x n s)

  pub advance_told : advance_event fields.store ≡ advance_event st.holding
  advance_told = held advance_event

  -- the first of them over the segments
  pub first_land_told : (n : ℕ) → first_some (land_event fields.store n) (segments_of fields.store) ≡ first_some (land_event st.holding n) (segments_of st.holding)
  first_land_told n =
      held (λ x. first_some (land_event x n) (segments_of x))

  pub first_copy_told : (n : ℕ) → first_some (copy_event fields.store n) (segments_of fields.store) ≡ first_some (copy_event st.holding n) (segments_of st.holding)
  first_copy_told n =
      held (λ x. first_some (copy_event x n) (segments_of x))
