-- The landings that there may be, by the hint of what flies.
use Rattle.std.proofs.Common.{◌≡◌, ℕ, ◌<◌, ◌≤◌, ◌==◌, ◌&&◌, Bool, true, false, if◌then◌else◌, Some, None, refl, sym, ap, subst, arith}
use Rattle.std.proofs.lemmas.Bool.{ne_eqb}
use Rattle.std.proofs.lemmas.Bool.Decides.{nat_tests}
use Rattle.grid_event.specs.declared.event.Event.TheVariants as events
use Rattle.state_transfer.specs.Chunks.{flies}
use Rattle.cluster_model.specs.Commands.{first_some, land_event}
use Rattle.cluster_model.specs.State.{Holding, segments_of}
use Rattle.cluster_model.specs.Transfers.{can_land, transfer_of}
use Rattle.cluster_store.specs.Insides.{IsStore, holding_of}
use Rattle.cluster_store.specs.Hints.{IsFlying, may_fly}
use Rattle.cluster_store.specs.declared.store.Store.TheInside.{Inside}
use Rattle.cluster_store.proofs.Searches.{row_without}

-- where nothing flies, nothing lands
landing_none : (st : Holding) (r s : ℕ) → flies (transfer_of st r s) ≡ false → land_event st r s ≡ None
unfolding can_land
landing_none st r s none = ap (λ b. if b then Some (events.Land r s) else None) none

-- where the hint has no place for it, nothing lands
module _ (fields : Inside) (st : Holding) (h : IsStore fields) (view : holding_of fields ≡ st) where
  pub no_landing : (r s : ℕ) → may_fly fields.hints.flying r s ≡ false → land_event st r s ≡ None
  no_landing r s none = landing_none st r s (subst (λ (x : Holding). IsFlying fields.hints.flying x.copying.transfers) view h.hints.flying r s none)

  pub nothing_lands : (node : ℕ) → ((s : ℕ) → may_fly fields.hints.flying node s ≡ false) → None ≡ first_some (land_event st node) (segments_of st)
  nothing_lands node none = sym (row_without (land_event st node) st.config.segments (λ s within. no_landing node s (none s)))
