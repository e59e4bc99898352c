-- Who lives by the events lives by the book.
use Rattle.std.proofs.Common.{◌≡◌, ℕ, suc, ◌+◌, ◌-◌, ◌<◌, Bool, true, false, List, ◌∷◌, reverse, sym, ap, ◌∙◌, arith, if◌then◌else◌, unwrap_or}
use Rattle.std.specs.FinSet as set_of
use Rattle.std.specs.List.{filter, range_with_len}
use Rattle.std.specs.Ordering.{nat_cmp}
use Rattle.grid_event.specs.Configs.{is_config}
use Rattle.grid_event.specs.Members.{is_live}
use Rattle.grid_event.specs.declared.config.Config.{Config}
use Rattle.grid_event.specs.declared.event.Event.{Event}
use Rattle.topology_coord.specs.Coordination.{lives}
use Rattle.cluster_laws.proofs.Runs.{always_kept}
use Rattle.cluster_model.specs.Answers.{first_of}
use Rattle.cluster_model.specs.State.{start}
use Rattle.cluster_model.specs.Step.{runs, state}
use Rattle.live_run.specs.Serving.{place_at}

-- the live nodes of a run as a set are those that the events tell
pub told_live : (config : Config) (events : List Event) → is_config config ≡ true → runs (start config) events ≡ true → (nodes : set_of.FinSet nat_cmp) →
    ((n : ℕ) → set_of.contains nodes n ≡ lives (state (start config) events).holding.coord n) → (n : ℕ) → set_of.contains nodes n ≡ is_live config (reverse events) n
told_live config events good run nodes h n = h n ∙ (always_kept config events good run).told.live n

-- the place by such a set
pub place_by : (config : Config) (past : List Event) (home : ℕ) (nodes : set_of.FinSet nat_cmp) → ((n : ℕ) → set_of.contains nodes n ≡ is_live config past n) →
    (if set_of.contains nodes home then home else unwrap_or (first_of (filter (set_of.contains nodes) (range_with_len 0 16))) 0) ≡ place_at config past home
place_by config past home nodes h =
    λ i. if h home i then home else unwrap_or (first_of (filter (λ n. h n i) (range_with_len 0 16))) 0

-- a first number that fails is passed over
pub skip_first : (p : ℕ → Bool) (n : ℕ) → n < 16 → p n ≡ false → first_of (filter p (range_with_len (n + 1) (16 - (n + 1)))) ≡ first_of (filter p (range_with_len n (16 - n)))
skip_first p n below fails =
    let e : 16 - n ≡ suc (16 - (n + 1)) = omega (arith, below) in
    sym (ap (λ m. first_of (filter p (range_with_len n m))) e ∙ ap (λ b. first_of (if b then n ∷ filter p (range_with_len (n + 1) (16 - (n + 1))) else filter p (range_with_len (n + 1) (16 - (n + 1))))) fails)
