-- How what has landed is taken back.
use Rattle.std.specs.Prelude.{◌≡◌, ℕ, true, List, [], ◌∷◌, is_some}
use Rattle.container_seg.specs.Lifespans.{left}
use Rattle.state_transfer.specs.Cells.{Cells}
use Rattle.state_transfer.specs.Changes.{set_cell}
use Rattle.state_transfer.specs.Copying.{copy_at}
use Rattle.state_transfer.specs.declared.landing.Step.{Step}

-- with what stood at each step's key before it put back, the last step first, the cells are the first ones; each key is
-- there when its turn comes, and what is put back hasn't expired
abbrev pub TakesBack : ℕ → ℕ → ℕ → List Step → Cells → Cells → Type 0
TakesBack receiver segment clock [] cells first = cells ≡ first
TakesBack receiver segment clock (step ∷ steps) cells first =
    (is_some (copy_at cells receiver segment step.key) ≡ true)
    × ((left clock step.before ≡ step.before)
    × TakesBack receiver segment clock steps (set_cell cells (record { node = receiver; segment = segment; key = step.key }) step.before) first)
