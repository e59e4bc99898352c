-- What a worker makes a piece of.
use Rattle.std.specs.Prelude.{◌≡◌, ℕ, Some}
use Rattle.pipeline_split.specs.Pieces as pieces
use Rattle.cluster_core.specs.Parts.{piece_of, ready_behind}
use Rattle.cluster_model.specs.State.{State}
use Rattle.grid_book.specs.declared.job.Job.{Job}

-- the job is that of the least unit above the number that is ready at the node, and its half makes the unit's own piece of its entries
pub record IsJobOf (st : State) (node number : ℕ) (job : Job) : Type 0 where
  pub unit : ready_behind st node number ≡ Some job.unit
  pub piece : piece_of st job.unit ≡ Some (pieces.piece job.remote job.entries.list)
