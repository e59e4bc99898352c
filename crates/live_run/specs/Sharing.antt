-- What the threads of a live run keep under their lock.
use Rattle.std.specs.Prelude.{◌≡◌, ℕ, ◌+◌, ◌<◌, ◌≤◌, Bool, false, [], List, length, reverse, slice_index_or, Option, None, Some}
use Rattle.grid_book.specs.Booked.{Booked, history_of}
use Rattle.grid_book.specs.declared.act_fault.ActFault.{ActFault}
use Rattle.grid_book.specs.declared.act_fault.ActFault.TheVariants as faults
use Rattle.grid_script.specs.Scripts.{Lives}
use Rattle.pipeline_expr.specs.declared.kind.ValueKind.TheVariants as kinds
use Rattle.segment_hash.specs.declared.partition.Partition.TheVariants as partitions
use Rattle.topology_phase.specs.declared.aim.Aim.TheVariants as aims
use Rattle.live_run.specs.Due.{WasFull}
use Rattle.live_run.specs.Serving.{IsPartlyServed, changes_in, deeds_by}

-- the book serves a part of the script and has its whole load; the counts are what each session did, and how many changes were made
pub record IsServing (script : Lives) (book : Booked) (done : List ℕ) (moved : ℕ) : Type 0 where
  pub partly : IsPartlyServed script (history_of book)
  pub whole : length script.load ≤ length book.events
  pub counts : (k : ℕ) → k < length script.sessions → slice_index_or done k 0 ≡ length (deeds_by (k + 1) (reverse book.events))
  pub all : length done ≡ length script.sessions
  pub changes : moved ≡ length (changes_in (reverse book.events))

-- a kept fault has its cause
abbrev pub HasCause : Lives → Booked → Option ActFault → Type 0
HasCause script book fault = fault ≡ Some faults.Full → WasFull script (history_of book)

-- what the threads share: the script is this one, the book serves a part of it, a kept fault has its cause, and there is none as long
-- as the run isn't stopped
pub record IsShared (script held : Lives) (book : Booked) (done : List ℕ) (moved : ℕ) (stop : Bool) (fault : Option ActFault) : Type 0 where
  pub same : held ≡ script
  pub serving : IsServing script book done moved
  pub cause : HasCause script book fault
  pub sound : stop ≡ false → fault ≡ None

-- a script of nothing
abbrev pub no_script : Lives
no_script = record {
  config = record { nodes = 1; segments = 1; owners = 1; partition = partitions.Plain; values = kinds.Int; chunk = 1; aim = aims.Create };
  load = [];
  changes = [];
  sessions = [];
}
