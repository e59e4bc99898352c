-- The sessions before this one are finished, and the others did what they had done.
use Rattle.std.proofs.Common.{◌≡◌, ◌≤◌, ◌<◌, ◌+◌, ℕ, length, reverse}
use Rattle.std.specs.Prelude.{slice_index_or}
use Rattle.live_run.specs.Serving.{changes_in, deeds_by}
use Rattle.live_run.specs.Staying.{IsBegun, IsFinishedBy}
use Rattle.live_run.proofs.serial.finish_sessions.Given as goal

abbrev pub invariant-loop-place : goal.invariant-loop-place
invariant-loop-place l = record {
  begun : IsBegun l.script l.book;
  finished : (k : ℕ) → k < l.place → IsFinishedBy l.script l.book (k + 1);
  counts : (k : ℕ) → l.place ≤ k → k < length l.script.sessions → slice_index_or l.done k 0 ≡ length (deeds_by (k + 1) (reverse l.book.events));
  changes : changes_in (reverse l.book.events) ≡ changes_in (reverse l.initial.book.events);
}
