-- So many changes are made.
use Rattle.std.proofs.Common.{◌≡◌, ℕ, length, reverse}
use Rattle.live_run.specs.Serving.{changes_in}
use Rattle.live_run.specs.Staying.{IsBegun, Stays}
use Rattle.live_run.proofs.serial.finish_changes.Given as goal

abbrev pub invariant-loop-place : goal.invariant-loop-place
invariant-loop-place l = record {
  begun : IsBegun l.script l.book;
  stays : (k : ℕ) → Stays l.initial.book l.book k;
  moved : l.place ≡ length (changes_in (reverse l.book.events));
}
