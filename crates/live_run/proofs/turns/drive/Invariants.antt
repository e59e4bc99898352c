-- Nothing of sessions and changes is done.
use Rattle.std.proofs.Common.{◌≡◌, ℕ, reverse}
use Rattle.live_run.specs.Serving.{changes_in}
use Rattle.live_run.specs.Staying.{IsBegun, Stays}
use Rattle.live_run.proofs.turns.drive.Given as goal

abbrev pub invariant-loop-number : goal.invariant-loop-number
invariant-loop-number l = record {
  begun : IsBegun l.script l.book;
  stays : (k : ℕ) → Stays l.initial.book l.book k;
  changes : changes_in (reverse l.book.events) ≡ changes_in (reverse l.initial.book.events);
}
