-- What is served stays so, and each time there is an event more.
use Rattle.std.proofs.Common.{◌≡◌, ◌≤◌, ℕ, length, reverse}
use Rattle.live_run.specs.Serving.{changes_in}
use Rattle.live_run.specs.Staying.{IsBegun, Stays}
use Rattle.live_run.proofs.repeats.repeat.Given as goal

abbrev pub invariant-loop-time : goal.invariant-loop-time
invariant-loop-time l = record {
  begun : IsBegun l.script l.book;
  stays : (k : ℕ) → Stays l.initial.book l.book k;
  changes : changes_in (reverse l.book.events) ≡ changes_in (reverse l.initial.book.events);
  long : l._time ≤ length l.book.events;
}
