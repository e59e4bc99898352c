-- The session did so many orders.
use Rattle.std.proofs.Common.{◌≡◌, ◌==◌, ℕ, false, length, reverse}
use Rattle.live_run.specs.Serving.{changes_in, deeds_by}
use Rattle.live_run.specs.Staying.{IsBegun, Stays}
use Rattle.live_run.proofs.serial.finish_session.Given as goal

abbrev pub invariant-loop-place : goal.invariant-loop-place
invariant-loop-place l = record {
  begun : IsBegun l.script l.book;
  count : l.place ≡ length (deeds_by l.session.number (reverse l.book.events));
  stays : (k : ℕ) → (l.session.number == k) ≡ false → Stays l.initial.book l.book k;
  changes : changes_in (reverse l.book.events) ≡ changes_in (reverse l.initial.book.events);
}
