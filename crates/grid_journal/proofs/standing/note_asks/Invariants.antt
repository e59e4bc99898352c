use Rattle.std.proofs.Common.{◌≡◌, drop}
use Rattle.grid_journal.specs.Standing.{with_asks}
use Rattle.grid_journal.proofs.standing.note_asks.Given as goal

-- the asks that are left make the whole
abbrev pub invariant-loop-ask : goal.invariant-loop-ask
invariant-loop-ask l = with_asks l.call (drop l.ask-index l.asks) l.askers ≡ with_asks l.call l.asks l.initial.askers
