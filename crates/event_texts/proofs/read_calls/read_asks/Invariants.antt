use Rattle.std.proofs.Common.{◌≡◌}
use Rattle.event_texts.specs.Reading.{ask, asks, more, no_bar}
use Rattle.event_texts.proofs.read_calls.read_asks.Given as goal

-- the asks left stand behind those that are read already
abbrev pub invariant-loop-turns : goal.invariant-loop-turns
invariant-loop-turns l = asks l.text ≡ more 44 ask no_bar l.turns l.asks l.rest

abbrev pub decreases-loop-turns : goal.decreases-loop-turns
decreases-loop-turns l = l.turns
