use Rattle.std.proofs.Common.{◌≡◌, ◌+◌, drop}
use Rattle.audit_clauses.specs.Shapes.{are_numbered, units_asked}
use Rattle.history_units.proofs.units.Units.fits_asks.Given as goal

-- the asks so far have the next numbers
abbrev pub invariant-loop-ask : goal.invariant-loop-ask
invariant-loop-ask g l =
    (l.next ≡ (units_asked g.past + 1) + l.ask-index) × (are_numbered l.next (drop l.ask-index l.asks) ≡ are_numbered (units_asked g.past + 1) l.asks)
