-- What is left to register is new, and units that aren't asked stay as they were.
use Rattle.std.proofs.Common.{◌≡◌, ℕ, true, false, drop, map}
use Rattle.std.specs.FinMap as map_of
use Rattle.grid_event.specs.declared.call_events.Ask.{Ask}
use Rattle.topology_phase.specs.Owners.{among}
use Rattle.cluster_calls.specs.Listed.{are_new, with_asked}
use Rattle.cluster_calls.proofs.calls.rounds.register_all.Given as goal

abbrev pub invariant-loop-ask : goal.invariant-loop-ask
invariant-loop-ask l =
    record {
      all : with_asked l.listeners (drop l.ask-index l.asks) ≡ with_asked l.initial.listeners l.asks;
      new_ : are_new l.listeners (drop l.ask-index l.asks) ≡ true;
      others : (n : ℕ) → among n (map (λ (a : Ask). a.unit) l.asks) ≡ false → map_of.get l.listeners n ≡ map_of.get l.initial.listeners n;
    }
