use Rattle.std.proofs.Common.{◌≡◌, ◌++◌, length, map, unwrap_or}
use Rattle.std.specs.FinMap as finite
use Rattle.serde_json.specs.View.{view}
use Rattle.grid_journal.specs.Briefs.{call_data, result_text}
use Rattle.grid_journal.proofs.json_briefs.calls.Given as goal

-- the calls so far and those left are all calls
abbrev pub invariant-loop-call : goal.invariant-loop-call
invariant-loop-call l =
    map view l.calls.items ++ map (λ call. call_data call.0 (result_text call.1 (unwrap_or (finite.get l.standing.given call.0) 0))) l.left
    ≡ map (λ call. call_data call.0 (result_text call.1 (unwrap_or (finite.get l.standing.given call.0) 0))) (finite.entries l.standing.outcomes)

abbrev pub decreases-loop-call : goal.decreases-loop-call
decreases-loop-call l = length l.left
