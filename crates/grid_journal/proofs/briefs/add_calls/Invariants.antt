use Rattle.std.proofs.Common.{◌≡◌, ◌++◌, length, unwrap_or}
use Rattle.std.specs.FinMap as finite
use Rattle.grid_journal.specs.Briefs.{calls_text}
use Rattle.grid_journal.proofs.briefs.add_calls.Given as goal

-- what stands there and the text of the calls left are the whole
abbrev pub invariant-loop-call : goal.invariant-loop-call
invariant-loop-call l =
    l.out.list ++ calls_text (λ call. unwrap_or (finite.get l.standing.given call) 0) l.left
    ≡ l.initial.out.list ++ calls_text (λ call. unwrap_or (finite.get l.standing.given call) 0) (finite.entries l.standing.outcomes)

abbrev pub decreases-loop-call : goal.decreases-loop-call
decreases-loop-call l = length l.left
