use Rattle.std.proofs.Common.{◌≡◌, ℕ, not, ◌&&◌, ◌||◌, nat_lt}
use Rattle.std.specs.FinSet as set_of
use Rattle.cluster_calls.proofs.table.note_all.Given as goal

abbrev pub invariant-loop-number : goal.invariant-loop-number
invariant-loop-number l =
    record {
      call : l.call ≡ record l.initial.call { lost = l.call.lost };
      noted : (s : ℕ) → set_of.contains l.call.lost s
          ≡ ((nat_lt s l.number && (set_of.contains l.lost s && not (set_of.contains l.tally.complete s))) || set_of.contains l.initial.call.lost s);
    }
