-- The segments of the set so far are forgotten.
use Rattle.std.proofs.Common.{◌≡◌, ◌&&◌, nat_lt}
use Rattle.std.specs.FinSet as set_of
use Rattle.state_transfer.specs.Leaving.{forgets}
use Rattle.cluster_store.proofs.store.members.forget_all.Given as goal

abbrev pub invariant-loop-number : goal.invariant-loop-number
invariant-loop-number l = l.copies ≡ record l.fn.copies { copying = forgets (λ s. nat_lt s l.number && set_of.contains l.segments s) l.fn.copies.copying }
