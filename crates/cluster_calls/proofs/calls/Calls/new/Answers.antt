use Rattle.std.proofs.Common.{refl, ap, ◌∙◌}
use Rattle.cluster_calls.specs.Rows.{calls_in}
use Rattle.cluster_calls.proofs.CallsLaws.{no_calls_in, nothing_kept, seen_alike}
use Rattle.cluster_calls.proofs.ListedLaws.{registered_none}
use Rattle.cluster_calls.proofs.calls.Calls.new.Goals as goal

pub invariant_of-result : goal.invariant_of-result
invariant_of-result c = nothing_kept _ c.new.ensures.items c.new-2.ensures c.requires refl refl (registered_none _ _ c.new.ensures.items c.empty.ensures)

pub returns : goal.returns
returns c = seen_alike c.args.segments _ _ _ _ c.new.ensures.items (ap calls_in c.new-2.ensures ∙ no_calls_in)
