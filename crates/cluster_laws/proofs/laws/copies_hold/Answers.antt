-- All is kept in every run, and this follows from it.
use Rattle.std.proofs.Common.{reverse}
use Rattle.cluster_model.specs.State.{start}
use Rattle.cluster_model.specs.Step.{state}
use Rattle.cluster_laws.proofs.Runs.{always_kept, kept_copies}
use Rattle.cluster_laws.proofs.laws.copies_hold.Goals as goal

pub returns : goal.returns
returns c config events good is = kept_copies config (reverse events) (state (start config) events) (always_kept config events good is)
