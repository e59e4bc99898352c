-- So many entries of the load are put, and nothing else is done.
use Rattle.std.proofs.Common.{◌≡◌}
use Rattle.live_run.specs.Staying.{with_load}
use Rattle.live_run.proofs.loading.do_load.Given as goal

abbrev pub invariant-loop-place : goal.invariant-loop-place
invariant-loop-place l = l.book ≡ with_load l.script l.place
