use Rattle.std.proofs.Common.{◌++◌, take, length, ◌<◌, ◌≤◌, arith, refl}
use Rattle.std.proofs.KnownBytes.{Consumes-trans}
use Rattle.grid_io.proofs.Pieces.{Consumes-end, past_the_limit, within_the_limit}
use Rattle.grid_io.proofs.ReadAll.{not_too_long}
use Rattle.grid_io.proofs.reading.read_all.Goals as goal

pub returns-then-count-eq0-clause-end : goal.returns-then-count-eq0-clause-end
returns-then-count-eq0-clause-end g c =
    let read = c.in_ok-count.ensures in
    Consumes-end _ _ _ _ _ _ c.if-count-eq0.true c.pieces.invariant.taken read.taken read.end

pub returns-then-count-limit-clause-taken : goal.returns-then-count-limit-clause-taken
returns-then-count-limit-clause-taken g c =
    let read = c.in_ok-count.ensures in
    let taken = c.pieces.bytes.list ++ take c.in_ok-count.count c.read.new.buf in
    let more : c.args.limit < length taken =
    past_the_limit _ _ _ _ read.bound (rw c.len.ensures at c.if-count-limit.true) in
    (taken, Consumes-trans _ _ _ _ _ c.pieces.invariant.taken read.taken, ((λ _. more), (λ _. refl)))

pub returns-in_err-extend-clause-taken : goal.returns-in_err-extend-clause-taken
returns-in_err-extend-clause-taken g c =
    let read = c.in_ok-count.ensures in
    let kept = c.pieces.invariant in
    let taken = c.pieces.bytes.list ++ take c.in_ok-count.count c.read.new.buf in
    let few : length taken ≤ c.args.limit =
    within_the_limit _ _ _ _ read.bound kept.short (rw c.len.ensures at c.if-count-limit.false) in
    let no_memory = not_too_long _ c.from_residual-in_err-extend.ensures.1 in
    (taken, Consumes-trans _ _ _ _ _ kept.taken read.taken, ((λ e. absurd (no_memory e)), (λ more. absurd (omega (arith, few, more)))))
