-- Sets of calls.
use Rattle.std.specs.Ordering.{nat_cmp}
use Rattle.std.specs.FinSet as set

-- a set of calls, by their numbers
abbrev pub Calls : Type 0
Calls = set.FinSet nat_cmp
