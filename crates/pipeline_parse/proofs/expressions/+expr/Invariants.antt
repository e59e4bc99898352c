use Rattle.std.proofs.Common.{◌+◌, ◌*◌}
use Rattle.pipeline_parse.proofs.expressions.+expr.Given as goal

abbrev pub decreases-read_expr : goal.decreases-read_expr
decreases-read_expr l = 4 * l.depth

abbrev pub decreases-read_level : goal.decreases-read_level
decreases-read_level l = 4 * l.depth + 3

abbrev pub decreases-read_form : goal.decreases-read_form
decreases-read_form l = 4 * l.depth + 2

abbrev pub decreases-read_binary : goal.decreases-read_binary
decreases-read_binary l = 4 * l.depth + 1

abbrev pub decreases-read_not : goal.decreases-read_not
decreases-read_not l = 4 * l.depth + 1

abbrev pub decreases-read_length : goal.decreases-read_length
decreases-read_length l = 4 * l.depth + 1

abbrev pub decreases-read_starts : goal.decreases-read_starts
decreases-read_starts l = 4 * l.depth + 1
