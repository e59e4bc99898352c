-- The same options are given, in whatever order.
use Rattle.grid_shell.proofs.WordTable.{order_is_free}
use Rattle.grid_shell.proofs.word_laws.the_order_of_options_is_free.Goals as goal

pub returns : goal.returns
returns c = order_is_free
