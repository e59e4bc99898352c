use Rattle.std.proofs.Common.{drop, map, string_bytes}
use Rattle.grid.proofs.Arguments.{IsRead}
use Rattle.grid.proofs.words.words_of.Given as goal

abbrev pub invariant-loop-arg : goal.invariant-loop-arg
invariant-loop-arg g l = IsRead l.words.items (map string_bytes (drop l.arg-index l.args)) (map string_bytes l.args)
