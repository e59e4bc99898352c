use Rattle.std.proofs.Common.{◌≡◌, ◌++◌, true, take, drop}
use Rattle.std.specs.List.{list_all}
use Rattle.pipeline_parse.specs.Grammar.{expr_fits, further_text}
use Rattle.pipeline_parse.proofs.printing.add_further.Given as goal

abbrev pub invariant-loop-expr : goal.invariant-loop-expr
invariant-loop-expr l = record {
  text : l.out.list ++ further_text (drop l.expr-index l.list) ≡ l.fn.out.list ++ further_text l.list;
  keeps : list_all expr_fits (take l.expr-index l.list) ≡ true;
}
