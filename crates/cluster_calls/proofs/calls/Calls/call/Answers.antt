use Rattle.std.proofs.Common.{sym, ap, ◌∙◌}
use Rattle.std.specs.Option.{option_map}
use Rattle.cluster_model.specs.State.{Calling, call_of}
use Rattle.cluster_calls.specs.declared.row.Row.{Row}
use Rattle.cluster_calls.proofs.RowTables.{get-calls_in}
use Rattle.cluster_calls.proofs.calls.Calls.call.Goals as goal

pub returns-in-None : goal.returns-in-None
returns-in-None c =
    ap (option_map (λ (r : Row). r.call)) c.in-None.ensures ∙ sym (get-calls_in c.self.inside.table c.args.number) ∙ ap (λ (x : Calling). call_of x c.args.number) c.self.view_is

pub returns-in-Some : goal.returns-in-Some
returns-in-Some c =
    ap (option_map (λ (r : Row). r.call)) c.in-Some.ensures ∙ sym (get-calls_in c.self.inside.table c.args.number) ∙ ap (λ (x : Calling). call_of x c.args.number) c.self.view_is
