use Rattle.std.proofs.Common.{◌≡◌, is_some, refl, sym, subst, ap, ◌∙◌}
use Rattle.std.specs.FinMap as map_of
use Rattle.std.specs.FinMap.{nat_cmp-IsAntisymmetric}
use Rattle.std.specs.Cmp.{nat_cmp_total}
use Rattle.std.specs.Option.{option_map}
use Rattle.std.specs.Ordering.{nat_cmp}
use Rattle.cluster_model.specs.State.{Call, Calling}
use Rattle.cluster_model.specs.Topologies.{each_call, notes_losses}
use Rattle.cluster_calls.specs.Insides.{IsCalls, calling_of}
use Rattle.cluster_calls.specs.Parts.{HasParts}
use Rattle.cluster_calls.specs.Rows.{Rows, calls_in, each_row, notes}
use Rattle.cluster_calls.specs.declared.row.Row.{Row}
use Rattle.cluster_calls.proofs.CallsLaws.{rows_kept}
use Rattle.cluster_calls.proofs.PartLaws.{pieced_rows, same_request}
use Rattle.cluster_calls.proofs.PastLaws.{past_rows}
use Rattle.cluster_calls.proofs.RightLaws.{mapped_some, right_rows, row_alike, some_mapped}
use Rattle.cluster_calls.proofs.RowTables.{get-calls_in, get-each_call, get-each_row}
use Rattle.cluster_calls.proofs.NoteLaws.{noted_alike}
use Rattle.cluster_calls.proofs.calls.Calls.note_losses.Goals as goal

pub invariant_of-self : goal.invariant_of-self
invariant_of-self c =
    let lost = c.args.lost.now in
    let rows = c.self.inside.table in
    let right = c.self.invariant.right in
    subst (λ (t : Rows). IsCalls (record c.self.inside { table = t })) (sym c.note.ensures)
    (rows_kept c.self.inside c.self.invariant (each_row (notes lost) rows)
    (right_rows c.self.inside.segments c.self.inside.units.items rows (each_row (notes lost) rows) right
    (λ m. ap is_some (get-each_row (notes lost) rows m) ∙ some_mapped (notes lost) (map_of.get rows m))
    (λ n row at.
    let was = mapped_some (notes lost) (map_of.get rows n) row (sym (get-each_row (notes lost) rows n) ∙ at) in
    row_alike c.self.inside.segments c.self.inside.units.items n was.0 row (ap (λ (r : Row). r.call.last_round) was.2) (ap (λ (r : Row). r.tally) was.2) (right.kept n was.0 was.1)))
    (pieced_rows c.self.inside.segments c.self.inside.units.items rows (each_row (notes lost) rows) c.self.invariant.pieced (λ n row at.
    let was = mapped_some (notes lost) (map_of.get rows n) row (sym (get-each_row (notes lost) rows n) ∙ at) in
    subst (λ (r : Row). HasParts c.self.inside.segments c.self.inside.units.items n r.call r.parts) (sym was.2)
    (same_request c.self.inside.segments c.self.inside.units.items n was.0.call (notes lost was.0).call refl refl was.0.parts (c.self.invariant.pieced.parts n was.0 was.1))))
    (past_rows c.self.inside.units.items rows (each_row (notes lost) rows) c.self.inside.past (λ n row at.
    let was = mapped_some (notes lost) (map_of.get rows n) row (sym (get-each_row (notes lost) rows n) ∙ at) in
    (was.0, was.1, λ over. ap (λ (r : Row). is_some r.call.outcome) was.2 ∙ over)) c.self.invariant.past))

pub returns : goal.returns
returns c = λ segments alike.
    let lost = c.args.lost.now in
    let rows = c.self.inside.table in
    let units = c.self.inside.units.items in
    let same : calls_in (each_row (notes lost) rows) ≡ each_call (notes_losses units segments) (calls_in rows) =
    map_of.same_map nat_cmp_total nat_cmp-IsAntisymmetric _ _ (λ q.
    get-calls_in (each_row (notes lost) rows) q
    ∙ ap (option_map (λ (r : Row). r.call)) (get-each_row (notes lost) rows q)
    ∙ noted_alike lost units segments q (map_of.get rows q) alike (λ row at. (c.self.invariant.right.kept q row at).tally.complete)
    ∙ ap (option_map (notes_losses units segments q)) (sym (get-calls_in rows q))
    ∙ sym (get-each_call (notes_losses units segments) (calls_in rows) q)) in
    ap (λ (calls : map_of.FinMap nat_cmp Call). record (calling_of c.self.inside) { calls = calls }) (ap calls_in c.note.ensures ∙ same)
    ∙ ap (λ (x : Calling). record x { calls = each_call (notes_losses x.units segments) x.calls }) c.self.view_is
