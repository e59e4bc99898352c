-- Losses are noted in rows as in calls.
use Rattle.std.proofs.Common.{◌≡◌, ℕ, cond, not, ◌&&◌, List, filter, Option, Some, None, is_none, refl, sym, ap, ◌∙◌}
use Rattle.std.specs.FinSet as set_of
use Rattle.std.specs.Option.{option_map}
use Rattle.std.specs.Ordering.{nat_cmp}
use Rattle.delivery_mode.specs.Guarantee.{asks_again}
use Rattle.topology_phase.specs.Owners.{among}
use Rattle.cluster_model.specs.State.{Unit}
use Rattle.cluster_model.specs.Topologies.{is_complete, notes_losses}
use Rattle.cluster_calls.specs.Rows.{notes}
use Rattle.cluster_calls.specs.declared.row.Row.{Row}
use Rattle.cluster_calls.proofs.SetLaws.{among-filter, in_items, same_notes}

-- a row that notes losses is the row of the call that notes them
noted_same : (lost : set_of.FinSet nat_cmp) (units : List Unit) (segments : List ℕ) (q : ℕ) (row : Row) → ((s : ℕ) → set_of.contains lost s ≡ among s segments)
    → ((s : ℕ) → set_of.contains row.tally.complete s ≡ is_complete units q s) → (notes lost row).call ≡ notes_losses units segments q row.call
noted_same lost units segments q row alike complete =
    ap (λ (set : set_of.FinSet nat_cmp). record row.call { lost = cond (is_none row.call.outcome && asks_again row.call.request.guarantee) set row.call.lost })
    (same_notes (filter (λ s. not (set_of.contains row.tally.complete s)) (set_of.items lost)) (filter (λ s. not (is_complete units q s)) segments) row.call.lost (λ s.
    among-filter (λ t. not (set_of.contains row.tally.complete t)) s (set_of.items lost)
    ∙ (λ i. not (complete s i) && (sym (in_items lost s) ∙ alike s) i)
    ∙ sym (among-filter (λ t. not (is_complete units q t)) s segments)))

-- a row that notes losses has a call that notes them
pub noted_alike : (lost : set_of.FinSet nat_cmp) (units : List Unit) (segments : List ℕ) (q : ℕ) (o : Option Row) → ((s : ℕ) → set_of.contains lost s ≡ among s segments)
    → ((row : Row) → o ≡ Some row → (s : ℕ) → set_of.contains row.tally.complete s ≡ is_complete units q s)
    → option_map (λ (r : Row). r.call) (option_map (notes lost) o) ≡ option_map (notes_losses units segments q) (option_map (λ (r : Row). r.call) o)
noted_alike lost units segments q None alike complete = refl
noted_alike lost units segments q (Some row) alike complete = ap Some (noted_same lost units segments q row alike (complete row refl))
