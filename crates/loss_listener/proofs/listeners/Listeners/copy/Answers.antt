use Rattle.std.proofs.Common.{◌≡◌, ap, sym, ◌∙◌}
use Rattle.std.proofs.lemmas.List.Elements.{same_from_all_zip}
use Rattle.std.specs.FinMap as map
use Rattle.loss_listener.specs.Index.{index_has, list_has}
use Rattle.loss_listener.proofs.listeners.Listeners.copy.Goals as goal

pub returns : goal.returns
returns c =
    ap map.from_entries (same_from_all_zip _ c.self.inside.units.entries c.in_ok-units.units.entries c.in_ok-units.ensures.cases (λ x y r i. (r.0 i, r.1 i))) ∙ c.self.view_is

pub invariant_of-result : goal.invariant_of-result
invariant_of-result c = λ place unit.
    ap (λ es. index_has es place unit)
    (same_from_all_zip _ c.self.inside.index.entries c.in_ok-index.index.entries c.in_ok-index.ensures.cases
    (λ x y r. let keys : y.1.keys ≡ x.1.keys = same_from_all_zip _ x.1.keys y.1.keys r.1 (λ j k e. e) in λ i. (r.0 i, record { keys = keys i })))
    ∙ c.self.invariant place unit
    ∙ ap (λ es. list_has es place unit)
    (sym (same_from_all_zip _ c.self.inside.units.entries c.in_ok-units.units.entries c.in_ok-units.ensures.cases (λ x y r i. (r.0 i, r.1 i))))
