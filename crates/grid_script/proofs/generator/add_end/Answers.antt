use Rattle.std.proofs.Common.{subst, ◌∙◌, ◌++◌, ◌∷◌, [], ◌≡◌}
use Rattle.std.specs.Prelude.{OnOk}
use Rattle.grid_script.specs.declared.order.Order.TheVariants.{Finish}
use Rattle.grid_script.specs.Generating.{numbered}
use Rattle.grid_script.proofs.Numbering.{two}
use Rattle.grid_script.proofs.generator.add_end.Goals as goal

pub returns : goal.returns
returns c = λ before e.
    let a = c.in_ok-add.ensures before e in
    subst (λ orders. OnOk c.add-2.result (c.add-2.new.lines ≡ numbered 8 orders)) (two before (Finish c.new.result) (Finish c.new-2.result) ∙ (λ i. before ++ (Finish (c.new.ensures i) ∷ Finish (c.new-2.ensures i) ∷ []))) (c.add-2.ensures (before ++ Finish c.new.result ∷ []) a)
