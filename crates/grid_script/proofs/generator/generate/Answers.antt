use Rattle.std.proofs.Common.{ap, ◌∙◌, ◌++◌, ◌∷◌, [], ◌≡◌, List}
use Rattle.grid_script.specs.declared.order.Order.{Order}
use Rattle.grid_script.specs.declared.order.Order.TheVariants.{Finish}
use Rattle.grid_script.specs.Generating.{calls_orders, generated, key_orders, numbered, state_after, step_orders}
use Rattle.grid_script.proofs.Numbering.{regroup}
use Rattle.grid_script.proofs.generator.generate.Goals as goal

pub returns : goal.returns
unfolding generated
returns c =
    let keys : List Order = key_orders c.from.result c.args.keys in
    let steps : List Order = step_orders c.in_ok-state.state c.args.steps in
    let last : List Order = Finish 1 ∷ Finish 2 ∷ [] in
    let a = c.in_ok-state.ensures.lines [] c.new-lines.ensures in
    let b = c.in_ok-add_calls.ensures keys a in
    let d = c.in_ok-add_steps.ensures (keys ++ calls_orders) b in
    let f = c.in_ok-add_end.ensures ((keys ++ calls_orders) ++ steps) d in
    let state : c.in_ok-state.state ≡ state_after c.args.seed c.args.keys = c.in_ok-state.ensures.state ∙ ap (λ s. state_after s c.args.keys) c.from.ensures in
    let all : c.add_end.new.lines ≡ numbered 8 (key_orders c.args.seed c.args.keys ++ (calls_orders ++ (step_orders (state_after c.args.seed c.args.keys) c.args.steps ++ last))) =
    f ∙ (ap (numbered 8) (regroup keys calls_orders steps last)
    ∙ (λ i. numbered 8 (key_orders (c.from.ensures i) c.args.keys ++ (calls_orders ++ (step_orders (state i) c.args.steps ++ last))))) in
    λ i. record { config = c.settings.ensures i; lines = all i }
