use Rattle.std.proofs.Common.{subst, ◌∙◌, ◌++◌, ◌∷◌, [], ◌≡◌, List}
use Rattle.std.specs.Prelude.{OnOk}
use Rattle.grid_event.specs.declared.command.Command.TheVariants as command
use Rattle.grid_script.specs.declared.order.Order.{Order}
use Rattle.grid_script.specs.declared.order.Order.TheVariants.{One}
use Rattle.grid_script.specs.Generating.{calls_orders, numbered}
use Rattle.grid_script.proofs.Numbering.{six}
use Rattle.grid_script.proofs.generator.add_calls.Goals as goal

pub returns : goal.returns
returns c = λ before e.
    let spare : Order = c.in_ok-spare.spare in
    let count : Order = c.in_ok-count.count in
    let each : Order = c.in_ok-each.each in
    let one : List Order = before ++ spare ∷ [] in
    let two : List Order = one ++ count ∷ [] in
    let three : List Order = two ++ each ∷ [] in
    let four : List Order = three ++ One (command.Round c.new.result) ∷ [] in
    let five : List Order = four ++ One (command.Round c.new-2.result) ∷ [] in
    let a = c.in_ok-add.ensures before e in
    let b = c.in_ok-add-2.ensures one a in
    let d = c.in_ok-add-3.ensures two b in
    let f = c.in_ok-add-4.ensures three d in
    let g = c.in_ok-add-5.ensures four f in
    let all : five ++ One (command.Join c.new-3.result) ∷ [] ≡ before ++ calls_orders =
    six before spare count each (One (command.Round c.new.result)) (One (command.Round c.new-2.result)) (One (command.Join c.new-3.result))
    ∙ (λ i. before ++ (c.in_ok-spare.ensures i ∷ c.in_ok-count.ensures i ∷ c.in_ok-each.ensures i ∷ One (command.Round (c.new.ensures i)) ∷ One (command.Round (c.new-2.ensures i)) ∷ One (command.Join (c.new-3.ensures i)) ∷ [])) in
    subst (λ orders. OnOk c.add-6.result (c.add-6.new.lines ≡ numbered 8 orders)) all (c.add-6.ensures five g)
