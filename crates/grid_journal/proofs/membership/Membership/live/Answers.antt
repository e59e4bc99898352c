use Rattle.std.proofs.Common.{◌++◌, ◌∷◌, [], cond, ap, sym, ◌∙◌}
use Rattle.std.proofs.lemmas.List.{append-nil}
use Rattle.std.specs.List.{filter, range_with_len}
use Rattle.topology_phase.proofs.OwnerLists.{filter_range_more}
use Rattle.grid_journal.specs.Standing.{stands_live}
use Rattle.grid_journal.proofs.membership.Membership.live.Goals.{then-is_live+in_ok-push, else-is_live}
use Rattle.grid_journal.proofs.membership.Membership.live.Goals as goal

pub loop-node-preserved : goal.loop-node-preserved
loop-node-preserved c =
    let lives = stands_live c.args.self.now in
    let so_far = filter lives (range_with_len 0 c.loop-node.node) in
    elim c.if-is_live.branch [
      | then-is_live+in_ok-push w ↦
          ap (λ nodes. nodes.list) w.nodes-is ∙ w.in_ok-push.ensures.ok ∙ ap (λ nodes. nodes ++ c.loop-node.node ∷ []) c.loop-node.invariant
          ∙ sym (filter_range_more lives c.loop-node.node ∙ ap (λ b. so_far ++ cond b (c.loop-node.node ∷ []) []) (sym c.is_live.ensures ∙ w.if-is_live.true))
      | else-is_live w ↦
          ap (λ nodes. nodes.list) w.nodes-is ∙ c.loop-node.invariant
          ∙ sym (filter_range_more lives c.loop-node.node ∙ ap (λ b. so_far ++ cond b (c.loop-node.node ∷ []) []) (sym c.is_live.ensures ∙ w.if-is_live.false) ∙ append-nil so_far)
    ]
