use Rattle.std.proofs.Common.{ap, sym, ◌∙◌}
use Rattle.std.specs.FinMap as map
use Rattle.container_seg.proofs.Trees.{get_tree, tree_insert, on_err}
use Rattle.container_seg.proofs.segment_map.SegmentMap.put.Goals as goal

pub returns-in_err-before-clause-absent : goal.returns-in_err-before-clause-absent
returns-in_err-before-clause-absent c =
    on_err c.from_residual.result (ap (λ m. map.get m c.args.key) (sym c.self.view_is) ∙ get_tree c.self.inside.tree.entries c.args.key ∙ c.in_err-before.ensures.absent)

pub returns-clause-before : goal.returns-clause-before
returns-clause-before c = c.in_ok-before.ensures.old ∙ sym (get_tree c.self.inside.tree.entries c.args.key) ∙ ap (λ m. map.get m c.args.key) c.self.view_is

pub returns-clause-ok : goal.returns-clause-ok
returns-clause-ok c =
    tree_insert c.self.inside.tree.entries c.insert.new.self.entries c.args.key c.args.stamped c.in_ok-before.ensures.updates.0
    ∙ ap (λ m. map.insert m c.args.key c.args.stamped) c.self.view_is
