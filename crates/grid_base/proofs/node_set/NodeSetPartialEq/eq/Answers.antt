use Rattle.std.proofs.Common.{◌≡◌, ◌∙◌, ap, sym}
use Rattle.std.specs.Bool.{beq}
use Rattle.std.specs.Cmp.Lexicographic.{pointwise}
use Rattle.grid_base.specs.NodeSet.{inside_of-view}
use Rattle.grid_base.specs.Nodes.{flags_of}
use Rattle.grid_base.proofs.node_set.NodeSetPartialEq.eq.Goals as goal

pub returns : goal.returns
returns c =
    let left : flags_of 0 16 c.args.self.now ≡ c.self.inside.flags =
    ap (flags_of 0 16) (sym c.self.view_is) ∙ ap (λ a. a.flags) (inside_of-view c.self.inside c.self.invariant) in
    let right : flags_of 0 16 c.args.other.now ≡ c.other.inside.flags =
    ap (flags_of 0 16) (sym c.other.view_is) ∙ ap (λ a. a.flags) (inside_of-view c.other.inside c.other.invariant) in
    c.eq.ensures ∙ (λ i. pointwise beq (sym left i) (sym right i))
