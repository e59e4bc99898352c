use Rattle.std.proofs.Common.{not, ◌&&◌, sym, ap, ◌∙◌}
use Rattle.std.specs.FinSet as set
use Rattle.std.specs.List.{list_any}
use Rattle.history_members.proofs.Losing.{lost}
use Rattle.history_members.proofs.members.Members.loses_segment.Goals as goal

pub returns-then-names_one : goal.returns-then-names_one
returns-then-names_one g c =
    let some = sym c.names_one.ensures ∙ c.if-names_one.true in
    ap not c.names_one-then-names_one.ensures
    ∙ sym (ap (λ b. b && not (list_any (set.contains c.remove.new.self) c.holders_by-holders.result)) some)
    ∙ lost g.past c.args.self.now c.args.node c.args.segment c.holders_by-holders.result c.remove.new.self c.requires c.holders_by-holders.ensures c.remove.ensures
