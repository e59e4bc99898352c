use Rattle.std.proofs.Common.{sym, ◌∙◌}
use Rattle.std.specs.FinMap as map
use Rattle.std.specs.List.{filter}
use Rattle.std.specs.Option.{option_copied}
use Rattle.container_seg.specs.Scans.{comes_after}
use Rattle.container_seg.proofs.Trees.{filter_all}
use Rattle.container_seg.proofs.segment_map.SegmentMap.range_from.Goals as goal

pub returns-in_default : goal.returns-in_default
returns-in_default c =
    c.all.ensures
    ∙ sym (filter_all (map.entries c.args.self.now))
    ∙ (λ i. filter (λ e. comes_after c.args.node (option_copied (sym c.in_default.is i)) e.0) (map.entries c.args.self.now))
