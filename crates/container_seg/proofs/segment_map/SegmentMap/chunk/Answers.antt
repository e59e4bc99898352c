use Rattle.std.proofs.Common.{◌≡◌, IfOk, reverse, ap, subst, ◌∙◌}
use Rattle.std.specs.FinMap as map
use Rattle.std.specs.Option.{option_copied}
use Rattle.grid_base.specs.Portion.{Portion}
use Rattle.grid_base.specs.declared.stamped_entry.StampedEntry.{StampedEntry}
use Rattle.container_seg.specs.Lifespans.{fresh}
use Rattle.container_seg.specs.Scans.{first_chunk}
use Rattle.container_seg.proofs.Gathering.{beyond_up, beyond_down}
use Rattle.container_seg.proofs.segment_map.SegmentMap.chunk.Goals as goal

pub returns-then-node-eq0 : goal.returns-then-node-eq0
returns-then-node-eq0 c =
    subst (λ (p : Portion StampedEntry). IfOk c.gather_up.result (λ chunk. chunk ≡ p))
    (ap (λ es. first_chunk c.args.most (fresh c.args.clock es)) c.range_from-range.ensures
    ∙ ap (first_chunk c.args.most) (beyond_up c.args.clock c.args.node (option_copied c.args.after) (map.entries c.args.self.now) c.if-node-eq0.true))
    c.gather_up.ensures

pub returns : goal.returns
returns c =
    subst (λ (p : Portion StampedEntry). IfOk c.gather_down.result (λ chunk. chunk ≡ p))
    (ap (λ es. first_chunk c.args.most (reverse (fresh c.args.clock es))) c.range_from-range.ensures
    ∙ ap (first_chunk c.args.most) (beyond_down c.args.clock c.args.node (option_copied c.args.after) (map.entries c.args.self.now) c.if-node-eq0.false))
    c.gather_down.ensures
