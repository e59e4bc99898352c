use Rattle.std.proofs.Common.{◌≡◌, ◌++◌, map, length, true, sym, ap, ◌∙◌, arith}
use Rattle.container_seg.specs.Lifespans.{fresh, outlasts}
use Rattle.container_seg.specs.Scans.{stamped_entry}
use Rattle.container_seg.proofs.Gathering.{fresh_take, gathered_some}
use Rattle.container_seg.proofs.segment_map.gather_up.Goals as goal

pub returns-then-len-from : goal.returns-then-len-from
returns-then-len-from c =
    let taken = c.loop-key.entries.list in
    let k = c.in-Some.key.now in
    let v = c.in-Some.stamped.now in
    let rest = c.next.new.self in
    let into : outlasts c.args.clock v.until ≡ true = sym c.outlasts.ensures ∙ c.if-not-outlasts.false in
    let full : length taken ≡ c.args.most = omega arith in
    gathered_some c.args.most (fresh c.args.clock c.args.range) taken (stamped_entry (k, v)) (map stamped_entry (fresh c.args.clock c.next.new.self))
    (c.loop-key.invariant.so_far ∙ ap (λ es. taken ++ map stamped_entry es) (fresh_take c.args.clock c.loop-key.range rest k v c.in-Some.ensures.steps into)) full
