use Rattle.std.proofs.Common.{refl}
use Rattle.grid_script.proofs.live_lines.read_live_put.Goals as goal

pub returns-clause-kept : goal.returns-clause-kept
returns-clause-kept c = c.put_told.ensures.kept c.args.known.now refl (c.in_ok-needs_segment.ensures, c.in_ok-needs_kind.ensures)
