use Rattle.grid_script.proofs.step_lines.read_fields.Goals as goal

pub returns-in-Bare-clause-noted : goal.returns-in-Bare-clause-noted
returns-in-Bare-clause-noted c = c.read_bare.ensures.noted c.args.known.now.ticks
