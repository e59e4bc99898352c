use Rattle.history_units.proofs.units.Units.end.Given as goal

abbrev pub ghost-is_gone : goal.ghost-is_gone
ghost-is_gone g a = g.past
