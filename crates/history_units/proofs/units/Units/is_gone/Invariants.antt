use Rattle.history_units.proofs.units.Units.is_gone.Given as goal

abbrev pub ghost-has_left : goal.ghost-has_left
ghost-has_left g a = g.past
