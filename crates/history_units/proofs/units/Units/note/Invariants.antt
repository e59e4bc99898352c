use Rattle.history_units.proofs.units.Units.note.Given as goal

abbrev pub ghost-begin : goal.ghost-begin
ghost-begin g a = g.past

abbrev pub ghost-end : goal.ghost-end
ghost-end g a = g.past
