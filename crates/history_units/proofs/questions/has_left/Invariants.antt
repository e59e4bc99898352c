use Rattle.history_units.proofs.questions.has_left.Given as goal

abbrev pub ghost-departed_at : goal.ghost-departed_at
ghost-departed_at g a = g.past

abbrev pub ghost-unread_at : goal.ghost-unread_at
ghost-unread_at g a = g.past
