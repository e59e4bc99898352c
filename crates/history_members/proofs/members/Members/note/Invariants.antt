use Rattle.history_members.proofs.members.Members.note.Given as goal

abbrev pub ghost-tick : goal.ghost-tick
ghost-tick g a = g.past

abbrev pub ghost-join : goal.ghost-join
ghost-join g a = g.past

abbrev pub ghost-depart : goal.ghost-depart
ghost-depart g a = g.past

abbrev pub ghost-announce : goal.ghost-announce
ghost-announce g a = g.past

abbrev pub ghost-install : goal.ghost-install
ghost-install g a = g.past
