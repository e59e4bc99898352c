use Rattle.event_texts.proofs.read_topologies.+read_more_rows.Given as goal

abbrev pub decreases-read_more_rows : goal.decreases-read_more_rows
decreases-read_more_rows l = l.room
