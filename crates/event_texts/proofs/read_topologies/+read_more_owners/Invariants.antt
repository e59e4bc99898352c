use Rattle.event_texts.proofs.read_topologies.+read_more_owners.Given as goal

abbrev pub decreases-read_more_owners : goal.decreases-read_more_owners
decreases-read_more_owners l = l.room
