use Rattle.pipeline_parse.proofs.pipelines.+read_further.Given as goal

abbrev pub decreases-read_further : goal.decreases-read_further
decreases-read_further l = l.turns
