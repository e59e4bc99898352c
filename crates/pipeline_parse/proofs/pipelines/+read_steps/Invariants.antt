use Rattle.pipeline_parse.proofs.pipelines.+read_steps.Given as goal

abbrev pub decreases-read_steps : goal.decreases-read_steps
decreases-read_steps l = l.turns
