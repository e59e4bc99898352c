use Rattle.grid_script.proofs.Pipelines.{by_text}
use Rattle.grid_script.proofs.laws.pipelines_stand_by_their_texts.Goals as goal

pub returns : goal.returns
returns c = by_text
