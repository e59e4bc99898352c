-- Laws of scripts.
use Rattle.std.specs.Prelude.{◌≡◌, ℕ, ◌≤◌, ◌↔◌, true, List, length, Ok}
use Rattle.grid_base.specs.declared.limits.TheConstants.{LONGEST_LINE}
use Rattle.pipeline_expr.specs.declared.pipeline.Pipeline.{Pipeline}
use Rattle.pipeline_parse.specs.Grammar.{fits, text_of}
use Rattle.grid_script.specs.Fields.{pipeline_of}

-- a text stands for a pipeline exactly where it is that pipeline's text, whose values keep their limits, and has at most 1,024 bytes
abbrev pub PipelinesByText : Type 0
PipelinesByText = (text : List ℕ) (p : Pipeline) → (pipeline_of text ≡ Ok p) ↔ ((length text ≤ LONGEST_LINE) × (text_of p ≡ text) × (fits p ≡ true))
