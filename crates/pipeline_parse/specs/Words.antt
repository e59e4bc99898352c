-- The words of the grammar, by the places where they are chosen from.
use Rattle.std.specs.Prelude.{ℕ, true, false, List, [], ◌∷◌, codes}
use Rattle.pipeline_expr.specs.declared.end.End.TheVariants as end
use Rattle.pipeline_parse.specs.Grammar.{end_text, flag_text}
use Rattle.pipeline_parse.specs.declared.forms.Form.{Form}
use Rattle.pipeline_parse.specs.declared.forms.Form.TheVariants as form
use Rattle.pipeline_parse.specs.declared.forms.Between.{Between}
use Rattle.pipeline_parse.specs.declared.forms.Between.TheVariants as sign
use Rattle.pipeline_parse.specs.declared.forms.Opening.{Opening}
use Rattle.pipeline_parse.specs.declared.forms.Opening.TheVariants as opening
use Rattle.pipeline_parse.specs.declared.forms.Behind.{Behind}
use Rattle.pipeline_parse.specs.declared.forms.Behind.TheVariants as behind
use Rattle.pipeline_parse.specs.declared.forms.Start.{Start}
use Rattle.pipeline_parse.specs.declared.forms.Start.TheVariants as start
use Rattle.pipeline_parse.specs.declared.forms.Step.{Step}
use Rattle.pipeline_parse.specs.declared.forms.Step.TheVariants as step

abbrev pub form_word : Form → List ℕ
form_word form.Key = codes "key"
form_word form.Value = codes "value"
form_word form.It = codes "it"
form_word (form.Flag b) = flag_text b
form_word form.Open = codes "("
form_word form.Not = codes "not("
form_word form.Length = codes "length("
form_word form.Starts = codes "starts("

abbrev pub forms : List Form
forms = form.Key ∷ form.Value ∷ form.It ∷ form.Flag true ∷ form.Flag false ∷ form.Open ∷ form.Not ∷ form.Length ∷ form.Starts ∷ []

abbrev pub between_word : Between → List ℕ
between_word sign.Add = codes " + "
between_word sign.Sub = codes " - "
between_word sign.Mul = codes " * "
between_word sign.Same = codes " = "
between_word sign.Less = codes " < "
between_word sign.And = codes " and "
between_word sign.Or = codes " or "

abbrev pub signs : List Between
signs = sign.Add ∷ sign.Sub ∷ sign.Mul ∷ sign.Same ∷ sign.Less ∷ sign.And ∷ sign.Or ∷ []

abbrev pub opening_word : Opening → List ℕ
opening_word opening.List = codes "["
opening_word opening.Words = codes "words("

abbrev pub openings : List Opening
openings = opening.List ∷ opening.Words ∷ []

abbrev pub behind_word : Behind → List ℕ
behind_word behind.Another = codes ", "
behind_word behind.Close = codes "]"

abbrev pub behinds : List Behind
behinds = behind.Another ∷ behind.Close ∷ []

abbrev pub start_word : Start → List ℕ
start_word start.Filter = codes "filter "
start_word start.Map = codes "map "
start_word start.FlatMap = codes "flatmap "
start_word start.Distinct = codes "distinct"

abbrev pub step_word : Step → List ℕ
step_word (step.Op s) = start_word s
step_word (step.Last e) = end_text e

abbrev pub steps : List Step
steps =
    step.Op start.Filter ∷ step.Op start.Map ∷ step.Op start.FlatMap ∷ step.Op start.Distinct ∷ step.Last end.Count ∷ step.Last end.Sum ∷ step.Last end.Min ∷ step.Last end.Max ∷ step.Last end.Collect ∷ step.Last end.Each ∷ []
