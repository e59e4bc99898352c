use Rattle.std.proofs.Common.{◌∙◌, ◌+◌, sym, true≢false, ap, Err, take, drop}
use Rattle.pipeline_parse.proofs.ValueLaws.{quoted_is_text}
use Rattle.pipeline_parse.proofs.reading.read_quoted.Goals as goal

pub returns-in-Err-Bad : goal.returns-in-Err-Bad
returns-in-Err-Bad c =
    absurd (true≢false (sym (quoted_is_text c.args.text.now (take c.in_ok-length.length c.args.text.now) (drop (c.in_ok-length.length + 1) c.args.text.now) c.in_ok-length.ensures.ok.1) ∙ c.in-Err-Bad.ensures.bad.0 (ap (λ x. Err x) c.in-Err-Bad.field-0-is)))
