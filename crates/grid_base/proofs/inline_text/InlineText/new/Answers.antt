use Rattle.std.proofs.Common.{◌≡◌, ◌≤◌, ◌∙◌, ap, sym, length, take}
use Rattle.grid_base.specs.Padded.{pad}
use Rattle.grid_base.specs.Text.{is_text}
use Rattle.grid_base.proofs.Order.{length-pad, take-pad, text_short}
use Rattle.grid_base.proofs.inline_text.InlineText.new.Goals as goal

pub invariant_of-result : goal.invariant_of-result
invariant_of-result c =
    let short : length c.args.bytes.now ≤ 64 = text_short c.args.bytes.now c.requires in
    let front : take (length c.args.bytes.now) c.padded.result ≡ c.args.bytes.now =
    ap (take (length c.args.bytes.now)) c.padded.ensures ∙ take-pad 64 c.args.bytes.now short in
    record {
      fits = short;
      whole = ap length c.padded.ensures ∙ length-pad 64 c.args.bytes.now;
      valid = ap is_text front ∙ c.requires;
      padded = ap (pad 64) front ∙ sym c.padded.ensures;
    }

pub returns : goal.returns
returns c =
    ap (take (length c.args.bytes.now)) c.padded.ensures
    ∙ take-pad 64 c.args.bytes.now (text_short c.args.bytes.now c.requires)
