use Rattle.std.proofs.Common.{◌∙◌, ap, sym, add-one, get_or, take, set, arith}
use Rattle.grid_base.specs.Padded.{pad}
use Rattle.grid_base.proofs.Order.{pad-nil, set-pad}
use Rattle.grid_base.proofs.inline_text.padded.Goals as goal

pub loop-i-init : goal.loop-i-init
loop-i-init c = sym (pad-nil 64)

pub loop-i-preserved : goal.loop-i-preserved
loop-i-preserved c =
    ap (λ held. set held c.loop-i.i (get_or c.args.bytes.now c.loop-i.i 0)) c.loop-i.invariant
    ∙ set-pad 64 c.loop-i.i c.args.bytes.now (omega arith) c.requires
    ∙ ap (λ n. pad 64 (take n c.args.bytes.now)) (sym (add-one c.loop-i.i))
