-- How texts in place compare.
use Rattle.std.proofs.Common.{◌≡◌, ◌∙◌, sym, take}
use Rattle.std.specs.Cmp.{second_so}
use Rattle.std.specs.Cmp.Lexicographic.{slice_cmp}
use Rattle.std.specs.Ordering.{nat_cmp}
use Rattle.grid_base.specs.InlineText.{IsInlineText}
use Rattle.grid_base.specs.declared.inline_text.InlineText.TheInside.{Inside}
use Rattle.grid_base.proofs.Order.{cmp-pad, text_short}

-- the padded bytes compare as the texts in them do
pub cmp-inline : (a b : Inside) → IsInlineText a → IsInlineText b →
    slice_cmp nat_cmp a.bytes b.bytes ≡ slice_cmp nat_cmp (take a.len a.bytes) (take b.len b.bytes)
cmp-inline a b ha hb =
    (λ i. slice_cmp nat_cmp (sym ha.padded i) (sym hb.padded i))
    ∙ cmp-pad 64 (take a.len a.bytes) (take b.len b.bytes)
    (text_short (take a.len a.bytes) ha.valid) (text_short (take b.len b.bytes) hb.valid)
    (second_so _ _ ha.valid) (second_so _ _ hb.valid)
