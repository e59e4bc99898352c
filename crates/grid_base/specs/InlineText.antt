-- How a text lies in place: 64 bytes, of which the first ones are the text and the rest are zeros.
use Rattle.std.specs.Prelude.{◌≡◌, ℕ, ◌≤◌, true, List, length, take}
use Rattle.std.proofs.Common.{arith}
use Rattle.std.proofs.lemmas.List.{length-take-le}
use Rattle.grid_base.specs.Text.{is_text}
use Rattle.grid_base.specs.Padded.{pad}
use Rattle.grid_base.specs.declared.inline_text.InlineText.TheInside.{Inside}

-- the first `len` bytes are a text, and zeros fill the rest
pub record IsInlineText (a : Inside) : Type 0 where
  pub fits : a.len ≤ 64
  pub whole : length a.bytes ≡ 64
  pub valid : is_text (take a.len a.bytes) ≡ true
  pub padded : pad 64 (take a.len a.bytes) ≡ a.bytes

-- the bytes and the length in which a text lies
abbrev pub inside_of : List ℕ → Inside
inside_of text = record { bytes = pad 64 text; len = length text }

-- a text gives back the bytes and the length in which it lies
pub inside_of-view : (a : Inside) → IsInlineText a → inside_of (take a.len a.bytes) ≡ a
inside_of-view a h =
    let short : length (take a.len a.bytes) ≡ a.len = length-take-le a.len a.bytes (omega (arith, h.fits, h.whole)) in
    λ i. record { bytes = h.padded i; len = short i }
