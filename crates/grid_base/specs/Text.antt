-- Which bytes are a text.
use Rattle.std.specs.Prelude.{ℕ, Bool, ◌&&◌, not, ◌==◌, nat_le, List, length}
use Rattle.std.specs.List.{list_all}

-- a byte of a text is printable ASCII and no double quote
abbrev pub is_text_byte : ℕ → Bool
is_text_byte byte = nat_le 32 byte && (nat_le byte 126 && not (byte == 34))

-- a text has at most 64 bytes, each of them such a byte
abbrev pub is_text : List ℕ → Bool
is_text bytes = nat_le (length bytes) 64 && list_all is_text_byte bytes
