-- Which bytes are a key.
use Rattle.std.specs.Prelude.{ℕ, Bool, ◌&&◌, not, ◌==◌, nat_le, List, length}
use Rattle.std.specs.List.{list_all}

-- a byte of a key is printable ASCII, and neither a blank nor a double quote
abbrev pub is_key_byte : ℕ → Bool
is_key_byte byte = nat_le 33 byte && (nat_le byte 126 && not (byte == 34))

-- a key has 1 to 64 bytes, each of them such a byte
abbrev pub is_key : List ℕ → Bool
is_key bytes = nat_le 1 (length bytes) && (nat_le (length bytes) 64 && list_all is_key_byte bytes)
