-- The hash FNV-1a of 32 bits, by Glenn Fowler, Landon Curt Noll and Kiem-Phong Vo, as they published it.
use Rattle.std.specs.Prelude.{ℕ, ◌*◌, ◌%◌, ◌^◌, List, bit_xor}
use Rattle.std.specs.List.{fold}

-- the hash with one more byte: exclusive or with the byte, and then times the prime, in 32 bits
abbrev pub hash_with : ℕ → ℕ → ℕ
hash_with hash byte = (bit_xor hash byte * 0x0100_0193) % 2 ^ 32

-- the hash of bytes: from the offset basis on, with each byte in turn
unfoldable pub fnv1a_of : List ℕ → ℕ
fnv1a_of bytes = fold hash_with 0x811C_9DC5 bytes
