-- Keys, and parts of texts, are texts.
use Rattle.std.proofs.Common.{◌≡◌, ℕ, Bool, true, ◌&&◌, List, [], ◌∷◌, take, drop, length, refl, arith, suc, zero, length-take, length-drop}
use Rattle.std.proofs.lemmas.Bool.Decides.{nat_tests}
use Rattle.std.specs.Prelude.{nat_le}
use Rattle.std.specs.Cmp.{first_so, second_so}
use Rattle.std.specs.List.{list_all}
use Rattle.grid_base.specs.Key.{is_key, is_key_byte}
use Rattle.grid_base.specs.Text.{is_text, is_text_byte}

-- two tests that pass, passed as one
pub both_so : {a b : Bool} → a ≡ true → b ≡ true → (a && b) ≡ true
both_so p q = λ i. p i && q i

-- a byte of a key is one of a text
key_byte_is_text_byte : (byte : ℕ) → is_key_byte byte ≡ true → is_text_byte byte ≡ true
key_byte_is_text_byte byte h =
    let high : nat_le 33 byte ≡ true = first_so _ _ h in
    let above : nat_le 32 byte ≡ true = grind (arith, nat_tests) in
    both_so above (second_so (nat_le 33 byte) _ h)

-- so the bytes of a key are those of a text
key_bytes_are_text_bytes : (bytes : List ℕ) → list_all is_key_byte bytes ≡ true → list_all is_text_byte bytes ≡ true
key_bytes_are_text_bytes [] h = refl
key_bytes_are_text_bytes (b ∷ bs) h =
    both_so (key_byte_is_text_byte b (first_so (is_key_byte b) _ h)) (key_bytes_are_text_bytes bs (second_so (is_key_byte b) _ h))

-- a key is a text
pub key_is_text : (bytes : List ℕ) → is_key bytes ≡ true → is_text bytes ≡ true
key_is_text bytes h =
    let rest : (nat_le (length bytes) 64 && list_all is_key_byte bytes) ≡ true = second_so (nat_le 1 (length bytes)) _ h in
    both_so (first_so (nat_le (length bytes) 64) _ rest) (key_bytes_are_text_bytes bytes (second_so (nat_le (length bytes) 64) _ rest))

-- what passes of a list passes of its front
all-take : (p : ℕ → Bool) (n : ℕ) (xs : List ℕ) → list_all p xs ≡ true → list_all p (take n xs) ≡ true
all-take p zero xs h = refl
all-take p (suc n) [] h = refl
all-take p (suc n) (x ∷ xs) h = both_so (first_so (p x) _ h) (all-take p n xs (second_so (p x) _ h))

-- and of its rest
all-drop : (p : ℕ → Bool) (n : ℕ) (xs : List ℕ) → list_all p xs ≡ true → list_all p (drop n xs) ≡ true
all-drop p zero xs h = h
all-drop p (suc n) [] h = refl
all-drop p (suc n) (x ∷ xs) h = all-drop p n xs (second_so (p x) _ h)

-- a part of a text is a text
pub part_is_text : (n m : ℕ) (bytes : List ℕ) → is_text bytes ≡ true → is_text (take n (drop m bytes)) ≡ true
part_is_text n m bytes h =
    let whole : nat_le (length bytes) 64 ≡ true = first_so (nat_le (length bytes) 64) _ h in
    let short : nat_le (length (take n (drop m bytes))) 64 ≡ true = grind (arith, nat_tests, length-take n (drop m bytes), length-drop m bytes) in
    both_so short (all-take is_text_byte n (drop m bytes) (all-drop is_text_byte m bytes (second_so (nat_le (length bytes) 64) _ h)))

-- the end of a text is a text
pub end_is_text : (m : ℕ) (bytes : List ℕ) → is_text bytes ≡ true → is_text (drop m bytes) ≡ true
end_is_text m bytes h =
    let whole : nat_le (length bytes) 64 ≡ true = first_so (nat_le (length bytes) 64) _ h in
    let short : nat_le (length (drop m bytes)) 64 ≡ true = grind (arith, nat_tests, length-drop m bytes) in
    both_so short (all-drop is_text_byte m bytes (second_so (nat_le (length bytes) 64) _ h))
