-- The order of texts and keys: eight words of padded bytes decide as the bytes one by one do.
use Rattle.std.proofs.Common.{◌≡◌, ℕ, suc, zero, ◌+◌, ◌*◌, ◌^◌, ◌<◌, ◌≤◌, true, ◌&&◌, List, [], ◌∷◌, ◌++◌, length, get_or, take, drop, refl, sym, ◌∙◌, ap, subst, inl, inr, arith, add-one, set, length-drop, nat_le, replicate}
use Rattle.std.proofs.Math.Nat.{pow-suc}
use Rattle.std.proofs.lemmas.Bool.{cases_order}
use Rattle.std.proofs.lemmas.Bool.Decides.{nat_tests}
use Rattle.std.proofs.lemmas.List.{take-append-drop, drop-drop, length-take-le}
use Rattle.std.proofs.lemmas.Nat.{mul-add-lt}
use Rattle.std.proofs.lemmas.Map.Lookups.{CmpEqualImpliesEq, exact_bytes}
use Rattle.std.specs.Cmp.{IsTotalOrder, first_so, second_so}
use Rattle.std.specs.Cmp.Lexicographic.{slice_cmp, nat_list_cmp_total}
use Rattle.std.specs.Int.{from_be_bytes, w64}
use Rattle.std.specs.List.{list_all}
use Rattle.std.specs.Ordering.{nat_cmp, ordering_then}
use Rattle.std.specs.declared.cmp.Ordering.{Ordering}
use Rattle.std.specs.declared.cmp.Ordering.TheVariants.{Less, Equal, Greater}
use Rattle.grid_base.specs.Key.{is_key, is_key_byte}
use Rattle.grid_base.specs.Padded.{pad, number}
use Rattle.grid_base.specs.Text.{is_text, is_text_byte}

-- keys and texts are totally ordered by their bytes
pub key_total : IsTotalOrder (slice_cmp nat_cmp)
key_total = nat_list_cmp_total

-- a smaller number is less
less : (x y : ℕ) → x < y → nat_cmp x y ≡ Less
less x y h = grind (arith, nat_tests)

-- a number is equal to itself
same : (x : ℕ) → nat_cmp x x ≡ Equal
same x = grind (arith, nat_tests)

-- a larger number is greater
more : (x y : ℕ) → y < x → nat_cmp x y ≡ Greater
more x y h = grind (arith, nat_tests)

-- what is added to both sides doesn't count
shift : (q v w : ℕ) → nat_cmp (q + v) (q + w) ≡ nat_cmp v w
shift q v w = grind (arith, nat_tests)

-- a smaller high digit makes a smaller number
below : (x y p v w : ℕ) → v < p → x < y → x * p + v < y * p + w
below x y p v w hv h = omega (arith, mul-add-lt x p v y h hv)

-- two numbers of a high digit and lower ones compare by the high digit first
digits : (x y p v w : ℕ) → v < p → w < p → nat_cmp (x * p + v) (y * p + w) ≡ ordering_then (nat_cmp x y) (nat_cmp v w)
digits x y p v w hv hw =
    elim (cases_order x y) [
      | inl e ↦
          let P : ℕ → Type 0 = λ z. nat_cmp (x * p + v) (z * p + w) ≡ ordering_then (nat_cmp x z) (nat_cmp v w) in
          subst P e (shift (x * p) v w ∙ sym (ap (λ o. ordering_then o (nat_cmp v w)) (same x)))
      | inr d ↦
          elim d [
            | inl lt ↦ less _ _ (below x y p v w hv lt) ∙ sym (ap (λ o. ordering_then o (nat_cmp v w)) (less x y lt))
            | inr gt ↦ more _ _ (below y x p w v hw gt) ∙ sym (ap (λ o. ordering_then o (nat_cmp v w)) (more x y gt))
          ]
    ]

-- each element is a byte
abbrev pub IsBytes : List ℕ → Type 0
IsBytes xs = (i : ℕ) → get_or xs i 0 < 256

-- the first bytes are bytes
IsBytes-take : (n : ℕ) (xs : List ℕ) → IsBytes xs → IsBytes (take n xs)
IsBytes-take zero xs h i = omega arith
IsBytes-take (suc n) [] h i = omega arith
IsBytes-take (suc n) (x ∷ xs) h zero = h 0
IsBytes-take (suc n) (x ∷ xs) h (suc i) = IsBytes-take n xs (λ j. h (suc j)) i

-- the last bytes are bytes
IsBytes-drop : (n : ℕ) (xs : List ℕ) → IsBytes xs → IsBytes (drop n xs)
IsBytes-drop zero xs h = h
IsBytes-drop (suc n) [] h = h
IsBytes-drop (suc n) (x ∷ xs) h = IsBytes-drop n xs (λ j. h (suc j))

-- n bytes spell a number below the n-th power of 256
number_lt : (xs : List ℕ) → IsBytes xs → number xs < 256 ^ length xs
unfolding number
number_lt [] h = omega arith
number_lt (x ∷ xs) h = power (length xs) (mul-add-lt x (256 ^ length xs) (number xs) 256 (h 0) (number_lt xs (λ j. h (suc j))))
  where
    power : (n : ℕ) {m : ℕ} → m < 256 ^ n * 256 → m < 256 ^ suc n
    power n {m} lt = subst (λ (k : ℕ). m < k) (sym (pow-suc 256 n)) lt

-- as many bytes compare as the numbers that they spell
cmp-number : (xs ys : List ℕ) → length xs ≡ length ys → IsBytes xs → IsBytes ys → slice_cmp nat_cmp xs ys ≡ nat_cmp (number xs) (number ys)
unfolding number
cmp-number [] [] e hx hy = refl
cmp-number [] (y ∷ ys) e hx hy = absurd (omega arith)
cmp-number (x ∷ xs) [] e hx hy = absurd (omega arith)
cmp-number (x ∷ xs) (y ∷ ys) e hx hy =
    let long : length xs ≡ length ys = omega arith in
    let hxs : IsBytes xs = λ j. hx (suc j) in
    let hys : IsBytes ys = λ j. hy (suc j) in
    let low : number ys < 256 ^ length xs = subst (λ (n : ℕ). number ys < 256 ^ n) (sym long) (number_lt ys hys) in
    ap (ordering_then (nat_cmp x y)) (cmp-number xs ys long hxs hys)
    ∙ sym (digits x y (256 ^ length xs) (number xs) (number ys) (number_lt xs hxs) low)
    ∙ ap (λ (n : ℕ). nat_cmp (x * 256 ^ length xs + number xs) (y * 256 ^ n + number ys)) long

-- of three comparisons the first that isn't equal decides
then_assoc : (a b c : Ordering) → ordering_then (ordering_then a b) c ≡ ordering_then a (ordering_then b c)
then_assoc Less b c = refl
then_assoc Equal b c = refl
then_assoc Greater b c = refl

-- two lists compare by their first parts, if these are as long, and then by what is behind
cmp-append : (xs ys us vs : List ℕ) → length xs ≡ length us → slice_cmp nat_cmp (xs ++ ys) (us ++ vs) ≡ ordering_then (slice_cmp nat_cmp xs us) (slice_cmp nat_cmp ys vs)
cmp-append [] ys [] vs e = refl
cmp-append [] ys (u ∷ us) vs e = absurd (omega arith)
cmp-append (x ∷ xs) ys [] vs e = absurd (omega arith)
cmp-append (x ∷ xs) ys (u ∷ us) vs e =
    let long : length xs ≡ length us = omega arith in
    ap (ordering_then (nat_cmp x u)) (cmp-append xs ys us vs long)
    ∙ sym (then_assoc (nat_cmp x u) (slice_cmp nat_cmp xs us) (slice_cmp nat_cmp ys vs))

-- the word at a place decides, and then what is behind it
cmp-word : (k m : ℕ) (xs ys : List ℕ) → m ≡ k + 8 → m ≤ length xs → length xs ≡ length ys → IsBytes xs → IsBytes ys →
    slice_cmp nat_cmp (drop k xs) (drop k ys) ≡ ordering_then (nat_cmp (number (take 8 (drop k xs))) (number (take 8 (drop k ys)))) (slice_cmp nat_cmp (drop m xs) (drop m ys))
cmp-word k m xs ys e h long hx hy =
    let left : length (take 8 (drop k xs)) ≡ 8 = length-take-le 8 (drop k xs) (omega (arith, length-drop k xs)) in
    let right : length (take 8 (drop k ys)) ≡ 8 = length-take-le 8 (drop k ys) (omega (arith, length-drop k ys)) in
    let behind_left : drop 8 (drop k xs) ≡ drop m xs = drop-drop 8 k xs ∙ ap (λ (n : ℕ). drop n xs) (sym e) in
    let behind_right : drop 8 (drop k ys) ≡ drop m ys = drop-drop 8 k ys ∙ ap (λ (n : ℕ). drop n ys) (sym e) in
    (λ i. slice_cmp nat_cmp (sym (take-append-drop 8 (drop k xs)) i) (sym (take-append-drop 8 (drop k ys)) i))
    ∙ cmp-append (take 8 (drop k xs)) (drop 8 (drop k xs)) (take 8 (drop k ys)) (drop 8 (drop k ys)) (left ∙ sym right)
    ∙ (λ i. ordering_then
    (cmp-number (take 8 (drop k xs)) (take 8 (drop k ys)) (left ∙ sym right) (IsBytes-take 8 _ (IsBytes-drop k xs hx)) (IsBytes-take 8 _ (IsBytes-drop k ys hy)) i)
    (slice_cmp nat_cmp (behind_left i) (behind_right i)))

-- two different numbers decide
different : (v w : ℕ) (o : Ordering) → (v ≡ w → ⊥) → ordering_then (nat_cmp v w) o ≡ nat_cmp v w
different v w o n =
    elim (cases_order v w) [
      | inl e ↦ absurd (n e)
      | inr d ↦
          elim d [
            | inl lt ↦ ap (λ c. ordering_then c o) (less v w lt) ∙ sym (less v w lt)
            | inr gt ↦ ap (λ c. ordering_then c o) (more v w gt) ∙ sym (more v w gt)
          ]
    ]

-- the place after a byte holds the bytes behind it
take_next : (n k m : ℕ) (xs : List ℕ) → m ≡ k + 1 → k < length xs → take (suc n) (drop k xs) ≡ get_or xs k 0 ∷ take n (drop m xs)
take_next n k m xs e h = subst (λ (j : ℕ). take (suc n) (drop k xs) ≡ get_or xs k 0 ∷ take n (drop j xs)) (sym (e ∙ add-one k)) (next n k xs h)
  where
    next : (n k : ℕ) (xs : List ℕ) → k < length xs → take (suc n) (drop k xs) ≡ get_or xs k 0 ∷ take n (drop (suc k) xs)
    next n zero [] h = absurd (omega arith)
    next n zero (x ∷ xs) h = refl
    next n (suc k) [] h = absurd (omega arith)
    next n (suc k) (x ∷ xs) h = next n k xs (omega arith)

-- the eight bytes from a place on
pub eight_bytes : (at : ℕ) (xs : List ℕ) → at + 8 ≤ length xs →
    take 8 (drop at xs) ≡ get_or xs at 0 ∷ get_or xs (at + 1) 0 ∷ get_or xs (at + 2) 0 ∷ get_or xs (at + 3) 0 ∷ get_or xs (at + 4) 0 ∷ get_or xs (at + 5) 0 ∷ get_or xs (at + 6) 0 ∷ get_or xs (at + 7) 0 ∷ []
eight_bytes at xs h =
    take_next 7 at (at + 1) xs refl (omega arith)
    ∙ ap (λ ys. get_or xs at 0 ∷ ys)
    (take_next 6 (at + 1) (at + 2) xs (omega arith) (omega arith)
    ∙ ap (λ ys. get_or xs (at + 1) 0 ∷ ys)
    (take_next 5 (at + 2) (at + 3) xs (omega arith) (omega arith)
    ∙ ap (λ ys. get_or xs (at + 2) 0 ∷ ys)
    (take_next 4 (at + 3) (at + 4) xs (omega arith) (omega arith)
    ∙ ap (λ ys. get_or xs (at + 3) 0 ∷ ys)
    (take_next 3 (at + 4) (at + 5) xs (omega arith) (omega arith)
    ∙ ap (λ ys. get_or xs (at + 4) 0 ∷ ys)
    (take_next 2 (at + 5) (at + 6) xs (omega arith) (omega arith)
    ∙ ap (λ ys. get_or xs (at + 5) 0 ∷ ys)
    (take_next 1 (at + 6) (at + 7) xs (omega arith) (omega arith)
    ∙ ap (λ ys. get_or xs (at + 6) 0 ∷ ys)
    (take_next 0 (at + 7) (at + 8) xs (omega arith) (omega arith))))))))

-- a word of eight bytes is the number that they spell
pub summed : (a b c d e f g h : ℕ) → from_be_bytes w64 (a ∷ b ∷ c ∷ d ∷ e ∷ f ∷ g ∷ h ∷ []) ≡ number (a ∷ b ∷ c ∷ d ∷ e ∷ f ∷ g ∷ h ∷ [])
unfolding number
summed a b c d e f g h = omega arith

-- where the words at a place differ, and all before are equal, they decide
pub decided : (k : ℕ) (xs ys : List ℕ) (v w : ℕ) → k + 8 ≤ length xs → length xs ≡ length ys → IsBytes xs → IsBytes ys →
    v ≡ number (take 8 (drop k xs)) → w ≡ number (take 8 (drop k ys)) → (v ≡ w → ⊥) → slice_cmp nat_cmp (drop k xs) (drop k ys) ≡ slice_cmp nat_cmp xs ys →
    nat_cmp v w ≡ slice_cmp nat_cmp xs ys
decided k xs ys v w h long hx hy ev ew n same_before =
    sym (different v w (slice_cmp nat_cmp (drop (k + 8) xs) (drop (k + 8) ys)) n)
    ∙ (λ i. ordering_then (nat_cmp (ev i) (ew i)) (slice_cmp nat_cmp (drop (k + 8) xs) (drop (k + 8) ys)))
    ∙ sym (cmp-word k (k + 8) xs ys refl h long hx hy)
    ∙ same_before

-- where the words at a place are equal, what is behind decides
pub tied : (k m : ℕ) (xs ys : List ℕ) (v w : ℕ) → m ≡ k + 8 → m ≤ length xs → length xs ≡ length ys → IsBytes xs → IsBytes ys →
    v ≡ number (take 8 (drop k xs)) → w ≡ number (take 8 (drop k ys)) → v ≡ w → slice_cmp nat_cmp (drop k xs) (drop k ys) ≡ slice_cmp nat_cmp xs ys →
    slice_cmp nat_cmp (drop m xs) (drop m ys) ≡ slice_cmp nat_cmp xs ys
tied k m xs ys v w e h long hx hy ev ew equal same_before =
    sym (ap (λ o. ordering_then o (slice_cmp nat_cmp (drop m xs) (drop m ys))) (ap (nat_cmp v) (sym equal) ∙ same v))
    ∙ (λ i. ordering_then (nat_cmp (ev i) (ew i)) (slice_cmp nat_cmp (drop m xs) (drop m ys)))
    ∙ sym (cmp-word k m xs ys e h long hx hy)
    ∙ same_before

-- a text has at most 64 bytes
pub text_short : (bytes : List ℕ) → is_text bytes ≡ true → length bytes ≤ 64
text_short bytes h = let short : nat_le (length bytes) 64 ≡ true = first_so _ (list_all is_text_byte bytes) h in grind (arith, nat_tests)

-- a byte of a text is above zero
positive : (byte : ℕ) → is_text_byte byte ≡ true → 0 < byte
positive byte h = grind (arith, nat_tests)

-- zeros behind two texts don't change how they compare
pub cmp-pad : (n : ℕ) (xs ys : List ℕ) → length xs ≤ n → length ys ≤ n → list_all is_text_byte xs ≡ true → list_all is_text_byte ys ≡ true →
    slice_cmp nat_cmp (pad n xs) (pad n ys) ≡ slice_cmp nat_cmp xs ys
unfolding pad
cmp-pad zero [] [] hx hy tx ty = refl
cmp-pad zero [] (y ∷ ys) hx hy tx ty = absurd (omega arith)
cmp-pad zero (x ∷ xs) ys hx hy tx ty = absurd (omega arith)
cmp-pad (suc n) [] [] hx hy tx ty = cmp-pad n [] [] (omega arith) (omega arith) refl refl
cmp-pad (suc n) [] (y ∷ ys) hx hy tx ty =
    ap (λ o. ordering_then o (slice_cmp nat_cmp (pad n []) (pad n ys))) (less 0 y (positive y (first_so _ _ ty)))
cmp-pad (suc n) (x ∷ xs) [] hx hy tx ty =
    ap (λ o. ordering_then o (slice_cmp nat_cmp (pad n xs) (pad n []))) (more x 0 (positive x (first_so _ _ tx)))
cmp-pad (suc n) (x ∷ xs) (y ∷ ys) hx hy tx ty =
    ap (ordering_then (nat_cmp x y)) (cmp-pad n xs ys (omega arith) (omega arith) (second_so _ _ tx) (second_so _ _ ty))

-- n places are n long
pub length-pad : (n : ℕ) (xs : List ℕ) → length (pad n xs) ≡ n
unfolding pad
length-pad zero xs = refl
length-pad (suc n) [] = ap (λ (k : ℕ). suc k) (length-pad n [])
length-pad (suc n) (x ∷ xs) = ap (λ (k : ℕ). suc k) (length-pad n xs)

-- what was filled up is in front
pub take-pad : (n : ℕ) (xs : List ℕ) → length xs ≤ n → take (length xs) (pad n xs) ≡ xs
unfolding pad
take-pad n [] h = refl
take-pad zero (x ∷ xs) h = absurd (omega arith)
take-pad (suc n) (x ∷ xs) h = ap (λ ys. x ∷ ys) (take-pad n xs (omega arith))

-- the next byte goes to the place of the first zero behind those before it
pub set-pad : (n i : ℕ) (xs : List ℕ) → i < length xs → length xs ≤ n → set (pad n (take i xs)) i (get_or xs i 0) ≡ pad n (take (suc i) xs)
unfolding pad
set-pad n i [] h short = absurd (omega arith)
set-pad zero i (x ∷ xs) h short = absurd (omega arith)
set-pad (suc n) zero (x ∷ xs) h short = refl
set-pad (suc n) (suc i) (x ∷ xs) h short = ap (λ ys. x ∷ ys) (set-pad n i xs (omega arith) (omega arith))

-- zeros alone are the empty text filled up
pub pad-nil : (n : ℕ) → pad n [] ≡ replicate n 0
unfolding pad
pad-nil zero = refl
pad-nil (suc n) = ap (λ ys. 0 ∷ ys) (pad-nil n)

-- a byte of a key is a byte of a text
key_byte_is_text_byte : (byte : ℕ) → is_key_byte byte ≡ true → is_text_byte byte ≡ true
key_byte_is_text_byte byte h = grind (arith, nat_tests)

-- bytes of keys are bytes of texts
key_bytes_are_text_bytes : (bytes : List ℕ) → list_all is_key_byte bytes ≡ true → list_all is_text_byte bytes ≡ true
key_bytes_are_text_bytes [] h = refl
key_bytes_are_text_bytes (byte ∷ bytes) h =
    let head : is_text_byte byte ≡ true = key_byte_is_text_byte byte (first_so _ _ h) in
    let tail : list_all is_text_byte bytes ≡ true = key_bytes_are_text_bytes bytes (second_so _ _ h) in
    λ i. head i && tail i

-- a key is a text
pub key_is_text : (bytes : List ℕ) → is_key bytes ≡ true → is_text bytes ≡ true
key_is_text bytes h =
    let rest : (nat_le (length bytes) 64 && list_all is_key_byte bytes) ≡ true = second_so (nat_le 1 (length bytes)) _ h in
    let short : nat_le (length bytes) 64 ≡ true = first_so _ _ rest in
    let all : list_all is_text_byte bytes ≡ true = key_bytes_are_text_bytes bytes (second_so _ _ rest) in
    λ i. short i && all i

-- keys and texts that compare as equal are the same bytes
pub key_exact : CmpEqualImpliesEq (slice_cmp nat_cmp)
key_exact = exact_bytes
