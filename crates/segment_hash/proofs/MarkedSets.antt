-- What a set has that is held as one bit a number, and how a bit changes it.
use Rattle.std.proofs.Common.{◌≡◌, ◌≢◌, ℕ, suc, zero, ◌+◌, ◌-◌, ◌*◌, ◌/◌, ◌%◌, ◌^◌, ◌<◌, ◌≤◌, Bool, true, false, cond, not, ◌&&◌, ◌||◌, eqb, List, [], ◌∷◌, length, get_or, set, bit_and, bit_or, w64, arith, refl, sym, ap, ◌∙◌, inl, inr}
use Rattle.std.specs.Int.{bit_at, bit_not, trailing_zeros}
use Rattle.std.proofs.lemmas.Nat.{and_le_l}
use Rattle.std.proofs.lemmas.Bool.{ne_eqb, eq-eqb, cases_eq, cases_lt}
use Rattle.std.proofs.lemmas.List.{get_or-set_same, get_or-set_other, get_or_past, length-set}
use Rattle.std.proofs.lemmas.Nat.Bits.{bit_at-zero, bit_at-lt, bit_at_and, ones_shl, bit_at_mask_inside, bit_at_mask_below, bit_at-trailing_zeros, bit_at_set_same, bit_at_set_other, bit_at_clear_same, bit_at_clear_other}
use Rattle.std.specs.Ordering.{nat_cmp, eq_by_cmp}
use Rattle.std.specs.Cmp.{unsigned_tied, nat_cmp_total}
use Rattle.std.specs.FinSet as sets
use Rattle.std.specs.FinSet.{nat_cmp-IsAntisymmetric}
use Rattle.segment_hash.specs.Members.{is_marked, members_below, members}

-- two numbers that differ don't tie
apart : (a b : ℕ) → a ≢ b → eq_by_cmp nat_cmp a b ≡ false
apart a b h = unsigned_tied a b ∙ ne_eqb a b h

-- two numbers that are equal tie
together : (a b : ℕ) → a ≡ b → eq_by_cmp nat_cmp a b ≡ true
together a b h = unsigned_tied a b ∙ eq-eqb a b h

-- a number that is put in only where b says so leaves each other number as it is
other_number : (b : Bool) (s : sets.FinSet nat_cmp) (n q : ℕ) → q ≢ n → sets.contains (cond b (sets.insert s n) s) q ≡ sets.contains s q
other_number true s n q h = sets.contains-insert nat_cmp_total s n q ∙ ap (λ t. t || sets.contains s q) (apart q n h)
other_number false s n q h = refl

-- a number that wasn't in is in where b says so
this_number : (b : Bool) (s : sets.FinSet nat_cmp) (n q : ℕ) → q ≡ n → sets.contains s q ≡ false → sets.contains (cond b (sets.insert s n) s) q ≡ b
this_number true s n q h out = sets.contains-insert nat_cmp_total s n q ∙ ap (λ t. t || sets.contains s q) (together q n h)
this_number false s n q h out = out

-- a set of numbers below n has no number from n on
none_from : (words : List ℕ) (n q : ℕ) → n ≤ q → sets.contains (members_below words n) q ≡ false
unfolding members_below
none_from words zero q h = sets.contains-empty nat_cmp q
none_from words (suc n) q h =
    other_number (is_marked words n) (members_below words n) n q (omega arith) ∙ none_from words n q (omega arith)

-- whether a set has a number below n is the bit of that number
has_bit : (words : List ℕ) (n q : ℕ) → q < n → sets.contains (members_below words n) q ≡ is_marked words q
unfolding members_below
has_bit words zero q h = absurd (omega arith)
has_bit words (suc n) q h = elim (cases_eq q n) [
  | inl same ↦ this_number (is_marked words n) (members_below words n) n q same (none_from words n q (omega arith)) ∙ ap (is_marked words) (sym same)
  | inr differ ↦ other_number (is_marked words n) (members_below words n) n q differ ∙ has_bit words n q (omega arith)
]

module _ (words : List ℕ) (four : length words ≡ 4) where
  -- no number from 256 on has a bit
  unmarked_past : (q : ℕ) → 256 ≤ q → is_marked words q ≡ false
  unmarked_past q past =
      let none : get_or words (q / 64) 0 ≡ 0 = get_or_past words (q / 64) 0 (omega (arith, four)) in
      ap (λ (w : ℕ). eqb (bit_at w (q % 64)) 1) none ∙ ap (λ (b : ℕ). eqb b 1) (bit_at-zero (q % 64))

  -- whether a set has a number is the bit of that number
  pub contains-members : (q : ℕ) → sets.contains (members words) q ≡ is_marked words q
  contains-members q = elim (cases_lt q 256) [
    | inl below ↦ has_bit words 256 q below
    | inr past ↦ none_from words 256 q past ∙ sym (unmarked_past q past)
  ]

  -- the same of a set that is known to be held so
  pub bit_of : (s : sets.FinSet nat_cmp) (q : ℕ) → members words ≡ s → sets.contains s q ≡ is_marked words q
  bit_of s q e = ap (λ t. sets.contains t q) (sym e) ∙ contains-members q

  -- a set has no number from 256 on
  pub none_past : (s : sets.FinSet nat_cmp) → members words ≡ s → (k : ℕ) → 256 ≤ k → sets.contains s k ≡ false
  none_past s e k past = bit_of s k e ∙ unmarked_past k past

  module _ (k : ℕ) (below : k < 256) where
    -- one bit of a word that is written anew
    rewritten : (word : ℕ) (b : Bool) → eqb (bit_at word (k % 64)) 1 ≡ b
        → ((i : ℕ) → i < 64 → i ≢ k % 64 → bit_at word i ≡ bit_at (get_or words (k / 64) 0) i)
        → (q : ℕ) → is_marked (set words (k / 64) word) q ≡ cond (eq_by_cmp nat_cmp q k) b (is_marked words q)
    rewritten word b here others q =
        let within : k / 64 < length words = omega (arith, four) in
        elim (cases_eq (q / 64) (k / 64)) [
          | inl same_word ↦
              let read : get_or (set words (k / 64) word) (q / 64) 0 ≡ word =
              ap (λ (j : ℕ). get_or (set words (k / 64) word) j 0) same_word ∙ get_or-set_same words (k / 64) word 0 within in
              ap (λ (w : ℕ). eqb (bit_at w (q % 64)) 1) read
              ∙ elim (cases_eq (q % 64) (k % 64)) [
                | inl same_bit ↦
                    let same : q ≡ k = omega arith in
                    ap (λ (i : ℕ). eqb (bit_at word i) 1) same_bit ∙ here ∙ ap (λ t. cond t b (is_marked words q)) (sym (together q k same))
                | inr other_bit ↦
                    let differ : q ≢ k = λ e. other_bit (ap (λ (x : ℕ). x % 64) e) in
                    ap (λ (x : ℕ). eqb x 1) (others (q % 64) (omega arith) other_bit ∙ ap (λ (j : ℕ). bit_at (get_or words j 0) (q % 64)) (sym same_word))
                    ∙ ap (λ t. cond t b (is_marked words q)) (sym (apart q k differ))
              ]
          | inr other_word ↦
              let differ : q ≢ k = λ e. other_word (ap (λ (x : ℕ). x / 64) e) in
              ap (λ (w : ℕ). eqb (bit_at w (q % 64)) 1) (get_or-set_other words (k / 64) (q / 64) word 0 other_word)
              ∙ ap (λ t. cond t b (is_marked words q)) (sym (apart q k differ))
        ]

-- a choice of yes by a test is the test, or the rest
chosen_or : (t x : Bool) → cond t true x ≡ (t || x)
chosen_or true x = refl
chosen_or false x = refl

-- a choice of no by a test is the opposite of the test, and the rest
chosen_and : (t x : Bool) → cond t false x ≡ (not t && x)
chosen_and true x = refl
chosen_and false x = refl

module _ (words : List ℕ) (four : length words ≡ 4) (k : ℕ) (below : k < 256) where
  -- the word of k, once the bit of k is set
  abbrev pub with_bit : ℕ
  with_bit = bit_or (get_or words (k / 64) 0) (1 * 2 ^ (k % 64) % 2 ^ 64)

  -- the word of k, once the bit of k is cleared
  abbrev pub without_bit : ℕ
  without_bit = bit_and (get_or words (k / 64) 0) (bit_not w64 (1 * 2 ^ (k % 64) % 2 ^ 64))

  -- a bit that is set puts its number into the set
  pub members-add : members (set words (k / 64) with_bit) ≡ sets.insert (members words) k
  members-add =
      let index : k % 64 < 64 = omega arith in
      let old : ℕ = get_or words (k / 64) 0 in
      let changed = rewritten words four k below with_bit true (ap (λ (b : ℕ). eqb b 1) (bit_at_set_same w64 old (k % 64) index)) (λ i small differs. bit_at_set_other w64 old (k % 64) index i differs) in
      sets.same_set nat_cmp_total nat_cmp-IsAntisymmetric _ _
      (λ q. contains-members (set words (k / 64) with_bit) (length-set words _ _ ∙ four) q ∙ changed q ∙ chosen_or (eq_by_cmp nat_cmp q k) (is_marked words q) ∙ ap (λ x. eq_by_cmp nat_cmp q k || x) (sym (contains-members words four q)) ∙ sym (sets.contains-insert nat_cmp_total (members words) k q))

  -- a bit that is cleared takes its number out of the set
  pub members-remove : members (set words (k / 64) without_bit) ≡ sets.remove (members words) k
  members-remove =
      let index : k % 64 < 64 = omega arith in
      let old : ℕ = get_or words (k / 64) 0 in
      let changed = rewritten words four k below without_bit false (ap (λ (b : ℕ). eqb b 1) (bit_at_clear_same w64 old (k % 64) index)) (λ i small differs. bit_at_clear_other w64 old (k % 64) index i small differs) in
      sets.same_set nat_cmp_total nat_cmp-IsAntisymmetric _ _
      (λ q. contains-members (set words (k / 64) without_bit) (length-set words _ _ ∙ four) q ∙ changed q ∙ chosen_and (eq_by_cmp nat_cmp q k) (is_marked words q) ∙ ap (λ x. not (eq_by_cmp nat_cmp q k) && x) (sym (contains-members words four q)) ∙ sym (sets.contains-remove nat_cmp_total (members words) k q))

-- four words without a bit
no_bits : (j : ℕ) → ◌≡◌ {A = ℕ} (get_or (0 ∷ 0 ∷ 0 ∷ 0 ∷ []) j 0) 0
no_bits zero = refl
no_bits (suc zero) = refl
no_bits (suc (suc zero)) = refl
no_bits (suc (suc (suc zero))) = refl
no_bits (suc (suc (suc (suc j)))) = refl

-- words without a bit hold the empty set
pub members-empty : members (0 ∷ 0 ∷ 0 ∷ 0 ∷ []) ≡ sets.empty
members-empty =
    sets.same_set nat_cmp_total nat_cmp-IsAntisymmetric _ _
    (λ q. contains-members (0 ∷ 0 ∷ 0 ∷ 0 ∷ []) refl q ∙ ap (λ (w : ℕ). eqb (bit_at w (q % 64)) 1) (no_bits (q / 64)) ∙ ap (λ (b : ℕ). eqb b 1) (bit_at-zero (q % 64)) ∙ sym (sets.contains-empty nat_cmp q))

-- a bit of a set that is read from its word
pub marked-word : (words : List ℕ) (place bit : ℕ) → bit < 64 → is_marked words (place * 64 + bit) ≡ eqb (bit_at (get_or words place 0) bit) 1
marked-word words place bit h =
    let word : (place * 64 + bit) / 64 ≡ place = omega (arith, h) in
    let index : (place * 64 + bit) % 64 ≡ bit = omega (arith, h) in
    ap (λ (j : ℕ). eqb (bit_at (get_or words j 0) ((place * 64 + bit) % 64)) 1) word ∙ ap (λ (i : ℕ). eqb (bit_at (get_or words place 0) i) 1) index

module _ (words : List ℕ) (from place first : ℕ) (clear : (k : ℕ) → from ≤ k → k < place * 64 + first → is_marked words k ≡ false) where
  -- no number is in before the least bit of a word, where none is in before the bit that the search began with
  pub clear_to : (bit : ℕ) → bit ≤ 64 → ((i : ℕ) → first ≤ i → i < bit → bit_at (get_or words place 0) i ≡ 0)
      → (k : ℕ) → from ≤ k → k < place * 64 + bit → is_marked words k ≡ false
  clear_to bit small none k low high = elim (cases_lt k (place * 64 + first)) [
    | inl before ↦ clear k low before
    | inr after ↦
        let i : ℕ = k - place * 64 in
        let at : place * 64 + i ≡ k = omega (arith, after) in
        let above : first ≤ i = omega (arith, after) in
        let below : i < bit = omega (arith, after, high) in
        let inside : i < 64 = omega (arith, below, small) in
        ap (is_marked words) (sym at) ∙ marked-word words place i inside ∙ ap (λ (b : ℕ). eqb b 1) (none i above below)
  ]

module _ (word first : ℕ) (inside : first < 64) where
  -- the bits of a word from `first` on
  abbrev pub rest : ℕ
  rest = bit_and word ((2 ^ 64 - 1) * 2 ^ first % 2 ^ 64)

  -- the mask has the bits from the first one on
  mask : (2 ^ 64 - 1) * 2 ^ first % 2 ^ 64 ≡ 2 ^ 64 - 2 ^ first
  mask = ones_shl 64 first (omega (arith, inside))

  -- a bit from `first` on stays
  pub rest-from : (i : ℕ) → first ≤ i → i < 64 → bit_at rest i ≡ bit_at word i
  rest-from i low high =
      let ones : bit_at ((2 ^ 64 - 1) * 2 ^ first % 2 ^ 64) i ≡ 1 = ap (λ (m : ℕ). bit_at m i) mask ∙ bit_at_mask_inside first 64 i low high in
      let both = bit_at_and word ((2 ^ 64 - 1) * 2 ^ first % 2 ^ 64) i in
      let small = bit_at-lt word i in
      omega (arith, ones, both, small)

  -- a bit below `first` is gone
  pub rest-below : (i : ℕ) → i < first → bit_at rest i ≡ 0
  rest-below i low =
      let zeros : bit_at ((2 ^ 64 - 1) * 2 ^ first % 2 ^ 64) i ≡ 0 = ap (λ (m : ℕ). bit_at m i) mask ∙ bit_at_mask_below first 64 i low in
      let both = bit_at_and word ((2 ^ 64 - 1) * 2 ^ first % 2 ^ 64) i in
      omega (arith, zeros, both)

  -- where nothing is left, no bit from `first` on was set
  pub rest-none : rest ≡ 0 → (i : ℕ) → first ≤ i → i < 64 → bit_at word i ≡ 0
  rest-none e i low high = sym (rest-from i low high) ∙ ap (λ (m : ℕ). bit_at m i) e ∙ bit_at-zero i

  module _ (fits : word < 2 ^ 64) (some : 0 < rest) where
    lowest : (trailing_zeros w64 rest < 64) × (bit_at rest (trailing_zeros w64 rest) ≡ 1) × ((i : ℕ) → i < trailing_zeros w64 rest → bit_at rest i ≡ 0)
    lowest = bit_at-trailing_zeros w64 rest some (omega (arith, fits, and_le_l word ((2 ^ 64 - 1) * 2 ^ first % 2 ^ 64)))

    -- the lowest bit that is left isn't below `first`
    pub lowest-from : first ≤ trailing_zeros w64 rest
    lowest-from = elim (cases_lt (trailing_zeros w64 rest) first) [
      | inl below ↦ (let gone = rest-below (trailing_zeros w64 rest) below in let set = lowest.1 in absurd (omega (arith, gone, set)))
      | inr from ↦ from
    ]

    -- it is set in the word
    pub lowest-set : bit_at word (trailing_zeros w64 rest) ≡ 1
    lowest-set = sym (rest-from (trailing_zeros w64 rest) lowest-from lowest.0) ∙ lowest.1

    -- and none before it, from `first` on
    pub lowest-least : (i : ℕ) → first ≤ i → i < trailing_zeros w64 rest → bit_at word i ≡ 0
    lowest-least i low high =
        let within = lowest.0 in
        sym (rest-from i low (omega (arith, high, within))) ∙ lowest.2 i high
