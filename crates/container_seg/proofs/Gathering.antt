-- How a scan gathers entries that haven't expired, and what freeing those that have leaves.
use Rattle.std.proofs.Common.{◌≡◌, ℕ, ◌%◌, ◌<◌, ◌≤◌, Bool, true, false, cond, List, [], ◌∷◌, ◌++◌, map, reverse, length, take, Option, None, arith, refl, sym, ap, ◌∙◌, inl, inr, append_assoc, append-nil, length-append}
use Rattle.std.proofs.lemmas.Bool.{cases_Bool, le-leb, lt-leb, eq-eqb, ne_eqb}
use Rattle.std.proofs.Math.Seq.{take-append_seam}
use Rattle.std.proofs.lemmas.List.{take_all, length-map, reverse-append}
use Rattle.std.specs.List.{take-map}
use Rattle.std.proofs.lemmas.List.Elements.{filter-append}
use Rattle.std.specs.Cmp.{Equal-is}
use Rattle.std.specs.Cmp.Lexicographic.{nat_list_cmp_total}
use Rattle.std.specs.FinMap as maps
use Rattle.std.specs.List.{filter}
use Rattle.std.specs.Ordering.{eq_by_cmp}
use Rattle.grid_base.specs.declared.stamped.Stamped.{Stamped}
use Rattle.grid_base.specs.declared.stamped_entry.StampedEntry.{StampedEntry}
use Rattle.container_seg.specs.Places.{key_cmp}
use Rattle.container_seg.specs.Lifespans.{outlasts, left, fresh}
use Rattle.container_seg.specs.Scans.{ascends, stamped_entry, first_chunk, comes_after, beyond}
use Rattle.container_seg.specs.Stored.{Part}

-- an entry in front that has expired is passed over
pub fresh_skip : (clock : ℕ) (es rest : List (List ℕ × Stamped)) (k : List ℕ) (v : Stamped) → es ≡ (k, v) ∷ rest → outlasts clock v.until ≡ false → fresh clock es ≡ fresh clock rest
fresh_skip clock es rest k v is out = ap (fresh clock) is ∙ ap (λ b. cond b ((k, v) ∷ fresh clock rest) (fresh clock rest)) out

-- and one that hasn't is the first of those that haven't
pub fresh_take : (clock : ℕ) (es rest : List (List ℕ × Stamped)) (k : List ℕ) (v : Stamped) → es ≡ (k, v) ∷ rest → outlasts clock v.until ≡ true → fresh clock es ≡ (k, v) ∷ fresh clock rest
fresh_take clock es rest k v is into = ap (fresh clock) is ∙ ap (λ b. cond b ((k, v) ∷ fresh clock rest) (fresh clock rest)) into

-- the same from the end
pub fresh_skip_last : (clock : ℕ) (es rest : List (List ℕ × Stamped)) (k : List ℕ) (v : Stamped) → es ≡ rest ++ (k, v) ∷ [] → outlasts clock v.until ≡ false → reverse (fresh clock es) ≡ reverse (fresh clock rest)
fresh_skip_last clock es rest k v is out =
    ap reverse (ap (fresh clock) is ∙ filter-append (λ e. outlasts clock e.1.until) rest ((k, v) ∷ []) ∙ ap (λ b. fresh clock rest ++ cond b ((k, v) ∷ []) []) out ∙ append-nil (fresh clock rest))

-- and an entry that hasn't expired is taken from the end
pub fresh_take_last : (clock : ℕ) (es rest : List (List ℕ × Stamped)) (k : List ℕ) (v : Stamped) → es ≡ rest ++ (k, v) ∷ [] → outlasts clock v.until ≡ true → reverse (fresh clock es) ≡ (k, v) ∷ reverse (fresh clock rest)
fresh_take_last clock es rest k v is into =
    ap reverse (ap (fresh clock) is ∙ filter-append (λ e. outlasts clock e.1.until) rest ((k, v) ∷ []) ∙ ap (λ b. fresh clock rest ++ cond b ((k, v) ∷ []) []) into)
    ∙ reverse-append (fresh clock rest) ((k, v) ∷ [])

-- one more entry is gathered
pub gathered_more : (all taken : List StampedEntry) (e : StampedEntry) (rest : List StampedEntry) → all ≡ taken ++ (e ∷ rest) → all ≡ (taken ++ e ∷ []) ++ rest
gathered_more all taken e rest is = is ∙ sym (append_assoc taken (e ∷ []) rest)

-- all entries are gathered
pub gathered_all : (most : ℕ) (entries : List (List ℕ × Stamped)) (taken : List StampedEntry) → map stamped_entry entries ≡ taken ++ [] → length taken ≤ most → record { entries = taken; last = true } ≡ first_chunk most entries
gathered_all most entries taken is few =
    let whole : map stamped_entry entries ≡ taken = is ∙ append-nil taken in
    let short : length entries ≤ most = omega (arith, ap length whole, length-map entries stamped_entry) in
    λ i. record { entries = (sym whole ∙ ap (map stamped_entry) (sym (take_all most entries short))) i; last = sym (le-leb (length entries) most short) i }

-- as many are gathered as were wanted, and there are more
pub gathered_some : (most : ℕ) (entries : List (List ℕ × Stamped)) (taken : List StampedEntry) (e : StampedEntry) (rest : List StampedEntry)
    → map stamped_entry entries ≡ taken ++ (e ∷ rest) → length taken ≡ most → record { entries = taken; last = false } ≡ first_chunk most entries
gathered_some most entries taken e rest is full =
    let more : most < length entries = omega (arith, ap length is, length-map entries stamped_entry, length-append taken (e ∷ rest), full) in
    let front : map stamped_entry (take most entries) ≡ taken =
    sym (take-map stamped_entry most entries) ∙ ap (take most) is ∙ ap (λ n. take n (taken ++ (e ∷ rest))) (sym full) ∙ take-append_seam taken (e ∷ rest) in
    λ i. record { entries = sym front i; last = sym (lt-leb (length entries) most more) i }

-- what hasn't expired stays where a key that has expired is taken out
pub left_removed : (clock : ℕ) (m n : Part) (k : List ℕ) → n ≡ maps.remove m k → left clock (maps.get m k) ≡ None → (q : List ℕ) → left clock (maps.get n q) ≡ left clock (maps.get m q)
left_removed clock m n k is gone q =
    ap (λ t. left clock (maps.get t q)) is
    ∙ ap (left clock) (maps.get-remove nat_list_cmp_total m k q)
    ∙ elim (cases_Bool (eq_by_cmp key_cmp q k)) [
      | inl ties ↦ ap (λ b. left clock (cond b None (maps.get m q))) ties ∙ sym gone ∙ ap (left clock) (maps.get_tied nat_list_cmp_total m q k ((Equal-is (key_cmp q k)).0 ties))
      | inr apart ↦ ap (λ b. left clock (cond b None (maps.get m q))) apart
    ]

-- the order of two tests of entries doesn't matter
pub filters_commute : {X : Type 0} (p q : X → Bool) (xs : List X) → filter p (filter q xs) ≡ filter q (filter p xs)
filters_commute p q [] = refl
filters_commute p q (x ∷ xs) =
    let rest = filters_commute p q xs in
    elim (p x) as (λ a. p x ≡ a → filter p (cond (q x) (x ∷ filter q xs) (filter q xs)) ≡ filter q (cond a (x ∷ filter p xs) (filter p xs))) [
      | true ↦ λ e. elim (q x) as (λ b. q x ≡ b → filter p (cond b (x ∷ filter q xs) (filter q xs)) ≡ cond b (x ∷ filter q (filter p xs)) (filter q (filter p xs))) [
        | true ↦ λ f. ap (λ a. cond a (x ∷ filter p (filter q xs)) (filter p (filter q xs))) e ∙ ap (λ ys. x ∷ ys) rest
        | false ↦ λ f. rest
      ] refl
      | false ↦ λ e. elim (q x) as (λ b. filter p (cond b (x ∷ filter q xs) (filter q xs)) ≡ filter q (filter p xs)) [
        | true ↦ ap (λ a. cond a (x ∷ filter p (filter q xs)) (filter p (filter q xs))) e ∙ rest
        | false ↦ rest
      ]
    ] refl

-- what a node that scans upwards reads next
pub beyond_up : (clock node : ℕ) (after : Option (List ℕ)) (es : List (List ℕ × Stamped)) → node % 2 ≡ 0 → fresh clock (filter (λ e. comes_after node after e.0) es) ≡ beyond node after (fresh clock es)
beyond_up clock node after es even =
    let next = filter (λ e. comes_after node after e.0) (fresh clock es) in
    filters_commute (λ e. outlasts clock e.1.until) (λ e. comes_after node after e.0) es ∙ ap (λ b. cond b next (reverse next)) (sym (eq-eqb (node % 2) 0 even))

-- and one that scans downwards
pub beyond_down : (clock node : ℕ) (after : Option (List ℕ)) (es : List (List ℕ × Stamped)) → (node % 2 ≡ 0 → ⊥) → reverse (fresh clock (filter (λ e. comes_after node after e.0) es)) ≡ beyond node after (fresh clock es)
beyond_down clock node after es odd =
    let next = filter (λ e. comes_after node after e.0) (fresh clock es) in
    ap reverse (filters_commute (λ e. outlasts clock e.1.until) (λ e. comes_after node after e.0) es) ∙ ap (λ b. cond b next (reverse next)) (sym (ne_eqb (node % 2) 0 odd))

-- of no entries, none come next
pub nothing_beyond : (node : ℕ) (after : Option (List ℕ)) → beyond node after [] ≡ []
nothing_beyond node after =
    let none : List (List ℕ × Stamped) = [] in
    elim (ascends node) as (λ b. cond b none (reverse none) ≡ none) [ true ↦ refl | false ↦ refl ]

-- the first of no entries are none, and the last
pub first_none : (most : ℕ) → first_chunk most [] ≡ record { entries = []; last = true }
first_none most =
    let none : List (List ℕ × Stamped) = [] in
    λ i. record { entries = map stamped_entry (take_all most none (omega arith) i); last = le-leb 0 most (omega arith) i }

-- a list of length 0 is empty
without_length : (es : List (List ℕ × Stamped)) → length es ≡ 0 → es ≡ []
without_length [] e = refl
without_length (e ∷ es) h = absurd (omega arith)

-- the empty finite map has no entries
pub no_entries : maps.entries (maps.empty {X = Stamped} {R = key_cmp}) ≡ []
no_entries =
    let none : Part = maps.empty in
    without_length (maps.entries none) (sym (maps.len-entries none) ∙ maps.len-empty key_cmp Stamped)
