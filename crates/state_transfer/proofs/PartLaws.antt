-- What a node holds of a segment is what its container has there, in order.
use Rattle.std.proofs.Common.{◌≡◌, ℕ, Bool, true, false, cond, ◌&&◌, ◌==◌, T, List, [], ◌∷◌, map, filter, Some, refl, sym, ap, subst, ◌∙◌, inl, inr}
use Rattle.std.proofs.lemmas.Bool.{and_parts, cases_Bool, cases_eq, eq-eqb, ne_eqb, true≢false}
use Rattle.std.specs.Cmp.Lexicographic.{nat_list_cmp_total}
use Rattle.std.specs.Cmp.{unsigned_tied, tied_then}
use Rattle.std.specs.declared.cmp.Ordering.{Ordering}
use Rattle.std.specs.declared.cmp.Ordering.TheVariants.{Less, Equal, Greater}
use Rattle.std.specs.FinMap as map_of
use Rattle.std.specs.FinMap.Entries.{same_entries, below_all}
use Rattle.std.specs.Ordering.{nat_cmp, eq_by_cmp, is_eq, is_lt, ordering_then}
use Rattle.grid_base.specs.declared.stamped.Stamped.{Stamped}
use Rattle.container_seg.specs.Contents.{Copies, part, part_entries, place}
use Rattle.container_seg.specs.Places.{key_cmp}
use Rattle.container_seg.proofs.StoredLaws.{get-part}
use Rattle.container_seg.proofs.Trees.{exact_keys}
use Rattle.state_transfer.specs.Cells.{Cell, Cells, cell_cmp}
use Rattle.state_transfer.specs.Copying.{copy_at, part_of}

-- those of some cells that stand at a node in a segment
abbrev keys_here : ℕ → ℕ → List (Cell × Stamped) → List (List ℕ × Stamped)
keys_here n s cells = map (λ cell. (cell.0.key, cell.1)) (filter (λ cell. (cell.0.node == n) && (cell.0.segment == s)) cells)

-- whether a cell does
abbrev is_here : ℕ → ℕ → Cell → Bool
is_here n s c = (c.node == n) && (c.segment == s)

-- numbers tie where they are equal, read the other way round
tied_number : (a b : ℕ) → is_eq (nat_cmp a b) ≡ (b == a)
tied_number a b = unsigned_tied a b ∙ elim (cases_eq a b) [
  | inl same ↦ eq-eqb a b same ∙ sym (eq-eqb b a (sym same))
  | inr differ ↦ ne_eqb a b differ ∙ sym (ne_eqb b a (λ e. differ (sym e)))
]

-- a cell is that of a key here exactly where it is here and has the key
here_or_not : (n s : ℕ) (k : List ℕ) (c : Cell) → eq_by_cmp cell_cmp (record { node = n; segment = s; key = k }) c ≡ (is_here n s c && eq_by_cmp key_cmp k c.key)
here_or_not n s k c =
    sym (tied_then (nat_cmp n c.node) (ordering_then (nat_cmp s c.segment) (key_cmp k c.key)))
    ∙ (λ i. tied_number n c.node i && sym (tied_then (nat_cmp s c.segment) (key_cmp k c.key)) i)
    ∙ (λ i. (c.node == n) && (tied_number s c.segment i && eq_by_cmp key_cmp k c.key))
    ∙ grouped (c.node == n) (c.segment == s) (eq_by_cmp key_cmp k c.key)
  where
    grouped : (a b d : Bool) → (a && (b && d)) ≡ ((a && b) && d)
    grouped true b d = refl
    grouped false b d = refl

-- what is found at a key here is what is found at its cell
find_here : (n s : ℕ) (k : List ℕ) (es : List (Cell × Stamped)) → map_of.find key_cmp k (keys_here n s es) ≡ map_of.find cell_cmp (record { node = n; segment = s; key = k }) es
find_here n s k [] = refl
find_here n s k (e ∷ es) = elim (cases_Bool (is_here n s e.0)) [
  | inl here ↦ ap (λ b. map_of.find key_cmp k (map (λ cell. (cell.0.key, cell.1)) (cond b (e ∷ filter (λ cell. is_here n s cell.0) es) (filter (λ cell. is_here n s cell.0) es)))) here
      ∙ (λ i. cond (eq_by_cmp key_cmp k e.0.key) (Some e.1) (find_here n s k es i))
      ∙ ap (λ b. cond b (Some e.1) (map_of.find cell_cmp (record { node = n; segment = s; key = k }) es)) (sym (here_or_not n s k e.0 ∙ ap (λ b. b && eq_by_cmp key_cmp k e.0.key) here))
  | inr apart ↦ ap (λ b. map_of.find key_cmp k (map (λ cell. (cell.0.key, cell.1)) (cond b (e ∷ filter (λ cell. is_here n s cell.0) es) (filter (λ cell. is_here n s cell.0) es)))) apart
      ∙ find_here n s k es
      ∙ ap (λ b. cond b (Some e.1) (map_of.find cell_cmp (record { node = n; segment = s; key = k }) es)) (sym (here_or_not n s k e.0 ∙ ap (λ b. b && eq_by_cmp key_cmp k e.0.key) apart))
]

-- what holds of two tests holds of both together
both_T : (a b : Bool) → T a → T b → T (a && b)
both_T true b p q = q
both_T false b p q = p

-- and of both together holds of the first
first_T : (a b : Bool) → T (a && b) → T a
first_T true b p = tt
first_T false b p = p

-- and of the second
second_T : (a b : Bool) → T (a && b) → T b
second_T true b p = p
second_T false b p = absurd p

-- cells that tie in node and segment are in the order of their keys
lower_key : (r q t : Ordering) → is_eq r ≡ true → is_eq q ≡ true → T (is_lt (ordering_then r (ordering_then q t))) → T (is_lt t)
lower_key Less q t e f h = absurd (subst T (sym e) tt)
lower_key Equal Less t e f h = absurd (subst T (sym f) tt)
lower_key Equal Equal t e f h = h
lower_key Equal Greater t e f h = absurd h
lower_key Greater q t e f h = absurd h

-- numbers that are equal to one number tie
ties : (a b n : ℕ) → (a == n) ≡ true → (b == n) ≡ true → is_eq (nat_cmp a b) ≡ true
ties a b n e f = elim (cases_eq a n) [
  | inl same ↦ elim (cases_eq b n) [
    | inl alike ↦ unsigned_tied a b ∙ eq-eqb a b (same ∙ sym alike)
    | inr differ ↦ absurd (true≢false (sym f ∙ ne_eqb b n differ))
  ]
  | inr differ ↦ absurd (true≢false (sym e ∙ ne_eqb a n differ))
]

-- a cell here below all cells has a key below all keys here
below_here : (n s : ℕ) (c : Cell) (es : List (Cell × Stamped)) → is_here n s c ≡ true → T (below_all cell_cmp c es) → T (below_all key_cmp c.key (keys_here n s es))
below_here n s c [] here h = tt
below_here n s c (e ∷ es) here h =
    let rest = below_here n s c es here (second_T (is_lt (cell_cmp c e.0)) (below_all cell_cmp c es) h) in
    elim (is_here n s e.0) as (λ b. is_here n s e.0 ≡ b
    → T (below_all key_cmp c.key (map (λ cell. (cell.0.key, cell.1)) (cond b (e ∷ filter (λ cell. is_here n s cell.0) es) (filter (λ cell. is_here n s cell.0) es))))) [
      | true ↦ λ alike.
          let mine = and_parts (c.node == n) (c.segment == s) here in
          let other = and_parts (e.0.node == n) (e.0.segment == s) alike in
          both_T (is_lt (key_cmp c.key e.0.key)) (below_all key_cmp c.key (keys_here n s es))
          (lower_key (nat_cmp c.node e.0.node) (nat_cmp c.segment e.0.segment) (key_cmp c.key e.0.key) (ties c.node e.0.node n mine.0 other.0) (ties c.segment e.0.segment s mine.1 other.1) (first_T (is_lt (cell_cmp c e.0)) (below_all cell_cmp c es) h))
          rest
      | false ↦ λ apart. rest
    ] refl

-- so sorted cells have sorted keys here
sorted_here : (n s : ℕ) (es : List (Cell × Stamped)) → T (map_of.is_sorted cell_cmp es) → T (map_of.is_sorted key_cmp (keys_here n s es))
sorted_here n s [] h = tt
sorted_here n s (e ∷ es) h =
    let rest = sorted_here n s es (second_T (below_all cell_cmp e.0 es) (map_of.is_sorted cell_cmp es) h) in
    elim (is_here n s e.0) as (λ b. is_here n s e.0 ≡ b → T (map_of.is_sorted key_cmp (map (λ cell. (cell.0.key, cell.1)) (cond b (e ∷ filter (λ cell. is_here n s cell.0) es) (filter (λ cell. is_here n s cell.0) es))))) [
      | true ↦ λ here. both_T (below_all key_cmp e.0.key (keys_here n s es)) (map_of.is_sorted key_cmp (keys_here n s es)) (below_here n s e.0 es here (first_T (below_all cell_cmp e.0 es) (map_of.is_sorted cell_cmp es) h)) rest
      | false ↦ λ apart. rest
    ] refl

-- what a node holds of a segment, key by key
pub find-part_of : (cells : Cells) (n s : ℕ) (k : List ℕ) → map_of.find key_cmp k (part_of cells n s) ≡ copy_at cells n s k
unfolding part_of
find-part_of cells n s k = find_here n s k (map_of.entries cells) ∙ sym (map_of.get-entries cells (record { node = n; segment = s; key = k }))

-- and its keys ascend
pub sorted-part_of : (cells : Cells) (n s : ℕ) → T (map_of.is_sorted key_cmp (part_of cells n s))
unfolding part_of
sorted-part_of cells n s = sorted_here n s (map_of.entries cells) (map_of.entries_sorted cells)

-- a container with a node's copies has of each segment what the node holds of it
pub parts_are : (cells : Cells) (entries : Copies) (n s : ℕ) → ((k : List ℕ) → map_of.get entries (place s k) ≡ copy_at cells n s k) → part_entries entries s ≡ part_of cells n s
unfolding part_entries
parts_are cells entries n s h =
    same_entries key_cmp nat_list_cmp_total exact_keys (map_of.entries (part entries s)) (part_of cells n s) (map_of.entries_sorted (part entries s)) (sorted-part_of cells n s)
    (λ k. sym (map_of.get-entries (part entries s) k) ∙ get-part entries s k ∙ h k ∙ sym (find-part_of cells n s k))
