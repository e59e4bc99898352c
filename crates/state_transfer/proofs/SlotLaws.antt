-- What the containers of all nodes hold, by look-ups, and how the changes of one of them show.
use Rattle.std.proofs.Common.{◌≡◌, ℕ, suc, zero, ◌+◌, ◌<◌, ◌≤◌, Bool, true, false, cond, not, ◌&&◌, ◌||◌, ◌==◌, List, [], ◌∷◌, ◌++◌, map, length, set, Bor, Result, Ok, Err, OnOk, OnErr, Option, Some, None, is_some, arith, refl, sym, ap, ◌∙◌, inl, inr}
use Rattle.std.proofs.lemmas.Bool.{cases_Bool, cases_eq, cases_lt, ne_eqb, eq-eqb, lt-ltb, le-ltb, true≢false}
use Rattle.std.proofs.lemmas.List.{get_or-set_same, get_or-set_other, get_or_past}
use Rattle.std.proofs.lemmas.Option.{none-some}
use Rattle.std.specs.Option.{IfSome, option_copied, unwrap_or}
use Rattle.std.specs.Cmp.{nat_cmp_total, unsigned_tied, Equal-is, tied_then}
use Rattle.std.specs.declared.cmp.Ordering.{Ordering}
use Rattle.std.specs.declared.cmp.Ordering.TheVariants.{Less, Equal, Greater}
use Rattle.std.specs.FinMap as map_of
use Rattle.std.specs.FinSet as set_of
use Rattle.std.specs.Ordering.{nat_cmp, eq_by_cmp, is_eq, ordering_then}
use Rattle.std.specs.Prelude.{nat_lt, slice_index_or}
use Rattle.grid_base.specs.Nodes.{Nodes, contains-flagged}
use Rattle.grid_base.specs.declared.stamped.Stamped.{Stamped}
use Rattle.container_seg.specs.Contents.{Contents, Copies, place}
use Rattle.container_seg.specs.Lifespans.{is_fresh, left}
use Rattle.container_seg.specs.Places.{Place, place_cmp}
use Rattle.container_seg.proofs.PlaceLaws.{place_total, exact_places}
use Rattle.state_transfer.specs.Cells.{Cell, Cells, cell_cmp}
use Rattle.state_transfer.specs.Copying.{copy_at}
use Rattle.state_transfer.specs.Slots.{AreKept, Slots, cleared, entries_in, held, held_from, nodes_in, slot_at, ticked, with_entries}
use Rattle.state_transfer.proofs.CellLaws.{cells_total, exact_cells, copy-kept, copy-ticked}

-- the cell of a node, a segment and a key
abbrev cell : ℕ → ℕ → List ℕ → Cell
cell node segment key = record { node = node; segment = segment; key = key }

-- ---- look-ups

-- the first that there is of two
abbrev or_else : Option Stamped → Option Stamped → Option Stamped
or_else None second = second
or_else (Some v) second = Some v

-- what there is, or else nothing
or_none : (o : Option Stamped) → or_else o None ≡ o
or_none None = refl
or_none (Some v) = refl

-- what is found in two lists is what is found in the first, or else in the second
find_append : (q : Cell) (es fs : List (Cell × Stamped)) → map_of.find cell_cmp q (es ++ fs) ≡ or_else (map_of.find cell_cmp q es) (map_of.find cell_cmp q fs)
find_append q [] fs = refl
find_append q (e ∷ es) fs = elim (eq_by_cmp cell_cmp q e.0) as (λ b. cond b (Some e.1) (map_of.find cell_cmp q (es ++ fs)) ≡ or_else (cond b (Some e.1) (map_of.find cell_cmp q es)) (map_of.find cell_cmp q fs)) [
  | true ↦ refl
  | false ↦ find_append q es fs
]

-- a cell is found by its node, and then by its place
placed_step : (r : Ordering) (q : Ordering) (v : Stamped) (o : Option Stamped) → cond (is_eq (ordering_then r q)) (Some v) (cond (is_eq r) o None) ≡ cond (is_eq r) (cond (is_eq q) (Some v) o) None
placed_step Less q v o = refl
placed_step Equal q v o = refl
placed_step Greater q v o = refl

-- what is chosen either way is the same
either_way : (b : Bool) (o : Option Stamped) → o ≡ cond b o o
either_way true o = refl
either_way false o = refl

-- a cell is found in a node's container exactly where it is of that node and the place is there
find_placed : (n t s : ℕ) (k : List ℕ) (es : List (Place × Stamped)) →
    map_of.find cell_cmp (cell t s k) (map (λ e. (cell n e.0.segment e.0.key, e.1)) es) ≡ cond (is_eq (nat_cmp t n)) (map_of.find place_cmp (place s k) es) None
find_placed n t s k [] = either_way (is_eq (nat_cmp t n)) None
find_placed n t s k (e ∷ es) =
    ap (cond (eq_by_cmp cell_cmp (cell t s k) (cell n e.0.segment e.0.key)) (Some e.1)) (find_placed n t s k es)
    ∙ placed_step (nat_cmp t n) (place_cmp (place s k) e.0) e.1 (map_of.find place_cmp (place s k) es)

-- numbers that differ don't tie
tie_no : (t n : ℕ) → (t ≡ n → ⊥) → is_eq (nat_cmp t n) ≡ false
tie_no t n h = unsigned_tied t n ∙ ne_eqb t n h

-- equal numbers tie
tie_yes : (t n : ℕ) → t ≡ n → is_eq (nat_cmp t n) ≡ true
tie_yes t n h = unsigned_tied t n ∙ eq-eqb t n h

-- nothing is held of a node before the first
held_below : (n t s : ℕ) (k : List ℕ) (slots : Slots) → t < n → map_of.find cell_cmp (cell t s k) (held_from n slots) ≡ None
unfolding held_from
held_below n t s k [] h = refl
held_below n t s k (slot ∷ slots) h =
    let differ : t ≡ n → ⊥ = omega arith in
    let es = map_of.entries (entries_in slot) in
    find_append (cell t s k) (map (λ e. (cell n e.0.segment e.0.key, e.1)) es) (held_from (suc n) slots)
    ∙ (λ i. or_else ((find_placed n t s k es ∙ ap (λ b. cond b (map_of.find place_cmp (place s k) es) None) (tie_no t n differ)) i) (held_below (suc n) t s k slots (omega arith) i))

-- what is held of a node is what its container has
held_here : (n t i s : ℕ) (k : List ℕ) (slots : Slots) → t ≡ n + i → map_of.find cell_cmp (cell t s k) (held_from n slots) ≡ map_of.get (entries_in (slot_at slots i)) (place s k)
unfolding held_from
held_here n t i s k [] e = sym (map_of.get-empty place_cmp (place s k))
held_here n t zero s k (slot ∷ slots) e =
    let same : t ≡ n = omega arith in
    let es = map_of.entries (entries_in slot) in
    find_append (cell t s k) (map (λ e. (cell n e.0.segment e.0.key, e.1)) es) (held_from (suc n) slots)
    ∙ (λ i. or_else ((find_placed n t s k es ∙ ap (λ b. cond b (map_of.find place_cmp (place s k) es) None) (tie_yes t n same)) i) (held_below (suc n) t s k slots (omega arith) i))
    ∙ or_none (map_of.find place_cmp (place s k) es)
    ∙ sym (map_of.get-entries (entries_in slot) (place s k))
held_here n t (suc j) s k (slot ∷ slots) e =
    let differ : t ≡ n → ⊥ = omega arith in
    let es = map_of.entries (entries_in slot) in
    find_append (cell t s k) (map (λ e. (cell n e.0.segment e.0.key, e.1)) es) (held_from (suc n) slots)
    ∙ (λ i. or_else ((find_placed n t s k es ∙ ap (λ b. cond b (map_of.find place_cmp (place s k) es) None) (tie_no t n differ)) i) (held_here (suc n) t j s k slots (omega arith) i))

-- a node's copy of a key is what its container has at the place
pub copy-held : (slots : Slots) (t s : ℕ) (k : List ℕ) → copy_at (held slots) t s k ≡ map_of.get (entries_in (slot_at slots t)) (place s k)
unfolding held
copy-held slots t s k = map_of.get-from_entries cells_total (held_from 0 slots) (cell t s k) ∙ held_here 0 t t s k slots (omega arith)

-- containers that have these copies hold them
pub held_are : (slots : Slots) (cells : Cells) → ((t s : ℕ) (k : List ℕ) → map_of.get (entries_in (slot_at slots t)) (place s k) ≡ copy_at cells t s k) → held slots ≡ cells
held_are slots cells h = map_of.same_map cells_total exact_cells (held slots) cells (λ q. copy-held slots q.node q.segment q.key ∙ h q.node q.segment q.key)

-- a node has a container exactly where its slot has one
some_at : (slots : Slots) (n : ℕ) → slice_index_or (map is_some slots) n false ≡ is_some (slot_at slots n)
some_at [] n = refl
some_at (slot ∷ slots) zero = refl
some_at (slot ∷ slots) (suc n) = some_at slots n

-- a node is there where it has a container
pub contains-nodes_in : (slots : Slots) (n : ℕ) → set_of.contains (nodes_in slots) n ≡ is_some (slot_at slots n)
unfolding nodes_in
contains-nodes_in slots n = contains-flagged (map is_some slots) n ∙ some_at slots n

-- these nodes are there
pub nodes_are : (slots : Slots) (nodes : Nodes) → ((n : ℕ) → is_some (slot_at slots n) ≡ set_of.contains nodes n) → nodes_in slots ≡ nodes
nodes_are slots nodes h = set_of.same_set nat_cmp_total set_of.nat_cmp-IsAntisymmetric (nodes_in slots) nodes (λ n. contains-nodes_in slots n ∙ h n)

-- ---- changes of one slot

-- after a slot is set, its node has it and any other node what it had
slot_set : (slots : Slots) (at t : ℕ) (slot : Option Contents) → at < length slots → slot_at (set slots at slot) t ≡ cond (is_eq (nat_cmp t at)) slot (slot_at slots t)
slot_set slots at t slot h = elim (cases_eq t at) [
  | inl same ↦ ap (slot_at (set slots at slot)) same ∙ get_or-set_same slots at slot None h ∙ ap (λ b. cond b slot (slot_at slots t)) (sym (tie_yes t at same))
  | inr differ ↦ get_or-set_other slots at t slot None differ ∙ ap (λ b. cond b slot (slot_at slots t)) (sym (tie_no t at differ))
]

-- what a changed slot has
entered : (slot : Option Contents) (es : Copies) (q : Place) → (slot ≡ None → map_of.get es q ≡ None) → map_of.get (entries_in (with_entries es slot)) q ≡ map_of.get es q
entered None es q h = map_of.get-empty place_cmp q ∙ sym (h refl)
entered (Some c) es q h = refl

-- other entries leave whether a container is there
some_with : (slot : Option Contents) (es : Copies) → is_some (with_entries es slot) ≡ is_some slot
some_with None es = refl
some_with (Some c) es = refl

-- cells tie where their nodes and their places do
cell_tie : (t u : ℕ) (j : List ℕ) (at s : ℕ) (k : List ℕ) → eq_by_cmp cell_cmp (cell t u j) (cell at s k) ≡ (is_eq (nat_cmp t at) && eq_by_cmp place_cmp (place u j) (place s k))
cell_tie t u j at s k = sym (tied_then (nat_cmp t at) (place_cmp (place u j) (place s k)))

-- what is kept outside of a segment
segment_kept : (s : ℕ) (slot : Option Contents) (u : ℕ) (j : List ℕ) →
    map_of.get (map_of.retain_keys (entries_in slot) (λ p. not (p.segment == s))) (place u j) ≡ cond (not (u == s)) (map_of.get (entries_in slot) (place u j)) None
segment_kept s slot u j = map_of.get-retain_keys (entries_in slot) (λ p. not (p.segment == s)) (place u j) (λ x e. ap (λ (p : Place). not (p.segment == s)) (sym (exact_places (place u j) x e)))

-- without a container nothing is there
none_in : (slot : Option Contents) → slot ≡ None → (q : Place) → map_of.get (entries_in slot) q ≡ None
none_in slot e q = ap (λ o. map_of.get (entries_in o) q) e ∙ map_of.get-empty place_cmp q

module _ (slots : Slots) (at : ℕ) (h : at < length slots) where
  -- with other entries in a slot, the node there has those, and the others have what they had
  entries_set : (es : Copies) → (slot_at slots at ≡ None → (q : Place) → map_of.get es q ≡ None) → (t u : ℕ) (j : List ℕ) →
      map_of.get (entries_in (slot_at (set slots at (with_entries es (slot_at slots at))) t)) (place u j) ≡ cond (is_eq (nat_cmp t at)) (map_of.get es (place u j)) (copy_at (held slots) t u j)
  entries_set es none t u j =
      ap (λ o. map_of.get (entries_in o) (place u j)) (slot_set slots at t (with_entries es (slot_at slots at)) h)
      ∙ elim (is_eq (nat_cmp t at)) as (λ b. map_of.get (entries_in (cond b (with_entries es (slot_at slots at)) (slot_at slots t))) (place u j) ≡ cond b (map_of.get es (place u j)) (copy_at (held slots) t u j)) [
        | true ↦ entered (slot_at slots at) es (place u j) (λ e. none e (place u j))
        | false ↦ sym (copy-held slots t u j)
      ]

  -- and the same nodes are there
  pub nodes_kept : (es : Copies) → nodes_in (set slots at (with_entries es (slot_at slots at))) ≡ nodes_in slots
  nodes_kept es = nodes_are _ (nodes_in slots) (λ n.
      ap is_some (slot_set slots at n (with_entries es (slot_at slots at)) h)
      ∙ elim (cases_eq n at) [
        | inl same ↦ ap (λ b. is_some (cond b (with_entries es (slot_at slots at)) (slot_at slots n))) (tie_yes n at same) ∙ some_with (slot_at slots at) es ∙ ap (λ m. is_some (slot_at slots m)) (sym same)
        | inr differ ↦ ap (λ b. is_some (cond b (with_entries es (slot_at slots at)) (slot_at slots n))) (tie_no n at differ)
      ]
      ∙ sym (contains-nodes_in slots n))

  -- a container that is changed at one place changes what is held at that cell
  changed_one : (s : ℕ) (k : List ℕ) (v : Option Stamped) (es : Copies) → (slot_at slots at ≡ None → (q : Place) → map_of.get es q ≡ None)
      → ((q : Place) → map_of.get es q ≡ cond (eq_by_cmp place_cmp q (place s k)) v (map_of.get (entries_in (slot_at slots at)) q)) → (t u : ℕ) (j : List ℕ) →
      map_of.get (entries_in (slot_at (set slots at (with_entries es (slot_at slots at))) t)) (place u j) ≡ cond (eq_by_cmp cell_cmp (cell t u j) (cell at s k)) v (copy_at (held slots) t u j)
  changed_one s k v es none changed t u j =
      entries_set es none t u j
      ∙ elim (cases_eq t at) [
        | inl same ↦ ap (λ b. cond b (map_of.get es (place u j)) (copy_at (held slots) t u j)) (tie_yes t at same) ∙ changed (place u j)
            ∙ ap (cond (eq_by_cmp place_cmp (place u j) (place s k)) v) (ap (λ m. map_of.get (entries_in (slot_at slots m)) (place u j)) (sym same) ∙ sym (copy-held slots t u j))
            ∙ ap (λ b. cond b v (copy_at (held slots) t u j)) (sym (cell_tie t u j at s k ∙ ap (λ b. b && eq_by_cmp place_cmp (place u j) (place s k)) (tie_yes t at same)))
        | inr differ ↦ ap (λ b. cond b (map_of.get es (place u j)) (copy_at (held slots) t u j)) (tie_no t at differ)
            ∙ ap (λ b. cond b v (copy_at (held slots) t u j)) (sym (cell_tie t u j at s k ∙ ap (λ b. b && eq_by_cmp place_cmp (place u j) (place s k)) (tie_no t at differ)))
      ]

  -- a value is put at a node that is there
  pub held_insert : (s : ℕ) (k : List ℕ) (v : Stamped) → is_some (slot_at slots at) ≡ true →
      held (set slots at (with_entries (map_of.insert (entries_in (slot_at slots at)) (place s k) v) (slot_at slots at))) ≡ map_of.insert (held slots) (cell at s k) v
  held_insert s k v there = held_are _ _ (λ t u j.
      changed_one s k (Some v) (map_of.insert (entries_in (slot_at slots at)) (place s k) v) (λ none. absurd (true≢false (sym there ∙ ap is_some none)))
      (λ q. map_of.get-insert place_total (entries_in (slot_at slots at)) (place s k) v q) t u j
      ∙ sym (map_of.get-insert cells_total (held slots) (cell at s k) v (cell t u j)))

  -- a key is taken out at a node
  pub held_remove : (s : ℕ) (k : List ℕ) →
      held (set slots at (with_entries (map_of.remove (entries_in (slot_at slots at)) (place s k)) (slot_at slots at))) ≡ map_of.remove (held slots) (cell at s k)
  held_remove s k = held_are _ _ (λ t u j.
      changed_one s k None (map_of.remove (entries_in (slot_at slots at)) (place s k))
      (λ none q. map_of.get-remove place_total (entries_in (slot_at slots at)) (place s k) q ∙ ap (cond (eq_by_cmp place_cmp q (place s k)) None) (none_in (slot_at slots at) none q) ∙ sym (either_way (eq_by_cmp place_cmp q (place s k)) None))
      (λ q. map_of.get-remove place_total (entries_in (slot_at slots at)) (place s k) q) t u j
      ∙ sym (map_of.get-remove cells_total (held slots) (cell at s k) (cell t u j)))

  -- a segment is taken out at a node
  pub held_cleared : (s : ℕ) → held (set slots at (cleared s (slot_at slots at))) ≡ map_of.retain_keys (held slots) (λ c. not ((c.node == at) && (c.segment == s)))
  held_cleared s = held_are _ _ (λ t u j.
      entries_set (map_of.retain_keys (entries_in (slot_at slots at)) (λ p. not (p.segment == s)))
      (λ none q. segment_kept s (slot_at slots at) q.segment q.key ∙ ap (λ o. cond (not (q.segment == s)) o None) (none_in (slot_at slots at) none q) ∙ sym (either_way (not (q.segment == s)) None)) t u j
      ∙ elim (cases_eq t at) [
        | inl same ↦ ap (λ b. cond b (map_of.get (map_of.retain_keys (entries_in (slot_at slots at)) (λ p. not (p.segment == s))) (place u j)) (copy_at (held slots) t u j)) (tie_yes t at same)
            ∙ segment_kept s (slot_at slots at) u j
            ∙ ap (λ o. cond (not (u == s)) o None) (ap (λ m. map_of.get (entries_in (slot_at slots m)) (place u j)) (sym same) ∙ sym (copy-held slots t u j))
            ∙ ap (λ b. cond (not (b && (u == s))) (copy_at (held slots) t u j) None) (sym (eq-eqb t at same))
        | inr differ ↦ ap (λ b. cond b (map_of.get (map_of.retain_keys (entries_in (slot_at slots at)) (λ p. not (p.segment == s))) (place u j)) (copy_at (held slots) t u j)) (tie_no t at differ)
            ∙ ap (λ b. cond (not (b && (u == s))) (copy_at (held slots) t u j) None) (sym (ne_eqb t at differ))
      ]
      ∙ sym (copy-kept (held slots) (λ c. not ((c.node == at) && (c.segment == s))) t u j))

  -- a node's container goes
  pub held_left : held (set slots at None) ≡ map_of.retain_keys (held slots) (λ c. not ((c.node == at) && true))
  held_left = held_are _ _ (λ t u j.
      ap (λ o. map_of.get (entries_in o) (place u j)) (slot_set slots at t None h)
      ∙ elim (cases_eq t at) [
        | inl same ↦ ap (λ b. map_of.get (entries_in (cond b None (slot_at slots t))) (place u j)) (tie_yes t at same)
            ∙ map_of.get-empty place_cmp (place u j)
            ∙ ap (λ b. cond (not (b && true)) (copy_at (held slots) t u j) None) (sym (eq-eqb t at same))
        | inr differ ↦ ap (λ b. map_of.get (entries_in (cond b None (slot_at slots t))) (place u j)) (tie_no t at differ)
            ∙ sym (copy-held slots t u j)
            ∙ ap (λ b. cond (not (b && true)) (copy_at (held slots) t u j) None) (sym (ne_eqb t at differ))
      ]
      ∙ sym (copy-kept (held slots) (λ c. not ((c.node == at) && true)) t u j))

  -- a slot that is emptied takes its node out of the nodes
  pub nodes_left : nodes_in (set slots at None) ≡ set_of.remove (nodes_in slots) at
  nodes_left = nodes_are _ _ (λ n.
      ap is_some (slot_set slots at n None h)
      ∙ elim (is_eq (nat_cmp n at)) as (λ b. is_some (cond b None (slot_at slots n)) ≡ (not b && set_of.contains (nodes_in slots) n)) [
        | true ↦ refl
        | false ↦ sym (contains-nodes_in slots n)
      ]
      ∙ sym (set_of.contains-remove nat_cmp_total (nodes_in slots) at n))

  -- an empty container comes where there was none
  pub held_joined : (c : Contents) → c.entries ≡ map_of.empty → slot_at slots at ≡ None → held (set slots at (Some c)) ≡ held slots
  held_joined c empty none = held_are _ _ (λ t u j.
      ap (λ o. map_of.get (entries_in o) (place u j)) (slot_set slots at t (Some c) h)
      ∙ elim (cases_eq t at) [
        | inl same ↦ ap (λ b. map_of.get (entries_in (cond b (Some c) (slot_at slots t))) (place u j)) (tie_yes t at same)
            ∙ ap (λ es. map_of.get es (place u j)) empty
            ∙ ap (λ o. map_of.get (entries_in o) (place u j)) (sym none ∙ ap (slot_at slots) (sym same))
            ∙ sym (copy-held slots t u j)
        | inr differ ↦ ap (λ b. map_of.get (entries_in (cond b (Some c) (slot_at slots t))) (place u j)) (tie_no t at differ) ∙ sym (copy-held slots t u j)
      ])

  -- a slot that is filled puts its node in
  pub nodes_joined : (c : Contents) → nodes_in (set slots at (Some c)) ≡ set_of.insert (nodes_in slots) at
  nodes_joined c = nodes_are _ _ (λ n.
      ap is_some (slot_set slots at n (Some c) h)
      ∙ elim (is_eq (nat_cmp n at)) as (λ b. is_some (cond b (Some c) (slot_at slots n)) ≡ (b || set_of.contains (nodes_in slots) n)) [
        | true ↦ refl
        | false ↦ sym (contains-nodes_in slots n)
      ]
      ∙ sym (set_of.contains-insert nat_cmp_total (nodes_in slots) at n))

  -- containers that are kept stay so with one slot changed
  pub kept_set : (clock : ℕ) (slot : Option Contents) → AreKept clock slots → ((c : Contents) → slot ≡ Some c → (c.node ≡ at) × (c.clock ≡ clock)) → AreKept clock (set slots at slot)
  kept_set clock slot kept here n c is = elim (cases_eq n at) [
    | inl same ↦
        let facts = here c (sym (slot_set slots at n slot h ∙ ap (λ b. cond b slot (slot_at slots n)) (tie_yes n at same)) ∙ is) in
        (facts.0 ∙ sym same, facts.1)
    | inr differ ↦ kept n c (sym (slot_set slots at n slot h ∙ ap (λ b. cond b slot (slot_at slots n)) (tie_no n at differ)) ∙ is)
  ]

  -- other entries of one container leave containers kept
  pub kept_entries : (clock : ℕ) (es : Copies) → AreKept clock slots → AreKept clock (set slots at (with_entries es (slot_at slots at)))
  kept_entries clock es kept = kept_set clock (with_entries es (slot_at slots at)) kept (λ c is. still (slot_at slots at) refl c is)
    where
      still : (slot : Option Contents) → slot_at slots at ≡ slot → (c : Contents) → with_entries es slot ≡ Some c → (c.node ≡ at) × (c.clock ≡ clock)
      still None e c is = absurd (none-some c is)
      still (Some d) e c is =
          let facts = kept at d e in
          let same : ◌≡◌ {A = Contents} (record d { entries = es }) c = ap (λ (o : Option Contents). unwrap_or o c) is in
          (ap (λ (x : Contents). x.node) (sym same) ∙ facts.0, ap (λ (x : Contents). x.clock) (sym same) ∙ facts.1)

-- ---- a slot that isn't there

module _ (slots : Slots) (at : ℕ) (past : length slots ≤ at) where
  -- a node past the last slot has no container
  none_past : slot_at slots at ≡ None
  none_past = get_or_past slots at None past

  -- and no copy
  copy_past : (s : ℕ) (k : List ℕ) → copy_at (held slots) at s k ≡ None
  copy_past s k = copy-held slots at s k ∙ none_in (slot_at slots at) none_past (place s k)

  -- nothing goes where nothing is
  pub held_remove_past : (s : ℕ) (k : List ℕ) → held slots ≡ map_of.remove (held slots) (cell at s k)
  held_remove_past s k = map_of.same_map cells_total exact_cells _ _ (λ q.
      elim (cases_Bool (eq_by_cmp cell_cmp q (cell at s k))) [
        | inl ties ↦ sym (map_of.get_tied cells_total (held slots) q (cell at s k) ((Equal-is (cell_cmp q (cell at s k))).0 ties)) ∙ copy_past s k
            ∙ ap (λ b. cond b None (map_of.get (held slots) q)) (sym ties)
        | inr apart ↦ ap (λ b. cond b None (map_of.get (held slots) q)) (sym apart)
      ]
      ∙ sym (map_of.get-remove cells_total (held slots) (cell at s k) q))

  -- so taking its copies away changes nothing
  pub held_kept_past : (p : ℕ → Bool) → held slots ≡ map_of.retain_keys (held slots) (λ c. not ((c.node == at) && p c.segment))
  held_kept_past p = map_of.same_map cells_total exact_cells _ _ (λ q.
      elim (cases_eq q.node at) [
        | inl same ↦ ap (λ n. copy_at (held slots) n q.segment q.key) same ∙ copy_past q.segment q.key
            ∙ either_way (not ((q.node == at) && p q.segment)) None
            ∙ ap (λ o. cond (not ((q.node == at) && p q.segment)) o None) (sym (ap (λ n. copy_at (held slots) n q.segment q.key) same ∙ copy_past q.segment q.key))
        | inr differ ↦ ap (λ b. cond (not (b && p q.segment)) (map_of.get (held slots) q) None) (sym (ne_eqb q.node at differ))
      ]
      ∙ sym (copy-kept (held slots) (λ c. not ((c.node == at) && p c.segment)) q.node q.segment q.key))

  -- nor does taking it out of the nodes
  pub nodes_left_past : nodes_in slots ≡ set_of.remove (nodes_in slots) at
  nodes_left_past = nodes_are slots _ (λ n.
      elim (cases_eq n at) [
        | inl same ↦ ap (λ m. is_some (slot_at slots m)) same ∙ ap is_some none_past ∙ ap (λ b. not b && set_of.contains (nodes_in slots) n) (sym (tie_yes n at same))
        | inr differ ↦ sym (contains-nodes_in slots n) ∙ ap (λ b. not b && set_of.contains (nodes_in slots) n) (sym (tie_no n at differ))
      ]
      ∙ sym (set_of.contains-remove nat_cmp_total (nodes_in slots) at n))

-- where all pass, all stay
pub all_kept : (cells : Cells) (kept : Bool) (p : Cell → Bool) → kept ≡ true → cells ≡ map_of.retain_keys cells (λ c. kept || p c)
all_kept cells kept p h = map_of.same_map cells_total exact_cells _ _ (λ q.
    ap (λ b. cond (b || p q) (map_of.get cells q) None) (sym h) ∙ sym (copy-kept cells (λ c. kept || p c) q.node q.segment q.key))

-- ---- all slots

-- containers that are the same by look-up hold the same
pub held_alike : (slots more : Slots) → ((n : ℕ) → slot_at more n ≡ slot_at slots n) → held more ≡ held slots
held_alike slots more alike = held_are more (held slots) (λ t s k. ap (λ o. map_of.get (entries_in o) (place s k)) (alike t) ∙ sym (copy-held slots t s k))

-- equal slots have equal nodes
pub nodes_alike : (slots more : Slots) → ((n : ℕ) → slot_at more n ≡ slot_at slots n) → nodes_in more ≡ nodes_in slots
nodes_alike slots more alike = nodes_are more (nodes_in slots) (λ n. ap is_some (alike n) ∙ sym (contains-nodes_in slots n))

-- and are kept alike
pub kept_alike : (clock : ℕ) (slots more : Slots) → ((n : ℕ) → slot_at more n ≡ slot_at slots n) → AreKept clock slots → AreKept clock more
kept_alike clock slots more alike kept n c is = kept n c (sym (alike n) ∙ is)

-- a segment is taken out of all
pub held_all_cleared : (slots more : Slots) (s : ℕ) → ((n : ℕ) → slot_at more n ≡ cleared s (slot_at slots n)) → held more ≡ map_of.retain_keys (held slots) (λ c. not (c.segment == s))
held_all_cleared slots more s alike = held_are more _ (λ t u j.
    ap (λ o. map_of.get (entries_in o) (place u j)) (alike t)
    ∙ entered (slot_at slots t) (map_of.retain_keys (entries_in (slot_at slots t)) (λ p. not (p.segment == s))) (place u j)
    (λ none. segment_kept s (slot_at slots t) u j ∙ ap (λ o. cond (not (u == s)) o None) (none_in (slot_at slots t) none (place u j)) ∙ sym (either_way (not (u == s)) None))
    ∙ segment_kept s (slot_at slots t) u j
    ∙ ap (λ o. cond (not (u == s)) o None) (sym (copy-held slots t u j))
    ∙ sym (copy-kept (held slots) (λ c. not (c.segment == s)) t u j))

-- a segment that is cleared everywhere leaves the nodes
pub nodes_all_cleared : (slots more : Slots) (s : ℕ) → ((n : ℕ) → slot_at more n ≡ cleared s (slot_at slots n)) → nodes_in more ≡ nodes_in slots
nodes_all_cleared slots more s alike = nodes_are more (nodes_in slots) (λ n. ap is_some (alike n) ∙ some_with (slot_at slots n) _ ∙ sym (contains-nodes_in slots n))

-- and leaves containers kept
pub kept_all_cleared : (clock : ℕ) (slots more : Slots) (s : ℕ) → ((n : ℕ) → slot_at more n ≡ cleared s (slot_at slots n)) → AreKept clock slots → AreKept clock more
kept_all_cleared clock slots more s alike kept n c is = still (slot_at slots n) refl (sym (alike n) ∙ is)
  where
    still : (slot : Option Contents) → slot_at slots n ≡ slot → cleared s slot ≡ Some c → (c.node ≡ n) × (c.clock ≡ clock)
    still None e is = absurd (none-some c is)
    still (Some d) e is =
        let facts = kept n d e in
        let same : ◌≡◌ {A = Contents} (record d { entries = map_of.retain_keys d.entries (λ p. not (p.segment == s)) }) c = ap (λ (o : Option Contents). unwrap_or o c) is in
        (ap (λ (x : Contents). x.node) (sym same) ∙ facts.0, ap (λ (x : Contents). x.clock) (sym same) ∙ facts.1)

-- what is at a place after a tick is what is left at the clock
ticked_place : (clock : ℕ) (slot : Option Contents) (u : ℕ) (j : List ℕ) → map_of.get (entries_in (ticked clock slot)) (place u j) ≡ left clock (map_of.get (entries_in slot) (place u j))
ticked_place clock None u j = map_of.get-empty place_cmp (place u j) ∙ sym (ap (left clock) (map_of.get-empty place_cmp (place u j)))
ticked_place clock (Some c) u j = map_of.get-retain_keys c.entries (λ p. is_fresh clock (map_of.get c.entries p)) (place u j) (λ x e. ap (is_fresh clock) (map_of.get_tied place_total c.entries (place u j) x e))

-- a tick leaves whether a container is there
some_ticked : (clock : ℕ) (slot : Option Contents) → is_some (ticked clock slot) ≡ is_some slot
some_ticked clock None = refl
some_ticked clock (Some c) = refl

-- the clock of all is raised
pub held_all_ticked : (slots more : Slots) (clock : ℕ) → ((n : ℕ) → slot_at more n ≡ ticked clock (slot_at slots n)) → held more ≡ map_of.retain_keys (held slots) (λ c. is_fresh clock (map_of.get (held slots) c))
held_all_ticked slots more clock alike = held_are more _ (λ t u j.
    ap (λ o. map_of.get (entries_in o) (place u j)) (alike t)
    ∙ ticked_place clock (slot_at slots t) u j
    ∙ ap (left clock) (sym (copy-held slots t u j))
    ∙ sym (copy-ticked clock (held slots) t u j))

-- a tick everywhere leaves the nodes
pub nodes_all_ticked : (slots more : Slots) (clock : ℕ) → ((n : ℕ) → slot_at more n ≡ ticked clock (slot_at slots n)) → nodes_in more ≡ nodes_in slots
nodes_all_ticked slots more clock alike = nodes_are more (nodes_in slots) (λ n. ap is_some (alike n) ∙ some_ticked clock (slot_at slots n) ∙ sym (contains-nodes_in slots n))

-- and keeps containers, at the later clock
pub kept_all_ticked : (before clock : ℕ) (slots more : Slots) → ((n : ℕ) → slot_at more n ≡ ticked clock (slot_at slots n)) → AreKept before slots → AreKept clock more
kept_all_ticked before clock slots more alike kept n c is = still (slot_at slots n) refl (sym (alike n) ∙ is)
  where
    still : (slot : Option Contents) → slot_at slots n ≡ slot → ticked clock slot ≡ Some c → (c.node ≡ n) × (c.clock ≡ clock)
    still None e is = absurd (none-some c is)
    still (Some d) e is =
        let same : ◌≡◌ {A = Contents} (record d { clock = clock; entries = map_of.retain_keys d.entries (λ p. is_fresh clock (map_of.get d.entries p)) }) c = ap (λ (o : Option Contents). unwrap_or o c) is in
        (ap (λ (x : Contents). x.node) (sym same) ∙ (kept n d e).0, ap (λ (x : Contents). x.clock) (sym same))

-- no containers
pub held_none : held [] ≡ map_of.empty
held_none = held_are [] _ (λ t s k. map_of.get-empty place_cmp (place s k) ∙ sym (map_of.get-empty cell_cmp (cell t s k)))

-- no slots have no nodes
pub nodes_none : nodes_in [] ≡ set_of.empty
nodes_none = nodes_are [] _ (λ n. sym (set_of.contains-empty nat_cmp n))

-- ---- slots that are changed one after another

-- what stands at a node, where the slots below this one are changed
abbrev pub so_far : (Option Contents → Option Contents) → Slots → ℕ → ℕ → Option Contents
so_far f slots at n = cond (nat_lt n at) (f (slot_at slots n)) (slot_at slots n)

-- at first no slot is changed
pub none_changed : (f : Option Contents → Option Contents) (slots : Slots) (n : ℕ) → slot_at slots n ≡ so_far f slots 0 n
none_changed f slots n = ap (λ b. cond b (f (slot_at slots n)) (slot_at slots n)) (sym (le-ltb n 0 (omega arith)))

-- one more slot is changed
pub one_changed : (f : Option Contents → Option Contents) (first slots : Slots) (at : ℕ) → at < length slots → ((n : ℕ) → slot_at slots n ≡ so_far f first at n) → (n : ℕ) →
    slot_at (set slots at (f (slot_at slots at))) n ≡ so_far f first (at + 1) n
one_changed f first slots at h before n =
    slot_set slots at n (f (slot_at slots at)) h
    ∙ elim (cases_eq n at) [
      | inl same ↦ ap (λ b. cond b (f (slot_at slots at)) (slot_at slots n)) (tie_yes n at same)
          ∙ ap f (before at ∙ ap (λ b. cond b (f (slot_at first at)) (slot_at first at)) (le-ltb at at (omega arith)) ∙ ap (slot_at first) (sym same))
          ∙ ap (λ b. cond b (f (slot_at first n)) (slot_at first n)) (sym (lt-ltb n (at + 1) (omega (arith, same))))
      | inr differ ↦ ap (λ b. cond b (f (slot_at slots at)) (slot_at slots n)) (tie_no n at differ) ∙ before n
          ∙ elim (cases_lt n at) [
            | inl below ↦ ap (λ b. cond b (f (slot_at first n)) (slot_at first n)) (lt-ltb n at below ∙ sym (lt-ltb n (at + 1) (omega (arith, below))))
            | inr above ↦ ap (λ b. cond b (f (slot_at first n)) (slot_at first n)) (le-ltb n at above ∙ sym (le-ltb n (at + 1) (omega (arith, above, differ))))
          ]
    ]

-- behind the last slot all are changed
pub all_changed : (f : Option Contents → Option Contents) → f None ≡ None → (first slots : Slots) (at : ℕ) → length first ≤ at → ((n : ℕ) → slot_at slots n ≡ so_far f first at n) → (n : ℕ) →
    slot_at slots n ≡ f (slot_at first n)
all_changed f none first slots at h before n =
    before n
    ∙ elim (cases_lt n at) [
      | inl below ↦ ap (λ b. cond b (f (slot_at first n)) (slot_at first n)) (lt-ltb n at below)
      | inr above ↦
          let past : slot_at first n ≡ None = get_or_past first n None (omega (arith, above, h)) in
          ap (λ b. cond b (f (slot_at first n)) (slot_at first n)) (le-ltb n at above) ∙ past ∙ sym (ap f past ∙ none)
    ]

-- ---- a container that is lent

-- what is borrowed is there exactly where its copy is
pub some_lent : {A : Type 0} (r : Option (Bor A)) → is_some r ≡ is_some (option_copied r)
some_lent None = refl
some_lent (Some b) = refl

-- what holds of the container in the slot holds of the one that is lent
pub lent_facts : (r : Option (Bor Contents)) (slot : Option Contents) → option_copied r ≡ slot → (P : Contents → Type 0) → ((c : Contents) → slot ≡ Some c → P c) → IfSome r (λ b. P b.now)
lent_facts None slot e P h = tt
lent_facts (Some b) slot e P h = h b.now (sym e)

-- the container at a node has the node's copies
pub copy_there : (slots : Slots) (n : ℕ) (c : Contents) → slot_at slots n ≡ Some c → (s : ℕ) (k : List ℕ) → map_of.get c.entries (place s k) ≡ copy_at (held slots) n s k
copy_there slots n c is s k = sym (copy-held slots n s k ∙ ap (λ o. map_of.get (entries_in o) (place s k)) is)

-- ---- results

-- what follows from both ways follows
pub both_ways : {V E P R : Type 0} (Q : Type 0) (r : Result V E) → OnOk r P → OnErr r R → (P → Q) → (R → Q) → Q
both_ways Q (Ok v) p e f g = f p
both_ways Q (Err x) p e f g = g e

-- a slot that has a container has one
pub there_is : (slot : Option Contents) → is_some slot ≡ true → (c : Contents) × (slot ≡ Some c)
there_is None h = absurd (true≢false (sym h))
there_is (Some c) h = (c, refl)

-- a node that is there has a slot
pub slot_within : (slots : Slots) (n : ℕ) → is_some (slot_at slots n) ≡ true → n < length slots
slot_within slots n h = elim (cases_lt n (length slots)) [
  | inl below ↦ below
  | inr past ↦ absurd (true≢false (sym h ∙ ap is_some (get_or_past slots n None past)))
]

-- a slot that has none is empty
pub is_absent : (slot : Option Contents) → is_some slot ≡ false → slot ≡ None
is_absent None h = refl
is_absent (Some c) h = absurd (true≢false h)

-- an empty container is empty at any clock
pub empty_joined : (node clock : ℕ) (made joined : Contents) → made ≡ record { node = node; clock = 0; entries = map_of.empty }
    → joined ≡ record made { clock = clock; entries = map_of.retain_keys made.entries (λ p. is_fresh clock (map_of.get made.entries p)) } → joined.entries ≡ map_of.empty
empty_joined node clock made joined e t =
    ap (λ (c : Contents). c.entries) t
    ∙ ap (λ (c : Contents). map_of.retain_keys c.entries (λ p. is_fresh clock (map_of.get c.entries p))) e
    ∙ map_of.same_map place_total exact_places _ _ (λ q.
    map_of.get-retain_keys map_of.empty (λ p. is_fresh clock (map_of.get map_of.empty p)) q (λ x e. ap (is_fresh clock) (map_of.get_tied place_total map_of.empty q x e))
    ∙ ap (λ o. cond (is_fresh clock o) o None) (map_of.get-empty place_cmp q)
    ∙ sym (map_of.get-empty place_cmp q))

-- what follows from what holds where there is no error holds there
pub on_ok_weaker : {V E P Q : Type 0} (r : Result V E) → (P → Q) → OnOk r P → OnOk r Q
on_ok_weaker (Ok v) f p = f p
on_ok_weaker (Err e) f p = tt

-- and where there is one
pub on_err_weaker : {V E P Q : Type 0} (r : Result V E) → (P → Q) → OnErr r P → OnErr r Q
on_err_weaker (Ok v) f p = tt
on_err_weaker (Err e) f p = f p

-- what follows from what holds of what is there holds of it
pub some_weaker : {A : Type 0} (o : Option A) (P Q : A → Type 0) → ((a : A) → P a → Q a) → IfSome o P → IfSome o Q
some_weaker None P Q f h = tt
some_weaker (Some a) P Q f h = f a h
