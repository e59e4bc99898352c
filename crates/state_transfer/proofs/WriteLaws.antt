-- Writes at several nodes, one after another, and how they are taken back.
use Rattle.std.proofs.Common.{◌≡◌, ℕ, suc, zero, ◌+◌, ◌≤◌, Bool, true, false, cond, not, ◌&&◌, ◌||◌, ◌==◌, List, [], ◌∷◌, drop, filter, length, slice_get, Option, Some, None, is_some, arith, refl, sym, ap, ◌∙◌, inl, inr}
use Rattle.std.proofs.lemmas.Bool.{cases_Bool, cases_eq, eq-eqb, ne_eqb, true≢false}
use Rattle.std.proofs.lemmas.List.{drop_all}
use Rattle.std.proofs.lemmas.Option.{none-some}
use Rattle.std.specs.Cmp.{Equal-is, nat_eq_equiv, tied_itself}
use Rattle.std.specs.Cmp.Lexicographic.{nat_list_cmp_total}
use Rattle.std.specs.FinMap as map_of
use Rattle.std.specs.FinSet as set_of
use Rattle.std.specs.Option.{option_map, unwrap_or}
use Rattle.std.specs.Ordering.{eq_by_cmp}
use Rattle.grid_base.specs.declared.stamped.Stamped.{Stamped}
use Rattle.container_seg.specs.Places.{key_cmp}
use Rattle.container_seg.proofs.Trees.{exact_keys}
use Rattle.topology_phase.specs.Owners.{among}
use Rattle.state_transfer.specs.Calls.{is_new_to, is_there, marks_at, takes_back, unmarks_at}
use Rattle.state_transfer.specs.Cells.{Cell, Cells, Destination, Keys, cell_cmp}
use Rattle.state_transfer.specs.Changes.{changes, marks, set_at, set_cell}
use Rattle.state_transfer.specs.Copying.{Copying, Transfer, Transfers, copy_at, each_changed, transfer_to}
use Rattle.state_transfer.proofs.CellLaws.{cells_total, exact_cells, destinations_total, exact_destinations, copy-set_at, tied_keys, transfer-changed}

-- the place of a transfer: its receiver and its segment
abbrev to : ℕ → ℕ → Destination
to receiver segment = record { receiver = receiver; segment = segment }

-- cells with the same copies are the same
pub cells_are : (a b : Cells) → ((n s : ℕ) (k : List ℕ) → copy_at a n s k ≡ copy_at b n s k) → a ≡ b
cells_are a b h = map_of.same_map cells_total exact_cells a b (λ q. h q.node q.segment q.key)

-- and transfers that lead to the same places alike
pub transfers_are : (a b : Transfers) → ((r s : ℕ) → transfer_to a r s ≡ transfer_to b r s) → a ≡ b
transfers_are a b h = map_of.same_map destinations_total exact_destinations a b (λ d. h d.receiver d.segment)

-- a test of equal numbers may be turned
flip : (a b : ℕ) → (a == b) ≡ (b == a)
flip a b = nat_eq_equiv.symm a b

-- what is so, or no, is so
or_no : (b : Bool) → (b || false) ≡ b
or_no true = refl
or_no false = refl

-- equal changes change alike
mapped_alike : (f g : Transfer → Transfer) → ((t : Transfer) → f t ≡ g t) → (o : Option Transfer) → option_map f o ≡ option_map g o
mapped_alike f g h None = refl
mapped_alike f g h (Some t) = ap Some (h t)

-- functions that change each transfer alike change all alike
pub changed_alike : (f g : Destination → Transfer → Transfer) → ((d : Destination) (t : Transfer) → f d t ≡ g d t) → (ts : Transfers) → each_changed f ts ≡ each_changed g ts
changed_alike f g h ts = transfers_are _ _ (λ r s. transfer-changed f ts r s ∙ mapped_alike (f (to r s)) (g (to r s)) (h (to r s)) (transfer_to ts r s) ∙ sym (transfer-changed g ts r s))

-- a write at one node touches the key in one transfer
marks_one : (n s : ℕ) (k : List ℕ) (d : Destination) (t : Transfer) → marks_at (to n s) k d t ≡ marks (n ∷ []) s k d t
marks_one n s k d t = λ i. record t { touched = cond ((flip d.receiver n ∙ sym (or_no (n == d.receiver))) i && (d.segment == s)) (set_of.insert t.touched k) t.touched }

-- a write at one node: its copy, and one transfer
pub changes_one : (n s : ℕ) (k : List ℕ) (o : Option Stamped) (c : Copying) →
    ◌≡◌ {A = Copying} (record { clock = c.clock; cells = set_cell c.cells (record { node = n; segment = s; key = k }) o; transfers = each_changed (marks_at (to n s) k) c.transfers }) (changes (n ∷ []) s k o c)
unfolding changes set_at
changes_one n s k o c = λ i. record {
  clock = c.clock;
  cells = set_cell c.cells (record { node = n; segment = s; key = k }) o;
  transfers = changed_alike (marks_at (to n s) k) (marks (n ∷ []) s k) (marks_one n s k) c.transfers i;
}

-- a write at no node changes nothing
pub changes_none : (s : ℕ) (k : List ℕ) (o : Option Stamped) (c : Copying) → c ≡ changes [] s k o c
unfolding changes set_at
changes_none s k o c = λ i. record {
  clock = c.clock;
  cells = c.cells;
  transfers = transfers_are c.transfers (each_changed (marks [] s k) c.transfers) (λ q t. unmapped (transfer_to c.transfers q t) ∙ sym (transfer-changed (marks [] s k) c.transfers q t)) i;
}
  where
    unmapped : (o : Option Transfer) → o ≡ option_map (λ t. t) o
    unmapped None = refl
    unmapped (Some t) = refl

-- a key that is put in twice is in once
twice_in : (t : Keys) (k : List ℕ) → set_of.insert (set_of.insert t k) k ≡ set_of.insert t k
twice_in t k = set_of.same_set nat_list_cmp_total exact_keys _ _ (λ q.
    set_of.contains-insert nat_list_cmp_total (set_of.insert t k) k q
    ∙ elim (cases_Bool (eq_by_cmp key_cmp q k)) [
      | inl ties ↦ ap (λ b. b || set_of.contains (set_of.insert t k) q) ties ∙ sym (set_of.contains-insert nat_list_cmp_total t k q ∙ ap (λ b. b || set_of.contains t q) ties)
      | inr apart ↦ ap (λ b. b || set_of.contains (set_of.insert t k) q) apart
    ])

-- a write at one node and then at others is one at all of them
first_then : (a b e : Bool) (o was : Option Stamped) → cond (b && e) o (cond ((a || false) && e) o was) ≡ cond ((a || b) && e) o was
first_then true true true o was = refl
first_then true true false o was = refl
first_then true false true o was = refl
first_then true false false o was = refl
first_then false true true o was = refl
first_then false true false o was = refl
first_then false false e o was = refl

-- and so of the keys touched
touched_then : (a b e : Bool) (t : Keys) (k : List ℕ) →
    cond (b && e) (set_of.insert (cond ((a || false) && e) (set_of.insert t k) t) k) (cond ((a || false) && e) (set_of.insert t k) t) ≡ cond ((a || b) && e) (set_of.insert t k) t
touched_then true true true t k = twice_in t k
touched_then true true false t k = refl
touched_then true false true t k = refl
touched_then true false false t k = refl
touched_then false true true t k = refl
touched_then false true false t k = refl
touched_then false false e t k = refl

-- a key that is touched at a first node, and then at the others, is touched at all of them
pub marks_more : (n : ℕ) (nodes : List ℕ) (s : ℕ) (k : List ℕ) (ts : Transfers) → each_changed (marks nodes s k) (each_changed (marks (n ∷ []) s k) ts) ≡ each_changed (marks (n ∷ nodes) s k) ts
marks_more n nodes s k ts = transfers_are _ _ (λ q t.
    transfer-changed (marks nodes s k) (each_changed (marks (n ∷ []) s k) ts) q t
    ∙ ap (option_map (marks nodes s k (to q t))) (transfer-changed (marks (n ∷ []) s k) ts q t)
    ∙ both (to q t) (transfer_to ts q t)
    ∙ sym (transfer-changed (marks (n ∷ nodes) s k) ts q t))
  where
    both : (d : Destination) (u : Option Transfer) → option_map (marks nodes s k d) (option_map (marks (n ∷ []) s k d) u) ≡ option_map (marks (n ∷ nodes) s k d) u
    both d None = refl
    both d (Some t) = ap (λ ks. Some (record t { touched = ks })) (touched_then (n == d.receiver) (among d.receiver nodes) (d.segment == s) t.touched k)

-- a write at a first node, and then at the others, is the write at all of them
pub changes_more : (n : ℕ) (nodes : List ℕ) (s : ℕ) (k : List ℕ) (o : Option Stamped) (c : Copying) → changes nodes s k o (changes (n ∷ []) s k o c) ≡ changes (n ∷ nodes) s k o c
unfolding changes
changes_more n nodes s k o c = λ i. record {
  clock = c.clock;
  cells = cells_are (set_at nodes s k o (set_at (n ∷ []) s k o c.cells)) (set_at (n ∷ nodes) s k o c.cells) (λ q t j.
      copy-set_at nodes s k o (set_at (n ∷ []) s k o c.cells) q t j
      ∙ ap (cond (among q nodes && ((t == s) && eq_by_cmp key_cmp j k)) o) (copy-set_at (n ∷ []) s k o c.cells q t j)
      ∙ first_then (n == q) (among q nodes) ((t == s) && eq_by_cmp key_cmp j k) o (copy_at c.cells q t j)
      ∙ sym (copy-set_at (n ∷ nodes) s k o c.cells q t j)) i;
  transfers = marks_more n nodes s k c.transfers i;
}

-- an erasure at the others, after the key is touched at a first node, and then at that one, is the erasure at all of them
pub erased_more : (n : ℕ) (nodes : List ℕ) (s : ℕ) (k : List ℕ) (c : Copying) →
    (let marked : Copying = record c { transfers = each_changed (marks_at (to n s) k) c.transfers } in
    let others : Copying = changes nodes s k None marked in
    ◌≡◌ {A = Copying} (record others { cells = map_of.remove others.cells (record { node = n; segment = s; key = k }) }) (changes (n ∷ nodes) s k None c))
unfolding changes set_at
erased_more n nodes s k c = λ i. record {
  clock = c.clock;
  cells = map_of.remove (set_at nodes s k None c.cells) (record { node = n; segment = s; key = k });
  transfers = (ap (each_changed (marks nodes s k)) (changed_alike (marks_at (to n s) k) (marks (n ∷ []) s k) (marks_one n s k) c.transfers) ∙ marks_more n nodes s k c.transfers) i;
}

-- ---- the nodes listed from a place on

-- what is left of a list from a place on begins with what stands there
dropped : (i : ℕ) (xs : List ℕ) (x : ℕ) → slice_get xs i ≡ Some x → drop i xs ≡ x ∷ drop (suc i) xs
dropped i [] x h = absurd (none-some x h)
dropped zero (y ∷ ys) x h = λ k. ap (λ o. unwrap_or o y) h k ∷ ys
dropped (suc i) (y ∷ ys) x h = dropped i ys x h

-- one that is there is the first one
pub listed_there : (lives : ℕ → Bool) (i : ℕ) (xs : List ℕ) (x : ℕ) → Some x ≡ slice_get xs i → lives x ≡ true → x ∷ filter lives (drop (i + 1) xs) ≡ filter lives (drop i xs)
listed_there lives i xs x h there =
    let next : i + 1 ≡ suc i = omega arith in
    ap (λ j. x ∷ filter lives (drop j xs)) next
    ∙ ap (λ b. cond b (x ∷ filter lives (drop (suc i) xs)) (filter lives (drop (suc i) xs))) (sym there)
    ∙ ap (filter lives) (sym (dropped i xs x (sym h)))

-- one that isn't there is left out
pub listed_absent : (lives : ℕ → Bool) (i : ℕ) (xs : List ℕ) (x : ℕ) → Some x ≡ slice_get xs i → lives x ≡ false → filter lives (drop (i + 1) xs) ≡ filter lives (drop i xs)
listed_absent lives i xs x h absent =
    let next : i + 1 ≡ suc i = omega arith in
    ap (λ j. filter lives (drop j xs)) next
    ∙ ap (λ b. cond b (x ∷ filter lives (drop (suc i) xs)) (filter lives (drop (suc i) xs))) (sym absent)
    ∙ ap (filter lives) (sym (dropped i xs x (sym h)))

-- past the end there is none
pub listed_none : (lives : ℕ → Bool) (i : ℕ) (xs : List ℕ) → length xs ≤ i → [] ≡ filter lives (drop i xs)
listed_none lives i xs h = ap (filter lives) (sym (drop_all i xs h))

-- ---- what is taken back

-- a key that wasn't in, put in and taken out, leaves the keys as they were
out_again : (t : Keys) (k : List ℕ) → set_of.contains t k ≡ false → set_of.remove (set_of.insert t k) k ≡ t
out_again t k absent = set_of.same_set nat_list_cmp_total exact_keys _ _ (λ q.
    set_of.contains-remove nat_list_cmp_total (set_of.insert t k) k q
    ∙ ap (λ b. not (eq_by_cmp key_cmp q k) && b) (set_of.contains-insert nat_list_cmp_total t k q)
    ∙ elim (cases_Bool (eq_by_cmp key_cmp q k)) [
      | inl ties ↦ ap (λ b. not b && (b || set_of.contains t q)) ties ∙ sym (ap (set_of.contains t) (tied_keys q k ties) ∙ absent)
      | inr apart ↦ ap (λ b. not b && (b || set_of.contains t q)) apart
    ])

-- a key that is in, put in, leaves them too
in_already : (t : Keys) (k : List ℕ) → set_of.contains t k ≡ true → set_of.insert t k ≡ t
in_already t k there = set_of.same_set nat_list_cmp_total exact_keys _ _ (λ q.
    set_of.contains-insert nat_list_cmp_total t k q
    ∙ elim (cases_Bool (eq_by_cmp key_cmp q k)) [
      | inl ties ↦ ap (λ b. b || set_of.contains t q) ties ∙ sym (ap (set_of.contains t) (tied_keys q k ties) ∙ there)
      | inr apart ↦ ap (λ b. b || set_of.contains t q) apart
    ])

-- what isn't no is yes
not_false : (b : Bool) → not b ≡ false → b ≡ true
not_false true h = refl
not_false false h = absurd (true≢false h)

-- what isn't yes is no
not_true : (b : Bool) → not b ≡ true → b ≡ false
not_true true h = absurd (true≢false (sym h))
not_true false h = refl

-- only one place is that of a node and a segment
there_is_one : (n s q t : ℕ) → is_there (to n s) (to q t) ≡ true → (q ≡ n) × (t ≡ s)
there_is_one n s q t h = elim (cases_eq q n) [
  | inl same ↦ elim (cases_eq t s) [
    | inl alike ↦ (same, alike)
    | inr differ ↦ absurd (true≢false (sym h ∙ (λ i. eq-eqb q n same i && ne_eqb t s differ i)))
  ]
  | inr differ ↦ absurd (true≢false (sym h ∙ ap (λ b. b && (t == s)) (ne_eqb q n differ)))
]

-- a key that was touched newly is untouched again, and the transfers are as they were
pub marks_taken_back : (ts : Transfers) (n s : ℕ) (k : List ℕ) (marked : Bool) → marked ≡ is_new_to k (transfer_to ts n s) →
    cond marked (each_changed (unmarks_at (to n s) k) (each_changed (marks_at (to n s) k) ts)) (each_changed (marks_at (to n s) k) ts) ≡ ts
marks_taken_back ts n s k true new = transfers_are _ ts (λ q t.
    transfer-changed (unmarks_at (to n s) k) (each_changed (marks_at (to n s) k) ts) q t
    ∙ ap (option_map (unmarks_at (to n s) k (to q t))) (transfer-changed (marks_at (to n s) k) ts q t)
    ∙ undone (is_there (to n s) (to q t)) (transfer_to ts q t) (λ h. let e = there_is_one n s q t h in (λ i. is_new_to k (transfer_to ts (e.0 i) (e.1 i))) ∙ sym new))
  where
    undone : (b : Bool) (u : Option Transfer) → (b ≡ true → is_new_to k u ≡ true) →
        option_map (λ (x : Transfer). record x { touched = cond b (set_of.remove x.touched k) x.touched }) (option_map (λ (x : Transfer). record x { touched = cond b (set_of.insert x.touched k) x.touched }) u) ≡ u
    undone b None h = refl
    undone true (Some x) h = ap (λ ks. Some (record x { touched = ks })) (out_again x.touched k (not_true (set_of.contains x.touched k) (h refl)))
    undone false (Some x) h = refl
marks_taken_back ts n s k false new = transfers_are _ ts (λ q t.
    transfer-changed (marks_at (to n s) k) ts q t
    ∙ same (is_there (to n s) (to q t)) (transfer_to ts q t) (λ h. let e = there_is_one n s q t h in (λ i. is_new_to k (transfer_to ts (e.0 i) (e.1 i))) ∙ sym new))
  where
    same : (b : Bool) (u : Option Transfer) → (b ≡ true → is_new_to k u ≡ false) → option_map (λ (x : Transfer). record x { touched = cond b (set_of.insert x.touched k) x.touched }) u ≡ u
    same b None h = refl
    same true (Some x) h = ap (λ ks. Some (record x { touched = ks })) (in_already x.touched k (not_false (set_of.contains x.touched k) (h refl)))
    same false (Some x) h = refl

-- after a cell is set, it has what was set and any other cell what it had
set_cell_at : (cells : Cells) (c : Cell) (o : Option Stamped) (q : Cell) → map_of.get (set_cell cells c o) q ≡ cond (eq_by_cmp cell_cmp q c) o (map_of.get cells q)
set_cell_at cells c None q = map_of.get-remove cells_total cells c q
set_cell_at cells c (Some v) q = map_of.get-insert cells_total cells c v q

-- a copy that is put back as it was
pub cell_put_back : (cells : Cells) (c : Cell) (o : Option Stamped) → set_cell (set_cell cells c o) c (map_of.get cells c) ≡ cells
cell_put_back cells c o = map_of.same_map cells_total exact_cells _ _ (λ q.
    set_cell_at (set_cell cells c o) c (map_of.get cells c) q
    ∙ elim (cases_Bool (eq_by_cmp cell_cmp q c)) [
      | inl ties ↦ ap (λ b. cond b (map_of.get cells c) (map_of.get (set_cell cells c o) q)) ties ∙ ap (map_of.get cells) (sym (exact_cells q c ((Equal-is (cell_cmp q c)).0 ties)))
      | inr apart ↦ ap (λ b. cond b (map_of.get cells c) (map_of.get (set_cell cells c o) q)) apart ∙ set_cell_at cells c o q ∙ ap (λ b. cond b o (map_of.get cells q)) apart
    ])

-- a write at one node that is taken back leaves all as it was
pub write_taken_back : (n s : ℕ) (k : List ℕ) (o before : Option Stamped) (marked : Bool) (c : Copying) → before ≡ copy_at c.cells n s k → marked ≡ is_new_to k (transfer_to c.transfers n s) →
    takes_back n s k before marked (changes (n ∷ []) s k o c) ≡ c
write_taken_back n s k o before marked c is new =
    ap (takes_back n s k before marked) (sym (changes_one n s k o c))
    ∙ (λ i. record {
      clock = c.clock;
      cells = (ap (set_cell (set_cell c.cells (record { node = n; segment = s; key = k }) o) (record { node = n; segment = s; key = k })) is ∙ cell_put_back c.cells (record { node = n; segment = s; key = k }) o) i;
      transfers = marks_taken_back c.transfers n s k marked new i;
    })

-- a value that was put at one node is there
pub written_there : (n s : ℕ) (k : List ℕ) (v : Stamped) (c : Copying) → is_some (copy_at (changes (n ∷ []) s k (Some v) c).cells n s k) ≡ true
written_there n s k v c =
    ap (λ (x : Copying). is_some (copy_at x.cells n s k)) (sym (changes_one n s k (Some v) c))
    ∙ ap is_some (set_cell_at c.cells (record { node = n; segment = s; key = k }) (Some v) (record { node = n; segment = s; key = k }))
    ∙ ap (λ b. is_some (cond b (Some v) (copy_at c.cells n s k))) ((Equal-is (cell_cmp (record { node = n; segment = s; key = k }) (record { node = n; segment = s; key = k }))).1 (tied_itself cells_total (record { node = n; segment = s; key = k })))

-- where a list has nothing at a place, it ends before
pub none_past : (xs : List ℕ) (i : ℕ) → None ≡ slice_get xs i → length xs ≤ i
none_past [] i h = omega arith
none_past (x ∷ xs) zero h = absurd (none-some x h)
none_past (x ∷ xs) (suc i) h =
    let rest : length xs ≤ i = none_past xs i h in
    omega (arith, rest)
