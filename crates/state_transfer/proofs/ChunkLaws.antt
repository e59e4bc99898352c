-- What a chunk of a provider has, by look-ups.
use Rattle.std.proofs.Common.{◌≡◌, ℕ, suc, zero, Bool, true, false, cond, not, ◌&&◌, ◌==◌, T, List, [], ◌∷◌, ◌++◌, map, reverse, filter, take, length, Option, Some, None, is_none, refl, sym, ap, subst, ◌∙◌, take_all}
use Rattle.std.proofs.lemmas.Bool.{and_parts, and_from, eqb-true, true≢false, leb-true, false_from_ne_true}
use Rattle.std.proofs.lemmas.List.{reverse-append}
use Rattle.std.proofs.lemmas.List.Folds.{list_all-append}
use Rattle.std.specs.Cmp.{nat_cmp_total, nat_eq_equiv, tied_itself}
use Rattle.std.specs.Cmp.Lexicographic.{nat_list_cmp_total}
use Rattle.std.specs.declared.cmp.Ordering.{Ordering}
use Rattle.std.specs.declared.cmp.Ordering.TheVariants.{Less, Equal, Greater}
use Rattle.std.specs.FinMap as map_of
use Rattle.std.specs.FinMap.Entries as entries_of
use Rattle.std.specs.FinMap.Entries.{below_all, is_sorted}
use Rattle.std.specs.List.{list_all}
use Rattle.std.specs.Ordering.{nat_cmp, is_eq, is_lt, is_gt, eq_by_cmp, ordering_then, ordering_reverse}
use Rattle.grid_base.specs.Portion.{Portion}
use Rattle.grid_base.specs.declared.stamped.Stamped.{Stamped}
use Rattle.grid_base.specs.declared.stamped_entry.StampedEntry.{StampedEntry}
use Rattle.container_seg.specs.Places.{key_cmp}
use Rattle.container_seg.proofs.Trees.{exact_keys}
use Rattle.container_seg.specs.Scans.{ascends, beyond, comes_after, next_chunk, stamped_entry}
use Rattle.state_transfer.specs.Cells.{Cell, Cells, cell_cmp}
use Rattle.state_transfer.specs.Copying.{copy_at, part_of}
use Rattle.state_transfer.specs.Chunks.{last_sent}
use Rattle.state_transfer.specs.Faithful.{stamped_in, has_each_once}
use Rattle.state_transfer.proofs.CellLaws.{cell, same_cell, tied_keys}

-- entries by their keys
abbrev Entries : Type 0
Entries = List (List ℕ × Stamped)

-- what is found at a key among entries
abbrev found : List ℕ → Entries → Option Stamped
found = map_of.find key_cmp

-- what holds as a type holds as a test
of_T : (b : Bool) → T b → b ≡ true
of_T true h = refl
of_T false h = absurd h

-- and the other way
to_T : (b : Bool) → b ≡ true → T b
to_T b e = subst T (sym e) tt

-- what passes as less is Less
is_less : (r : Ordering) → is_lt r ≡ true → r ≡ Less
is_less Less h = refl
is_less Equal h = absurd (cc)
is_less Greater h = absurd (cc)

-- what is greater is Less, turned round
turned_less : (r : Ordering) → is_gt r ≡ true → ordering_reverse r ≡ Less
turned_less Less h = absurd (cc)
turned_less Equal h = absurd (cc)
turned_less Greater h = refl

-- a choice between nothing and nothing is nothing
cond_none : {A : Type 0} (b : Bool) → cond {A = Option A} b None None ≡ None
cond_none true = refl
cond_none false = refl

-- ---- what a node holds of a segment

-- a cell is of this node and this segment
abbrev here : ℕ → ℕ → Cell × Stamped → Bool
here n s c = (c.0.node == n) && (c.0.segment == s)

-- a cell with its value, by its key alone
abbrev keyed : Cell × Stamped → List ℕ × Stamped
keyed c = (c.0.key, c.1)

-- a cell is that of a key here exactly where it is here and has the key
same_here : (n s : ℕ) (k : List ℕ) (c : Cell × Stamped) → eq_by_cmp cell_cmp (cell n s k) c.0 ≡ (here n s c && eq_by_cmp key_cmp k c.0.key)
same_here n s k c =
    same_cell n s k c.0.node c.0.segment c.0.key
    ∙ ap (λ b. (c.0.node == n) && (b && eq_by_cmp key_cmp k c.0.key)) (nat_eq_equiv.symm s c.0.segment)
    ∙ regrouped (c.0.node == n) (c.0.segment == s) (eq_by_cmp key_cmp k c.0.key)
  where
    regrouped : (a b c : Bool) → (a && (b && c)) ≡ ((a && b) && c)
    regrouped true b c = refl
    regrouped false b c = refl

-- what is found at a key among the cells here is what is found at its cell
found_here : (n s : ℕ) (k : List ℕ) (cs : List (Cell × Stamped)) → found k (map keyed (filter (here n s) cs)) ≡ map_of.find cell_cmp (cell n s k) cs
found_here n s k [] = refl
found_here n s k (c ∷ cs) =
    elim (here n s c) as (λ b. found k (map keyed (cond b (c ∷ filter (here n s) cs) (filter (here n s) cs))) ≡ cond (b && eq_by_cmp key_cmp k c.0.key) (Some c.1) (map_of.find cell_cmp (cell n s k) cs)) [
      | true ↦ ap (cond (eq_by_cmp key_cmp k c.0.key) (Some c.1)) (found_here n s k cs)
      | false ↦ found_here n s k cs
    ]
    ∙ ap (λ b. cond b (Some c.1) (map_of.find cell_cmp (cell n s k) cs)) (sym (same_here n s k c))

-- what a node holds of a segment at a key is its copy
pub found-part_of : (cells : Cells) (n s : ℕ) (k : List ℕ) → found k (part_of cells n s) ≡ copy_at cells n s k
unfolding part_of
found-part_of cells n s k = found_here n s k (map_of.entries cells) ∙ sym (map_of.get-entries cells (cell n s k))

-- cells here are in the order of their keys
ordered_here : (n s : ℕ) (c d : Cell × Stamped) → here n s c ≡ true → here n s d ≡ true → is_lt (cell_cmp c.0 d.0) ≡ true → is_lt (key_cmp c.0.key d.0.key) ≡ true
ordered_here n s c d hc hd less =
    let c_is = and_parts (c.0.node == n) (c.0.segment == s) hc in
    let d_is = and_parts (d.0.node == n) (d.0.segment == s) hd in
    let nodes : c.0.node ≡ d.0.node = eqb-true c.0.node n c_is.0 ∙ sym (eqb-true d.0.node n d_is.0) in
    let segments : c.0.segment ≡ d.0.segment = eqb-true c.0.segment s c_is.1 ∙ sym (eqb-true d.0.segment s d_is.1) in
    let node_tie : nat_cmp c.0.node d.0.node ≡ Equal = ap (nat_cmp c.0.node) (sym nodes) ∙ tied_itself nat_cmp_total c.0.node in
    let segment_tie : nat_cmp c.0.segment d.0.segment ≡ Equal = ap (nat_cmp c.0.segment) (sym segments) ∙ tied_itself nat_cmp_total c.0.segment in
    (λ i. is_lt (ordering_then (sym node_tie i) (ordering_then (sym segment_tie i) (key_cmp c.0.key d.0.key)))) ∙ less

-- a cell here below all cells has a key below all keys here
below_here : (n s : ℕ) (c : Cell × Stamped) (cs : List (Cell × Stamped)) → here n s c ≡ true → below_all cell_cmp c.0 cs ≡ true → below_all key_cmp c.0.key (map keyed (filter (here n s) cs)) ≡ true
below_here n s c [] h below = refl
below_here n s c (d ∷ cs) h below =
    let parts = and_parts (is_lt (cell_cmp c.0 d.0)) (below_all cell_cmp c.0 cs) below in
    let rest = below_here n s c cs h parts.1 in
    elim (here n s d) as (λ b. here n s d ≡ b → below_all key_cmp c.0.key (map keyed (cond b (d ∷ filter (here n s) cs) (filter (here n s) cs))) ≡ true) [
      | true ↦ λ there. and_from _ _ (ordered_here n s c d h there parts.0) rest
      | false ↦ λ _. rest
    ] refl

-- so sorted cells have sorted keys here
sorted_here : (n s : ℕ) (cs : List (Cell × Stamped)) → is_sorted cell_cmp cs ≡ true → is_sorted key_cmp (map keyed (filter (here n s) cs)) ≡ true
sorted_here n s [] h = refl
sorted_here n s (c ∷ cs) h =
    let parts = and_parts (below_all cell_cmp c.0 cs) (is_sorted cell_cmp cs) h in
    let rest = sorted_here n s cs parts.1 in
    elim (here n s c) as (λ b. here n s c ≡ b → is_sorted key_cmp (map keyed (cond b (c ∷ filter (here n s) cs) (filter (here n s) cs))) ≡ true) [
      | true ↦ λ there. and_from _ _ (below_here n s c cs there parts.0) rest
      | false ↦ λ _. rest
    ] refl

-- what a node holds of a segment is in order
pub sorted-part_of : (cells : Cells) (n s : ℕ) → is_sorted key_cmp (part_of cells n s) ≡ true
unfolding part_of
sorted-part_of cells n s = sorted_here n s (map_of.entries cells) (of_T _ (map_of.entries_sorted cells))

-- what is found among entries of a chunk is what is found among entries
stamped-map : (es : Entries) (k : List ℕ) → stamped_in (map stamped_entry es) k ≡ found k es
stamped-map [] k = refl
stamped-map (e ∷ es) k = ap (cond (eq_by_cmp key_cmp k e.0) (Some e.1)) (stamped-map es k)

-- what passes of a list passes of it reversed
all_reversed : {A : Type 0} (p : A → Bool) (xs : List A) → list_all p xs ≡ true → list_all p (reverse xs) ≡ true
all_reversed p [] h = refl
all_reversed p (x ∷ xs) h =
    let parts = and_parts (p x) (list_all p xs) h in
    ap (list_all p) (reverse-append (x ∷ []) xs) ∙ list_all-append p (reverse xs) (x ∷ []) ∙ and_from (list_all p (reverse xs)) (p x && true) (all_reversed p xs parts.1) (and_from (p x) true parts.0 refl)

-- a key below all keys isn't found
found_below : (k : List ℕ) (es : Entries) → below_all key_cmp k es ≡ true → found k es ≡ None
found_below k [] h = refl
found_below k (e ∷ es) h =
    let parts = and_parts (is_lt (key_cmp k e.0)) (below_all key_cmp k es) h in
    ap (λ r. cond (is_eq r) (Some e.1) (found k es)) (is_less (key_cmp k e.0) parts.0) ∙ found_below k es parts.1

-- a key is found in a sorted list as in it reversed
found_reversed : (k : List ℕ) (es : Entries) → is_sorted key_cmp es ≡ true → found k (reverse es) ≡ found k es
found_reversed k [] h = refl
found_reversed k (e ∷ es) h =
    let parts = and_parts (below_all key_cmp e.0 es) (is_sorted key_cmp es) h in
    ap (found k) (reverse-append (e ∷ []) es)
    ∙ entries_of.find-append key_cmp nat_list_cmp_total (reverse es) e.0 e.1 k (found_reversed e.0 es parts.1 ∙ found_below e.0 es parts.0)
    ∙ ap (cond (eq_by_cmp key_cmp k e.0) (Some e.1)) (found_reversed k es parts.1)

-- a key below all keys is below those that pass a test
below_filter : (p : List ℕ × Stamped → Bool) (k : List ℕ) (es : Entries) → below_all key_cmp k es ≡ true → below_all key_cmp k (filter p es) ≡ true
below_filter p k [] h = refl
below_filter p k (e ∷ es) h =
    let parts = and_parts (is_lt (key_cmp k e.0)) (below_all key_cmp k es) h in
    elim (p e) as (λ b. below_all key_cmp k (cond b (e ∷ filter p es) (filter p es)) ≡ true) [
      | true ↦ and_from _ _ parts.0 (below_filter p k es parts.1)
      | false ↦ below_filter p k es parts.1
    ]

-- what passes a test of a sorted list is sorted
sorted_filter : (p : List ℕ × Stamped → Bool) (es : Entries) → is_sorted key_cmp es ≡ true → is_sorted key_cmp (filter p es) ≡ true
sorted_filter p [] h = refl
sorted_filter p (e ∷ es) h =
    let parts = and_parts (below_all key_cmp e.0 es) (is_sorted key_cmp es) h in
    elim (p e) as (λ b. is_sorted key_cmp (cond b (e ∷ filter p es) (filter p es)) ≡ true) [
      | true ↦ and_from _ _ (below_filter p e.0 es parts.0) (sorted_filter p es parts.1)
      | false ↦ sorted_filter p es parts.1
    ]

-- what is left by a test passes it
all_filter : {A : Type 0} (p : A → Bool) (xs : List A) → list_all p (filter p xs) ≡ true
all_filter p [] = refl
all_filter p (x ∷ xs) = elim (p x) as (λ b. p x ≡ b → list_all p (cond b (x ∷ filter p xs) (filter p xs)) ≡ true) [
  | true ↦ λ e. and_from (p x) (list_all p (filter p xs)) e (all_filter p xs)
  | false ↦ λ _. all_filter p xs
] refl

-- what passes of a list passes of its first ones
all_take : {A : Type 0} (p : A → Bool) (n : ℕ) (xs : List A) → list_all p xs ≡ true → list_all p (take n xs) ≡ true
all_take p zero xs h = refl
all_take p (suc n) [] h = refl
all_take p (suc n) (x ∷ xs) h = (let parts = and_parts (p x) (list_all p xs) h in and_from (p x) (list_all p (take n xs)) parts.0 (all_take p n xs parts.1))

module _ (node : ℕ) where
  -- a key comes after another in the node's order
  abbrev after : List ℕ → List ℕ → Bool
  after x y = comes_after node (Some x) y

  -- no key comes after itself
  not_itself : (x : List ℕ) → after x x ≡ false
  not_itself x = (λ i. cond (ascends node) (is_lt (tied_itself nat_list_cmp_total x i)) (is_gt (tied_itself nat_list_cmp_total x i))) ∙ both (ascends node)
    where
      both : (b : Bool) → cond b false false ≡ false
      both true = refl
      both false = refl

  -- what comes after what comes after a key comes after it
  chained : (x y z : List ℕ) → after x y ≡ true → after y z ≡ true → after x z ≡ true
  chained x y z =
      elim (ascends node) as (λ b. cond b (is_lt (key_cmp x y)) (is_gt (key_cmp x y)) ≡ true → cond b (is_lt (key_cmp y z)) (is_gt (key_cmp y z)) ≡ true → cond b (is_lt (key_cmp x z)) (is_gt (key_cmp x z)) ≡ true) [
        | true ↦ λ p q. ap is_lt (nat_list_cmp_total.trans x y z (is_less (key_cmp x y) p) (is_less (key_cmp y z) q))
        | false ↦ λ p q.
            ap is_gt (nat_list_cmp_total.antisymm x z)
            ∙ ap (λ r. is_gt (ordering_reverse r)) (nat_list_cmp_total.trans z y x (nat_list_cmp_total.antisymm z y ∙ turned_less (key_cmp y z) q) (nat_list_cmp_total.antisymm y x ∙ turned_less (key_cmp x y) p))
      ]

  -- and so from a key that may be missing
  onward : (o : Option (List ℕ)) (x y : List ℕ) → comes_after node o x ≡ true → after x y ≡ true → comes_after node o y ≡ true
  onward None x y p q = refl
  onward (Some w) x y p q = chained w x y p q

  -- all keys come after this one
  abbrev all_after : Option (List ℕ) → Entries → Bool
  all_after o es = list_all (λ e. comes_after node o e.0) es

  -- the keys are in the node's order
  abbrev in_order : Entries → Bool
  in_order [] = true
  in_order (e ∷ es) = all_after (Some e.0) es && in_order es

  -- a key that doesn't come after isn't found among those that do
  not_found : (o : Option (List ℕ)) (es : Entries) (k : List ℕ) → all_after o es ≡ true → comes_after node o k ≡ false → found k es ≡ None
  not_found o [] k h miss = refl
  not_found o (e ∷ es) k h miss =
      let parts = and_parts (comes_after node o e.0) (all_after o es) h in
      let apart : eq_by_cmp key_cmp k e.0 ≡ false = false_from_ne_true (eq_by_cmp key_cmp k e.0) (λ same. true≢false (sym parts.0 ∙ ap (comes_after node o) (sym (tied_keys k e.0 same)) ∙ miss)) in
      ap (λ b. cond b (Some e.1) (found k es)) apart ∙ not_found o es k parts.1 miss

  -- ---- the first entries of a list in order, and the last of their keys

  -- the last key sent of a chunk with an entry doesn't depend on the key before
  same_last : (e : StampedEntry) (es : List StampedEntry) (o p : Option (List ℕ)) → last_sent (e ∷ es) o ≡ last_sent (e ∷ es) p
  same_last e [] o p = refl
  same_last e (f ∷ es) o p = same_last f es o p

  -- it is the last key sent from the first entry's key on
  last_from : (e : StampedEntry) (es : List StampedEntry) (o : Option (List ℕ)) → last_sent (e ∷ es) o ≡ last_sent es (Some e.key)
  last_from e [] o = refl
  last_from e (f ∷ es) o = same_last f es o (Some e.key)

  -- the last key of entries, or the one before them
  abbrev last_key : Entries → Option (List ℕ) → Option (List ℕ)
  last_key es o = last_sent (map stamped_entry es) o

  -- the last key from the first entry's key on
  last_step : (e : List ℕ × Stamped) (es : Entries) (o : Option (List ℕ)) → last_key (e ∷ es) o ≡ last_key es (Some e.0)
  last_step e es o = last_from (stamped_entry e) (map stamped_entry es) o

  -- the last key, and what comes after it, doesn't come before the first one
  not_before_last : (x : List ℕ) (es : Entries) → all_after (Some x) es ≡ true → in_order es ≡ true → comes_after node (last_key es (Some x)) x ≡ false
  not_before_last x [] h order = not_itself x
  not_before_last x (e ∷ es) h order =
      let parts = and_parts (after x e.0) (all_after (Some x) es) h in
      let orders = and_parts (all_after (Some e.0) es) (in_order es) order in
      let rest = not_before_last e.0 es orders.0 orders.1 in
      ap (λ o. comes_after node o x) (last_step e es (Some x))
      ∙ false_from_ne_true (comes_after node (last_key es (Some e.0)) x) (λ comes. true≢false (sym (onward (last_key es (Some e.0)) x e.0 comes parts.0) ∙ rest))

  -- what comes after the last key comes after the key before the first one
  further : (o : Option (List ℕ)) (es : Entries) → all_after o es ≡ true → in_order es ≡ true → (k : List ℕ) → comes_after node (last_key es o) k ≡ true → comes_after node o k ≡ true
  further o [] h order k comes = comes
  further o (e ∷ es) h order k comes =
      let parts = and_parts (comes_after node o e.0) (all_after o es) h in
      let orders = and_parts (all_after (Some e.0) es) (in_order es) order in
      onward o e.0 k parts.0 (further (Some e.0) es orders.0 orders.1 k (ap (λ p. comes_after node p k) (sym (last_step e es o)) ∙ comes))

  -- the first of entries in order are in order
  order_take : (n : ℕ) (es : Entries) → in_order es ≡ true → in_order (take n es) ≡ true
  order_take zero es h = refl
  order_take (suc n) [] h = refl
  order_take (suc n) (e ∷ es) h =
      let parts = and_parts (all_after (Some e.0) es) (in_order es) h in
      and_from _ _ (all_take (λ f. after e.0 f.0) n es parts.0) (order_take n es parts.1)

  -- among the first of entries in order a key is found exactly up to their last key
  first_found : (n : ℕ) (es : Entries) (o : Option (List ℕ)) → all_after o es ≡ true → in_order es ≡ true → (k : List ℕ)
      → found k (take n es) ≡ cond (not (comes_after node (last_key (take n es) o) k)) (found k es) None
  first_found zero es o h order k = elim (comes_after node o k) as (λ b. comes_after node o k ≡ b → None ≡ cond (not b) (found k es) None) [
    | true ↦ λ _. refl
    | false ↦ λ miss. sym (not_found o es k h miss)
  ] refl
  first_found (suc n) [] o h order k = sym (cond_none (not (comes_after node o k)))
  first_found (suc n) (e ∷ es) o h order k =
      let orders = and_parts (all_after (Some e.0) es) (in_order es) order in
      let rest = first_found n es (Some e.0) orders.0 orders.1 k in
      let front = not_before_last e.0 (take n es) (all_take (λ f. after e.0 f.0) n es orders.0) (order_take n es orders.1) in
      elim (eq_by_cmp key_cmp k e.0) as (λ b. eq_by_cmp key_cmp k e.0 ≡ b → cond b (Some e.1) (found k (take n es)) ≡ cond (not (comes_after node (last_key (take n es) (Some e.0)) k)) (cond b (Some e.1) (found k es)) None) [
        | true ↦ λ same. sym (ap (λ b. cond (not b) (Some e.1) None) (ap (comes_after node (last_key (take n es) (Some e.0))) (tied_keys k e.0 same) ∙ front))
        | false ↦ λ apart. rest
      ] refl
      ∙ ap (λ p. cond (not (comes_after node p k)) (found k (e ∷ es)) None) (sym (last_step e (take n es) o))

  -- no key stands twice among entries in order
  once_in_order : (es : Entries) → in_order es ≡ true → has_each_once (map stamped_entry es) ≡ true
  once_in_order [] h = refl
  once_in_order (e ∷ es) h =
      let parts = and_parts (all_after (Some e.0) es) (in_order es) h in
      and_from _ _ (ap is_none (stamped-map es e.0 ∙ not_found (Some e.0) es e.0 parts.0 (not_itself e.0))) (once_in_order es parts.1)

  -- ---- what a node scans of a segment's entries

  -- at a node that ascends, a key below all keys has all of them after it
  above : (x : List ℕ) (es : Entries) → ascends node ≡ true → below_all key_cmp x es ≡ true → all_after (Some x) es ≡ true
  above x [] up h = refl
  above x (e ∷ es) up h =
      let parts = and_parts (is_lt (key_cmp x e.0)) (below_all key_cmp x es) h in
      and_from _ _ (ap (λ b. cond b (is_lt (key_cmp x e.0)) (is_gt (key_cmp x e.0))) up ∙ parts.0) (above x es up parts.1)

  -- so at a node that ascends sorted entries are in order
  order_up : (es : Entries) → ascends node ≡ true → is_sorted key_cmp es ≡ true → in_order es ≡ true
  order_up [] up h = refl
  order_up (e ∷ es) up h =
      let parts = and_parts (below_all key_cmp e.0 es) (is_sorted key_cmp es) h in
      and_from _ _ (above e.0 es up parts.0) (order_up es up parts.1)

  -- each of some entries comes before a key
  abbrev all_before : List ℕ → Entries → Bool
  all_before x es = list_all (λ e. after e.0 x) es

  -- entries in order that are all before one more are in order with it
  order_end : (es : Entries) (e : List ℕ × Stamped) → in_order es ≡ true → all_before e.0 es ≡ true → in_order (es ++ e ∷ []) ≡ true
  order_end [] e h before = refl
  order_end (f ∷ es) e h before =
      let parts = and_parts (all_after (Some f.0) es) (in_order es) h in
      let firsts = and_parts (after f.0 e.0) (all_before e.0 es) before in
      and_from _ _ (list_all-append (λ g. after f.0 g.0) es (e ∷ []) ∙ and_from _ _ parts.0 (and_from (after f.0 e.0) true firsts.0 refl)) (order_end es e parts.1 firsts.1)

  -- at a node that descends, a lesser key comes after
  less_is_before : (x y : List ℕ) → ascends node ≡ false → is_lt (key_cmp x y) ≡ true → after y x ≡ true
  less_is_before x y down h =
      ap (λ b. cond b (is_lt (key_cmp y x)) (is_gt (key_cmp y x))) down
      ∙ ap is_gt (nat_list_cmp_total.antisymm y x)
      ∙ ap (λ r. is_gt (ordering_reverse r)) (is_less (key_cmp x y) h)

  -- so a key below all keys has all of them before it
  before_all : (x : List ℕ) (es : Entries) → ascends node ≡ false → below_all key_cmp x es ≡ true → all_before x es ≡ true
  before_all x [] down h = refl
  before_all x (e ∷ es) down h =
      let parts = and_parts (is_lt (key_cmp x e.0)) (below_all key_cmp x es) h in
      and_from _ _ (less_is_before x e.0 down parts.0) (before_all x es down parts.1)

  -- and at such a node sorted entries are in order when reversed
  order_down : (es : Entries) → ascends node ≡ false → is_sorted key_cmp es ≡ true → in_order (reverse es) ≡ true
  order_down [] down h = refl
  order_down (e ∷ es) down h =
      let parts = and_parts (below_all key_cmp e.0 es) (is_sorted key_cmp es) h in
      ap in_order (reverse-append (e ∷ []) es)
      ∙ order_end (reverse es) e (order_down es down parts.1) (all_reversed (λ f. after f.0 e.0) es (before_all e.0 es down parts.0))

  -- the entries whose keys come after this one
  abbrev passing : Option (List ℕ) → Entries → Entries
  passing o es = filter (λ e. comes_after node o e.0) es

  -- what a node has behind a key is in its order
  beyond_order : (o : Option (List ℕ)) (es : Entries) → is_sorted key_cmp es ≡ true → in_order (beyond node o es) ≡ true
  beyond_order o es h = elim (ascends node) as (λ b. ascends node ≡ b → in_order (cond b (passing o es) (reverse (passing o es))) ≡ true) [
    | true ↦ λ up. order_up (passing o es) up (sorted_filter (λ e. comes_after node o e.0) es h)
    | false ↦ λ down. order_down (passing o es) down (sorted_filter (λ e. comes_after node o e.0) es h)
  ] refl

  -- and all of it comes after the key
  beyond_after : (o : Option (List ℕ)) (es : Entries) → all_after o (beyond node o es) ≡ true
  beyond_after o es = elim (ascends node) as (λ b. all_after o (cond b (passing o es) (reverse (passing o es))) ≡ true) [
    | true ↦ all_filter (λ e. comes_after node o e.0) es
    | false ↦ all_reversed (λ e. comes_after node o e.0) (passing o es) (all_filter (λ e. comes_after node o e.0) es)
  ]

  -- a key is found in it exactly where it comes after and is there
  beyond_found : (o : Option (List ℕ)) (es : Entries) (k : List ℕ) → is_sorted key_cmp es ≡ true → found k (beyond node o es) ≡ cond (comes_after node o k) (found k es) None
  beyond_found o es k h =
      elim (ascends node) as (λ b. found k (cond b (passing o es) (reverse (passing o es))) ≡ found k (passing o es)) [
        | true ↦ refl
        | false ↦ found_reversed k (passing o es) (sorted_filter (λ e. comes_after node o e.0) es h)
      ]
      ∙ entries_of.find-where_key key_cmp (comes_after node o) k (λ x e. ap (comes_after node o) (sym (exact_keys k x e))) es

-- a chunk behind one key and up to another has exactly what the provider holds between these, each key once; what is behind
-- the second is behind the first; and where it is the last chunk, the provider holds nothing behind the second
pub record IsChunk (cells : Cells) (provider segment : ℕ) (sent : Option (List ℕ)) (chunk : Portion StampedEntry) : Type 0 where
  pub given : (k : List ℕ) → stamped_in chunk.entries k ≡ cond (comes_after provider sent k && not (comes_after provider (last_sent chunk.entries sent) k)) (copy_at cells provider segment k) None
  pub further : (k : List ℕ) → comes_after provider (last_sent chunk.entries sent) k ≡ true → comes_after provider sent k ≡ true
  pub whole : chunk.last ≡ true → (k : List ℕ) → comes_after provider (last_sent chunk.entries sent) k ≡ true → copy_at cells provider segment k ≡ None
  pub once : has_each_once chunk.entries ≡ true

-- two choices in turn are one by both tests
both_tests : (p q : Bool) (o : Option Stamped) → cond q (cond p o None) None ≡ cond (p && q) o None
both_tests true true o = refl
both_tests true false o = refl
both_tests false true o = refl
both_tests false false o = refl

-- the next chunk of what a node holds is such a chunk
pub next_is_chunk : (cells : Cells) (provider segment : ℕ) (sent : Option (List ℕ)) (most : ℕ) → IsChunk cells provider segment sent (next_chunk provider sent most (part_of cells provider segment))
next_is_chunk cells p s sent most =
    let held : Entries = part_of cells p s in
    let es : Entries = beyond p sent held in
    let order = beyond_order p sent held (sorted-part_of cells p s) in
    let behind = beyond_after p sent held in
    let at = λ (k : List ℕ). beyond_found p sent held k (sorted-part_of cells p s) ∙ ap (λ o. cond (comes_after p sent k) o None) (found-part_of cells p s k) in
    record {
      given = λ k.
          stamped-map (take most es) k
          ∙ first_found p most es sent behind order k
          ∙ ap (λ o. cond (not (comes_after p (last_sent (map stamped_entry (take most es)) sent) k)) o None) (at k)
          ∙ both_tests (comes_after p sent k) (not (comes_after p (last_sent (map stamped_entry (take most es)) sent) k)) (copy_at cells p s k);
      further = λ k comes. further p sent (take most es) (all_take (λ e. comes_after p sent e.0) most es behind) (order_take p most es order) k comes;
      whole = λ last k comes.
          let all : take most es ≡ es = take_all most es (leb-true (length es) most last) in
          let back : comes_after p sent k ≡ true = further p sent (take most es) (all_take (λ e. comes_after p sent e.0) most es behind) (order_take p most es order) k comes in
          sym (ap (λ b. cond b (copy_at cells p s k) None) back)
          ∙ sym (at k)
          ∙ ap (found k) (sym all)
          ∙ first_found p most es sent behind order k
          ∙ ap (λ b. cond (not b) (found k es) None) comes;
      once = once_in_order p (take most es) (order_take p most es order);
    }
