-- What stands in a cell, and which transfer leads to a place, after each change.
use Rattle.std.proofs.Common.{◌≡◌, ℕ, Bool, true, false, cond, not, ◌&&◌, ◌||◌, ◌==◌, List, [], ◌∷◌, Option, Some, None, is_none, refl, sym, ap, ◌∙◌, unwrap_or}
use Rattle.std.proofs.lemmas.Bool.{and_parts, true≢false}
use Rattle.std.specs.Cmp.{IsTotalOrder, then_total, on_total, tied_then, Equal-is, nat_cmp_total, unsigned_tied, nat_eq_equiv}
use Rattle.std.specs.Cmp.Lexicographic.{nat_list_cmp_total}
use Rattle.std.specs.FinMap as map_of
use Rattle.std.specs.FinMap.{IsAntisymmetric, nat_cmp-IsAntisymmetric}
use Rattle.std.specs.FinSet as set_of
use Rattle.std.specs.Option.{option_map}
use Rattle.std.specs.Ordering.{nat_cmp, is_eq, eq_by_cmp, ordering_then}
use Rattle.grid_base.specs.declared.stamped.Stamped.{Stamped}
use Rattle.grid_base.specs.declared.stamped_entry.StampedEntry.{StampedEntry}
use Rattle.container_seg.specs.Lifespans.{is_fresh, left, outlasts}
use Rattle.container_seg.specs.Places.{key_cmp}
use Rattle.container_seg.proofs.Trees.{exact_keys}
use Rattle.topology_phase.specs.Owners.{among}
use Rattle.state_transfer.specs.Cells.{Cell, Cells, Destination, Keys, cell_cmp, destination_cmp}
use Rattle.state_transfer.specs.Copying.{Transfer, Transfers, changed_all, copy_at, each_changed, transfer_to}
use Rattle.state_transfer.specs.Changes.{set_at, set_cell, unexpired}
use Rattle.state_transfer.specs.Chunks.{landed, landed_in}
use Rattle.state_transfer.specs.Faithful.{stamped_in, has_each_once}

-- the cell of a key
abbrev pub cell : ℕ → ℕ → List ℕ → Cell
cell node segment key = record { node = node; segment = segment; key = key }

-- the place that a transfer leads to
abbrev pub to : ℕ → ℕ → Destination
to receiver segment = record { receiver = receiver; segment = segment }

-- the order of cells is total
pub cells_total : IsTotalOrder cell_cmp
cells_total =
    then_total (on_total (λ (c : Cell). c.node) nat_cmp_total)
    (then_total (on_total (λ (c : Cell). c.segment) nat_cmp_total) (on_total (λ (c : Cell). c.key) nat_list_cmp_total))

-- cells that tie are equal
pub exact_cells : IsAntisymmetric cell_cmp
exact_cells a b e =
    let outer = and_parts (is_eq (nat_cmp a.node b.node)) _ (tied_then (nat_cmp a.node b.node) (ordering_then (nat_cmp a.segment b.segment) (key_cmp a.key b.key)) ∙ ap is_eq e) in
    let inner = and_parts (is_eq (nat_cmp a.segment b.segment)) (is_eq (key_cmp a.key b.key)) (tied_then (nat_cmp a.segment b.segment) (key_cmp a.key b.key) ∙ outer.1) in
    let nodes = nat_cmp-IsAntisymmetric a.node b.node ((Equal-is (nat_cmp a.node b.node)).0 outer.0) in
    let segments = nat_cmp-IsAntisymmetric a.segment b.segment ((Equal-is (nat_cmp a.segment b.segment)).0 inner.0) in
    let keys = exact_keys a.key b.key ((Equal-is (key_cmp a.key b.key)).0 inner.1) in
    λ i. record { node = nodes i; segment = segments i; key = keys i }

-- the order of destinations is total
pub destinations_total : IsTotalOrder destination_cmp
destinations_total = then_total (on_total (λ (d : Destination). d.receiver) nat_cmp_total) (on_total (λ (d : Destination). d.segment) nat_cmp_total)

-- destinations that tie are equal
pub exact_destinations : IsAntisymmetric destination_cmp
exact_destinations a b e =
    let both = and_parts (is_eq (nat_cmp a.receiver b.receiver)) (is_eq (nat_cmp a.segment b.segment)) (tied_then (nat_cmp a.receiver b.receiver) (nat_cmp a.segment b.segment) ∙ ap is_eq e) in
    let receivers = nat_cmp-IsAntisymmetric a.receiver b.receiver ((Equal-is (nat_cmp a.receiver b.receiver)).0 both.0) in
    let segments = nat_cmp-IsAntisymmetric a.segment b.segment ((Equal-is (nat_cmp a.segment b.segment)).0 both.1) in
    λ i. record { receiver = receivers i; segment = segments i }

-- numbers tie where they are equal, written the other way round
pub tied_flipped : (x y : ℕ) → eq_by_cmp nat_cmp x y ≡ (y == x)
tied_flipped x y = unsigned_tied x y ∙ nat_eq_equiv.symm x y

-- when two cells are the same
pub same_cell : (q t : ℕ) (j : List ℕ) (n s : ℕ) (k : List ℕ) → eq_by_cmp cell_cmp (cell q t j) (cell n s k) ≡ ((n == q) && ((t == s) && eq_by_cmp key_cmp j k))
same_cell q t j n s k =
    sym (tied_then (nat_cmp q n) (ordering_then (nat_cmp t s) (key_cmp j k)))
    ∙ (λ i. tied_flipped q n i && sym (tied_then (nat_cmp t s) (key_cmp j k)) i)
    ∙ ap (λ b. (n == q) && (b && eq_by_cmp key_cmp j k)) (unsigned_tied t s)

-- when two destinations are the same
pub same_destination : (q t r s : ℕ) → eq_by_cmp destination_cmp (to q t) (to r s) ≡ ((q == r) && (t == s))
same_destination q t r s = sym (tied_then (nat_cmp q r) (nat_cmp t s)) ∙ (λ i. unsigned_tied q r i && unsigned_tied t s i)

-- keys that tie are equal
pub tied_keys : (j k : List ℕ) → eq_by_cmp key_cmp j k ≡ true → j ≡ k
tied_keys j k e = exact_keys j k ((Equal-is (key_cmp j k)).0 e)

-- ---- cells

-- after a cell is set, it has what was set and any other cell what it had
set_cell_at : (cells : Cells) (c : Cell) (o : Option Stamped) (q : Cell) → map_of.get (set_cell cells c o) q ≡ cond (eq_by_cmp cell_cmp q c) o (map_of.get cells q)
set_cell_at cells c None q = map_of.get-remove cells_total cells c q
set_cell_at cells c (Some v) q = map_of.get-insert cells_total cells c v q

-- one change and then another of the same cell is one change by either test
first_or_rest : {A : Type 0} (a b c : Bool) (x y : A) → cond (a && c) x (cond (b && c) x y) ≡ cond ((a || b) && c) x y
first_or_rest true true true x y = refl
first_or_rest true true false x y = refl
first_or_rest true false true x y = refl
first_or_rest true false false x y = refl
first_or_rest false b c x y = refl

-- a key that is set at some nodes
pub copy-set_at : (nodes : List ℕ) (s : ℕ) (k : List ℕ) (o : Option Stamped) (cells : Cells) (q t : ℕ) (j : List ℕ)
    → copy_at (set_at nodes s k o cells) q t j ≡ cond (among q nodes && ((t == s) && eq_by_cmp key_cmp j k)) o (copy_at cells q t j)
unfolding set_at
copy-set_at [] s k o cells q t j = refl
copy-set_at (n ∷ nodes) s k o cells q t j =
    set_cell_at (set_at nodes s k o cells) (cell n s k) o (cell q t j)
    ∙ (λ i. cond (same_cell q t j n s k i) o (copy-set_at nodes s k o cells q t j i))
    ∙ first_or_rest (n == q) (among q nodes) ((t == s) && eq_by_cmp key_cmp j k) o (copy_at cells q t j)

-- cells that pass a test stay, and the others go
pub copy-kept : (cells : Cells) (p : Cell → Bool) (q t : ℕ) (j : List ℕ) → copy_at (map_of.retain_keys cells p) q t j ≡ cond (p (cell q t j)) (copy_at cells q t j) None
copy-kept cells p q t j = map_of.get-retain_keys cells p (cell q t j) (λ x e. ap p (sym (exact_cells (cell q t j) x e)))

-- cells that haven't expired stay
pub copy-ticked : (clock : ℕ) (cells : Cells) (q t : ℕ) (j : List ℕ)
    → copy_at (map_of.retain_keys cells (λ c. is_fresh clock (map_of.get cells c))) q t j ≡ left clock (copy_at cells q t j)
copy-ticked clock cells q t j = copy-kept cells (λ c. is_fresh clock (map_of.get cells c)) q t j

-- the first of two that is there
abbrev pub either : Option Stamped → Option Stamped → Option Stamped
either None second = second
either (Some v) second = Some v

-- three tests in other groups
grouped : (a b c : Bool) → (a && (b && c)) ≡ ((a && b) && c)
grouped true b c = refl
grouped false b c = refl

-- an entry whose key is touched doesn't land
passed : (v : Stamped) (rest stands : Option Stamped) (here marked same : Bool) → (same ≡ true → marked ≡ true)
    → cond (here && not marked) (either rest stands) stands ≡ cond (here && not marked) (either (cond same (Some v) rest) stands) stands
passed v rest stands true true same h = refl
passed v rest stands false marked same h = refl
passed v rest stands true false true h = absurd (true≢false (sym (h refl)))
passed v rest stands true false false h = refl

-- one whose key isn't does
put : (v : Stamped) (rest stands : Option Stamped) (here marked same : Bool) → (same ≡ true → marked ≡ false)
    → cond (here && same) (Some v) (cond (here && not marked) (either rest stands) stands) ≡ cond (here && not marked) (either (cond same (Some v) rest) stands) stands
put v rest stands true true true h = absurd (true≢false (h refl))
put v rest stands true true false h = refl
put v rest stands true false true h = refl
put v rest stands true false false h = refl
put v rest stands false marked same h = refl

-- where nothing flies, what stands is as it was
nothing : (b : Bool) (o : Option Stamped) → o ≡ cond b (either None o) o
nothing true o = refl
nothing false o = refl

-- a chunk that lands: an entry is put where it leads to, unless its key is touched
pub copy-landed_in : (r s : ℕ) (touched : Keys) (es : List StampedEntry) (cells : Cells) (q t : ℕ) (j : List ℕ)
    → copy_at (landed_in r s touched es cells) q t j ≡ cond (((r == q) && (t == s)) && not (set_of.contains touched j)) (either (stamped_in es j) (copy_at cells q t j)) (copy_at cells q t j)
unfolding landed_in
copy-landed_in r s touched [] cells q t j = nothing (((r == q) && (t == s)) && not (set_of.contains touched j)) (copy_at cells q t j)
copy-landed_in r s touched (e ∷ es) cells q t j =
    let rest = copy-landed_in r s touched es cells q t j in
    elim (set_of.contains touched e.key) as (λ b. set_of.contains touched e.key ≡ b
    → copy_at (cond b (landed_in r s touched es cells) (map_of.insert (landed_in r s touched es cells) (cell r s e.key) e.stamped)) q t j
    ≡ cond (((r == q) && (t == s)) && not (set_of.contains touched j)) (either (cond (eq_by_cmp key_cmp j e.key) (Some e.stamped) (stamped_in es j)) (copy_at cells q t j)) (copy_at cells q t j)) [
      | true ↦ λ yes. rest ∙ (passed e.stamped (stamped_in es j) (copy_at cells q t j) ((r == q) && (t == s)) (set_of.contains touched j) (eq_by_cmp key_cmp j e.key) (λ same. ap (set_of.contains touched) (tied_keys j e.key same) ∙ yes))
      | false ↦ λ no.
          map_of.get-insert cells_total (landed_in r s touched es cells) (cell r s e.key) e.stamped (cell q t j)
          ∙ (λ i. cond ((same_cell q t j r s e.key ∙ grouped (r == q) (t == s) (eq_by_cmp key_cmp j e.key)) i) (Some e.stamped) (rest i))
          ∙ put e.stamped (stamped_in es j) (copy_at cells q t j) ((r == q) && (t == s)) (set_of.contains touched j) (eq_by_cmp key_cmp j e.key) (λ same. ap (set_of.contains touched) (tied_keys j e.key same) ∙ no)
    ] refl

-- after a landing, what flew and isn't touched stands at the receiver, and all else is as it was
landed_fields : (provider : ℕ) (sent : Option (List ℕ)) (flying : Option (List StampedEntry)) (last : Bool) (touched : Keys) (r s : ℕ) (cells : Cells) (q t : ℕ) (j : List ℕ)
    → copy_at (landed r s (Some (record { provider = provider; sent = sent; flying = flying; last = last; touched = touched })) cells) q t j
    ≡ cond (((r == q) && (t == s)) && not (set_of.contains touched j)) (either (stamped_in (unwrap_or flying []) j) (copy_at cells q t j)) (copy_at cells q t j)
unfolding landed_in
landed_fields provider sent None last touched r s cells q t j = copy-landed_in r s touched [] cells q t j
landed_fields provider sent (Some chunk) last touched r s cells q t j = copy-landed_in r s touched chunk cells q t j

-- what flies in a transfer lands
pub copy-landed : (v : Transfer) (r s : ℕ) (cells : Cells) (q t : ℕ) (j : List ℕ)
    → copy_at (landed r s (Some v) cells) q t j
    ≡ cond (((r == q) && (t == s)) && not (set_of.contains v.touched j)) (either (stamped_in (unwrap_or v.flying []) j) (copy_at cells q t j)) (copy_at cells q t j)
copy-landed v = landed_fields v.provider v.sent v.flying v.last v.touched

-- ---- transfers

-- after a change of all transfers, what is found is the changed one
changed_in : (f : Destination → Transfer → Transfer) (ts : List (Destination × Transfer)) (d : Destination) → map_of.get (changed_all f ts) d ≡ option_map (f d) (map_of.find destination_cmp d ts)
changed_in f [] d = map_of.get-empty destination_cmp d
changed_in f (t ∷ ts) d =
    map_of.get-insert destinations_total (changed_all f ts) t.0 (f t.0 t.1) d
    ∙ elim (eq_by_cmp destination_cmp d t.0) as (λ b. eq_by_cmp destination_cmp d t.0 ≡ b → cond b (Some (f t.0 t.1)) (map_of.get (changed_all f ts) d) ≡ option_map (f d) (cond b (Some t.1) (map_of.find destination_cmp d ts))) [
      | true ↦ λ tie. ap (λ x. Some (f x t.1)) (sym (exact_destinations d t.0 ((Equal-is (destination_cmp d t.0)).0 tie)))
      | false ↦ λ apart. changed_in f ts d
    ] refl

-- each transfer is changed by the function
pub transfer-changed : (f : Destination → Transfer → Transfer) (ts : Transfers) (r s : ℕ) → transfer_to (each_changed f ts) r s ≡ option_map (f (to r s)) (transfer_to ts r s)
unfolding each_changed
transfer-changed f ts r s = changed_in f (map_of.entries ts) (to r s) ∙ ap (option_map (f (to r s))) (sym (map_of.get-entries ts (to r s)))

-- transfers to places that pass a test stay, and the others go
pub transfer-kept : (ts : Transfers) (p : Destination → Bool) (r s : ℕ) → transfer_to (map_of.retain_keys ts p) r s ≡ cond (p (to r s)) (transfer_to ts r s) None
transfer-kept ts p r s = map_of.get-retain_keys ts p (to r s) (λ x e. ap p (sym (exact_destinations (to r s) x e)))

-- a transfer that is put
pub transfer-put : (ts : Transfers) (r s : ℕ) (v : Transfer) (q t : ℕ) → transfer_to (map_of.insert ts (to r s) v) q t ≡ cond ((q == r) && (t == s)) (Some v) (transfer_to ts q t)
transfer-put ts r s v q t = map_of.get-insert destinations_total ts (to r s) v (to q t) ∙ ap (λ b. cond b (Some v) (transfer_to ts q t)) (same_destination q t r s)

-- there is no transfer where there are none
pub transfer-none : (q t : ℕ) → transfer_to map_of.empty q t ≡ None
transfer-none q t = map_of.get-empty destination_cmp (to q t)

-- ---- keys

-- a key that is touched
pub contains-touched : (touched : Keys) (k j : List ℕ) → set_of.contains (set_of.insert touched k) j ≡ (eq_by_cmp key_cmp j k || set_of.contains touched j)
contains-touched touched k j = set_of.contains-insert nat_list_cmp_total touched k j

-- a key that didn't fly doesn't fly after some of it has expired
none_left : (clock : ℕ) (es : List StampedEntry) (k : List ℕ) → stamped_in es k ≡ None → stamped_in (unexpired clock es) k ≡ None
none_left clock [] k h = refl
none_left clock (e ∷ es) k h =
    elim (eq_by_cmp key_cmp k e.key) as (λ b. eq_by_cmp key_cmp k e.key ≡ b → cond b (Some e.stamped) (stamped_in es k) ≡ None → stamped_in (cond (outlasts clock e.stamped.until) (e ∷ unexpired clock es) (unexpired clock es)) k ≡ None) [
      | true ↦ λ same h. absurd (cc)
      | false ↦ λ apart h. elim (outlasts clock e.stamped.until) as (λ b. stamped_in (cond b (e ∷ unexpired clock es) (unexpired clock es)) k ≡ None) [
        | true ↦ ap (λ b. cond b (Some e.stamped) (stamped_in (unexpired clock es) k)) apart ∙ none_left clock es k h
        | false ↦ none_left clock es k h
      ]
    ] refl h

-- what is none is None
is_none_none : {A : Type 0} (o : Option A) → is_none o ≡ true → o ≡ None
is_none_none None h = refl
is_none_none (Some a) h = absurd (cc)

-- of a chunk in which no key stands twice, what hasn't expired is left
pub stamped-unexpired : (clock : ℕ) (es : List StampedEntry) (k : List ℕ) → has_each_once es ≡ true → stamped_in (unexpired clock es) k ≡ left clock (stamped_in es k)
stamped-unexpired clock [] k h = refl
stamped-unexpired clock (e ∷ es) k h =
    let parts = and_parts (is_none (stamped_in es e.key)) (has_each_once es) h in
    let rest = stamped-unexpired clock es k parts.1 in
    elim (eq_by_cmp key_cmp k e.key) as (λ b. eq_by_cmp key_cmp k e.key ≡ b → stamped_in (cond (outlasts clock e.stamped.until) (e ∷ unexpired clock es) (unexpired clock es)) k ≡ left clock (cond b (Some e.stamped) (stamped_in es k))) [
      | true ↦ λ same. elim (outlasts clock e.stamped.until) as (λ b. stamped_in (cond b (e ∷ unexpired clock es) (unexpired clock es)) k ≡ cond b (Some e.stamped) None) [
        | true ↦ ap (λ b. cond b (Some e.stamped) (stamped_in (unexpired clock es) k)) same
        | false ↦ none_left clock es k (ap (stamped_in es) (tied_keys k e.key same) ∙ is_none_none (stamped_in es e.key) parts.0)
      ]
      | false ↦ λ apart. elim (outlasts clock e.stamped.until) as (λ b. stamped_in (cond b (e ∷ unexpired clock es) (unexpired clock es)) k ≡ left clock (stamped_in es k)) [
        | true ↦ ap (λ b. cond b (Some e.stamped) (stamped_in (unexpired clock es) k)) apart ∙ rest
        | false ↦ rest
      ]
    ] refl

-- and no key stands twice in what is left
pub once-unexpired : (clock : ℕ) (es : List StampedEntry) → has_each_once es ≡ true → has_each_once (unexpired clock es) ≡ true
once-unexpired clock [] h = refl
once-unexpired clock (e ∷ es) h =
    let parts = and_parts (is_none (stamped_in es e.key)) (has_each_once es) h in
    elim (outlasts clock e.stamped.until) as (λ b. has_each_once (cond b (e ∷ unexpired clock es) (unexpired clock es)) ≡ true) [
      | true ↦ ap (λ o. is_none o && has_each_once (unexpired clock es)) (none_left clock es e.key (is_none_none (stamped_in es e.key) parts.0)) ∙ once-unexpired clock es parts.1
      | false ↦ once-unexpired clock es parts.1
    ]
