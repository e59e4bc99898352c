-- An ordered map of transfers seen as a finite map.
use Rattle.std.proofs.Common.{◌≡◌, ℕ, Bool, true, false, cond, List, [], ◌∷◌, map, filter, Option, Some, None, refl, sym, ap, ◌∙◌, inl, inr}
use Rattle.std.proofs.lemmas.Bool.{cases_Bool}
use Rattle.std.proofs.lemmas.Cmp.{eq_by_cmp_equiv}
use Rattle.std.proofs.lemmas.Map.Entries.{lookup-filter-keys, lookup-filter-values, option_filter}
use Rattle.std.proofs.lemmas.Map.Made.{lookup-map_values}
use Rattle.std.specs.BTreeMap.{is_at}
use Rattle.std.specs.Cmp.{Equal-is}
use Rattle.std.specs.FinMap as map_of
use Rattle.std.specs.List.{IsDistinct}
use Rattle.std.specs.Map.{keys_of, lookup}
use Rattle.std.specs.Option.{option_map}
use Rattle.std.specs.Ordering.{eq_by_cmp}
use Rattle.state_transfer.specs.Calls.{is_there}
use Rattle.state_transfer.specs.Cells.{Destination, destination_cmp}
use Rattle.state_transfer.specs.Copying.{Transfer, Transfers, each_changed}
use Rattle.state_transfer.specs.Leaving.{outlives}
use Rattle.state_transfer.proofs.CellLaws.{destinations_total, exact_destinations, same_destination, transfer-changed}

-- transfers by receiver and segment
abbrev Rows : Type 0
Rows = List (Destination × Transfer)

-- the finite map of the rows
abbrev pub rows_in : Rows → Transfers
rows_in es = map_of.from_entries es

-- the transfer that leads there
abbrev pub row_at : Rows → Destination → Option Transfer
row_at es q = lookup (is_at (destination_cmp q)) es

-- what is found in the map is what the rows have
find_row : (es : Rows) (q : Destination) → map_of.find destination_cmp q es ≡ row_at es q
find_row [] q = refl
find_row (e ∷ es) q = ap (cond (eq_by_cmp destination_cmp q e.0) (Some e.1)) (find_row es q)

-- what the map has is what the tree has
pub get_rows : (es : Rows) (q : Destination) → map_of.get (rows_in es) q ≡ row_at es q
get_rows es q = map_of.get-from_entries destinations_total es q ∙ find_row es q

-- trees that have these transfers are this map
pub rows_are : (es : Rows) (transfers : Transfers) → ((q : Destination) → row_at es q ≡ map_of.get transfers q) → rows_in es ≡ transfers
rows_are es transfers h = map_of.same_map destinations_total exact_destinations _ _ (λ q. get_rows es q ∙ h q)

-- a place ties with another, read either way round
flipped : (a b : Destination) → is_at (destination_cmp a) b ≡ eq_by_cmp destination_cmp b a
flipped a b = (eq_by_cmp_equiv destinations_total).symm a b

-- one transfer is put
pub rows_insert : (es fs : Rows) (to : Destination) (v : Transfer) → ((q : Destination) → row_at fs q ≡ cond (is_at (destination_cmp to) q) (Some v) (row_at es q))
    → rows_in fs ≡ map_of.insert (rows_in es) to v
rows_insert es fs to v changed = rows_are fs _ (λ q.
    changed q
    ∙ (λ i. cond (flipped to q i) (Some v) (sym (get_rows es q) i))
    ∙ sym (map_of.get-insert destinations_total (rows_in es) to v q))

-- each transfer is changed
pub rows_changed : (es fs : Rows) (f : Destination → Transfer → Transfer) → ((q : Destination) → row_at fs q ≡ option_map (f q) (row_at es q)) → rows_in fs ≡ each_changed f (rows_in es)
rows_changed es fs f changed = rows_are fs _ (λ q. changed q ∙ ap (option_map (f q)) (sym (get_rows es q)) ∙ sym (transfer-changed f (rows_in es) q.receiver q.segment))

-- whether a destination is this one, by the order
pub is_there_tied : (to q : Destination) → is_at (destination_cmp to) q ≡ is_there to q
is_there_tied to q = flipped to q ∙ same_destination q.receiver q.segment to.receiver to.segment

-- a change that changes nothing leaves what is there
kept_as : (f : Transfer → Transfer) → ((t : Transfer) → f t ≡ t) → (o : Option Transfer) → o ≡ option_map f o
kept_as f h None = refl
kept_as f h (Some t) = ap Some (sym (h t))

-- one transfer is changed, by a function that leaves the others as they are
pub rows_changed_at : (es fs : Rows) (to : Destination) (was left : Transfer) (f : Destination → Transfer → Transfer) → row_at es to ≡ Some was
    → ((q : Destination) → row_at fs q ≡ cond (is_at (destination_cmp to) q) (Some left) (row_at es q)) → (is_there to to ≡ true → f to was ≡ left)
    → ((q : Destination) → is_there to q ≡ false → (t : Transfer) → f q t ≡ t) → rows_in fs ≡ each_changed f (rows_in es)
rows_changed_at es fs to was left f found changed here others = rows_changed es fs f (λ q.
    changed q
    ∙ elim (cases_Bool (is_at (destination_cmp to) q)) [
      | inl ties ↦
          let same : q ≡ to = sym (exact_destinations to q ((Equal-is (destination_cmp to q)).0 ties)) in
          let itself : is_there to to ≡ true = ap (is_there to) (sym same) ∙ sym (is_there_tied to q) ∙ ties in
          ap (λ b. cond b (Some left) (row_at es q)) ties ∙ ap Some (sym (here itself)) ∙ ap (option_map (f to)) (sym found) ∙ (λ i. option_map (f (sym same i)) (row_at es (sym same i)))
      | inr apart ↦ ap (λ b. cond b (Some left) (row_at es q)) apart ∙ kept_as (f q) (others q (sym (is_there_tied to q) ∙ apart)) (row_at es q)
    ])

-- no transfer is changed, where the only one that the function changes isn't there
pub rows_unchanged : (es : Rows) (to : Destination) (f : Destination → Transfer → Transfer) → row_at es to ≡ None
    → ((q : Destination) → is_there to q ≡ false → (t : Transfer) → f q t ≡ t) → rows_in es ≡ each_changed f (rows_in es)
rows_unchanged es to f absent others = rows_changed es es f (λ q.
    elim (cases_Bool (is_at (destination_cmp to) q)) [
      | inl ties ↦
          let same : q ≡ to = sym (exact_destinations to q ((Equal-is (destination_cmp to q)).0 ties)) in
          let none : row_at es q ≡ None = ap (row_at es) same ∙ absent in
          none ∙ ap (option_map (f q)) (sym none)
      | inr apart ↦ kept_as (f q) (others q (sym (is_there_tied to q) ∙ apart)) (row_at es q)
    ])

-- transfers whose destination passes a test stay
pub rows_kept : (es fs : Rows) (p : Destination → Bool) → fs ≡ filter (λ e. p e.0) es → rows_in fs ≡ map_of.retain_keys (rows_in es) p
rows_kept es fs p is = rows_are fs _ (λ q.
    ap (λ rows. row_at rows q) is
    ∙ lookup-filter-keys (is_at (destination_cmp q)) p (p q) (λ k tie. ap p (sym (exact_destinations q k ((Equal-is (destination_cmp q k)).0 tie)))) es
    ∙ ap (λ o. cond (p q) o None) (sym (get_rows es q))
    ∙ sym (map_of.get-retain_keys (rows_in es) p q (λ x e. ap p (sym (exact_destinations q x e)))))

-- a transfer passes the filter exactly where it outlives the provider
passes : (provider : ℕ) (o : Option Transfer) → option_filter (λ t. outlives provider (Some t)) o ≡ cond (outlives provider o) o None
passes provider None = refl
passes provider (Some t) = refl

-- transfers that outlive a provider stay
pub rows_outlive : (es fs : Rows) (provider : ℕ) → IsDistinct (eq_by_cmp destination_cmp) (keys_of es) → fs ≡ filter (λ e. outlives provider (Some e.1)) es
    → rows_in fs ≡ map_of.retain_keys (rows_in es) (λ to. outlives provider (map_of.get (rows_in es) to))
rows_outlive es fs provider distinct is = rows_are fs _ (λ q.
    ap (λ rows. row_at rows q) is
    ∙ lookup-filter-values (eq_by_cmp_equiv destinations_total) (λ t. outlives provider (Some t)) q es distinct
    ∙ passes provider (row_at es q)
    ∙ ap (λ o. cond (outlives provider o) o None) (sym (get_rows es q))
    ∙ sym (map_of.get-retain_keys (rows_in es) (λ to. outlives provider (map_of.get (rows_in es) to)) q
    (λ x e. ap (outlives provider) (map_of.get_tied destinations_total (rows_in es) q x e))))

-- each transfer is changed alike
pub rows_mapped : (es fs : Rows) (g : Transfer → Transfer) → fs ≡ map (λ e. (e.0, g e.1)) es → rows_in fs ≡ each_changed (λ to t. g t) (rows_in es)
rows_mapped es fs g is = rows_changed es fs (λ to t. g t) (λ q. ap (λ rows. row_at rows q) is ∙ lookup-map_values g (is_at (destination_cmp q)) es)

-- a tree into which a transfer is put back as it was
pub rows_restored : (es fs : Rows) (to : Destination) (was : Transfer) → row_at es to ≡ Some was → ((q : Destination) → row_at fs q ≡ cond (is_at (destination_cmp to) q) (Some was) (row_at es q)) → rows_in fs ≡ rows_in es
rows_restored es fs to was found changed = rows_are fs _ (λ q.
    changed q
    ∙ elim (cases_Bool (is_at (destination_cmp to) q)) [
      | inl ties ↦
          let same : to ≡ q = exact_destinations to q ((Equal-is (destination_cmp to q)).0 ties) in
          ap (λ b. cond b (Some was) (row_at es q)) ties ∙ sym found ∙ ap (row_at es) same
      | inr apart ↦ ap (λ b. cond b (Some was) (row_at es q)) apart
    ]
    ∙ sym (get_rows es q))
