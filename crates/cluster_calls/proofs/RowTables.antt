-- The rows of an index map seen as a finite map, and the calls of the rows.
use Rattle.std.proofs.Common.{◌≡◌, ℕ, Bool, true, false, cond, ◌==◌, List, [], ◌∷◌, map, Option, Some, None, refl, sym, subst, ap, ◌∙◌, arith}
use Rattle.std.proofs.lemmas.Bool.Decides.{nat_tests}
use Rattle.std.proofs.lemmas.Map.Made.{lookup-map_values}
use Rattle.std.specs.Cmp.{Equal-is, nat_cmp_total, unsigned_ties}
use Rattle.std.specs.FinMap as map_of
use Rattle.std.specs.FinMap.{nat_cmp-IsAntisymmetric}
use Rattle.std.specs.Map.{lookup}
use Rattle.std.specs.Option.{option_map}
use Rattle.std.specs.Ordering.{nat_cmp, eq_by_cmp}
use Rattle.cluster_model.specs.State.{Call}
use Rattle.cluster_model.specs.Topologies.{changed_calls, each_call}
use Rattle.cluster_calls.specs.Calling.{is_one, with_call}
use Rattle.cluster_calls.specs.Rows.{Rows, calls_in, changes_row, each_row, with_row}
use Rattle.cluster_calls.specs.declared.row.Row.{Row}

-- the finite map of the entries
abbrev pub rows_in : List (ℕ × Row) → Rows
rows_in es = map_of.from_entries es

-- the row of the number among the entries
abbrev pub row_at : List (ℕ × Row) → ℕ → Option Row
row_at es q = lookup (λ k. q == k) es

-- numbers that tie are equal
pub same_number : (x y : ℕ) → eq_by_cmp nat_cmp x y ≡ true → x ≡ y
same_number x y h = nat_cmp-IsAntisymmetric x y ((Equal-is (nat_cmp x y)).0 h)

-- numbers tie where they are equal
pub tied : (x y : ℕ) → eq_by_cmp nat_cmp x y ≡ (x == y)
tied x y = sym (unsigned_ties x y)

-- the row that a map finds is the one that a list finds
find_row : {X : Type 0} (es : List (ℕ × X)) (q : ℕ) → map_of.find nat_cmp q es ≡ lookup (λ k. q == k) es
find_row [] q = refl
find_row (e ∷ es) q = (λ i. cond (tied q e.0 i) (Some e.1) (find_row es q i))

-- what the map has is what the entries have
pub get_rows : (es : List (ℕ × Row)) (q : ℕ) → map_of.get (rows_in es) q ≡ row_at es q
get_rows es q = map_of.get-from_entries nat_cmp_total es q ∙ find_row es q

-- entries that have these rows are this map
pub rows_are : (es : List (ℕ × Row)) (rows : Rows) → ((q : ℕ) → row_at es q ≡ map_of.get rows q) → rows_in es ≡ rows
rows_are es rows h = map_of.same_map nat_cmp_total nat_cmp-IsAntisymmetric _ _ (λ q. get_rows es q ∙ h q)

-- numbers are compared either way round
flipped : (x y : ℕ) → (x == y) ≡ (y == x)
flipped x y = grind (arith, nat_tests)

-- one row is put
pub rows_insert : (es fs : List (ℕ × Row)) (number : ℕ) (row : Row) → ((q : ℕ) → row_at fs q ≡ cond (number == q) (Some row) (row_at es q))
    → rows_in fs ≡ map_of.insert (rows_in es) number row
rows_insert es fs number row changed = rows_are fs _ (λ q.
    changed q
    ∙ (λ i. cond ((flipped number q ∙ sym (tied q number)) i) (Some row) (sym (get_rows es q) i))
    ∙ sym (map_of.get-insert nat_cmp_total (rows_in es) number row q))

-- a row that is there is changed
pub rows_changed : (es fs : List (ℕ × Row)) (number : ℕ) (change : Row → Row) (was left : Row) → Some was ≡ row_at es number → left ≡ change was
    → ((q : ℕ) → row_at fs q ≡ cond (number == q) (Some left) (row_at es q)) → rows_in fs ≡ changes_row number change (rows_in es)
rows_changed es fs number change was left found is changed =
    rows_insert es fs number left changed
    ∙ ap (map_of.insert (rows_in es) number) is
    ∙ ap (λ o. with_row number change o (rows_in es)) (found ∙ sym (get_rows es number))

-- a row that isn't there isn't changed
pub rows_unchanged : (es : List (ℕ × Row)) (number : ℕ) (change : Row → Row) → None ≡ row_at es number → rows_in es ≡ changes_row number change (rows_in es)
rows_unchanged es number change absent = ap (λ o. with_row number change o (rows_in es)) (absent ∙ sym (get_rows es number))

-- what is there of a map whose values are changed
pub find-map_values : {X Y : Type 0} (f : X → Y) (es : List (ℕ × X)) (q : ℕ) → map_of.find nat_cmp q (map (λ e. (e.0, f e.1)) es) ≡ option_map f (map_of.find nat_cmp q es)
find-map_values f [] q = refl
find-map_values f (e ∷ es) q =
    elim (eq_by_cmp nat_cmp q e.0) as (λ b. cond b (Some (f e.1)) (map_of.find nat_cmp q (map (λ e. (e.0, f e.1)) es)) ≡ option_map f (cond b (Some e.1) (map_of.find nat_cmp q es))) [
      | true ↦ refl
      | false ↦ find-map_values f es q
    ]

-- the calls of the rows, by number
pub get-calls_in : (rows : Rows) (q : ℕ) → map_of.get (calls_in rows) q ≡ option_map (λ row. row.call) (map_of.get rows q)
unfolding calls_in
get-calls_in rows q =
    map_of.get-from_entries nat_cmp_total _ q
    ∙ find-map_values (λ (row : Row). row.call) (map_of.entries rows) q
    ∙ ap (option_map (λ (row : Row). row.call)) (sym (map_of.get-entries rows q))

-- each row is changed
pub get-each_row : (change : Row → Row) (rows : Rows) (q : ℕ) → map_of.get (each_row change rows) q ≡ option_map change (map_of.get rows q)
unfolding each_row
get-each_row change rows q =
    map_of.get-from_entries nat_cmp_total _ q
    ∙ find-map_values change (map_of.entries rows) q
    ∙ ap (option_map change) (sym (map_of.get-entries rows q))

-- entries that are changed alike are each row changed
pub rows_mapped : (es fs : List (ℕ × Row)) (change : Row → Row) → fs ≡ map (λ e. (e.0, change e.1)) es → rows_in fs ≡ each_row change (rows_in es)
rows_mapped es fs change is = rows_are fs _ (λ q.
    ap (λ rows. row_at rows q) is
    ∙ lookup-map_values change (λ k. q == k) es
    ∙ ap (option_map change) (sym (get_rows es q))
    ∙ sym (get-each_row change (rows_in es) q))

-- each call of a map is changed by itself
changed_in : (f : ℕ → Call → Call) (cs : List (ℕ × Call)) (q : ℕ) → map_of.get (changed_calls f cs) q ≡ option_map (f q) (map_of.find nat_cmp q cs)
changed_in f [] q = map_of.get-empty nat_cmp q
changed_in f (c ∷ cs) q =
    map_of.get-insert nat_cmp_total (changed_calls f cs) c.0 (f c.0 c.1) q
    ∙ elim (eq_by_cmp nat_cmp q c.0) as (λ b. eq_by_cmp nat_cmp q c.0 ≡ b → cond b (Some (f c.0 c.1)) (map_of.get (changed_calls f cs) q) ≡ option_map (f q) (cond b (Some c.1) (map_of.find nat_cmp q cs))) [
      | true ↦ λ tie. ap (λ x. Some (f x c.1)) (sym (same_number q c.0 tie))
      | false ↦ λ apart. changed_in f cs q
    ] refl

-- each call is changed by the function
pub get-each_call : (f : ℕ → Call → Call) (calls : map_of.FinMap nat_cmp Call) (q : ℕ) → map_of.get (each_call f calls) q ≡ option_map (f q) (map_of.get calls q)
unfolding each_call
get-each_call f calls q = changed_in f (map_of.entries calls) q ∙ ap (option_map (f q)) (sym (map_of.get-entries calls q))

-- what is there after a row is put
pub get-put : (rows : Rows) (number : ℕ) (row : Row) (q : ℕ) → map_of.get (map_of.insert rows number row) q ≡ cond (q == number) (Some row) (map_of.get rows q)
get-put rows number row q = map_of.get-insert nat_cmp_total rows number row q ∙ ap (λ b. cond b (Some row) (map_of.get rows q)) (tied q number)

-- the call of a row that may be put is that row's call
call_put : (b : Bool) (row : Row) (o : Option Row) → option_map (λ (r : Row). r.call) (cond b (Some row) o) ≡ cond b (Some row.call) (option_map (λ (r : Row). r.call) o)
call_put true row o = refl
call_put false row o = refl

-- where a row is put, so is its call
pub calls_in-insert : (rows : Rows) (number : ℕ) (row : Row) → calls_in (map_of.insert rows number row) ≡ map_of.insert (calls_in rows) number row.call
calls_in-insert rows number row = map_of.same_map nat_cmp_total nat_cmp-IsAntisymmetric _ _ (λ q.
    get-calls_in (map_of.insert rows number row) q
    ∙ ap (option_map (λ (r : Row). r.call)) (map_of.get-insert nat_cmp_total rows number row q)
    ∙ call_put (eq_by_cmp nat_cmp q number) row (map_of.get rows q)
    ∙ ap (cond (eq_by_cmp nat_cmp q number) (Some row.call)) (sym (get-calls_in rows q))
    ∙ sym (map_of.get-insert nat_cmp_total (calls_in rows) number row.call q))

-- a row's change is a change of its call
calls_with : (rows : Rows) (number : ℕ) (change : Row → Row) (calls : Call → Call) → ((row : Row) → (change row).call ≡ calls row.call)
    → (o : Option Row) → calls_in (with_row number change o rows) ≡ with_call number calls (option_map (λ row. row.call) o) (calls_in rows)
calls_with rows number change calls alike None = refl
calls_with rows number change calls alike (Some row) = calls_in-insert rows number (change row) ∙ ap (map_of.insert (calls_in rows) number) (alike row)

-- where a row is changed, so is its call
pub calls_in-changed : (rows : Rows) (number : ℕ) (change : Row → Row) (calls : Call → Call) → ((row : Row) → (change row).call ≡ calls row.call)
    → calls_in (changes_row number change rows) ≡ with_call number calls (map_of.get (calls_in rows) number) (calls_in rows)
calls_in-changed rows number change calls alike =
    calls_with rows number change calls alike (map_of.get rows number)
    ∙ ap (λ o. with_call number calls o (calls_in rows)) (sym (get-calls_in rows number))

-- a call that isn't changed stays
stays : (rows : Rows) (number : ℕ) (o : Option Call) → map_of.get (calls_in rows) number ≡ o → with_call number (λ c. c) o (calls_in rows) ≡ calls_in rows
stays rows number None is = refl
stays rows number (Some call) is = map_of.same_map nat_cmp_total nat_cmp-IsAntisymmetric _ _ (λ q.
    map_of.get-insert nat_cmp_total (calls_in rows) number call q
    ∙ elim (eq_by_cmp nat_cmp q number) as (λ b. eq_by_cmp nat_cmp q number ≡ b → cond b (Some call) (map_of.get (calls_in rows) q) ≡ map_of.get (calls_in rows) q) [
      | true ↦ λ tie. sym is ∙ ap (map_of.get (calls_in rows)) (sym (same_number q number tie))
      | false ↦ λ apart. refl
    ] refl)

-- where a row is changed but for its call, the calls stay
pub calls_in-same : (rows : Rows) (number : ℕ) (change : Row → Row) → ((row : Row) → (change row).call ≡ row.call) → calls_in (changes_row number change rows) ≡ calls_in rows
calls_in-same rows number change alike = calls_in-changed rows number change (λ c. c) alike ∙ stays rows number _ refl

-- one that passes a test is the one that is there
pub one_there : {A : Type 0} (test : A → Bool) (o : Option A) (x : A) → Some x ≡ o → is_one test o ≡ true → test x ≡ true
one_there test o x is h = subst (λ p. is_one test p ≡ true) (sym is) h

-- numbers that are equal by the test
pub equal : (x y : ℕ) → (x == y) ≡ true → x ≡ y
equal x y h = grind (arith, nat_tests)

-- entries into which a row is put back as it was
pub rows_restored : (es fs : List (ℕ × Row)) (number : ℕ) (was left : Row) → Some was ≡ row_at es number → left ≡ was
    → ((q : ℕ) → row_at fs q ≡ cond (number == q) (Some left) (row_at es q)) → rows_in fs ≡ rows_in es
rows_restored es fs number was left found is changed = rows_are fs _ (λ q.
    changed q
    ∙ elim (number == q) as (λ b. (number == q) ≡ b → cond b (Some left) (row_at es q) ≡ row_at es q) [
      | true ↦ λ tie. ap Some is ∙ found ∙ ap (row_at es) (equal number q tie)
      | false ↦ λ apart. refl
    ] refl
    ∙ sym (get_rows es q))
