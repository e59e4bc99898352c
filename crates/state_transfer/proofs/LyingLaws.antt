-- What a transfer that lies in memory has.
use Rattle.std.proofs.Common.{◌≡◌, ℕ, suc, ◌-◌, Bool, true, false, cond, not, ◌&&◌, ◌||◌, List, [], ◌∷◌, length, slice_get, Option, Some, None, arith, refl, sym, ap, ◌∙◌}
use Rattle.std.proofs.lemmas.Cmp.{eq_by_cmp_equiv}
use Rattle.std.proofs.lemmas.Option.{none-some}
use Rattle.std.specs.BTreeMap.{is_at}
use Rattle.std.specs.Cmp.{first_so, second_so}
use Rattle.std.specs.Cmp.Lexicographic.{nat_list_cmp_total}
use Rattle.std.specs.FinSet as set_of
use Rattle.std.specs.List.{list_any}
use Rattle.std.specs.Option.{option_map, unwrap_or}
use Rattle.std.specs.Ordering.{eq_by_cmp}
use Rattle.grid_base.specs.declared.stamped_entry.StampedEntry.{StampedEntry}
use Rattle.container_seg.specs.Places.{key_cmp}
use Rattle.container_seg.proofs.Trees.{exact_keys}
use Rattle.container_seg.specs.Lifespans.{outlasts}
use Rattle.state_transfer.specs.Calls.{are_lasting}
use Rattle.state_transfer.specs.Cells.{Keys}
use Rattle.state_transfer.specs.Changes.{unexpired}
use Rattle.state_transfer.specs.Chunks.{last_sent}

-- the keys of a tree, as a set
abbrev keys_in : List (List ℕ) → Keys
keys_in ks = set_of.from_list ks

-- what the set has is what the tree has
pub contains_tree : (ks : List (List ℕ)) (q : List ℕ) → set_of.contains (keys_in ks) q ≡ list_any (is_at (key_cmp q)) ks
contains_tree ks q = set_of.contains-from_list nat_list_cmp_total ks q

-- a choice of yes by a test is the test, or the rest
told_yes : (b c : Bool) → cond b true c ≡ (b || c)
told_yes true c = refl
told_yes false c = refl

-- a choice of no by a test is the opposite of the test, and the rest
told_no : (b c : Bool) → cond b false c ≡ (not b && c)
told_no true c = refl
told_no false c = refl

-- a key comes into the tree
pub keys_insert : (ks ls : List (List ℕ)) (k : List ℕ) → ((q : List ℕ) → list_any (is_at (key_cmp q)) ls ≡ cond (is_at (key_cmp k) q) true (list_any (is_at (key_cmp q)) ks)) → keys_in ls ≡ set_of.insert (keys_in ks) k
keys_insert ks ls k changed = set_of.same_set nat_list_cmp_total exact_keys _ _ (λ q.
    contains_tree ls q
    ∙ changed q
    ∙ (λ i. cond ((eq_by_cmp_equiv nat_list_cmp_total).symm k q i) true (sym (contains_tree ks q) i))
    ∙ told_yes (eq_by_cmp key_cmp q k) (set_of.contains (keys_in ks) q)
    ∙ sym (set_of.contains-insert nat_list_cmp_total (keys_in ks) k q))

-- a key leaves the tree
pub keys_remove : (ks ls : List (List ℕ)) (k : List ℕ) → ((q : List ℕ) → list_any (is_at (key_cmp q)) ls ≡ cond (is_at (key_cmp k) q) false (list_any (is_at (key_cmp q)) ks)) → keys_in ls ≡ set_of.remove (keys_in ks) k
keys_remove ks ls k changed = set_of.same_set nat_list_cmp_total exact_keys _ _ (λ q.
    contains_tree ls q
    ∙ changed q
    ∙ (λ i. cond ((eq_by_cmp_equiv nat_list_cmp_total).symm k q i) false (sym (contains_tree ks q) i))
    ∙ told_no (eq_by_cmp key_cmp q k) (set_of.contains (keys_in ks) q)
    ∙ sym (set_of.contains-remove nat_list_cmp_total (keys_in ks) k q))

-- the last entry's key is the last one sent
pub last_found : (es : List StampedEntry) (e : StampedEntry) (sent : Option (List ℕ)) → slice_get es (length es - 1) ≡ Some e → Some e.key ≡ last_sent es sent
last_found [] e sent h = absurd (none-some e h)
last_found (x ∷ []) e sent h = ap (option_map (λ (y : StampedEntry). y.key)) (sym h)
last_found (x ∷ y ∷ ys) e sent h =
    let place : suc (length (y ∷ ys) - 1) ≡ length (x ∷ y ∷ ys) - 1 = omega arith in
    last_found (y ∷ ys) e sent (ap (slice_get (x ∷ y ∷ ys)) place ∙ h)

-- where none of the entries has expired, all are left
pub all_left : (clock : ℕ) (es : List StampedEntry) → are_lasting clock es ≡ true → unexpired clock es ≡ es
all_left clock [] h = refl
all_left clock (e ∷ es) h =
    let now = first_so (outlasts clock e.stamped.until) (are_lasting clock es) h in
    let rest = second_so (outlasts clock e.stamped.until) (are_lasting clock es) h in
    ap (λ b. cond b (e ∷ unexpired clock es) (unexpired clock es)) now ∙ ap (λ xs. e ∷ xs) (all_left clock es rest)

-- the same of what flies, if anything does
pub flying_left : (clock : ℕ) (flying : Option (List StampedEntry)) → are_lasting clock (unwrap_or flying []) ≡ true → option_map (unexpired clock) flying ≡ flying
flying_left clock None h = refl
flying_left clock (Some es) h = ap Some (all_left clock es h)
