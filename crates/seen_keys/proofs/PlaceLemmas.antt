-- What the places say of the keys that have passed.
use Rattle.std.proofs.Common.{◌≡◌, ℕ, zero, suc, ◌+◌, ◌<◌, ◌≤◌, Bool, true, false, not, ◌&&◌, ◌||◌, List, [], ◌∷◌, ◌++◌, length, get_or, set, take, refl, sym, subst, ◌∙◌, ap, arith, inl, inr, Some, None, Option, unwrap_or, cond, Result, Ok, Err, OnErr}
use Rattle.std.proofs.lemmas.Bool.{ne_eqb, eq-eqb, cases_eq}
use Rattle.std.proofs.lemmas.List.{get_or-set_same, get_or-set_other, get_or_past, take_more, take_all}
use Rattle.std.proofs.lemmas.List.Elements.{AllZip-push}
use Rattle.std.specs.Prelude.{◌==◌}
use Rattle.std.specs.List.{list_any, AllZip}
use Rattle.std.specs.Cmp.{Equal-is}
use Rattle.std.specs.Cmp.Lexicographic.{nat_list_eq_equiv}
use Rattle.std.specs.FinSet as sets
use Rattle.std.specs.Ordering.{eq_by_cmp}
use Rattle.indexmap.specs.IndexSet.{IndexSet}
use Rattle.grid_base.specs.declared.entry.Entry.{Entry}
use Rattle.grid_base.specs.Datum.{same_bytes}
use Rattle.seen_keys.specs.Passed.{Passed, delivery_cmp, has_passed, with_key, all_passed, without_segment}
use Rattle.seen_keys.specs.Places.{has_key, place_has, keys_with, passed_from}
use Rattle.seen_keys.proofs.PassedLaws.{delivery_total, delivery_exact, has_passed-with_key, has_passed-all_passed, has_passed-without_segment}

-- nothing is added by a test that fails
none_added : (a b : Bool) → b ≡ ((a && false) || b)
none_added true b = refl
none_added false b = refl

-- one key before others is one of them all
gathered : (a b c d : Bool) → ((a && b) || ((a && c) || d)) ≡ ((a && (b || c)) || d)
gathered true true c d = refl
gathered true false c d = refl
gathered false b c d = refl

-- false changes nothing behind a test
or_none : (b : Bool) → (b || false) ≡ b
or_none true = refl
or_none false = refl

-- two tests in either order
either_way : (a b : Bool) → (a || b) ≡ (b || a)
either_way true true = refl
either_way true false = refl
either_way false b = sym (or_none b)

-- a test and one that fails
and_none : (b : Bool) → (b && false) ≡ false
and_none true = refl
and_none false = refl

-- a test and one that holds
and_all : (b : Bool) → (b && true) ≡ b
and_all true = refl
and_all false = refl

-- with several keys, a key has passed where it is one of them, or had passed before
has_passed-keys_with : (n : ℕ) (js : List (List ℕ)) (passed : Passed) (m : ℕ) (k : List ℕ) →
    has_passed (keys_with n js passed) m k ≡ (((m == n) && list_any (same_bytes k) js) || has_passed passed m k)
unfolding keys_with
has_passed-keys_with n [] passed m k = none_added (m == n) (has_passed passed m k)
has_passed-keys_with n (j ∷ js) passed m k =
    has_passed-with_key (keys_with n js passed) n j m k
    ∙ ap (λ b. ((m == n) && same_bytes k j) || b) (has_passed-keys_with n js passed m k)
    ∙ gathered (m == n) (same_bytes k j) (list_any (same_bytes k) js) (has_passed passed m k)

module _ {S : Type 0} where
  -- in a segment before that of the first place no key has passed
  none_before : (n : ℕ) (places : List (Option (IndexSet (List ℕ) S))) (m : ℕ) (k : List ℕ) → m < n → has_passed (passed_from n places) m k ≡ false
  unfolding passed_from
  none_before n [] m k h = sets.contains-empty delivery_cmp (m, k)
  none_before n (None ∷ places) m k h = none_before (suc n) places m k (omega arith)
  none_before n (Some keys ∷ places) m k h =
      let differ : (m == n) ≡ false = ne_eqb m n (omega arith) in
      let rest : has_passed (passed_from (suc n) places) m k ≡ false = none_before (suc n) places m k (omega arith) in
      has_passed-keys_with n keys.keys (passed_from (suc n) places) m k ∙ (λ i. (differ i && list_any (same_bytes k) keys.keys) || rest i)

  -- a key has passed in a segment exactly where the segment's place has it
  from_place : (n : ℕ) (places : List (Option (IndexSet (List ℕ) S))) (j m : ℕ) (k : List ℕ) → m ≡ n + j → has_passed (passed_from n places) m k ≡ place_has (get_or places j None) k
  unfolding passed_from
  from_place n [] j m k e = sets.contains-empty delivery_cmp (m, k)
  from_place n (None ∷ places) zero m k e = none_before (suc n) places m k (omega arith)
  from_place n (None ∷ places) (suc j) m k e = from_place (suc n) places j m k (omega arith)
  from_place n (Some keys ∷ places) zero m k e =
      let same : (m == n) ≡ true = eq-eqb m n (omega arith) in
      let rest : has_passed (passed_from (suc n) places) m k ≡ false = none_before (suc n) places m k (omega arith) in
      has_passed-keys_with n keys.keys (passed_from (suc n) places) m k
      ∙ (λ i. (same i && list_any (same_bytes k) keys.keys) || rest i)
      ∙ or_none (list_any (same_bytes k) keys.keys)
  from_place n (Some keys ∷ places) (suc j) m k e =
      let differ : (m == n) ≡ false = ne_eqb m n (omega arith) in
      let rest : has_passed (passed_from (suc n) places) m k ≡ place_has (get_or places j None) k = from_place (suc n) places j m k (omega arith) in
      has_passed-keys_with n keys.keys (passed_from (suc n) places) m k ∙ (λ i. (differ i && list_any (same_bytes k) keys.keys) || rest i)

  -- a key has passed in a segment exactly where the segment's place has it
  pub has_passed-passed_from : (places : List (Option (IndexSet (List ℕ) S))) (m : ℕ) (k : List ℕ) → has_passed (passed_from 0 places) m k ≡ place_has (get_or places m None) k
  has_passed-passed_from places m k = from_place 0 places m m k (omega arith)

  -- a further place without keys changes nothing
  pub passed_from-push : (n : ℕ) (places : List (Option (IndexSet (List ℕ) S))) → passed_from n (places ++ None ∷ []) ≡ passed_from n places
  unfolding passed_from
  passed_from-push n [] = refl
  passed_from-push n (None ∷ places) = passed_from-push (suc n) places
  passed_from-push n (Some keys ∷ places) = ap (keys_with n keys.keys) (passed_from-push (suc n) places)

  -- where a place takes in further keys, these have passed in its segment too
  placed : (places : List (Option (IndexSet (List ℕ) S))) (n : ℕ) (place : Option (IndexSet (List ℕ) S)) (more : List ℕ → Bool) → n < length places →
      ((k : List ℕ) → place_has place k ≡ (place_has (get_or places n None) k || more k)) → (m : ℕ) (k : List ℕ) →
      has_passed (passed_from 0 (set places n place)) m k ≡ (((m == n) && more k) || has_passed (passed_from 0 places) m k)
  placed places n place more inside adds m k =
      has_passed-passed_from (set places n place) m k
      ∙ elim (cases_eq m n) [
        | inl e ↦
            let same : (m == n) ≡ true = eq-eqb m n e in
            let here : get_or (set places n place) m None ≡ place = ap (λ x. get_or (set places n place) x None) e ∙ get_or-set_same places n place None inside in
            ap (λ p. place_has p k) here
            ∙ adds k
            ∙ either_way (place_has (get_or places n None) k) (more k)
            ∙ (λ i. (sym same i && more k) || place_has (get_or places (sym e i) None) k)
        | inr d ↦
            let differ : (m == n) ≡ false = ne_eqb m n d in
            ap (λ p. place_has p k) (get_or-set_other places n m place None d)
            ∙ (λ i. (sym differ i && more k) || place_has (get_or places m None) k)
      ]
      ∙ ap (λ b. ((m == n) && more k) || b) (sym (has_passed-passed_from places m k))

  -- a key that is put into its segment's place has passed
  pub with_key-placed : (places : List (Option (IndexSet (List ℕ) S))) (passed : Passed) (n : ℕ) (place : Option (IndexSet (List ℕ) S)) (j : List ℕ) → n < length places →
      passed_from 0 places ≡ passed → ((k : List ℕ) → place_has place k ≡ (place_has (get_or places n None) k || same_bytes k j)) →
      passed_from 0 (set places n place) ≡ with_key passed n j
  with_key-placed places passed n place j inside stays adds =
      sets.same_set delivery_total delivery_exact _ _
      (λ d. placed places n place (λ k. same_bytes k j) inside adds d.0 d.1
      ∙ ap (λ p. ((d.0 == n) && same_bytes d.1 j) || has_passed p d.0 d.1) stays
      ∙ sym (has_passed-with_key passed n j d.0 d.1))

  -- keys that are put into their segment's place have passed
  pub all_passed-placed : (places : List (Option (IndexSet (List ℕ) S))) (passed : Passed) (n : ℕ) (place : Option (IndexSet (List ℕ) S)) (entries : List Entry) → n < length places →
      passed_from 0 places ≡ passed → ((k : List ℕ) → place_has place k ≡ (place_has (get_or places n None) k || list_any (λ entry. same_bytes k entry.key) entries)) →
      passed_from 0 (set places n place) ≡ all_passed passed n entries
  all_passed-placed places passed n place entries inside stays adds =
      sets.same_set delivery_total delivery_exact _ _
      (λ d. placed places n place (λ k. list_any (λ entry. same_bytes k entry.key) entries) inside adds d.0 d.1
      ∙ ap (λ p. ((d.0 == n) && list_any (λ entry. same_bytes d.1 entry.key) entries) || has_passed p d.0 d.1) stays
      ∙ sym (has_passed-all_passed passed n entries d.0 d.1))

  -- a place that keeps its keys changes nothing
  pub same_place : (places : List (Option (IndexSet (List ℕ) S))) (passed : Passed) (n : ℕ) (place : Option (IndexSet (List ℕ) S)) → n < length places →
      passed_from 0 places ≡ passed → ((k : List ℕ) → place_has place k ≡ place_has (get_or places n None) k) → passed_from 0 (set places n place) ≡ passed
  same_place places passed n place inside stays keeps =
      sets.same_set delivery_total delivery_exact _ _
      (λ d. placed places n place (λ k. false) inside (λ k. keeps k ∙ sym (or_none (place_has (get_or places n None) k))) d.0 d.1
      ∙ sym (none_added (d.0 == n) (has_passed (passed_from 0 places) d.0 d.1)))
      ∙ stays

  -- where a place is emptied, the keys of its segment are forgotten
  pub without_segment-emptied : (places : List (Option (IndexSet (List ℕ) S))) (n : ℕ) → n < length places → passed_from 0 (set places n None) ≡ without_segment (passed_from 0 places) n
  without_segment-emptied places n inside =
      sets.same_set delivery_total delivery_exact _ _
      (λ d. has_passed-passed_from (set places n None) d.0 d.1
      ∙ emptied d.0 d.1
      ∙ ap (λ b. b && not (d.0 == n)) (sym (has_passed-passed_from places d.0 d.1))
      ∙ sym (has_passed-without_segment (passed_from 0 places) n d.0 d.1))
    where
      emptied : (m : ℕ) (k : List ℕ) → place_has (get_or (set places n None) m None) k ≡ (place_has (get_or places m None) k && not (m == n))
      emptied m k =
          elim (cases_eq m n) [
            | inl e ↦
                let same : (m == n) ≡ true = eq-eqb m n e in
                let here : get_or (set places n None) m None ≡ None = ap (λ x. get_or (set places n None) x None) e ∙ get_or-set_same places n None None inside in
                ap (λ p. place_has p k) here ∙ sym (and_none (place_has (get_or places m None) k)) ∙ (λ i. place_has (get_or places m None) k && not (sym same i))
            | inr d ↦
                let differ : (m == n) ≡ false = ne_eqb m n d in
                ap (λ p. place_has p k) (get_or-set_other places n m None None d)
                ∙ sym (and_all (place_has (get_or places m None) k))
                ∙ (λ i. place_has (get_or places m None) k && not (sym differ i))
          ]

  -- where a segment has no place, none of its keys is forgotten
  pub without_segment-past : (places : List (Option (IndexSet (List ℕ) S))) (n : ℕ) → length places ≤ n → passed_from 0 places ≡ without_segment (passed_from 0 places) n
  without_segment-past places n past =
      sets.same_set delivery_total delivery_exact _ _
      (λ d. has_passed-passed_from places d.0 d.1
      ∙ stays d.0 d.1
      ∙ ap (λ b. b && not (d.0 == n)) (sym (has_passed-passed_from places d.0 d.1))
      ∙ sym (has_passed-without_segment (passed_from 0 places) n d.0 d.1))
    where
      stays : (m : ℕ) (k : List ℕ) → place_has (get_or places m None) k ≡ (place_has (get_or places m None) k && not (m == n))
      stays m k =
          elim (cases_eq m n) [
            | inl e ↦
                let same : (m == n) ≡ true = eq-eqb m n e in
                let none : place_has (get_or places m None) k ≡ false = ap (λ p. place_has p k) (get_or_past places m None (omega arith)) in
                none ∙ (λ i. sym none i && not (sym same i))
            | inr d ↦
                let differ : (m == n) ≡ false = ne_eqb m n d in
                sym (and_all (place_has (get_or places m None) k)) ∙ (λ i. place_has (get_or places m None) k && not (sym differ i))
          ]

-- a place inside of a list has what it has, whatever stands for places that aren't
inside_any : {A : Type 0} (xs : List A) (i : ℕ) (d e : A) → i < length xs → get_or xs i d ≡ get_or xs i e
inside_any [] i d e h = absurd (omega arith)
inside_any (x ∷ xs) zero d e h = refl
inside_any (x ∷ xs) (suc i) d e h = inside_any xs i d e (omega arith)

-- what is read at a place is what the place has
pub read_at : {S : Type 0} (places : List (Option (IndexSet (List ℕ) S))) (n : ℕ) (place : Option (IndexSet (List ℕ) S)) → n < length places →
    place ≡ get_or places n place → place ≡ get_or places n None
read_at places n place inside at = at ∙ inside_any places n place None inside

-- the keys that were taken out of a place are those that it had
pub taken : {S : Type 0} (places : List (Option (IndexSet (List ℕ) S))) (n : ℕ) (place : Option (IndexSet (List ℕ) S)) (keys fresh : IndexSet (List ℕ) S) → n < length places →
    place ≡ get_or places n place → keys ≡ unwrap_or place fresh → fresh.keys ≡ [] → (k : List ℕ) → has_key keys k ≡ place_has (get_or places n None) k
taken {S} places n place keys fresh inside at is none k =
    ap (λ (x : IndexSet (List ℕ) S). has_key x k) is ∙ opened place ∙ ap (λ p. place_has p k) (read_at places n place inside at)
  where
    opened : (p : Option (IndexSet (List ℕ) S)) → has_key (unwrap_or p fresh) k ≡ place_has p k
    opened None = ap (list_any (same_bytes k)) none
    opened (Some had) = refl

-- a set that takes in a key has what it had, and that key
pub has_more : (j k : List ℕ) (had : Bool) → cond (same_bytes j k) true had ≡ (had || same_bytes k j)
has_more j k had = ap (λ b. cond b true had) (nat_list_eq_equiv.symm j k) ∙ taken_in (same_bytes k j) had
  where
    taken_in : (a b : Bool) → cond a true b ≡ (b || a)
    taken_in true true = refl
    taken_in true false = refl
    taken_in false true = refl
    taken_in false false = refl

-- of three tests, whichever two stand in one bracket
pub or_assoc : (a b c : Bool) → ((a || b) || c) ≡ (a || (b || c))
or_assoc true b c = refl
or_assoc false b c = refl

-- a key that has passed passes again without a change
pub with_key-known : (passed : Passed) (n : ℕ) (j : List ℕ) → has_passed passed n j ≡ true → with_key passed n j ≡ passed
with_key-known passed n j h =
    sets.same_set delivery_total delivery_exact _ _
    (λ d. sets.contains-insert delivery_total passed (n, j) d ∙ known (eq_by_cmp delivery_cmp d (n, j)) (sets.contains passed d) (λ e. ap (sets.contains passed) (delivery_exact d (n, j) ((Equal-is (delivery_cmp d (n, j))).0 e)) ∙ h))
  where
    known : (a b : Bool) → (a ≡ true → b ≡ true) → (a || b) ≡ b
    known true b f = sym (f refl)
    known false b f = refl

-- what holds in any case holds where there is an error
pub OnErr-all : {T E P : Type 0} (r : Result T E) → P → OnErr r P
OnErr-all (Ok x) p = tt
OnErr-all (Err e) p = p

-- a copied place has the keys of the place
abbrev pub HasSameKeys : {S : Type 0} → Option (IndexSet (List ℕ) S) → Option (IndexSet (List ℕ) S) → Type 0
HasSameKeys place copied = (k : List ℕ) → place_has copied k ≡ place_has place k

-- places that are copied one by one say the same
pub passed_from-copied : {S : Type 0} (places copied : List (Option (IndexSet (List ℕ) S))) → AllZip HasSameKeys places copied → passed_from 0 copied ≡ passed_from 0 places
passed_from-copied {S} places copied all =
    sets.same_set delivery_total delivery_exact _ _
    (λ d. has_passed-passed_from copied d.0 d.1 ∙ at_each d.0 d.1 places copied all ∙ sym (has_passed-passed_from places d.0 d.1))
  where
    at_each : (m : ℕ) (k : List ℕ) (ps qs : List (Option (IndexSet (List ℕ) S))) → AllZip HasSameKeys ps qs → place_has (get_or qs m None) k ≡ place_has (get_or ps m None) k
    at_each m k [] [] a = refl
    at_each m k [] (q ∷ qs) a = absurd a
    at_each m k (p ∷ ps) [] a = absurd a
    at_each zero k (p ∷ ps) (q ∷ qs) a = a.0 k
    at_each (suc m) k (p ∷ ps) (q ∷ qs) a = at_each m k ps qs a.1

-- one more place is copied
pub copied_more : {S : Type 0} (places before after : List (Option (IndexSet (List ℕ) S))) (i : ℕ) (place copied : Option (IndexSet (List ℕ) S)) → i < length places →
    place ≡ get_or places i place → AllZip HasSameKeys (take i places) before → HasSameKeys place copied → after ≡ before ++ copied ∷ [] → AllZip HasSameKeys (take (i + 1) places) after
copied_more {S} places before after i place copied inside at so_far same grown =
    let pushed : AllZip HasSameKeys (take i places ++ place ∷ []) (before ++ copied ∷ []) = AllZip-push HasSameKeys (take i places) before place copied so_far same in
    let front : take (i + 1) places ≡ take i places ++ place ∷ [] = take_more places i place inside ∙ ap (λ p. take i places ++ p ∷ []) (sym at) in
    subst (λ xs. AllZip HasSameKeys xs after) (sym front) (subst (λ ys. AllZip HasSameKeys (take i places ++ place ∷ []) ys) (sym grown) pushed)

-- where all places are copied, the copy says the same
pub passed_from-all_copied : {S : Type 0} (places all copied : List (Option (IndexSet (List ℕ) S))) (i : ℕ) → all ≡ places → length all ≤ i → AllZip HasSameKeys (take i all) copied →
    passed_from 0 copied ≡ passed_from 0 places
passed_from-all_copied {S} places all copied i same past so_far =
    passed_from-copied all copied (subst (λ xs. AllZip HasSameKeys xs copied) (take_all i all past) so_far) ∙ ap (passed_from 0) same
