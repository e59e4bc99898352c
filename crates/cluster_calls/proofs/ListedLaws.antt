-- Which units are registered where: after a unit is changed, and after a round.
use Rattle.std.proofs.Common.{◌≡◌, ◌≢◌, ℕ, zero, suc, ◌+◌, ◌≤◌, ◌<◌, Bool, true, false, not, cond, ◌&&◌, ◌||◌, ◌==◌, List, [], ◌∷◌, ◌++◌, drop, map, length, length-append, Option, Some, None, is_some, refl, sym, ap, subst, ◌∙◌, arith, add-one, Result, Ok, Err, OnErr, is_err, is_ok, if◌then◌else◌}
use Rattle.std.proofs.lemmas.Bool.Decides.{nat_tests}
use Rattle.std.proofs.lemmas.List.{append_assoc}
use Rattle.std.specs.Cmp.{nat_cmp_total}
use Rattle.std.specs.FinMap as map_of
use Rattle.std.specs.FinMap.{nat_cmp-IsAntisymmetric}
use Rattle.std.specs.FinSet as set_of
use Rattle.std.specs.List.{list_any, range_with_len}
use Rattle.std.specs.List.Sorted.{IsStrictlySortedBy}
use Rattle.std.specs.Option.{option_map_or}
use Rattle.std.specs.Ordering.{nat_cmp}
use Rattle.std.specs.Prelude.{slice_get, slice_set}
use Rattle.grid_event.specs.declared.call_events.Ask.{Ask}
use Rattle.loss_listener.specs.Registered.{Registered, is_lost}
use Rattle.loss_listener.specs.declared.place.Place.{Place}
use Rattle.topology_phase.specs.Owners.{among}
use Rattle.cluster_model.specs.Calls.{unit_made}
use Rattle.cluster_model.specs.State.{Unit, is_open_unit, is_running}
use Rattle.cluster_calls.specs.Calling.{ceases_at}
use Rattle.cluster_calls.specs.Listed.{AreListed, AreRegistered, are_new, asked_place, is_open_at, leaves, open_place, place_at, place_by, with_asked, without_asked}
use Rattle.cluster_calls.proofs.BothLaws.{and_left, and_right}
use Rattle.cluster_calls.proofs.CallsLaws.{running_open}
use Rattle.cluster_calls.proofs.ListLaws.{any_at, get-set_at, get-set_other, not_some, same_some, within_get}
use Rattle.cluster_calls.proofs.RightLaws.{both_true}
use Rattle.cluster_calls.proofs.RowTables.{equal, tied}

-- what is registered once a unit is registered, and once one is taken out
pub get-put_in : (registered : Registered) (unit : ℕ) (place : Place) (n : ℕ) → map_of.get (map_of.insert registered unit place) n ≡ cond (n == unit) (Some place) (map_of.get registered n)
get-put_in registered unit place n = map_of.get-insert nat_cmp_total registered unit place n ∙ ap (λ b. cond b (Some place) (map_of.get registered n)) (tied n unit)

-- a unit that is taken out is registered nowhere, and any other where it was
pub get-taken_out : (registered : Registered) (unit n : ℕ) → map_of.get (map_of.remove registered unit) n ≡ cond (n == unit) None (map_of.get registered n)
get-taken_out registered unit n = map_of.get-remove nat_cmp_total registered unit n ∙ ap (λ b. cond b None (map_of.get registered n)) (tied n unit)

-- where a unit is changed in place, another one stays where it was
place-set : (units : List Unit) (i : ℕ) (u v : Unit) → slice_get units i ≡ Some u → open_place v ≡ open_place u → (n : ℕ) → place_at (slice_set units i v) n ≡ place_at units n
place-set units i u v at same zero = refl
place-set units i u v at same (suc j) =
    elim (j == i) as (λ b. (j == i) ≡ b → place_by (slice_get (slice_set units i v) j) ≡ place_by (slice_get units j)) [
      | true ↦ λ tie.
          let here = equal j i tie in
          ap (λ k. place_by (slice_get (slice_set units i v) k)) here
          ∙ ap place_by (get-set_at units i v (within_get units i u at))
          ∙ same
          ∙ sym (ap place_by at)
          ∙ ap (λ k. place_by (slice_get units k)) (sym here)
      | false ↦ λ apart. ap place_by (get-set_other units i j v (λ e. absurd (grind (arith, nat_tests))))
    ] refl

-- a unit is changed that is open as before, at its node and on its segment
pub registered_same : (units : List Unit) (registered : Registered) (i : ℕ) (u v : Unit) → AreRegistered units registered → slice_get units i ≡ Some u → open_place v ≡ open_place u
    → AreRegistered (slice_set units i v) registered
registered_same units registered i u v kept at same n = kept n ∙ sym (place-set units i u v at same n)

-- a unit is closed, and taken out
pub registered_closed : (units : List Unit) (registered : Registered) (i : ℕ) (u v : Unit) (number : ℕ) → AreRegistered units registered → slice_get units i ≡ Some u → number ≡ i + 1
    → is_open_unit v ≡ false → AreRegistered (slice_set units i v) (map_of.remove registered number)
registered_closed units registered i u v number kept at is closed n = get-taken_out registered number n ∙ by n
  where
    none : (b : Bool) (o : Option Place) → o ≡ None → cond b None o ≡ None
    none true o h = refl
    none false o h = h

    by : (m : ℕ) → cond (m == number) None (map_of.get registered m) ≡ place_at (slice_set units i v) m
    by zero = none (0 == number) (map_of.get registered 0) (kept 0)
    by (suc j) =
        elim (j == i) as (λ b. (j == i) ≡ b → cond (suc j == number) None (map_of.get registered (suc j)) ≡ place_by (slice_get (slice_set units i v) j)) [
          | true ↦ λ tie.
              let here = equal j i tie in
              let same : (suc j == number) ≡ true = grind (arith, nat_tests) in
              ap (λ b. cond b None (map_of.get registered (suc j))) same
              ∙ sym (ap (λ b. cond b (Some (record { node = v.work.node; segment = v.work.segment })) None) closed)
              ∙ sym (ap place_by (get-set_at units i v (within_get units i u at)))
              ∙ ap (λ k. place_by (slice_get (slice_set units i v) k)) (sym here)
          | false ↦ λ apart.
              let other : (suc j == number) ≡ false = grind (arith, nat_tests) in
              ap (λ b. cond b None (map_of.get registered (suc j))) other
              ∙ kept (suc j)
              ∙ ap place_by (sym (get-set_other units i j v (λ e. absurd (grind (arith, nat_tests)))))
        ] refl

-- no unit, none registered
pub registered_none : (units : List Unit) (registered : Registered) → units ≡ [] → registered ≡ map_of.empty → AreRegistered units registered
registered_none units registered none empty n = ap (λ (m : Registered). map_of.get m n) empty ∙ map_of.get-empty nat_cmp n ∙ by n ∙ ap (λ us. place_at us n) (sym none)
  where
    by : (m : ℕ) → None ≡ place_at [] m
    by zero = refl
    by (suc j) = refl

-- the last unit of a list, and those before it
get-push_last : (units : List Unit) (v : Unit) → slice_get (units ++ v ∷ []) (length units) ≡ Some v
get-push_last [] v = refl
get-push_last (u ∷ units) v = get-push_last units v

-- a list that grows has the same at every other place
get-push_other : (units : List Unit) (v : Unit) (j : ℕ) → j ≢ length units → slice_get (units ++ v ∷ []) j ≡ slice_get units j
get-push_other [] v zero apart = absurd (apart refl)
get-push_other [] v (suc j) apart = refl
get-push_other (u ∷ units) v zero apart = refl
get-push_other (u ∷ units) v (suc j) apart = get-push_other units v j (λ e. apart (ap suc e))

-- one more unit, which is open, is registered
registered_push : (units : List Unit) (registered : Registered) (v : Unit) (number : ℕ) (place : Place) → AreRegistered units registered → number ≡ length units + 1 → open_place v ≡ Some place
    → AreRegistered (units ++ v ∷ []) (map_of.insert registered number place)
registered_push units registered v number place kept is open_ n = get-put_in registered number place n ∙ by n
  where
    by : (m : ℕ) → cond (m == number) (Some place) (map_of.get registered m) ≡ place_at (units ++ v ∷ []) m
    by zero = let other : (0 == number) ≡ false = grind (arith, nat_tests) in ap (λ b. cond b (Some place) (map_of.get registered 0)) other ∙ kept 0
    by (suc j) =
        elim (j == length units) as (λ b. (j == length units) ≡ b → cond (suc j == number) (Some place) (map_of.get registered (suc j)) ≡ place_by (slice_get (units ++ v ∷ []) j)) [
          | true ↦ λ tie.
              let here = equal j (length units) tie in
              let same : (suc j == number) ≡ true = grind (arith, nat_tests) in
              ap (λ b. cond b (Some place) (map_of.get registered (suc j))) same
              ∙ sym open_
              ∙ sym (ap place_by (get-push_last units v))
              ∙ ap (λ k. place_by (slice_get (units ++ v ∷ []) k)) (sym here)
          | false ↦ λ apart.
              let other : (suc j == number) ≡ false = grind (arith, nat_tests) in
              ap (λ b. cond b (Some place) (map_of.get registered (suc j))) other
              ∙ kept (suc j)
              ∙ ap place_by (sym (get-push_other units v j (λ e. absurd (grind (arith, nat_tests)))))
        ] refl

-- asks that number units on from the first one
head_number : (ask : Ask) (asks : List Ask) (start : ℕ) → map (λ (a : Ask). a.unit) (ask ∷ asks) ≡ range_with_len start (length (ask ∷ asks)) → ask.unit ≡ start
head_number ask asks start h = same_some ask.unit start (ap (λ ns. slice_get ns 0) h)

-- a list without its first element
abbrev tail_of : List ℕ → List ℕ
tail_of [] = []
tail_of (n ∷ ns) = ns

-- the units of the asks behind the first are numbered from the next number on
tail_numbers : (ask : Ask) (asks : List Ask) (start : ℕ) → map (λ (a : Ask). a.unit) (ask ∷ asks) ≡ range_with_len start (length (ask ∷ asks)) → map (λ (a : Ask). a.unit) asks ≡ range_with_len (start + 1) (length asks)
tail_numbers ask asks start h = ap tail_of h

-- a list that grows has one element more
pushed_length : (units : List Unit) (v : Unit) → length (units ++ v ∷ []) ≡ length units + 1
pushed_length units v = length-append units (v ∷ [])

-- no unit has a number past the last one
none_past : (units : List Unit) (n : ℕ) → n ≡ length units + 1 → place_at units n ≡ None
none_past units zero e = refl
none_past units (suc j) e = by units j (omega (arith, e))
  where
    by : (us : List Unit) (k : ℕ) → k ≡ length us → place_by (slice_get us k) ≡ None
    by [] k h = refl
    by (u ∷ us) zero h = absurd (omega (arith, h))
    by (u ∷ us) (suc k) h = by us k (omega (arith, h))

-- the units of a round are new
pub asks_new : (units : List Unit) (registered : Registered) (number id : ℕ) (asks : List Ask) → AreRegistered units registered
    → map (λ (a : Ask). a.unit) asks ≡ range_with_len (length units + 1) (length asks) → are_new registered asks ≡ true
asks_new units registered number id [] kept h = refl
asks_new units registered number id (ask ∷ asks) kept h =
    let first = head_number ask asks (length units + 1) h in
    let made = unit_made number id ask in
    both_true (not (map_of.contains_key registered ask.unit)) (are_new (map_of.insert registered ask.unit (asked_place ask)) asks)
    (ap (λ (o : Option Place). not (is_some o)) (kept ask.unit ∙ none_past units ask.unit first))
    (asks_new (units ++ made ∷ []) (map_of.insert registered ask.unit (asked_place ask)) number id asks
    (registered_push units registered made ask.unit (asked_place ask) kept first refl)
    (tail_numbers ask asks (length units + 1) h ∙ ap (λ n. range_with_len (n + 1) (length asks)) (sym (pushed_length units made))))

-- and registered then
pub registered_asks : (units : List Unit) (registered : Registered) (number id : ℕ) (asks : List Ask) → AreRegistered units registered
    → map (λ (a : Ask). a.unit) asks ≡ range_with_len (length units + 1) (length asks) → AreRegistered (units ++ map (unit_made number id) asks) (with_asked registered asks)
registered_asks units registered number id [] kept h = subst (λ (us : List Unit). AreRegistered us registered) (sym (all_of units)) kept
  where
    all_of : (us : List Unit) → us ++ [] ≡ us
    all_of [] = refl
    all_of (u ∷ us) = ap (λ vs. u ∷ vs) (all_of us)
registered_asks units registered number id (ask ∷ asks) kept h =
    let first = head_number ask asks (length units + 1) h in
    let made = unit_made number id ask in
    let next = map_of.insert registered ask.unit (asked_place ask) in
    subst (λ (us : List Unit). AreRegistered us (with_asked next asks)) (append_assoc units (made ∷ []) (map (unit_made number id) asks))
    (registered_asks (units ++ made ∷ []) next number id asks
    (registered_push units registered made ask.unit (asked_place ask) kept first refl)
    (tail_numbers ask asks (length units + 1) h ∙ ap (λ n. range_with_len (n + 1) (length asks)) (sym (pushed_length units made))))

-- what is registered without the asked units
get-without : (registered : Registered) (asks : List Ask) (n : ℕ) → map_of.get (without_asked registered asks) n ≡ cond (among n (map (λ (a : Ask). a.unit) asks)) None (map_of.get registered n)
get-without registered [] n = refl
get-without registered (ask ∷ asks) n =
    get-without (map_of.remove registered ask.unit) asks n
    ∙ ap (λ o. cond (among n (map (λ (a : Ask). a.unit) asks)) None o) (get-taken_out registered ask.unit n)
    ∙ by (among n (map (λ (a : Ask). a.unit) asks)) (n == ask.unit) (ask.unit == n) (map_of.get registered n) (flip n ask.unit)
  where
    flip : (a b : ℕ) → (a == b) ≡ (b == a)
    flip a b = grind (arith, nat_tests)

    by : (b c d : Bool) (o : Option Place) → c ≡ d → cond b None (cond c None o) ≡ cond (d || b) None o
    by b true d o h = ap (λ e. cond b None (cond e None o)) h ∙ whole b ∙ ap (λ e. cond (e || b) None o) h
      where
        whole : (b : Bool) → cond b None (cond d None o) ≡ cond (true || b) None o
        whole true = refl
        whole false = ap (λ e. cond e None o) (sym h)
    by true false d o h = ap (λ e. cond (e || true) None o) h
    by false false d o h = ap (λ e. cond (e || false) None o) h

-- where neither of two tests passes the first doesn't
or_first : (a b : Bool) → (a || b) ≡ false → a ≡ false
or_first true b h = absurd (cc)
or_first false b h = refl

-- nor does the second
or_second : (a b : Bool) → (a || b) ≡ false → b ≡ false
or_second true b h = absurd (cc)
or_second false b h = h

-- a place that isn't there is none
not_there : (o : Option Place) → not (is_some o) ≡ true → o ≡ None
not_there None h = refl
not_there (Some p) h = absurd (cc)

-- units that are new weren't registered
absent : (registered : Registered) (asks : List Ask) (n : ℕ) → are_new registered asks ≡ true → among n (map (λ (a : Ask). a.unit) asks) ≡ true → map_of.get registered n ≡ None
absent registered [] n new_ h = absurd (cc)
absent registered (ask ∷ asks) n new_ h =
    let next = map_of.insert registered ask.unit (asked_place ask) in
    let here = not_there (map_of.get registered ask.unit) (and_left (not (map_of.contains_key registered ask.unit)) (are_new next asks) new_) in
    let rest = and_right (not (map_of.contains_key registered ask.unit)) (are_new next asks) new_ in
    elim (ask.unit == n) as (λ b. (ask.unit == n) ≡ b → (b || among n (map (λ (a : Ask). a.unit) asks)) ≡ true → map_of.get registered n ≡ None) [
      | true ↦ λ tie e. ap (map_of.get registered) (sym (equal ask.unit n tie)) ∙ here
      | false ↦ λ apart e.
          let other : (n == ask.unit) ≡ false = grind (arith, nat_tests) in
          sym (get-put_in registered ask.unit (asked_place ask) n ∙ ap (λ b. cond b (Some (asked_place ask)) (map_of.get registered n)) other)
          ∙ absent next asks n rest e
    ] refl h

-- the asked units are taken out of what has beside them what there was: all is as before
pub undone : (registered after : Registered) (asks : List Ask) → are_new registered asks ≡ true
    → ((n : ℕ) → among n (map (λ (a : Ask). a.unit) asks) ≡ false → map_of.get after n ≡ map_of.get registered n) → without_asked after asks ≡ registered
undone registered after asks new_ others = map_of.same_map nat_cmp_total nat_cmp-IsAntisymmetric _ _ (λ n. get-without after asks n ∙ by n (among n (map (λ (a : Ask). a.unit) asks)) refl)
  where
    by : (n : ℕ) (b : Bool) → among n (map (λ (a : Ask). a.unit) asks) ≡ b → cond b None (map_of.get after n) ≡ map_of.get registered n
    by n true h = sym (absent registered asks n new_ h)
    by n false h = others n h

-- other units stay as they are once the asked ones are registered
pub get-with_other : (registered : Registered) (asks : List Ask) (n : ℕ) → among n (map (λ (a : Ask). a.unit) asks) ≡ false → map_of.get (with_asked registered asks) n ≡ map_of.get registered n
get-with_other registered [] n h = refl
get-with_other registered (ask ∷ asks) n h =
    let apart = or_first (ask.unit == n) (among n (map (λ (a : Ask). a.unit) asks)) h in
    let other : (n == ask.unit) ≡ false = grind (arith, nat_tests) in
    get-with_other (map_of.insert registered ask.unit (asked_place ask)) asks n (or_second (ask.unit == n) (among n (map (λ (a : Ask). a.unit) asks)) h)
    ∙ get-put_in registered ask.unit (asked_place ask) n
    ∙ ap (λ b. cond b (Some (asked_place ask)) (map_of.get registered n)) other

-- the next of the asks
pub drop_more : {X : Type 0} (xs : List X) (k : ℕ) (x : X) → slice_get xs k ≡ Some x → drop k xs ≡ x ∷ drop (k + 1) xs
drop_more {X = X} xs k x at = by xs k at ∙ ap (λ n. x ∷ drop n xs) (sym (add-one k))
  where
    by : (ys : List X) (j : ℕ) → slice_get ys j ≡ Some x → drop j ys ≡ x ∷ drop (suc j) ys
    by [] j h = not_some x h
    by (y ∷ ys) zero h = ap (λ z. z ∷ ys) (same_some y x h)
    by (y ∷ ys) (suc j) h = by ys j h

-- a registered unit is lost where its node loses its segment
abbrev lost_by : ℕ → set_of.FinSet nat_cmp → Option Place → Bool
lost_by node segments o = option_map_or (λ (place : Place). (node == place.node) && set_of.contains segments place.segment) o false

-- nodes are compared either way round
flip_node : (a b : ℕ) → (a == b) ≡ (b == a)
flip_node a b = grind (arith, nat_tests)

-- a unit that is lost there has a number within the list
lost_there : (units : List Unit) (node : ℕ) (segments : set_of.FinSet nat_cmp) (n : ℕ) → lost_by node segments (place_at units n) ≡ true → (1 ≤ n) × (n ≤ length units)
lost_there units node segments zero h = absurd (let e : false ≡ true = h in cc)
lost_there units node segments (suc i) h = by (slice_get units i) refl h
  where
    by : (o : Option Unit) → slice_get units i ≡ o → lost_by node segments (place_by o) ≡ true → (1 ≤ suc i) × (suc i ≤ length units)
    by None at e = absurd (let wrong : false ≡ true = e in cc)
    by (Some u) at e = (omega arith, omega (arith, within_get units i u at))

-- an open unit on a lost segment at the node is lost there
lost_open : (node : ℕ) (segments : set_of.FinSet nat_cmp) (u : Unit) → is_open_at node segments u ≡ true → lost_by node segments (open_place u) ≡ true
lost_open node segments u h =
    let open_ = and_left (is_open_unit u) ((u.work.node == node) && set_of.contains segments u.work.segment) h in
    let rest = and_right (is_open_unit u) ((u.work.node == node) && set_of.contains segments u.work.segment) h in
    ap (λ b. lost_by node segments (cond b (Some (record { node = u.work.node; segment = u.work.segment })) None)) open_
    ∙ ap (λ b. b && set_of.contains segments u.work.segment) (flip_node node u.work.node)
    ∙ rest

-- what is listed of the registered units is listed of the open ones
pub listed_open : (units : List Unit) (registered : Registered) (node : ℕ) (segments : set_of.FinSet nat_cmp) (numbers : List ℕ) → AreRegistered units registered
    → ((n : ℕ) → list_any (λ x. x == n) numbers ≡ is_lost registered node segments n) → IsStrictlySortedBy nat_cmp numbers → AreListed (is_open_at node segments) units numbers
listed_open units registered node segments numbers kept exactly ascending = record {
  there = λ j n at.
      lost_there units node segments n
      (ap (lost_by node segments) (sym (kept n)) ∙ sym (exactly n) ∙ any_at (λ x. x == n) numbers j n at (let e : (n == n) ≡ true = grind (arith, nat_tests) in e));
  ascending = ascending;
  all = λ i u at passes.
      exactly (i + 1)
      ∙ ap (lost_by node segments) (kept (i + 1) ∙ ap (place_at units) (add-one i) ∙ ap place_by at)
      ∙ lost_open node segments u passes;
}

-- those that pass another test are among them too, where each of them passes the first
pub listed_weaker : (p q : Unit → Bool) (units : List Unit) (numbers : List ℕ) → ((i : ℕ) (u : Unit) → slice_get units i ≡ Some u → q u ≡ true → p u ≡ true) → AreListed p units numbers → AreListed q units numbers
listed_weaker p q units numbers weaker listed = record {
  there = listed.there;
  ascending = listed.ascending;
  all = λ i u at passes. listed.all i u at (weaker i u at passes);
}

-- a unit that ceases is open there
pub ceases_open : (node : ℕ) (segments : set_of.FinSet nat_cmp) (u : Unit) → ceases_at node segments u ≡ true → is_open_at node segments u ≡ true
ceases_open node segments u h =
    both_true (is_open_unit u) ((u.work.node == node) && set_of.contains segments u.work.segment)
    (running_open u.work.state (and_left (is_running u.work.state) ((u.work.node == node) && set_of.contains segments u.work.segment) h))
    (and_right (is_running u.work.state) ((u.work.node == node) && set_of.contains segments u.work.segment) h)

-- so is one that leaves, where its segment is one of these
pub leaves_open : (node : ℕ) (segments : set_of.FinSet nat_cmp) (u : Unit) → set_of.contains segments u.work.segment ≡ true → leaves node u ≡ true → is_open_at node segments u ≡ true
leaves_open node segments u inside h =
    both_true (is_open_unit u) ((u.work.node == node) && set_of.contains segments u.work.segment) (and_left (is_open_unit u) (u.work.node == node) h)
    (both_true (u.work.node == node) (set_of.contains segments u.work.segment) (and_right (is_open_unit u) (u.work.node == node) h) inside)

-- where all numbers below one are in a set, and that one is put in, so are all below the next
pub contains_next : (set : set_of.FinSet nat_cmp) (n s : ℕ) → ((t : ℕ) → t < n → set_of.contains set t ≡ true) → s < n + 1 → set_of.contains (set_of.insert set n) s ≡ true
contains_next set n s below l =
    set_of.contains-insert nat_cmp_total set n s
    ∙ ap (λ b. b || set_of.contains set s) (tied s n)
    ∙ elim (s == n) as (λ b. (s == n) ≡ b → (b || set_of.contains set s) ≡ true) [
      | true ↦ λ tie. refl
      | false ↦ λ apart. below s (let less : s < n = grind (arith, nat_tests) in less)
    ] refl

-- the first of the asked units is new
pub new_first : (registered : Registered) (ask : Ask) (asks : List Ask) → are_new registered (ask ∷ asks) ≡ true → map_of.contains_key registered ask.unit ≡ false
new_first registered ask asks h = by (map_of.contains_key registered ask.unit) (and_left (not (map_of.contains_key registered ask.unit)) (are_new (map_of.insert registered ask.unit (asked_place ask)) asks) h)
  where
    by : (b : Bool) → not b ≡ true → b ≡ false
    by true e = absurd (cc)
    by false e = refl

-- and once it is registered so are the others
pub new_rest : (registered : Registered) (ask : Ask) (asks : List Ask) → are_new registered (ask ∷ asks) ≡ true → are_new (map_of.insert registered ask.unit (asked_place ask)) asks ≡ true
new_rest registered ask asks h = and_right (not (map_of.contains_key registered ask.unit)) (are_new (map_of.insert registered ask.unit (asked_place ask)) asks) h

-- an asked unit is among the asked ones
among_asks : (asks : List Ask) (k : ℕ) (ask : Ask) → slice_get asks k ≡ Some ask → among ask.unit (map (λ (a : Ask). a.unit) asks) ≡ true
among_asks [] k ask at = not_some ask at
among_asks (a ∷ asks) zero ask at =
    let same : (a.unit == ask.unit) ≡ true = (let e : a.unit ≡ ask.unit = ap (λ (b : Ask). b.unit) (same_some a ask at) in grind (arith, nat_tests)) in
    ap (λ b. b || among ask.unit (map (λ (b : Ask). b.unit) asks)) same
among_asks (a ∷ asks) (suc k) ask at = ap (λ b. (a.unit == ask.unit) || b) (among_asks asks k ask at) ∙ or_true (a.unit == ask.unit)
  where
    or_true : (b : Bool) → (b || true) ≡ true
    or_true true = refl
    or_true false = refl

-- a unit that isn't asked stays as it is where one that is asked is registered
pub other_ask : (registered : Registered) (asks : List Ask) (k : ℕ) (ask : Ask) (n : ℕ) → slice_get asks k ≡ Some ask → among n (map (λ (a : Ask). a.unit) asks) ≡ false
    → map_of.get (map_of.insert registered ask.unit (asked_place ask)) n ≡ map_of.get registered n
other_ask registered asks k ask n at h =
    get-put_in registered ask.unit (asked_place ask) n
    ∙ elim (n == ask.unit) as (λ b. (n == ask.unit) ≡ b → cond b (Some (asked_place ask)) (map_of.get registered n) ≡ map_of.get registered n) [
      | true ↦ λ tie. absurd (let wrong = sym h ∙ ap (λ m. among m (map (λ (a : Ask). a.unit) asks)) (equal n ask.unit tie) ∙ among_asks asks k ask at in cc)
      | false ↦ λ apart. refl
    ] refl

-- what was registered of the asked units is taken out again
pub undone_all : (registered : Registered) (asks : List Ask) → are_new registered asks ≡ true → without_asked (with_asked registered asks) asks ≡ registered
undone_all registered asks new_ = undone registered (with_asked registered asks) asks new_ (get-with_other registered asks)

-- what holds of a failure holds where there is one
pub on_err : {A E : Type 0} {P : Type 0} (result : Result A E) → is_err result ≡ true → OnErr result P → P
on_err (Ok a) h p = absurd (cc)
on_err (Err e) h p = p

-- what a list is after what was to grow it succeeded, and after it failed
pub grown : {X A E : Type 0} (result : Result A E) (xs ys zs : List X) → is_err result ≡ false → zs ≡ (if is_ok result then xs else ys) → zs ≡ xs
grown (Ok a) xs ys zs h e = e
grown (Err f) xs ys zs h e = absurd (cc)

-- a list that may have grown is as before where there was a fault
pub not_grown : {X A E : Type 0} (result : Result A E) (xs ys zs : List X) → is_err result ≡ true → zs ≡ (if is_ok result then xs else ys) → zs ≡ ys
not_grown (Ok a) xs ys zs h e = absurd (cc)
not_grown (Err f) xs ys zs h e = e
