-- No two orders of a script make one call.
use Rattle.std.proofs.Common.{◌≡◌, ℕ, zero, suc, ◌==◌, Bool, true, false, not, ◌||◌, List, [], ◌∷◌, ◌++◌, slice_get, Some, refl, sym, ap, subst, ◌∙◌, if◌then◌else◌}
use Rattle.std.proofs.lemmas.Bool.{eqb-true, true≢false}
use Rattle.std.specs.Prelude.{Ok}
use Rattle.std.specs.Cmp.{nat_cmp_total}
use Rattle.std.specs.FinSet as set
use Rattle.std.specs.Ordering.{nat_cmp, eq_by_cmp}
use Rattle.grid_base.specs.Nodes.{alike}
use Rattle.grid_event.specs.declared.request.Request.{Request}
use Rattle.grid_script.specs.Sets.{Calls}
use Rattle.grid_script.specs.LiveRules.{AreNew, IsNew, calls_behind, calls_with, deeds_of}
use Rattle.grid_script.specs.Judging.{needs}
use Rattle.grid_script.specs.Rules.{needs_new}
use Rattle.grid_script.specs.declared.reason.Reason.TheVariants.{CallTwice}
use Rattle.grid_script.specs.declared.deed.Deed.{Deed}
use Rattle.grid_script.specs.declared.deed.Deed.TheVariants as deed
use Rattle.grid_script.specs.declared.session.Session.{Session}
use Rattle.live_run.specs.Serving.{orders_in}

-- a call that was made stays made
stays_made : (calls : Calls) (d : Deed) (c : ℕ) → set.contains calls c ≡ true → set.contains (calls_with calls d) c ≡ true
stays_made calls (deed.Put it) c h = h
stays_made calls (deed.Erase key) c h = h
stays_made calls (deed.Call call request) c h =
    set.contains-insert nat_cmp_total calls call c ∙ ap (λ b. eq_by_cmp nat_cmp c call || b) h ∙ or_true (eq_by_cmp nat_cmp c call)
  where
    or_true : (b : Bool) → (b || true) ≡ true
    or_true true = refl
    or_true false = refl

all_made : (calls : Calls) (ds : List Deed) (c : ℕ) → set.contains calls c ≡ true → set.contains (calls_behind calls ds) c ≡ true
all_made calls [] c h = h
all_made calls (d ∷ ds) c h = all_made (calls_with calls d) ds c (stays_made calls d c h)

-- a call that a deed makes is made behind it
just_made : (calls : Calls) (c : ℕ) (r : Request) → set.contains (calls_with calls (deed.Call c r)) c ≡ true
just_made calls c r = set.contains-insert nat_cmp_total calls c c ∙ ap (λ b. b || set.contains calls c) (alike c)

made_by : (calls : Calls) (ds : List Deed) (m c : ℕ) (r : Request) → slice_get ds m ≡ Some (deed.Call c r) → set.contains (calls_behind calls ds) c ≡ true
made_by calls [] m c r h = absurd (cc)
made_by calls (d ∷ ds) zero c r h =
    let e : d ≡ deed.Call c r = cc in
    all_made (calls_with calls d) ds c (ap (λ x. set.contains (calls_with calls x) c) e ∙ just_made calls c r)
made_by calls (d ∷ ds) (suc m) c r h = made_by (calls_with calls d) ds m c r h

-- a call that was made is not made again
new_one : (calls : Calls) (c : ℕ) → needs_new calls c ≡ Ok tt → set.contains calls c ≡ true → ⊥
new_one calls c h made = by_test (set.contains calls c) made h
  where
    by_test : (b : Bool) → b ≡ true → needs (not b) CallTwice ≡ Ok tt → ⊥
    by_test true e h = cc
    by_test false e h = true≢false (sym e)

not_again : (calls : Calls) (ds : List Deed) (m c : ℕ) (r : Request) → AreNew calls ds → set.contains calls c ≡ true → slice_get ds m ≡ Some (deed.Call c r) → ⊥
not_again calls [] m c r new made h = cc
not_again calls (d ∷ ds) zero c r new made h =
    let e : d ≡ deed.Call c r = cc in new_one calls c (subst (IsNew calls) e new.0) made
not_again calls (d ∷ ds) (suc m) c r new made h = not_again (calls_with calls d) ds m c r new.1 (stays_made calls d c made) h

-- behind some deeds the others are new
behind_new : (calls : Calls) (xs ys : List Deed) → AreNew calls (xs ++ ys) → AreNew (calls_behind calls xs) ys
behind_new calls [] ys new = new
behind_new calls (x ∷ xs) ys new = behind_new (calls_with calls x) xs ys new.1

-- of a row of deeds no two make one call
one_place : (calls : Calls) (xs ys : List Deed) (m i c : ℕ) (r s : Request) → AreNew calls (xs ++ ys) → slice_get xs m ≡ Some (deed.Call c r) → slice_get xs i ≡ Some (deed.Call c s) → m ≡ i
one_place calls [] ys m i c r s new g h = absurd (cc)
one_place calls (x ∷ xs) ys zero zero c r s new g h = refl
one_place calls (x ∷ xs) ys zero (suc i) c r s new g h =
    let e : x ≡ deed.Call c r = cc in
    absurd (not_again (calls_with calls x) (xs ++ ys) i c s new.1 (ap (λ d. set.contains (calls_with calls d) c) e ∙ just_made calls c r) (in_front xs ys i (deed.Call c s) h))
  where
    in_front : (xs ys : List Deed) (i : ℕ) (d : Deed) → slice_get xs i ≡ Some d → slice_get (xs ++ ys) i ≡ Some d
    in_front [] ys i d h = absurd (cc)
    in_front (x ∷ xs) ys zero d h = h
    in_front (x ∷ xs) ys (suc i) d h = in_front xs ys i d h
one_place calls (x ∷ xs) ys (suc m) zero c r s new g h =
    let e : x ≡ deed.Call c s = cc in
    absurd (not_again (calls_with calls x) (xs ++ ys) m c r new.1 (ap (λ d. set.contains (calls_with calls d) c) e ∙ just_made calls c s) (in_front xs ys m (deed.Call c r) g))
  where
    in_front : (xs ys : List Deed) (i : ℕ) (d : Deed) → slice_get xs i ≡ Some d → slice_get (xs ++ ys) i ≡ Some d
    in_front [] ys i d h = absurd (cc)
    in_front (x ∷ xs) ys zero d h = h
    in_front (x ∷ xs) ys (suc i) d h = in_front xs ys i d h
one_place calls (x ∷ xs) ys (suc m) (suc i) c r s new g h = ap suc (one_place (calls_with calls x) xs ys m i c r s new.1 g h)

-- the order of some session among those of all
pub found_in : (sessions : List Session) (k m : ℕ) (d : Deed) → slice_get (orders_in sessions k) m ≡ Some d → (p : ℕ) × (slice_get (deeds_of sessions) p ≡ Some d)
found_in [] k m d h = absurd (cc)
found_in (session ∷ sessions) k m d h = by_number (session.number == k) h (λ g. found_in sessions k m d g)
  where
    front : (xs ys : List Deed) (i : ℕ) → slice_get xs i ≡ Some d → slice_get (xs ++ ys) i ≡ Some d
    front [] ys i h = absurd (cc)
    front (x ∷ xs) ys zero h = h
    front (x ∷ xs) ys (suc i) h = front xs ys i h

    further : (xs ys : List Deed) (p : ℕ) → slice_get ys p ≡ Some d → (q : ℕ) × (slice_get (xs ++ ys) q ≡ Some d)
    further [] ys p h = (p, h)
    further (x ∷ xs) ys p h = let one = further xs ys p h in (suc one.0, one.1)

    by_number : (b : Bool) → slice_get (if b then session.orders else orders_in sessions k) m ≡ Some d → (slice_get (orders_in sessions k) m ≡ Some d → (p : ℕ) × (slice_get (deeds_of sessions) p ≡ Some d)) → (p : ℕ) × (slice_get (session.orders ++ deeds_of sessions) p ≡ Some d)
    by_number true h rest = (m, front session.orders (deeds_of sessions) m h)
    by_number false h rest = let one = rest h in further session.orders (deeds_of sessions) one.0 one.1

-- two orders that make one call are one order
pub calls_differ : (sessions : List Session) (calls : Calls) (j k m i c : ℕ) (r s : Request) → AreNew calls (deeds_of sessions) →
    slice_get (orders_in sessions j) m ≡ Some (deed.Call c r) → slice_get (orders_in sessions k) i ≡ Some (deed.Call c s) → (j ≡ k) × (m ≡ i)
calls_differ [] calls j k m i c r s new g h = absurd (cc)
calls_differ (session ∷ sessions) calls j k m i c r s new g h =
    by_numbers (session.number == j) (session.number == k) refl refl g h (λ g h. calls_differ sessions (calls_behind calls session.orders) j k m i c r s (behind_new calls session.orders (deeds_of sessions) new) g h)
  where
    here_and_behind : (n p : ℕ) (q t : Request) → slice_get session.orders n ≡ Some (deed.Call c q) → slice_get (deeds_of sessions) p ≡ Some (deed.Call c t) → ⊥
    here_and_behind n p q t g h = not_again (calls_behind calls session.orders) (deeds_of sessions) p c t (behind_new calls session.orders (deeds_of sessions) new) (made_by calls session.orders n c q g) h

    by_numbers : (a b : Bool) → (session.number == j) ≡ a → (session.number == k) ≡ b → slice_get (if a then session.orders else orders_in sessions j) m ≡ Some (deed.Call c r) → slice_get (if b then session.orders else orders_in sessions k) i ≡ Some (deed.Call c s) →
        (slice_get (orders_in sessions j) m ≡ Some (deed.Call c r) → slice_get (orders_in sessions k) i ≡ Some (deed.Call c s) → (j ≡ k) × (m ≡ i)) → (j ≡ k) × (m ≡ i)
    by_numbers true true e f g h rest = (sym (eqb-true session.number j e) ∙ eqb-true session.number k f, one_place calls session.orders (deeds_of sessions) m i c r s new g h)
    by_numbers true false e f g h rest = let one = found_in sessions k i (deed.Call c s) h in absurd (here_and_behind m one.0 r s g one.1)
    by_numbers false true e f g h rest = let one = found_in sessions j m (deed.Call c r) g in absurd (here_and_behind i one.0 s r h one.1)
    by_numbers false false e f g h rest = rest g h
