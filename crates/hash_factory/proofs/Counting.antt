-- Counts over the segments so far.
use Rattle.std.proofs.Common.{◌≡◌, ℕ, suc, zero, ◌+◌, ◌<◌, ◌≤◌, Bool, true, false, cond, ◌||◌, List, [], ◌∷◌, length, take, drop, get_or, arith, refl, sym, ap, ◌∙◌}
use Rattle.topology_phase.specs.Owners.{Hash, among, owners_at}
use Rattle.std.specs.Cmp.{nat_eq_equiv}
use Rattle.hash_factory.specs.Least.{moved, same_primary, is_led_by, seated, keeps, one_less, first_short}
use Rattle.std.proofs.Math.Seq.{drop-cons}
use Rattle.std.specs.Prelude.{min, slice_index}

-- one segment more has moved, or hasn't
pub moved_more : (hash others : Hash) (s : ℕ) → s < length hash → s < length others
    → moved (take (s + 1) hash) (take (s + 1) others) ≡ moved (take s hash) (take s others) + cond (same_primary (owners_at hash s) (owners_at others s)) 0 1
moved_more [] others s h k = absurd (omega arith)
moved_more (owners ∷ hash) [] s h k = absurd (omega arith)
moved_more (owners ∷ hash) (other ∷ others) zero h k = omega arith
moved_more (owners ∷ hash) (other ∷ others) (suc s) h k =
    ap (λ n. moved (take n (owners ∷ hash)) (take n (other ∷ others))) (let e : suc s + 1 ≡ suc (s + 1) = omega arith in e)
    ∙ ap (λ n. cond (same_primary owners other) 0 1 + n) (moved_more hash others s (omega arith) (omega arith))
    ∙ (let e : cond (same_primary owners other) 0 1 + (moved (take s hash) (take s others) + cond (same_primary (owners_at hash s) (owners_at others s)) 0 1)
    ≡ (cond (same_primary owners other) 0 1 + moved (take s hash) (take s others)) + cond (same_primary (owners_at hash s) (owners_at others s)) 0 1 = omega arith in e)

-- a segment with the same primary leaves the count
pub moved_more_same : (hash others : Hash) (s : ℕ) → s < length hash → s < length others → same_primary (owners_at hash s) (owners_at others s) ≡ true
    → moved (take (s + 1) hash) (take (s + 1) others) ≡ moved (take s hash) (take s others)
moved_more_same hash others s h k same = omega (arith, moved_more hash others s h k, ap {B = ℕ} (λ b. cond b 0 1) same)

-- a segment with another primary adds one to it
pub moved_more_other : (hash others : Hash) (s : ℕ) → s < length hash → s < length others → same_primary (owners_at hash s) (owners_at others s) ≡ false
    → moved (take (s + 1) hash) (take (s + 1) others) ≡ moved (take s hash) (take s others) + 1
moved_more_other hash others s h k other = omega (arith, moved_more hash others s h k, ap {B = ℕ} (λ b. cond b 0 1) other)

-- as many of a list as it has are all of it
pub take-all : {X : Type 0} (xs : List X) (n : ℕ) → n ≡ length xs → take n xs ≡ xs
take-all xs n e = ap (λ k. take k xs) e ∙ whole xs
  where
    whole : {X : Type 0} (xs : List X) → take (length xs) xs ≡ xs
    whole [] = refl
    whole (x ∷ xs) = ap (λ ys. x ∷ ys) (whole xs)

-- the segments up to the end of the shorter hash are all that count
pub moved_all : (hash others : Hash) (s : ℕ) → min (length hash) (length others) ≤ s → moved (take s hash) (take s others) ≡ moved hash others
moved_all [] others zero h = refl
moved_all [] others (suc s) h = refl
moved_all (owners ∷ hash) [] zero h = refl
moved_all (owners ∷ hash) [] (suc s) h = refl
moved_all (owners ∷ hash) (other ∷ others) zero h = absurd (omega arith)
moved_all (owners ∷ hash) (other ∷ others) (suc s) h = ap (λ n. cond (same_primary owners other) 0 1 + n) (moved_all hash others s (omega arith))

-- a first owner among the live nodes leads
pub led_among : (live owners : List ℕ) (n : ℕ) → is_led_by live (n ∷ owners) ≡ among n live
led_among [] owners n = refl
led_among (x ∷ xs) owners n = λ i. nat_eq_equiv.symm n x i || led_among xs owners n i

-- nobody leads a segment without owners
pub none_led : (live : List ℕ) → is_led_by live [] ≡ false
none_led [] = refl
none_led (x ∷ xs) = none_led xs

-- an element that is there is the same, whatever stands for those that aren't
pub get_or-any : {X : Type 0} (xs : List X) (k : ℕ) (d e : X) → k < length xs → get_or xs k d ≡ get_or xs k e
get_or-any [] k d e h = absurd (omega arith)
get_or-any (x ∷ xs) zero d e h = refl
get_or-any (x ∷ xs) (suc k) d e h = get_or-any xs k d e (omega arith)

-- one more segment is seated, and after the last one none
pub seated_more : (live : List ℕ) (row : ℕ → List ℕ → List ℕ) (room short : ℕ → ℕ) (hash : Hash) (s : ℕ) → s < length hash
    → seated live row room short (drop s hash) ≡ cond (keeps room (owners_at hash s))
    (row (slice_index (owners_at hash s) 0) (owners_at hash s) ∷ seated live row (one_less room (slice_index (owners_at hash s) 0)) short (drop (s + 1) hash))
    (row (first_short live short) (owners_at hash s) ∷ seated live row room (one_less short (first_short live short)) (drop (s + 1) hash))
seated_more live row room short hash s h =
    ap (seated live row room short) (drop-cons hash s [] h ∙ ap (λ k. owners_at hash s ∷ drop k hash) (let e : suc s ≡ s + 1 = omega arith in e))

-- behind the last segment nothing is seated
pub seated_at_end : (live : List ℕ) (row : ℕ → List ℕ → List ℕ) (room short : ℕ → ℕ) (hash : Hash) (s : ℕ) → length hash ≤ s → seated live row room short (drop s hash) ≡ []
seated_at_end live row room short hash s h = ap (seated live row room short) (drop_past hash s h)
  where
    drop_past : (hash : Hash) (s : ℕ) → length hash ≤ s → drop s hash ≡ []
    drop_past [] zero h = refl
    drop_past [] (suc s) h = refl
    drop_past (x ∷ xs) zero h = absurd (omega arith)
    drop_past (x ∷ xs) (suc s) h = drop_past xs s (omega arith)

-- the segment that is seated next, by the node that is to lead it and what is left then
pub seated_next : (live : List ℕ) (row : ℕ → List ℕ → List ℕ) (room short room_left short_left : ℕ → ℕ) (rest : Hash) (owners : List ℕ) (b : Bool) (p q leader : ℕ)
    → leader ≡ cond b p q → ((n : ℕ) → room_left n ≡ cond b (one_less room p n) (room n)) → ((n : ℕ) → short_left n ≡ cond b (short n) (one_less short q n))
    → cond b (row p owners ∷ seated live row (one_less room p) short rest) (row q owners ∷ seated live row room (one_less short q) rest)
    ≡ row leader owners ∷ seated live row room_left short_left rest
seated_next live row room short room_left short_left rest owners true p q leader e f g = λ i. row (sym e i) owners ∷ seated live row (λ n. sym (f n) i) (λ n. sym (g n) i) rest
seated_next live row room short room_left short_left rest owners false p q leader e f g = λ i. row (sym e i) owners ∷ seated live row (λ n. sym (f n) i) (λ n. sym (g n) i) rest
