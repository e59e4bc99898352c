-- What the list of the units' places says of the registered units.
use Rattle.std.proofs.Common.{◌≡◌, ℕ, Bool, true, false, cond, ◌||◌, List, [], ◌∷◌, length, refl, sym, ◌∙◌, ap, Some, None, Option, is_some, arith, nat_cmp}
use Rattle.std.proofs.lemmas.Map.Lookups.{exact_unsigned}
use Rattle.std.specs.BTreeMap.{is_at}
use Rattle.std.specs.Cmp.{nat_cmp_total, eq_by_cmp_equiv, tied_itself}
use Rattle.std.specs.FinMap as map
use Rattle.std.specs.List.{list_any}
use Rattle.std.specs.Map.{lookup}
use Rattle.std.specs.Option.{option_map_or}
use Rattle.std.specs.Ordering.{eq_by_cmp, is_eq}
use Rattle.loss_listener.specs.declared.place.Place.{Place}
use Rattle.loss_listener.specs.Index.{list_has}
use Rattle.loss_listener.specs.Registered.{Registered, is_place, is_registered}

-- the list and its map say the same of a unit
pub get-listed : (es : List (ℕ × Place)) (q : ℕ) → map.get (map.from_entries {R = nat_cmp} es) q ≡ lookup (is_at (nat_cmp q)) es
get-listed es q = map.get-from_entries nat_cmp_total es q ∙ same es
  where
    same : (fs : List (ℕ × Place)) → map.find nat_cmp q fs ≡ lookup (is_at (nat_cmp q)) fs
    same [] = refl
    same (f ∷ fs) = ap (cond (is_at (nat_cmp q) f.0) (Some f.1)) (same fs)

-- a unit is registered at a place exactly where the list has it there
pub is_registered-listed : (es : List (ℕ × Place)) (node segment q : ℕ) → is_registered (map.from_entries es) node segment q ≡ list_has es (record { node = node; segment = segment }) q
is_registered-listed es node segment q = ap (λ o. option_map_or (is_place node segment) o false) (get-listed es q)

-- two numbers tie in either order
pub flipped : (a b : ℕ) → is_at (nat_cmp a) b ≡ eq_by_cmp nat_cmp b a
flipped a b = (eq_by_cmp_equiv nat_cmp_total).symm a b

-- a unit that comes into the list is registered
pub insert-listed : (es fs : List (ℕ × Place)) (units : Registered) (unit : ℕ) (place : Place) → map.from_entries es ≡ units →
    ((q : ℕ) → lookup (is_at (nat_cmp q)) fs ≡ cond (is_at (nat_cmp unit) q) (Some place) (lookup (is_at (nat_cmp q)) es)) → map.from_entries fs ≡ map.insert units unit place
insert-listed es fs units unit place same puts =
    map.same_map nat_cmp_total exact_unsigned _ _
    (λ q. get-listed fs q
    ∙ puts q
    ∙ (λ i. cond (flipped unit q i) (Some place) (sym (get-listed es q) i))
    ∙ ap (λ m. cond (eq_by_cmp nat_cmp q unit) (Some place) (map.get m q)) same
    ∙ sym (map.get-insert nat_cmp_total units unit place q))

-- a unit that leaves the list is no longer registered
pub remove-listed : (es fs : List (ℕ × Place)) (units : Registered) (unit : ℕ) → map.from_entries es ≡ units →
    ((q : ℕ) → lookup (is_at (nat_cmp q)) fs ≡ cond (is_at (nat_cmp unit) q) None (lookup (is_at (nat_cmp q)) es)) → map.from_entries fs ≡ map.remove units unit
remove-listed es fs units unit same takes =
    map.same_map nat_cmp_total exact_unsigned _ _
    (λ q. get-listed fs q
    ∙ takes q
    ∙ (λ i. cond (flipped unit q i) None (sym (get-listed es q) i))
    ∙ ap (λ m. cond (eq_by_cmp nat_cmp q unit) None (map.get m q)) same
    ∙ sym (map.get-remove nat_cmp_total units unit q))

-- lists that say the same of each unit register the same
pub same-listed : (es fs : List (ℕ × Place)) (units : Registered) → map.from_entries es ≡ units →
    ((q : ℕ) → lookup (is_at (nat_cmp q)) fs ≡ lookup (is_at (nat_cmp q)) es) → map.from_entries fs ≡ units
same-listed es fs units same alike =
    map.same_map nat_cmp_total exact_unsigned _ _ (λ q. get-listed fs q ∙ alike q ∙ sym (get-listed es q)) ∙ same

-- a set that isn't empty has a unit
pub has_some : (keys : List ℕ) → (length keys ≡ 0 → ⊥) → ((q : ℕ) → list_any (is_at (nat_cmp q)) keys ≡ false) → true ≡ false
has_some [] filled none = absurd (filled refl)
has_some (key ∷ keys) filled none = ap (λ o. is_eq o || list_any (is_at (nat_cmp key)) keys) (sym (tied_itself nat_cmp_total key)) ∙ none key

-- a set of length zero has no unit
pub has_none : (keys : List ℕ) → length keys ≡ 0 → (q : ℕ) → list_any (is_at (nat_cmp q)) keys ≡ false
has_none [] e q = refl
has_none (key ∷ keys) e q = absurd (omega arith)

-- a unit that isn't registered isn't in the list
pub fresh_listed : (es : List (ℕ × Place)) (units : Registered) (unit : ℕ) → map.from_entries es ≡ units → map.contains_key units unit ≡ false → lookup (is_at (nat_cmp unit)) es ≡ None
fresh_listed es units unit same fresh = none_is (lookup (is_at (nat_cmp unit)) es) (ap is_some (sym (get-listed es unit)) ∙ ap (λ m. map.contains_key m unit) same ∙ fresh)
  where
    none_is : (o : Option Place) → is_some o ≡ false → o ≡ None
    none_is None e = refl
    none_is (Some p) e = absurd (cc)

-- a key goes over from those that are left to those that were taken in
pub moved : (a b c : Bool) → (cond a true b || c) ≡ (b || (a || c))
moved true true c = refl
moved true false c = refl
moved false true c = refl
moved false false c = refl
