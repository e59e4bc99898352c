-- What the tree of the flying batches says of them.
use Rattle.std.proofs.Common.{◌≡◌, ℕ, Bool, true, false, cond, List, [], ◌∷◌, ◌++◌, refl, sym, ◌∙◌, ap, Some, None, nat_cmp}
use Rattle.std.proofs.lemmas.Map.Lookups.{exact_unsigned}
use Rattle.std.specs.BTreeMap.{is_at}
use Rattle.std.specs.Cmp.{Equal-is, nat_cmp_total, eq_by_cmp_equiv}
use Rattle.std.specs.FinMap as map
use Rattle.std.specs.Map.{lookup}
use Rattle.std.specs.Option.{option_map_or}
use Rattle.std.specs.Ordering.{eq_by_cmp}
use Rattle.iterate_batch.specs.Flights.{Flight, Flown}
use Rattle.iterate_batch.specs.Walks.{Walking, noted_of, taken}

-- the tree and its map say the same of a unit
pub get_flown : (es : List (ℕ × Flight)) (q : ℕ) → map.get (map.from_entries {R = nat_cmp} es) q ≡ lookup (is_at (nat_cmp q)) es
get_flown es q = map.get-from_entries nat_cmp_total es q ∙ same es
  where
    same : (fs : List (ℕ × Flight)) → map.find nat_cmp q fs ≡ lookup (is_at (nat_cmp q)) fs
    same [] = refl
    same (f ∷ fs) = ap (cond (is_at (nat_cmp q) f.0) (Some f.1)) (same fs)

-- what the tree has of a unit is what flies
pub found_flown : (es : List (ℕ × Flight)) (flown : Flown) (q : ℕ) → map.from_entries es ≡ flown → lookup (is_at (nat_cmp q)) es ≡ map.get flown q
found_flown es flown q seen = sym (get_flown es q) ∙ ap (λ m. map.get m q) seen

-- a tree that has the batch of one unit more
pub flown-put : (es fs : List (ℕ × Flight)) (flown : Flown) (unit : ℕ) (flight : Flight) → map.from_entries es ≡ flown →
    ((q : ℕ) → lookup (is_at (nat_cmp q)) fs ≡ cond (is_at (nat_cmp unit) q) (Some flight) (lookup (is_at (nat_cmp q)) es)) → map.from_entries fs ≡ map.insert flown unit flight
flown-put es fs flown unit flight seen puts =
    map.same_map nat_cmp_total exact_unsigned _ _
    (λ q. get_flown fs q
    ∙ puts q
    ∙ (λ i. cond ((eq_by_cmp_equiv nat_cmp_total).symm unit q i) (Some flight) (found_flown es flown q seen i))
    ∙ sym (map.get-insert nat_cmp_total flown unit flight q))

-- a tree that has the batch of one unit less
pub flown-remove : (es fs : List (ℕ × Flight)) (flown : Flown) (unit : ℕ) → map.from_entries es ≡ flown →
    ((q : ℕ) → lookup (is_at (nat_cmp q)) fs ≡ cond (is_at (nat_cmp unit) q) None (lookup (is_at (nat_cmp q)) es)) → map.from_entries fs ≡ map.remove flown unit
flown-remove es fs flown unit seen takes =
    map.same_map nat_cmp_total exact_unsigned _ _
    (λ q. get_flown fs q
    ∙ takes q
    ∙ (λ i. cond ((eq_by_cmp_equiv nat_cmp_total).symm unit q i) None (found_flown es flown q seen i))
    ∙ sym (map.get-remove nat_cmp_total flown unit q))

-- further batches fly, the last one first
abbrev pub with_all : List (ℕ × Flight) → Flown → Flown
with_all [] flown = flown
with_all (batch ∷ batches) flown = map.insert (with_all batches flown) batch.0 batch.1

-- the last of further batches comes first
pub with_all-last : (batches : List (ℕ × Flight)) (batch : ℕ × Flight) (flown : Flown) → with_all (batches ++ batch ∷ []) flown ≡ with_all batches (map.insert flown batch.0 batch.1)
with_all-last [] batch flown = refl
with_all-last (b ∷ batches) batch flown = ap (λ m. map.insert m b.0 b.1) (with_all-last batches batch flown)

-- all batches of a tree, where none flew
pub with_all-empty : (es : List (ℕ × Flight)) → with_all es map.empty ≡ map.from_entries es
with_all-empty [] = refl
with_all-empty (e ∷ es) = ap (λ m. map.insert m e.0 e.1) (with_all-empty es)

-- a unit of which no batch flies is taken out without a change
none_taken : (flown : Flown) (unit : ℕ) → map.get flown unit ≡ None → map.remove flown unit ≡ flown
none_taken flown unit none =
    map.same_map nat_cmp_total exact_unsigned _ _
    (λ q. map.get-remove nat_cmp_total flown unit q ∙ absent q)
  where
    gone : (b : Bool) (q : ℕ) → eq_by_cmp nat_cmp q unit ≡ b → cond b None (map.get flown q) ≡ map.get flown q
    gone true q ties = sym none ∙ ap (map.get flown) (sym (exact_unsigned q unit ((Equal-is (nat_cmp q unit)).0 ties)))
    gone false q apart = refl

    absent : (q : ℕ) → cond (eq_by_cmp nat_cmp q unit) None (map.get flown q) ≡ map.get flown q
    absent q = gone (eq_by_cmp nat_cmp q unit) q refl

-- where no batch of the unit flies, there is none to take
pub taken-none : (walk : Walking) (unit : ℕ) → map.get walk.flying unit ≡ None → taken walk unit ≡ walk
taken-none walk unit none = λ i. record walk {
  flying = none_taken walk.flying unit none i;
  delivered = option_map_or (noted_of walk.guarantee walk.delivered) (none i) walk.delivered;
}
