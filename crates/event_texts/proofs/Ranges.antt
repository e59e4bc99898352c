-- What types keep of the ranges of fields.
use Rattle.std.proofs.Common.{◌≡◌, ℕ, suc, ◌≤◌, ◌<◌, nat_le, nat_lt, nat_eq, ◌==◌, Bool, true, false, not, ◌&&◌, List, [], ◌∷◌, ◌++◌, length, get_or, take, refl, sym, ap, ◌∙◌, subst, arith, append_assoc}
use Rattle.std.specs.List.{IsDistinct, list_all}
use Rattle.std.proofs.lemmas.Bool.{eq-eqb, le-leb, lt-ltb}
use Rattle.std.proofs.lemmas.List.{length-append}
use Rattle.topology_phase.proofs.OwnerLists.{absent_before}
use Rattle.pipeline_parse.proofs.ParseLaws.{both_fit}
use Rattle.pipeline_parse.proofs.WordLaws.{both_true}
use Rattle.topology_phase.specs.Owners.{Hash, among, owners_at}
use Rattle.topology_phase.specs.Phases.{same_phase}
use Rattle.topology_phase.specs.Topologies.{IsTopology, Topology}
use Rattle.topology_phase.specs.declared.phase.Phase.{Phase}
use Rattle.topology_phase.specs.declared.phase.Phase.TheVariants.{NoRebalance, ReadOld, ReadAll, ReadNew}
use Rattle.event_texts.specs.Fits.{are_owners, hash_fits, is_no_hash, is_u32, none_barred, owners_fit, pending_fits, topology_fits}

-- what stands at the end of a front
at_front : (before : List ℕ) (t : ℕ) (rest : List ℕ) → get_or (before ++ t ∷ rest) (length before) 0 ≡ t
at_front [] t rest = refl
at_front (x ∷ before) t rest = at_front before t rest

-- and the front itself
front_taken : (before : List ℕ) (t : ℕ) (rest : List ℕ) → take (length before) (before ++ t ∷ rest) ≡ before
front_taken [] t rest = refl
front_taken (x ∷ before) t rest = ap (λ xs. x ∷ xs) (front_taken before t rest)

distinct_from : (before list : List ℕ) → IsDistinct nat_eq (before ++ list) → none_barred among before list ≡ true
distinct_from before [] distinct = refl
distinct_from before (t ∷ list) distinct =
    let within : length before < length (before ++ t ∷ list) = omega (arith, length-append before (t ∷ list)) in
    let absent = absent_before (before ++ t ∷ list) (length before) distinct within in
    both_fit (not (among t before)) (none_barred among (before ++ t ∷ []) list)
    (ap not (sym (λ i. among (at_front before t list i) (front_taken before t list i)) ∙ absent))
    (distinct_from (before ++ t ∷ []) list (subst (IsDistinct nat_eq) (sym (append_assoc before (t ∷ []) list)) distinct))

-- where no two are alike, none stands among those before it
pub distinct_known : (owners : List ℕ) → IsDistinct nat_eq owners → none_barred among [] owners ≡ true
distinct_known owners distinct = distinct_from [] owners distinct

-- where each segment has at most four owners, of whom no two are alike, they fit
all_few : (hash : Hash) → ((s : ℕ) → length (owners_at hash s) ≤ 4) → list_all are_owners hash ≡ true → list_all owners_fit hash ≡ true
all_few [] few keeps = refl
all_few (owners ∷ hash) few keeps =
    let h = both_true (are_owners owners) (list_all are_owners hash) keeps in
    both_fit (owners_fit owners) (list_all owners_fit hash) (both_fit (nat_le (length owners) 4) (are_owners owners) (le-leb (length owners) 4 (few 0)) h.0)
    (all_few hash (λ s. few (suc s)) h.1)

-- such a hash of 1 to 256 segments fits
hash_known : (hash : Hash) → 0 < length hash → length hash ≤ 256 → ((s : ℕ) → length (owners_at hash s) ≤ 4) → list_all are_owners hash ≡ true → hash_fits hash ≡ true
hash_known hash some most few keeps =
    both_fit (nat_lt 0 (length hash)) (nat_le (length hash) 256 && list_all owners_fit hash) (lt-ltb 0 (length hash) some)
    (both_fit (nat_le (length hash) 256) (list_all owners_fit hash) (le-leb (length hash) 256 most) (all_few hash few keeps))

-- a pending hash of a rebalance fits
pending_known : (current pending : Hash) → 0 < length current → length current ≤ 256 → length pending ≡ length current → ((s : ℕ) → length (owners_at pending s) ≤ 4) → list_all are_owners pending ≡ true
    → (hash_fits pending && (length pending == length current)) ≡ true
pending_known current pending some most long few keeps =
    both_fit (hash_fits pending) (length pending == length current) (hash_known pending (omega arith) (omega arith) few keeps) (eq-eqb (length pending) (length current) long)

-- a topology whose owners are known fits
pub topology_known : (t : Topology) → IsTopology t → is_u32 t.id ≡ true → length t.current ≤ 256 → list_all are_owners t.current ≡ true
    → (same_phase t.phase NoRebalance ≡ false → list_all are_owners t.pending ≡ true) → topology_fits t ≡ true
topology_known t kept number most current pending =
    both_fit (is_u32 t.id) (hash_fits t.current && pending_fits t.phase t.current t.pending) number
    (both_fit (hash_fits t.current) (pending_fits t.phase t.current t.pending) (hash_known t.current kept.some_segment most kept.few_current current)
    (by_phase t.phase kept.settled (λ moves. pending_known t.current t.pending kept.some_segment most (kept.as_long moves) kept.few_pending (pending moves))))
  where
    by_phase : (phase : Phase) → (same_phase phase NoRebalance ≡ true → t.pending ≡ []) → (same_phase phase NoRebalance ≡ false → (hash_fits t.pending && (length t.pending == length t.current)) ≡ true)
        → pending_fits phase t.current t.pending ≡ true
    by_phase NoRebalance settled moves = ap is_no_hash (settled refl)
    by_phase ReadOld settled moves = moves refl
    by_phase ReadAll settled moves = moves refl
    by_phase ReadNew settled moves = moves refl
