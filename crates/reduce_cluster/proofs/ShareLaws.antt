-- How shares are seen after a change of one, and what is left of their join.
use Rattle.std.proofs.Common.{◌≡◌, ℕ, zero, suc, ◌+◌, ◌<◌, Bool, List, [], ◌∷◌, length, get_or, set, drop, refl, sym, ap, ◌∙◌, arith, Option, Some, None, replicate, Result, Ok, Err, OnErr}
use Rattle.std.proofs.lemmas.List.{drop_more, map-set}
use Rattle.std.proofs.Math.ListN.{get_or-map}
use Rattle.std.proofs.Math.Seq.{map-set_same}
use Rattle.std.specs.List.{filter_map}
use Rattle.std.specs.Option.{option_map}
use Rattle.reduce_cluster.specs.Reduced.{Reduced, booked_for, with_share}
use Rattle.reduce_cluster.specs.Shares.{plain_shares}

-- the parts of the shares from the one at place i on
abbrev pub parts_from : {P : Type 0} → (P → P) → ℕ → List (Option P) → List P
parts_from plain i shares = filter_map (λ share. share) (plain_shares plain (drop i shares))

-- a share that holds nothing is passed over
pub parts_from-none : {P : Type 0} (plain : P → P) (i : ℕ) (shares : List (Option P)) (share : Option P) → i < length shares → share ≡ get_or shares i share → share ≡ None →
    parts_from plain i shares ≡ parts_from plain (i + 1) shares
parts_from-none {P} plain i shares share inside at none =
    ap (λ rest. filter_map (λ s. s) (plain_shares plain rest)) (drop_more shares i share inside)
    ∙ ap (λ s. filter_map (λ t. t) (plain_shares plain (s ∷ drop (i + 1) shares))) (sym at ∙ none)

-- a share that holds a part is the first of the parts that are left
pub parts_from-some : {P : Type 0} (plain : P → P) (i : ℕ) (shares : List (Option P)) (share : Option P) (part : P) → i < length shares → share ≡ get_or shares i share → share ≡ Some part →
    parts_from plain i shares ≡ plain part ∷ parts_from plain (i + 1) shares
parts_from-some {P} plain i shares share part inside at some =
    ap (λ rest. filter_map (λ s. s) (plain_shares plain rest)) (drop_more shares i share inside)
    ∙ ap (λ s. filter_map (λ t. t) (plain_shares plain (s ∷ drop (i + 1) shares))) (sym at ∙ some)

-- a place inside of a list has what it has, whatever stands for places that aren't
inside_any : {A : Type 0} (xs : List A) (i : ℕ) (d e : A) → i < length xs → get_or xs i d ≡ get_or xs i e
inside_any [] i d e h = absurd (omega arith)
inside_any (x ∷ xs) zero d e h = refl
inside_any (x ∷ xs) (suc i) d e h = inside_any xs i d e (omega arith)

-- the share at the segment's place is seen as what is booked for the segment
pub share_seen : {P : Type 0} (plain : P → P) (shares : List (Option P)) (complete : List Bool) (reduced : Reduced P) (i segment : ℕ) (share : Option P) →
    record { booked = plain_shares plain shares; complete = complete } ≡ reduced → i ≡ segment → i < length shares → share ≡ get_or shares i share → option_map plain share ≡ booked_for reduced segment
share_seen plain shares complete reduced i segment share seen same inside at =
    ap (option_map plain) (at ∙ inside_any shares i share None inside)
    ∙ sym (get_or-map (option_map plain) shares i None)
    ∙ ap (λ r. booked_for r i) seen
    ∙ ap (booked_for reduced) same

-- where a share is replaced by a part, the part is what is booked for the segment
pub share_replaced : {P : Type 0} (plain : P → P) (shares : List (Option P)) (complete : List Bool) (reduced : Reduced P) (i segment : ℕ) (share : Option P) (part : P) →
    record { booked = plain_shares plain shares; complete = complete } ≡ reduced → i ≡ segment → option_map plain share ≡ Some part →
    record { booked = plain_shares plain (set shares i share); complete = complete } ≡ with_share reduced segment part
share_replaced plain shares complete reduced i segment share part seen same is =
    ap (λ booked. record { booked = booked; complete = complete }) (map-set (option_map plain) shares i share ∙ ap (set (plain_shares plain shares) i) is)
    ∙ ap (λ r. with_share r i part) seen
    ∙ ap (λ s. with_share reduced s part) same

-- where a share is replaced by one that is seen the same, nothing changes
pub share_kept : {P : Type 0} (plain : P → P) (shares : List (Option P)) (complete : List Bool) (reduced : Reduced P) (i : ℕ) (share kept : Option P) →
    record { booked = plain_shares plain shares; complete = complete } ≡ reduced → share ≡ get_or shares i share → i < length shares → option_map plain kept ≡ option_map plain share →
    record { booked = plain_shares plain (set shares i kept); complete = complete } ≡ reduced
share_kept plain shares complete reduced i share kept seen at inside is =
    ap (λ booked. record { booked = booked; complete = complete }) (map-set_same (option_map plain) shares i kept share (is ∙ ap (option_map plain) at)) ∙ seen

-- no place holds anything
pub none_seen : {P : Type 0} (plain : P → P) (n : ℕ) → plain_shares plain (replicate n None) ≡ replicate n None
none_seen plain zero = refl
none_seen plain (suc n) = ap (λ shares. None ∷ shares) (none_seen plain n)

-- what holds in any case holds where there is an error
pub OnErr-all : {T E Q : Type 0} (r : Result T E) → Q → OnErr r Q
OnErr-all (Ok x) q = tt
OnErr-all (Err e) q = q
