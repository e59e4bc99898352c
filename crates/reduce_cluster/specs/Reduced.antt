-- What is booked for the segments of a reduction, and what it comes to.
use Rattle.std.specs.Prelude.{ℕ, Bool, true, false, not, ◌&&◌, List, [], ◌∷◌, length, replicate, slice_set, slice_index_or, Option, None, Some, unwrap_or, refl}
use Rattle.std.specs.List.{filter_map, position}
use Rattle.std.specs.Coded.{Coded, code_by, coded×, coded_list, coded_option, coded_bool}

-- one place a segment: the join of the parts that are booked for it, where there are any, and whether it is complete
pub record Reduced (P : Type 0) : Type 0 where
  pub booked : List (Option P)
  pub complete : List Bool

-- what is booked is stored as the pair of its fields
abbrev pub reduced_code : {P : Type 0} → Coded P → Coded (Reduced P)
reduced_code {P} code =
    code_by
    (List (Option P) × List Bool)
    (coded× (coded_list (coded_option code)) (coded_list coded_bool))
    (λ reduced. (reduced.booked, reduced.complete))
    (λ pair. record { booked = pair.0; complete = pair.1 })
    (λ _. refl)

-- nothing is booked for any of so many segments, and none is complete
abbrev pub nothing_booked : {P : Type 0} → ℕ → Reduced P
nothing_booked segments = record { booked = replicate segments None; complete = replicate segments false }

-- how many segments there are
abbrev pub segments_of : {P : Type 0} → Reduced P → ℕ
segments_of reduced = length reduced.complete

-- what is booked for the segment, where anything is
abbrev pub booked_for : {P : Type 0} → Reduced P → ℕ → Option P
booked_for reduced segment = slice_index_or reduced.booked segment None

-- what is booked for the segment, or the part of nothing
abbrev pub share_of : {P : Type 0} → P → Reduced P → ℕ → P
share_of nothing reduced segment = unwrap_or (booked_for reduced segment) nothing

-- the part is the one that is booked for the segment
abbrev pub with_share : {P : Type 0} → Reduced P → ℕ → P → Reduced P
with_share reduced segment part = record reduced { booked = slice_set reduced.booked segment (Some part) }

-- the segment is complete
abbrev pub with_complete : {P : Type 0} → Reduced P → ℕ → Reduced P
with_complete reduced segment = record reduced { complete = slice_set reduced.complete segment true }

-- the least segment that isn't complete
abbrev pub missing_of : {P : Type 0} → Reduced P → Option ℕ
missing_of reduced = position not reduced.complete

-- all that is booked, segments ascending
abbrev pub shares_of : {P : Type 0} → Reduced P → List P
shares_of reduced = filter_map (λ share. share) reduced.booked

-- each part fits the join of those before it
abbrev pub all_fit : {P : Type 0} → (P → P → Bool) → (P → P → P) → P → List P → Bool
all_fit fitting joined so_far [] = true
all_fit fitting joined so_far (part ∷ parts) = fitting so_far part && all_fit fitting joined (joined so_far part) parts
