-- What is told of what stands is what the past says, and how its parts make the whole.
use Rattle.std.proofs.Common.{◌≡◌, ℕ, zero, suc, ◌≤◌, Bool, true, false, ◌||◌, List, [], ◌∷◌, ◌++◌, length, map, take, reverse, Some, None, unwrap_or, slice_get, refl, sym, ap, ◌∙◌, append_assoc, arith}
use Rattle.std.proofs.lemmas.List.{get_or_past, reverse-append}
use Rattle.std.proofs.lemmas.List.Folds.{list_any_at}
use Rattle.std.proofs.lemmas.Option.{get_or_from_slice_get, slice_get_within}
use Rattle.std.specs.FinMap as finite
use Rattle.std.specs.List.{list_any}
use Rattle.serde_json.specs.Data.{Data, number, string, unsigned}
use Rattle.serde_json.specs.View.{items_of}
use Rattle.serde_json.specs.Written.{compact_text, has_float, items_have_float}
use Rattle.grid_event.specs.declared.config.Config.{Config}
use Rattle.grid_event.specs.declared.event.Event.{Event}
use Rattle.grid_event.specs.Maps.{entries_of}
use Rattle.grid_event.specs.Members.{live_members, newest_topology}
use Rattle.topology_phase.specs.Owners.{joined, owners_at}
use Rattle.topology_phase.specs.declared.phase.Phase.{Phase}
use Rattle.topology_phase.specs.declared.phase.Phase.TheVariants.{NoRebalance, ReadAll, ReadNew, ReadOld}
use Rattle.topology_phase.specs.Phases.{by_phase, same_phase}
use Rattle.topology_phase.specs.Topologies.{IsTopology, Topology, holders}
use Rattle.grid_journal.specs.declared.membership.Membership.{Membership}
use Rattle.grid_journal.specs.declared.standing.Standing.{Standing}
use Rattle.grid_journal.specs.Briefs.{call_data, calls_data, calls_text, data_of, ends_text, given_of, json_text, nodes_data, outcomes_of, result_text, standing_text, told_data}
use Rattle.grid_journal.specs.Rebalances.{told_least}
use Rattle.grid_journal.specs.Reports.{line}
use Rattle.grid_journal.specs.Standing.{membership_of, standing_members, standing_of, standing_topology, with_one}
use Rattle.grid_journal.proofs.Standings.{gifts_stand, members_stand, one_more, topology_stands}

-- one of a list passes the test
pub any_at : (test : ℕ → Bool) (xs : List ℕ) (i x : ℕ) → slice_get xs i ≡ Some x → test x ≡ true → list_any test xs ≡ true
any_at test xs i x at passes = list_any_at test xs i x (slice_get_within xs i x at) (ap test (get_or_from_slice_get xs i x x at) ∙ passes)

-- the first elements with one more
taken_more : {A : Type 0} (xs : List A) (i : ℕ) (x : A) → slice_get xs i ≡ Some x → take (suc i) xs ≡ take i xs ++ x ∷ []
taken_more [] i x at = absurd (cc)
taken_more (y ∷ ys) zero x at = ap (λ found. unwrap_or found y ∷ []) at
taken_more (y ∷ ys) (suc i) x at = ap (λ rest. y ∷ rest) (taken_more ys i x at)

-- one more of a list in order is the first of the list in the other order
pub reversed_more : {A : Type 0} (xs : List A) (i : ℕ) (x : A) → slice_get xs i ≡ Some x → reverse (take (suc i) xs) ≡ x ∷ reverse (take i xs)
reversed_more xs i x at = ap reverse (taken_more xs i x at) ∙ reverse-append (take i xs) (x ∷ [])

-- what stands after so many events, and after one more
pub stands_on : (config : Config) (events : List Event) (i : ℕ) (event : Event) (before after : Standing) → slice_get events i ≡ Some event
    → before ≡ standing_of config (reverse (take i events)) → after ≡ with_one before event → after ≡ standing_of config (reverse (take (suc i) events))
stands_on config events i event before after at stands one =
    one ∙ (ap (λ s. with_one s event) stands
    ∙ (sym (one_more config (reverse (take i events)) event) ∙ ap (standing_of config) (sym (reversed_more events i event at))))

-- the settings stand as they were
pub settings_stand : (config : Config) (past : List Event) (s : Standing) → s ≡ standing_of config past → s.membership.config ≡ config
unfolding standing_of membership_of
settings_stand config past s stands = ap (λ t. t.membership.config) stands

-- a segment that isn't there has no owner
pub no_owner : (hash : List (List ℕ)) (segment : ℕ) → length hash ≤ segment → [] ≡ owners_at hash segment
no_owner hash segment past = sym (get_or_past hash segment [] past)

-- two empty lists make an empty one
none_joined : (first second : List ℕ) → first ≡ [] → second ≡ [] → joined first second ≡ []
unfolding joined
none_joined first second none nothing = (λ i. joined (none i) (nothing i))

-- where the first list is empty, and the second outside the settled phase, what is told of a phase is empty
none_by : (phase : Phase) (first second : List ℕ) → first ≡ [] → (same_phase phase NoRebalance ≡ false → second ≡ [])
    → by_phase phase first first (joined first second) (joined first second) ≡ []
none_by NoRebalance first second none later = none
none_by ReadOld first second none later = none
none_by ReadAll first second none later = none_joined first second none (later refl)
none_by ReadNew first second none later = none_joined first second none (later refl)

-- a segment that isn't there has no holder
pub no_holder : (topology : Topology) (segment : ℕ) → IsTopology topology → length topology.current ≤ segment → [] ≡ holders topology segment
unfolding holders
no_holder topology segment kept past =
    sym (none_by topology.phase (owners_at topology.current segment) (owners_at topology.pending segment) (sym (no_owner topology.current segment past))
    (λ moving. sym (no_owner topology.pending segment (omega (arith, past, kept.as_long moving)))))

-- the calls and what stands at the end are as the past says
pub told_text : (config : Config) (past : List Event) (s : Standing) → s ≡ standing_of config past
    → calls_text (λ call. unwrap_or (finite.get s.given call) 0) (finite.entries s.outcomes) ++ (told_least config past ++ ends_text (standing_members s.membership) (standing_topology s.membership) (finite.len s.keys))
    ≡ calls_text (given_of past) (finite.entries (outcomes_of past)) ++ (told_least config past ++ ends_text (live_members config past) (newest_topology config past) (finite.len (entries_of config past)))
unfolding standing_of
told_text config past s stands =
    ap (λ t. calls_text (λ call. unwrap_or (finite.get t.given call) 0) (finite.entries t.outcomes) ++ (told_least config past ++ ends_text (standing_members t.membership) (standing_topology t.membership) (finite.len t.keys))) stands
    ∙ (λ i. calls_text (λ call. gifts_stand past call i) (finite.entries (outcomes_of past)) ++ (told_least config past ++ ends_text (members_stand config past i) (topology_stands config past i) (finite.len (entries_of config past))))

-- the same as JSON
pub told_json : (config : Config) (past : List Event) (s : Standing) → s ≡ standing_of config past
    → told_data (calls_data (λ call. unwrap_or (finite.get s.given call) 0) (finite.entries s.outcomes)) (finite.len s.keys) (nodes_data (standing_members s.membership)) (string (standing_text (standing_topology s.membership)))
    ≡ data_of config past
unfolding standing_of
told_json config past s stands =
    ap (λ t. told_data (calls_data (λ call. unwrap_or (finite.get t.given call) 0) (finite.entries t.outcomes)) (finite.len t.keys) (nodes_data (standing_members t.membership)) (string (standing_text (standing_topology t.membership)))) stands
    ∙ (λ i. told_data (calls_data (λ call. gifts_stand past call i) (finite.entries (outcomes_of past))) (finite.len (entries_of config past)) (nodes_data (members_stand config past i)) (string (standing_text (topology_stands config past i))))

-- a list of data without fractions has none
none_float : {A : Type 0} (f : A → Data) → ((x : A) → has_float (f x) ≡ false) → (xs : List A) → items_have_float (items_of (map f xs)) ≡ false
none_float f none [] = refl
none_float f none (x ∷ xs) = ap (λ b. b || items_have_float (items_of (map f xs))) (none x) ∙ none_float f none xs

-- no number of a brief is a float
pub no_floats : (config : Config) (past : List Event) → has_float (data_of config past) ≡ false
no_floats config past =
    ap (λ b. b || (items_have_float (items_of (map (λ node. number (unsigned node)) (live_members config past))) || false))
    (none_float (λ call. call_data call.0 (result_text call.1 (given_of past call.0))) (λ call. refl) (finite.entries (outcomes_of past)))
    ∙ ap (λ b. b || false) (none_float (λ node. number (unsigned node)) (λ node. refl) (live_members config past))

-- the parts of a brief behind one another
pub placed : (old settings calls ends first second third fourth : List ℕ)
    → first ≡ old ++ settings → second ≡ first ++ 10 ∷ [] → third ≡ second ++ calls → fourth ≡ third ++ ends → fourth ≡ old ++ (line settings ++ (calls ++ ends))
placed old settings calls ends first second third fourth a b c d =
    d ∙ ap (λ text. text ++ ends) (c ∙ ap (λ text. text ++ calls) (b ∙ ap (λ text. text ++ 10 ∷ []) a)) ∙ simp append_assoc

-- the parts of a brief, put one behind the other, are the brief
pub placed_more : (old settings calls least ends first second third fourth fifth : List ℕ)
    → first ≡ old ++ settings → second ≡ first ++ 10 ∷ [] → third ≡ second ++ calls → fourth ≡ third ++ least → fifth ≡ fourth ++ ends → fifth ≡ old ++ (line settings ++ (calls ++ (least ++ ends)))
placed_more old settings calls least ends first second third fourth fifth a b c d e =
    e ∙ ap (λ text. text ++ ends) (d ∙ ap (λ text. text ++ least) (c ∙ ap (λ text. text ++ calls) (b ∙ ap (λ text. text ++ 10 ∷ []) a))) ∙ simp append_assoc

-- the text of JSON, as a line
pub json_line : (config : Config) (past : List Event) (told : Data) (old text first second : List ℕ) → told ≡ data_of config past
    → (has_float told ≡ false → text ≡ compact_text told) → first ≡ old ++ text → second ≡ first ++ 10 ∷ [] → second ≡ old ++ line (json_text (data_of config past))
unfolding json_text
json_line config past told old text first second is written added ended =
    ended ∙ (ap (λ out. out ++ 10 ∷ []) added
    ∙ (append_assoc old text (10 ∷ [])
    ∙ ap (λ out. old ++ line out) (written (ap has_float is ∙ no_floats config past) ∙ ap compact_text is)))

-- the owners by the first topology
pub first_holders : (m : Membership) (segment : ℕ) → m.newest ≡ None → owners_at m.first segment ≡ holders (standing_topology m) segment
unfolding holders
first_holders m segment none = ap (λ newest. holders (unwrap_or newest (record { id = 1; phase = NoRebalance; current = m.first; pending = [] })) segment) (sym none)
