-- That the lines of rebalances are those of the past.
use Rattle.std.proofs.Common.{◌≡◌, ℕ, suc, List, [], ◌∷◌, ◌++◌, take, reverse, Some, slice_get, refl, sym, ap, ◌∙◌, append_assoc}
use Rattle.std.proofs.lemmas.List.{append-nil}
use Rattle.grid_event.specs.declared.config.Config.{Config}
use Rattle.grid_event.specs.declared.event.Event.{Event}
use Rattle.grid_event.specs.declared.event.Event.TheVariants.{Write, Erase, Tick, Join, Depart, Announce, Install, Copy, Land, Invoke, Round, Begin, Scan, Fetch, Take, Done, Answer}
use Rattle.grid_journal.specs.declared.membership.Membership.{Membership}
use Rattle.std.specs.Fmt.{decimal}
use Rattle.hash_factory.specs.Least.{load}
use Rattle.topology_phase.specs.Owners.{Hash}
use Rattle.grid_journal.specs.Rebalances.{least_line, least_lines, load_text}
use Rattle.grid_journal.specs.Standing.{event_line, membership_of, with_member}
use Rattle.grid_journal.proofs.Standings.{members_stand, topology_stands}
use Rattle.grid_journal.proofs.Telling.{reversed_more}

-- who is a member after one event more
member_more : (config : Config) (past : List Event) (event : Event) → membership_of config (event ∷ past) ≡ with_member (membership_of config past) event
unfolding membership_of
member_more config past (Write e) = refl
member_more config past (Erase e) = refl
member_more config past (Tick ticks) = refl
member_more config past (Join node) = refl
member_more config past (Depart node) = refl
member_more config past (Announce topology) = refl
member_more config past (Install other id) = refl
member_more config past (Copy e) = refl
member_more config past (Land receiver segment) = refl
member_more config past (Invoke e) = refl
member_more config past (Round e) = refl
member_more config past (Begin unit runs) = refl
member_more config past (Scan e) = refl
member_more config past (Fetch e) = refl
member_more config past (Take e) = refl
member_more config past (Done unit) = refl
member_more config past (Answer e) = refl

-- the lines after one event more
line_more : (config : Config) (past : List Event) (event : Event) → least_lines config (event ∷ past) ≡ least_lines config past ++ event_line (membership_of config past) event
line_more config past (Announce topology) = λ i. least_lines config past ++ least_line (sym (members_stand config past) i) (sym (topology_stands config past) i).phase topology
line_more config past (Write e) = sym (append-nil (least_lines config past))
line_more config past (Erase e) = sym (append-nil (least_lines config past))
line_more config past (Tick ticks) = sym (append-nil (least_lines config past))
line_more config past (Join node) = sym (append-nil (least_lines config past))
line_more config past (Depart node) = sym (append-nil (least_lines config past))
line_more config past (Install other id) = sym (append-nil (least_lines config past))
line_more config past (Copy e) = sym (append-nil (least_lines config past))
line_more config past (Land receiver segment) = sym (append-nil (least_lines config past))
line_more config past (Invoke e) = sym (append-nil (least_lines config past))
line_more config past (Round e) = sym (append-nil (least_lines config past))
line_more config past (Begin unit runs) = sym (append-nil (least_lines config past))
line_more config past (Scan e) = sym (append-nil (least_lines config past))
line_more config past (Fetch e) = sym (append-nil (least_lines config past))
line_more config past (Take e) = sym (append-nil (least_lines config past))
line_more config past (Done unit) = sym (append-nil (least_lines config past))
line_more config past (Answer e) = sym (append-nil (least_lines config past))

-- who is a member after so many events, and after one more
pub members_on : (config : Config) (events : List Event) (i : ℕ) (event : Event) (before after : Membership) → slice_get events i ≡ Some event
    → before ≡ membership_of config (reverse (take i events)) → after ≡ with_member before event → after ≡ membership_of config (reverse (take (suc i) events))
members_on config events i event before after at stands one =
    one ∙ ap (λ m. with_member m event) stands ∙ sym (member_more config (reverse (take i events)) event) ∙ ap (membership_of config) (sym (reversed_more events i event at))

-- and the lines
pub lines_on : (config : Config) (events : List Event) (i : ℕ) (event : Event) (m : Membership) (old before after : List ℕ) → slice_get events i ≡ Some event
    → m ≡ membership_of config (reverse (take i events)) → before ≡ old ++ least_lines config (reverse (take i events)) → after ≡ before ++ event_line m event
    → after ≡ old ++ least_lines config (reverse (take (suc i) events))
lines_on config events i event m old before after at stands lines one =
    one ∙ (λ j. lines j ++ event_line (stands j) event)
    ∙ append_assoc old (least_lines config (reverse (take i events))) (event_line (membership_of config (reverse (take i events))) event)
    ∙ ap (λ text. old ++ text) (sym (line_more config (reverse (take i events)) event))
    ∙ ap (λ past. old ++ least_lines config past) (sym (reversed_more events i event at))

-- the settings stay with the members
pub settings_of : (config : Config) (past : List Event) (m : Membership) → m ≡ membership_of config past → m.config ≡ config
unfolding membership_of
settings_of config past m stands = ap (λ t. t.config) stands

-- a node with its loads, part by part
pub load_placed : (hash after : Hash) (old first second third fourth fifth : List ℕ) (node n l m : ℕ) → n ≡ node → l ≡ load hash node → m ≡ load after node
    → first ≡ old ++ decimal n → second ≡ first ++ 58 ∷ [] → third ≡ second ++ decimal l → fourth ≡ third ++ 62 ∷ [] → fifth ≡ fourth ++ decimal m → fifth ≡ old ++ load_text hash after node
unfolding load_text
load_placed hash after old first second third fourth fifth node n l m e f g a b c d h =
    let flat : ((((old ++ decimal n) ++ 58 ∷ []) ++ decimal l) ++ 62 ∷ []) ++ decimal m ≡ old ++ (decimal n ++ (58 ∷ (decimal l ++ (62 ∷ decimal m)))) = simp append_assoc in
    h ∙ ap (λ text. text ++ decimal m) (d ∙ ap (λ text. text ++ 62 ∷ []) (c ∙ ap (λ text. text ++ decimal l) (b ∙ ap (λ text. text ++ 58 ∷ []) a))) ∙ flat
    ∙ (λ i. old ++ (decimal (e i) ++ (58 ∷ (decimal (f i) ++ (62 ∷ decimal (g i))))))
