-- The first that there is of several events.
use Rattle.std.proofs.Common.{◌≡◌, ℕ, ◌+◌, Bool, true, false, ◌&&◌, List, Option, None, Some, if◌then◌else◌, refl, sym, ap, ◌∙◌, arith}
use Rattle.std.proofs.lemmas.Bool.Decides.{nat_tests}
use Rattle.std.specs.Option.{option_map}
use Rattle.grid_base.specs.declared.datum.Datum.{Datum}
use Rattle.grid_event.specs.declared.event.Event.{Event}
use Rattle.cluster_model.specs.Commands.{advance_event, answer_event, copy_event, drive_event, first_some, if_allowed, install_event, is_unanswered, land_event, open_units, or_else, round_event, serve_event, served_event, unit_event, units_at}
use Rattle.cluster_model.specs.State.{State, call_of, segments_of}
use Rattle.cluster_model.specs.Step.{allowed}
use Rattle.cluster_model.specs.Writes.{can_change, can_write, is_deadline, is_of_kind}
use Rattle.cluster_core.specs.Lifespans.{is_longer}

-- of a call that isn't answered
pub driven : (st : State) (number : ℕ) (a b c d : Option Event) → is_unanswered (call_of st.calling number) ≡ true → a ≡ answer_event st number → b ≡ first_some (unit_event st) (open_units st.calling number)
    → c ≡ round_event st number → d ≡ advance_event st.holding → or_else a (or_else b (or_else c d)) ≡ drive_event st number
unfolding drive_event
driven st number a b c d unanswered answer unit round topology =
    (λ i. or_else (answer i) (or_else (unit i) (or_else (round i) (topology i))))
    ∙ ap
    (λ t. if t then or_else (answer_event st number) (or_else (first_some (unit_event st) (open_units st.calling number)) (or_else (round_event st number) (advance_event st.holding))) else None)
    (sym unanswered)

-- of a call that is answered or isn't there
pub undriven : (st : State) (number : ℕ) → is_unanswered (call_of st.calling number) ≡ false → None ≡ drive_event st number
unfolding drive_event
undriven st number answered =
    ap
    (λ t. if t then or_else (answer_event st number) (or_else (first_some (unit_event st) (open_units st.calling number)) (or_else (round_event st number) (advance_event st.holding))) else None)
    (sym answered)

-- at a node
pub served : (st : State) (node : ℕ) (a b c d : Option Event) → a ≡ install_event st.holding node → b ≡ first_some (land_event st.holding node) (segments_of st.holding)
    → c ≡ first_some (copy_event st.holding node) (segments_of st.holding) → d ≡ first_some (served_event st) (units_at st.calling node) → or_else a (or_else b (or_else c d)) ≡ serve_event st node
unfolding serve_event
served st node a b c d installation landing copy unit = λ i. or_else (installation i) (or_else (landing i) (or_else (copy i) (unit i)))

-- an event that may happen, and one that may not
pub allowed_some : (st : State) (event : Event) → allowed st event ≡ true → Some event ≡ if_allowed st event
allowed_some st event may = ap (λ t. if t then Some event else None) (sym may)

-- an event that may not happen isn't chosen
pub refused_none : (st : State) (event : Event) → allowed st event ≡ false → None ≡ if_allowed st event
refused_none st event not_now = ap (λ t. if t then Some event else None) (sym not_now)

-- a lifespan longer than the longest makes no deadline
too_long : (clock : ℕ) (lifespan : Option ℕ) → is_longer lifespan ≡ true → is_deadline clock (option_map (λ ticks. clock + ticks) lifespan) ≡ false
too_long clock None longer = absurd (cc)
too_long clock (Some ticks) longer = grind (arith, nat_tests)

-- of three tests the last fails
all_fail : (a b c : Bool) → c ≡ false → (a && (b && c)) ≡ false
all_fail true true c e = e
all_fail true false c e = refl
all_fail false b c e = refl

-- and so its write may not happen
pub longer_refused : (st : State) (by_ node : ℕ) (key : List ℕ) (value : Datum) (lifespan : Option ℕ) → is_longer lifespan ≡ true →
    can_write st.holding (record { by = by_; node = node; key = key; value = value; until = option_map (λ ticks. st.holding.copying.clock + ticks) lifespan }) ≡ false
unfolding can_write
longer_refused st by_ node key value lifespan longer =
    all_fail (can_change st.holding node key) (is_of_kind st.holding.config.values value) (is_deadline st.holding.copying.clock (option_map (λ ticks. st.holding.copying.clock + ticks) lifespan)) (too_long st.holding.copying.clock lifespan longer)
