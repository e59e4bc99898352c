-- Where rounds number their units, each of their asks is that of its unit.
use Rattle.std.proofs.Common.{◌≡◌, ℕ, zero, suc, ◌+◌, ◌≤◌, ◌==◌, Bool, true, false, if◌then◌else◌, List, [], ◌∷◌, ◌++◌, Some, is_some, slice_get, refl, ap, ◌∙◌, arith}
use Rattle.std.proofs.lemmas.Bool.{and_parts}
use Rattle.std.proofs.lemmas.Option.{slice_get_within}
use Rattle.std.specs.List.{AllByRecursion}
use Rattle.grid_event.specs.UnitHistories.{asker_of}
use Rattle.grid_event.specs.declared.call_events.Ask.{Ask}
use Rattle.grid_event.specs.declared.call_events.RoundEvent.{RoundEvent}
use Rattle.grid_event.specs.declared.event.Event.{Event}
use Rattle.grid_event.specs.declared.event.Event.TheVariants.{Round}
use Rattle.audit_clauses.specs.Shapes.{are_numbered, units_asked}
use Rattle.cluster_model.specs.Causes.{rounds_of}
use Rattle.history_units.specs.Asks.{ask_in, ask_of, asked_by, is_numbered}
use Rattle.history_units.specs.Laws.{IsAskOf}
use Rattle.history_units.proofs.Numbering.{numbered_at, numbered_from, own_ask, some_ask}

-- what holds at each row holds of all
from_rows : {A : Type 0} (P : A → Type 0) (xs : List A) → ((row : ℕ) (x : A) → slice_get xs row ≡ Some x → P x) → AllByRecursion P xs
from_rows P [] h = tt
from_rows P (x ∷ xs) h = (h zero x refl, from_rows P xs (λ row y at. h (suc row) y at))

-- what follows of each follows of all, and of one more
each : {A : Type 0} (P Q : A → Type 0) (xs : List A) → ((x : A) → P x → Q x) → AllByRecursion P xs → AllByRecursion Q xs
each P Q [] f h = tt
each P Q (x ∷ xs) f h = (f x h.0, each P Q xs f h.1)

and_last : {A : Type 0} (P : A → Type 0) (xs : List A) (x : A) → AllByRecursion P xs → P x → AllByRecursion P (xs ++ x ∷ [])
and_last P [] x h p = (p, tt)
and_last P (y ∷ xs) x h p = (h.0, and_last P xs x h.1 p)

-- the ask is that of its unit, which is one of those so far
record IsKnown (past : List Event) (round : RoundEvent) (ask : Ask) : Type 0 where
  own : IsAskOf past round ask
  within : ask.unit ≤ units_asked past

abbrev AreKnown : List Event → RoundEvent → Type 0
AreKnown past round = AllByRecursion (IsKnown past round) round.asks

-- a round more leaves them
round_leaves : (past : List Event) (next : RoundEvent) → are_numbered (units_asked past + 1) next.asks ≡ true → (round : RoundEvent) → AreKnown past round → AreKnown (Round next ∷ past) round
round_leaves past next numbered round h = each (IsKnown past round) (IsKnown (Round next ∷ past) round) round.asks (λ ask k. by_ask ask k) h
  where
    by_ask : (ask : Ask) → IsKnown past round ask → IsKnown (Round next ∷ past) round ask
    by_ask ask k =
        let none = some_ask next.asks ask.unit ∙ ap is_some (numbered_from (units_asked past + 1) next.asks numbered ask.unit (omega (arith, k.within))) in
        record {
          own = record {
            asker = ap (λ b. if b then Some next.call else asker_of past ask.unit) none ∙ k.own.asker;
            id = ap (λ b. if b then Some next.id else asked_by past ask.unit) none ∙ k.own.id;
            ask = ap (λ b. if b then ask_in next.asks ask.unit else ask_of past ask.unit) none ∙ k.own.ask;
          };
          within = omega (arith, k.within);
        }

-- and its own asks are known
round_known : (past : List Event) (next : RoundEvent) → are_numbered (units_asked past + 1) next.asks ≡ true → AreKnown (Round next ∷ past) next
round_known past next numbered = from_rows (IsKnown (Round next ∷ past) next) next.asks (λ row ask at.
    let there = numbered_at (units_asked past + 1) next.asks numbered row ∙ at in
    let unit = own_ask next.asks ((units_asked past + 1) + row) ask there in
    let found : ask_in next.asks ask.unit ≡ Some ask = ap (ask_in next.asks) unit ∙ there in
    let some = some_ask next.asks ask.unit ∙ ap is_some found in
    record {
      own = record {
        asker = ap (λ b. if b then Some next.call else asker_of past ask.unit) some;
        id = ap (λ b. if b then Some next.id else asked_by past ask.unit) some;
        ask = ap (λ b. if b then ask_in next.asks ask.unit else ask_of past ask.unit) some ∙ found;
      };
      within = omega (arith, unit, slice_get_within next.asks row ask at);
    })

-- other events leave them too
others_leave : (past : List Event) (event : Event) → ((round : RoundEvent) → AreKnown past round → AreKnown (event ∷ past) round) → (rounds : List RoundEvent)
    → AllByRecursion (AreKnown past) rounds → AllByRecursion (AreKnown (event ∷ past)) rounds
others_leave past event leaves rounds h = each (AreKnown past) (AreKnown (event ∷ past)) rounds leaves h

all_known : (past : List Event) (call : ℕ) → is_numbered past ≡ true → AllByRecursion (AreKnown past) (rounds_of past call)
all_known [] call h = tt
all_known (Round next ∷ past) call h =
    let parts = and_parts (are_numbered (units_asked past + 1) next.asks) (is_numbered past) h in
    by_test (next.call == call) (others_leave past (Round next) (round_leaves past next parts.0) (rounds_of past call) (all_known past call parts.1)) (round_known past next parts.0)
  where
    by_test : (b : Bool) → AllByRecursion (AreKnown (Round next ∷ past)) (rounds_of past call) → AreKnown (Round next ∷ past) next
        → AllByRecursion (AreKnown (Round next ∷ past)) (if b then rounds_of past call ++ next ∷ [] else rounds_of past call)
    by_test true old new = and_last (AreKnown (Round next ∷ past)) (rounds_of past call) next old new
    by_test false old new = old
all_known (event ∷ past) call h =
    others_leave past event (λ round known. each (IsKnown past round) (IsKnown (event ∷ past) round) round.asks
    (λ ask k. record { own = record { asker = k.own.asker; id = k.own.id; ask = k.own.ask }; within = k.within }) known) (rounds_of past call) (all_known past call h)

pub asks_known : (past : List Event) (call : ℕ) → is_numbered past ≡ true → AllByRecursion (λ (round : RoundEvent). AllByRecursion (IsAskOf past round) round.asks) (rounds_of past call)
asks_known past call h =
    each (AreKnown past) (λ (round : RoundEvent). AllByRecursion (IsAskOf past round) round.asks) (rounds_of past call)
    (λ round known. each (IsKnown past round) (IsAskOf past round) round.asks (λ ask k. k.own) known) (all_known past call h)
