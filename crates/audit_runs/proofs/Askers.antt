-- The call that asked for a unit last is one of whose rounds asked for it.
use Rattle.std.proofs.Common.{◌≡◌, ℕ, ◌==◌, Bool, true, false, ◌||◌, if◌then◌else◌, List, [], ◌∷◌, ◌++◌, Some, is_some, refl, sym, ap, ◌∙◌}
use Rattle.std.proofs.lemmas.Bool.{eq-eqb, or_right}
use Rattle.std.proofs.lemmas.List.Folds.{list_any-append}
use Rattle.std.specs.List.{list_any}
use Rattle.grid_event.specs.UnitHistories.{asker_of, asks_of_call}
use Rattle.grid_event.specs.declared.call_events.Ask.{Ask}
use Rattle.grid_event.specs.declared.event.Event.{Event}
use Rattle.grid_event.specs.declared.event.Event.TheVariants.{Round}
use Rattle.cluster_model.specs.Evidence.{is_unit_of}

-- the ask is for this unit
abbrev asks_for : ℕ → Ask → Bool
asks_for unit ask = ask.unit == unit

-- the asks of a call after a round that is its, or isn't
abbrev asks_with : List Event → ℕ → List Ask → Bool → List Ask
asks_with past call asks mine = if mine then asks_of_call past call ++ asks else asks_of_call past call

-- a unit of a call has a call that asked for it
pub asker_there : (past : List Event) (call unit : ℕ) → is_unit_of past call unit ≡ true → is_some (asker_of past unit) ≡ true
asker_there [] call unit h = absurd (cc)
asker_there (Round r ∷ past) call unit h = by_tests (list_any (asks_for unit) r.asks) refl (r.call == call) h (asker_there past call unit)
  where
    left_one : (b : Bool) → (b || false) ≡ true → b ≡ true
    left_one true h = refl
    left_one false h = h

    by_tests : (b : Bool) → list_any (asks_for unit) r.asks ≡ b → (c : Bool) →
        list_any (asks_for unit) (asks_with past call r.asks c) ≡ true →
        (is_unit_of past call unit ≡ true → is_some (asker_of past unit) ≡ true) → is_some (if b then Some r.call else asker_of past unit) ≡ true
    by_tests true e c h before = refl
    by_tests false e false h before = before h
    by_tests false e true h before =
        before (left_one (is_unit_of past call unit)
        (sym (list_any-append (asks_for unit) (asks_of_call past call) r.asks ∙ ap (λ b. is_unit_of past call unit || b) e) ∙ h))
asker_there (_ ∷ past) call unit h = asker_there past call unit h

-- and is a unit of the call that asked for it
pub asker_own : (past : List Event) (unit call : ℕ) → asker_of past unit ≡ Some call → is_unit_of past call unit ≡ true
asker_own [] unit call h = absurd (cc)
asker_own (Round r ∷ past) unit call h = by_tests (list_any (asks_for unit) r.asks) refl h (asker_own past unit call)
  where
    wider : (c : Bool) → is_unit_of past call unit ≡ true → list_any (asks_for unit) (asks_with past call r.asks c) ≡ true
    wider false h = h
    wider true h = list_any-append (asks_for unit) (asks_of_call past call) r.asks ∙ ap (λ b. b || list_any (asks_for unit) r.asks) h

    mine : (c : Bool) → (r.call == call) ≡ c → list_any (asks_for unit) r.asks ≡ true → r.call ≡ call
        → list_any (asks_for unit) (asks_with past call r.asks c) ≡ true
    mine true e here same =
        list_any-append (asks_for unit) (asks_of_call past call) r.asks ∙ or_right (is_unit_of past call unit) (list_any (asks_for unit) r.asks) here
    mine false e here same = let itself = eq-eqb r.call call same in absurd (cc)

    by_tests : (b : Bool) → list_any (asks_for unit) r.asks ≡ b → (if b then Some r.call else asker_of past unit) ≡ Some call →
        (asker_of past unit ≡ Some call → is_unit_of past call unit ≡ true) → list_any (asks_for unit) (asks_with past call r.asks (r.call == call)) ≡ true
    by_tests true e h before = mine (r.call == call) refl e (cc)
    by_tests false e h before = wider (r.call == call) (before h)
asker_own (_ ∷ past) unit call h = asker_own past unit call h
