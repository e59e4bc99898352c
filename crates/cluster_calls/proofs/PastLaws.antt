-- The units that are passed over stay closed, or their calls answered.
use Rattle.std.proofs.Common.{◌≡◌, ℕ, zero, suc, ◌≤◌, ◌<◌, Bool, true, false, ◌&&◌, ◌==◌, List, [], ◌∷◌, ◌++◌, cond, length, filter, drop, Option, Some, None, is_none, is_some, inl, inr, refl, sym, ap, ◌∙◌, arith, length-set, length-append}
use Rattle.std.specs.FinMap as map_of
use Rattle.std.specs.Option.{option_map}
use Rattle.std.specs.Prelude.{slice_get, slice_set}
use Rattle.cluster_model.specs.Commands.{is_unanswered}
use Rattle.cluster_model.specs.State.{Unit, call_of, is_open_unit}
use Rattle.cluster_calls.specs.Calling.{NoneWaits}
use Rattle.cluster_calls.specs.Insides.{ArePast, AreRight, calling_of}
use Rattle.cluster_calls.specs.Rows.{Rows, changes_row}
use Rattle.cluster_calls.specs.declared.calls.Calls.TheInside.{Inside}
use Rattle.cluster_calls.specs.declared.row.Row.{Row}
use Rattle.cluster_calls.proofs.ListLaws.{append_cases, set_cases}
use Rattle.cluster_calls.proofs.RightLaws.{changed_cases}
use Rattle.cluster_calls.proofs.RowTables.{equal, get-calls_in, get-put}

-- a unit is changed, which was open where it is open
pub past_set : (units : List Unit) (rows : Rows) (past i : ℕ) (u v : Unit) → slice_get units i ≡ Some u → v.work.call ≡ u.work.call → (is_open_unit v ≡ true → is_open_unit u ≡ true)
    → ArePast units rows past → ArePast (slice_set units i v) rows past
past_set units rows past i u v at call was kept = record {
  within = omega (arith, kept.within, length-set units i v);
  over = λ j z here low open_ row g. elim (set_cases units i j v z here) [
    | inl e ↦
        kept.over i u at (omega (arith, e.0, low)) (was (ap is_open_unit (sym e.1) ∙ open_)) row
        (ap (map_of.get rows) (sym call ∙ ap (λ (x : Unit). x.work.call) (sym e.1)) ∙ g)
    | inr e ↦ kept.over j z e.1 low open_ row g
  ];
}

-- rows are changed, and each that is answered stays so
pub past_rows : (units : List Unit) (rows after : Rows) (past : ℕ)
    → ((n : ℕ) (row : Row) → map_of.get after n ≡ Some row → (was : Row) × (map_of.get rows n ≡ Some was) × (is_some was.call.outcome ≡ true → is_some row.call.outcome ≡ true))
    → ArePast units rows past → ArePast units after past
past_rows units rows after past stays kept = record {
  within = kept.within;
  over = λ j z here low open_ row g. let h = stays z.work.call row g in h.2 (kept.over j z here low open_ h.0 h.1);
}

-- one row is changed
pub past_row : (units : List Unit) (rows : Rows) (past number : ℕ) (change : Row → Row) → ((row : Row) → is_some row.call.outcome ≡ true → is_some (change row).call.outcome ≡ true)
    → ArePast units rows past → ArePast units (changes_row number change rows) past
past_row units rows past number change stays kept =
    past_rows units rows (changes_row number change rows) past (λ n row at.
    elim (changed_cases rows number change n row at) [
      | inl e ↦ (e.1.0, ap (map_of.get rows) e.0 ∙ e.1.1, λ h. ap (λ (r : Row). is_some r.call.outcome) e.1.2 ∙ stays e.1.0 h)
      | inr e ↦ (row, e.1, λ h. h)
    ]) kept

-- a call is made, which wasn't there
pub past_invoke : (segments : ℕ) (units : List Unit) (rows : Rows) (past number : ℕ) (made : Row) → AreRight segments units rows → map_of.get rows number ≡ None
    → ArePast units rows past → ArePast units (map_of.insert rows number made) past
past_invoke segments units rows past number made right absent kept = record {
  within = kept.within;
  over = λ j z here low open_ row g.
      elim (z.work.call == number) as (λ b. (z.work.call == number) ≡ b → cond b (Some made) (map_of.get rows z.work.call) ≡ Some row → is_some row.call.outcome ≡ true) [
        | true ↦ λ tie e.
            absurd (let gone = sym (right.placed j z here).there ∙ ap (λ n. is_some (map_of.get rows n)) (equal z.work.call number tie) ∙ ap is_some absent in cc)
        | false ↦ λ apart e. kept.over j z here low open_ row e
      ] refl (sym (get-put rows number made z.work.call) ∙ g);
}

-- more units are asked
pub past_append : (units more : List Unit) (rows : Rows) (past : ℕ) → ArePast units rows past → ArePast (units ++ more) rows past
past_append units more rows past kept = record {
  within = omega (arith, kept.within, length-append units more);
  over = λ j z here low open_ row g. elim (append_cases units more j z here) [
    | inl e ↦ kept.over j z e low open_ row g
    | inr e ↦ absurd (omega (arith, e.1, low, kept.within))
  ];
}

-- no unit is passed over yet
pub past_none : (units : List Unit) (rows : Rows) → ArePast units rows 0
past_none units rows = record { within = omega arith; over = λ j z here low. absurd (omega (arith, low)) }

-- where a call that is there is answered, it isn't unanswered
answered_is : (o : Option Row) → ((row : Row) → o ≡ Some row → is_some row.call.outcome ≡ true) → is_unanswered (option_map (λ (r : Row). r.call) o) ≡ false
answered_is None h = refl
answered_is (Some row) h = by row.call.outcome (h row refl)
  where
    by : {A : Type 0} (o : Option A) → is_some o ≡ true → is_none o ≡ false
    by None h = absurd (cc)
    by (Some x) h = refl

-- none of the units that are passed over waits
pub none_waits : (fields : Inside) (past : ℕ) → ArePast fields.units.items fields.table past → NoneWaits (calling_of fields) past
none_waits fields past kept i u at low =
    elim (is_open_unit u) as (λ b. is_open_unit u ≡ b → (b && is_unanswered (call_of (calling_of fields) u.work.call)) ≡ false) [
      | true ↦ λ open_. ap is_unanswered (get-calls_in fields.table u.work.call) ∙ answered_is (map_of.get fields.table u.work.call) (kept.over i u at low open_)
      | false ↦ λ closed. refl
    ] refl

-- an outcome that isn't missing is there
outcome_is : {A : Type 0} (o : Option A) → is_none o ≡ false → is_some o ≡ true
outcome_is None h = absurd (cc)
outcome_is (Some x) h = refl

-- units of which none waits may be passed over
pub may_pass : (fields : Inside) (past : ℕ) → past ≤ length fields.units.items → NoneWaits (calling_of fields) past → ArePast fields.units.items fields.table past
may_pass fields past within none = record {
  within = within;
  over = λ i u at low open_ row g.
      outcome_is row.call.outcome
      (sym (ap is_unanswered (get-calls_in fields.table u.work.call ∙ ap (option_map (λ (r : Row). r.call)) g))
      ∙ ap (λ b. b && is_unanswered (call_of (calling_of fields) u.work.call)) (sym open_)
      ∙ none i u at low);
}

-- elements that don't pass a test are left out in front
pub filter-drop : {X : Type 0} (p : X → Bool) (n : ℕ) (xs : List X) → ((i : ℕ) (x : X) → slice_get xs i ≡ Some x → i < n → p x ≡ false) → filter p (drop n xs) ≡ filter p xs
filter-drop p zero xs h = refl
filter-drop p (suc n) [] h = refl
filter-drop p (suc n) (x ∷ xs) h =
    filter-drop p n xs (λ i y e l. h (suc i) y e (omega (arith, l)))
    ∙ ap (λ b. cond b (x ∷ filter p xs) (filter p xs)) (sym (h 0 x refl (omega arith)))
