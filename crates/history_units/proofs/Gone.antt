-- A unit that is still open is gone where its node departed after it was asked for, or installed a topology by which it doesn't
-- read the segment after the unit began.
use Rattle.std.proofs.Common.{◌≡◌, ℕ, suc, ◌≤◌, ◌==◌, nat_lt, Bool, true, false, not, ◌&&◌, ◌||◌, cond, List, [], ◌∷◌, length, refl, sym, ap, ◌∙◌, arith}
use Rattle.std.proofs.lemmas.Bool.{lt-ltb, le-ltb}
use Rattle.std.specs.List.{list_any}
use Rattle.grid_event.specs.Members.{newest_topology}
use Rattle.grid_event.specs.UnitHistories.{has_begun, has_ended, is_gone, was_asked, was_refused}
use Rattle.grid_event.specs.declared.call_events.Ask.{Ask}
use Rattle.grid_event.specs.declared.config.Config.{Config}
use Rattle.grid_event.specs.declared.event.Event.{Event}
use Rattle.grid_event.specs.declared.event.Event.TheVariants.{Depart, Install, Round, Begin, Done}
use Rattle.topology_phase.specs.Owners.{among}
use Rattle.topology_phase.specs.Topologies.{read_owners}
use Rattle.history_members.specs.Dates.{departed_at, unread_at}
use Rattle.history_units.specs.Dates.{IsOrderly, asked_at, begun_at, gone_by_dates}

-- dates lie within the past
picked_within : (b : Bool) (n : ℕ) (past : List Event) → n ≤ length past → cond b (suc (length past)) n ≤ suc (length past)
picked_within true n past h = omega arith
picked_within false n past h = omega arith

pub departed_within : (past : List Event) (node : ℕ) → departed_at past node ≤ length past
departed_within [] node = omega arith
departed_within (Depart other ∷ past) node = picked_within (other == node) (departed_at past node) past (departed_within past node)
departed_within (_ ∷ past) node = let h = departed_within past node in omega arith

pub asked_within : (past : List Event) (unit : ℕ) → asked_at past unit ≤ length past
asked_within [] unit = omega arith
asked_within (Round r ∷ past) unit = picked_within (list_any (λ (ask : Ask). ask.unit == unit) r.asks) (asked_at past unit) past (asked_within past unit)
asked_within (_ ∷ past) unit = let h = asked_within past unit in omega arith

pub unread_within : (config : Config) (past : List Event) (node segment : ℕ) → unread_at config past node segment ≤ length past
unread_within config [] node segment = omega arith
unread_within config (Install other id ∷ past) node segment =
    picked_within ((other == node) && not (among other (read_owners (newest_topology config past) segment))) (unread_at config past node segment) past (unread_within config past node segment)
unread_within config (_ ∷ past) node segment = let h = unread_within config past node segment in omega arith

pub begun_within : (past : List Event) (unit : ℕ) → begun_at past unit ≤ length past
begun_within [] unit = omega arith
begun_within (Begin other runs ∷ past) unit = picked_within ((other == unit) && runs) (begun_at past unit) past (begun_within past unit)
begun_within (_ ∷ past) unit = let h = begun_within past unit in omega arith

-- what wasn't asked for hasn't begun
pub asked_before : (past : List Event) (unit : ℕ) → IsOrderly past unit → was_asked past unit ≡ false → has_begun past unit ≡ false
asked_before [] unit h unasked = refl
asked_before (Round r ∷ past) unit h unasked = by_test (list_any (λ (ask : Ask). ask.unit == unit) r.asks) unasked (asked_before past unit h.1)
  where
    by_test : (b : Bool) → (b || was_asked past unit) ≡ false → (was_asked past unit ≡ false → has_begun past unit ≡ false) → has_begun past unit ≡ false
    by_test true e rest = absurd (cc)
    by_test false e rest = rest e
asked_before (Begin other runs ∷ past) unit h unasked = by_test (other == unit) refl (asked_before past unit h.1 unasked)
  where
    by_test : (b : Bool) → (other == unit) ≡ b → has_begun past unit ≡ false → ((b && runs) || has_begun past unit) ≡ false
    by_test true e rest = let p = h.0 e in let yes = p.0 in absurd (cc)
    by_test false e rest = rest
asked_before (_ ∷ past) unit h unasked = asked_before past unit h.1 unasked

-- a unit that is neither refused nor ended is gone where it is so by dates
pub gone_dated : (config : Config) (past : List Event) (ask : Ask) → IsOrderly past ask.unit → was_refused past ask.unit ≡ false → has_ended past ask.unit ≡ false → is_gone config past ask ≡ gone_by_dates config past ask
gone_dated config [] ask h unrefused going = refl
gone_dated config (Depart node ∷ past) ask h unrefused going = by_node (node == ask.node) (gone_dated config past ask h.1 unrefused going)
  where
    table : (asked later begun : Bool) → ((asked && (later || begun)) || asked) ≡ (asked && (true || begun))
    table true true begun = refl
    table true false true = refl
    table true false false = refl
    table false later begun = refl

    by_node : (b : Bool) → is_gone config past ask ≡ gone_by_dates config past ask →
        (is_gone config past ask || (b && (was_asked past ask.unit && (not (was_refused past ask.unit) && not (has_ended past ask.unit)))))
        ≡ (was_asked past ask.unit && (nat_lt (asked_at past ask.unit) (cond b (suc (length past)) (departed_at past ask.node))
        || (has_begun past ask.unit && nat_lt (begun_at past ask.unit) (unread_at config past ask.node ask.segment))))
    by_node true before =
        let bound = asked_within past ask.unit in
        let soon : nat_lt (asked_at past ask.unit) (suc (length past)) ≡ true = lt-ltb (asked_at past ask.unit) (suc (length past)) (omega arith) in
        let begun = has_begun past ask.unit && nat_lt (begun_at past ask.unit) (unread_at config past ask.node ask.segment) in
        (λ i. before i || (was_asked past ask.unit && (not (unrefused i) && not (going i))))
        ∙ (ap (λ b. gone_by_dates config past ask || b) (all_true (was_asked past ask.unit))
        ∙ (table (was_asked past ask.unit) (nat_lt (asked_at past ask.unit) (departed_at past ask.node)) begun
        ∙ ap (λ b. was_asked past ask.unit && (b || begun)) (sym soon)))
      where
        all_true : (b : Bool) → (b && true) ≡ b
        all_true true = refl
        all_true false = refl
    by_node false before = (λ i. before i || false) ∙ or_false (gone_by_dates config past ask)
      where
        or_false : (b : Bool) → (b || false) ≡ b
        or_false true = refl
        or_false false = refl
gone_dated config (Install node id ∷ past) ask h unrefused going = by_place ((node == ask.node) && not (among node (read_owners (newest_topology config past) ask.segment))) refl (gone_dated config past ask h.1 unrefused going) (asked_before past ask.unit h.1)
  where
    regroup : (a b c : Bool) → (a && ((b && true) && c)) ≡ (b && (a && c))
    regroup true true c = refl
    regroup true false c = refl
    regroup false true c = refl
    regroup false false c = refl

    table : (asked departed begun later : Bool) → (asked ≡ false → begun ≡ false) → ((asked && (departed || (begun && later))) || (begun && true)) ≡ (asked && (departed || (begun && true)))
    table true true begun later g = refl
    table true false true true g = refl
    table true false true false g = refl
    table true false false later g = refl
    table false departed begun later g = ap (λ b. b && true) (g refl)

    or_false : (b c : Bool) → (b || (c && false)) ≡ b
    or_false true c = refl
    or_false false true = refl
    or_false false false = refl

    by_place : (b : Bool) → ((node == ask.node) && not (among node (read_owners (newest_topology config past) ask.segment))) ≡ b → is_gone config past ask ≡ gone_by_dates config past ask →
        (was_asked past ask.unit ≡ false → has_begun past ask.unit ≡ false) →
        (is_gone config past ask || ((node == ask.node) && ((has_begun past ask.unit && not (has_ended past ask.unit)) && not (among node (read_owners (newest_topology config past) ask.segment)))))
        ≡ (was_asked past ask.unit && (nat_lt (asked_at past ask.unit) (departed_at past ask.node)
        || (has_begun past ask.unit && nat_lt (begun_at past ask.unit) (cond b (suc (length past)) (unread_at config past ask.node ask.segment)))))
    by_place true e before first =
        let bound = begun_within past ask.unit in
        let soon : nat_lt (begun_at past ask.unit) (suc (length past)) ≡ true = lt-ltb (begun_at past ask.unit) (suc (length past)) (omega arith) in
        (λ i. before i || ((node == ask.node) && ((has_begun past ask.unit && not (going i)) && not (among node (read_owners (newest_topology config past) ask.segment)))))
        ∙ (ap (λ b. gone_by_dates config past ask || b) (regroup (node == ask.node) (has_begun past ask.unit) (not (among node (read_owners (newest_topology config past) ask.segment))))
        ∙ (ap (λ b. gone_by_dates config past ask || (has_begun past ask.unit && b)) e
        ∙ (table (was_asked past ask.unit) (nat_lt (asked_at past ask.unit) (departed_at past ask.node)) (has_begun past ask.unit) (nat_lt (begun_at past ask.unit) (unread_at config past ask.node ask.segment)) first
        ∙ ap (λ b. was_asked past ask.unit && (nat_lt (asked_at past ask.unit) (departed_at past ask.node) || (has_begun past ask.unit && b))) (sym soon))))
    by_place false e before first =
        (λ i. before i || ((node == ask.node) && ((has_begun past ask.unit && not (going i)) && not (among node (read_owners (newest_topology config past) ask.segment)))))
        ∙ (ap (λ b. gone_by_dates config past ask || b) (regroup (node == ask.node) (has_begun past ask.unit) (not (among node (read_owners (newest_topology config past) ask.segment))))
        ∙ (ap (λ b. gone_by_dates config past ask || (has_begun past ask.unit && b)) e
        ∙ or_false (gone_by_dates config past ask) (has_begun past ask.unit)))
gone_dated config (Round r ∷ past) ask h unrefused going = by_test (list_any (λ (other : Ask). other.unit == ask.unit) r.asks) refl (gone_dated config past ask h.1 unrefused going)
  where
    by_test : (b : Bool) → list_any (λ (other : Ask). other.unit == ask.unit) r.asks ≡ b → is_gone config past ask ≡ gone_by_dates config past ask →
        is_gone config past ask ≡ ((b || was_asked past ask.unit) && (nat_lt (cond b (suc (length past)) (asked_at past ask.unit)) (departed_at past ask.node)
        || (has_begun past ask.unit && nat_lt (begun_at past ask.unit) (unread_at config past ask.node ask.segment))))
    by_test true e before =
        let none = h.0 e in
        let bound = departed_within past ask.node in
        let not_yet : nat_lt (suc (length past)) (departed_at past ask.node) ≡ false = le-ltb (suc (length past)) (departed_at past ask.node) (omega arith) in
        let unbegun = asked_before past ask.unit h.1 none in
        before
        ∙ (ap (λ b. b && (nat_lt (asked_at past ask.unit) (departed_at past ask.node) || (has_begun past ask.unit && nat_lt (begun_at past ask.unit) (unread_at config past ask.node ask.segment)))) none
        ∙ sym (λ i. not_yet i || (unbegun i && nat_lt (begun_at past ask.unit) (unread_at config past ask.node ask.segment))))
    by_test false e before = before
gone_dated config (Begin other runs ∷ past) ask h unrefused going = by_test (other == ask.unit) refl runs unrefused (λ refused. gone_dated config past ask h.1 refused going)
  where
    or_part : (a b : Bool) → (a || b) ≡ false → b ≡ false
    or_part true b e = absurd (cc)
    or_part false b e = e

    by_test : (b : Bool) → (other == ask.unit) ≡ b → (runs : Bool) → ((b && not runs) || was_refused past ask.unit) ≡ false →
        (was_refused past ask.unit ≡ false → is_gone config past ask ≡ gone_by_dates config past ask) →
        is_gone config past ask ≡ (was_asked past ask.unit && (nat_lt (asked_at past ask.unit) (departed_at past ask.node)
        || (((b && runs) || has_begun past ask.unit) && nat_lt (cond (b && runs) (suc (length past)) (begun_at past ask.unit)) (unread_at config past ask.node ask.segment))))
    by_test true e true o before =
        let p = h.0 e in
        let bound = unread_within config past ask.node ask.segment in
        let not_yet : nat_lt (suc (length past)) (unread_at config past ask.node ask.segment) ≡ false = le-ltb (suc (length past)) (unread_at config past ask.node ask.segment) (omega arith) in
        before o
        ∙ (ap (λ b. was_asked past ask.unit && (nat_lt (asked_at past ask.unit) (departed_at past ask.node) || (b && nat_lt (begun_at past ask.unit) (unread_at config past ask.node ask.segment)))) p.1
        ∙ ap (λ b. was_asked past ask.unit && (nat_lt (asked_at past ask.unit) (departed_at past ask.node) || b)) (sym not_yet))
    by_test true e false o before = absurd (cc)
    by_test false e runs o before = before (or_part (false && not runs) (was_refused past ask.unit) o)
gone_dated config (Done other ∷ past) ask h unrefused going = gone_dated config past ask h.1 unrefused (or_part (other == ask.unit) (has_ended past ask.unit) going)
  where
    or_part : (a b : Bool) → (a || b) ≡ false → b ≡ false
    or_part true b e = absurd (cc)
    or_part false b e = e
gone_dated config (_ ∷ past) ask h unrefused going = gone_dated config past ask h.1 unrefused going
