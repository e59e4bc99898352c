-- Hints stay true.
use Rattle.std.proofs.Common.{◌≡◌, ℕ, ◌<◌, ◌≤◌, ◌==◌, nat_lt, Bool, true, false, cond, not, ◌&&◌, if◌then◌else◌, List, Option, Some, None, is_none, is_some, refl, sym, ap, subst, ◌∙◌, arith}
use Rattle.std.proofs.lemmas.Bool.{and_from, and_parts, eq-eqb, eqb-true, false_from_ne_true, lt-ltb, ltb-false, ltb-true, true≢false}
use Rattle.std.specs.FinMap as map_of
use Rattle.std.specs.Option.{option_map}
use Rattle.grid_base.specs.Portion.{Portion}
use Rattle.grid_base.specs.declared.stamped.Stamped.{Stamped}
use Rattle.grid_base.specs.declared.stamped_entry.StampedEntry.{StampedEntry}
use Rattle.state_transfer.specs.Cells.{Destination}
use Rattle.state_transfer.specs.Changes.{changes, marks, ticks, unexpired}
use Rattle.state_transfer.specs.Chunks.{begun, flies, lands, may_send, provider_of, sends, with_chunk}
use Rattle.state_transfer.specs.Copying.{Copying, Transfer, Transfers, transfer_to}
use Rattle.state_transfer.specs.Leaving.{cancels, closes, drops, forgets, outlives, restarts}
use Rattle.state_transfer.proofs.CellLaws.{to, transfer-none}
use Rattle.state_transfer.proofs.LeavingLaws.{transfer-closes, transfer-departs}
use Rattle.state_transfer.proofs.StepLaws.{emptied, thinned, transfer-changes, transfer-lands, transfer-sends, transfer-ticks}
use Rattle.topology_coord.specs.Coordination.{Coordination, all_installed, first_live}
use Rattle.topology_coord.specs.Following.{receives}
use Rattle.topology_phase.specs.Owners.{owners_at}
use Rattle.cluster_model.specs.State.{Holding}
use Rattle.cluster_model.specs.Transfers.{provider, transfer_of}
use Rattle.cluster_store.specs.Hints.{IsAhead, IsFlying, AreHints, IsPassed, IsWith, IsWithout, WasAnnounced, WasLanded, WasSent, back_to, hints_changed, may_fly}
use Rattle.cluster_store.specs.Sending.{sender}
use Rattle.cluster_store.specs.declared.hints.Hints.{Hints}
use Rattle.cluster_store.specs.declared.hints.ahead.Ahead.{Ahead}
use Rattle.cluster_store.specs.declared.hints.flying.Flying.{Flying}
use Rattle.cluster_store.specs.declared.hints.place.Place.{Place}

-- ---- what flies

-- where no more flies, the hint of what flies stays true
flying_kept : (k : Flying) (before later : Transfers) → ((r s : ℕ) → flies (transfer_to before r s) ≡ false → flies (transfer_to later r s) ≡ false) → IsFlying k before → IsFlying k later
flying_kept k before later kept h = λ r s none. kept r s (h r s none)

-- where no transfer is there, nothing flies
pub nothing_flies : (ts : Transfers) → ts ≡ map_of.empty → (r s : ℕ) → flies (transfer_to ts r s) ≡ false
nothing_flies ts e r s = ap (λ (x : Transfers). flies (transfer_to x r s)) e ∙ ap flies (transfer-none r s)

-- a chunk flies besides
module _ (r s q : ℕ) (chunk : Portion StampedEntry) (p : Copying) where
  others_sent : (x y : ℕ) → ((x == r) && (y == s)) ≡ false → flies (transfer_to p.transfers x y) ≡ false → flies (transfer_to (sends r s q chunk p).transfers x y) ≡ false
  others_sent x y other none =
      ap flies (transfer-sends r s q chunk p x y)
      ∙ ap (λ b. flies (cond b (Some (with_chunk chunk (begun (transfer_to p.transfers r s) q))) (transfer_to p.transfers x y))) other
      ∙ none

  flying_sends : (k next : Flying) → IsWith k r s next → IsFlying k p.transfers → IsFlying next (sends r s q chunk p).transfers
  flying_sends k next is h = λ x y none. let parts = is x y none in others_sent x y parts.0 (h x y parts.1)

-- one flies no longer
emptied_none : (r s x y : ℕ) (found : Option Transfer) → flies found ≡ false → flies (option_map (emptied r s x y) found) ≡ false
emptied_none r s x y None h = refl
emptied_none r s x y (Some v) h = elim ((x == r) && (y == s)) as (λ b. is_some (cond b None v.flying) ≡ false) [
  | true ↦ refl
  | false ↦ h
]

-- a transfer that was emptied has nothing on its way
emptied_there : (r s x y : ℕ) (found : Option Transfer) → ((x == r) && (y == s)) ≡ true → flies (option_map (emptied r s x y) found) ≡ false
emptied_there r s x y None e = refl
emptied_there r s x y (Some v) e = ap (λ b. is_some (cond b None v.flying)) e

module _ (r s : ℕ) (p : Copying) where
  others_landed : (x y : ℕ) → flies (transfer_to p.transfers x y) ≡ false → flies (transfer_to (lands r s p).transfers x y) ≡ false
  others_landed x y none = ap flies (transfer-lands r s p x y) ∙ emptied_none r s x y (transfer_to p.transfers x y) none

  flying_lands : (k next : Flying) → IsWithout k r s next → IsFlying k p.transfers → IsFlying next (lands r s p).transfers
  flying_lands k next is h = λ x y none. at_place x y none ((x == r) && (y == s)) refl
    where
      at_place : (x y : ℕ) → may_fly next x y ≡ false → (here : Bool) → ((x == r) && (y == s)) ≡ here → flies (transfer_to (lands r s p).transfers x y) ≡ false
      at_place x y none false e = others_landed x y (h x y (is x y e none))
      at_place x y none true e = ap flies (transfer-lands r s p x y) ∙ emptied_there r s x y (transfer_to p.transfers x y) e

-- of what a departure leaves, no more flies
kept_none : (b : Bool) (found : Option Transfer) → flies found ≡ false → flies (cond b found None) ≡ false
kept_none true found h = h
kept_none false found h = refl

-- a departure brings nothing on its way
pub departs_none : (node : ℕ) (lost : ℕ → Bool) (p : Copying) (r s : ℕ) → flies (transfer_to p.transfers r s) ≡ false
    → flies (transfer_to (drops node (λ _. true) (forgets lost (restarts node (cancels node p)))).transfers r s) ≡ false
departs_none node lost p r s none =
    let found : Option Transfer = cond (not (r == node)) (transfer_to p.transfers r s) None in
    ap flies (transfer-departs node lost p r s)
    ∙ kept_none (not (lost s)) (cond (outlives node found) found None) (kept_none (outlives node found) found (kept_none (not (r == node)) (transfer_to p.transfers r s) none))

-- ---- transfers that are alike

-- a transfer is as before for one who sends or lands
record IsAlike (found later : Option Transfer) : Type 0 where
  flying : flies later ≡ flies found
  may : may_send later ≡ may_send found
  provider : (other : Option ℕ) → provider_of later other ≡ provider_of found other

-- a transfer is like itself
is_alike : (found later : Option Transfer) → later ≡ found → IsAlike found later
is_alike found later e = record { flying = ap flies e; may = ap may_send e; provider = λ other. ap (λ o. provider_of o other) e }

-- a note of a key that changed leaves what is on its way
marked : (nodes : List ℕ) (s : ℕ) (key : List ℕ) (d : Destination) (found : Option Transfer) → IsAlike found (option_map (marks nodes s key d) found)
marked nodes s key d None = record { flying = refl; may = refl; provider = λ _. refl }
marked nodes s key d (Some v) = record { flying = refl; may = refl; provider = λ _. refl }

-- what is on its way stays so when time passes, be it empty
some_left : (clock : ℕ) (flown : Option (List StampedEntry)) → is_some (option_map (unexpired clock) flown) ≡ is_some flown
some_left clock None = refl
some_left clock (Some es) = refl

-- and so does nothing
none_of : (clock : ℕ) (flown : Option (List StampedEntry)) → is_none (option_map (unexpired clock) flown) ≡ is_none flown
none_of clock None = refl
none_of clock (Some es) = refl

-- a tick leaves a transfer alike
thin : (clock : ℕ) (found : Option Transfer) → IsAlike found (option_map (thinned clock) found)
thin clock None = record { flying = refl; may = refl; provider = λ _. refl }
thin clock (Some v) = record { flying = some_left clock v.flying; may = ap (λ b. not v.last && b) (none_of clock v.flying); provider = λ _. refl }

-- what is like an equal one is like it
then_alike : (found between later : Option Transfer) → later ≡ between → IsAlike found between → IsAlike found later
then_alike found between later e h = record { flying = ap flies e ∙ h.flying; may = ap may_send e ∙ h.may; provider = λ other. ap (λ o. provider_of o other) e ∙ h.provider other }

-- ---- places before which no chunk may be sent

-- before the first place there is nothing
pub none_passed : (st : Holding) → IsPassed st 0 0
none_passed st = record { receivers = λ r s before within. absurd (omega (arith, before)); segments = λ s before within. absurd (omega (arith, before)) }

-- where no chunk may be sent, none may be sent later either, where the transfer is alike
sender_alike : (st : Holding) (c : Copying) (r s : ℕ) → IsAlike (transfer_to st.copying.transfers r s) (transfer_to c.transfers r s) → sender st r s ≡ None → sender (record st { copying = c }) r s ≡ None
unfolding sender
sender_alike st c r s alike none =
    (λ i. if all_installed st.coord && (receives st.coord r s && alike.may i) then alike.provider (first_live st.coord (owners_at st.coord.newest.current s)) i else None) ∙ none

-- a test and one that fails, together, fail
and_none : (b : Bool) → (b && false) ≡ false
and_none true = refl
and_none false = refl

-- where the transfer may not send, no chunk may be sent
sender_waits : (st : Holding) (r s : ℕ) → may_send (transfer_of st r s) ≡ false → sender st r s ≡ None
unfolding sender
sender_waits st r s waits =
    ap (λ b. if all_installed st.coord && (receives st.coord r s && b) then provider st r s else None) waits
    ∙ ap (λ b. if all_installed st.coord && b then provider st r s else None) (and_none (receives st.coord r s))
    ∙ ap (λ b. if b then provider st r s else None) (and_none (all_installed st.coord))

-- behind a chunk that flies none may be sent
sender_sends : (st : Holding) (r s q : ℕ) (chunk : Portion StampedEntry) (x y : ℕ) → sender st x y ≡ None → sender (record st { copying = sends r s q chunk st.copying }) x y ≡ None
sender_sends st r s q chunk x y none = by_place ((x == r) && (y == s)) refl
  where
    there : Transfer
    there = with_chunk chunk (begun (transfer_to st.copying.transfers r s) q)

    later : (b : Bool) → ((x == r) && (y == s)) ≡ b → transfer_to (sends r s q chunk st.copying).transfers x y ≡ cond b (Some there) (transfer_to st.copying.transfers x y)
    later b e = transfer-sends r s q chunk st.copying x y ∙ ap (λ same. cond same (Some there) (transfer_to st.copying.transfers x y)) e

    by_place : (b : Bool) → ((x == r) && (y == s)) ≡ b → sender (record st { copying = sends r s q chunk st.copying }) x y ≡ None
    by_place true e = sender_waits (record st { copying = sends r s q chunk st.copying }) x y (ap may_send (later true e) ∙ and_none (not chunk.last))
    by_place false e =
        sender_alike st (sends r s q chunk st.copying) x y
        (is_alike (transfer_to st.copying.transfers x y) (transfer_to (sends r s q chunk st.copying).transfers x y) (later false e)) none

-- two places that differ
other_place : (x y r s : ℕ) → (x ≡ r → y ≡ s → ⊥) → ((x == r) && (y == s)) ≡ false
other_place x y r s differ =
    false_from_ne_true ((x == r) && (y == s)) (λ e. let parts = and_parts (x == r) (y == s) e in differ (eqb-true x r parts.0) (eqb-true y s parts.1))

-- another transfer isn't emptied
emptied_other : (r s x y : ℕ) (found : Option Transfer) → ((x == r) && (y == s)) ≡ false → option_map (emptied r s x y) found ≡ found
emptied_other r s x y None e = refl
emptied_other r s x y (Some v) e = ap (λ b. Some (record v { flying = cond b None v.flying })) e

-- a landing lets chunks be sent at its own place alone
module _ (st : Holding) (r s : ℕ) where
  sender_lands : (x y : ℕ) → (x ≡ r → y ≡ s → ⊥) → sender st x y ≡ None → sender (record st { copying = lands r s st.copying }) x y ≡ None
  sender_lands x y differ none =
      sender_alike st (lands r s st.copying) x y
      (is_alike (transfer_to st.copying.transfers x y) (transfer_to (lands r s st.copying).transfers x y)
      (transfer-lands r s st.copying x y ∙ emptied_other r s x y (transfer_to st.copying.transfers x y) (other_place x y r s differ)))
      none

  passed_lands : (place : Place) → IsPassed st place.receiver place.segment
      → IsPassed (record st { copying = lands r s st.copying }) (back_to place r s).receiver (back_to place r s).segment
  passed_lands place h = by_receiver (nat_lt r place.receiver) refl
    where
      to_here : Place
      to_here = record { receiver = r; segment = s }

      IsSo : Place → Type 0
      IsSo p = IsPassed (record st { copying = lands r s st.copying }) p.receiver p.segment

      by_segment : (b : Bool) → ((r == place.receiver) && nat_lt s place.segment) ≡ b → place.receiver ≤ r → IsSo (if b then to_here else place)
      by_segment true e past =
          let parts = and_parts (r == place.receiver) (nat_lt s place.segment) e in
          let same : r ≡ place.receiver = eqb-true r place.receiver parts.0 in
          let before : s < place.segment = ltb-true s place.segment parts.1 in
          record {
            receivers = λ x y less within. sender_lands x y (λ here _. omega (arith, here, less)) (h.receivers x y (omega (arith, same, less)) within);
            segments = λ y less within. sender_lands r y (λ _ here. omega (arith, here, less)) (ap (λ n. sender st n y) same ∙ h.segments y (omega (arith, before, less)) within);
          }
      by_segment false e past = record {
        receivers = λ x y less within. sender_lands x y (λ here _. omega (arith, here, less, past)) (h.receivers x y less within);
        segments = λ y less within. sender_lands place.receiver y
            (λ same here. true≢false (sym (and_from (r == place.receiver) (nat_lt s place.segment) (eq-eqb r place.receiver (sym same)) (lt-ltb s place.segment (omega (arith, here, less)))) ∙ e)) (h.segments y less within);
      }

      by_receiver : (b : Bool) → nat_lt r place.receiver ≡ b → IsSo (if b then to_here else if (r == place.receiver) && nat_lt s place.segment then to_here else place)
      by_receiver true e =
          let before : r < place.receiver = ltb-true r place.receiver e in
          record {
            receivers = λ x y less within. sender_lands x y (λ here _. omega (arith, here, less)) (h.receivers x y (omega (arith, before, less)) within);
            segments = λ y less within. sender_lands r y (λ _ here. omega (arith, here, less)) (h.receivers r y before within);
          }
      by_receiver false e = by_segment ((r == place.receiver) && nat_lt s place.segment) refl (ltb-false r place.receiver e)

-- ---- hints at each event

-- hints stay true where each transfer is like the one before
hints_alike : (k : Hints) (st : Holding) (c : Copying) → ((r s : ℕ) → IsAlike (transfer_to st.copying.transfers r s) (transfer_to c.transfers r s)) → AreHints k st → AreHints k (record st { copying = c })
hints_alike k st c alike h = record {
  ahead = h.ahead;
  flying = flying_kept k.flying st.copying.transfers c.transfers (λ r s none. (alike r s).flying ∙ none) h.flying;
  passed = record {
    receivers = λ x y before within. sender_alike st c x y (alike x y) (h.passed.receivers x y before within);
    segments = λ y before within. sender_alike st c k.from.receiver y (alike k.from.receiver y) (h.passed.segments y before within);
  };
}

-- a write or an erasure
pub hints_changes : (k : Hints) (st : Holding) (nodes : List ℕ) (s : ℕ) (key : List ℕ) (o : Option Stamped) → AreHints k st → AreHints k (record st { copying = changes nodes s key o st.copying })
hints_changes k st nodes s key o =
    hints_alike k st (changes nodes s key o st.copying)
    (λ r t. then_alike (transfer_to st.copying.transfers r t) (option_map (marks nodes s key (to r t)) (transfer_to st.copying.transfers r t)) (transfer_to (changes nodes s key o st.copying).transfers r t)
    (transfer-changes nodes s key o st.copying r t) (marked nodes s key (to r t) (transfer_to st.copying.transfers r t)))

-- a tick
pub hints_ticks : (k : Hints) (st : Holding) (clock : ℕ) → AreHints k st → AreHints k (record st { copying = ticks clock st.copying })
hints_ticks k st clock =
    hints_alike k st (ticks clock st.copying)
    (λ r t. then_alike (transfer_to st.copying.transfers r t) (option_map (thinned clock) (transfer_to st.copying.transfers r t)) (transfer_to (ticks clock st.copying).transfers r t)
    (transfer-ticks clock st.copying r t) (thin clock (transfer_to st.copying.transfers r t)))

-- a chunk is sent
pub hints_sends : (k next : Hints) (st : Holding) (r s q : ℕ) (chunk : Portion StampedEntry) → WasSent r s k next → AreHints k st → AreHints next (record st { copying = sends r s q chunk st.copying })
hints_sends k next st r s q chunk is h = record {
  ahead = subst (λ (a : Ahead). IsAhead a st.coord) (sym is.ahead) h.ahead;
  flying = flying_sends r s q chunk st.copying k.flying next.flying is.flying h.flying;
  passed = subst (λ (place : Place). IsPassed (record st { copying = sends r s q chunk st.copying }) place.receiver place.segment) (sym is.from) (record {
    receivers = λ x y before within. sender_sends st r s q chunk x y (h.passed.receivers x y before within);
    segments = λ y before within. sender_sends st r s q chunk k.from.receiver y (h.passed.segments y before within);
  });
}

-- one lands
pub hints_lands : (k next : Hints) (st : Holding) (r s : ℕ) → WasLanded r s k next → AreHints k st → AreHints next (record st { copying = lands r s st.copying })
hints_lands k next st r s is h = record {
  ahead = subst (λ (a : Ahead). IsAhead a st.coord) (sym is.ahead) h.ahead;
  flying = flying_lands r s st.copying k.flying next.flying is.flying h.flying;
  passed = subst (λ (place : Place). IsPassed (record st { copying = lands r s st.copying }) place.receiver place.segment) (sym is.from) (passed_lands st r s k.from h.passed);
}

-- members or topologies change, and no more flies
pub hints_later : (k : Hints) (st : Holding) (ahead : Ahead) (coord : Coordination) (copying : Copying) → IsAhead ahead coord
    → ((r s : ℕ) → flies (transfer_to st.copying.transfers r s) ≡ false → flies (transfer_to copying.transfers r s) ≡ false)
    → AreHints k st → AreHints (hints_changed ahead k) (record st { coord = coord; copying = copying })
hints_later k st ahead coord copying is kept h = record { ahead = is; flying = flying_kept k.flying st.copying.transfers copying.transfers kept h.flying; passed = none_passed (record st { coord = coord; copying = copying }) }

-- a topology is announced
pub hints_announces : (k next : Hints) (st : Holding) (keeps : Bool) (coord : Coordination) → WasAnnounced keeps k next → AreHints k st → AreHints next (record st { coord = coord; copying = cond keeps st.copying (closes st.copying) })
hints_announces k next st true coord is h = record {
  ahead = subst (λ (a : Ahead). IsAhead a coord) (sym is.ahead) tt;
  flying = subst (λ (f : Flying). IsFlying f st.copying.transfers) (sym (is.kept refl)) h.flying;
  passed = subst (λ (place : Place). IsPassed (record st { coord = coord }) place.receiver place.segment) (sym is.from) (none_passed (record st { coord = coord }));
}
hints_announces k next st false coord is h = record {
  ahead = subst (λ (a : Ahead). IsAhead a coord) (sym is.ahead) tt;
  flying = λ r s none. ap flies (transfer-closes st.copying r s);
  passed = subst (λ (place : Place). IsPassed (record st { coord = coord; copying = closes st.copying }) place.receiver place.segment) (sym is.from) (none_passed (record st { coord = coord; copying = closes st.copying }));
}
