-- Where transfers lead: a fact of the receiver, the segment and the provider of each transfer, and what keeps it.
use Rattle.std.proofs.Common.{◌≡◌, ℕ, true, false, cond, ◌&&◌, ◌==◌, List, Option, Some, None, Result, Ok, Err, IfOk, IfSome, IsNone, OnErr, OnOk, refl, sym, ap, subst, ◌∙◌, inl, inr}
use Rattle.std.proofs.lemmas.Bool.{and_parts, cases_Bool, eq-eqb, eqb-true, or_right, true≢false}
use Rattle.std.proofs.lemmas.Option.{none-some}
use Rattle.std.specs.Option.{option_map, unwrap_or}
use Rattle.grid_base.specs.Portion.{Portion}
use Rattle.grid_base.specs.declared.stamped.Stamped.{Stamped}
use Rattle.grid_base.specs.declared.stamped_entry.StampedEntry.{StampedEntry}
use Rattle.state_transfer.specs.Calls.{ProvidesNone, goes_on}
use Rattle.state_transfer.specs.Changes.{changes, marks, ticks}
use Rattle.state_transfer.specs.Chunks.{begun, lands, sends, with_chunk}
use Rattle.state_transfer.specs.Copying.{Copying, Stores, Transfer, Transfers, has_ended, transfer_to}
use Rattle.state_transfer.specs.Leaving.{closes}
use Rattle.state_transfer.proofs.LeavingLaws.{transfer-closes}
use Rattle.state_transfer.proofs.StepLaws.{emptied, thinned, transfer-changes, transfer-lands, transfer-sends, transfer-ticks}

-- the fact is true of each transfer
abbrev pub AreRouted : (ℕ → ℕ → ℕ → Type 0) → Transfers → Type 0
AreRouted Route transfers = (r s : ℕ) (t : Transfer) → transfer_to transfers r s ≡ Some t → Route r s t.provider

-- where all transfers are closed it is
pub closed_are_routed : (Route : ℕ → ℕ → ℕ → Type 0) (stores before : Stores) → stores ≡ record before { copying = closes before.copying } → AreRouted Route stores.copying.transfers
closed_are_routed Route stores before is r s t there =
    absurd (none-some t (sym (ap (λ (x : Stores). transfer_to x.copying.transfers r s) is ∙ transfer-closes before.copying r s) ∙ there))

-- a chunk that is sent keeps it, where it is true of the transfer that the chunk begins
pub sent_are_routed : (Route : ℕ → ℕ → ℕ → Type 0) (r s provider : ℕ) (chunk : Portion StampedEntry) (p : Copying) → Route r s provider → AreRouted Route p.transfers
    → AreRouted Route (sends r s provider chunk p).transfers
sent_are_routed Route r s provider chunk p new kept q u t is =
    elim (cases_Bool ((q == r) && (u == s))) [
      | inl here ↦
          let e = and_parts (q == r) (u == s) here in
          let there : Some (with_chunk chunk (begun (transfer_to p.transfers r s) provider)) ≡ Some t =
          ap (λ b. cond b (Some (with_chunk chunk (begun (transfer_to p.transfers r s) provider))) (transfer_to p.transfers q u)) (sym here) ∙ found in
          subst (λ n. Route n u t.provider) (sym (eqb-true q r e.0)) (subst (λ n. Route r n t.provider) (sym (eqb-true u s e.1))
          (subst (Route r s) (ap (λ o. (unwrap_or o t).provider) there) (first (transfer_to p.transfers r s) refl)))
      | inr elsewhere ↦
          kept q u t (ap (λ b. cond b (Some (with_chunk chunk (begun (transfer_to p.transfers r s) provider))) (transfer_to p.transfers q u)) (sym elsewhere) ∙ found)
    ]
  where
    found : cond ((q == r) && (u == s)) (Some (with_chunk chunk (begun (transfer_to p.transfers r s) provider))) (transfer_to p.transfers q u) ≡ Some t
    found = sym (transfer-sends r s provider chunk p q u) ∙ is

    first : (o : Option Transfer) → transfer_to p.transfers r s ≡ o → Route r s (begun o provider).provider
    first None e = new
    first (Some v) e = kept r s v e

-- what is true of the providers of all transfers stays, where a change keeps the provider
changed : (IsProvider : ℕ → Type 0) (f : Transfer → Transfer) → ((v : Transfer) → (f v).provider ≡ v.provider) → (o : Option Transfer)
    → ((v : Transfer) → o ≡ Some v → IsProvider v.provider) → (t : Transfer) → option_map f o ≡ Some t → IsProvider t.provider
changed IsProvider f keeps None kept t is = absurd (none-some t is)
changed IsProvider f keeps (Some v) kept t is = subst IsProvider (sym (keeps v) ∙ ap (λ o. (unwrap_or o t).provider) is) (kept v refl)

-- a chunk that lands keeps it
pub landed_are_routed : (Route : ℕ → ℕ → ℕ → Type 0) (r s : ℕ) (p : Copying) → AreRouted Route p.transfers → AreRouted Route (lands r s p).transfers
landed_are_routed Route r s p kept q u t is =
    changed (Route q u) (emptied r s q u) (λ v. refl) (transfer_to p.transfers q u) (kept q u) t (sym (transfer-lands r s p q u) ∙ is)

-- a write keeps it
pub written_are_routed : (Route : ℕ → ℕ → ℕ → Type 0) (nodes : List ℕ) (s : ℕ) (k : List ℕ) (o : Option Stamped) (p : Copying) → AreRouted Route p.transfers
    → AreRouted Route (changes nodes s k o p).transfers
written_are_routed Route nodes s k o p kept q u t is =
    changed (Route q u) (marks nodes s k (record { receiver = q; segment = u })) (λ v. refl) (transfer_to p.transfers q u) (kept q u) t (sym (transfer-changes nodes s k o p q u) ∙ is)

-- a transfer goes on with a node, where no other may provide it
pub routed_goes_on : (Route : ℕ → ℕ → ℕ → Type 0) (ts : Transfers) (r s provider : ℕ) → AreRouted Route ts → ((p : ℕ) → Route r s p → p ≡ provider) → goes_on (transfer_to ts r s) provider ≡ true
routed_goes_on Route ts r s provider kept only = by_cases (transfer_to ts r s) refl
  where
    by_cases : (o : Option Transfer) → transfer_to ts r s ≡ o → goes_on (transfer_to ts r s) provider ≡ true
    by_cases None e = ap (λ o. goes_on o provider) e
    by_cases (Some v) e = ap (λ o. goes_on o provider) e ∙ or_right (has_ended v) (v.provider == provider) (eq-eqb v.provider provider (only v.provider (kept r s v e)))

-- a node provides no transfer of a segment, where it may provide none
pub routed_provides_none : (Route : ℕ → ℕ → ℕ → Type 0) (ts : Transfers) (node s : ℕ) → AreRouted Route ts → ((r p : ℕ) → Route r s p → (p == node) ≡ false) → ProvidesNone ts node s
routed_provides_none Route ts node s kept never r t is = never r t.provider (kept r s t is)

-- a node receives no transfer of a segment, where it may receive none
pub routed_receives_none : (Route : ℕ → ℕ → ℕ → Type 0) (ts : Transfers) (node s : ℕ) → AreRouted Route ts → ((p : ℕ) → Route node s p → true ≡ false) → transfer_to ts node s ≡ None
routed_receives_none Route ts node s kept never = by_cases (transfer_to ts node s) refl
  where
    by_cases : (o : Option Transfer) → transfer_to ts node s ≡ o → transfer_to ts node s ≡ None
    by_cases None e = e
    by_cases (Some v) e = absurd (true≢false (never v.provider (kept node s v e)))

-- what is so of both states in which a call may end is so of the one in which it ends
pub ends_kept : {T E : Type 0} (IsKept : Stores → Type 0) (answer : Result T E) (after done before : Stores) → OnOk answer (after ≡ done) → OnErr answer (after ≡ before) → IsKept done → IsKept before → IsKept after
ends_kept IsKept (Ok x) after done before ok err good same = subst IsKept (sym ok) good
ends_kept IsKept (Err e) after done before ok err good same = subst IsKept (sym err) same

-- the same of a call that may send something
pub sending_kept : {T E : Type 0} (IsKept : Stores → Type 0) (answer : Result (Option T) E) (after before : Stores) (sent : T → Stores) → IfOk answer (λ o. IfSome o (λ x. after ≡ sent x))
    → IfOk answer (λ o. IsNone o → after ≡ before) → OnErr answer (after ≡ before) → ((x : T) → IsKept (sent x)) → IsKept before → IsKept after
sending_kept IsKept (Ok None) after before sent some none err good same = subst IsKept (sym (none refl)) same
sending_kept IsKept (Ok (Some x)) after before sent some none err good same = subst IsKept (sym some) (good x)
sending_kept IsKept (Err e) after before sent some none err good same = subst IsKept (sym err) same

-- a tick keeps it
pub ticked_are_routed : (Route : ℕ → ℕ → ℕ → Type 0) (clock : ℕ) (p : Copying) → AreRouted Route p.transfers → AreRouted Route (ticks clock p).transfers
ticked_are_routed Route clock p kept q u t is =
    changed (Route q u) (thinned clock) (λ v. refl) (transfer_to p.transfers q u) (kept q u) t (sym (transfer-ticks clock p q u) ∙ is)
