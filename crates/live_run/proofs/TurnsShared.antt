-- What a turn of a session keeps of what is shared.
use Rattle.std.proofs.Common.{◌≡◌, ◌<◌, ◌+◌, ◌==◌, ℕ, Bool, false, List, Option, Some, length, get_or, slice_get, set, reverse, refl, sym, ap, subst, ◌∙◌, arith, length-set}
use Rattle.std.proofs.lemmas.List.{get_or-set_other, get_or-set_same, get_or_read_under}
use Rattle.std.proofs.lemmas.Option.{slice_get_read}
use Rattle.grid_script.specs.LiveRules.{IsLive}
use Rattle.grid_script.specs.Scripts.{Lives}
use Rattle.grid_script.specs.declared.session.Session.{Session}
use Rattle.grid_book.specs.Booked.{Booked}
use Rattle.grid_book.specs.declared.act_fault.ActFault.{ActFault}
use Rattle.live_run.specs.Serving.{changes_in, deeds_by}
use Rattle.live_run.specs.Sharing.{IsServing, IsShared}
use Rattle.live_run.specs.Staying.{IsBegun, IsSessionOf, Stays}
use Rattle.live_run.proofs.Ends.{session_at}
use Rattle.live_run.proofs.Sharing.{serves_turn, shares_on}

-- the session stands at this place of the script
pub record IsAt (script : Lives) (session : Session) (place : ℕ) : Type 0 where
  pub within : place < length script.sessions
  pub number : session.number ≡ place + 1
  pub there : IsSessionOf script session

-- what is read at a place of the sessions stands there
pub is_at : (script : Lives) (sessions : List Session) (session : Session) (place : ℕ) → IsLive script → sessions ≡ script.sessions → place < length sessions →
    session ≡ get_or sessions place session → IsAt script session place
is_at script sessions session place live same below read =
    let l = ap (λ (ss : List Session). length ss) same in
    let within : place < length script.sessions = omega (arith, below, l) in
    let at : slice_get script.sessions place ≡ Some session =
    slice_get_read script.sessions (length script.sessions) place session refl within (read ∙ ap (λ (ss : List Session). get_or ss place session) same) in
    let it = session_at script place session live at in
    record { within = within; number = it.1; there = it.0 }

-- a place of the script that is held is one of the counts
count_within : (script held : Lives) (book : Booked) (done : List ℕ) (moved place : ℕ) (session : Session) → held ≡ script → IsServing script book done moved → IsAt held session place → place < length done
count_within script held book done moved place session same serving at =
    let l = ap (λ (s : Lives). length s.sessions) same in
    omega (arith, at.within, l, serving.all)

-- the count that is read there is that of the session
pub count_told : (script held : Lives) (book : Booked) (done : List ℕ) (moved place n : ℕ) (session : Session) → held ≡ script → IsServing script book done moved → IsAt held session place →
    n ≡ get_or done place n → n ≡ length (deeds_by session.number (reverse book.events))
count_told script held book done moved place n session same serving at read =
    let l = ap (λ (s : Lives). length s.sessions) same in
    let within : place < length script.sessions = omega (arith, at.within, l) in
    get_or_read_under done place (length done) n 0 read (count_within script held book done moved place session same serving at) refl
    ∙ serving.counts place within
    ∙ ap (λ k. length (deeds_by k (reverse book.events))) (sym at.number)

-- a turn in which no order was done
pub shares_turn : (script held : Lives) (was is : Booked) (done : List ℕ) (moved place n : ℕ) (stop : Bool) (fault : Option ActFault) (session : Session) →
    IsShared script held was done moved stop fault → stop ≡ false → IsAt held session place → n ≡ get_or done place n → IsBegun held is →
    n ≡ length (deeds_by session.number (reverse is.events)) → ((k : ℕ) → (session.number == k) ≡ false → Stays was is k) →
    changes_in (reverse is.events) ≡ changes_in (reverse was.events) → IsShared script held is done moved stop fault
shares_turn script held was is done moved place n stop fault session h goes at read begun count stays changes =
    shares_on script held was is done done moved moved stop fault h goes
    (serves_turn script was is done done moved place h.serving (subst (λ (s : Lives). IsBegun s is) h.same begun) refl
    (sym (get_or_read_under done place (length done) n 0 read (count_within script held was done moved place session h.same h.serving at) refl)
    ∙ count
    ∙ ap (λ k. length (deeds_by k (reverse is.events))) at.number)
    (λ j other. refl) (λ j apart. stays j (subst (λ k. (k == j) ≡ false) (sym at.number) apart)) changes)

-- and one in which an order was done, whose count goes on by one
pub shares_order : (script held : Lives) (was is : Booked) (done : List ℕ) (moved place n : ℕ) (stop : Bool) (fault : Option ActFault) (session : Session) →
    IsShared script held was done moved stop fault → stop ≡ false → IsAt held session place → IsBegun held is →
    n + 1 ≡ length (deeds_by session.number (reverse is.events)) → ((k : ℕ) → (session.number == k) ≡ false → Stays was is k) →
    changes_in (reverse is.events) ≡ changes_in (reverse was.events) → IsShared script held is (set done place (n + 1)) moved stop fault
shares_order script held was is done moved place n stop fault session h goes at begun count stays changes =
    shares_on script held was is done (set done place (n + 1)) moved moved stop fault h goes
    (serves_turn script was is done (set done place (n + 1)) moved place h.serving (subst (λ (s : Lives). IsBegun s is) h.same begun) (length-set done place (n + 1))
    (get_or-set_same done place (n + 1) 0 (count_within script held was done moved place session h.same h.serving at)
    ∙ count
    ∙ ap (λ k. length (deeds_by k (reverse is.events))) at.number)
    (λ j other. get_or-set_other done place j (n + 1) 0 other) (λ j apart. stays j (subst (λ k. (k == j) ≡ false) (sym at.number) apart)) changes)
