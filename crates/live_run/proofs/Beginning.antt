-- A book with its load serves its script, and no session did anything yet. A past lists events, the newest first.
use Rattle.std.proofs.Common.{◌≡◌, ℕ, ◌+◌, List, [], ◌∷◌, ◌++◌, length, map, reverse, replicate, slice_index_or, refl, sym, ap, subst, ◌∙◌, arith, if◌then◌else◌}
use mathlib.Core.List.{reverse_aux}
use Rattle.std.proofs.lemmas.Bool.{ne_eqb}
use Rattle.std.proofs.lemmas.List.{get_or-replicate, length-map, length-replicate, take_all}
use Rattle.grid_base.specs.declared.entry.Entry.{Entry}
use Rattle.grid_event.specs.declared.event.Event.{Event}
use Rattle.grid_script.specs.Scripts.{Lives}
use Rattle.grid_script.specs.declared.deed.Deed.{Deed}
use Rattle.grid_script.specs.declared.deed.Deed.TheVariants as deed
use Rattle.grid_script.specs.declared.member.Member.{Member}
use Rattle.grid_book.specs.Booked.{Booked}
use Rattle.live_run.specs.Serving.{changes_in, deeds_by, load_event, load_events}
use Rattle.live_run.specs.Sharing.{IsServing}
use Rattle.live_run.specs.Staying.{IsBegun, with_load}

-- the load is done by no other session
no_others : (k : ℕ) (load : List Entry) (past : List Event) → deeds_by (k + 1) (reverse_aux (map load_event load) past) ≡ deeds_by (k + 1) past
no_others k [] past = refl
no_others k (it ∷ load) past =
    no_others k load (load_event it ∷ past)
    ∙ ap (λ b. if b then deeds_by (k + 1) past ++ deed.Put it ∷ [] else deeds_by (k + 1) past) (ne_eqb 0 (k + 1) (λ e. omega (arith, e)))

-- and changes no member
no_changes : (load : List Entry) (past : List Event) → changes_in (reverse_aux (map load_event load) past) ≡ changes_in past
no_changes [] past = refl
no_changes (it ∷ load) past = no_changes load (load_event it ∷ past)

-- the events of a book with its load are the load's
loaded : (script : Lives) (book : Booked) → book ≡ with_load script (length script.load) → book.events ≡ load_events script
loaded script book front =
    ap (λ (b : Booked). b.events) front
    ∙ take_all (length script.load) (load_events script) (let l = length-map script.load load_event in omega (arith, l))

-- with the counts of sessions that did nothing, such a book serves its script
begins_to_serve : (script : Lives) (book : Booked) (done : List ℕ) → IsBegun script book → book ≡ with_load script (length script.load) →
    done ≡ replicate (length script.sessions) 0 → IsServing script book done 0
begins_to_serve script book done begun front zeros = record {
  partly = begun.partly;
  whole = begun.whole;
  counts = λ k within.
      ap (λ (ns : List ℕ). slice_index_or ns k 0) zeros
      ∙ get_or-replicate (length script.sessions) k 0 0 within
      ∙ sym (ap (λ (es : List Event). length (deeds_by (k + 1) (reverse es))) (loaded script book front) ∙ ap (λ (ds : List Deed). length ds) (no_others k script.load []));
  all = ap (λ (ns : List ℕ). length ns) zeros ∙ length-replicate (length script.sessions) 0;
  changes = sym (ap (λ (es : List Event). length (changes_in (reverse es))) (loaded script book front) ∙ ap (λ (ms : List Member). length ms) (no_changes script.load []));
}

-- as the script that it stands for
pub serves_first : (script held : Lives) (book : Booked) (done : List ℕ) → held ≡ script → IsBegun held book → book ≡ with_load held (length held.load) →
    done ≡ replicate (length held.sessions) 0 → IsServing script book done 0
serves_first script held book done same begun front zeros = subst (λ (s : Lives). IsServing s book done 0) same (begins_to_serve held book done begun front zeros)
