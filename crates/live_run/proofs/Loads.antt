-- The load of a script, as the first events of its run. A past lists events, the newest first.
use Rattle.std.proofs.Common.{◌≡◌, ℕ, ◌≤◌, ◌==◌, Bool, true, false, List, [], ◌∷◌, ◌++◌, length, map, take, reverse, Option, None, Some, is_some, refl, sym, ap, ◌∙◌, arith, if◌then◌else◌, append_assoc, append-nil, drop, length-append}
use mathlib.Core.List.{reverse_aux}
use Rattle.std.proofs.lemmas.List.{length-map, reverse-append, take-append-drop, take_all}
use Rattle.std.specs.List.{list_all}
use Rattle.grid_base.specs.declared.entry.Entry.{Entry}
use Rattle.grid_event.specs.Histories.{History}
use Rattle.grid_event.specs.Spans.{outcome_in}
use Rattle.grid_event.specs.declared.event.Event.{Event}
use Rattle.grid_script.specs.Scripts.{Lives}
use Rattle.grid_script.specs.declared.deed.Deed.{Deed}
use Rattle.grid_script.specs.declared.deed.Deed.TheVariants as deeds
use Rattle.live_run.specs.Serving.{Begins, Doing, IsPartlyServed, calls_among, deeds_by, doing_of, has_answers, load_event, load_events, with_doing}

-- what the load did is the load
pub loads_done : (load : List Entry) (past : List Event) → deeds_by 0 (reverse_aux (map load_event load) past) ≡ deeds_by 0 past ++ map deeds.Put load
loads_done [] past = sym (append-nil (deeds_by 0 past))
loads_done (it ∷ load) past = loads_done load (load_event it ∷ past) ∙ append_assoc (deeds_by 0 past) (deeds.Put it ∷ []) (map deeds.Put load)

-- a session does no less as a past grows
does_more : (k : ℕ) (more past : List Event) → length (deeds_by k past) ≤ length (deeds_by k (more ++ past))
does_more k [] past = omega arith
does_more k (event ∷ more) past = let rest = does_more k more past in let one = by_doing (doing_of event) in omega arith
  where
    done : List Deed
    done = deeds_by k (more ++ past)

    by_test : (b : Bool) (d : Deed) → length done ≤ length (if b then done ++ d ∷ [] else done)
    by_test true d = let l = length-append done (d ∷ []) in omega arith
    by_test false d = omega arith

    by_doing : (found : Option Doing) → length done ≤ length (with_doing k found done)
    by_doing None = omega arith
    by_doing (Some doing) = by_test (doing.session == k) doing.deed

-- what begins a list and is as long is the list
pub begins_all : {A : Type 0} (xs ys : List A) → Begins xs ys → length ys ≤ length xs → xs ≡ ys
begins_all xs ys begun long = begun ∙ take_all (length xs) ys long

-- where the load is whole, it did all that it is to do
pub load_done : (script : Lives) (history : History) → IsPartlyServed script history → length script.load ≤ length history.events → deeds_by 0 (reverse history.events) ≡ map deeds.Put script.load
load_done script history h whole = begins_all (deeds_by 0 (reverse history.events)) (map deeds.Put script.load) (h.ordered 0) long
  where
    n : ℕ
    n = length script.load

    front : take n history.events ≡ load_events script
    front = h.loaded ∙ take_all (length history.events) (load_events script) (let l = length-map script.load load_event in omega (arith, l, whole))

    behind : reverse history.events ≡ reverse (drop n history.events) ++ reverse (load_events script)
    behind =
        ap (λ (es : List Event). reverse es) (sym (take-append-drop n history.events) ∙ ap (λ (es : List Event). es ++ drop n history.events) front)
        ∙ reverse-append (load_events script) (drop n history.events)

    long : length (map deeds.Put script.load) ≤ length (deeds_by 0 (reverse history.events))
    long =
        let more = does_more 0 (reverse (drop n history.events)) (reverse (load_events script)) in
        let same = ap (λ (ds : List Deed). length ds) (loads_done script.load []) in
        let whole_past = ap (λ (past : List Event). length (deeds_by 0 past)) behind in
        omega (arith, more, same, whole_past)

-- it makes no calls
pub load_answered : (past : List Event) (load : List Entry) → deeds_by 0 past ≡ map deeds.Put load → has_answers past 0 ≡ true
load_answered past load is =
    ap (λ (ds : List Deed). list_all (λ call. is_some (outcome_in past call)) (calls_among ds)) is
    ∙ ap (list_all (λ call. is_some (outcome_in past call))) (none load)
  where
    none : (load : List Entry) → calls_among (map deeds.Put load) ≡ []
    none [] = refl
    none (it ∷ load) = none load
