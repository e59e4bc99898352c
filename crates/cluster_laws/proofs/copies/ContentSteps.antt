-- What each event makes of the cluster's map, segment by segment.
use Rattle.std.proofs.Common.{◌≡◌, ℕ, ◌+◌, ◌==◌, Bool, true, false, cond, not, ◌&&◌, List, ◌∷◌, Option, Some, None, refl, sym, ap, ◌∙◌, inl, inr}
use Rattle.std.proofs.lemmas.Bool.{eqb-true, cases_Bool}
use Rattle.std.specs.Cmp.Lexicographic.{nat_list_cmp_total}
use Rattle.std.specs.FinMap as map_of
use Rattle.std.specs.Ordering.{eq_by_cmp}
use Rattle.container_seg.specs.Lifespans.{is_fresh, left}
use Rattle.container_seg.specs.Places.{key_cmp}
use Rattle.container_seg.proofs.Trees.{exact_keys}
use Rattle.grid_base.specs.declared.stamped.Stamped.{Stamped}
use Rattle.grid_event.specs.declared.config.Config.{Config}
use Rattle.grid_event.specs.declared.event.Event.{Event}
use Rattle.grid_event.specs.declared.event.Event.TheVariants.{Write, Erase, Depart, Tick}
use Rattle.grid_event.specs.declared.store_events.EraseEvent.{EraseEvent}
use Rattle.grid_event.specs.declared.store_events.WriteEvent.{WriteEvent}
use Rattle.grid_event.specs.Maps.{clock_of, entries_of, loses_key, stays}
use Rattle.grid_event.specs.Members.{loses_segment}
use Rattle.segment_hash.specs.Segments.{segment_number}
use Rattle.state_transfer.proofs.CellLaws.{tied_keys}
use Rattle.cluster_model.specs.Told.{Contents, contents_of, is_segment}

-- the key of the segment has the value, or none
abbrev pub changed_contents : ℕ → List ℕ → Option Stamped → Contents → Contents
changed_contents s k o m t j = cond ((t == s) && eq_by_cmp key_cmp j k) o (m t j)

-- some segments are lost
abbrev pub lost_contents : (ℕ → Bool) → Contents → Contents
lost_contents lost m t j = cond (lost t) None (m t j)

-- what has expired is gone
abbrev pub ticked_contents : ℕ → Contents → Contents
ticked_contents clock m t j = left clock (m t j)

-- a choice at one key, where it is that key
here_or_not : (b same : Bool) (o g : Option Stamped) → same ≡ true → cond b (cond same o g) None ≡ cond (b && same) o (cond b g None)
here_or_not true true o g e = refl
here_or_not false true o g e = refl
here_or_not b false o g e = absurd (cc)

-- the same choice, where it is another key
not_there : (b c : Bool) (o g : Option Stamped) → cond b (cond false o g) None ≡ cond (c && false) o (cond b g None)
not_there b true o g = refl
not_there b false o g = refl

-- a key that is set or removed changes what stands in its segment, at that key alone
set_one : (found : Option ℕ) (s t : ℕ) (same : Bool) (o g : Option Stamped) → (same ≡ true → found ≡ Some s) → cond (is_segment found t) (cond same o g) None ≡ cond ((t == s) && same) o (cond (is_segment found t) g None)
set_one found s t true o g is =
    ap (λ f. cond (is_segment f t) o None) (is refl)
    ∙ here_or_not (t == s) true o g refl
    ∙ ap (λ f. cond ((t == s) && true) o (cond (is_segment f t) g None)) (sym (is refl))
set_one found s t false o g is = not_there (is_segment found t) (t == s) o g

-- a write sets its key
pub written_contents : (config : Config) (past : List Event) (w : WriteEvent) (s : ℕ) → segment_number config.partition config.segments w.key ≡ Some s
    → contents_of config (Write w ∷ past) ≡ changed_contents s w.key (Some (record { value = w.value; until = w.until })) (contents_of config past)
unfolding entries_of
written_contents config past w s is = λ i t j. (
    ap (λ o. cond (is_segment (segment_number config.partition config.segments j) t) o None) (map_of.get-insert nat_list_cmp_total (entries_of config past) w.key (record { value = w.value; until = w.until }) j)
    ∙ set_one (segment_number config.partition config.segments j) s t (eq_by_cmp key_cmp j w.key) (Some (record { value = w.value; until = w.until })) (map_of.get (entries_of config past) j)
    (λ same. ap (segment_number config.partition config.segments) (tied_keys j w.key same) ∙ is)
    ) i

-- an erasure removes its key
pub erased_contents : (config : Config) (past : List Event) (e : EraseEvent) (s : ℕ) → segment_number config.partition config.segments e.key ≡ Some s
    → contents_of config (Erase e ∷ past) ≡ changed_contents s e.key None (contents_of config past)
unfolding entries_of
erased_contents config past e s is = λ i t j. (
    ap (λ o. cond (is_segment (segment_number config.partition config.segments j) t) o None) (map_of.get-remove nat_list_cmp_total (entries_of config past) e.key j)
    ∙ set_one (segment_number config.partition config.segments j) s t (eq_by_cmp key_cmp j e.key) None (map_of.get (entries_of config past) j)
    (λ same. ap (segment_number config.partition config.segments) (tied_keys j e.key same) ∙ is)
    ) i

-- a choice between nothing and nothing is nothing
cond_none : (b : Bool) → cond {A = Option Stamped} b None None ≡ None
cond_none true = refl
cond_none false = refl

-- a key of a lost segment is gone, and any other key stays
lost_key : (config : Config) (past : List Event) (q t : ℕ) (found : Option ℕ) (g : Option Stamped)
    → cond (is_segment found t) (cond (not (loses_key config past q found)) g None) None ≡ cond (loses_segment config past q t) None (cond (is_segment found t) g None)
lost_key config past q t None g = sym (cond_none (loses_segment config past q t))
lost_key config past q t (Some s) g = elim (cases_Bool (t == s)) [
  | inl same ↦
      ap (λ b. cond b (cond (not (loses_segment config past q s)) g None) None) same
      ∙ ap (λ z. cond (not (loses_segment config past q z)) g None) (sym (eqb-true t s same))
      ∙ flipped (loses_segment config past q t)
      ∙ ap (λ b. cond (loses_segment config past q t) None (cond b g None)) (sym same)
  | inr other ↦
      ap (λ b. cond b (cond (not (loses_segment config past q s)) g None) None) other
      ∙ sym (cond_none (loses_segment config past q t))
      ∙ ap (λ b. cond (loses_segment config past q t) None (cond b g None)) (sym other)
]
  where
    flipped : (b : Bool) → cond (not b) g None ≡ cond b None g
    flipped true = refl
    flipped false = refl

-- a departure removes the segments that it loses
pub departed_contents : (config : Config) (past : List Event) (q : ℕ)
    → contents_of config (Depart q ∷ past) ≡ lost_contents (loses_segment config past q) (contents_of config past)
unfolding entries_of
departed_contents config past q = λ i t j. (
    ap (λ o. cond (is_segment (segment_number config.partition config.segments j) t) o None)
    (map_of.get-retain_keys (entries_of config past) (λ key. not (loses_key config past q (segment_number config.partition config.segments key))) j
    (λ x e. ap (λ key. not (loses_key config past q (segment_number config.partition config.segments key))) (sym (exact_keys j x e))))
    ∙ lost_key config past q t (segment_number config.partition config.segments j) (map_of.get (entries_of config past) j)
    ) i

-- a key that stays hasn't expired
stays_fresh : (clock : ℕ) (o : Option Stamped) → stays clock o ≡ is_fresh clock o
stays_fresh clock None = refl
stays_fresh clock (Some v) = ahead v.value v.until
  where
    ahead : (value : _) (until : Option ℕ) → stays clock (Some (record { value = value; until = until })) ≡ is_fresh clock (Some (record { value = value; until = until }))
    ahead value None = refl
    ahead value (Some deadline) = refl

-- what is left at a clock of a choice with nothing is the choice of what is left
left_here : (clock : ℕ) (b : Bool) (o : Option Stamped) → cond b (left clock o) None ≡ left clock (cond b o None)
left_here clock true o = refl
left_here clock false o = refl

-- a tick removes what has expired
pub ticked_contents_are : (config : Config) (past : List Event) (ticks : ℕ)
    → contents_of config (Tick ticks ∷ past) ≡ ticked_contents (clock_of past + ticks) (contents_of config past)
unfolding entries_of
ticked_contents_are config past ticks = λ i t j. (
    ap (λ o. cond (is_segment (segment_number config.partition config.segments j) t) o None)
    (map_of.get-retain_keys (entries_of config past) (λ key. stays (clock_of past + ticks) (map_of.get (entries_of config past) key)) j
    (λ x e. ap (λ key. stays (clock_of past + ticks) (map_of.get (entries_of config past) key)) (sym (exact_keys j x e)))
    ∙ ap (λ b. cond b (map_of.get (entries_of config past) j) None) (stays_fresh (clock_of past + ticks) (map_of.get (entries_of config past) j)))
    ∙ left_here (clock_of past + ticks) (is_segment (segment_number config.partition config.segments j) t) (map_of.get (entries_of config past) j)
    ) i
