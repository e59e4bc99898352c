-- How the tally of a call follows its units.
use Rattle.std.proofs.Common.{◌≡◌, ◌≢◌, ℕ, ◌+◌, ◌<◌, Bool, true, false, not, ◌&&◌, ◌||◌, ◌==◌, List, map, reverse, Option, Some, None, refl, sym, ap, ◌∙◌, arith}
use Rattle.std.proofs.lemmas.Bool.Decides.{nat_tests}
use Rattle.std.specs.Cmp.{nat_cmp_total}
use Rattle.std.specs.FinSet as set_of
use Rattle.std.specs.List.{find, range_with_len}
use Rattle.std.specs.Option.{option_map}
use Rattle.std.specs.Prelude.{slice_get, slice_set}
use Rattle.indexmap.proofs.ReorderLemmas.{map-reverse}
use Rattle.cluster_model.specs.State.{Unit, is_ended, is_of, is_on, is_open_unit}
use Rattle.cluster_model.specs.Topologies.{is_complete}
use Rattle.cluster_model.specs.Commands.{newest_in}
use Rattle.cluster_calls.specs.Tallied.{Tallied, with_end, without_open}
use Rattle.cluster_calls.specs.Tallies.{IsTally, count_open, number_of}
use Rattle.cluster_calls.proofs.ListLaws.{any-set_more, any-set_same, count-range_less, count-set, find-map, get-map, length-filter, one, set-map, set_same}
use Rattle.cluster_calls.proofs.RowTables.{tied}

-- the unit is one of the call, and open
abbrev pub is_busy : ℕ → Unit → Bool
is_busy call unit = is_of call unit && is_open_unit unit

-- the unit is one of the call on the segment, and has ended
abbrev pub has_done : ℕ → ℕ → Unit → Bool
has_done call segment unit = is_on call segment unit && is_ended unit.work.state

-- the second unit has the number, the call and the segment of the first
pub record Alike (u v : Unit) : Type 0 where
  pub id : v.work.id ≡ u.work.id
  pub call : v.work.call ≡ u.work.call
  pub segment : v.work.segment ≡ u.work.segment

-- the number, the call and the segment of a unit
tag : Unit → ℕ × (ℕ × ℕ)
tag u = (u.work.id, (u.work.call, u.work.segment))

-- the number in front of a tag, or 0
first_of : Option (ℕ × (ℕ × ℕ)) → ℕ
first_of None = 0
first_of (Some t) = t.0

-- a tag is of this call and segment
is_tagged : ℕ → ℕ → ℕ × (ℕ × ℕ) → Bool
is_tagged call segment t = (t.1.0 == call) && (t.1.1 == segment)

-- a unit's number is the one in front of its tag
numbers : (o : Option Unit) → number_of o ≡ first_of (option_map tag o)
unfolding first_of tag
numbers None = refl
numbers (Some u) = refl

-- the newest unit of a call on a segment is the last one tagged so
newest_tagged : (units : List Unit) (n s : ℕ) → number_of (newest_in units n s) ≡ first_of (find (is_tagged n s) (reverse (map tag units)))
unfolding is_tagged tag
newest_tagged units n s =
    numbers (newest_in units n s)
    ∙ ap first_of (sym (find-map tag (is_tagged n s) (reverse units)))
    ∙ ap (λ ts. first_of (find (is_tagged n s) ts)) (map-reverse tag units)

-- units that are alike have one tag
tag_alike : (u v : Unit) → Alike u v → tag v ≡ tag u
unfolding tag
tag_alike u v a = λ i. (a.id i, (a.call i, a.segment i))

-- a unit that is replaced by one alike leaves the tags
tags_stay : (units : List Unit) (i : ℕ) (u v : Unit) → slice_get units i ≡ Some u → Alike u v → map tag (slice_set units i v) ≡ map tag units
tags_stay units i u v h a =
    set-map tag units i v
    ∙ ap (slice_set (map tag units) i) (tag_alike u v a)
    ∙ set_same (map tag units) i (tag u) (get-map tag units i ∙ ap (option_map tag) h)

-- the newest unit has the same number
pub newest-set : (units : List Unit) (i : ℕ) (u v : Unit) (n s : ℕ) → slice_get units i ≡ Some u → Alike u v → number_of (newest_in (slice_set units i v) n s) ≡ number_of (newest_in units n s)
newest-set units i u v n s h a =
    newest_tagged (slice_set units i v) n s
    ∙ ap (λ ts. first_of (find (is_tagged n s) (reverse ts))) (tags_stay units i u v h a)
    ∙ sym (newest_tagged units n s)

-- how many units are open then
pub open-set : (units : List Unit) (i : ℕ) (u v : Unit) (n : ℕ) → slice_get units i ≡ Some u → count_open n (slice_set units i v) + one (is_busy n u) ≡ count_open n units + one (is_busy n v)
open-set units i u v n h =
    omega (arith, length-filter (is_busy n) (slice_set units i v), length-filter (is_busy n) units, count-set (is_busy n) units i u v h)

-- a unit that counts as before changes nothing in the tally
pub tally_same : (segments : ℕ) (units : List Unit) (i : ℕ) (u v : Unit) (n : ℕ) (t : Tallied) → slice_get units i ≡ Some u → Alike u v
    → is_busy n v ≡ is_busy n u → ((s : ℕ) → has_done n s v ≡ has_done n s u) → IsTally segments units n t → IsTally segments (slice_set units i v) n t
tally_same segments units i u v n t h a busy done kept = record {
  unended = let same : one (is_busy n v) ≡ one (is_busy n u) = ap one busy in omega (arith, kept.unended, open-set units i u v n h, same);
  complete = λ s. kept.complete s ∙ sym (any-set_same (has_done n s) units i u v h (done s));
  left = kept.left;
  wide = kept.wide;
  newest = λ s l. kept.newest s l ∙ ap Some (sym (newest-set units i u v n s h a));
}

-- a unit that is open no longer
pub tally_closed : (segments : ℕ) (units : List Unit) (i : ℕ) (u v : Unit) (n : ℕ) (t : Tallied) → slice_get units i ≡ Some u → Alike u v
    → is_busy n u ≡ true → is_busy n v ≡ false → ((s : ℕ) → has_done n s v ≡ has_done n s u) → IsTally segments units n t → IsTally segments (slice_set units i v) n (without_open t)
tally_closed segments units i u v n t h a was gone done kept = record {
  unended =
      let had : one (is_busy n u) ≡ 1 = ap one was in
      let has : one (is_busy n v) ≡ 0 = ap one gone in
      omega (arith, kept.unended, open-set units i u v n h, had, has);
  complete = λ s. kept.complete s ∙ sym (any-set_same (has_done n s) units i u v h (done s));
  left = kept.left;
  wide = kept.wide;
  newest = λ s l. kept.newest s l ∙ ap Some (sym (newest-set units i u v n s h a));
}

-- a unit that has ended, by which its segment is complete
pub tally_ended : (segments : ℕ) (units : List Unit) (i : ℕ) (u v : Unit) (n : ℕ) (t : Tallied) → slice_get units i ≡ Some u → Alike u v
    → is_busy n u ≡ true → is_busy n v ≡ false → ((s : ℕ) → has_done n s u ≡ false) → ((s : ℕ) → has_done n s v ≡ (s == u.work.segment))
    → u.work.segment < segments → is_complete units n u.work.segment ≡ false → IsTally segments units n t → IsTally segments (slice_set units i v) n (with_end u.work.segment t)
tally_ended segments units i u v n t h a was gone undone done inside left kept = record {
  unended =
      let had : one (is_busy n u) ≡ 1 = ap one was in
      let has : one (is_busy n v) ≡ 0 = ap one gone in
      omega (arith, kept.unended, open-set units i u v n h, had, has);
  complete = λ s. into s ∙ (λ j. sym (done s) j || kept.complete s j) ∙ sym (any-set_more (has_done n s) units i u v h (undone s));
  left =
      let p = λ (s : ℕ). not (set_of.contains t.complete s) in
      let q = λ (s : ℕ). not (set_of.contains (set_of.insert t.complete u.work.segment) s) in
      let fewer = count-range_less p q u.work.segment 0 segments (omega arith) (omega (arith, inside))
      (ap not (kept.complete u.work.segment ∙ left)) (ap not (into u.work.segment ∙ here u.work.segment (set_of.contains t.complete u.work.segment)))
      (λ s apart. ap not (into s ∙ other s u.work.segment (set_of.contains t.complete s) apart)) in
      omega (arith, kept.left, fewer, length-filter p (range_with_len 0 segments), length-filter q (range_with_len 0 segments));
  wide = kept.wide;
  newest = λ s l. kept.newest s l ∙ ap Some (sym (newest-set units i u v n s h a));
}
  where
    into : (s : ℕ) → set_of.contains (set_of.insert t.complete u.work.segment) s ≡ ((s == u.work.segment) || set_of.contains t.complete s)
    into s = set_of.contains-insert nat_cmp_total t.complete u.work.segment s ∙ ap (λ b. b || set_of.contains t.complete s) (tied s u.work.segment)

    here : (s : ℕ) (b : Bool) → ((s == s) || b) ≡ true
    here s b = grind (arith, nat_tests)

    other : (s m : ℕ) (b : Bool) → s ≢ m → ((s == m) || b) ≡ b
    other s m b apart = let no_tie : (s == m) ≡ false = grind (arith, nat_tests) in ap (λ e. e || b) no_tie

-- one where a test passes, else none
pub one_more : Bool → ℕ
one_more = one
