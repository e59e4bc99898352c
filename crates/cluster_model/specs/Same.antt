-- When two batches, chunks, lists of asks, answers and outcomes are the same.
use Rattle.std.specs.Prelude.{◌==◌, Bool, true, false, ◌&&◌, List, Option, None, Some}
use Rattle.std.specs.Bool.{beq}
use Rattle.std.specs.Ordering.{int_eq}
use Rattle.std.specs.Cmp.Lexicographic.{pointwise}
use Rattle.grid_base.specs.Datum.{same_bytes, same_datum, same_entry, same_item}
use Rattle.grid_base.specs.Portion.{Portion}
use Rattle.grid_base.specs.declared.entry.Entry.{Entry}
use Rattle.grid_base.specs.declared.item.Item.{Item}
use Rattle.grid_base.specs.declared.stamped_entry.StampedEntry.{StampedEntry}
use Rattle.grid_event.specs.declared.call_events.Ask.{Ask}
use Rattle.grid_event.specs.declared.outcome.Outcome.{Outcome}
use Rattle.grid_event.specs.declared.outcome.Outcome.TheVariants as outcomes
use Rattle.pipeline_expr.specs.declared.answer.Answer.{Answer}
use Rattle.pipeline_expr.specs.declared.answer.Answer.TheVariants as answers

-- both have nothing, or both have what is the same
abbrev pub same_option : {A : Type 0} → (A → A → Bool) → Option A → Option A → Bool
same_option same None None = true
same_option same (Some a) (Some b) = same a b
same_option same _ _ = false

-- the same entries, and the same items, in the same order
abbrev pub same_entries : List Entry → List Entry → Bool
same_entries = pointwise same_entry

abbrev pub same_items : List Item → List Item → Bool
same_items = pointwise same_item

-- two batches have the same entries, and both or neither are the last
abbrev pub same_batch : Portion Entry → Portion Entry → Bool
same_batch a b = same_entries a.entries b.entries && beq a.last b.last

-- two entries have the same key, value and deadline
abbrev pub same_stamped : StampedEntry → StampedEntry → Bool
same_stamped a b =
    same_bytes a.key b.key
    && (same_datum a.stamped.value b.stamped.value && same_option (λ m n. m == n) a.stamped.until b.stamped.until)

-- two chunks have the same entries, and both or neither are the last
abbrev pub same_chunk : Portion StampedEntry → Portion StampedEntry → Bool
same_chunk a b = pointwise same_stamped a.entries b.entries && beq a.last b.last

-- two asks are the same
abbrev pub same_ask : Ask → Ask → Bool
same_ask a b = (a.unit == b.unit) && ((a.segment == b.segment) && (a.node == b.node))

abbrev pub same_asks : List Ask → List Ask → Bool
same_asks = pointwise same_ask

-- two answers are the same
abbrev pub same_answer : Answer → Answer → Bool
same_answer (answers.Count m) (answers.Count n) = m == n
same_answer (answers.Sum i) (answers.Sum j) = int_eq i j
same_answer (answers.Best a) (answers.Best b) = same_option same_datum a b
same_answer (answers.List xs) (answers.List ys) = same_items xs ys
same_answer _ _ = false

-- two outcomes are the same
unfoldable pub same_outcome : Outcome → Outcome → Bool
same_outcome (outcomes.Value a) (outcomes.Value b) = same_answer a b
same_outcome outcomes.Ended outcomes.Ended = true
same_outcome (outcomes.Again m s) (outcomes.Again n t) = (m == n) && (s == t)
same_outcome (outcomes.SegmentLost s) (outcomes.SegmentLost t) = s == t
same_outcome outcomes.OriginatorLeft outcomes.OriginatorLeft = true
same_outcome _ _ = false
