-- Each entry that a unit reads next stands in the cluster's map, and its key is of the unit's segment.
use Rattle.std.proofs.Common.{◌≡◌, ℕ, Bool, true, false, not, ◌&&◌, cond, List, [], ◌∷◌, Option, Some, None, is_none, refl, sym, ap, ◌∙◌}
use Rattle.std.proofs.lemmas.Bool.{and_parts, eqb-true}
use Rattle.std.specs.FinMap as map_of
use Rattle.std.specs.List.{AllByRecursion}
use Rattle.std.specs.Option.{option_map}
use Rattle.std.specs.Ordering.{eq_by_cmp}
use Rattle.container_seg.specs.Places.{key_cmp}
use Rattle.container_seg.specs.Scans.{comes_after, next_chunk, plain_entry, without_deadlines}
use Rattle.grid_base.proofs.DatumLemmas.{same_bytes_decides}
use Rattle.grid_base.specs.Portion.{Portion}
use Rattle.grid_base.specs.declared.entry.Entry.{Entry}
use Rattle.grid_base.specs.declared.stamped.Stamped.{Stamped}
use Rattle.grid_base.specs.declared.stamped_entry.StampedEntry.{StampedEntry}
use Rattle.grid_event.specs.Maps.{entries_of, value_at}
use Rattle.grid_event.specs.declared.config.Config.{Config}
use Rattle.grid_event.specs.declared.event.Event.{Event}
use Rattle.segment_hash.specs.Segments.{segment_number}
use Rattle.state_transfer.proofs.CellLaws.{tied_keys}
use Rattle.state_transfer.proofs.ChunkLaws.{IsChunk, next_is_chunk}
use Rattle.state_transfer.specs.Cells.{Cells}
use Rattle.state_transfer.specs.Chunks.{last_sent}
use Rattle.state_transfer.specs.Copying.{copy_at, part_of}
use Rattle.state_transfer.specs.Faithful.{has_each_once, stamped_in}
use Rattle.cluster_model.specs.Kept.{IsKept}
use Rattle.cluster_model.specs.State.{State, Unit, call_of, is_running}
use Rattle.cluster_model.specs.Told.{contents_of, is_segment}
use Rattle.cluster_model.specs.Units.{batch_size, last_key, next_batch}
use Rattle.cluster_laws.proofs.units.Batches.{bytes_tie}
use Rattle.cluster_laws.proofs.copies.Facts.{safe_by}
use Rattle.cluster_laws.proofs.Lists.{each_changed, each_imply}
use Rattle.cluster_laws.proofs.units.UnitPlaces.{AllPlaced, Placed, running_open}

-- an entry's key is of the segment, and the entry stands in the map
abbrev pub FitsNow : Config → List Event → ℕ → Entry → Type 0
FitsNow config past segment e = (segment_number config.partition config.segments e.key ≡ Some segment) × (value_at config past e.key ≡ Some e.value)

-- an entry is what its list has at its key
abbrev IsFound : List StampedEntry → StampedEntry → Type 0
IsFound es e = stamped_in es e.key ≡ Some e.stamped

-- what is found in a list is found behind another key
found_behind : (head : StampedEntry) (es : List StampedEntry) → is_none (stamped_in es head.key) ≡ true → (e : StampedEntry) → IsFound es e → IsFound (head ∷ es) e
found_behind head es none e h = by_tie (eq_by_cmp key_cmp e.key head.key) refl
  where
    by_tie : (b : Bool) → eq_by_cmp key_cmp e.key head.key ≡ b → cond b (Some head.stamped) (stamped_in es e.key) ≡ Some e.stamped
    by_tie false t = h
    by_tie true t =
        let there : is_none (stamped_in es head.key) ≡ false = ap (λ k. is_none (stamped_in es k)) (sym (tied_keys e.key head.key t)) ∙ ap is_none h in
        absurd (cc)

-- a key ties with itself
ties_itself : (k : List ℕ) → eq_by_cmp key_cmp k k ≡ true
ties_itself k = sym (bytes_tie k k) ∙ (same_bytes_decides k k).1 refl

-- where no key stands twice each entry is found
each_found : (es : List StampedEntry) → has_each_once es ≡ true → AllByRecursion (IsFound es) es
each_found [] h = tt
each_found (e ∷ es) h =
    let p : (is_none (stamped_in es e.key) ≡ true) × (has_each_once es ≡ true) = and_parts (is_none (stamped_in es e.key)) (has_each_once es) h in
    (ap (λ b. cond b (Some e.stamped) (stamped_in es e.key)) (ties_itself e.key), each_imply (IsFound es) (IsFound (e ∷ es)) (found_behind e es p.0) es (each_found es p.1))

-- what a test lets through is there
let_through : {A : Type 0} (b : Bool) (o : Option A) (x : A) → cond b o None ≡ Some x → (b ≡ true) × (o ≡ Some x)
let_through true o x h = (refl, h)
let_through false o x h = absurd (cc)

-- a segment that is the one found is found
is_that_segment : (found : Option ℕ) (segment : ℕ) → is_segment found segment ≡ true → found ≡ Some segment
is_that_segment None segment h = absurd (cc)
is_that_segment (Some other) segment h = ap (λ s. Some s) (sym (eqb-true segment other h))

-- what stands in the map at a key of a segment
contents_fit : (config : Config) (past : List Event) (segment : ℕ) (e : StampedEntry) → contents_of config past segment e.key ≡ Some e.stamped → FitsNow config past segment (plain_entry e)
contents_fit config past segment e h =
    let p = let_through (is_segment (segment_number config.partition config.segments e.key) segment) (map_of.get (entries_of config past) e.key) e.stamped h in
    (is_that_segment (segment_number config.partition config.segments e.key) segment p.0, ap (option_map (λ (s : Stamped). s.value)) p.1)

-- where a node has exactly the map's part of a segment, what it hands on next fits
pub batch_fits : (config : Config) (past : List Event) (cells : Cells) (segment node most : ℕ) (after : Option (List ℕ)) → ((key : List ℕ) → copy_at cells node segment key ≡ contents_of config past segment key) →
    AllByRecursion (FitsNow config past segment) (without_deadlines (next_chunk node after most (part_of cells node segment))).entries
batch_fits config past cells segment node most after complete =
    each_changed (IsFound chunk.entries) (IsFound chunk.entries) (FitsNow config past segment) plain_entry one chunk.entries (each_found chunk.entries is.once) (each_found chunk.entries is.once)
  where
    chunk : Portion StampedEntry
    chunk = next_chunk node after most (part_of cells node segment)

    is : IsChunk cells node segment after chunk
    is = next_is_chunk cells node segment after most

    one : (e : StampedEntry) → IsFound chunk.entries e → IsFound chunk.entries e → FitsNow config past segment (plain_entry e)
    one e f g =
        contents_fit config past segment e
        (sym (complete e.key)
        ∙ (let_through (comes_after node after e.key && not (comes_after node (last_sent chunk.entries after) e.key)) (copy_at cells node segment e.key) e.stamped (sym (is.given e.key) ∙ f)).1)

-- what the node of a running unit hands on next fits
abbrev pub NextFits : Config → List Event → State → Unit → Type 0
NextFits config past st unit = is_running unit.work.state ≡ true → AllByRecursion (FitsNow config past unit.work.segment) (next_batch st unit).entries

-- where all is kept and units are placed, what their nodes hand on next fits
pub next_fit : (config : Config) (past : List Event) (st : State) → IsKept config past st → AllPlaced st.holding.coord st.calling.units → AllByRecursion (NextFits config past st) st.calling.units
next_fit config past st h placed = each_imply (Placed st.holding.coord) (NextFits config past st) one st.calling.units placed
  where
    one : (unit : Unit) → Placed st.holding.coord unit → NextFits config past st unit
    one unit p running =
        let lives = p.live (running_open unit.work.state running) in
        let held = (safe_by config.segments st.holding.coord h.parts.topologies unit.work.node).read_is_held unit.work.node unit.work.segment lives (p.reading running) in
        batch_fits config past st.holding.copying.cells unit.work.segment unit.work.node (batch_size (call_of st.calling unit.work.call)) (last_key unit.work.entries) (h.parts.copies unit.work.node unit.work.segment lives held)
