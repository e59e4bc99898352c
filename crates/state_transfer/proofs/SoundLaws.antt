-- Transfers stay sound: their receivers are there, and no entry that flies has expired.
use Rattle.std.proofs.Common.{◌≡◌, ℕ, Bool, true, false, cond, not, ◌&&◌, ◌||◌, ◌==◌, List, [], ◌∷◌, Option, Some, None, refl, sym, ap, ◌∙◌, inl, inr}
use Rattle.std.proofs.lemmas.Bool.{cases_Bool, cases_eq, ne_eqb}
use Rattle.std.proofs.lemmas.Option.{none-some}
use Rattle.std.specs.declared.cmp.Ordering.TheVariants.{Equal}
use Rattle.std.specs.Cmp.{Equal-is, first_so, second_so, nat_cmp_total, unsigned_tied}
use Rattle.std.specs.FinMap as map_of
use Rattle.std.specs.FinSet as set_of
use Rattle.std.specs.List.{filter, list_all}
use Rattle.std.specs.Option.{option_map, unwrap_or}
use Rattle.std.specs.Ordering.{nat_cmp, eq_by_cmp}
use Rattle.grid_base.specs.Nodes.{Nodes}
use Rattle.grid_base.specs.Portion.{Portion}
use Rattle.grid_base.specs.declared.stamped_entry.StampedEntry.{StampedEntry}
use Rattle.container_seg.specs.Lifespans.{outlasts}
use Rattle.state_transfer.specs.Calls.{AreSound, are_lasting, is_sound, landing, marks_at, unmarks_at}
use Rattle.state_transfer.specs.Cells.{Destination, destination_cmp}
use Rattle.state_transfer.specs.Changes.{unexpired}
use Rattle.state_transfer.specs.Chunks.{with_chunk}
use Rattle.state_transfer.specs.Copying.{Transfer, Transfers, each_changed, transfer_to}
use Rattle.state_transfer.proofs.CellLaws.{destinations_total, exact_destinations, transfer-changed}

-- no transfers are sound
pub sound_none : (nodes : Nodes) (clock : ℕ) → AreSound nodes clock map_of.empty
sound_none nodes clock to = ap (is_sound nodes clock to) (map_of.get-empty destination_cmp to)

-- what passes a test stays sound
pub sound_kept : (nodes : Nodes) (clock : ℕ) (ts : Transfers) (p : Destination → Bool) → ((to x : Destination) → destination_cmp to x ≡ Equal → p x ≡ p to) → AreSound nodes clock ts → AreSound nodes clock (map_of.retain_keys ts p)
sound_kept nodes clock ts p alike sound to =
    ap (is_sound nodes clock to) (map_of.get-retain_keys ts p to (alike to))
    ∙ elim (p to) as (λ b. is_sound nodes clock to (cond b (map_of.get ts to) None) ≡ true) [ true ↦ sound to | false ↦ refl ]

-- what is changed soundly stays sound
pub sound_changed : (nodes : Nodes) (before clock : ℕ) (ts : Transfers) (f : Destination → Transfer → Transfer)
    → ((to : Destination) (t : Transfer) → is_sound nodes before to (Some t) ≡ true → is_sound nodes clock to (Some (f to t)) ≡ true) → AreSound nodes before ts → AreSound nodes clock (each_changed f ts)
sound_changed nodes before clock ts f keeps sound to =
    ap (is_sound nodes clock to) (transfer-changed f ts to.receiver to.segment)
    ∙ still (map_of.get ts to) (sound to)
  where
    still : (o : Option Transfer) → is_sound nodes before to o ≡ true → is_sound nodes clock to (option_map (f to) o) ≡ true
    still None h = refl
    still (Some t) h = keeps to t h

-- a key that is touched, or no longer, changes nothing of this
pub sound_marked : (nodes : Nodes) (clock : ℕ) (ts : Transfers) (at : Destination) (key : List ℕ) → AreSound nodes clock ts → AreSound nodes clock (each_changed (marks_at at key) ts)
sound_marked nodes clock ts at key = sound_changed nodes clock clock ts (marks_at at key) (λ to t h. h)

-- transfers stay sound where a key isn't touched any more
pub sound_unmarked : (nodes : Nodes) (clock : ℕ) (ts : Transfers) (at : Destination) (key : List ℕ) → AreSound nodes clock ts → AreSound nodes clock (each_changed (unmarks_at at key) ts)
sound_unmarked nodes clock ts at key = sound_changed nodes clock clock ts (unmarks_at at key) (λ to t h. h)

-- and so where that is done only if it was marked
pub sound_restored : (nodes : Nodes) (clock : ℕ) (ts : Transfers) (at : Destination) (key : List ℕ) (marked : Bool) → AreSound nodes clock ts → AreSound nodes clock (cond marked (each_changed (unmarks_at at key) ts) ts)
sound_restored nodes clock ts at key true sound = sound_unmarked nodes clock ts at key sound
sound_restored nodes clock ts at key false sound = sound

-- nor does a chunk that flies no longer
pub sound_landed : (nodes : Nodes) (clock : ℕ) (ts : Transfers) (at : Destination) → AreSound nodes clock ts → AreSound nodes clock (each_changed (landing at) ts)
sound_landed nodes clock ts at = sound_changed nodes clock clock ts (landing at) (λ to t h.
    elim ((to.receiver == at.receiver) && (to.segment == at.segment)) as (λ b. (set_of.contains nodes to.receiver && are_lasting clock (unwrap_or (cond b None t.flying) [])) ≡ true) [
      | true ↦ ap (λ b. b && true) (first_so (set_of.contains nodes to.receiver) (are_lasting clock (unwrap_or t.flying [])) h)
      | false ↦ h
    ])

-- what is left by a test passes it
all_passed : (p : StampedEntry → Bool) (es : List StampedEntry) → list_all p (filter p es) ≡ true
all_passed p [] = refl
all_passed p (e ∷ es) = elim (p e) as (λ b. p e ≡ b → list_all p (cond b (e ∷ filter p es) (filter p es)) ≡ true) [
  | true ↦ λ passes. ap (λ b. b && list_all p (filter p es)) passes ∙ all_passed p es
  | false ↦ λ fails. all_passed p es
] refl

-- after a tick, what flies hasn't expired
pub sound_ticked : (nodes : Nodes) (before clock : ℕ) (ts : Transfers) → AreSound nodes before ts → AreSound nodes clock (each_changed (λ to t. record t { flying = option_map (unexpired clock) t.flying }) ts)
sound_ticked nodes before clock ts = sound_changed nodes before clock ts (λ to t. record t { flying = option_map (unexpired clock) t.flying }) (λ to t h.
    (λ i. first_so (set_of.contains nodes to.receiver) (are_lasting before (unwrap_or t.flying [])) h i && lasting t.flying i))
  where
    lasting : (o : Option (List StampedEntry)) → are_lasting clock (unwrap_or (option_map (unexpired clock) o) []) ≡ true
    lasting None = refl
    lasting (Some es) = all_passed (λ e. outlasts clock e.stamped.until) es

-- a chunk that is sent is sound, where its receiver is there and it hasn't expired
pub sound_sent : (nodes : Nodes) (clock : ℕ) (ts : Transfers) (at : Destination) (t : Transfer) (chunk : Portion StampedEntry) → set_of.contains nodes at.receiver ≡ true → are_lasting clock chunk.entries ≡ true
    → AreSound nodes clock ts → AreSound nodes clock (map_of.insert ts at (with_chunk chunk t))
sound_sent nodes clock ts at t chunk there lasts sound to =
    ap (is_sound nodes clock to) (map_of.get-insert destinations_total ts at (with_chunk chunk t) to)
    ∙ elim (cases_Bool (eq_by_cmp destination_cmp to at)) [
      | inl ties ↦
          let same : to ≡ at = exact_destinations to at ((Equal-is (destination_cmp to at)).0 ties) in
          ap (λ b. is_sound nodes clock to (cond b (Some (with_chunk chunk t)) (map_of.get ts to))) ties
          ∙ (λ i. (ap (λ (d : Destination). set_of.contains nodes d.receiver) same ∙ there) i && lasts i)
      | inr apart ↦ ap (λ b. is_sound nodes clock to (cond b (Some (with_chunk chunk t)) (map_of.get ts to))) apart ∙ sound to
    ]

-- a transfer stays sound where its receiver stays among the nodes
sound_by : (nodes more : Nodes) (clock : ℕ) (to : Destination) (o : Option Transfer) → ((t : Transfer) → o ≡ Some t → set_of.contains nodes to.receiver ≡ true → set_of.contains more to.receiver ≡ true)
    → is_sound nodes clock to o ≡ true → is_sound more clock to o ≡ true
sound_by nodes more clock to None keeps h = refl
sound_by nodes more clock to (Some t) keeps h =
    λ i. keeps t refl (first_so (set_of.contains nodes to.receiver) (are_lasting clock (unwrap_or t.flying [])) h) i && second_so (set_of.contains nodes to.receiver) (are_lasting clock (unwrap_or t.flying [])) h i

-- what is there is there, or something else
or_there : (a b : Bool) → b ≡ true → (a || b) ≡ true
or_there true b h = refl
or_there false b h = h

-- a node that joins leaves them sound
pub sound_joined : (nodes : Nodes) (clock : ℕ) (ts : Transfers) (node : ℕ) → AreSound nodes clock ts → AreSound (set_of.insert nodes node) clock ts
sound_joined nodes clock ts node sound to =
    sound_by nodes (set_of.insert nodes node) clock to (map_of.get ts to)
    (λ t is there. set_of.contains-insert nat_cmp_total nodes node to.receiver ∙ or_there (eq_by_cmp nat_cmp to.receiver node) (set_of.contains nodes to.receiver) there) (sound to)

-- so does one that leaves, where no transfer leads to it
pub sound_departed : (nodes : Nodes) (clock : ℕ) (ts : Transfers) (node : ℕ) → ((s : ℕ) → transfer_to ts node s ≡ None) → AreSound nodes clock ts → AreSound (set_of.remove nodes node) clock ts
sound_departed nodes clock ts node none sound to =
    sound_by nodes (set_of.remove nodes node) clock to (map_of.get ts to)
    (λ t is there. set_of.contains-remove nat_cmp_total nodes node to.receiver ∙ stays t is there) (sound to)
  where
    stays : (t : Transfer) → map_of.get ts to ≡ Some t → set_of.contains nodes to.receiver ≡ true → (not (eq_by_cmp nat_cmp to.receiver node) && set_of.contains nodes to.receiver) ≡ true
    stays t is there = elim (cases_eq to.receiver node) [
      | inl same ↦ absurd (none-some t (sym (none to.segment) ∙ ap (λ r. transfer_to ts r to.segment) (sym same) ∙ is))
      | inr differ ↦ ap (λ b. not b && set_of.contains nodes to.receiver) (unsigned_tied to.receiver node ∙ ne_eqb to.receiver node differ) ∙ there
    ]
