-- Owners and hashes, by the places of their rows.
use Rattle.std.proofs.Common.{◌≡◌, ℕ, List, [], length, map, get_or, sym, ap, ◌<◌}
use Rattle.std.proofs.lemmas.List.{length-map, get_or-map}
use Rattle.std.proofs.lemmas.List.FromFn.{fill_by_all}
use Rattle.std.specs.List.{join_with_byte, range_with_len}
use Rattle.std.specs.Fmt.{decimal}
use Rattle.topology_phase.specs.Owners.{Hash, owners_at}
use Rattle.event_texts.specs.Topologies.{hash_text, owners_text}

-- the owner at a place
abbrev pub owner_text : List ℕ → ℕ → List ℕ
owner_text owners place = decimal (get_or owners place 0)

-- the owners of a segment
abbrev pub row_text : Hash → ℕ → List ℕ
row_text hash segment = owners_text (owners_at hash segment)

-- a list that is gone through by its places is gone through whole
by_places : {A B : Type 0} (f : A → B) (xs : List A) (d : A) → map f xs ≡ map (λ k. f (get_or xs k d)) (range_with_len 0 (length xs))
by_places f xs d =
    fill_by_all (λ k. f (get_or xs k d)) (map f xs) (length xs) (f d) (length-map xs f) (λ k lt. get_or-map f xs k d (f d) lt)

-- the owners of all places
pub owners_whole : (owners : List ℕ) → join_with_byte 44 (map (owner_text owners) (range_with_len 0 (length owners))) ≡ owners_text owners
owners_whole owners = ap (join_with_byte 44) (sym (by_places decimal owners 0))

-- the owners of all segments
pub hash_whole : (hash : Hash) → join_with_byte 59 (map (row_text hash) (range_with_len 0 (length hash))) ≡ hash_text hash
unfolding hash_text
hash_whole hash = ap (join_with_byte 59) (sym (by_places owners_text hash []))
