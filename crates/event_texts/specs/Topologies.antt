-- The texts of owners, of hashes and of topologies.
use Rattle.std.specs.Prelude.{ℕ, List, [], ◌∷◌, ◌++◌, codes, decimal, map}
use Rattle.std.specs.List.{join_with_byte}
use Rattle.topology_phase.specs.Owners.{Hash}
use Rattle.topology_phase.specs.declared.phase.Phase.{Phase}
use Rattle.topology_phase.specs.declared.phase.Phase.TheVariants.{NoRebalance, ReadOld, ReadAll, ReadNew}
use Rattle.topology_phase.specs.Topologies.{Topology}

-- the owners of a segment, with a comma between each two
abbrev pub owners_text : List ℕ → List ℕ
owners_text owners = join_with_byte 44 (map decimal owners)

-- the owners of all segments, with a semicolon between each two
unfoldable pub hash_text : Hash → List ℕ
hash_text hash = join_with_byte 59 (map owners_text hash)

-- the word of a phase
abbrev pub phase_text : Phase → List ℕ
phase_text NoRebalance = codes "NO_REBALANCE"
phase_text ReadOld = codes "READ_OLD_WRITE_ALL"
phase_text ReadAll = codes "READ_ALL_WRITE_ALL"
phase_text ReadNew = codes "READ_NEW_WRITE_ALL"

-- the pending hash behind a blank, which stands in a rebalance alone
abbrev pub pending_text : Phase → Hash → List ℕ
pending_text NoRebalance pending = []
pending_text ReadOld pending = 32 ∷ hash_text pending
pending_text ReadAll pending = 32 ∷ hash_text pending
pending_text ReadNew pending = 32 ∷ hash_text pending

-- a topology: its number, its phase, its hash, and the pending hash where there is one
unfoldable pub topology_text : Topology → List ℕ
topology_text topology =
    decimal topology.id
    ++ (32 ∷ (phase_text topology.phase ++ (32 ∷ (hash_text topology.current ++ pending_text topology.phase topology.pending))))
