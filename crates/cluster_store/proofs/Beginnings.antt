-- The store at the start of a cluster.
use Rattle.std.proofs.Common.{◌≡◌, ℕ, ◌+◌, true, false, nat_lt, refl, sym, ap, subst, ◌∙◌, arith}
use Rattle.std.proofs.lemmas.Bool.Decides.{nat_tests}
use Rattle.std.proofs.lemmas.Option.{none-some}
use Rattle.std.specs.FinMap as map_of
use Rattle.std.specs.FinSet as set_of
use Rattle.std.specs.List.{range_with_len}
use Rattle.grid_event.specs.Configs.{is_config}
use Rattle.grid_event.specs.declared.config.Config.{Config}
use Rattle.state_transfer.specs.Calls.{ProvidesNone}
use Rattle.state_transfer.specs.Copying.{Stores, nothing_held, transfer_to}
use Rattle.state_transfer.proofs.CellLaws.{transfer-none}
use Rattle.topology_coord.specs.Coordination.{Coordination, first_coordination, lives}
use Rattle.topology_coord.proofs.FirstNodes.{nodes_more}
use Rattle.cluster_model.specs.State.{Holding, first_holding}
use Rattle.cluster_laws.proofs.copies.Starts.{first_node, good_config, start_kept}
use Rattle.cluster_store.specs.Insides.{IsReached, IsStore}
use Rattle.cluster_store.specs.Hints.{AreHints}
use Rattle.cluster_store.specs.declared.hints.Hints.{Hints}
use Rattle.cluster_store.proofs.Reached.{start_reached}

-- the first nodes are there, and hold nothing
abbrev pub first_stores : ℕ → Stores
first_stores n = record { nodes = set_of.from_list (range_with_len 0 n); copying = nothing_held }

-- the stores at the start are those of the first nodes
first_there : (n k : ℕ) → set_of.contains (first_stores n).nodes k ≡ nat_lt k n
first_there n k = set_of.contains-from_list_nat (range_with_len 0 n) k ∙ first_node n k

-- the next one isn't there yet
pub next_absent : (n k : ℕ) (stores : Stores) → stores ≡ first_stores n → k ≡ n → set_of.contains stores.nodes k ≡ false
next_absent n k stores are is = (λ i. set_of.contains (are i).nodes (is i)) ∙ first_there n n ∙ past n
  where
    past : (n : ℕ) → nat_lt n n ≡ false
    past n = grind (arith, nat_tests)

-- and provides nothing
pub next_provides : (n k : ℕ) (stores : Stores) → stores ≡ first_stores n → (s : ℕ) → ProvidesNone stores.copying.transfers k s
next_provides n k stores are s r v there = absurd (none-some v (sym (transfer-none r s) ∙ sym (ap (λ (x : Stores). transfer_to x.copying.transfers r s) are) ∙ there))

-- with it one more is there
pub next_there : (n k : ℕ) (stores later : Stores) → stores ≡ first_stores n → k ≡ n → later ≡ record stores { nodes = set_of.insert stores.nodes k } → later ≡ first_stores (n + 1)
next_there n k stores later are is put =
    put
    ∙ (λ i. record { nodes = set_of.insert (are i).nodes (is i); copying = (are i).copying })
    ∙ ap (λ nodes. record { nodes = nodes; copying = nothing_held }) (sym (nodes_more n))

-- the fields at the start are those of a store
pub first_store : (config : Config) (coord : Coordination) (stores : Stores) (hints : Hints) → ((st : Holding) → st.coord ≡ coord → st.copying.transfers ≡ map_of.empty → AreHints hints st) → is_config config ≡ true → coord ≡ first_coordination config.nodes config.segments config.owners config.aim → stores ≡ first_stores config.nodes
    → IsStore (record { config = config; coord = coord; copies = stores; hints = hints })
first_store config coord stores hints first good is are = record {
  limits = good;
  nodes = λ n.
      ap (λ (x : Stores). set_of.contains x.nodes n) are
      ∙ first_there config.nodes n
      ∙ sym ((start_kept config (good_config config good)).told.live n)
      ∙ ap (λ (c : Coordination). lives c n) (sym is);
  reached = subst (λ st. IsReached config st) (λ i. record (first_holding config) { coord = sym is i; copying = (sym are i).copying }) (start_reached config);
  hints = first (record (first_holding config) { coord = coord; copying = stores.copying }) refl (ap (λ (x : Stores). x.copying.transfers) are);
}
