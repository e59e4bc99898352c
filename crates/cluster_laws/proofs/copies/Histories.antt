-- What the events tell stays what the cluster has, by each kind of event.
use Rattle.std.proofs.Common.{◌≡◌, ℕ, ◌+◌, ◌==◌, Bool, true, false, cond, not, ◌&&◌, ◌||◌, List, ◌∷◌, refl, sym, ap, ◌∙◌, inl, inr, arith}
use Rattle.std.proofs.lemmas.Bool.{and_parts, eq-eqb, eqb-true, ne_eqb, true≢false}
use Rattle.std.specs.Cmp.{nat_eq_equiv}
use Rattle.std.specs.FinSet as set_of
use Rattle.std.specs.List.{list_any}
use Rattle.grid_event.specs.declared.config.Config.{Config}
use Rattle.grid_event.specs.declared.event.Event.{Event}
use Rattle.grid_event.specs.declared.event.Event.TheVariants.{Join, Depart, Announce, Install}
use Rattle.grid_event.specs.Maps.{clock_of}
use Rattle.grid_event.specs.Members.{installed_topology, is_live, loses_segment, newest_topology, was_member}
use Rattle.topology_coord.specs.Changes.{announces, departs, installs, joins}
use Rattle.topology_coord.specs.Coordination.{Coordination, installed_id, lives, loses, topology_of}
use Rattle.topology_coord.proofs.MemberLaws.{installed-departs, installed-installs, installed-joins, lives-departs, lives-installs, lives-joins, member-joins}
use Rattle.topology_phase.specs.Topologies.{Topology, holders}
use Rattle.cluster_model.specs.Kept.{KeepsTopologies}
use Rattle.cluster_model.specs.State.{State}
use Rattle.cluster_model.specs.Told.{IsTold, installed_by, topology_numbered}
use Rattle.cluster_laws.proofs.copies.Facts.{second_of, turned}

-- two pasts tell the same of members and topologies
pub record TellsAlike (config : Config) (past later : List Event) : Type 0 where
  pub live : is_live config later ≡ is_live config past
  pub member : was_member config later ≡ was_member config past
  pub newest : newest_topology config later ≡ newest_topology config past
  pub installed : installed_topology config later ≡ installed_topology config past
  pub numbered : topology_numbered config later ≡ topology_numbered config past

-- an event that changes neither settings nor members nor topologies
pub stands_told : (config : Config) (past later : List Event) (st after : State) → TellsAlike config past later → after.holding.config ≡ st.holding.config → after.calling.segments ≡ st.calling.segments → after.holding.coord ≡ st.holding.coord
    → after.holding.copying.clock ≡ clock_of later → IsTold config past st → IsTold config later after
stands_told config past later st after alike settings segments coord clock h = record {
  settings = settings ∙ h.settings;
  segments = segments ∙ h.segments;
  live = λ n. ap (λ (c : Coordination). lives c n) coord ∙ h.live n ∙ sym (ap (λ f. f n) alike.live);
  member = λ n. ap (λ (c : Coordination). set_of.contains c.ever n) coord ∙ h.member n ∙ sym (ap (λ f. f n) alike.member);
  newest = ap (λ (c : Coordination). c.newest) coord ∙ h.newest ∙ sym alike.newest;
  installed = λ n l.
      ap (λ (c : Coordination). installed_id c n) coord ∙ h.installed n (sym (ap (λ (c : Coordination). lives c n) coord) ∙ l) ∙ sym (ap (λ f. f n) alike.installed);
  newest_numbered = (λ i. alike.numbered i (coord i).newest.id) ∙ h.newest_numbered ∙ sym (ap (λ (c : Coordination). c.newest) coord);
  before_numbered = (λ i. alike.numbered i (coord i).before.id) ∙ h.before_numbered ∙ sym (ap (λ (c : Coordination). c.before) coord);
  clock = clock;
}

-- a test of equal numbers may be turned, before an or
flipped_or : (a b : ℕ) (x y : Bool) → x ≡ y → ((a == b) || x) ≡ ((b == a) || y)
flipped_or a b x y e = λ i. nat_eq_equiv.symm a b i || e i

-- and, denied, before an and
flipped_and : (a b : ℕ) (x y : Bool) → x ≡ y → (not (a == b) && x) ≡ (not (b == a) && y)
flipped_and a b x y e = λ i. not (nat_eq_equiv.symm a b i) && e i

-- and in a choice between numbers
flipped_cond : (a b : ℕ) (i j x y : ℕ) → i ≡ j → ((a == b) ≡ false → x ≡ y) → cond (a == b) i x ≡ cond (b == a) j y
flipped_cond a b i j x y first rest =
    elim (a == b) as (λ t. (a == b) ≡ t → cond t i x ≡ cond t j y) [
      | true ↦ λ _. first
      | false ↦ λ other. rest other
    ] refl
    ∙ ap (λ t. cond t j y) (nat_eq_equiv.symm a b)

module _ (config : Config) (past : List Event) (st after : State) (h : IsTold config past st) (settings : after.holding.config ≡ st.holding.config) (segments : after.calling.segments ≡ st.calling.segments) (clock : after.holding.copying.clock ≡ st.holding.copying.clock) where
  -- a node joins
  pub joined_told : (q : ℕ) → after.holding.coord ≡ joins st.holding.coord q → IsTold config (Join q ∷ past) after
  unfolding joins
  joined_told q coord = record {
    settings = settings ∙ h.settings;
    segments = segments ∙ h.segments;
    live = λ n. ap (λ (c : Coordination). lives c n) coord ∙ lives-joins st.holding.coord q n ∙ flipped_or n q (lives st.holding.coord n) (is_live config past n) (h.live n);
    member = λ n. ap (λ (c : Coordination). set_of.contains c.ever n) coord ∙ member-joins st.holding.coord q n ∙ flipped_or n q (set_of.contains st.holding.coord.ever n) (was_member config past n) (h.member n);
    newest = ap (λ (c : Coordination). c.newest) coord ∙ h.newest;
    installed = λ n l.
        ap (λ (c : Coordination). installed_id c n) coord
        ∙ installed-joins st.holding.coord q n
        ∙ flipped_cond n q st.holding.coord.newest.id (newest_topology config past).id (installed_id st.holding.coord n) (installed_topology config past n) (ap (λ (t : Topology). t.id) h.newest)
        (λ other. h.installed n (second_of (n == q) (lives st.holding.coord n) other (sym (ap (λ (c : Coordination). lives c n) coord ∙ lives-joins st.holding.coord q n) ∙ l)));
    newest_numbered = ap (λ (c : Coordination). topology_numbered config past c.newest.id) coord ∙ h.newest_numbered ∙ sym (ap (λ (c : Coordination). c.newest) coord);
    before_numbered = ap (λ (c : Coordination). topology_numbered config past c.before.id) coord ∙ h.before_numbered ∙ sym (ap (λ (c : Coordination). c.before) coord);
    clock = clock ∙ h.clock;
  }

  -- a node departs
  pub departed_told : (q : ℕ) → after.holding.coord ≡ departs st.holding.coord q → IsTold config (Depart q ∷ past) after
  unfolding departs
  departed_told q coord = record {
    settings = settings ∙ h.settings;
    segments = segments ∙ h.segments;
    live = λ n. ap (λ (c : Coordination). lives c n) coord ∙ lives-departs st.holding.coord q n ∙ flipped_and n q (lives st.holding.coord n) (is_live config past n) (h.live n);
    member = λ n. ap (λ (c : Coordination). set_of.contains c.ever n) coord ∙ h.member n;
    newest = ap (λ (c : Coordination). c.newest) coord ∙ h.newest;
    installed = λ n l.
        let was = and_parts (not (n == q)) (lives st.holding.coord n) (sym (ap (λ (c : Coordination). lives c n) coord ∙ lives-departs st.holding.coord q n) ∙ l) in
        ap (λ (c : Coordination). installed_id c n) coord
        ∙ installed-departs st.holding.coord q n
        ∙ ap (λ b. cond b 0 (installed_id st.holding.coord n)) (turned (n == q) was.0)
        ∙ h.installed n was.1;
    newest_numbered = ap (λ (c : Coordination). topology_numbered config past c.newest.id) coord ∙ h.newest_numbered ∙ sym (ap (λ (c : Coordination). c.newest) coord);
    before_numbered = ap (λ (c : Coordination). topology_numbered config past c.before.id) coord ∙ h.before_numbered ∙ sym (ap (λ (c : Coordination). c.before) coord);
    clock = clock ∙ h.clock;
  }

  -- a topology is announced that has the next number
  pub announced_told : (next : Topology) → next.id ≡ st.holding.coord.newest.id + 1 → after.holding.coord ≡ announces st.holding.coord next → IsTold config (Announce next ∷ past) after
  unfolding announces
  announced_told next more coord = record {
    settings = settings ∙ h.settings;
    segments = segments ∙ h.segments;
    live = λ n. ap (λ (c : Coordination). lives c n) coord ∙ h.live n;
    member = λ n. ap (λ (c : Coordination). set_of.contains c.ever n) coord ∙ h.member n;
    newest = ap (λ (c : Coordination). c.newest) coord;
    installed = λ n l. ap (λ (c : Coordination). installed_id c n) coord ∙ h.installed n (sym (ap (λ (c : Coordination). lives c n) coord) ∙ l);
    newest_numbered =
        ap (λ (c : Coordination). topology_numbered config (Announce next ∷ past) c.newest.id) coord
        ∙ ap (λ b. cond b next (topology_numbered config past next.id)) (eq-eqb next.id next.id refl)
        ∙ sym (ap (λ (c : Coordination). c.newest) coord);
    before_numbered =
        ap (λ (c : Coordination). topology_numbered config (Announce next ∷ past) c.before.id) coord
        ∙ ap (λ b. cond b next (topology_numbered config past st.holding.coord.newest.id)) (ne_eqb next.id st.holding.coord.newest.id (λ e. absurd (omega arith)))
        ∙ h.newest_numbered
        ∙ sym (ap (λ (c : Coordination). c.before) coord);
    clock = clock ∙ h.clock;
  }

  -- a live node installs the newest topology
  pub installed_told : (q id : ℕ) → lives st.holding.coord q ≡ true → id ≡ st.holding.coord.newest.id → after.holding.coord ≡ installs st.holding.coord q → IsTold config (Install q id ∷ past) after
  unfolding installs
  installed_told q id live number coord = record {
    settings = settings ∙ h.settings;
    segments = segments ∙ h.segments;
    live = λ n. ap (λ (c : Coordination). lives c n) coord ∙ lives-installs st.holding.coord q n ∙ already n ∙ h.live n;
    member = λ n. ap (λ (c : Coordination). set_of.contains c.ever n) coord ∙ h.member n;
    newest = ap (λ (c : Coordination). c.newest) coord ∙ h.newest;
    installed = λ n l.
        ap (λ (c : Coordination). installed_id c n) coord
        ∙ installed-installs st.holding.coord q n
        ∙ flipped_cond n q st.holding.coord.newest.id id (installed_id st.holding.coord n) (installed_topology config past n) (sym number)
        (λ _. h.installed n (sym (ap (λ (c : Coordination). lives c n) coord ∙ lives-installs st.holding.coord q n ∙ already n) ∙ l));
    newest_numbered = ap (λ (c : Coordination). topology_numbered config past c.newest.id) coord ∙ h.newest_numbered ∙ sym (ap (λ (c : Coordination). c.newest) coord);
    before_numbered = ap (λ (c : Coordination). topology_numbered config past c.before.id) coord ∙ h.before_numbered ∙ sym (ap (λ (c : Coordination). c.before) coord);
    clock = clock ∙ h.clock;
  }
    where
      already : (n : ℕ) → ((n == q) || lives st.holding.coord n) ≡ lives st.holding.coord n
      already n = elim (n == q) as (λ b. (n == q) ≡ b → (b || lives st.holding.coord n) ≡ lives st.holding.coord n) [
        | true ↦ λ same. sym (ap (lives st.holding.coord) (eqb-true n q same) ∙ live)
        | false ↦ λ _. refl
      ] refl

-- the segments that a departure loses are those that the events tell
pub loses_told : (config : Config) (past : List Event) (st : State) → IsTold config past st → (q : ℕ) → loses st.holding.coord q ≡ loses_segment config past q
unfolding loses
loses_told config past st h q = λ i t.
    list_any (λ n. h.live n i) (holders (h.newest i) t) && not (list_any (λ o. h.live o i && not (o == q)) (holders (h.newest i) t))

-- the topology that a live node has installed is the one that the events tell
pub installed_told_by : (segments : ℕ) (config : Config) (past : List Event) (st : State) → IsTold config past st → KeepsTopologies segments st.holding.coord → (n : ℕ) → is_live config past n ≡ true → topology_of st.holding.coord n ≡ installed_by config past n
installed_told_by segments config past st h topologies n live =
    let lived : lives st.holding.coord n ≡ true = h.live n ∙ live in
    elim (installed_id st.holding.coord n == st.holding.coord.newest.id) as (λ b. (installed_id st.holding.coord n == st.holding.coord.newest.id) ≡ b → cond b st.holding.coord.newest st.holding.coord.before ≡ topology_numbered config past (installed_id st.holding.coord n)) [
      | true ↦ λ same. sym (ap (topology_numbered config past) (eqb-true (installed_id st.holding.coord n) st.holding.coord.newest.id same) ∙ h.newest_numbered)
      | false ↦ λ other. elim (topologies.installed n lived) [
        | inl newest ↦ absurd (true≢false (sym (eq-eqb (installed_id st.holding.coord n) st.holding.coord.newest.id newest) ∙ other))
        | inr before ↦ sym (ap (topology_numbered config past) before ∙ h.before_numbered)
      ]
    ] refl
    ∙ ap (topology_numbered config past) (h.installed n lived)
