-- The next change of the membership may always come. A past lists events, the newest first.
use Rattle.std.proofs.Common.{◌≡◌, ℕ, zero, suc, ◌+◌, ◌==◌, nat_lt, Bool, true, false, not, ◌&&◌, ◌||◌, List, [], ◌∷◌, ◌++◌, length, take, slice_get, Some, is_some, refl, sym, ap, subst, ◌∙◌, arith, inl, inr, cond}
use Rattle.std.proofs.lemmas.Bool.{and_from, cases_eq, eq-eqb, eqb-true, lt-ltb, ltb-true, true≢false}
use Rattle.std.specs.Cmp.{nat_cmp_total, nat_eq_equiv, unsigned_tied}
use Rattle.std.specs.FinMap as map_of
use Rattle.std.specs.FinSet as set
use Rattle.std.specs.FinSet.{nat_cmp-IsAntisymmetric}
use Rattle.std.specs.List.{list_any}
use Rattle.std.specs.Ordering.{eq_by_cmp, nat_cmp}
use Rattle.std.specs.Prelude.{Ok}
use Rattle.grid_event.specs.Members.{is_live, was_member}
use Rattle.grid_event.specs.declared.config.Config.{Config}
use Rattle.grid_event.specs.declared.event.Event.{Event}
use Rattle.grid_event.specs.declared.event.Event.TheVariants as events
use Rattle.grid_script.specs.Judging.{needs, ◌>>=◌}
use Rattle.grid_script.specs.LiveRules.{ArePossible, IsPossible, members_behind, members_with}
use Rattle.grid_script.specs.Rules.{first_members, first_nodes, may_depart, may_join, needs_live}
use Rattle.grid_script.specs.declared.member.Member.{Member}
use Rattle.grid_script.specs.declared.member.Member.TheVariants as member
use Rattle.grid_script.specs.declared.reason.Reason.TheVariants.{LastNode, NodeGone, NodeTwice, NodeUnknown}
use Rattle.topology_coord.specs.Coordination.{live_nodes, lives}
use Rattle.cluster_model.specs.Commands.{chosen, if_can}
use Rattle.cluster_model.specs.State.{State}
use Rattle.cluster_model.specs.Told.{IsTold}
use Rattle.cluster_model.specs.Topologies.{can_depart, can_join}
use Rattle.live_run.specs.Due.{change_command}
use Rattle.live_run.specs.Serving.{Begins, changes_in}

-- ---- members

-- whether a number is in a set with one more, as numbers are compared
inserted : (s : set.FinSet nat_cmp) (k n : ℕ) → set.contains (set.insert s k) n ≡ ((k == n) || set.contains s n)
inserted s k n = set.contains-insert nat_cmp_total s k n ∙ ap (λ b. b || set.contains s n) (unsigned_tied n k ∙ nat_eq_equiv.symm n k)

removed : (s : set.FinSet nat_cmp) (k n : ℕ) → set.contains (set.remove s k) n ≡ (not (k == n) && set.contains s n)
removed s k n = set.contains-remove nat_cmp_total s k n ∙ ap (λ b. not b && set.contains s n) (unsigned_tied n k ∙ nat_eq_equiv.symm n k)

-- the first nodes are those below their number
first_told : (count n : ℕ) → set.contains (first_nodes count) n ≡ nat_lt n count
first_told zero n = set.contains-empty nat_cmp n ∙ sym (none (nat_lt n 0) refl)
  where
    none : (c : Bool) → nat_lt n 0 ≡ c → c ≡ false
    none false g = refl
    none true g = absurd (let below = ltb-true n 0 g in omega (arith, below))
first_told (suc count) n = inserted (first_nodes count) count n ∙ ap (λ b. (count == n) || b) (first_told count n) ∙ by_test (count == n) refl (nat_lt n count) refl
  where
    by_test : (a : Bool) → (count == n) ≡ a → (b : Bool) → nat_lt n count ≡ b → (a || b) ≡ nat_lt n (suc count)
    by_test true e b f = sym (lt-ltb n (suc count) (let same = eqb-true count n e in omega (arith, same)))
    by_test false e true f = sym (lt-ltb n (suc count) (let less = ltb-true n count f in omega (arith, less)))
    by_test false e false f = sym (not_below (nat_lt n (suc count)) refl)
      where
        not_below : (c : Bool) → nat_lt n (suc count) ≡ c → c ≡ false
        not_below false g = refl
        not_below true g =
            let below = ltb-true n (suc count) g in
            elim (cases_eq count n) [
              | inl same ↦ absurd (true≢false (sym (eq-eqb count n same) ∙ e))
              | inr other ↦ absurd (true≢false (sym (lt-ltb n count (omega (arith, below, other))) ∙ f))
            ]

-- the members behind one more change
members_more : (members : _) (changes : List Member) (change : Member) → members_behind members (changes ++ change ∷ []) ≡ members_with (members_behind members changes) change
members_more members [] change = refl
members_more members (first ∷ changes) change = members_more (members_with members first) changes change

-- the members behind the changes of a past are those that its events tell
record AreTold (config : Config) (past : List Event) (ones now_live : set.FinSet nat_cmp) : Type 0 where
  ever : (n : ℕ) → set.contains ones n ≡ was_member config past n
  live : (n : ℕ) → set.contains now_live n ≡ is_live config past n

-- the same of the members behind some changes
abbrev AreToldBehind : Config → List Event → List Member → Type 0
AreToldBehind config past changes =
    AreTold config past (members_behind (first_members config.nodes) changes).ever (members_behind (first_members config.nodes) changes).live

members_told : (config : Config) (past : List Event) → AreToldBehind config past (changes_in past)
members_told config [] = record { ever = first_told config.nodes; live = first_told config.nodes }
members_told config (events.Join node ∷ past) =
    let rest = members_told config past in
    let before = members_behind (first_members config.nodes) (changes_in past) in
    subst (λ ms. AreTold config (events.Join node ∷ past) ms.ever ms.live) (sym (members_more (first_members config.nodes) (changes_in past) (member.Join node)))
    (record {
      ever = λ n. inserted before.ever node n ∙ ap (λ b. (node == n) || b) (rest.ever n);
      live = λ n. inserted before.live node n ∙ ap (λ b. (node == n) || b) (rest.live n);
    })
members_told config (events.Depart node ∷ past) =
    let rest = members_told config past in
    let before = members_behind (first_members config.nodes) (changes_in past) in
    subst (λ ms. AreTold config (events.Depart node ∷ past) ms.ever ms.live) (sym (members_more (first_members config.nodes) (changes_in past) (member.Depart node)))
    (record {
      ever = rest.ever;
      live = λ n. removed before.live node n ∙ ap (λ b. not (node == n) && b) (rest.live n);
    })
members_told config (_ ∷ past) = record { ever = (members_told config past).ever; live = (members_told config past).live }

-- ---- what is possible

-- a change is possible behind those before it
possible_at : (members : _) (changes : List Member) (n : ℕ) (change : Member) → ArePossible members changes → slice_get changes n ≡ Some change →
    IsPossible (members_behind members (take n changes)) change
possible_at members [] n change all at = absurd (cc)
possible_at members (first ∷ changes) zero change all at = let same : first ≡ change = cc in subst (IsPossible members) same all.0
possible_at members (first ∷ changes) (suc n) change all at = possible_at (members_with members first) changes n change all.1 at

-- a node that may join was no member
joins_new : (ever live : Bool) → (needs (not ever || live) NodeGone >>= (λ _. needs (not live) NodeTwice)) ≡ Ok tt → ever ≡ false
joins_new false live h = refl
joins_new true true h = absurd (cc)
joins_new true false h = absurd (cc)

-- a node that may depart is live, and not the only one
departs_one : (ever live only : Bool) → ((needs ever NodeUnknown >>= (λ _. needs live NodeGone)) >>= (λ _. needs (not only) LastNode)) ≡ Ok tt → (live ≡ true) × (only ≡ false)
departs_one true true false h = (refl, refl)
departs_one true true true h = absurd (cc)
departs_one true false only h = absurd (cc)
departs_one false live only h = absurd (cc)

-- of a map with more keys than one there are two
two_keys : (m : map_of.FinMap nat_cmp ℕ) (s : set.FinSet nat_cmp) (node : ℕ) → ((q : ℕ) → set.contains s q ≡ map_of.contains_key m q) → set.contains s node ≡ true → (set.len s == 1) ≡ false →
    nat_lt 1 (length (map_of.keys m)) ≡ true
two_keys m s node same there more = by_keys (map_of.keys m) (λ q. same q ∙ map_of.contains_key-keys m q)
  where
    one : (x : ℕ) → ((q : ℕ) → set.contains s q ≡ (eq_by_cmp nat_cmp q x || false)) → set.len s ≡ 1
    one x h =
        ap set.len
        (set.same_set nat_cmp_total nat_cmp-IsAntisymmetric s (set.insert set.empty x)
        (λ q. h q ∙ sym (set.contains-insert nat_cmp_total set.empty x q ∙ ap (λ b. eq_by_cmp nat_cmp q x || b) (set.contains-empty nat_cmp q))))
        ∙ set.len-insert nat_cmp_total set.empty x
        ∙ ap (λ b. cond b (set.len (set.empty {R = nat_cmp})) (set.len (set.empty {R = nat_cmp}) + 1)) (set.contains-empty nat_cmp x)
        ∙ ap (λ n. n + 1) (set.len-empty nat_cmp)

    by_keys : (ks : List ℕ) → ((q : ℕ) → set.contains s q ≡ list_any (eq_by_cmp nat_cmp q) ks) → nat_lt 1 (length ks) ≡ true
    by_keys [] h = absurd (true≢false (sym there ∙ h node))
    by_keys (x ∷ []) h = absurd (true≢false (sym (eq-eqb (set.len s) 1 (one x h)) ∙ more))
    by_keys (x ∷ y ∷ ks) h = lt-ltb 1 (length (x ∷ y ∷ ks)) (omega arith)

-- what a test lets pass is there
passes : (test : Bool) (event : Event) → test ≡ true → is_some (if_can test event) ≡ true
passes test event h = ap (λ b. is_some (if_can b event)) h

-- a possible change has an event
change_goes : (config : Config) (past : List Event) (st : State) (done : List Member) (change : Member) → IsTold config past st → AreToldBehind config past done →
    IsPossible (members_behind (first_members config.nodes) done) change →
    is_some (chosen st (change_command change)) ≡ true
unfolding chosen may_join may_depart needs_live can_join can_depart
change_goes config past st done (member.Join node) told known may =
    let members = members_behind (first_members config.nodes) done in
    let new = joins_new (set.contains members.ever node) (set.contains members.live node) may.1 in
    passes _ (events.Join node)
    (and_from (not (set.contains st.holding.coord.ever node)) (nat_lt node 16)
    (ap not (told.member node ∙ sym (known.ever node) ∙ new)) (lt-ltb node 16 (let few = may.0 in omega (arith, few))))
change_goes config past st done (member.Depart node) told known may =
    let members = members_behind (first_members config.nodes) done in
    let one = departs_one (set.contains members.ever node) (set.contains members.live node) (set.len members.live == 1) may.1 in
    let same : (q : ℕ) → set.contains members.live q ≡ lives st.holding.coord q = λ q. known.live q ∙ sym (told.live q) in
    passes _ (events.Depart node)
    (and_from (lives st.holding.coord node) (nat_lt 1 (length (live_nodes st.holding.coord))) (sym (same node) ∙ one.0)
    (two_keys st.holding.coord.installed members.live node same one.0 one.1))

-- the next change of a script has an event
pub moves_go : (config : Config) (past : List Event) (st : State) (changes : List Member) (change : Member) → IsTold config past st →
    ArePossible (first_members config.nodes) changes → Begins (changes_in past) changes → slice_get changes (length (changes_in past)) ≡ Some change →
    is_some (chosen st (change_command change)) ≡ true
moves_go config past st changes change told possible begun is_next =
    change_goes config past st (take (length (changes_in past)) changes) change told
    (subst (AreToldBehind config past) begun (members_told config past))
    (possible_at (first_members config.nodes) changes (length (changes_in past)) change possible is_next)
