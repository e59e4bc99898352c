-- The rules that the script of a live run keeps.
use Rattle.std.specs.Prelude.{◌≡◌, ℕ, ◌≤◌, ◌<◌, true, List, [], ◌∷◌, ◌++◌, length, Ok}
use Rattle.std.specs.FinSet as set
use Rattle.std.specs.List.{AllByRecursion}
use Rattle.grid_base.specs.declared.entry.Entry.{Entry}
use Rattle.grid_base.specs.declared.limits.TheConstants.{LAST_CALL, MOST_BATCH, MOST_ROUNDS}
use Rattle.grid_event.specs.declared.config.Config.{Config}
use Rattle.grid_event.specs.declared.request.Request.{Request}
use Rattle.grid_event.specs.Configs.{is_config}
use Rattle.grid_script.specs.declared.deed.Deed.{Deed}
use Rattle.grid_script.specs.declared.deed.Deed.TheVariants as deed
use Rattle.grid_script.specs.declared.member.Member.{Member}
use Rattle.grid_script.specs.declared.member.Member.TheVariants as member
use Rattle.grid_script.specs.declared.members.Members.{Members}
use Rattle.grid_script.specs.declared.session.Session.{Session}
use Rattle.grid_script.specs.Judging.{Judged}
use Rattle.grid_script.specs.Rules.{first_members, needs_kind, needs_segment, needs_new, needs_typed, may_depart, may_join, with_departed, with_joined}
use Rattle.grid_script.specs.Scripts.{Lives, are_numbered}
use Rattle.grid_script.specs.Sets.{Calls}

-- the members behind a change
abbrev pub members_with : Members → Member → Members
members_with members (member.Join node) = with_joined members node
members_with members (member.Depart node) = with_departed members node

-- the members behind some changes
abbrev pub members_behind : Members → List Member → Members
members_behind members [] = members
members_behind members (change ∷ changes) = members_behind (members_with members change) changes

-- the node that joins or departs
abbrev pub node_of : Member → ℕ
node_of (member.Join node) = node
node_of (member.Depart node) = node

-- a node may join that was never a member, and a live one may depart that isn't the only one
abbrev pub may_change_by : Members → Member → Judged (Unit {0})
may_change_by members (member.Join node) = may_join members node
may_change_by members (member.Depart node) = may_depart members node

-- a change is possible
abbrev pub IsPossible : Members → Member → Type 0
IsPossible members change = (node_of change ≤ 15) × (may_change_by members change ≡ Ok tt)

-- each change is possible behind those before it
abbrev pub ArePossible : Members → List Member → Type 0
ArePossible members [] = Unit {0}
ArePossible members (change ∷ changes) = IsPossible members change × ArePossible (members_with members change) changes

-- the key has a segment, and the value is of the kind that the settings name
abbrev pub IsEntryOf : Config → Entry → Type 0
IsEntryOf config it = (needs_segment config it.key ≡ Ok tt) × (needs_kind config it.value ≡ Ok tt)

-- what a call asks for: 1 to 64 rounds, batches of 1 to 1,000 entries, and a pipeline that checks
pub record IsRequestOf (config : Config) (request : Request) : Type 0 where
  pub some_rounds : 1 ≤ request.rounds
  pub most_rounds : request.rounds ≤ MOST_ROUNDS
  pub some_batch : 1 ≤ request.batch
  pub most_batch : request.batch ≤ MOST_BATCH
  pub typed : needs_typed config request.pipeline ≡ Ok tt

-- a deed puts an entry, erases at a key that has a segment, or makes a call of a number from 1 to 4,096
abbrev pub IsDeedOf : Config → Deed → Type 0
IsDeedOf config (deed.Put it) = IsEntryOf config it
IsDeedOf config (deed.Erase key) = needs_segment config key ≡ Ok tt
IsDeedOf config (deed.Call call request) = (1 ≤ call) × ((call ≤ LAST_CALL) × IsRequestOf config request)

-- what all sessions do, one session behind the other
abbrev pub deeds_of : List Session → List Deed
deeds_of [] = []
deeds_of (session ∷ sessions) = session.orders ++ deeds_of sessions

-- the calls that were made, behind a deed
abbrev pub calls_with : Calls → Deed → Calls
calls_with calls (deed.Call call request) = set.insert calls call
calls_with calls _ = calls

-- the calls that were made, behind some deeds
abbrev pub calls_behind : Calls → List Deed → Calls
calls_behind calls [] = calls
calls_behind calls (deed ∷ deeds) = calls_behind (calls_with calls deed) deeds

-- a call that a deed makes has a number that none before it has
abbrev pub IsNew : Calls → Deed → Type 0
IsNew calls (deed.Call call request) = needs_new calls call ≡ Ok tt
IsNew calls _ = Unit {0}

-- no two calls have one number
abbrev pub AreNew : Calls → List Deed → Type 0
AreNew calls [] = Unit {0}
AreNew calls (deed ∷ deeds) = IsNew calls deed × AreNew (calls_with calls deed) deeds

-- the rules of a live script
pub record IsLive (script : Lives) : Type 0 where
  pub settings : is_config script.config ≡ true
  pub entries : AllByRecursion (IsEntryOf script.config) script.load
  pub possible : ArePossible (first_members script.config.nodes) script.changes
  pub few : length script.sessions ≤ 16
  pub numbered : are_numbered 1 script.sessions ≡ true
  pub homes : AllByRecursion (λ (session : Session). session.home < script.config.nodes) script.sessions
  pub deeds : AllByRecursion (IsDeedOf script.config) (deeds_of script.sessions)
  pub calls : AreNew set.empty (deeds_of script.sessions)
