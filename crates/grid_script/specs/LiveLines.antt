-- The lines of a script of a live run: a definition for each kind of line, in the order in which its faults are told.
use Rattle.std.specs.Prelude.{◌≡◌, ℕ, ◌+◌, ◌≤◌, ◌<◌, Bool, true, false, ◌&&◌, ◌==◌, nat_le, nat_lt, List, [], ◌∷◌, ◌++◌, length, Ok, Err, if◌then◌else◌}
use Rattle.std.specs.FinSet as set
use Rattle.grid_base.specs.declared.entry.Entry.{Entry}
use Rattle.grid_base.specs.declared.limits.TheConstants.{LAST_CALL}
use Rattle.pipeline_parse.specs.Reading.{datum_at}
use Rattle.grid_script.specs.declared.deed.Deed.{Deed}
use Rattle.grid_script.specs.declared.deed.Deed.TheVariants as deed
use Rattle.grid_script.specs.declared.live_known.LiveKnown.{LiveKnown}
use Rattle.grid_script.specs.declared.live_told.LiveTold.{LiveTold}
use Rattle.grid_script.specs.declared.live_told.LiveTold.TheVariants.{Opens, Changes, Loads, Does}
use Rattle.grid_script.specs.declared.member.Member.TheVariants as member
use Rattle.grid_script.specs.declared.members.Members.{Members}
use Rattle.grid_script.specs.declared.reason.Reason.TheVariants.{NodeUnknown, OverLimit, Syntax}
use Rattle.grid_script.specs.declared.section.Section.{Section}
use Rattle.grid_script.specs.declared.section.Section.TheVariants as section
use Rattle.grid_script.specs.declared.session.Session.{Session}
use Rattle.grid_script.specs.declared.words.LiveWord.{LiveWord}
use Rattle.grid_script.specs.declared.words.LiveWord.TheVariants as live
use Rattle.grid_script.specs.Fields.{end_at, key_field, last_key, last_number, number_field}
use Rattle.grid_script.specs.Judging.{Judged, ◌>>=◌, needs, spelt}
use Rattle.grid_script.specs.LiveRules.{IsDeedOf, IsEntryOf, IsLive, IsNew, IsPossible, calls_behind, calls_with, deeds_of, members_behind, members_with}
use Rattle.grid_script.specs.Rules.{call_within, first_members, needs_kind, needs_segment, needs_new, needs_typed, may_depart, may_join, node_within, request_within}
use Rattle.grid_script.specs.Scripts.{Lives}
use Rattle.grid_script.specs.StepLines.{asked_in}
use Rattle.grid_script.specs.Words.{live_word_at}

-- no section was begun yet
abbrev pub is_start : Section → Bool
is_start section.Start = true
is_start _ = false

abbrev pub is_load : Section → Bool
is_load section.Load = true
is_load _ = false

abbrev pub is_changes : Section → Bool
is_changes section.Changes = true
is_changes _ = false

abbrev pub is_session : Section → Bool
is_session (section.Session session) = true
is_session _ = false

-- the changes stand behind the load, if there is one, and before the sessions
abbrev pub may_change : Section → Bool
may_change section.Start = true
may_change section.Load = true
may_change _ = false

-- the sessions behind those that are complete: that whose lines are being read, if it is one
abbrev pub all_sessions : List Session → Section → List Session
all_sessions complete (section.Session session) = complete ++ session ∷ []
all_sessions complete _ = complete

-- how many sessions were begun
abbrev pub sessions_begun : List Session → Section → ℕ
sessions_begun complete (section.Session session) = length complete + 1
sessions_begun complete _ = length complete

-- `load` opens the script
unfoldable pub load_in : LiveKnown → List ℕ → Judged LiveTold
load_in known s = do
  nothing ← spelt (end_at s)
  first ← needs (is_start known.section) Syntax
  Ok (Opens section.Load)

-- `changes`
unfoldable pub changes_in : LiveKnown → List ℕ → Judged LiveTold
changes_in known s = do
  nothing ← spelt (end_at s)
  next ← needs (may_change known.section) Syntax
  Ok (Opens section.Changes)

-- the next session has the next number, and there are at most 16
abbrev pub session_within : ℕ → ℕ → Judged ℕ
session_within before n = if (n == before + 1) && nat_le n 16 then Ok n else Err OverLimit

-- the home of a session has a number from 0 to 15, and is one of the first nodes
unfoldable pub home_within : ℕ → ℕ → Judged ℕ
home_within nodes n = do
  home ← node_within n
  if nat_lt home nodes then Ok home else Err NodeUnknown

-- `session NUMBER NODE`
unfoldable pub session_in : LiveKnown → List ℕ → Judged LiveTold
session_in known s = do
  first ← spelt (number_field s)
  second ← spelt (last_number first.1)
  number ← session_within (sessions_begun known.sessions known.section) first.0
  home ← home_within known.config.nodes second
  Ok (Opens (section.Session (record { number = number; home = home; orders = [] })))

-- `join NODE`
unfoldable pub member_join_in : LiveKnown → List ℕ → Judged LiveTold
member_join_in known s = do
  place ← needs (is_changes known.section) Syntax
  number ← spelt (last_number s)
  node ← node_within number
  new ← may_join known.members node
  Ok (Changes (member.Join node))

-- `depart NODE`
unfoldable pub member_depart_in : LiveKnown → List ℕ → Judged LiveTold
member_depart_in known s = do
  place ← needs (is_changes known.section) Syntax
  number ← spelt (last_number s)
  node ← node_within number
  further ← may_depart known.members node
  Ok (Changes (member.Depart node))

-- the entry of a put: `KEY DATUM`
unfoldable pub entry_in : List ℕ → Judged Entry
entry_in s = do
  key ← spelt (key_field s)
  datum ← spelt (datum_at key.1)
  nothing ← spelt (end_at datum.1)
  Ok (record { key = key.0; value = datum.0 })

-- entries are put in the load and in sessions
abbrev pub may_put : Section → Bool
may_put section.Load = true
may_put (section.Session session) = true
may_put _ = false

-- what a put tells: an entry of the load, or a deed of the session
abbrev pub put_told : Section → Entry → LiveTold
put_told section.Load it = Loads it
put_told _ it = Does (deed.Put it)

-- `put KEY DATUM`
unfoldable pub live_put_in : LiveKnown → List ℕ → Judged LiveTold
live_put_in known s = do
  place ← needs (may_put known.section) Syntax
  it ← entry_in s
  segment ← needs_segment known.config it.key
  kind ← needs_kind known.config it.value
  Ok (put_told known.section it)

-- `erase KEY`
unfoldable pub live_erase_in : LiveKnown → List ℕ → Judged LiveTold
live_erase_in known s = do
  place ← needs (is_session known.section) Syntax
  key ← spelt (last_key s)
  segment ← needs_segment known.config key
  Ok (Does (deed.Erase key))

-- `call CALL GUARANTEE ROUNDS BATCH PIPELINE`
unfoldable pub live_call_in : LiveKnown → List ℕ → Judged LiveTold
live_call_in known s = do
  place ← needs (is_session known.section) Syntax
  number ← spelt (number_field s)
  asked ← asked_in number.1
  call ← call_within number.0
  request ← request_within asked
  new ← needs_new known.calls call
  typed ← needs_typed known.config request.pipeline
  Ok (Does (deed.Call call request))

-- what a line tells, behind its first word
abbrev pub live_fields_in : LiveKnown → LiveWord → List ℕ → Judged LiveTold
live_fields_in known live.Load s = load_in known s
live_fields_in known live.Changes s = changes_in known s
live_fields_in known live.Session s = session_in known s
live_fields_in known live.Join s = member_join_in known s
live_fields_in known live.Depart s = member_depart_in known s
live_fields_in known live.Put s = live_put_in known s
live_fields_in known live.Erase s = live_erase_in known s
live_fields_in known live.Call s = live_call_in known s

-- what a line tells
unfoldable pub told_in : LiveKnown → List ℕ → Judged LiveTold
told_in known s = do
  word ← spelt (live_word_at s)
  live_fields_in known word.0 word.1

-- the section with one more deed
abbrev pub section_with : Section → Deed → Section
section_with (section.Session session) deed = section.Session (record { number = session.number; home = session.home; orders = session.orders ++ deed ∷ [] })
section_with other deed = other

-- what is known, with other members
unfoldable pub with_members : LiveKnown → Members → LiveKnown
with_members known members = record {
  config = known.config;
  members = members;
  calls = known.calls;
  section = known.section;
  load = known.load;
  changes = known.changes;
  sessions = known.sessions;
}

-- what is known behind a line that tells this
unfoldable pub with_told : LiveKnown → LiveTold → LiveKnown
with_told known (Opens next) = record {
  config = known.config;
  members = known.members;
  calls = known.calls;
  section = next;
  load = known.load;
  changes = known.changes;
  sessions = all_sessions known.sessions known.section;
}
with_told known (Changes change) = record {
  config = known.config;
  members = members_with known.members change;
  calls = known.calls;
  section = known.section;
  load = known.load;
  changes = known.changes ++ change ∷ [];
  sessions = known.sessions;
}
with_told known (Loads it) = record {
  config = known.config;
  members = known.members;
  calls = known.calls;
  section = known.section;
  load = known.load ++ it ∷ [];
  changes = known.changes;
  sessions = known.sessions;
}
with_told known (Does done) = record {
  config = known.config;
  members = known.members;
  calls = calls_with known.calls done;
  section = section_with known.section done;
  load = known.load;
  changes = known.changes;
  sessions = known.sessions;
}

-- the script that is known so far
abbrev pub lives_of : LiveKnown → Lives
lives_of known = record {
  config = known.config;
  load = known.load;
  changes = known.changes;
  sessions = all_sessions known.sessions known.section;
}

-- the call of a deed is in its limits
abbrev pub IsNotedDeed : Deed → Type 0
IsNotedDeed (deed.Call call request) = call ≤ LAST_CALL
IsNotedDeed _ = Unit {0}

-- a session that begins has the next number, of 16 at most, a first node as its home, and no deeds yet
pub record IsNextSession (known : LiveKnown) (session : Session) : Type 0 where
  pub next : session.number ≡ sessions_begun known.sessions known.section + 1
  pub few : session.number ≤ 16
  pub home : session.home < known.config.nodes
  pub empty : session.orders ≡ []

-- a section that begins is none of the sessions, or the next one
abbrev pub IsNextSection : LiveKnown → Section → Type 0
IsNextSection known (section.Session session) = IsNextSession known session
IsNextSection known _ = Unit {0}

-- a deed of a session keeps the rules
pub record IsNextDeed (known : LiveKnown) (deed : Deed) : Type 0 where
  pub place : is_session known.section ≡ true
  pub limits : IsNotedDeed deed
  pub rules : IsDeedOf known.config deed
  pub unused : IsNew known.calls deed

-- what a line tells keeps the rules
abbrev pub MayTell : LiveKnown → LiveTold → Type 0
MayTell known (Opens next) = IsNextSection known next
MayTell known (Changes change) = IsPossible known.members change
MayTell known (Loads it) = IsEntryOf known.config it
MayTell known (Does done) = IsNextDeed known done

-- the script that is known so far keeps the rules, and the members and the calls are those of its lines
pub record IsSoFar (known : LiveKnown) : Type 0 where
  pub rules : IsLive (lives_of known)
  pub members : known.members ≡ members_behind (first_members known.config.nodes) known.changes
  pub calls : known.calls ≡ calls_behind set.empty (deeds_of (lives_of known).sessions)
