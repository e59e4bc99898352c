-- How each line of a live script keeps the rules.
use Rattle.std.proofs.Common.{◌≡◌, ℕ, ◌+◌, ◌≤◌, ◌<◌, true, List, [], ◌∷◌, ◌++◌, length, refl, sym, ap, subst, ◌∙◌, arith, append_assoc, append-nil}
use Rattle.std.proofs.lemmas.List.{length-append}
use Rattle.std.specs.FinSet as set
use Rattle.std.specs.List.{AllByRecursion}
use Rattle.grid_event.specs.declared.config.Config.{Config}
use Rattle.grid_event.specs.Configs.{is_config}
use Rattle.grid_script.specs.declared.deed.Deed.{Deed}
use Rattle.grid_script.specs.declared.live_known.LiveKnown.{LiveKnown}
use Rattle.grid_script.specs.declared.live_told.LiveTold.{LiveTold}
use Rattle.grid_script.specs.declared.live_told.LiveTold.TheVariants.{Opens, Changes, Loads, Does}
use Rattle.grid_script.specs.declared.member.Member.{Member}
use Rattle.grid_script.specs.declared.members.Members.{Members}
use Rattle.grid_script.specs.declared.section.Section.{Section}
use Rattle.grid_script.specs.declared.section.Section.TheVariants as section
use Rattle.grid_script.specs.declared.session.Session.{Session}
use Rattle.grid_script.specs.LiveLines.{IsSoFar, MayTell, all_sessions, is_session, section_with, sessions_begun, with_told}
use Rattle.grid_script.specs.LiveRules.{AreNew, ArePossible, IsDeedOf, IsEntryOf, IsNew, IsPossible, calls_behind, calls_with, deeds_of, members_behind, members_with}
use Rattle.grid_script.specs.Reading.{live_start}
use Rattle.grid_script.specs.Rules.{first_members}
use Rattle.grid_script.specs.Sets.{Calls}
use Rattle.grid_script.proofs.Sessions.{begun_length, deed_keeps, numbered_more}

-- what holds of each of some items and of one more holds of all
each_more : {A : Type 0} (P : A → Type 0) (xs : List A) (x : A) → AllByRecursion P xs → P x → AllByRecursion P (xs ++ x ∷ [])
each_more P [] x all one = (one, tt)
each_more P (y ∷ xs) x all one = (all.0, each_more P xs x all.1 one)

-- what holds of the last of some items holds of another in its place
each_last : {A : Type 0} (P : A → Type 0) (xs : List A) (x y : A) → (P x → P y) → AllByRecursion P (xs ++ x ∷ []) → AllByRecursion P (xs ++ y ∷ [])
each_last P [] x y f all = (f all.0, tt)
each_last P (z ∷ xs) x y f all = (all.0, each_last P xs x y f all.1)

-- one more change is possible behind the others
possible_more : (members : Members) (changes : List Member) (change : Member) → ArePossible members changes
    → IsPossible (members_behind members changes) change → ArePossible members (changes ++ change ∷ [])
possible_more members [] change all one = (one, tt)
possible_more members (first ∷ changes) change all one = (all.0, possible_more (members_with members first) changes change all.1 one)

-- the members behind one more change
members_more : (members : Members) (changes : List Member) (change : Member)
    → members_with (members_behind members changes) change ≡ members_behind members (changes ++ change ∷ [])
members_more members [] change = refl
members_more members (first ∷ changes) change = members_more (members_with members first) changes change

-- the call of one more deed is new behind the others
new_more : (calls : Calls) (deeds : List Deed) (deed : Deed) → AreNew calls deeds → IsNew (calls_behind calls deeds) deed
    → AreNew calls (deeds ++ deed ∷ [])
new_more calls [] deed all one = (one, tt)
new_more calls (first ∷ deeds) deed all one = (all.0, new_more (calls_with calls first) deeds deed all.1 one)

-- the calls behind one more deed
calls_more : (calls : Calls) (deeds : List Deed) (deed : Deed) → calls_with (calls_behind calls deeds) deed ≡ calls_behind calls (deeds ++ deed ∷ [])
calls_more calls [] deed = refl
calls_more calls (first ∷ deeds) deed = calls_more (calls_with calls first) deeds deed

-- what the sessions do and what one more does
deeds_more : (sessions : List Session) (session : Session) → deeds_of (sessions ++ session ∷ []) ≡ deeds_of sessions ++ session.orders
deeds_more [] session = append-nil session.orders
deeds_more (first ∷ sessions) session = ap (λ deeds. first.orders ++ deeds) (deeds_more sessions session) ∙ sym (append_assoc first.orders (deeds_of sessions) session.orders)

-- a session without deeds adds none
deeds_begun : (sessions : List Session) (session : Session) → session.orders ≡ [] → deeds_of (sessions ++ session ∷ []) ≡ deeds_of sessions
deeds_begun sessions session e = deeds_more sessions session ∙ ap (λ deeds. deeds_of sessions ++ deeds) e ∙ append-nil (deeds_of sessions)

-- the last session with one more deed
abbrev with_deed : Session → Deed → Session
with_deed session deed = record { number = session.number; home = session.home; orders = session.orders ++ deed ∷ [] }

-- one more deed of the session stands behind all others
deeds_done : (complete : List Session) (section : Section) (deed : Deed) → is_session section ≡ true
    → deeds_of (all_sessions complete (section_with section deed)) ≡ deeds_of (all_sessions complete section) ++ deed ∷ []
deeds_done complete section.Start deed e = absurd (cc)
deeds_done complete section.Load deed e = absurd (cc)
deeds_done complete section.Changes deed e = absurd (cc)
deeds_done complete (section.Session session) deed e =
    deeds_more complete (with_deed session deed)
    ∙ sym (append_assoc (deeds_of complete) session.orders (deed ∷ []))
    ∙ sym (ap (λ deeds. deeds ++ deed ∷ []) (deeds_more complete session))

-- a deed changes no home
homes_done : (nodes : ℕ) (complete : List Session) (section : Section) (deed : Deed)
    → AllByRecursion (λ (session : Session). session.home < nodes) (all_sessions complete section)
    → AllByRecursion (λ (session : Session). session.home < nodes) (all_sessions complete (section_with section deed))
homes_done nodes complete section.Start deed all = all
homes_done nodes complete section.Load deed all = all
homes_done nodes complete section.Changes deed all = all
homes_done nodes complete (section.Session session) deed all =
    each_last (λ (other : Session). other.home < nodes) complete session (with_deed session deed) (λ home. home) all

-- a deed begins no session
few_done : (complete : List Session) (section : Section) (deed : Deed)
    → length (all_sessions complete section) ≤ 16 → length (all_sessions complete (section_with section deed)) ≤ 16
few_done complete section.Start deed few = few
few_done complete section.Load deed few = few
few_done complete section.Changes deed few = few
few_done complete (section.Session session) deed few =
    let before = length-append complete (session ∷ []) in
    let after : length (all_sessions complete (section_with (section.Session session) deed)) ≡ length complete + 1 = length-append complete (with_deed session deed ∷ []) in
    omega (arith, before, after, few)

-- the next session is one of 16
few_more : (sessions : List Session) (session : Session) (begun : ℕ) → length sessions ≡ begun → session.number ≡ begun + 1 → session.number ≤ 16
    → length (sessions ++ session ∷ []) ≤ 16
few_more sessions session begun size next few = let longer = length-append sessions (session ∷ []) in omega (arith, longer, size, next, few)

-- the next session has the number behind the others
number_next : (sessions : List Session) (session : Session) (begun : ℕ) → length sessions ≡ begun → session.number ≡ begun + 1
    → session.number ≡ 1 + length sessions
number_next sessions session begun size next = omega (arith, size, next)

-- no line breaks a rule
pub keeps_rules : (known : LiveKnown) (told : LiveTold) → MayTell known told → IsSoFar known → IsSoFar (with_told known told)
unfolding with_told
keeps_rules known (Opens section.Start) may far = record { rules = far.rules; members = far.members; calls = far.calls }
keeps_rules known (Opens section.Load) may far = record { rules = far.rules; members = far.members; calls = far.calls }
keeps_rules known (Opens section.Changes) may far = record { rules = far.rules; members = far.members; calls = far.calls }
keeps_rules known (Opens (section.Session session)) may far =
    let same : deeds_of (all_sessions known.sessions known.section) ≡ deeds_of (all_sessions known.sessions known.section ++ session ∷ []) =
    sym (deeds_begun (all_sessions known.sessions known.section) session may.empty) in
    let size = begun_length known.sessions known.section in
    record {
      rules = record {
        settings = far.rules.settings;
        entries = far.rules.entries;
        possible = far.rules.possible;
        few = few_more (all_sessions known.sessions known.section) session (sessions_begun known.sessions known.section) size may.next may.few;
        numbered = numbered_more 1 (all_sessions known.sessions known.section) session far.rules.numbered
            (number_next (all_sessions known.sessions known.section) session (sessions_begun known.sessions known.section) size may.next);
        homes = each_more (λ (other : Session). other.home < known.config.nodes) (all_sessions known.sessions known.section) session far.rules.homes may.home;
        deeds = subst (AllByRecursion (IsDeedOf known.config)) same far.rules.deeds;
        calls = subst (AreNew set.empty) same far.rules.calls;
      };
      members = far.members;
      calls = far.calls ∙ ap (calls_behind set.empty) same;
    }
keeps_rules known (Changes change) may far = record {
  rules = record {
    settings = far.rules.settings;
    entries = far.rules.entries;
    possible = possible_more (first_members known.config.nodes) known.changes change far.rules.possible (subst (λ members. IsPossible members change) far.members may);
    few = far.rules.few;
    numbered = far.rules.numbered;
    homes = far.rules.homes;
    deeds = far.rules.deeds;
    calls = far.rules.calls;
  };
  members = ap (λ members. members_with members change) far.members ∙ members_more (first_members known.config.nodes) known.changes change;
  calls = far.calls;
}
keeps_rules known (Loads it) may far = record {
  rules = record {
    settings = far.rules.settings;
    entries = each_more (IsEntryOf known.config) known.load it far.rules.entries may;
    possible = far.rules.possible;
    few = far.rules.few;
    numbered = far.rules.numbered;
    homes = far.rules.homes;
    deeds = far.rules.deeds;
    calls = far.rules.calls;
  };
  members = far.members;
  calls = far.calls;
}
keeps_rules known (Does deed) may far =
    let more : deeds_of (all_sessions known.sessions known.section) ++ deed ∷ [] ≡ deeds_of (all_sessions known.sessions (section_with known.section deed)) =
    sym (deeds_done known.sessions known.section deed may.place) in
    record {
      rules = record {
        settings = far.rules.settings;
        entries = far.rules.entries;
        possible = far.rules.possible;
        few = few_done known.sessions known.section deed far.rules.few;
        numbered = deed_keeps known.sessions known.section deed far.rules.numbered;
        homes = homes_done known.config.nodes known.sessions known.section deed far.rules.homes;
        deeds = subst (AllByRecursion (IsDeedOf known.config)) more
            (each_more (IsDeedOf known.config) (deeds_of (all_sessions known.sessions known.section)) deed far.rules.deeds may.rules);
        calls = subst (AreNew set.empty) more
            (new_more set.empty (deeds_of (all_sessions known.sessions known.section)) deed far.rules.calls (subst (λ calls. IsNew calls deed) far.calls may.unused));
      };
      members = far.members;
      calls = ap (λ calls. calls_with calls deed) far.calls
          ∙ calls_more set.empty (deeds_of (all_sessions known.sessions known.section)) deed
          ∙ ap (calls_behind set.empty) more;
    }

-- before its first line a script keeps the rules
pub begins_kept : (config : Config) → is_config config ≡ true → IsSoFar (live_start config)
begins_kept config settings = record {
  rules = record {
    settings = settings;
    entries = tt;
    possible = tt;
    few = omega arith;
    numbered = refl;
    homes = tt;
    deeds = tt;
    calls = tt;
  };
  members = refl;
  calls = refl;
}
