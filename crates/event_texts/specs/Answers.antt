-- What a call tells, against the reading that it follows.
use Rattle.std.specs.Prelude.{◌≡◌, ℕ, List, Option, None, Some, Result, Ok, Err}
use Rattle.std.specs.Borrow.{Bor}
use Rattle.grid_base.specs.Buffered.{Buffered}
use Rattle.grid_event.specs.declared.event.Event.{Event}
use Rattle.event_texts.specs.declared.event_fault.EventFault.{EventFault}
use Rattle.event_texts.specs.declared.event_fault.EventFault.TheVariants.{BadEvent, NoMemory}
use Rattle.event_texts.specs.Reading.{Reading}

-- what was read and the bytes behind it
abbrev pub Gives : {A : Type 0} → Result (A × Bor (List ℕ)) EventFault → Reading A → Type 0
Gives (Ok p) reading = reading ≡ Some (p.0, p.1.now)
Gives (Err BadEvent) reading = reading ≡ None
Gives (Err NoMemory) reading = Unit {0}

-- the same of a list that may have spare places
abbrev pub GivesList : {A : Type 0} → Result (Buffered A × Bor (List ℕ)) EventFault → Reading (List A) → Type 0
GivesList (Ok p) reading = reading ≡ Some (p.0.list, p.1.now)
GivesList (Err BadEvent) reading = reading ≡ None
GivesList (Err NoMemory) reading = Unit {0}

-- the same of what the call put into a place
abbrev pub GivesInto : {A : Type 0} → A → Result (Bor (List ℕ)) EventFault → Reading A → Type 0
GivesInto made (Ok rest) reading = reading ≡ Some (made, rest.now)
GivesInto made (Err BadEvent) reading = reading ≡ None
GivesInto made (Err NoMemory) reading = Unit {0}

-- the same of a whole text
abbrev pub GivesWhole : {A : Type 0} → Result A EventFault → Option A → Type 0
GivesWhole (Ok event) reading = reading ≡ Some event
GivesWhole (Err BadEvent) reading = reading ≡ None
GivesWhole (Err NoMemory) reading = Unit {0}

-- the answer is this event, or memory ran out
abbrev pub GivesOnly : Event → Result Event EventFault → Type 0
GivesOnly event (Ok read) = read ≡ event
GivesOnly event (Err BadEvent) = ⊥
GivesOnly event (Err NoMemory) = Unit {0}
