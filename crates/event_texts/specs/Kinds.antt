-- The kinds of events, and their words.
use Rattle.std.specs.Prelude.{ℕ, List, [], ◌∷◌, codes}
pub use Rattle.event_texts.specs.declared.kind.Kind.{Kind}
use Rattle.event_texts.specs.declared.kind.Kind.TheVariants as kind

-- the word with which an event's text begins
abbrev pub kind_word : Kind → List ℕ
kind_word kind.Write = codes "write"
kind_word kind.Erase = codes "erase"
kind_word kind.Tick = codes "tick"
kind_word kind.Join = codes "join"
kind_word kind.Depart = codes "depart"
kind_word kind.Announce = codes "announce"
kind_word kind.Install = codes "install"
kind_word kind.Copy = codes "copy"
kind_word kind.Land = codes "land"
kind_word kind.Invoke = codes "invoke"
kind_word kind.Round = codes "round"
kind_word kind.Begin = codes "begin"
kind_word kind.Scan = codes "scan"
kind_word kind.Fetch = codes "fetch"
kind_word kind.Take = codes "take"
kind_word kind.Done = codes "done"
kind_word kind.Answer = codes "answer"

-- all kinds
abbrev pub kinds : List Kind
kinds =
    kind.Write ∷ kind.Erase ∷ kind.Tick ∷ kind.Join ∷ kind.Depart ∷ kind.Announce ∷ kind.Install ∷ kind.Copy ∷ kind.Land ∷ kind.Invoke ∷ kind.Round ∷ kind.Begin ∷ kind.Scan ∷ kind.Fetch ∷ kind.Take ∷ kind.Done ∷ kind.Answer ∷ []
