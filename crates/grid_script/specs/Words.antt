-- The first words of the lines of a script, and the words of guarantees.
use Rattle.std.specs.Prelude.{ℕ, List, [], ◌∷◌, codes}
use Rattle.delivery_mode.specs.declared.guarantee.Guarantee.{Guarantee}
use Rattle.delivery_mode.specs.declared.guarantee.Guarantee.TheVariants as guarantee
use Rattle.pipeline_parse.specs.Reading.{Read, word_at}
use Rattle.grid_script.specs.declared.words.StepWord.{StepWord}
use Rattle.grid_script.specs.declared.words.StepWord.TheVariants as step
use Rattle.grid_script.specs.declared.words.CopyWord.{CopyWord}
use Rattle.grid_script.specs.declared.words.CopyWord.TheVariants as copies
use Rattle.grid_script.specs.declared.words.CallWord.{CallWord}
use Rattle.grid_script.specs.declared.words.CallWord.TheVariants as calls
use Rattle.grid_script.specs.declared.words.UnitWord.{UnitWord}
use Rattle.grid_script.specs.declared.words.UnitWord.TheVariants as units
use Rattle.grid_script.specs.declared.words.BareWord.{BareWord}
use Rattle.grid_script.specs.declared.words.BareWord.TheVariants as bare
use Rattle.grid_script.specs.declared.words.LiveWord.{LiveWord}
use Rattle.grid_script.specs.declared.words.LiveWord.TheVariants as live
use Rattle.grid_script.specs.declared.words.GuaranteeWord.{GuaranteeWord}

-- what a transfer of a segment does
abbrev pub copy_word : CopyWord → List ℕ
copy_word copies.Copy = codes "copy "
copy_word copies.Land = codes "land "

-- what is asked of a call
abbrev pub call_word : CallWord → List ℕ
call_word calls.Round = codes "round "
call_word calls.Answer = codes "answer "
call_word calls.Drive = codes "drive "
call_word calls.Finish = codes "finish "

-- what is asked of a call's unit for a segment
abbrev pub unit_word : UnitWord → List ℕ
unit_word units.Begin = codes "begin "
unit_word units.Scan = codes "scan "
unit_word units.Fetch = codes "fetch "
unit_word units.Take = codes "take "
unit_word units.Done = codes "done "

-- lines of one word
abbrev pub bare_word : BareWord → List ℕ
bare_word bare.Announce = codes "announce"
bare_word bare.Advance = codes "advance"
bare_word bare.Settle = codes "settle"

-- the first word of a command of a stepped run, with the blank behind it where fields follow
abbrev pub step_word : StepWord → List ℕ
step_word step.Put = codes "put "
step_word step.Erase = codes "erase "
step_word step.Call = codes "call "
step_word step.Tick = codes "tick "
step_word step.Join = codes "join "
step_word step.Depart = codes "depart "
step_word step.Install = codes "install "
step_word (step.Copies word) = copy_word word
step_word (step.Calls word) = call_word word
step_word (step.Units word) = unit_word word
step_word (step.Bare word) = bare_word word

unfoldable pub step_words : List StepWord
step_words =
    step.Put ∷ step.Erase ∷ step.Call ∷ step.Tick ∷ step.Join ∷ step.Depart ∷ step.Install
    ∷ step.Copies copies.Copy ∷ step.Copies copies.Land
    ∷ step.Calls calls.Round ∷ step.Calls calls.Answer ∷ step.Calls calls.Drive ∷ step.Calls calls.Finish
    ∷ step.Units units.Begin ∷ step.Units units.Scan ∷ step.Units units.Fetch ∷ step.Units units.Take ∷ step.Units units.Done
    ∷ step.Bare bare.Announce ∷ step.Bare bare.Advance ∷ step.Bare bare.Settle ∷ []

-- the first word of a line of a live script
abbrev pub live_word : LiveWord → List ℕ
live_word live.Load = codes "load"
live_word live.Changes = codes "changes"
live_word live.Session = codes "session "
live_word live.Join = codes "join "
live_word live.Depart = codes "depart "
live_word live.Put = codes "put "
live_word live.Erase = codes "erase "
live_word live.Call = codes "call "

unfoldable pub live_words : List LiveWord
live_words = live.Load ∷ live.Changes ∷ live.Session ∷ live.Join ∷ live.Depart ∷ live.Put ∷ live.Erase ∷ live.Call ∷ []

-- the word of a guarantee, with the blank behind it
abbrev pub guarantee_word : Guarantee → List ℕ
guarantee_word guarantee.Exact = codes "exact "
guarantee_word guarantee.AtLeast = codes "atleast "
guarantee_word guarantee.AtMost = codes "atmost "

abbrev pub asked_word : GuaranteeWord → List ℕ
asked_word word = guarantee_word word.guarantee

unfoldable pub guarantee_words : List GuaranteeWord
guarantee_words = record { guarantee = guarantee.Exact } ∷ record { guarantee = guarantee.AtLeast } ∷ record { guarantee = guarantee.AtMost } ∷ []

-- the command that a line begins with
unfoldable pub step_word_at : List ℕ → Read StepWord
step_word_at s = word_at step_word step_words s

-- what a line of a live script begins with
unfoldable pub live_word_at : List ℕ → Read LiveWord
live_word_at s = word_at live_word live_words s

-- the guarantee of a call
unfoldable pub guarantee_at : List ℕ → Read GuaranteeWord
guarantee_at s = word_at asked_word guarantee_words s
