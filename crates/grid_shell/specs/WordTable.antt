-- The table of the program's words in its own terms: first the words that say which run is asked for, then options, each at most once
-- and in any order.
use Rattle.std.specs.Prelude.{◌≡◌, ◌↔◌, ◌⊎◌, ℕ, Bool, true, false, ◌&&◌, if◌then◌else◌, List, [], ◌∷◌, ◌++◌, Option, None, Some, is_none, is_some, option_and_then, unwrap_or, codes}
use Rattle.std.specs.List.{flat_map, list_all}
use Rattle.grid_shell.specs.declared.asks.Asked.{Asked}
use Rattle.grid_shell.specs.declared.asks.Asked.TheVariants as asks
use Rattle.grid_shell.specs.declared.asks.Form.{Form}
use Rattle.grid_shell.specs.declared.asks.Form.TheVariants.{Full, Brief}
use Rattle.grid_shell.specs.declared.words.Name.{Name}
use Rattle.grid_shell.specs.declared.words.Name.TheVariants as names
use Rattle.grid_shell.specs.declared.words.Start.{Start}
use Rattle.grid_shell.specs.declared.words.Start.TheVariants.{Step, Live, Gen}
use Rattle.grid_shell.specs.Words.{asked_of, form_of, number_in, number_of, takes}

-- an option as it is given: its name, the word of its value, and whether both are one word, with `=` between them
pub record Choice : Type 0 where
  pub name : Name
  pub word : List ℕ
  pub joined : Bool

abbrev pub name_text : Name → List ℕ
name_text names.Form = codes "--form"
name_text names.Workers = codes "--workers"
name_text names.Keys = codes "--keys"
name_text names.Steps = codes "--steps"

-- the words in which an option is given
abbrev pub choice_words : Choice → List (List ℕ)
choice_words choice =
    if choice.joined then (name_text choice.name ++ 61 ∷ choice.word) ∷ [] else name_text choice.name ∷ choice.word ∷ []

-- the words with which each run begins: `step`, `live`, or `gen` and a word that spells its seed
abbrev pub Begins : Start → List (List ℕ) → Type 0
Begins Step words = words ≡ codes "step" ∷ []
Begins Live words = words ≡ codes "live" ∷ []
Begins (Gen seed) words = (word : List ℕ) × (words ≡ codes "gen" ∷ word ∷ []) × (number_of word ≡ Some seed)

-- two options are the same
abbrev pub is_name : Name → Name → Bool
is_name names.Form names.Form = true
is_name names.Workers names.Workers = true
is_name names.Keys names.Keys = true
is_name names.Steps names.Steps = true
is_name _ _ = false

-- the word of an option's value, where the option is given
abbrev pub given_for : Name → List Choice → Option (List ℕ)
given_for name [] = None
given_for name (choice ∷ choices) = if is_name name choice.name then Some choice.word else given_for name choices

-- each option is given at most once
abbrev pub are_once : List Choice → Bool
are_once [] = true
are_once (choice ∷ choices) = is_none (given_for choice.name choices) && are_once choices

-- a word spells a value of an option
abbrev pub spells : Name → List ℕ → Bool
spells names.Form word = is_some (form_of word)
spells names.Workers word = is_some (number_in 1 8 word)
spells names.Keys word = is_some (number_in 1 50000 word)
spells names.Steps word = is_some (number_in 0 50000 word)

-- the run takes the option, and its word spells a value
abbrev pub is_taken : Start → Choice → Bool
is_taken start choice = takes start choice.name && spells choice.name choice.word

-- the value that is given for an option
abbrev pub form_given : List Choice → Option Form
form_given choices = option_and_then form_of (given_for names.Form choices)

abbrev pub number_given : Name → ℕ → ℕ → List Choice → Option ℕ
number_given name least most choices = option_and_then (number_in least most) (given_for name choices)

-- what is asked for, with what stands for the options that aren't given
abbrev pub asked_with : Start → List Choice → Asked
asked_with Step choices = asks.Step (unwrap_or (form_given choices) Full)
asked_with Live choices =
    asks.Live (unwrap_or (form_given choices) Full) (unwrap_or (number_given names.Workers 1 8 choices) 2)
asked_with (Gen seed) choices =
    asks.Gen (unwrap_or (form_given choices) Brief) seed (unwrap_or (number_given names.Keys 1 50000 choices) 10000)
    (unwrap_or (number_given names.Steps 0 50000 choices) 2000)

-- the words are those of a run with options, and ask for this
pub record AskFor (words : List (List ℕ)) (asked : Asked) : Type 0 where
  pub start : Start
  pub first : List (List ℕ)
  pub choices : List Choice
  pub begins : Begins start first
  pub words_are : words ≡ first ++ flat_map choice_words choices
  pub taken : list_all (is_taken start) choices ≡ true
  pub once : are_once choices ≡ true
  pub asked_is : asked ≡ asked_with start choices

-- the program asks for exactly what the table says
abbrev pub WordsAreOfTheTable : Type 0
WordsAreOfTheTable = (words : List (List ℕ)) (asked : Asked) → (asked_of words ≡ Some asked) ↔ AskFor words asked

-- the option is among those that are given
abbrev pub IsAmong : Choice → List Choice → Type 0
IsAmong choice [] = ⊥
IsAmong choice (other ∷ choices) = (choice ≡ other) ⊎ IsAmong choice choices

-- the order in which options are given doesn't matter
abbrev pub OrderIsFree : Type 0
OrderIsFree = (start : Start) (choices others : List Choice) → are_once choices ≡ true → are_once others ≡ true
    → ((choice : Choice) → IsAmong choice choices ↔ IsAmong choice others) → asked_with start choices ≡ asked_with start others
