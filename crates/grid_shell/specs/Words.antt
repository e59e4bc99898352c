-- What the words of the program ask for: the table of words, read one word after the other.
use Rattle.std.specs.Prelude.{ℕ, ◌+◌, ◌-◌, ◌*◌, ◌==◌, Bool, true, false, not, nat_lt, nat_le, ◌&&◌, if◌then◌else◌, List, [], ◌∷◌, Option, None, Some, is_some, option_map, option_and_then, unwrap_or, codes}
use Rattle.grid_base.specs.Datum.{same_bytes}
use Rattle.grid_shell.specs.declared.asks.Asked.{Asked}
use Rattle.grid_shell.specs.declared.asks.Asked.TheVariants as asks
use Rattle.grid_shell.specs.declared.asks.Form.{Form}
use Rattle.grid_shell.specs.declared.asks.Form.TheVariants.{Full, Brief, Json}
use Rattle.grid_shell.specs.declared.words.Name.{Name}
use Rattle.grid_shell.specs.declared.words.Name.TheVariants as names
use Rattle.grid_shell.specs.declared.words.Reading.{Reading}
use Rattle.grid_shell.specs.declared.words.Reading.TheVariants.{First, Seed, Options, Given}
use Rattle.grid_shell.specs.declared.words.Start.{Start}
use Rattle.grid_shell.specs.declared.words.Start.TheVariants.{Step, Live, Gen}
use Rattle.grid_shell.specs.declared.words.Told.{Told}

-- a word is this text
abbrev pub is_word : List ℕ → List ℕ → Bool
is_word = same_bytes

-- the number with further digits behind it, nine in all at most
abbrev pub digits_from : ℕ → List ℕ → Option ℕ
digits_from n [] = Some n
digits_from n (digit ∷ digits) =
    if (nat_le 48 digit && nat_le digit 57) && nat_lt n 100000000 then digits_from (n * 10 + (digit - 48)) digits else None

-- the number that a word spells: `0`, or one to nine digits without a leading zero
abbrev pub number_of : List ℕ → Option ℕ
number_of [] = None
number_of (digit ∷ []) = digits_from 0 (digit ∷ [])
number_of (first ∷ digit ∷ digits) = if first == 48 then None else digits_from 0 (first ∷ digit ∷ digits)

-- the number from a least to a greatest one that a word spells
abbrev pub number_in : ℕ → ℕ → List ℕ → Option ℕ
number_in least most word =
    option_and_then (λ n. if nat_le least n && nat_le n most then Some n else None) (number_of word)

-- the form that a word names
abbrev pub form_of : List ℕ → Option Form
form_of word =
    if is_word word (codes "full") then Some Full
    else if is_word word (codes "brief") then Some Brief
    else if is_word word (codes "json") then Some Json
    else None

-- what stands behind the front with which a text begins
abbrev pub behind : List ℕ → List ℕ → Option (List ℕ)
behind text [] = Some text
behind [] (first ∷ more) = None
behind (byte ∷ rest) (first ∷ more) = if byte == first then behind rest more else None

-- the option of that name, where the word begins with it
abbrev pub named_option : Name → Option (List ℕ) → Option (Name × List ℕ) → Option (Name × List ℕ)
named_option name None others = others
named_option name (Some rest) others = Some (name, rest)

-- the option that a word names, and what stands behind its name
abbrev pub named : List ℕ → Option (Name × List ℕ)
named word =
    named_option names.Form (behind word (codes "--form"))
    (named_option names.Workers (behind word (codes "--workers"))
    (named_option names.Keys (behind word (codes "--keys"))
    (named_option names.Steps (behind word (codes "--steps")) None)))

-- the options of each command
abbrev pub takes : Start → Name → Bool
takes start names.Form = true
takes Live names.Workers = true
takes (Gen seed) names.Keys = true
takes (Gen seed) names.Steps = true
takes _ _ = false

-- no option was given
abbrev pub untold : Told
untold = record { form = None; workers = None; keys = None; steps = None }

abbrev pub is_told : Told → Name → Bool
is_told told names.Form = is_some told.form
is_told told names.Workers = is_some told.workers
is_told told names.Keys = is_some told.keys
is_told told names.Steps = is_some told.steps

-- an option gets the value that a word spells
abbrev pub told_of : Told → Name → List ℕ → Option Told
told_of told names.Form word = option_map (λ form. record told { form = Some form }) (form_of word)
told_of told names.Workers word = option_map (λ n. record told { workers = Some n }) (number_in 1 8 word)
told_of told names.Keys word = option_map (λ n. record told { keys = Some n }) (number_in 1 50000 word)
told_of told names.Steps word = option_map (λ n. record told { steps = Some n }) (number_in 0 50000 word)

abbrev pub value_word : Start → Told → Name → List ℕ → Option Reading
value_word start told name word = option_map (λ told. Options start told) (told_of told name word)

-- behind an option's name stands nothing, and its value is the next word; or `=` and the value
abbrev pub by_rest : Start → Told → Name → List ℕ → Option Reading
by_rest start told name [] = Some (Given start told name)
by_rest start told name (sign ∷ value) = if sign == 61 then value_word start told name value else None

-- a word that names an option of the command, which was not given before
abbrev pub option_word : Start → Told → List ℕ → Option Reading
option_word start told word =
    option_and_then
    (λ parts. if takes start parts.0 && not (is_told told parts.0) then by_rest start told parts.0 parts.1 else None)
    (named word)

abbrev pub first_word : List ℕ → Option Reading
first_word word =
    if is_word word (codes "step") then Some (Options Step untold)
    else if is_word word (codes "live") then Some (Options Live untold)
    else if is_word word (codes "gen") then Some Seed
    else None

-- what is read with one more word
abbrev pub after_word : Reading → List ℕ → Option Reading
after_word First word = first_word word
after_word Seed word = option_map (λ seed. Options (Gen seed) untold) (number_of word)
after_word (Options start told) word = option_word start told word
after_word (Given start told name) word = value_word start told name word

abbrev pub after_words : Reading → List (List ℕ) → Option Reading
after_words reading [] = Some reading
after_words reading (word ∷ words) = option_and_then (λ next. after_words next words) (after_word reading word)

-- what was asked for once all words are read, with what stands for the options that were not given
abbrev pub asked_by : Reading → Option Asked
asked_by (Options Step told) = Some (asks.Step (unwrap_or told.form Full))
asked_by (Options Live told) = Some (asks.Live (unwrap_or told.form Full) (unwrap_or told.workers 2))
asked_by (Options (Gen seed) told) =
    Some (asks.Gen (unwrap_or told.form Brief) seed (unwrap_or told.keys 10000) (unwrap_or told.steps 2000))
asked_by _ = None

-- what a list of words asks for; none where it isn't in the table
unfoldable pub asked_of : List (List ℕ) → Option Asked
asked_of words = option_and_then asked_by (after_words First words)
