-- The words are read as the table has them.
use Rattle.std.proofs.Common.{◌≡◌, ℕ, ◌==◌, Bool, true, false, not, ◌&&◌, if◌then◌else◌, List, [], ◌∷◌, ◌++◌, Option, None, Some, is_none, option_map, unwrap_or, refl, sym, ap, ◌∙◌, subst, inl, inr}
use Rattle.std.specs.Prelude.{option_and_then, codes, ◌↔◌}
use Rattle.std.proofs.lemmas.Bool.{and_from, and_parts, eqb-true}
use Rattle.std.proofs.lemmas.List.{append-nil}
use Rattle.std.specs.List.{flat_map, list_all}
use Rattle.grid_base.specs.Datum.{same_bytes}
use Rattle.grid_base.proofs.DatumLemmas.{same_bytes_decides}
use Rattle.grid_shell.specs.declared.asks.Asked.{Asked}
use Rattle.grid_shell.specs.declared.asks.Asked.TheVariants as asks
use Rattle.grid_shell.specs.declared.asks.Form.TheVariants.{Full, Brief}
use Rattle.grid_shell.specs.declared.words.Name.{Name}
use Rattle.grid_shell.specs.declared.words.Name.TheVariants as names
use Rattle.grid_shell.specs.declared.words.Reading.{Reading}
use Rattle.grid_shell.specs.declared.words.Reading.TheVariants.{First, Seed, Options, Given}
use Rattle.grid_shell.specs.declared.words.Start.{Start}
use Rattle.grid_shell.specs.declared.words.Start.TheVariants.{Step, Live, Gen}
use Rattle.grid_shell.specs.declared.words.Told.{Told}
use Rattle.grid_shell.specs.Words.{after_word, after_words, asked_by, asked_of, behind, by_rest, first_word, form_of, is_told, named, named_option, number_in, number_of, option_word, takes, told_of, untold, value_word}
use Rattle.grid_shell.specs.WordTable.{AskFor, Begins, Choice, IsAmong, OrderIsFree, WordsAreOfTheTable, are_once, asked_with, choice_words, given_for, is_name, name_text}
use Rattle.grid_shell.proofs.WordOptions.{Follows, follow, followed, merged}

-- ---- the name of an option in front of a word

-- what stands behind a front stands behind it
behind_is : (text front rest : List ℕ) → behind text front ≡ Some rest → text ≡ front ++ rest
behind_is text [] rest e = ap (λ (o : Option (List ℕ)). unwrap_or o []) e
behind_is [] (first ∷ more) rest e = absurd (cc)
behind_is (byte ∷ text) (first ∷ more) rest e = by_test (byte == first) refl e (behind_is text more rest)
  where
    by_test : (b : Bool) → (byte == first) ≡ b → (if b then behind text more else None) ≡ Some rest → (behind text more ≡ Some rest → text ≡ more ++ rest) → byte ∷ text ≡ first ∷ (more ++ rest)
    by_test true same e further = λ i. eqb-true byte first same i ∷ further e i
    by_test false other e further = absurd (cc)

-- a word that names an option begins with its name
record IsNamed (word : List ℕ) (parts : Name × List ℕ) : Type 0 where
  is : word ≡ name_text parts.0 ++ parts.1

-- what is there is what it is equal to
same_parts : (a b : Name × List ℕ) → Some a ≡ Some b → a ≡ b
same_parts a b e = ap (λ (o : Option (Name × List ℕ)). unwrap_or o a) e

-- by one name, or else by the others
named_by : (word : List ℕ) (name : Name) (found : Option (List ℕ)) (others : Option (Name × List ℕ)) (parts : Name × List ℕ) → behind word (name_text name) ≡ found →
    (others ≡ Some parts → IsNamed word parts) → named_option name found others ≡ Some parts → IsNamed word parts
named_by word name None others parts found further e = further e
named_by word name (Some rest) others parts found further e =
    record { is = behind_is word (name_text name) rest found ∙ ap (λ (p : Name × List ℕ). name_text p.0 ++ p.1) (same_parts (name, rest) parts e) }

-- a word that names an option begins with that option's name
named_is : (word : List ℕ) (parts : Name × List ℕ) → named word ≡ Some parts → IsNamed word parts
named_is word parts e =
    named_by word names.Form (behind word (codes "--form")) _ parts refl
    (named_by word names.Workers (behind word (codes "--workers")) _ parts refl
    (named_by word names.Keys (behind word (codes "--keys")) _ parts refl
    (named_by word names.Steps (behind word (codes "--steps")) None parts refl (λ none. absurd (cc))))) e

-- and a word that begins with a name names that option
named_there : (name : Name) (rest : List ℕ) → named (name_text name ++ rest) ≡ Some (name, rest)
named_there names.Form rest = refl
named_there names.Workers rest = refl
named_there names.Keys rest = refl
named_there names.Steps rest = refl

-- ---- reading options

-- the words behind a reading, up to the end
abbrev OptionsBehind : Start → Told → List (List ℕ) → Start → Told → Type 0
OptionsBehind start told words last_start last =
    (choices : List Choice) × (words ≡ flat_map choice_words choices) × (last_start ≡ start) × Follows start told choices last

-- and the words behind each reading
abbrev Behind : Reading → List (List ℕ) → Start → Told → Type 0
Behind First words start last =
    (first : List (List ℕ)) × (rest : List (List ℕ)) × (words ≡ first ++ rest) × (begun : Start) × Begins begun first × OptionsBehind begun untold rest start last
Behind Seed words start last =
    (word : List ℕ) × (rest : List (List ℕ)) × (words ≡ word ∷ rest) × (seed : ℕ) × (number_of word ≡ Some seed) × OptionsBehind (Gen seed) untold rest start last
Behind (Options begun told) words start last = OptionsBehind begun told words start last
Behind (Given begun told name) words start last =
    (word : List ℕ) × (rest : List (List ℕ)) × (words ≡ word ∷ rest) × (next : Told) × (told_of told name word ≡ Some next) × OptionsBehind begun next rest start last

-- what is there is what it is equal to
same_reading : (a b : Reading) → Some a ≡ Some b → a ≡ b
same_reading a b e = ap (λ (o : Option Reading). unwrap_or o a) e

-- a reading with its value, where it is there
value_read : (begun : Start) (found : Option Told) (r : Reading) → option_map (λ (t : Told). Options begun t) found ≡ Some r → (next : Told) × (found ≡ Some next) × (r ≡ Options begun next)
value_read begun None r e = absurd (cc)
value_read begun (Some next) r e = (next, refl, sym (same_reading (Options begun next) r e))

-- one word of an option, and what is behind it
module _ (begun : Start) (told : Told) (word : List ℕ) (words : List (List ℕ)) (start : Start) (last : Told) where
  -- the option is one word with its value
  joined_on : (name : Name) (value_word_of : List ℕ) (next : Told) → takes begun name ≡ true → is_told told name ≡ false → told_of told name value_word_of ≡ Some next →
      word ≡ name_text name ++ 61 ∷ value_word_of → OptionsBehind begun next words start last → OptionsBehind begun told (word ∷ words) start last
  joined_on name given next takes_it none spelled is (choices, rest, same, follows) =
      (record { name = name; word = given; joined = true } ∷ choices, (λ i. is i ∷ rest i), same, (next, takes_it, none, spelled, follows))

  -- the option is this word, and its value the next one
  apart_on : (name : Name) → takes begun name ≡ true → is_told told name ≡ false → word ≡ name_text name ++ [] → Behind (Given begun told name) words start last →
      OptionsBehind begun told (word ∷ words) start last
  apart_on name takes_it none is (given, rest, next_is, next, spelled, (choices, further, same, follows)) = (
    record { name = name; word = given; joined = false } ∷ choices,
    (λ i. (is ∙ append-nil (name_text name)) i ∷ (next_is ∙ ap (λ (ws : List (List ℕ)). given ∷ ws) further) i),
    same,
    (next, takes_it, none, spelled, follows),
  )

  by_parts : (name : Name) (rest : List ℕ) (r : Reading) → takes begun name ≡ true → is_told told name ≡ false → word ≡ name_text name ++ rest →
      by_rest begun told name rest ≡ Some r → Behind r words start last → OptionsBehind begun told (word ∷ words) start last
  by_parts name [] r takes_it none is e later =
      apart_on name takes_it none is (subst_reading (sym (same_reading (Given begun told name) r e)) later)
    where
      subst_reading : r ≡ Given begun told name → Behind r words start last → Behind (Given begun told name) words start last
      subst_reading same b = subst (λ (x : Reading). Behind x words start last) (same) b
  by_parts name (sign ∷ given) r takes_it none is e later = by_sign (sign == 61) refl e
    where
      on_value : sign ≡ 61 → (next : Told) × (told_of told name given ≡ Some next) × (r ≡ Options begun next) → OptionsBehind begun told (word ∷ words) start last
      on_value same (next, spelled, r_is) =
          joined_on name given next takes_it none spelled (is ∙ ap (λ (n : ℕ). name_text name ++ n ∷ given) same) (subst (λ (x : Reading). Behind x words start last) (r_is) later)

      by_sign : (b : Bool) → (sign == 61) ≡ b → (if b then value_word begun told name given else None) ≡ Some r → OptionsBehind begun told (word ∷ words) start last
      by_sign true same e = on_value (eqb-true sign 61 same) (value_read begun (told_of told name given) r e)
      by_sign false other e = absurd (cc)

  not_true : (b : Bool) → not b ≡ true → b ≡ false
  not_true true e = absurd (cc)
  not_true false e = refl

  by_named : (found : Option (Name × List ℕ)) → named word ≡ found → (r : Reading) →
      option_and_then (λ parts. if takes begun parts.0 && not (is_told told parts.0) then by_rest begun told parts.0 parts.1 else None) found ≡ Some r →
      Behind r words start last → OptionsBehind begun told (word ∷ words) start last
  by_named None found r e later = absurd (cc)
  by_named (Some parts) found r e later = by_test (takes begun parts.0 && not (is_told told parts.0)) refl e
    where
      by_test : (b : Bool) → (takes begun parts.0 && not (is_told told parts.0)) ≡ b → (if b then by_rest begun told parts.0 parts.1 else None) ≡ Some r → OptionsBehind begun told (word ∷ words) start last
      by_test true both e =
          let p = and_parts (takes begun parts.0) (not (is_told told parts.0)) both in
          by_parts parts.0 parts.1 r p.0 (not_true (is_told told parts.0) p.1) (named_is word parts found).is e later
      by_test false neither e = absurd (cc)

  option_read : (r : Reading) → option_word begun told word ≡ Some r → Behind r words start last → OptionsBehind begun told (word ∷ words) start last
  option_read r e later = by_named (named word) refl r e later

-- a first word
first_read : (word : List ℕ) (words : List (List ℕ)) (r : Reading) (start : Start) (last : Told) → first_word word ≡ Some r → Behind r words start last → Behind First (word ∷ words) start last
first_read word words r start last e later = by_step (same_bytes word (codes "step")) refl e
  where
    is_these : (other : List ℕ) → same_bytes word other ≡ true → word ≡ other
    is_these other same = (same_bytes_decides word other).0 same

    by_gen : (b : Bool) → same_bytes word (codes "gen") ≡ b → (if b then Some Seed else None) ≡ Some r → Behind First (word ∷ words) start last
    by_gen true same e = on_seed (subst (λ (x : Reading). Behind x words start last) (sym (same_reading Seed r e)) later)
      where
        on_seed : Behind Seed words start last → Behind First (word ∷ words) start last
        on_seed (given, rest, is, seed, spelled, options) =
            (codes "gen" ∷ given ∷ [], rest, (λ i. is_these (codes "gen") same i ∷ is i), Gen seed, (given, refl, spelled), options)
    by_gen false other e = absurd (cc)

    by_live : (b : Bool) → same_bytes word (codes "live") ≡ b → (if b then Some (Options Live untold) else if same_bytes word (codes "gen") then Some Seed else None) ≡ Some r → Behind First (word ∷ words) start last
    by_live true same e =
        (codes "live" ∷ [], words, (λ i. is_these (codes "live") same i ∷ words), Live, refl, subst (λ (x : Reading). Behind x words start last) (sym (same_reading (Options Live untold) r e)) later)
    by_live false other e = by_gen (same_bytes word (codes "gen")) refl e

    by_step : (b : Bool) → same_bytes word (codes "step") ≡ b → (if b then Some (Options Step untold) else if same_bytes word (codes "live") then Some (Options Live untold) else if same_bytes word (codes "gen") then Some Seed else None) ≡ Some r → Behind First (word ∷ words) start last
    by_step true same e =
        (codes "step" ∷ [], words, (λ i. is_these (codes "step") same i ∷ words), Step, refl, subst (λ (x : Reading). Behind x words start last) (sym (same_reading (Options Step untold) r e)) later)
    by_step false other e = by_live (same_bytes word (codes "live")) refl e

-- ---- reading all words

-- readings that are equal tell the same
same_options : (a b : Start) (told last : Told) → Options a told ≡ Options b last → (b ≡ a) × (last ≡ told)
same_options a b told last e = (sym (ap start_in e), sym (ap told_in e))
  where
    start_in : Reading → Start
    start_in (Options start told) = start
    start_in _ = a

    told_in : Reading → Told
    told_in (Options start told) = told
    told_in _ = told

-- the words that are read up to an end are those behind the reading
words_read : (words : List (List ℕ)) (reading : Reading) (start : Start) (last : Told) → after_words reading words ≡ Some (Options start last) → Behind reading words start last
words_read [] First start last e = absurd (let is = same_reading First (Options start last) e in cc)
words_read [] Seed start last e = absurd (let is = same_reading Seed (Options start last) e in cc)
words_read [] (Options begun told) start last e =
    let both = same_options begun start told last (same_reading (Options begun told) (Options start last) e) in
    ([], refl, both.0, both.1)
words_read [] (Given begun told name) start last e = absurd (let is = same_reading (Given begun told name) (Options start last) e in cc)
words_read (word ∷ words) reading start last e = by_next (after_word reading word) refl e (λ next. words_read words next start last)
  where
    on_word : (reading next : Reading) → after_word reading word ≡ Some next → Behind next words start last → Behind reading (word ∷ words) start last
    on_word First next is later = first_read word words next start last is later
    on_word Seed next is later = by_seed (number_of word) refl is later
      where
        by_seed : (found : Option ℕ) → number_of word ≡ found → option_map (λ seed. Options (Gen seed) untold) found ≡ Some next → Behind next words start last → Behind Seed (word ∷ words) start last
        by_seed None found is later = absurd (cc)
        by_seed (Some seed) found is later =
            (word, words, refl, seed, found, subst (λ (x : Reading). Behind x words start last) (sym (same_reading (Options (Gen seed) untold) next is)) later)
    on_word (Options begun told) next is later = option_read begun told word words start last next is later
    on_word (Given begun told name) next is later = by_value (value_read begun (told_of told name word) next is)
      where
        by_value : (after : Told) × (told_of told name word ≡ Some after) × (next ≡ Options begun after) → Behind (Given begun told name) (word ∷ words) start last
        by_value (after, spelled, next_is) =
            (word, words, refl, after, spelled, subst (λ (x : Reading). Behind x words start last) next_is later)

    by_next : (found : Option Reading) → after_word reading word ≡ found → option_and_then (λ next. after_words next words) found ≡ Some (Options start last) →
        ((next : Reading) → after_words next words ≡ Some (Options start last) → Behind next words start last) → Behind reading (word ∷ words) start last
    by_next None found e further = absurd (cc)
    by_next (Some next) found e further = on_word reading next found (further next e)

-- ---- words that are given are read

-- where a reading has a next one, the words behind go on from there
goes_on : (reading next : Reading) (word : List ℕ) (words : List (List ℕ)) → after_word reading word ≡ Some next → after_words reading (word ∷ words) ≡ after_words next words
goes_on reading next word words is = ap (option_and_then (λ (r : Reading). after_words r words)) is

-- the word of an option, with what is behind its name
option_there : (start : Start) (told : Told) (name : Name) (rest : List ℕ) → takes start name ≡ true → is_told told name ≡ false → option_word start told (name_text name ++ rest) ≡ by_rest start told name rest
option_there start told name rest takes_it none =
    ap (option_and_then (λ (parts : Name × List ℕ). if takes start parts.0 && not (is_told told parts.0) then by_rest start told parts.0 parts.1 else None)) (named_there name rest)
    ∙ ap (λ (b : Bool). if b then by_rest start told name rest else None) (λ i. takes_it i && not (none i))

-- options that follow are read
options_there : (choices : List Choice) (start : Start) (told last : Told) → Follows start told choices last → after_words (Options start told) (flat_map choice_words choices) ≡ Some (Options start last)
options_there [] start told last is = ap (λ (t : Told). Some (Options start t)) (sym is)
options_there (choice ∷ choices) start told last (next, takes_it, none, spelled, follows) =
    by_joined choice.joined (options_there choices start next last follows)
  where
    by_joined : (joined : Bool) → after_words (Options start next) (flat_map choice_words choices) ≡ Some (Options start last) →
        after_words (Options start told) ((if joined then (name_text choice.name ++ 61 ∷ choice.word) ∷ [] else name_text choice.name ∷ choice.word ∷ []) ++ flat_map choice_words choices) ≡ Some (Options start last)
    by_joined true further =
        goes_on (Options start told) (Options start next) (name_text choice.name ++ 61 ∷ choice.word) (flat_map choice_words choices)
        (option_there start told choice.name (61 ∷ choice.word) takes_it none ∙ ap (option_map (λ (t : Told). Options start t)) spelled)
        ∙ further
    by_joined false further =
        goes_on (Options start told) (Given start told choice.name) (name_text choice.name) (choice.word ∷ flat_map choice_words choices)
        (ap (option_word start told) (sym (append-nil (name_text choice.name))) ∙ option_there start told choice.name [] takes_it none)
        ∙ goes_on (Given start told choice.name) (Options start next) choice.word (flat_map choice_words choices) (ap (option_map (λ (t : Told). Options start t)) spelled)
        ∙ further

-- the first words are read
first_there : (start : Start) (first rest : List (List ℕ)) → Begins start first → after_words First (first ++ rest) ≡ after_words (Options start untold) rest
first_there Step first rest is = ap (λ (ws : List (List ℕ)). after_words First (ws ++ rest)) is
first_there Live first rest is = ap (λ (ws : List (List ℕ)). after_words First (ws ++ rest)) is
first_there (Gen seed) first rest (word, is, spelled) =
    ap (λ (ws : List (List ℕ)). after_words First (ws ++ rest)) is
    ∙ goes_on Seed (Options (Gen seed) untold) word rest (ap (option_map (λ (n : ℕ). Options (Gen n) untold)) spelled)

-- ---- what is asked for

-- nothing is told at first
free_at_first : (choices : List Choice) → list_all (λ (c : Choice). not (is_told untold c.name)) choices ≡ true
free_at_first [] = refl
free_at_first (choice ∷ choices) = and_from (not (is_told untold choice.name)) _ (by_name choice.name) (free_at_first choices)
  where
    by_name : (name : Name) → not (is_told untold name) ≡ true
    by_name names.Form = refl
    by_name names.Workers = refl
    by_name names.Keys = refl
    by_name names.Steps = refl

-- with the options of a run it asks for what they say
asked_then : (start : Start) (choices : List Choice) → asked_by (Options start (merged untold choices)) ≡ Some (asked_with start choices)
asked_then Step choices = refl
asked_then Live choices = refl
asked_then (Gen seed) choices = refl

-- what is there is what it is equal to
same_asked : (a b : Asked) → Some a ≡ Some b → a ≡ b
same_asked a b e = ap (λ (o : Option Asked). unwrap_or o a) e

-- only readings at an option or at the end ask for something
asked_ends : (reading : Reading) (asked : Asked) → asked_by reading ≡ Some asked → (start : Start) × (last : Told) × (reading ≡ Options start last)
asked_ends First asked e = absurd (cc)
asked_ends Seed asked e = absurd (cc)
asked_ends (Options start last) asked e = (start, last, refl)
asked_ends (Given start told name) asked e = absurd (cc)

-- what is asked for by words of the table
asked_there : (words : List (List ℕ)) (asked : Asked) → AskFor words asked → option_and_then asked_by (after_words First words) ≡ Some asked
asked_there words asked for =
    ap (λ (ws : List (List ℕ)). option_and_then asked_by (after_words First ws)) for.words_are
    ∙ ap (option_and_then asked_by)
    (first_there for.start for.first (flat_map choice_words for.choices) for.begins
    ∙ options_there for.choices for.start untold (merged untold for.choices)
    (follow for.start for.choices untold (merged untold for.choices) (record { taken = for.taken; once = for.once; free = free_at_first for.choices; last_is = refl })))
    ∙ asked_then for.start for.choices
    ∙ ap (λ (a : Asked). Some a) (sym for.asked_is)

-- and words that ask for something are those of the table
asked_of_words : (words : List (List ℕ)) (asked : Asked) → option_and_then asked_by (after_words First words) ≡ Some asked → AskFor words asked
asked_of_words words asked e = by_reading (after_words First words) refl e
  where
    by_all : (start : Start) (last : Told) → Behind First words start last → asked_by (Options start last) ≡ Some asked → AskFor words asked
    by_all start last (first, rest, split, begun, begins, (choices, rest_is, same, follows)) e =
        let are = followed begun choices untold last follows in
        record {
          start = begun;
          first = first;
          choices = choices;
          begins = begins;
          words_are = split ∙ ap (λ (ws : List (List ℕ)). first ++ ws) rest_is;
          taken = are.taken;
          once = are.once;
          asked_is = same_asked asked (asked_with begun choices) (sym e ∙ (λ i. asked_by (Options (same i) (are.last_is i))) ∙ asked_then begun choices);
        }

    by_reading : (found : Option Reading) → after_words First words ≡ found → option_and_then asked_by found ≡ Some asked → AskFor words asked
    by_reading None found e = absurd (cc)
    by_reading (Some reading) found e = by_end (asked_ends reading asked e)
      where
        by_end : (start : Start) × (last : Told) × (reading ≡ Options start last) → AskFor words asked
        by_end (start, last, is) =
            by_all start last (words_read words First start last (found ∙ ap (λ (r : Reading). Some r) is)) (ap asked_by (sym is) ∙ e)

-- the program asks for exactly what the table says
pub of_the_table : WordsAreOfTheTable
unfolding asked_of
of_the_table words asked = (asked_of_words words asked, asked_there words asked)

-- ---- the order of options

-- options that test as the same are the same
name_is : (a b : Name) → is_name a b ≡ true → a ≡ b
name_is names.Form names.Form e = refl
name_is names.Workers names.Workers e = refl
name_is names.Keys names.Keys e = refl
name_is names.Steps names.Steps e = refl
name_is names.Form names.Workers e = absurd (cc)
name_is names.Form names.Keys e = absurd (cc)
name_is names.Form names.Steps e = absurd (cc)
name_is names.Workers names.Form e = absurd (cc)
name_is names.Workers names.Keys e = absurd (cc)
name_is names.Workers names.Steps e = absurd (cc)
name_is names.Keys names.Form e = absurd (cc)
name_is names.Keys names.Workers e = absurd (cc)
name_is names.Keys names.Steps e = absurd (cc)
name_is names.Steps names.Form e = absurd (cc)
name_is names.Steps names.Workers e = absurd (cc)
name_is names.Steps names.Keys e = absurd (cc)

-- an option is itself
name_same : (name : Name) → is_name name name ≡ true
name_same names.Form = refl
name_same names.Workers = refl
name_same names.Keys = refl
name_same names.Steps = refl

-- an option that is given at most once has the word that is given for it
given_once : (choices : List Choice) (choice : Choice) → are_once choices ≡ true → IsAmong choice choices → given_for choice.name choices ≡ Some choice.word
given_once [] choice once there = absurd there
given_once (other ∷ choices) choice once (inl same) =
    ap (λ (c : Choice). if is_name choice.name c.name then Some c.word else given_for choice.name choices) (sym same)
    ∙ ap (λ (b : Bool). if b then Some choice.word else given_for choice.name choices) (name_same choice.name)
given_once (other ∷ choices) choice once (inr later) =
    let parts = and_parts (is_none (given_for other.name choices)) (are_once choices) once in
    let found = given_once choices choice parts.1 later in
    by_test (is_name choice.name other.name) refl found parts.0
  where
    by_test : (b : Bool) → is_name choice.name other.name ≡ b → given_for choice.name choices ≡ Some choice.word → is_none (given_for other.name choices) ≡ true →
        (if b then Some other.word else given_for choice.name choices) ≡ Some choice.word
    by_test true same found none =
        let gone : is_none (given_for choice.name choices) ≡ true = ap (λ (n : Name). is_none (given_for n choices)) (name_is choice.name other.name same) ∙ none in
        let there : is_none (given_for choice.name choices) ≡ false = ap is_none found in
        absurd (cc)
    by_test false differ found none = found

-- what is given is given by one of the options
given_by : (choices : List Choice) (name : Name) (word : List ℕ) → given_for name choices ≡ Some word → (choice : Choice) × (name ≡ choice.name) × (word ≡ choice.word) × IsAmong choice choices
given_by [] name word e = absurd (cc)
given_by (other ∷ choices) name word e = by_test (is_name name other.name) refl e (given_by choices name word)
  where
    by_test : (b : Bool) → is_name name other.name ≡ b → (if b then Some other.word else given_for name choices) ≡ Some word →
        (given_for name choices ≡ Some word → (choice : Choice) × (name ≡ choice.name) × (word ≡ choice.word) × IsAmong choice choices) →
        (choice : Choice) × (name ≡ choice.name) × (word ≡ choice.word) × IsAmong choice (other ∷ choices)
    by_test true same e further = (other, name_is name other.name same, ap (λ (o : Option (List ℕ)). unwrap_or o word) (sym e), inl refl)
    by_test false differ e further = let found = further e in (found.0, found.1, found.2, inr found.3)

-- so it is the same for the same options in another order
same_given : (choices others : List Choice) → are_once choices ≡ true → are_once others ≡ true → ((choice : Choice) → IsAmong choice choices ↔ IsAmong choice others) → (name : Name) →
    given_for name choices ≡ given_for name others
same_given choices others once once_too same name = by_found (given_for name choices) refl (given_for name others) refl
  where
    there_too : (xs ys : List Choice) → are_once ys ≡ true → ((choice : Choice) → IsAmong choice xs → IsAmong choice ys) → (word : List ℕ) → given_for name xs ≡ Some word → given_for name ys ≡ Some word
    there_too xs ys once on word e =
        let found = given_by xs name word e in
        ap (λ (n : Name). given_for n ys) found.1 ∙ given_once ys found.0 once (on found.0 found.3) ∙ ap (λ (w : List ℕ). Some w) (sym found.2)

    by_found : (a : Option (List ℕ)) → given_for name choices ≡ a → (b : Option (List ℕ)) → given_for name others ≡ b → given_for name choices ≡ given_for name others
    by_found (Some word) a b e = a ∙ sym (there_too choices others once_too (λ c. (same c).0) word a)
    by_found None a (Some word) e = absurd (let back = there_too others choices once (λ c. (same c).1) word e in let both : None ≡ Some word = sym a ∙ back in cc)
    by_found None a None e = a ∙ sym e

-- what is asked for by the words that are given
abbrev asked_by_words : Start → Option (List ℕ) → Option (List ℕ) → Option (List ℕ) → Option (List ℕ) → Asked
asked_by_words Step form workers keys steps = asks.Step (unwrap_or (option_and_then form_of form) Full)
asked_by_words Live form workers keys steps =
    asks.Live (unwrap_or (option_and_then form_of form) Full) (unwrap_or (option_and_then (number_in 1 8) workers) 2)
asked_by_words (Gen seed) form workers keys steps =
    asks.Gen (unwrap_or (option_and_then form_of form) Brief) seed (unwrap_or (option_and_then (number_in 1 50000) keys) 10000)
    (unwrap_or (option_and_then (number_in 0 50000) steps) 2000)

-- the order of options doesn't matter
pub order_is_free : OrderIsFree
order_is_free start choices others once once_too same =
    by_start start (same_given choices others once once_too same)
  where
    by_start : (start : Start) → ((name : Name) → given_for name choices ≡ given_for name others) → asked_with start choices ≡ asked_with start others
    by_start Step is = λ i. asked_by_words Step (is names.Form i) (is names.Workers i) (is names.Keys i) (is names.Steps i)
    by_start Live is = λ i. asked_by_words Live (is names.Form i) (is names.Workers i) (is names.Keys i) (is names.Steps i)
    by_start (Gen seed) is = λ i. asked_by_words (Gen seed) (is names.Form i) (is names.Workers i) (is names.Keys i) (is names.Steps i)
