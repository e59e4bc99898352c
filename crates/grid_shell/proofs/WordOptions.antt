-- Options that are read one after the other are told as they are given, each at most once.
use Rattle.std.proofs.Common.{◌≡◌, ℕ, Bool, true, false, not, ◌||◌, if◌then◌else◌, List, [], ◌∷◌, Option, None, Some, is_none, is_some, option_map, unwrap_or, refl, sym, ap, ◌∙◌}
use Rattle.std.proofs.lemmas.Bool.{and_from, and_parts, true≢false}
use Rattle.std.specs.List.{list_all}
use Rattle.grid_shell.specs.declared.asks.Form.{Form}
use Rattle.grid_shell.specs.declared.words.Name.{Name}
use Rattle.grid_shell.specs.declared.words.Name.TheVariants as names
use Rattle.grid_shell.specs.declared.words.Start.{Start}
use Rattle.grid_shell.specs.declared.words.Told.{Told}
use Rattle.grid_shell.specs.Words.{form_of, is_told, number_in, takes, told_of}
use Rattle.grid_shell.specs.WordTable.{Choice, are_once, form_given, given_for, is_name, is_taken, number_given, spells}

-- what is there is what it is equal to
same_told : (a b : Told) → Some a ≡ Some b → a ≡ b
same_told a b e = ap (λ (o : Option Told). unwrap_or o a) e

-- what is told already, or what else there is
abbrev pub or_given : {A : Type 0} → Option A → Option A → Option A
or_given None other = other
or_given (Some x) other = Some x

-- what is told, or else nothing, is what is told
or_nothing : {A : Type 0} (o : Option A) → or_given o None ≡ o
or_nothing None = refl
or_nothing (Some x) = refl

-- what isn't there is none
nothing_there : {A : Type 0} (o : Option A) → is_some o ≡ false → o ≡ None
nothing_there None e = refl
nothing_there (Some x) e = absurd (cc)

-- what is told, with the options behind it
abbrev pub merged : Told → List Choice → Told
merged told choices = record {
  form = or_given told.form (form_given choices);
  workers = or_given told.workers (number_given names.Workers 1 8 choices);
  keys = or_given told.keys (number_given names.Keys 1 50000 choices);
  steps = or_given told.steps (number_given names.Steps 0 50000 choices);
}

-- options are told one after the other, none twice
abbrev pub Follows : Start → Told → List Choice → Told → Type 0
Follows start told [] last = last ≡ told
Follows start told (choice ∷ choices) last =
    (next : Told) × (takes start choice.name ≡ true) × (is_told told choice.name ≡ false) × (told_of told choice.name choice.word ≡ Some next) × Follows start next choices last

-- what is known of an option that was told: its word spells a value; it is told then, and all that was; and it may stand in front of further ones
record IsNext (told next : Told) (choice : Choice) : Type 0 where
  spelled : spells choice.name choice.word ≡ true
  names : (name : Name) → is_told next name ≡ (is_name choice.name name || is_told told name)
  front : (choices : List Choice) → merged next choices ≡ merged told (choice ∷ choices)

-- by the value that the word spells
next_form : (told next : Told) (word : List ℕ) (joined : Bool) (found : Option Form) → form_of word ≡ found → told.form ≡ None →
    option_map (λ (form : Form). record told { form = Some form }) found ≡ Some next → IsNext told next (record { name = names.Form; word = word; joined = joined })
next_form told next word joined None found none e = absurd (cc)
next_form told next word joined (Some form) found none e = record {
  spelled = ap is_some found;
  names = λ name. ap (λ (t : Told). is_told t name) (sym (same_told _ next e)) ∙ by_name name;
  front = λ choices.
      ap (λ (t : Told). merged t choices) (sym (same_told _ next e))
      ∙ (λ i. record {
        form = (sym (ap (λ (o : Option Form). or_given o (form_of word)) none ∙ found)) i;
        workers = or_given told.workers (number_given names.Workers 1 8 choices);
        keys = or_given told.keys (number_given names.Keys 1 50000 choices);
        steps = or_given told.steps (number_given names.Steps 0 50000 choices);
      });
}
  where
    by_name : (name : Name) → is_told (record told { form = Some form }) name ≡ (is_name names.Form name || is_told told name)
    by_name names.Form = refl
    by_name names.Workers = refl
    by_name names.Keys = refl
    by_name names.Steps = refl

-- the number of workers
next_workers : (told next : Told) (word : List ℕ) (joined : Bool) (found : Option ℕ) → number_in 1 8 word ≡ found → told.workers ≡ None →
    option_map (λ (n : ℕ). record told { workers = Some n }) found ≡ Some next → IsNext told next (record { name = names.Workers; word = word; joined = joined })
next_workers told next word joined None found none e = absurd (cc)
next_workers told next word joined (Some n) found none e = record {
  spelled = ap is_some found;
  names = λ name. ap (λ (t : Told). is_told t name) (sym (same_told _ next e)) ∙ by_name name;
  front = λ choices.
      ap (λ (t : Told). merged t choices) (sym (same_told _ next e))
      ∙ (λ i. record {
        form = or_given told.form (form_given choices);
        workers = (sym (ap (λ (o : Option ℕ). or_given o (number_in 1 8 word)) none ∙ found)) i;
        keys = or_given told.keys (number_given names.Keys 1 50000 choices);
        steps = or_given told.steps (number_given names.Steps 0 50000 choices);
      });
}
  where
    by_name : (name : Name) → is_told (record told { workers = Some n }) name ≡ (is_name names.Workers name || is_told told name)
    by_name names.Form = refl
    by_name names.Workers = refl
    by_name names.Keys = refl
    by_name names.Steps = refl

-- the number of keys
next_keys : (told next : Told) (word : List ℕ) (joined : Bool) (found : Option ℕ) → number_in 1 50000 word ≡ found → told.keys ≡ None →
    option_map (λ (n : ℕ). record told { keys = Some n }) found ≡ Some next → IsNext told next (record { name = names.Keys; word = word; joined = joined })
next_keys told next word joined None found none e = absurd (cc)
next_keys told next word joined (Some n) found none e = record {
  spelled = ap is_some found;
  names = λ name. ap (λ (t : Told). is_told t name) (sym (same_told _ next e)) ∙ by_name name;
  front = λ choices.
      ap (λ (t : Told). merged t choices) (sym (same_told _ next e))
      ∙ (λ i. record {
        form = or_given told.form (form_given choices);
        workers = or_given told.workers (number_given names.Workers 1 8 choices);
        keys = (sym (ap (λ (o : Option ℕ). or_given o (number_in 1 50000 word)) none ∙ found)) i;
        steps = or_given told.steps (number_given names.Steps 0 50000 choices);
      });
}
  where
    by_name : (name : Name) → is_told (record told { keys = Some n }) name ≡ (is_name names.Keys name || is_told told name)
    by_name names.Form = refl
    by_name names.Workers = refl
    by_name names.Keys = refl
    by_name names.Steps = refl

-- the number of steps
next_steps : (told next : Told) (word : List ℕ) (joined : Bool) (found : Option ℕ) → number_in 0 50000 word ≡ found → told.steps ≡ None →
    option_map (λ (n : ℕ). record told { steps = Some n }) found ≡ Some next → IsNext told next (record { name = names.Steps; word = word; joined = joined })
next_steps told next word joined None found none e = absurd (cc)
next_steps told next word joined (Some n) found none e = record {
  spelled = ap is_some found;
  names = λ name. ap (λ (t : Told). is_told t name) (sym (same_told _ next e)) ∙ by_name name;
  front = λ choices.
      ap (λ (t : Told). merged t choices) (sym (same_told _ next e))
      ∙ (λ i. record {
        form = or_given told.form (form_given choices);
        workers = or_given told.workers (number_given names.Workers 1 8 choices);
        keys = or_given told.keys (number_given names.Keys 1 50000 choices);
        steps = (sym (ap (λ (o : Option ℕ). or_given o (number_in 0 50000 word)) none ∙ found)) i;
      });
}
  where
    by_name : (name : Name) → is_told (record told { steps = Some n }) name ≡ (is_name names.Steps name || is_told told name)
    by_name names.Form = refl
    by_name names.Workers = refl
    by_name names.Keys = refl
    by_name names.Steps = refl

-- an option that wasn't told, told
next_told : (told next : Told) (name : Name) (word : List ℕ) (joined : Bool) → is_told told name ≡ false → told_of told name word ≡ Some next →
    IsNext told next (record { name = name; word = word; joined = joined })
next_told told next names.Form word joined none e = next_form told next word joined (form_of word) refl (nothing_there told.form none) e
next_told told next names.Workers word joined none e = next_workers told next word joined (number_in 1 8 word) refl (nothing_there told.workers none) e
next_told told next names.Keys word joined none e = next_keys told next word joined (number_in 1 50000 word) refl (nothing_there told.keys none) e
next_told told next names.Steps word joined none e = next_steps told next word joined (number_in 0 50000 word) refl (nothing_there told.steps none) e

-- a word that spells a value tells the option
mapped_there : {A : Type 0} (f : A → Told) (o : Option A) → is_some o ≡ true → (next : Told) × (option_map f o ≡ Some next)
mapped_there f None there = absurd (cc)
mapped_there f (Some x) there = (f x, refl)

-- so an option whose word spells a value may be told
told_there : (told : Told) (name : Name) (word : List ℕ) → spells name word ≡ true → (next : Told) × (told_of told name word ≡ Some next)
told_there told names.Form word there = mapped_there (λ form. record told { form = Some form }) (form_of word) there
told_there told names.Workers word there = mapped_there (λ n. record told { workers = Some n }) (number_in 1 8 word) there
told_there told names.Keys word there = mapped_there (λ n. record told { keys = Some n }) (number_in 1 50000 word) there
told_there told names.Steps word there = mapped_there (λ n. record told { steps = Some n }) (number_in 0 50000 word) there

-- ---- options that aren't told yet

-- an option isn't told yet
abbrev is_free : Told → Choice → Bool
is_free told choice = not (is_told told choice.name)

-- a test whose negation passes fails
not_true : (b : Bool) → not b ≡ true → b ≡ false
not_true true e = absurd (cc)
not_true false e = refl

-- where neither of two tests passes both fail
or_parts : (a b : Bool) → (a || b) ≡ false → (a ≡ false) × (b ≡ false)
or_parts true b e = absurd (cc)
or_parts false b e = (refl, e)

-- no option of a name is given where none of that name is free, and each that is given is
none_given : (next : Told) (name : Name) (choices : List Choice) → ((other : Name) → is_name name other ≡ true → is_told next other ≡ true) → list_all (is_free next) choices ≡ true →
    is_none (given_for name choices) ≡ true
none_given next name [] told free = refl
none_given next name (choice ∷ choices) told free =
    let parts = and_parts (is_free next choice) (list_all (is_free next) choices) free in
    by_test (is_name name choice.name) refl parts.0 (none_given next name choices told parts.1)
  where
    by_test : (b : Bool) → is_name name choice.name ≡ b → is_free next choice ≡ true → is_none (given_for name choices) ≡ true → is_none (if b then Some choice.word else given_for name choices) ≡ true
    by_test true same free rest = absurd (true≢false (sym (told choice.name same) ∙ not_true (is_told next choice.name) free))
    by_test false other free rest = rest

-- what is free after an option was told was free before
was_free : (told next : Told) (choice : Choice) (choices : List Choice) → IsNext told next choice → list_all (is_free next) choices ≡ true → list_all (is_free told) choices ≡ true
was_free told next choice [] known free = refl
was_free told next choice (other ∷ choices) known free =
    let parts = and_parts (is_free next other) (list_all (is_free next) choices) free in
    let before = or_parts (is_name choice.name other.name) (is_told told other.name) (sym (known.names other.name) ∙ not_true (is_told next other.name) parts.0) in
    and_from (is_free told other) (list_all (is_free told) choices) (ap not before.1) (was_free told next choice choices known parts.1)

-- and what was free before is free after, where no option of that name is given
still_free : (told next : Told) (choice : Choice) (choices : List Choice) → IsNext told next choice → is_none (given_for choice.name choices) ≡ true → list_all (is_free told) choices ≡ true →
    list_all (is_free next) choices ≡ true
still_free told next choice [] known none free = refl
still_free told next choice (other ∷ choices) known none free =
    let parts = and_parts (is_free told other) (list_all (is_free told) choices) free in
    by_test (is_name choice.name other.name) refl none (not_true (is_told told other.name) parts.0) (λ none. still_free told next choice choices known none parts.1)
  where
    by_test : (b : Bool) → is_name choice.name other.name ≡ b → is_none (if b then Some other.word else given_for choice.name choices) ≡ true → is_told told other.name ≡ false →
        (is_none (given_for choice.name choices) ≡ true → list_all (is_free next) choices ≡ true) → list_all (is_free next) (other ∷ choices) ≡ true
    by_test true same none free rest = absurd (cc)
    by_test false differ none free rest =
        and_from (is_free next other) (list_all (is_free next) choices) (ap not (known.names other.name ∙ (λ i. differ i || free i))) (rest none)

-- ---- options in a row

-- options that are each of the run, at most once, and not told yet, and what is told with them
pub record AreTold (start : Start) (told : Told) (choices : List Choice) (last : Told) : Type 0 where
  pub taken : list_all (is_taken start) choices ≡ true
  pub once : are_once choices ≡ true
  pub free : list_all (is_free told) choices ≡ true
  pub last_is : last ≡ merged told choices

-- an option has its name
name_itself : (name : Name) → is_name name name ≡ true
name_itself names.Form = refl
name_itself names.Workers = refl
name_itself names.Keys = refl
name_itself names.Steps = refl

-- options are told one after the other exactly where they are such
pub followed : (start : Start) (choices : List Choice) (told last : Told) → Follows start told choices last → AreTold start told choices last
followed start [] told last is = record {
  taken = refl;
  once = refl;
  free = refl;
  last_is = is ∙ (λ i. record { form = (sym (or_nothing told.form)) i; workers = (sym (or_nothing told.workers)) i; keys = (sym (or_nothing told.keys)) i; steps = (sym (or_nothing told.steps)) i });
}
followed start (choice ∷ choices) told last (next, takes_it, none, is, rest) =
    let known = next_told told next choice.name choice.word choice.joined none is in
    let behind = followed start choices next last rest in
    record {
      taken = and_from (is_taken start choice) (list_all (is_taken start) choices) (and_from (takes start choice.name) (spells choice.name choice.word) takes_it known.spelled) behind.taken;
      once = and_from (is_none (given_for choice.name choices)) (are_once choices)
          (none_given next choice.name choices (λ other same. known.names other ∙ ap (λ b. b || is_told told other) same) behind.free) behind.once;
      free = and_from (is_free told choice) (list_all (is_free told) choices) (ap not none) (was_free told next choice choices known behind.free);
      last_is = behind.last_is ∙ known.front choices;
    }

-- and where they are such they are told one after the other
pub follow : (start : Start) (choices : List Choice) (told last : Told) → AreTold start told choices last → Follows start told choices last
follow start [] told last are =
    are.last_is ∙ (λ i. record { form = or_nothing told.form i; workers = or_nothing told.workers i; keys = or_nothing told.keys i; steps = or_nothing told.steps i })
follow start (choice ∷ choices) told last are =
    let takes_it = and_parts (is_taken start choice) (list_all (is_taken start) choices) are.taken in
    let both = and_parts (takes start choice.name) (spells choice.name choice.word) takes_it.0 in
    let once = and_parts (is_none (given_for choice.name choices)) (are_once choices) are.once in
    let free = and_parts (is_free told choice) (list_all (is_free told) choices) are.free in
    let none = not_true (is_told told choice.name) free.0 in
    let next = told_there told choice.name choice.word both.1 in
    let known = next_told told next.0 choice.name choice.word choice.joined none next.1 in (
      next.0,
      both.0,
      none,
      next.1,
      follow start choices next.0 last (record {
        taken = takes_it.1;
        once = once.1;
        free = still_free told next.0 choice choices known once.0 free.1;
        last_is = are.last_is ∙ sym (known.front choices);
      }),
    )
