-- What passes of a batch that a walk takes, and how that counts.
use Rattle.std.proofs.Common.{◌≡◌, ℕ, ◌+◌, ◌-◌, ◌≤◌, ◌==◌, Bool, true, false, not, ◌&&◌, ◌||◌, cond, if◌then◌else◌, List, [], ◌∷◌, ◌++◌, map, length, drop, Option, None, Some, refl, sym, ap, subst, ◌∙◌, arith}
use Rattle.std.proofs.lemmas.Bool.{eq-eqb, eqb-true, or_parts}
use Rattle.std.specs.List.{AllByRecursion, filter, find}
use Rattle.grid_base.proofs.DatumLemmas.{same_bytes_decides}
use Rattle.grid_base.specs.Datum.{same_bytes}
use Rattle.grid_base.specs.declared.entry.Entry.{Entry}
use Rattle.grid_base.specs.declared.item.Item.{Item}
use Rattle.grid_event.specs.declared.config.Config.{Config}
use Rattle.pipeline_eval.proofs.Growth.{pipe_items_grow}
use Rattle.pipeline_eval.specs.Pipes.{pipe_items}
use Rattle.pipeline_expr.specs.declared.pipeline.Pipeline.{Pipeline}
use Rattle.segment_hash.specs.Segments.{segment_number}
use Rattle.cluster_model.specs.Evidence.{times}
use Rattle.cluster_model.specs.State.{Taken, Unit, is_of}
use Rattle.cluster_model.specs.Told.{is_segment}
use Rattle.cluster_model.specs.Units.{was_taken}
use Rattle.cluster_laws.proofs.answers.AnswerUnits.{flight}
use Rattle.cluster_laws.proofs.answers.EvidenceCounts.{sum_of}
use Rattle.cluster_laws.proofs.Lists.{each_imply}

-- the key of an entry taken is of the segment that it was taken from
abbrev pub FromSegment : Config → Taken → Type 0
FromSegment config t = segment_number config.partition config.segments t.entry_of.key ≡ Some t.segment

-- the entries of what was taken
abbrev pub entries_taken : List Taken → List Entry
entries_taken taken = map (λ (t : Taken). t.entry_of) taken

-- a key that was taken is among the entries taken
pub was_there : (taken : List Taken) (segment : ℕ) (key : List ℕ) → was_taken taken segment key ≡ true → 1 ≤ times key (entries_taken taken)
was_there [] segment key h = absurd (cc)
was_there (t ∷ ts) segment key h = by_head (t.segment == segment) (same_bytes t.entry_of.key key) h (λ e. was_there ts segment key e)
  where
    by_head : (a b : Bool) → ((a && b) || was_taken ts segment key) ≡ true → (was_taken ts segment key ≡ true → 1 ≤ times key (entries_taken ts)) → 1 ≤ cond {A = ℕ} b 1 0 + times key (entries_taken ts)
    by_head true true h f = omega arith
    by_head true false h f = let r = f h in omega arith
    by_head false b h f = let r = f h in omega arith

-- a key of the segment that wasn't taken from it isn't among them
pub was_not : (config : Config) (taken : List Taken) (segment : ℕ) (key : List ℕ) → is_segment (segment_number config.partition config.segments key) segment ≡ true → AllByRecursion (FromSegment config) taken →
    was_taken taken segment key ≡ false → times key (entries_taken taken) ≡ 0
was_not config [] segment key s from h = refl
was_not config (t ∷ ts) segment key s from h =
    let p : (((t.segment == segment) && same_bytes t.entry_of.key key) ≡ false) × (was_taken ts segment key ≡ false) = or_parts ((t.segment == segment) && same_bytes t.entry_of.key key) _ h in
    let rest = was_not config ts segment key s from.1 p.1 in
    let one = ap (λ b. cond {A = ℕ} b 1 0) (by_key (same_bytes t.entry_of.key key) refl p.0) in
    omega arith
  where
    by_key : (b : Bool) → same_bytes t.entry_of.key key ≡ b → ((t.segment == segment) && b) ≡ false → b ≡ false
    by_key false e h = refl
    by_key true e h =
        let same = (same_bytes_decides t.entry_of.key key).0 e in
        let here : is_segment (Some t.segment) segment ≡ true = ap (λ o. is_segment o segment) (sym from.0 ∙ ap (segment_number config.partition config.segments) same) ∙ s in
        let turned = eq-eqb t.segment segment (sym (eqb-true segment t.segment here)) in
        absurd (both t.segment turned h)
      where
        both : (n : ℕ) → (n == segment) ≡ true → ((n == segment) && true) ≡ false → ⊥
        both n a c = by (n == segment) a c
          where
            by : (b : Bool) → b ≡ true → (b && true) ≡ false → ⊥
            by true a c = absurd (cc)
            by false a c = absurd (cc)

-- how often a key is among what passes a test on keys
pub times_passed : (key : List ℕ) (test : List ℕ → Bool) (entries : List Entry) → times key (filter (λ (e : Entry). not (test e.key)) entries) ≡ cond (test key) 0 (times key entries)
times_passed key test [] = nothing (test key)
  where
    nothing : (b : Bool) → 0 ≡ cond {A = ℕ} b 0 0
    nothing true = refl
    nothing false = refl
times_passed key test (e ∷ es) = by_test (test e.key) refl (same_bytes e.key key) refl (test key) refl (times_passed key test es)
  where
    by_test : (b : Bool) → test e.key ≡ b → (k : Bool) → same_bytes e.key key ≡ k → (c : Bool) → test key ≡ c → times key (filter (λ (e : Entry). not (test e.key)) es) ≡ cond (test key) 0 (times key es) →
        times key (if not b then e ∷ filter (λ (e : Entry). not (test e.key)) es else filter (λ (e : Entry). not (test e.key)) es) ≡ cond c 0 (cond {A = ℕ} k 1 0 + times key es)
    by_test true a true k true c rest = rest ∙ ap (λ b. cond b 0 (times key es)) c
    by_test true a true k false c rest = let same = ap test ((same_bytes_decides e.key key).0 k) in absurd (cc)
    by_test true a false k true c rest = rest ∙ ap (λ b. cond b 0 (times key es)) c
    by_test true a false k false c rest = let r = rest ∙ ap (λ b. cond b 0 (times key es)) c in omega arith
    by_test false a true k true c rest = let same = ap test ((same_bytes_decides e.key key).0 k) in absurd (cc)
    by_test false a true k false c rest = let r = rest ∙ ap (λ b. cond b 0 (times key es)) c in let o = ap (λ b. cond {A = ℕ} b 1 0) k in omega arith
    by_test false a false k true c rest = let r = rest ∙ ap (λ b. cond b 0 (times key es)) c in let o = ap (λ b. cond {A = ℕ} b 1 0) k in omega arith
    by_test false a false k false c rest = let r = rest ∙ ap (λ b. cond b 0 (times key es)) c in let o = ap (λ b. cond {A = ℕ} b 1 0) k in omega arith

-- what is left behind the first list
drop_front : {A : Type 0} (xs ys : List A) → drop (length xs) (xs ++ ys) ≡ ys
drop_front [] ys = refl
drop_front (x ∷ xs) ys = drop_front xs ys

-- what a pipeline makes of more entries is what it made before, and its further items
pub given_behind : (pipeline : Pipeline) (taken more : List Entry) (given : ℕ) → given ≡ length (pipe_items pipeline taken) →
    pipe_items pipeline (taken ++ more) ≡ pipe_items pipeline taken ++ drop given (pipe_items pipeline (taken ++ more))
given_behind pipeline taken more given e =
    let grown = pipe_items_grow pipeline taken more in
    let before : List Item = pipe_items pipeline taken in
    grown.1
    ∙ ap (λ rest. before ++ rest)
    (sym (drop_front before grown.0) ∙ (λ i. drop (sym e i) (sym grown.1 i)))

-- how often a key is among what a unit has read and doesn't fly
abbrev pub landed : List ℕ → Unit → ℕ
landed key unit = times key unit.work.entries - times key (flight unit.flying)

-- and so of all units of a call
abbrev pub landed_by : List ℕ → ℕ → List Unit → ℕ
landed_by key call units = sum_of (landed key) (is_of call) units

-- where it isn't less of each unit after a change, it isn't less of all
pub landed_more : (key : List ℕ) (call : ℕ) (change : Unit → Unit) (units : List Unit) → AllByRecursion (λ unit. ((change unit).work.call ≡ unit.work.call) × (landed key unit ≤ landed key (change unit))) units →
    landed_by key call units ≤ landed_by key call (map change units)
landed_more key call change [] h = omega arith
landed_more key call change (unit ∷ units) h = let rest = landed_more key call change units h.1 in let one = one_more in omega arith
  where
    by_call : (b : Bool) → cond b (landed key unit) 0 ≤ cond b (landed key (change unit)) 0
    by_call true = h.0.1
    by_call false = omega arith

    one_more : cond (is_of call unit) (landed key unit) 0 ≤ cond (is_of call (change unit)) (landed key (change unit)) 0
    one_more = subst (λ n. cond (is_of call unit) (landed key unit) 0 ≤ cond {A = ℕ} (n == call) (landed key (change unit)) 0) (sym h.0.0) (by_call (is_of call unit))

-- where the unit of a number lands, what flew is landed too
pub landed_taken : (key : List ℕ) (call number : ℕ) (units : List Unit) (found : Unit) → find (λ (unit : Unit). unit.work.id == number) units ≡ Some found → is_of call found ≡ true →
    AllByRecursion (λ (unit : Unit). times key (flight unit.flying) ≤ times key unit.work.entries) units →
    landed_by key call units + times key (flight found.flying) ≤ landed_by key call (map (λ unit. cond (unit.work.id == number) (record unit { flying = None }) unit) units)
landed_taken key call number [] found e of_call h = absurd (cc)
landed_taken key call number (unit ∷ units) found e of_call h =
    by_head (unit.work.id == number) refl e (λ there. landed_taken key call number units found there of_call h.1)
    (landed_more key call (λ unit. cond (unit.work.id == number) (record unit { flying = None }) unit) units (each_imply (λ (unit : Unit). times key (flight unit.flying) ≤ times key unit.work.entries) (λ unit. ((cond (unit.work.id == number) (record unit { flying = None }) unit).work.call ≡ unit.work.call) × (landed key unit ≤ landed key (cond (unit.work.id == number) (record unit { flying = None }) unit))) one units h.1))
  where
    one : (unit : Unit) → times key (flight unit.flying) ≤ times key unit.work.entries → ((cond (unit.work.id == number) (record unit { flying = None }) unit).work.call ≡ unit.work.call) × (landed key unit ≤ landed key (cond (unit.work.id == number) (record unit { flying = None }) unit))
    one unit l = by_test (unit.work.id == number)
      where
        by_test : (b : Bool) → ((cond b (record unit { flying = None }) unit).work.call ≡ unit.work.call) × (landed key unit ≤ landed key (cond b (record unit { flying = None }) unit))
        by_test true = (refl, omega arith)
        by_test false = (refl, omega arith)

    after : List Unit
    after = map (λ unit. cond (unit.work.id == number) (record unit { flying = None }) unit) units

    by_head : (b : Bool) → (unit.work.id == number) ≡ b → cond b (Some unit) (find (λ (u : Unit). u.work.id == number) units) ≡ Some found →
        (find (λ (u : Unit). u.work.id == number) units ≡ Some found → landed_by key call units + times key (flight found.flying) ≤ landed_by key call after) → landed_by key call units ≤ landed_by key call after →
        landed_by key call (unit ∷ units) + times key (flight found.flying) ≤ cond (is_of call (cond b (record unit { flying = None }) unit)) (landed key (cond b (record unit { flying = None }) unit)) 0 + landed_by key call after
    by_head true t here further more =
        let same : unit ≡ found = ap (λ o. either_unit o) here in
        let mine : is_of call unit ≡ true = ap (is_of call) same ∙ of_call in
        let flown = ap (λ (u : Unit). times key (flight u.flying)) same in
        let a = ap (λ b. cond b (landed key unit) 0) mine in
        let c = ap (λ b. cond b (times key unit.work.entries - 0) 0) mine in
        let within = h.0 in
        omega arith
      where
        either_unit : Option Unit → Unit
        either_unit None = unit
        either_unit (Some other) = other
    by_head false t there further more = let rest = further there in omega arith
