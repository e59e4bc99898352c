-- The readers of words are exact.
use Rattle.std.proofs.Common.{◌≡◌, ℕ, suc, ◌+◌, ◌≤◌, Bool, true, false, ◌&&◌, ◌==◌, cond, min, List, [], ◌∷◌, ◌++◌, length, Some, Result, Ok, Err, refl, sym, ap, ◌∙◌, arith, append_assoc, true≢false, eqb-true, eq-eqb, ◌⊎◌, inl, inr}
use Rattle.std.proofs.lemmas.Bool.{cases_lt}
use Rattle.std.proofs.lemmas.List.{length-append}
use Rattle.pipeline_parse.proofs.Steps.{literal_leaves}
use Rattle.std.specs.List.{list_all}
use Rattle.pipeline_parse.specs.Reading.{Read, ◌>>=◌, first, first_of_two, literal_at, word_at}
use Rattle.pipeline_parse.proofs.Laws.{Exact, Tells, goes_on, none_left}

-- a word is read of itself
pub literal_own : (w z : List ℕ) → literal_at w (w ++ z) ≡ Ok z
literal_own [] z = refl
literal_own (a ∷ w) z = ap (λ t. cond t (literal_at w (w ++ z)) (Err (suc (length (w ++ z))))) (eq-eqb a a refl) ∙ literal_own w z

-- where a word is read it stands in front
literal_found : (w s y : List ℕ) → literal_at w s ≡ Ok y → s ≡ w ++ y
literal_found [] s y e = cc
literal_found (a ∷ w) [] y e = cc
literal_found (a ∷ w) (b ∷ s) y e = go (literal_found w s y) (b == a) refl e
  where
    go : (literal_at w s ≡ Ok y → s ≡ w ++ y) → (t : Bool) → (b == a) ≡ t → cond t (literal_at w s) (Err (suc (length s))) ≡ Ok y → b ∷ s ≡ a ∷ (w ++ y)
    go on true same f = let h = on f in let g : b ≡ a = eqb-true b a same in cc
    go on false same f = cc

-- a word that isn't in front stops behind the bytes that it shares
pub record Misses (w s : List ℕ) (left : ℕ) : Type 0 where
  pub taken : List ℕ
  pub rest : List ℕ
  pub more : List ℕ
  pub whole : s ≡ taken ++ rest
  pub count : left ≡ length rest
  pub begins : w ≡ taken ++ more
  pub again : (z : List ℕ) → first rest ≡ first z → literal_at w (taken ++ z) ≡ Err (length z)

-- where it isn't read it stops behind the bytes that it shares
pub literal_missed : (w s : List ℕ) (n : ℕ) → literal_at w s ≡ Err n → Misses w s n
literal_missed [] s n e = cc
literal_missed (a ∷ w) [] n e = record {
  taken = [];
  rest = [];
  more = a ∷ w;
  whole = refl;
  count = let h : 0 ≡ n = cc in sym h;
  begins = refl;
  again = λ z f. ap (literal_at (a ∷ w)) (none_left z f) ∙ ap (λ y. Err (length y)) (sym (none_left z f));
}
literal_missed (a ∷ w) (b ∷ s) n e = go (literal_missed w s n) (b == a) refl e
  where
    go : (literal_at w s ≡ Err n → Misses w s n) → (t : Bool) → (b == a) ≡ t → cond t (literal_at w s) (Err (suc (length s))) ≡ Err n → Misses (a ∷ w) (b ∷ s) n
    go on true same f =
        let h = on f in
        record {
          taken = b ∷ h.taken;
          rest = h.rest;
          more = h.more;
          whole = ap (λ x. b ∷ x) h.whole;
          count = h.count;
          begins = ap (λ x. x ∷ w) (sym (eqb-true b a same)) ∙ ap (λ x. b ∷ x) h.begins;
          again = λ z e. ap (λ t. cond t (literal_at w (h.taken ++ z)) (Err (suc (length (h.taken ++ z))))) same ∙ h.again z e;
        }
    go on false same f = record {
      taken = [];
      rest = b ∷ s;
      more = a ∷ w;
      whole = refl;
      count = let h : suc (length s) ≡ n = cc in sym h;
      begins = refl;
      again = differs;
    }
      where
        differs : (z : List ℕ) → Some b ≡ first z → literal_at (a ∷ w) z ≡ Err (length z)
        differs [] e = cc
        differs (c ∷ z) e =
            let g : b ≡ c = cc in
            ap (λ t. cond t (literal_at w z) (Err (suc (length z)))) (ap (λ x. x == a) (sym g) ∙ same)

-- a reader behind a word
pub literal_then : {C : Type 0} (before w : List ℕ) (text : C → List ℕ) (fits : C → Bool) (k : List ℕ → Read C)
    → Exact (before ++ w) text fits k → Exact before text fits (λ s. literal_at w s >>= k)
literal_then {C} before w text fits k law = record { tells = λ s. go s (literal_at w s) refl }
  where
    both : (s y : List ℕ) → literal_at w s ≡ Ok y → (o : Read C) → Tells (before ++ w) text fits k y o → Tells before text fits (λ s. literal_at w s >>= k) s o
    both s y e (Ok p) h = record {
      taken = w ++ h.taken;
      whole = literal_found w s y e ∙ ap (λ z. w ++ z) h.whole ∙ sym (append_assoc w h.taken p.1);
      reads = h.reads ∙ append_assoc before w h.taken;
      keeps = h.keeps;
      again = λ z f.
          ap (λ x. literal_at w x >>= k) (append_assoc w h.taken z)
          ∙ ap (λ r. r >>= k) (literal_own w (h.taken ++ z))
          ∙ h.again z f;
    }
    both s y e (Err n) h = record {
      taken = w ++ h.taken;
      rest = h.rest;
      whole = literal_found w s y e ∙ ap (λ z. w ++ z) h.whole ∙ sym (append_assoc w h.taken h.rest);
      count = h.count;
      again = λ z f.
          ap (λ x. literal_at w x >>= k) (append_assoc w h.taken z)
          ∙ ap (λ r. r >>= k) (literal_own w (h.taken ++ z))
          ∙ h.again z f;
      some = h.some;
      more = h.more;
      keeps = h.keeps;
      begins = h.begins ∙ ap (λ x. x ++ h.more) (append_assoc before w h.taken);
    }

    go : (s : List ℕ) (r : Result (List ℕ) ℕ) → literal_at w s ≡ r → Tells before text fits (λ s. literal_at w s >>= k) s (r >>= k)
    go s (Ok y) e = both s y e (k y) (law.tells y)
    go s (Err n) e =
        let m = literal_missed w s n e in
        let on = goes_on text fits (before ++ w) k law in
        record {
          taken = m.taken;
          rest = m.rest;
          whole = m.whole;
          count = m.count;
          again = λ z f. ap (λ r. r >>= k) (m.again z f);
          some = on.some;
          more = m.more ++ on.more;
          keeps = on.keeps;
          begins = on.begins ∙ ap (λ x. (before ++ x) ++ on.more) m.begins ∙ ap (λ x. x ++ on.more) (sym (append_assoc before m.taken m.more)) ∙ append_assoc (before ++ m.taken) m.more on.more;
        }

-- neither word begins the other
abbrev pub apart : List ℕ → List ℕ → Bool
apart [] v = false
apart (a ∷ w) [] = false
apart (a ∷ w) (b ∷ v) = cond (b == a) (apart w v) true

-- no word of a list begins another
abbrev pub all_apart : {A : Type 0} → (A → List ℕ) → List A → Bool
all_apart word [] = true
all_apart word (x ∷ xs) = list_all (λ y. apart (word x) (word y)) xs && all_apart word xs

-- a word isn't in front of one that is apart from it
apart_missed : (w v z : List ℕ) → apart w v ≡ true → (n : ℕ) × (literal_at w (v ++ z) ≡ Err n)
apart_missed [] v z e = absurd (true≢false (sym e))
apart_missed (a ∷ w) [] z e = absurd (true≢false (sym e))
apart_missed (a ∷ w) (b ∷ v) z e = go (apart_missed w v z) (b == a) e
  where
    go : (apart w v ≡ true → (n : ℕ) × (literal_at w (v ++ z) ≡ Err n)) → (t : Bool) → cond t (apart w v) true ≡ true
        → (n : ℕ) × (cond t (literal_at w (v ++ z)) (Err (suc (length (v ++ z)))) ≡ Err n)
    go on true f = on f
    go on false f = (suc (length (v ++ z)), refl)

-- where two tests together are true, each is
pub both_true : (a b : Bool) → (a && b) ≡ true → (a ≡ true) × (b ≡ true)
both_true true b e = (refl, e)
both_true false b e = absurd (true≢false (sym e))

-- a word that stops at or before a place stops as far before other bytes with the same first one there
literal_shift : (w u v z : List ℕ) (n : ℕ) → literal_at w (u ++ v) ≡ Err n → length v ≤ n → first v ≡ first z → (m : ℕ) × (literal_at w (u ++ z) ≡ Err m) × (m + length v ≡ n + length z)
literal_shift [] u v z n e le same = cc
literal_shift (a ∷ w) [] [] z n e le same =
    let none = none_left z same in
    let none_n : 0 ≡ n = cc in
    (0, ap (literal_at (a ∷ w)) none, let h : length z ≡ 0 = ap length none in omega arith)
literal_shift (a ∷ w) [] (b ∷ v) [] n e le same = cc
literal_shift (a ∷ w) [] (b ∷ v) (c ∷ z) n e le same = go (b == a) refl e
  where
    one : b ≡ c
    one = cc

    go : (t : Bool) → (b == a) ≡ t → cond t (literal_at w v) (Err (suc (length v))) ≡ Err n → (m : ℕ) × (literal_at (a ∷ w) (c ∷ z) ≡ Err m) × (m + suc (length v) ≡ n + suc (length z))
    go true f g = let short = literal_leaves w v n g in absurd (omega arith)
    go false f g =
        let h : suc (length v) ≡ n = cc in
        (suc (length z), ap (λ t. cond t (literal_at w z) (Err (suc (length z)))) (ap (λ x. x == a) (sym one) ∙ f), omega arith)
literal_shift (a ∷ w) (d ∷ u) v z n e le same = go (literal_shift w u v z n) (d == a) e
  where
    go : (literal_at w (u ++ v) ≡ Err n → length v ≤ n → first v ≡ first z → (m : ℕ) × (literal_at w (u ++ z) ≡ Err m) × (m + length v ≡ n + length z))
        → (t : Bool) → cond t (literal_at w (u ++ v)) (Err (suc (length (u ++ v)))) ≡ Err n
        → (m : ℕ) × (cond t (literal_at w (u ++ z)) (Err (suc (length (u ++ z)))) ≡ Err m) × (m + length v ≡ n + length z)
    go on true f = on f le same
    go on false f =
        let h : suc (length (u ++ v)) ≡ n = cc in
        (suc (length (u ++ z)), refl, omega (arith, length-append u v, length-append u z))

module _ {A : Type 0} (word : A → List ℕ) where
  -- the choice whose word is in front
  record Picked (xs : List A) (s : List ℕ) (x : A) (y : List ℕ) : Type 0 where
    pub whole : s ≡ word x ++ y
    pub again : (z : List ℕ) → word_at word xs (word x ++ z) ≡ Ok (x, z)
    pub passes : (p : A → Bool) → list_all p xs ≡ true → p x ≡ true

  -- a choice whose word begins so
  record Choice (xs : List A) (taken : List ℕ) : Type 0 where
    pub x : A
    pub more : List ℕ
    pub begins : word x ≡ taken ++ more
    pub passes : (p : A → Bool) → list_all p xs ≡ true → p x ≡ true

  -- no choice is in front
  record Missed (xs : List A) (s : List ℕ) (left : ℕ) : Type 0 where
    pub taken : List ℕ
    pub rest : List ℕ
    pub whole : s ≡ taken ++ rest
    pub count : left ≡ length rest
    pub choice : (taken ≡ []) ⊎ Choice xs taken
    pub shift : (u v z : List ℕ) → s ≡ u ++ v → length v ≤ left → first v ≡ first z → (m : ℕ) × (word_at word xs (u ++ z) ≡ Err m) × (m + length v ≡ left + length z)

  -- what a choice by words tells: the word that is in front, or how far any went
  abbrev Picks : List A → List ℕ → Read A → Type 0
  Picks xs s (Ok p) = Picked xs s p.0 p.1
  Picks xs s (Err left) = Missed xs s left

  -- a choice of some words is one of more
  wider : (x : A) (xs : List A) (taken : List ℕ) → (taken ≡ []) ⊎ Choice xs taken → (taken ≡ []) ⊎ Choice (x ∷ xs) taken
  wider x xs taken (inl e) = inl e
  wider x xs taken (inr c) = inr (record { x = c.x; more = c.more; begins = c.begins; passes = λ p f. c.passes p (both_true (p x) (list_all p xs) f).1 })

  -- the choice by words tells so
  picks : (xs : List A) → all_apart word xs ≡ true → (s : List ℕ) → Picks xs s (word_at word xs s)
  picks [] e s = record {
    taken = [];
    rest = s;
    whole = refl;
    count = refl;
    choice = inl refl;
    shift = λ u v z f le same. (length (u ++ z), refl, omega (arith, length-append u z, length-append u v, ap length f));
  }
  picks (x ∷ xs) e s = go (literal_at (word x) s) refl (word_at word xs s) (picks xs parts.1 s)
    where
      parts : (list_all (λ y. apart (word x) (word y)) xs ≡ true) × (all_apart word xs ≡ true)
      parts = both_true (list_all (λ y. apart (word x) (word y)) xs) (all_apart word xs) e

      shifts : (n m : ℕ) → literal_at (word x) s ≡ Err n → Missed xs s m → (u v z : List ℕ) → s ≡ u ++ v → length v ≤ min n m → first v ≡ first z
          → (l : ℕ) × (word_at word (x ∷ xs) (u ++ z) ≡ Err l) × (l + length v ≡ min n m + length z)
      shifts n m f h u v z g le same =
          let one = literal_shift (word x) u v z n (ap (literal_at (word x)) (sym g) ∙ f) (omega arith) same in
          let others = h.shift u v z g (omega arith) same in
          let one_is = one.2 in
          let others_are = others.2 in (
            min one.0 others.0,
            ap (λ r. first_of_two x r (word_at word xs (u ++ z))) one.1 ∙ ap (λ r. first_of_two x (Err one.0) r) others.1,
            omega arith,
          )

      go : (r : Result (List ℕ) ℕ) → literal_at (word x) s ≡ r → (o : Read A) → Picks xs s o → Picks (x ∷ xs) s (first_of_two x r o)
      go (Ok y) f o h = record {
        whole = literal_found (word x) s y f;
        again = λ z. ap (λ r. first_of_two x r (word_at word xs (word x ++ z))) (literal_own (word x) z);
        passes = λ p g. (both_true (p x) (list_all p xs) g).0;
      }
      go (Err n) f (Ok p) h = record {
        whole = h.whole;
        again = λ z.
            let missed = apart_missed (word x) (word p.0) z (h.passes (λ y. apart (word x) (word y)) parts.0) in
            ap (λ r. first_of_two x r (word_at word xs (word p.0 ++ z))) missed.1 ∙ ap (λ r. first_of_two x (Err missed.0) r) (h.again z);
        passes = λ q g. h.passes q (both_true (q x) (list_all q xs) g).1;
      }
      go (Err n) f (Err m) h = elim (cases_lt m n) [
        | inl lt ↦ record {
          taken = h.taken;
          rest = h.rest;
          whole = h.whole;
          count = let c = h.count in omega arith;
          choice = wider x xs h.taken h.choice;
          shift = shifts n m f h;
        }
        | inr ge ↦
            let l = literal_missed (word x) s n f in
            record {
              taken = l.taken;
              rest = l.rest;
              whole = l.whole;
              count = let c = l.count in omega arith;
              choice = inr (record { x = x; more = l.more; begins = l.begins; passes = λ p g. (both_true (p x) (list_all p xs) g).0 });
              shift = shifts n m f h;
            }
      ]

  -- the reader of a choice is exact
  pub word_reads : (fits : A → Bool) (x : A) (xs : List A) → all_apart word xs ≡ true → list_all fits xs ≡ true → fits x ≡ true → Exact [] word fits (word_at word xs)
  word_reads fits x xs tidy all one = record { tells = λ s. go s (word_at word xs s) (picks xs tidy s) }
    where
      again : (s : List ℕ) (n : ℕ) (m : Missed xs s n) (z : List ℕ) → first m.rest ≡ first z → word_at word xs (m.taken ++ z) ≡ Err (length z)
      again s n m z f =
          let count = m.count in
          let h = m.shift m.taken m.rest z m.whole (omega arith) f in
          let sum = h.2 in
          let same : h.0 ≡ length z = omega arith in
          h.1 ∙ ap (λ k. Err k) same

      go : (s : List ℕ) (o : Read A) → Picks xs s o → Tells [] word fits (word_at word xs) s o
      go s (Ok p) h = record { taken = word p.0; whole = h.whole; reads = refl; keeps = h.passes fits all; again = λ z f. h.again z }
      go s (Err n) h = elim h.choice [
        | inl none ↦ record {
          taken = h.taken;
          rest = h.rest;
          whole = h.whole;
          count = h.count;
          again = again s n h;
          some = x;
          more = word x;
          keeps = one;
          begins = ap (λ t. t ++ word x) (sym none);
        }
        | inr c ↦ record {
          taken = h.taken;
          rest = h.rest;
          whole = h.whole;
          count = h.count;
          again = again s n h;
          some = c.x;
          more = c.more;
          keeps = c.passes fits all;
          begins = c.begins;
        }
      ]
