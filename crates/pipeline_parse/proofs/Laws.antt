-- What a reader does on its way: what it took, what would still read so, and how a text might go on.
use Rattle.std.proofs.Common.{◌≡◌, ℕ, Bool, true, false, cond, List, [], ◌∷◌, ◌++◌, length, Option, Ok, Err, refl, sym, ap, ◌∙◌, subst, append_assoc}
use Rattle.std.proofs.lemmas.List.{append-nil}
use Rattle.pipeline_parse.specs.Reading.{Read, ◌>>=◌, first}

-- the same first byte stands before other bytes behind a front
pub first_behind : (front y z : List ℕ) → first y ≡ first z → first (front ++ y) ≡ first (front ++ z)
first_behind [] y z e = e
first_behind (b ∷ front) y z e = refl

-- where a rest begins like nothing it is empty
pub none_left : (z : List ℕ) → first [] ≡ first z → z ≡ []
none_left [] e = refl
none_left (b ∷ z) e = cc

-- Behind some bytes `before` a reader took `taken` of s and left y: x is read, its text is what was read, and it would be read
-- before any other bytes with the same first one.
pub record Finds {A : Type 0} (before : List ℕ) (text : A → List ℕ) (fits : A → Bool) (r : List ℕ → Read A) (s : List ℕ) (x : A) (y : List ℕ) : Type 0 where
  pub taken : List ℕ
  pub whole : s ≡ taken ++ y
  pub reads : text x ≡ before ++ taken
  pub keeps : fits x ≡ true
  pub again : (z : List ℕ) → first y ≡ first z → r (taken ++ z) ≡ Ok (x, z)

-- It took `taken`, and no text goes on with what is left: it stops there before any other bytes with the same first one, while
-- some text goes on otherwise.
pub record Stops {A : Type 0} (before : List ℕ) (text : A → List ℕ) (fits : A → Bool) (r : List ℕ → Read A) (s : List ℕ) (left : ℕ) : Type 0 where
  pub taken : List ℕ
  pub rest : List ℕ
  pub whole : s ≡ taken ++ rest
  pub count : left ≡ length rest
  pub again : (z : List ℕ) → first rest ≡ first z → r (taken ++ z) ≡ Err (length z)
  pub some : A
  pub more : List ℕ
  pub keeps : fits some ≡ true
  pub begins : text some ≡ (before ++ taken) ++ more

-- what a reading tells: what it read, or where it stopped
abbrev pub Tells : {A : Type 0} (before : List ℕ) (text : A → List ℕ) (fits : A → Bool) (r : List ℕ → Read A) (s : List ℕ) → Read A → Type 0
Tells before text fits r s (Ok p) = Finds before text fits r s p.0 p.1
Tells before text fits r s (Err left) = Stops before text fits r s left

-- a reader of the texts of a type
pub record Exact {A : Type 0} (before : List ℕ) (text : A → List ℕ) (fits : A → Bool) (r : List ℕ → Read A) : Type 0 where
  pub tells : (s : List ℕ) → Tells before text fits r s (r s)

-- some text goes on behind `before`
pub record GoesOn {C : Type 0} (before : List ℕ) (text : C → List ℕ) (fits : C → Bool) : Type 0 where
  pub some : C
  pub more : List ℕ
  pub keeps : fits some ≡ true
  pub begins : text some ≡ before ++ more

module _ {C : Type 0} (text : C → List ℕ) (fits : C → Bool) where
  -- a reader shows how a text may go on
  pub goes_on : (before : List ℕ) (k : List ℕ → Read C) → Exact before text fits k → GoesOn before text fits
  goes_on before k law = go (k []) (law.tells [])
    where
      go : (o : Read C) → Tells before text fits k [] o → GoesOn before text fits
      go (Ok p) f = record { some = p.0; more = f.taken; keeps = f.keeps; begins = f.reads }
      go (Err n) f = record { some = f.some; more = f.taken ++ f.more; keeps = f.keeps; begins = f.begins ∙ append_assoc before f.taken f.more }

  -- nothing is read, and all is said
  pub done_reads : (before : List ℕ) (c : C) → text c ≡ before → fits c ≡ true → Exact before text fits (λ s. Ok (c, s))
  done_reads before c e f = record {
    tells = λ s. record { taken = []; whole = refl; reads = e ∙ sym (append-nil before); keeps = f; again = λ z h. refl };
  }

-- one reader behind another, of texts that begin with `pre`
pub behind_reads : {A C : Type 0} (before pre front : List ℕ) → front ≡ before ++ pre → (word : A → List ℕ) (passes : A → Bool) (a : List ℕ → Read A) (text : C → List ℕ) (fits : C → Bool) (k : A → List ℕ → Read C)
    → Exact pre word passes a → ((x : A) → passes x ≡ true → Exact (before ++ word x) text fits (k x)) → Exact front text fits (λ s. a s >>= (λ p. k p.0 p.1))
behind_reads {A} {C} before pre front is word passes a text fits k law next = record { tells = λ s. go s (a s) (law.tells s) }
  where
    far : (t u v : List ℕ) → t ≡ pre ++ u → (before ++ t) ++ v ≡ front ++ (u ++ v)
    far t u v e =
        ap (λ w. (before ++ w) ++ v) e
        ∙ ap (λ w. w ++ v) (sym (append_assoc before pre u))
        ∙ append_assoc (before ++ pre) u v
        ∙ ap (λ w. w ++ (u ++ v)) (sym is)

    both : (s : List ℕ) (x : A) (y : List ℕ) → Finds pre word passes a s x y → (o : Read C) → Tells (before ++ word x) text fits (k x) y o
        → Tells front text fits (λ s. a s >>= (λ p. k p.0 p.1)) s o
    both s x y f (Ok p) h = record {
      taken = f.taken ++ h.taken;
      whole = f.whole ∙ ap (λ z. f.taken ++ z) h.whole ∙ sym (append_assoc f.taken h.taken p.1);
      reads = h.reads ∙ far (word x) f.taken h.taken f.reads;
      keeps = h.keeps;
      again = λ z e.
          ap (λ w. a w >>= (λ p. k p.0 p.1)) (append_assoc f.taken h.taken z)
          ∙ ap (λ r. r >>= (λ p. k p.0 p.1)) (f.again (h.taken ++ z) (ap first h.whole ∙ first_behind h.taken p.1 z e))
          ∙ h.again z e;
    }
    both s x y f (Err n) h = record {
      taken = f.taken ++ h.taken;
      rest = h.rest;
      whole = f.whole ∙ ap (λ z. f.taken ++ z) h.whole ∙ sym (append_assoc f.taken h.taken h.rest);
      count = h.count;
      again = λ z e.
          ap (λ w. a w >>= (λ p. k p.0 p.1)) (append_assoc f.taken h.taken z)
          ∙ ap (λ r. r >>= (λ p. k p.0 p.1)) (f.again (h.taken ++ z) (ap first h.whole ∙ first_behind h.taken h.rest z e))
          ∙ h.again z e;
      some = h.some;
      more = h.more;
      keeps = h.keeps;
      begins = h.begins ∙ ap (λ w. w ++ h.more) (far (word x) f.taken h.taken f.reads);
    }

    go : (s : List ℕ) (o : Read A) → Tells pre word passes a s o → Tells front text fits (λ s. a s >>= (λ p. k p.0 p.1)) s (o >>= (λ p. k p.0 p.1))
    go s (Ok p) f = both s p.0 p.1 f (k p.0 p.1) ((next p.0 f.keeps).tells p.1)
    go s (Err n) f =
        let on = goes_on text fits (before ++ word f.some) (k f.some) (next f.some f.keeps) in
        record {
          taken = f.taken;
          rest = f.rest;
          whole = f.whole;
          count = f.count;
          again = λ z e. ap (λ r. r >>= (λ p. k p.0 p.1)) (f.again z e);
          some = on.some;
          more = f.more ++ on.more;
          keeps = on.keeps;
          begins = on.begins ∙ far (word f.some) (f.taken ++ f.more) on.more (f.begins ∙ append_assoc pre f.taken f.more)
              ∙ ap (λ w. front ++ w) (append_assoc f.taken f.more on.more) ∙ sym (append_assoc front f.taken (f.more ++ on.more));
        }

-- one reader behind another
pub then_reads : {A C : Type 0} (before : List ℕ) (word : A → List ℕ) (passes : A → Bool) (a : List ℕ → Read A) (text : C → List ℕ) (fits : C → Bool) (k : A → List ℕ → Read C)
    → Exact [] word passes a → ((x : A) → passes x ≡ true → Exact (before ++ word x) text fits (k x)) → Exact before text fits (λ s. a s >>= (λ p. k p.0 p.1))
then_reads before word passes a text fits k law next = behind_reads before [] before (sym (append-nil before)) word passes a text fits k law next

-- a reader that is another by what stands first
pub choice_reads : {A : Type 0} (before : List ℕ) (text : A → List ℕ) (fits : A → Bool) (p : Option ℕ → Bool) (r a b : List ℕ → Read A)
    → ((s : List ℕ) → r s ≡ cond (p (first s)) (a s) (b s)) → Exact before text fits a → Exact before text fits b → Exact before text fits r
choice_reads {A} before text fits p r a b is left right = record { tells = λ s. go s (p (first s)) refl }
  where
    same : (s taken y z : List ℕ) → s ≡ taken ++ y → first y ≡ first z → first (taken ++ z) ≡ first s
    same s taken y z e f = sym (ap first e ∙ first_behind taken y z f)

    through : (q : List ℕ → Read A) (s : List ℕ) → ((w : List ℕ) → first w ≡ first s → r w ≡ q w) → (o : Read A) → Tells before text fits q s o → Tells before text fits r s o
    through q s on (Ok x) h = record {
      taken = h.taken;
      whole = h.whole;
      reads = h.reads;
      keeps = h.keeps;
      again = λ z e. on (h.taken ++ z) (same s h.taken x.1 z h.whole e) ∙ h.again z e;
    }
    through q s on (Err n) h = record {
      taken = h.taken;
      rest = h.rest;
      whole = h.whole;
      count = h.count;
      again = λ z e. on (h.taken ++ z) (same s h.taken h.rest z h.whole e) ∙ h.again z e;
      some = h.some;
      more = h.more;
      keeps = h.keeps;
      begins = h.begins;
    }

    go : (s : List ℕ) (t : Bool) → p (first s) ≡ t → Tells before text fits r s (r s)
    go s true e =
        let on = λ (w : List ℕ) (f : first w ≡ first s). is w ∙ ap (λ t. cond t (a w) (b w)) (ap p f ∙ e) in
        subst (Tells before text fits r s) (sym (on s refl)) (through a s on (a s) (left.tells s))
    go s false e =
        let on = λ (w : List ℕ) (f : first w ≡ first s). is w ∙ ap (λ t. cond t (a w) (b w)) (ap p f ∙ e) in
        subst (Tells before text fits r s) (sym (on s refl)) (through b s on (b s) (right.tells s))

-- what keeps a narrower limit keeps a wider one
pub wider_reads : {A : Type 0} (before : List ℕ) (text : A → List ℕ) (narrow wide : A → Bool) (r : List ℕ → Read A)
    → ((x : A) → narrow x ≡ true → wide x ≡ true) → Exact before text narrow r → Exact before text wide r
wider_reads {A} before text narrow wide r on law = record { tells = λ s. go s (r s) (law.tells s) }
  where
    go : (s : List ℕ) (o : Read A) → Tells before text narrow r s o → Tells before text wide r s o
    go s (Ok x) h = record { taken = h.taken; whole = h.whole; reads = h.reads; keeps = on x.0 h.keeps; again = h.again }
    go s (Err n) h = record {
      taken = h.taken;
      rest = h.rest;
      whole = h.whole;
      count = h.count;
      again = h.again;
      some = h.some;
      more = h.more;
      keeps = on h.some h.keeps;
      begins = h.begins;
    }
