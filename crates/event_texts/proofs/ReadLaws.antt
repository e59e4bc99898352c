-- Exact readings: what is read is a text that stands in front, and each text is read.
use Rattle.std.proofs.Common.{◌≡◌, ℕ, zero, suc, ◌≤◌, Bool, true, false, not, ◌&&◌, ◌==◌, cond, List, [], ◌∷◌, ◌++◌, length, map, Some, None, Result, Ok, Err, refl, sym, ap, ◌∙◌, subst, arith, append_assoc, true≢false, eqb-true}
use Rattle.std.specs.Fmt.{decimal}
use Rattle.std.specs.List.{list_all}
use Rattle.std.proofs.lemmas.List.{append-nil}
use Rattle.std.proofs.lemmas.Option.{none-some, same_Some}
use Rattle.pipeline_parse.specs.Reading.{Read, literal_at}
use Rattle.pipeline_parse.proofs.Laws.{Exact, Tells}
use Rattle.pipeline_parse.proofs.ParseLaws.{both_fit}
use Rattle.pipeline_parse.proofs.WordLaws.{both_true, literal_own}
use Rattle.event_texts.specs.Fits.{all_fit, is_u64, none_barred}
use Rattle.event_texts.specs.Reading.{Reading, after, behind, by_word, choice, counted_in, found, just, made, more, no_bar, nothing, number_in, pairs, times}
use Rattle.event_texts.specs.Words.{counted_text, each_behind}

-- what was read stands in front and keeps its ranges
abbrev pub Told : {A : Type 0} → (A → List ℕ) → (A → Bool) → List ℕ → A × List ℕ → Type 0
Told text fits s p = (s ≡ text p.0 ++ p.1) × (fits p.0 ≡ true)

-- all that is read stands in front
abbrev pub Sound : {A : Type 0} → (A → List ℕ) → (A → Bool) → (List ℕ → Reading A) → Type 0
Sound {A} text fits r = (s : List ℕ) (p : A × List ℕ) → r s ≡ Some p → Told text fits s p

-- the same of what is read behind a word
abbrev pub SoundBehind : {A : Type 0} → List ℕ → (A → List ℕ) → (A → Bool) → (List ℕ → Reading A) → Type 0
SoundBehind {A} word text fits r = (s : List ℕ) (p : A × List ℕ) → r s ≡ Some p → Told text fits (word ++ s) p

-- all that is read stands in front, and each text is read where it ends as it may
pub record Law {A : Type 0} (ends : List ℕ → Bool) (text : A → List ℕ) (fits : A → Bool) (r : List ℕ → Reading A) : Type 0 where
  pub sound : Sound text fits r
  pub full : (x : A) (y : List ℕ) → fits x ≡ true → ends y ≡ true → r (text x ++ y) ≡ Some (x, y)

-- nothing is left, or a blank comes next
abbrev pub at_end : List ℕ → Bool
at_end [] = true
at_end (b ∷ s) = b == 32

-- nothing is left
abbrev pub at_last : List ℕ → Bool
at_last [] = true
at_last (b ∷ s) = false

-- a word that was read stands in front
literal_found : (w s y : List ℕ) → literal_at w s ≡ Ok y → s ≡ w ++ y
literal_found [] s y e = cc
literal_found (a ∷ w) [] y e = cc
literal_found (a ∷ w) (b ∷ s) y e = go (b == a) refl e (literal_found w s y)
  where
    go : (t : Bool) → (b == a) ≡ t → cond t (literal_at w s) (Err (suc (length s))) ≡ Ok y → (literal_at w s ≡ Ok y → s ≡ w ++ y) → b ∷ s ≡ a ∷ (w ++ y)
    go true f g on = ap (λ c. c ∷ s) (eqb-true b a f) ∙ ap (λ z. a ∷ z) (on g)
    go false f g on = cc

-- what comes behind a reading that found something
pub after_found : {A B : Type 0} (r : Reading A) (next : A → List ℕ → Reading B) (q : B × List ℕ) → after r next ≡ Some q
    → (p : A × List ℕ) × (r ≡ Some p) × (next p.0 p.1 ≡ Some q)
after_found None next q e = absurd (none-some q e)
after_found (Some p) next q e = (p, refl, e)

-- two readings in a row
pub pair_law : {A B : Type 0} {first_ends ends : List ℕ → Bool} {first_text : A → List ℕ} {text : B → List ℕ} {first_fits : A → Bool} {fits : B → Bool} {a : List ℕ → Reading A} {b : List ℕ → Reading B}
    → Law first_ends first_text first_fits a → Law ends text fits b → ((x : B) (y : List ℕ) → ends y ≡ true → first_ends (text x ++ y) ≡ true)
    → Law ends (λ (p : A × B). first_text p.0 ++ text p.1) (λ p. first_fits p.0 && fits p.1) (pairs a b)
pair_law {A} {B} {first_ends} {ends} {first_text} {text} {first_fits} {fits} {a} {b} one two on = record {
  sound = λ s p e.
      let f = after_found (a s) (λ u rest. after (b rest) (λ v rest. Some ((u, v), rest))) p e in
      let g = after_found (b f.0.1) (λ v rest. Some ((f.0.0, v), rest)) p f.2 in
      let l = one.sound s f.0 f.1 in
      let m = two.sound f.0.1 g.0 g.1 in
      subst (Told (λ (p : A × B). first_text p.0 ++ text p.1) (λ p. first_fits p.0 && fits p.1) s) (same_Some ((f.0.0, g.0.0), g.0.1) p g.2)
      (l.0 ∙ ap (λ z. first_text f.0.0 ++ z) m.0 ∙ sym (append_assoc (first_text f.0.0) (text g.0.0) g.0.1), both_fit (first_fits f.0.0) (fits g.0.0) l.1 m.1);
  full = λ p y keeps ended.
      let h = both_true (first_fits p.0) (fits p.1) keeps in
      ap (pairs a b) (append_assoc (first_text p.0) (text p.1) y)
      ∙ ap (λ r. after r (λ u rest. after (b rest) (λ v rest. Some ((u, v), rest)))) (one.full p.0 (text p.1 ++ y) h.0 (on p.1 y ended))
      ∙ ap (λ r. after r (λ v rest. Some ((p.0, v), rest))) (two.full p.1 y h.1 ended);
}

-- a reading behind a word
pub behind_sound : {A : Type 0} {r : List ℕ → Reading A} (word : List ℕ) (text : A → List ℕ) (fits : A → Bool) → Sound text fits r → Sound (λ x. word ++ text x) fits (behind word r)
behind_sound {A} {r} word text fits law = λ s p e. go s p (literal_at word s) refl e
  where
    go : (s : List ℕ) (p : A × List ℕ) (o : Result (List ℕ) ℕ) → literal_at word s ≡ o → by_word o r None ≡ Some p → Told (λ x. word ++ text x) fits s p
    go s p (Ok rest) f e =
        let l = law rest p e in
        (literal_found word s rest f ∙ ap (λ z. word ++ z) l.0 ∙ sym (append_assoc word (text p.0) p.1), l.1)
    go s p (Err n) f e = absurd (none-some p e)

-- what is read exactly is so behind a word
pub behind_law : {A : Type 0} {ends : List ℕ → Bool} {text : A → List ℕ} {fits : A → Bool} {r : List ℕ → Reading A} (word : List ℕ)
    → Law ends text fits r → Law ends (λ x. word ++ text x) fits (behind word r)
behind_law {A} {ends} {text} {fits} {r} word law = record {
  sound = behind_sound word text fits law.sound;
  full = λ x y keeps ended.
      ap (behind word r) (append_assoc word (text x) y) ∙ ap (λ o. by_word o r None) (literal_own word (text x ++ y)) ∙ law.full x y keeps ended;
}

-- what is made of a reading, where it can be taken apart again
pub made_law : {A B : Type 0} {ends : List ℕ → Bool} {text : A → List ℕ} {fits : A → Bool} {r : List ℕ → Reading A} (c : A → B) (d : B → A) (made_text : B → List ℕ) (made_fits : B → Bool)
    → ((b : B) → c (d b) ≡ b) → ((a : A) → made_text (c a) ≡ text a) → ((a : A) → made_fits (c a) ≡ fits a)
    → Law ends text fits r → Law ends made_text made_fits (made c r)
made_law {A} {B} {ends} {text} {fits} {r} c d made_text made_fits back same_text same_fits law = record {
  sound = λ s p e.
      let f = after_found (r s) (λ a rest. Some (c a, rest)) p e in
      let l = law.sound s f.0 f.1 in
      subst (Told made_text made_fits s) (same_Some (c f.0.0, f.0.1) p f.2) (l.0 ∙ ap (λ t. t ++ f.0.1) (sym (same_text f.0.0)), same_fits f.0.0 ∙ l.1);
  full = λ b y keeps ended.
      ap (λ t. made c r (t ++ y)) (ap made_text (sym (back b)) ∙ same_text (d b))
      ∙ ap (λ o. after o (λ a rest. Some (c a, rest))) (law.full (d b) y (sym (same_fits (d b)) ∙ ap made_fits (back b) ∙ keeps) ended)
      ∙ ap (λ x. Some (x, y)) (back b);
}

-- the same text and the same ranges, otherwise written
pub as_law : {A : Type 0} {ends : List ℕ → Bool} {text : A → List ℕ} {fits : A → Bool} {r : List ℕ → Reading A} (other_ends : List ℕ → Bool) (other_text : A → List ℕ) (other_fits : A → Bool)
    → ((y : List ℕ) → other_ends y ≡ true → ends y ≡ true) → ((a : A) → other_text a ≡ text a) → ((a : A) → other_fits a ≡ fits a)
    → Law ends text fits r → Law other_ends other_text other_fits r
as_law {A} {ends} {text} {fits} {r} other_ends other_text other_fits on same_text same_fits law = record {
  sound = λ s p e. let l = law.sound s p e in (l.0 ∙ ap (λ t. t ++ p.1) (sym (same_text p.0)), same_fits p.0 ∙ l.1);
  full = λ x y keeps ended. ap (λ t. r (t ++ y)) (same_text x) ∙ law.full x y (sym (same_fits x) ∙ keeps) (on y ended);
}

-- one way of a choice
pub made_behind : {A B : Type 0} {ends : List ℕ → Bool} {text : A → List ℕ} {fits : A → Bool} {r : List ℕ → Reading A} (word : List ℕ) (c : A → B) (made_text : B → List ℕ) (made_fits : B → Bool)
    → ((a : A) → made_text (c a) ≡ word ++ text a) → ((a : A) → made_fits (c a) ≡ fits a) → Law ends text fits r → SoundBehind word made_text made_fits (made c r)
made_behind {A} {B} {ends} {text} {fits} {r} word c made_text made_fits same_text same_fits law = λ s p e.
    let f = after_found (r s) (λ a rest. Some (c a, rest)) p e in
    let l = law.sound s f.0 f.1 in
    subst (Told made_text made_fits (word ++ s)) (same_Some (c f.0.0, f.0.1) p f.2)
    (ap (λ z. word ++ z) l.0 ∙ sym (append_assoc word (text f.0.0) f.0.1) ∙ ap (λ t. t ++ f.0.1) (sym (same_text f.0.0)), same_fits f.0.0 ∙ l.1)

-- a word that stands for one thing is read soundly
pub just_behind : {A : Type 0} (word : List ℕ) (x : A) (text : A → List ℕ) (fits : A → Bool) → text x ≡ word → fits x ≡ true → SoundBehind word text fits (just x)
just_behind word x text fits same keeps = λ s p e. subst (Told text fits (word ++ s)) (same_Some (x, s) p e) (ap (λ t. t ++ s) (sym same), keeps)

-- so is a choice by a word between two that are
pub choice_sound : {A : Type 0} {there other : List ℕ → Reading A} (word : List ℕ) (text : A → List ℕ) (fits : A → Bool)
    → SoundBehind word text fits there → Sound text fits other → Sound text fits (choice word there other)
choice_sound {A} {there} {other} word text fits one two = λ s p e. go s p (literal_at word s) refl e
  where
    go : (s : List ℕ) (p : A × List ℕ) (o : Result (List ℕ) ℕ) → literal_at word s ≡ o → by_word o there (other s) ≡ Some p → Told text fits s p
    go s p (Ok rest) f e = subst (λ z. Told text fits z p) (sym (literal_found word s rest f)) (one rest p e)
    go s p (Err n) f e = two s p e

-- so is what reads nothing
pub nothing_sound : {A : Type 0} (text : A → List ℕ) (fits : A → Bool) → Sound text fits nothing
nothing_sound text fits s p e = absurd (none-some p e)

-- an exact reader of another text finds what stands in front
pub found_sound : {A : Type 0} (text : A → List ℕ) (fits : A → Bool) (r : List ℕ → Read A) → Exact [] text fits r → Sound text fits (λ s. found (r s))
found_sound {A} text fits r law = λ s p e. go s p (r s) (law.tells s) e
  where
    go : (s : List ℕ) (p : A × List ℕ) (o : Read A) → Tells [] text fits r s o → found o ≡ Some p → Told text fits s p
    go s p (Ok q) h e = subst (Told text fits s) (same_Some q p e) (h.whole ∙ ap (λ t. t ++ q.1) (sym h.reads), h.keeps)
    go s p (Err n) h e = absurd (none-some p e)

-- one more stands behind the others
push_behind : {A : Type 0} (done : List A) (t : A) (list : List A) → (done ++ t ∷ []) ++ list ≡ done ++ t ∷ list
push_behind done t list = append_assoc done (t ∷ []) list

module _ {T : Type 0} (text : T → List ℕ) (fits : T → Bool) (one : List ℕ → Reading T) (law : Law at_end text fits one) where
  -- so many texts stand in front
  record Times (n : ℕ) (done : List T) (s : List ℕ) (p : List T × List ℕ) : Type 0 where
    pub list : List T
    pub all : p.0 ≡ done ++ list
    pub count : length list ≡ n
    pub whole : s ≡ each_behind 32 (map text list) ++ p.1
    pub keeps : list_all fits list ≡ true

  each : Law at_end (λ x. 32 ∷ text x) fits (behind (32 ∷ []) one)
  each = behind_law (32 ∷ []) law

  times_sound : (n : ℕ) (done : List T) (s : List ℕ) (p : List T × List ℕ) → times one n done s ≡ Some p → Times n done s p
  times_sound zero done s p e =
      subst (Times zero done s) (same_Some (done, s) p e) (record { list = []; all = sym (append-nil done); count = refl; whole = refl; keeps = refl })
  times_sound (suc n) done s p e =
      let f = after_found (behind (32 ∷ []) one s) (λ t rest. times one n (done ++ t ∷ []) rest) p e in
      let l = each.sound s f.0 f.1 in
      let h = times_sound n (done ++ f.0.0 ∷ []) f.0.1 p f.2 in
      record {
        list = f.0.0 ∷ h.list;
        all = h.all ∙ push_behind done f.0.0 h.list;
        count = ap suc h.count;
        whole = l.0 ∙ ap (λ z. 32 ∷ (text f.0.0 ++ z)) h.whole ∙ ap (λ z. 32 ∷ z) (sym (append_assoc (text f.0.0) (each_behind 32 (map text h.list)) p.1));
        keeps = both_fit (fits f.0.0) (list_all fits h.list) l.1 h.keeps;
      }

  ends_each : (list : List T) (y : List ℕ) → at_end y ≡ true → at_end (each_behind 32 (map text list) ++ y) ≡ true
  ends_each [] y e = e
  ends_each (t ∷ list) y e = refl

  times_full : (list done : List T) (y : List ℕ) → list_all fits list ≡ true → at_end y ≡ true → times one (length list) done (each_behind 32 (map text list) ++ y) ≡ Some (done ++ list, y)
  times_full [] done y keeps ended = ap (λ l. Some (l, y)) (sym (append-nil done))
  times_full (t ∷ list) done y keeps ended =
      let h = both_true (fits t) (list_all fits list) keeps in
      let rest = each_behind 32 (map text list) in
      ap (λ z. after (one z) (λ u left. times one (length list) (done ++ u ∷ []) left)) (append_assoc (text t) rest y)
      ∙ ap (λ r. after r (λ u left. times one (length list) (done ++ u ∷ []) left)) (law.full t (rest ++ y) h.0 (ends_each list y ended))
      ∙ times_full list (done ++ t ∷ []) y h.1 ended
      ∙ ap (λ l. Some (l, y)) (push_behind done t list)

  -- how many texts there are, and the texts
  pub counted_law : (calm : List ℕ → Bool) → ((y : List ℕ) → at_end y ≡ true → calm y ≡ true)
      → Law calm (λ n. 32 ∷ decimal n) is_u64 (number_in 18446744073709551615) → Law at_end (λ list. 32 ∷ counted_text text list) (all_fit fits) (counted_in one)
  unfolding counted_in
  counted_law calm on numbers = record {
    sound = λ s p e.
        let f = after_found (number_in 18446744073709551615 s) (λ n rest. times one n [] rest) p e in
        let l = numbers.sound s f.0 f.1 in
        let h = times_sound f.0.0 [] f.0.1 p f.2 in
        let count : f.0.0 ≡ length p.0 = sym (ap length h.all ∙ h.count) in (
          l.0
              ∙ ap (λ n. 32 ∷ (decimal n ++ f.0.1)) count
              ∙ ap (λ z. 32 ∷ (decimal (length p.0) ++ z)) (h.whole ∙ ap (λ list. each_behind 32 (map text list) ++ p.1) (sym h.all))
              ∙ ap (λ z. 32 ∷ z) (sym (append_assoc (decimal (length p.0)) (each_behind 32 (map text p.0)) p.1)),
          both_fit (is_u64 (length p.0)) (list_all fits p.0) (ap is_u64 (sym count) ∙ l.1) (ap (list_all fits) h.all ∙ h.keeps),
        );
    full = λ list y keeps ended.
        let h = both_true (is_u64 (length list)) (list_all fits list) keeps in
        let rest = each_behind 32 (map text list) in
        ap (λ z. after (number_in 18446744073709551615 (32 ∷ z)) (λ n left. times one n [] left)) (append_assoc (decimal (length list)) rest y)
        ∙ ap (λ r. after r (λ n left. times one n [] left)) (numbers.full (length list) (rest ++ y) h.0 (on (rest ++ y) (ends_each list y ended)))
        ∙ times_full list [] y h.1 ended;
  }

-- a byte that stands in front
byte_found : (a : ℕ) (s rest : List ℕ) → literal_at (a ∷ []) s ≡ Ok rest → s ≡ a ∷ rest
byte_found a s rest e = literal_found (a ∷ []) s rest e

-- another byte stands in front, or none
abbrev pub other_byte : ℕ → List ℕ → Bool
other_byte a [] = true
other_byte a (b ∷ s) = not (b == a)

-- a word isn't read where another byte stands
pub other_missed : (a : ℕ) (w s : List ℕ) → other_byte a s ≡ true → (n : ℕ) × (literal_at (a ∷ w) s ≡ Err n)
other_missed a w [] e = (0, refl)
other_missed a w (b ∷ s) e = go (b == a) e
  where
    go : (t : Bool) → not t ≡ true → (n : ℕ) × (cond t (literal_at w s) (Err (suc (length s))) ≡ Err n)
    go true e = absurd (true≢false (sym e))
    go false e = (suc (length s), refl)

module _ {T : Type 0} (byte : ℕ) (text : T → List ℕ) (fits : T → Bool) (bars : T → List T → Bool) (one : List ℕ → Reading T) (ends : List ℕ → Bool) (law : Law ends text fits one)
    (on : (s : List ℕ) → ends (byte ∷ s) ≡ true) where
  abbrev row : List T → List ℕ
  row list = each_behind byte (map text list)

  -- further texts stand in front
  pub record More (room : ℕ) (done : List T) (s : List ℕ) (p : List T × List ℕ) : Type 0 where
    pub list : List T
    pub all : p.0 ≡ done ++ list
    pub few : length list ≤ room
    pub whole : s ≡ row list ++ p.1
    pub keeps : list_all fits list ≡ true
    pub passes : none_barred bars done list ≡ true

  stop : (room : ℕ) (done : List T) (s : List ℕ) (p : List T × List ℕ) → Some (done, s) ≡ Some p → More room done s p
  stop room done s p e =
      subst (More room done s) (same_Some (done, s) p e)
      (record { list = []; all = sym (append-nil done); few = omega arith; whole = refl; keeps = refl; passes = refl })

  pub more_sound : (room : ℕ) (done : List T) (s : List ℕ) (p : List T × List ℕ) → more byte one bars room done s ≡ Some p → More room done s p
  more_sound zero done s p e = stop zero done s p e
  more_sound (suc room) done s p e = go (literal_at (byte ∷ []) s) refl e (λ t rest h. more_sound room (done ++ t ∷ []) rest p h)
    where
      next : T → List ℕ → Reading (List T)
      next t rest = cond (bars t done) None (more byte one bars room (done ++ t ∷ []) rest)

      passed : (t : Bool) (r : Reading (List T)) → cond t None r ≡ Some p → (t ≡ false) × (r ≡ Some p)
      passed true r e = absurd (none-some p e)
      passed false r e = (refl, e)

      go : (o : Result (List ℕ) ℕ) → literal_at (byte ∷ []) s ≡ o → by_word o (λ rest. after (one rest) next) (Some (done, s)) ≡ Some p
          → ((t : T) (rest : List ℕ) → more byte one bars room (done ++ t ∷ []) rest ≡ Some p → More room (done ++ t ∷ []) rest p) → More (suc room) done s p
      go (Err n) f e on = stop (suc room) done s p e
      go (Ok rest) f e on =
          let g = after_found (one rest) next p e in
          let b = passed (bars g.0.0 done) (more byte one bars room (done ++ g.0.0 ∷ []) g.0.1) g.2 in
          let l = law.sound rest g.0 g.1 in
          let h = on g.0.0 g.0.1 b.1 in
          let few = h.few in
          record {
            list = g.0.0 ∷ h.list;
            all = h.all ∙ push_behind done g.0.0 h.list;
            few = omega arith;
            whole = byte_found byte s rest f ∙ ap (λ z. byte ∷ z) (l.0 ∙ ap (λ z. text g.0.0 ++ z) h.whole ∙ sym (append_assoc (text g.0.0) (row h.list) p.1));
            keeps = both_fit (fits g.0.0) (list_all fits h.list) l.1 h.keeps;
            passes = both_fit (not (bars g.0.0 done)) (none_barred bars (done ++ g.0.0 ∷ []) h.list) (ap not b.0) h.passes;
          }

  ends_row : (list : List T) (y : List ℕ) → ends y ≡ true → ends (row list ++ y) ≡ true
  ends_row [] y e = e
  ends_row (t ∷ list) y e = on ((text t ++ row list) ++ y)

  not_false : (t : Bool) → not t ≡ true → t ≡ false
  not_false true e = absurd (true≢false (sym e))
  not_false false e = refl

  pub more_full : (list done : List T) (room : ℕ) (y : List ℕ) → length list ≤ room → list_all fits list ≡ true → none_barred bars done list ≡ true → ends y ≡ true → other_byte byte y ≡ true
      → more byte one bars room done (row list ++ y) ≡ Some (done ++ list, y)
  more_full [] done zero y few keeps passes ended other = ap (λ l. Some (l, y)) (sym (append-nil done))
  more_full [] done (suc room) y few keeps passes ended other =
      ap (λ o. by_word o (λ rest. after (one rest) (λ t left. cond (bars t done) None (more byte one bars room (done ++ t ∷ []) left))) (Some (done, y))) (other_missed byte [] y other).1
      ∙ ap (λ l. Some (l, y)) (sym (append-nil done))
  more_full (t ∷ list) done zero y few keeps passes ended other = absurd (omega arith)
  more_full (t ∷ list) done (suc room) y few keeps passes ended other =
      let h = both_true (fits t) (list_all fits list) keeps in
      let g = both_true (not (bars t done)) (none_barred bars (done ++ t ∷ []) list) passes in
      let next = λ (u : T) (left : List ℕ). cond (bars u done) None (more byte one bars room (done ++ u ∷ []) left) in
      ap (λ o. by_word o (λ rest. after (one rest) next) (Some (done, row (t ∷ list) ++ y))) (literal_own (byte ∷ []) ((text t ++ row list) ++ y))
      ∙ ap (λ z. after (one z) next) (append_assoc (text t) (row list) y)
      ∙ ap (λ r. after r next) (law.full t (row list ++ y) h.0 (ends_row list y ended))
      ∙ ap (λ b. cond b None (more byte one bars room (done ++ t ∷ []) (row list ++ y))) (not_false (bars t done) g.0)
      ∙ more_full list (done ++ t ∷ []) room y (omega arith) h.1 g.1 ended other
      ∙ ap (λ l. Some (l, y)) (push_behind done t list)

-- where nothing is barred, nothing is in the way
pub none_in_way : {T : Type 0} (done list : List T) → none_barred no_bar done list ≡ true
none_in_way done [] = refl
none_in_way done (t ∷ list) = none_in_way (done ++ t ∷ []) list
