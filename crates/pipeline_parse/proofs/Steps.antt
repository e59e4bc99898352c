-- The steps of the readers' loops.
use Rattle.std.proofs.Common.{◌≡◌, ℕ, suc, ◌+◌, ◌-◌, ◌*◌, ◌<◌, ◌≤◌, Bool, true, false, ◌&&◌, ◌==◌, cond, min, nat_le, nat_lt, List, ◌++◌, append_assoc, eq-eqb, ne_eqb, [], ◌∷◌, length, get_or, take, drop, Some, None, Result, Ok, Err, refl, sym, ap, ◌∙◌, arith}
use Rattle.std.proofs.lemmas.List.{drop_more, drop_all, take_more, append-nil, length-drop, take_all}
use Rattle.grid_base.specs.Key.{is_key_byte}
use Rattle.grid_base.specs.Text.{is_text_byte}
use Rattle.pipeline_parse.specs.Reading.{Read, ◌>>=◌, with_byte, quoted_at, first_of_two, literal_at, word_at, digits_at, is_digit, before_bytes, key_bytes_at}

-- a word that isn't over needs a byte
pub literal_ends : (w s : List ℕ) (i : ℕ) → i < length w → s ≡ [] → literal_at (drop i w) s ≡ Err 0
literal_ends w s i lt e = ap (λ x. literal_at x s) (drop_more w i 0 lt) ∙ ap (literal_at (get_or w i 0 ∷ drop (i + 1) w)) e

-- a byte that isn't the word's next one
pub literal_differs : (w s : List ℕ) (i b : ℕ) (more : List ℕ) → i < length w → s ≡ b ∷ more → (b == get_or w i 0) ≡ false → literal_at (drop i w) s ≡ Err (length s)
literal_differs w s i b more lt e differs =
    ap (λ x. literal_at x s) (drop_more w i 0 lt)
    ∙ ap (literal_at (get_or w i 0 ∷ drop (i + 1) w)) e
    ∙ ap (λ t. cond t (literal_at (drop (i + 1) w) more) (Err (suc (length more)))) differs
    ∙ ap (λ x. Err (length x)) (sym e)

-- the word's next byte
pub literal_more : (w s : List ℕ) (i b : ℕ) (more : List ℕ) → i < length w → s ≡ b ∷ more → (b == get_or w i 0) ≡ true → literal_at (drop i w) s ≡ literal_at (drop (i + 1) w) more
literal_more w s i b more lt e same =
    ap (λ x. literal_at x s) (drop_more w i 0 lt)
    ∙ ap (literal_at (get_or w i 0 ∷ drop (i + 1) w)) e
    ∙ ap (λ t. cond t (literal_at (drop (i + 1) w) more) (Err (suc (length more)))) same

-- where a reading stops, if not further on
abbrev pub least : {A : Type 0} → ℕ → Read A → Read A
least n (Ok p) = Ok p
least n (Err m) = Err (min n m)

-- a word leaves no more than there is
pub literal_leaves : (w s : List ℕ) (n : ℕ) → literal_at w s ≡ Err n → n ≤ length s
literal_leaves [] s n e = cc
literal_leaves (a ∷ w) [] n e = let h : 0 ≡ n = cc in omega arith
literal_leaves (a ∷ w) (b ∷ s) n e = go (literal_leaves w s n) (b == a) e
  where
    go : (literal_at w s ≡ Err n → n ≤ length s) → (t : Bool) → cond t (literal_at w s) (Err (suc (length s))) ≡ Err n → n ≤ suc (length s)
    go more true f = let h = more f in omega arith
    go more false f = let h : suc (length s) ≡ n = cc in omega arith

module _ {A : Type 0} (word : A → List ℕ) where
  -- the first choice is tried, and then the others
  pub word_found : (xs : List A) (i : ℕ) (x : A) (s rest : List ℕ) → i < length xs → x ≡ get_or xs i x → literal_at (word x) s ≡ Ok rest → word_at word (drop i xs) s ≡ Ok (x, rest)
  word_found xs i x s rest lt is found =
      ap (λ ys. word_at word ys s) (drop_more xs i x lt ∙ ap (λ y. y ∷ drop (i + 1) xs) (sym is))
      ∙ ap (λ r. first_of_two x r (word_at word (drop (i + 1) xs) s)) found

  -- a word that isn't in front leaves the other choices, and how far any went
  pub word_missed : (xs : List A) (i : ℕ) (x : A) (s : List ℕ) (n left : ℕ) → i < length xs → x ≡ get_or xs i x → literal_at (word x) s ≡ Err n
      → least left (word_at word (drop i xs) s) ≡ least (min left n) (word_at word (drop (i + 1) xs) s)
  word_missed xs i x s n left lt is missed =
      ap (λ ys. least left (word_at word ys s)) (drop_more xs i x lt ∙ ap (λ y. y ∷ drop (i + 1) xs) (sym is))
      ∙ ap (λ r. least left (first_of_two x r (word_at word (drop (i + 1) xs) s))) missed
      ∙ least_twice x left n (word_at word (drop (i + 1) xs) s)
    where
      least_twice : (x : A) (left n : ℕ) (r : Read A) → least left (first_of_two x (Err n) r) ≡ least (min left n) r
      least_twice x left n (Ok p) = refl
      least_twice x left n (Err m) = ap (λ k. Err k) (omega arith)

  -- no choice is left
  pub word_ends : (xs : List A) (i : ℕ) (s : List ℕ) (left : ℕ) → length xs ≤ i → left ≤ length s → least left (word_at word (drop i xs) s) ≡ Err left
  word_ends xs i s left over le = ap (λ ys. least left (word_at word ys s)) (drop_all i xs over) ∙ ap (λ k. Err k) (omega arith)

  -- no choice leaves more than there is
  pub word_leaves : (xs : List A) (s : List ℕ) → least (length s) (word_at word xs s) ≡ word_at word xs s
  word_leaves [] s = ap (λ k. Err k) (omega arith)
  word_leaves (x ∷ xs) s = go (literal_at (word x) s) refl (word_at word xs s)
    where
      go : (r : Result (List ℕ) ℕ) → literal_at (word x) s ≡ r → (o : Read A) → least (length s) (first_of_two x r o) ≡ first_of_two x r o
      go (Ok rest) e o = refl
      go (Err n) e (Ok p) = refl
      go (Err n) e (Err m) = let h = literal_leaves (word x) s n e in ap (λ k. Err k) (omega arith)

-- a digit that the number takes
pub digits_more : (limit n b : ℕ) (s more : List ℕ) (longer : ℕ) → s ≡ b ∷ more → cond (is_digit b && nat_le (n * 10 + (b - 48)) limit) (Some (n * 10 + (b - 48))) None ≡ Some longer → digits_at limit n s ≡ digits_at limit longer more
digits_more limit n b s more longer e f = ap (digits_at limit n) e ∙ go (is_digit b && nat_le (n * 10 + (b - 48)) limit) f
  where
    go : (t : Bool) → cond t (Some (n * 10 + (b - 48))) None ≡ Some longer → cond t (digits_at limit (n * 10 + (b - 48)) more) (n, b ∷ more) ≡ digits_at limit longer more
    go true g = let h : n * 10 + (b - 48) ≡ longer = cc in ap (λ m. digits_at limit m more) h
    go false g = cc

-- a byte at which the number ends
pub digits_stop : (limit n b : ℕ) (s more : List ℕ) → s ≡ b ∷ more → cond (is_digit b && nat_le (n * 10 + (b - 48)) limit) (Some (n * 10 + (b - 48))) None ≡ None → digits_at limit n s ≡ (n, s)
digits_stop limit n b s more e f = ap (digits_at limit n) e ∙ go (is_digit b && nat_le (n * 10 + (b - 48)) limit) f ∙ ap (λ x. (n, x)) (sym e)
  where
    go : (t : Bool) → cond t (Some (n * 10 + (b - 48))) None ≡ None → cond t (digits_at limit (n * 10 + (b - 48)) more) (n, b ∷ more) ≡ (n, b ∷ more)
    go true g = cc
    go false g = refl

-- a text with some bytes before it
abbrev pub with_front : List ℕ → Read (List ℕ) → Read (List ℕ)
with_front front r = r >>= (λ p. Ok (front ++ p.0, p.1))

-- a byte read behind a front is read into the front
with_front_byte : (front : List ℕ) (b : ℕ) (r : Read (List ℕ)) → with_front front (with_byte b r) ≡ with_front (front ++ b ∷ []) r
with_front_byte front b (Ok p) = ap (λ x. Ok (x, p.1)) (sym (append_assoc front (b ∷ []) p.0))
with_front_byte front b (Err n) = refl

module _ (s : List ℕ) (i b : ℕ) (lt : i < length s) (is : b ≡ get_or s i 0) where
  -- the next byte closes a text, goes into it, or stops it
  at_byte : (room : ℕ) → with_front (take i s) (quoted_at room (drop i s))
      ≡ with_front (take i s) (cond (b == 34) (Ok ([], drop (i + 1) s)) (cond (nat_lt 0 room && is_text_byte b) (with_byte b (quoted_at (room - 1) (drop (i + 1) s))) (Err (suc (length (drop (i + 1) s))))))
  at_byte room = ap (λ x. with_front (take i s) (quoted_at room x)) (drop_more s i 0 lt ∙ ap (λ x. x ∷ drop (i + 1) s) (sym is))

  -- the closing quote
  pub quoted_closes : (room : ℕ) → b ≡ 34 → with_front (take i s) (quoted_at room (drop i s)) ≡ Ok (take i s, drop (i + 1) s)
  quoted_closes room e =
      at_byte room
      ∙ ap (λ t. with_front (take i s) (cond t (Ok ([], drop (i + 1) s)) (cond (nat_lt 0 room && is_text_byte b) (with_byte b (quoted_at (room - 1) (drop (i + 1) s))) (Err (suc (length (drop (i + 1) s))))))) (eq-eqb b 34 e)
      ∙ ap (λ x. Ok (x, drop (i + 1) s)) (append-nil (take i s))

  -- a further byte
  pub quoted_more : (room : ℕ) → (b ≡ 34 → ⊥) → (nat_lt 0 (room - i) && is_text_byte b) ≡ true
      → with_front (take i s) (quoted_at (room - i) (drop i s)) ≡ with_front (take (i + 1) s) (quoted_at (room - (i + 1)) (drop (i + 1) s))
  quoted_more room apart goes =
      at_byte (room - i)
      ∙ ap (λ t. with_front (take i s) (cond t (Ok ([], drop (i + 1) s)) (cond (nat_lt 0 (room - i) && is_text_byte b) (with_byte b (quoted_at (room - i - 1) (drop (i + 1) s))) (Err (suc (length (drop (i + 1) s))))))) (ne_eqb b 34 apart)
      ∙ ap (λ t. with_front (take i s) (cond t (with_byte b (quoted_at (room - i - 1) (drop (i + 1) s))) (Err (suc (length (drop (i + 1) s)))))) goes
      ∙ with_front_byte (take i s) b (quoted_at (room - i - 1) (drop (i + 1) s))
      ∙ ap (λ n. with_front (take i s ++ b ∷ []) (quoted_at n (drop (i + 1) s))) (let e : room - i - 1 ≡ room - (i + 1) = omega arith in e)
      ∙ ap (λ x. with_front x (quoted_at (room - (i + 1)) (drop (i + 1) s))) (ap (λ x. take i s ++ x ∷ []) is ∙ sym (take_more s i 0 lt))

  -- a byte that no text has there
  pub quoted_stops : (room : ℕ) → (b ≡ 34 → ⊥) → (nat_lt 0 (room - i) && is_text_byte b) ≡ false
      → with_front (take i s) (quoted_at (room - i) (drop i s)) ≡ Err (length s - i)
  quoted_stops room apart goes =
      at_byte (room - i)
      ∙ ap (λ t. with_front (take i s) (cond t (Ok ([], drop (i + 1) s)) (cond (nat_lt 0 (room - i) && is_text_byte b) (with_byte b (quoted_at (room - i - 1) (drop (i + 1) s))) (Err (suc (length (drop (i + 1) s))))))) (ne_eqb b 34 apart)
      ∙ ap (λ t. with_front (take i s) (cond t (with_byte b (quoted_at (room - i - 1) (drop (i + 1) s))) (Err (suc (length (drop (i + 1) s)))))) goes
      ∙ ap (λ n. Err n) (let e : suc (length (drop (i + 1) s)) ≡ length s - i = omega (arith, length-drop (i + 1) s) in e)

-- no byte is left
pub quoted_ends : (s : List ℕ) (i room : ℕ) → length s ≤ i → with_front (take i s) (quoted_at (room - i) (drop i s)) ≡ Err 0
quoted_ends s i room over = ap (λ x. with_front (take i s) (quoted_at (room - i) x)) (drop_all i s over)

-- from the first byte on, with all room, the whole text is read
pub quoted_whole : (room : ℕ) (s : List ℕ) → with_front [] (quoted_at (room - 0) s) ≡ quoted_at room s
quoted_whole room s = ap (λ n. with_front [] (quoted_at n s)) (let e : room - 0 ≡ room = omega arith in e) ∙ same (quoted_at room s)
  where
    same : (r : Read (List ℕ)) → with_front [] r ≡ r
    same (Ok p) = refl
    same (Err n) = refl

-- the bytes of a key with some before them
abbrev pub key_front : List ℕ → List ℕ × List ℕ → List ℕ × List ℕ
key_front front r = (front ++ r.0, r.1)

module _ (s : List ℕ) (i b : ℕ) (lt : i < length s) (is : b ≡ get_or s i 0) where
  -- the next byte goes into a key, or ends it
  key_here : (room : ℕ) → key_front (take i s) (key_bytes_at room (drop i s))
      ≡ key_front (take i s) (cond (nat_lt 0 room && is_key_byte b) (before_bytes b (key_bytes_at (room - 1) (drop (i + 1) s))) ([], b ∷ drop (i + 1) s))
  key_here room = ap (λ x. key_front (take i s) (key_bytes_at room x)) (drop_more s i 0 lt ∙ ap (λ x. x ∷ drop (i + 1) s) (sym is))

  -- a further byte of a key
  pub key_more : (room : ℕ) → (nat_lt 0 (room - i) && is_key_byte b) ≡ true
      → key_front (take i s) (key_bytes_at (room - i) (drop i s)) ≡ key_front (take (i + 1) s) (key_bytes_at (room - (i + 1)) (drop (i + 1) s))
  key_more room goes =
      key_here (room - i)
      ∙ ap (λ t. key_front (take i s) (cond t (before_bytes b (key_bytes_at (room - i - 1) (drop (i + 1) s))) ([], b ∷ drop (i + 1) s))) goes
      ∙ ap (λ x. (x, (key_bytes_at (room - i - 1) (drop (i + 1) s)).1)) (sym (append_assoc (take i s) (b ∷ []) (key_bytes_at (room - i - 1) (drop (i + 1) s)).0))
      ∙ ap (λ n. key_front (take i s ++ b ∷ []) (key_bytes_at n (drop (i + 1) s))) (let e : room - i - 1 ≡ room - (i + 1) = omega arith in e)
      ∙ ap (λ x. key_front x (key_bytes_at (room - (i + 1)) (drop (i + 1) s))) (ap (λ x. take i s ++ x ∷ []) is ∙ sym (take_more s i 0 lt))

  -- a byte that no key has there
  pub key_stops : (room : ℕ) → (nat_lt 0 (room - i) && is_key_byte b) ≡ false → key_front (take i s) (key_bytes_at (room - i) (drop i s)) ≡ (take i s, drop i s)
  key_stops room goes =
      key_here (room - i)
      ∙ ap (λ t. key_front (take i s) (cond t (before_bytes b (key_bytes_at (room - i - 1) (drop (i + 1) s))) ([], b ∷ drop (i + 1) s))) goes
      ∙ ap (λ x. (x, b ∷ drop (i + 1) s)) (append-nil (take i s))
      ∙ ap (λ x. (take i s, x)) (ap (λ x. x ∷ drop (i + 1) s) is ∙ sym (drop_more s i 0 lt))

-- no byte is left for a key
pub key_ends : (s : List ℕ) (i room : ℕ) → length s ≤ i → key_front (take i s) (key_bytes_at (room - i) (drop i s)) ≡ (take (length s) s, drop (length s) s)
key_ends s i room over =
    ap (λ x. key_front (take i s) (key_bytes_at (room - i) x)) (drop_all i s over)
    ∙ ap (λ x. (x, [])) (append-nil (take i s) ∙ take_all i s over ∙ sym (take_all (length s) s (omega arith)))
    ∙ ap (λ x. (take (length s) s, x)) (sym (drop_all (length s) s (omega arith)))

-- from the first byte on, with all room, the whole key is read
pub key_whole : (room : ℕ) (s : List ℕ) → key_front [] (key_bytes_at (room - 0) s) ≡ key_bytes_at room s
key_whole room s = ap (λ n. key_bytes_at n s) (let e : room - 0 ≡ room = omega arith in e)
