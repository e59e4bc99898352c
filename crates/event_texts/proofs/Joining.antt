-- Texts in a row with a byte between each two.
use Rattle.std.proofs.Common.{◌≡◌, ℕ, zero, suc, ◌+◌, List, [], ◌∷◌, ◌++◌, map, refl, sym, ap, ◌∙◌, append_assoc, zero-add}
use Rattle.std.proofs.lemmas.List.{append-nil}
use Rattle.std.proofs.lemmas.List.FromFn.{map-range_with_len_more}
use Rattle.std.specs.List.{join_with_byte, range_with_len}
use Rattle.grid_event.specs.declared.call_events.Ask.{Ask}
use Rattle.event_texts.specs.Events.{ask_text, asks_text}
use Rattle.event_texts.specs.Words.{between, each_behind}

-- the first text stands in front, and each other one behind a byte
pub joined_from_first : (byte : ℕ) (text : List ℕ) (texts : List (List ℕ)) → join_with_byte byte (text ∷ texts) ≡ text ++ each_behind byte texts
joined_from_first byte text [] = sym (append-nil text)
joined_from_first byte text (next ∷ texts) = ap (λ rest. text ++ (byte ∷ rest)) (joined_from_first byte next texts)

-- one more text stands behind the byte
pub each_behind_push : (byte : ℕ) (texts : List (List ℕ)) (text : List ℕ) → each_behind byte (texts ++ text ∷ []) ≡ each_behind byte texts ++ byte ∷ text
each_behind_push byte [] text = ap (λ rest. byte ∷ rest) (append-nil text)
each_behind_push byte (first ∷ texts) text =
    ap (λ rest. byte ∷ (first ++ rest)) (each_behind_push byte texts text) ∙ ap (λ rest. byte ∷ rest) (sym (append_assoc first (each_behind byte texts) (byte ∷ text)))

-- one more text stands behind the byte, where it isn't the first
pub joined_more : (byte : ℕ) (f : ℕ → List ℕ) (place : ℕ)
    → join_with_byte byte (map f (range_with_len 0 (place + 1))) ≡ (join_with_byte byte (map f (range_with_len 0 place)) ++ between byte place) ++ f place
joined_more byte f zero = refl
joined_more byte f (suc n) =
    let texts = map f (range_with_len 1 n) in
    ap (join_with_byte byte) (map-range_with_len_more f 0 (suc n) (suc n) (zero-add (suc n)))
    ∙ (joined_from_first byte (f 0) (texts ++ f (suc n) ∷ [])
    ∙ (ap (λ rest. f 0 ++ rest) (each_behind_push byte texts (f (suc n)))
    ∙ (sym (append_assoc (f 0) (each_behind byte texts) (byte ∷ f (suc n)))
    ∙ (ap (λ front. front ++ byte ∷ f (suc n)) (sym (joined_from_first byte (f 0) texts))
    ∙ sym (append_assoc (join_with_byte byte (f 0 ∷ texts)) (byte ∷ []) (f (suc n)))))))

-- a row grows by what stands between and the next text
pub row_step : (byte : ℕ) (f : ℕ → List ℕ) (place : ℕ) (front out between_out after : List ℕ)
    → out ≡ front ++ join_with_byte byte (map f (range_with_len 0 place)) → between_out ≡ out ++ between byte place → after ≡ between_out ++ f place
    → after ≡ front ++ join_with_byte byte (map f (range_with_len 0 (place + 1)))
row_step byte f place front out between_out after stands separated added =
    let row = join_with_byte byte (map f (range_with_len 0 place)) in
    added ∙ (ap (λ text. text ++ f place) separated
    ∙ (ap (λ text. (text ++ between byte place) ++ f place) stands
    ∙ (ap (λ text. text ++ f place) (append_assoc front row (between byte place))
    ∙ (append_assoc front (row ++ between byte place) (f place)
    ∙ ap (λ text. front ++ text) (sym (joined_more byte f place))))))

-- the first text and the others behind a byte each are the row
pub row_whole : {A : Type 0} (byte : ℕ) (f : A → List ℕ) (xs : List A) (first : A) (others : List A) (front out after : List ℕ)
    → xs ≡ first ∷ others → out ≡ front ++ f first → after ≡ out ++ each_behind byte (map f others) → after ≡ front ++ join_with_byte byte (map f xs)
row_whole byte f xs first others front out after split one rest =
    rest ∙ (ap (λ text. text ++ each_behind byte (map f others)) one
    ∙ (append_assoc front (f first) (each_behind byte (map f others))
    ∙ ap (λ text. front ++ text) (sym (joined_from_first byte (f first) (map f others)) ∙ ap (λ ys. join_with_byte byte (map f ys)) (sym split))))

-- the first ask and the others behind a comma each are the row of asks
pub asks_whole : (asks : List Ask) (first : Ask) (others : List Ask) (front out after : List ℕ)
    → asks ≡ first ∷ others → out ≡ front ++ ask_text first → after ≡ out ++ each_behind 44 (map ask_text others) → after ≡ front ++ asks_text asks
unfolding asks_text
asks_whole asks first others front out after split one rest = row_whole 44 ask_text asks first others front out after split one rest
