-- An ordered set tells which elements were seen.
use Rattle.std.proofs.Common.{◌≡◌, Bool, true, false, cond, ◌||◌, List, [], ◌∷◌, ◌++◌, ◌&&◌, refl, sym, ◌∙◌, ap, ap₂, subst, append-nil, true≢false}
use Rattle.std.specs.Prelude.{not}
use Rattle.std.specs.List.{list_any}
use Rattle.std.specs.declared.cmp.Ordering.{Ordering}
use Rattle.std.specs.declared.cmp.Ordering.TheVariants.{Less, Equal, Greater}
use Rattle.std.specs.Cmp.Lexicographic.{slice_cmp, texts_ties}
use Rattle.std.specs.Ordering.{is_eq, ordering_then, nat_cmp}
use Rattle.std.specs.BTreeSet.{BTreeSet, contains, Updates}
use Rattle.grid_base.specs.Datum.{same_item, same_datum}
use Rattle.grid_base.specs.contracts.datum.DatumOrd.TheImpl as datum_ord
use Rattle.grid_base.specs.declared.datum.Datum.{Datum}
use Rattle.grid_base.specs.declared.datum.Datum.TheVariants.{Int, Text, Flag}
use Rattle.grid_base.specs.declared.item.Item.{Item}
use Rattle.grid_base.specs.declared.item.Item.TheVariants as items
use Rattle.pipeline_eval.specs.Lists.{distinct}
use Rattle.pipeline_eval.specs.Seen.{item_cmp, Holds, Keeps}
use Rattle.pipeline_eval.proofs.ListLemmas.{distinct_more}

-- an order, and then equality, is that order
then_same : (o : Ordering) → ordering_then o Equal ≡ o
then_same Less = refl
then_same Equal = refl
then_same Greater = refl

-- two orders in turn tie exactly where both tie
eq_then : (o p : Ordering) → is_eq (ordering_then o p) ≡ (is_eq o && is_eq p)
eq_then Less p = refl
eq_then Equal p = refl
eq_then Greater p = refl

-- values are tied by the order exactly where they are the same
tied_datum : (a b : Datum) → is_eq ((datum_ord.ghosts).cmp a b) ≡ same_datum a b
tied_datum (Int m) (Int n) = refl
tied_datum (Int m) (Text t) = refl
tied_datum (Int m) (Flag c) = refl
tied_datum (Text s) (Int n) = refl
tied_datum (Text s) (Text t) = sym (texts_ties s t)
tied_datum (Text s) (Flag c) = refl
tied_datum (Flag b) (Int n) = refl
tied_datum (Flag b) (Text t) = refl
tied_datum (Flag true) (Flag true) = refl
tied_datum (Flag true) (Flag false) = refl
tied_datum (Flag false) (Flag true) = refl
tied_datum (Flag false) (Flag false) = refl

-- elements are tied by the order exactly where they are the same
pub tied_same : (a b : Item) → is_eq (item_cmp a b) ≡ same_item a b
tied_same (items.Entry a) (items.Entry b) =
    eq_then (slice_cmp nat_cmp a.key b.key) ((datum_ord.ghosts).cmp a.value b.value)
    ∙ ap₂ (λ x y. x && y) (sym (texts_ties a.key b.key)) (tied_datum a.value b.value)
tied_same (items.Entry a) (items.Datum b) = refl
tied_same (items.Datum a) (items.Entry b) = refl
tied_same (items.Datum a) (items.Datum b) = tied_datum a b

-- something passes of a list with one element more where that element passes or something did
any-append : (p : Item → Bool) (xs : List Item) (x : Item) → list_any p (xs ++ x ∷ []) ≡ (p x || list_any p xs)
any-append p [] x = refl
any-append p (y ∷ xs) x = by (p y) (p x) (list_any p xs) (list_any p (xs ++ x ∷ [])) (any-append p xs x)
  where
    by : (a b c d : Bool) → d ≡ (b || c) → (a || d) ≡ (b || (a || c))
    by true true c d e = refl
    by true false c d e = refl
    by false b c d e = e

-- the set holds one element more
holds_more : (s n : BTreeSet Item) (done : List Item) (x : Item) → Updates item_cmp s n x true → Holds s done → Holds n (done ++ x ∷ [])
holds_more s n done x updates holds q =
    updates.0 q ∙ by (is_eq (item_cmp x q)) (same_item x q) (contains item_cmp s q) (list_any (λ y. same_item y q) done) (tied_same x q) (holds q) ∙ sym (any-append (λ y. same_item y q) done x)
  where
    by : (a b c d : Bool) → a ≡ b → c ≡ d → cond a true c ≡ (b || d)
    by true true c d p q = refl
    by true false c d p q = cc
    by false true c d p q = cc
    by false false c d p q = q

-- an element that is new to the set is kept, and any other isn't
keeps_more : (s n : BTreeSet Item) (kept done : List Item) (x : Item) (fresh : Bool) → fresh ≡ not (contains item_cmp s x) → Updates item_cmp s n x true → Keeps s kept done → Keeps n (kept ++ cond fresh (x ∷ []) []) (done ++ x ∷ [])
keeps_more s n kept done x fresh is_fresh updates keeps =
    (holds_more s n done x updates keeps.0, by fresh (list_any (λ y. same_item y x) done) (is_fresh ∙ ap not (keeps.0 x)) refl)
  where
    flip : (a b : Bool) → a ≡ not b → cond a (x ∷ []) [] ≡ cond b [] (x ∷ [])
    flip true true e = absurd (true≢false e)
    flip true false e = refl
    flip false true e = refl
    flip false false e = absurd (true≢false (sym e))

    by : (a b : Bool) → a ≡ not b → b ≡ list_any (λ y. same_item y x) done → kept ++ cond a (x ∷ []) [] ≡ distinct (done ++ x ∷ [])
    by a b e seen = ap₂ (λ k m. k ++ m) keeps.1 (flip a b e ∙ ap (λ c. cond c [] (x ∷ [])) seen) ∙ sym (distinct_more done x)

-- an element that is new to the set is put behind those that are kept; what was inserted is a copy
pub keeps_new : (s n : BTreeSet Item) (kept more done : List Item) (x copy : Item) (fresh : Bool) → copy ≡ x → fresh ≡ true → fresh ≡ not (contains item_cmp s copy) → Updates item_cmp s n copy true → more ≡ kept ++ x ∷ [] → Keeps s kept done → Keeps n more (done ++ x ∷ [])
keeps_new s n kept more done x copy fresh same new is_fresh updates pushed keeps =
    let k : Keeps n (kept ++ cond fresh (copy ∷ []) []) (done ++ copy ∷ []) = keeps_more s n kept done copy fresh is_fresh updates keeps in
    let P : Item → Type 0 = λ z. Holds n (done ++ z ∷ []) in (
      subst P same k.0,
      pushed ∙ ap (λ z. kept ++ z ∷ []) (sym same) ∙ ap (λ b. kept ++ cond b (copy ∷ []) []) (sym new) ∙ k.1 ∙ ap (λ z. distinct (done ++ z ∷ [])) same,
    )

-- an element that is in the set is passed over
pub keeps_old : (s n : BTreeSet Item) (kept done : List Item) (x copy : Item) (fresh : Bool) → copy ≡ x → fresh ≡ false → fresh ≡ not (contains item_cmp s copy) → Updates item_cmp s n copy true → Keeps s kept done → Keeps n kept (done ++ x ∷ [])
keeps_old s n kept done x copy fresh same old is_fresh updates keeps =
    let k : Keeps n (kept ++ cond fresh (copy ∷ []) []) (done ++ copy ∷ []) = keeps_more s n kept done copy fresh is_fresh updates keeps in
    let P : Item → Type 0 = λ z. Holds n (done ++ z ∷ []) in (
      subst P same k.0,
      sym (append-nil kept) ∙ ap (λ b. kept ++ cond b (copy ∷ []) []) (sym old) ∙ k.1 ∙ ap (λ z. distinct (done ++ z ∷ [])) same,
    )
