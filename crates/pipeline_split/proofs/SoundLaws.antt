-- What a typed pipeline makes of entries has the kind that the typing tells, so its pieces fit.
use Rattle.std.proofs.Common.{◌≡◌, ℕ, ◌+◌, Bool, true, false, cond, List, [], ◌∷◌, ◌++◌, length, Option, Some, None, refl, sym, ◌∙◌, ap, subst, true≢false, map, take_all, arith, inl, inr}
use Rattle.std.specs.Prelude.{is_some, option_and_then, nat_lt, ◌^◌}
use Rattle.std.specs.List.{filter, flat_map, list_all, list_any}
use Rattle.std.specs.Cmp.{first_so, second_so}
use Rattle.std.specs.Ordering.{ord_min, ord_max}
use Rattle.grid_base.specs.declared.datum.Datum.{Datum}
use Rattle.grid_base.specs.declared.datum.Datum.TheVariants as datum
use Rattle.grid_base.specs.declared.entry.Entry as base
use Rattle.grid_base.specs.declared.item.Item.{Item}
use Rattle.grid_base.specs.declared.item.Item.TheVariants as items
use Rattle.pipeline_expr.specs.Kinds.{same_kind, kind_of_datum, kind_of_values, part_kind, it_kind, arithmetic_kind, equation_kind, order_kind, logic_kind, negation_kind, length_kind, prefix_kind, of_two, kind_step, kind_of_expr}
use Rattle.pipeline_expr.specs.Typing.{has_kind, only_if, spread_kind, op_kind, kind_through, end_takes, Typed}
use Rattle.pipeline_expr.specs.declared.kind.Kind.{Kind}
use Rattle.pipeline_expr.specs.declared.kind.Kind.TheVariants.{Entry, Int, Text, Flag}
use Rattle.pipeline_expr.specs.declared.kind.ValueKind.{ValueKind}
use Rattle.pipeline_expr.specs.declared.end.End.{End}
use Rattle.pipeline_expr.specs.declared.end.End.TheVariants as end
use Rattle.pipeline_expr.specs.declared.expr.Expr.{Expr}
use Rattle.pipeline_expr.specs.declared.expr.Expr.TheOpen.{Expr-F}
use Rattle.pipeline_expr.specs.declared.expr.Expr.TheViews.{out-Expr, roll-out-Expr}
use Rattle.pipeline_expr.specs.declared.expr.Expr.TheFolds.{fold-roll-Expr, map-Expr}
use Rattle.pipeline_expr.specs.declared.op.Op.{Op}
use Rattle.pipeline_expr.specs.declared.op.Op.TheVariants.{Filter, Map, FlatMap, Distinct}
use Rattle.pipeline_expr.specs.declared.pipeline.Pipeline.{Pipeline}
use Rattle.pipeline_expr.specs.declared.spread.Spread.{Spread}
use Rattle.pipeline_expr.specs.declared.spread.Spread.TheVariants.{Each, Words}
use Rattle.pipeline_eval.specs.Values.{bytes_of, is_on, datum_cmp}
use Rattle.pipeline_eval.specs.Evaluation.{datum_of, value_step, value_of}
use Rattle.pipeline_eval.specs.Lists.{distinct, words, least, greatest, either_by}
use Rattle.pipeline_eval.specs.Pipes.{spread_items, op_items, ops_items, as_items, pipe_items}
use Rattle.pipeline_split.specs.Halves.{is_distinct, before_distinct, remote_of}
use Rattle.pipeline_split.specs.Pieces.{kept_by, piece, fitting, comparable}
use Rattle.pipeline_split.specs.FitLaws.{Chooses, least_chooses, greatest_chooses}
use Rattle.pipeline_split.proofs.SplitLaws.{none_before}
use Rattle.pipeline_split.specs.Typed.{IsOfKind, AreOfKind, HaveValuesOf}

-- no kind isn't a kind
no_kind : (k : Kind) → None ≡ Some k → ⊥
no_kind k h = true≢false (ap is_some (sym h))

-- a kind that is there, or else that of entries
abbrev kind_or : Option Kind → Kind
kind_or None = Entry
kind_or (Some k) = k

-- equal kinds, of equal options
some_same : (j k : Kind) → Some j ≡ Some k → j ≡ k
some_same j k h = ap kind_or h

-- a rule over two parts that tells one kind alone
two_fixed : (rule : Kind → Kind → Option Kind) (fixed : Kind) → ((a b k : Kind) → rule a b ≡ Some k → fixed ≡ k) → (a b : Option Kind) (k : Kind) → of_two rule a b ≡ Some k → fixed ≡ k
two_fixed rule fixed h None b k e = absurd (no_kind k e)
two_fixed rule fixed h (Some a) None k e = absurd (no_kind k e)
two_fixed rule fixed h (Some a) (Some b) k e = h a b k e

-- a rule over one part that tells one kind alone
one_fixed : (rule : Kind → Option Kind) (fixed : Kind) → ((a k : Kind) → rule a ≡ Some k → fixed ≡ k) → (a : Option Kind) (k : Kind) → option_and_then rule a ≡ Some k → fixed ≡ k
one_fixed rule fixed h None k e = absurd (no_kind k e)
one_fixed rule fixed h (Some a) k e = h a k e

-- arithmetic gives an int
arithmetic_fixed : (a b k : Kind) → arithmetic_kind a b ≡ Some k → Int ≡ k
arithmetic_fixed Int Int k e = some_same Int k e
arithmetic_fixed _ _ k e = absurd (no_kind k e)

-- an equation gives a flag
equation_fixed : (a b k : Kind) → equation_kind a b ≡ Some k → Flag ≡ k
equation_fixed a b k e = by (same_kind a b) e
  where
    by : (x : Bool) → cond x (Some Flag) None ≡ Some k → Flag ≡ k
    by true e = some_same Flag k e
    by false e = absurd (no_kind k e)

-- a comparison gives a flag
order_fixed : (a b k : Kind) → order_kind a b ≡ Some k → Flag ≡ k
order_fixed Int Int k e = some_same Flag k e
order_fixed Text Text k e = some_same Flag k e
order_fixed _ _ k e = absurd (no_kind k e)

-- and, or give a flag
logic_fixed : (a b k : Kind) → logic_kind a b ≡ Some k → Flag ≡ k
logic_fixed Flag Flag k e = some_same Flag k e
logic_fixed _ _ k e = absurd (no_kind k e)

-- not gives a flag
negation_fixed : (a k : Kind) → negation_kind a ≡ Some k → Flag ≡ k
negation_fixed Flag k e = some_same Flag k e
negation_fixed _ k e = absurd (no_kind k e)

-- a length is an int
length_fixed : (a k : Kind) → length_kind a ≡ Some k → Int ≡ k
length_fixed Text k e = some_same Int k e
length_fixed _ k e = absurd (no_kind k e)

-- whether a text begins with another is a flag
prefix_fixed : (a b k : Kind) → prefix_kind a b ≡ Some k → Flag ≡ k
prefix_fixed Text Text k e = some_same Flag k e
prefix_fixed _ _ k e = absurd (no_kind k e)

-- a part of an entry has the kind that it is said to have
part_fixed : (elements part k : Kind) → part_kind elements part ≡ Some k → part ≡ k
part_fixed Entry part k e = some_same part k e
part_fixed Int part k e = absurd (no_kind k e)
part_fixed Text part k e = absurd (no_kind k e)
part_fixed Flag part k e = absurd (no_kind k e)

-- the value of an entry has the kind of the values
value_sound : (values : ValueKind) (elements : Kind) (x : Item) (k : Kind) → IsOfKind values elements x → part_kind elements (kind_of_values values) ≡ Some k → kind_of_datum (datum_of x) ≡ k
value_sound values Entry (items.Entry entry) k is e = is ∙ some_same (kind_of_values values) k e
value_sound values Entry (items.Datum d) k is e = absurd is
value_sound values Int x k is e = absurd (no_kind k e)
value_sound values Text x k is e = absurd (no_kind k e)
value_sound values Flag x k is e = absurd (no_kind k e)

-- a value that stands for itself has its kind
it_sound : (values : ValueKind) (elements : Kind) (x : Item) (k : Kind) → IsOfKind values elements x → it_kind elements ≡ Some k → kind_of_datum (datum_of x) ≡ k
it_sound values Entry x k is e = absurd (no_kind k e)
it_sound values Int (items.Entry entry) k is e = absurd is
it_sound values Int (items.Datum d) k is e = is ∙ some_same Int k e
it_sound values Text (items.Entry entry) k is e = absurd is
it_sound values Text (items.Datum d) k is e = is ∙ some_same Text k e
it_sound values Flag (items.Entry entry) k is e = absurd is
it_sound values Flag (items.Datum d) k is e = is ∙ some_same Flag k e

-- a value has no other kind than its own
at_kind : (values : ValueKind) (k : Kind) (d : Datum) → kind_of_datum d ≡ k → IsOfKind values k (items.Datum d)
at_kind values Entry d e = absurd (by d e)
  where
    is_entry : Kind → Bool
    is_entry Entry = true
    is_entry Int = false
    is_entry Text = false
    is_entry Flag = false

    by : (d : Datum) → kind_of_datum d ≡ Entry → ⊥
    by (datum.Int n) h = true≢false (sym (ap is_entry h))
    by (datum.Text t) h = true≢false (sym (ap is_entry h))
    by (datum.Flag b) h = true≢false (sym (ap is_entry h))
at_kind values Int d e = e
at_kind values Text d e = e
at_kind values Flag d e = e

module _ (values : ValueKind) (elements : Kind) (x : Item) (is : IsOfKind values elements x) where
  -- the kinds of the parts of a layer
  abbrev kinds : Expr-F Expr → Expr-F (Option Kind)
  kinds = map-Expr Expr (Option Kind) (kind_of_expr elements values)

  -- the values of the parts of a layer
  abbrev found : Expr-F Expr → Expr-F Datum
  found = map-Expr Expr Datum (λ e. value_of e x)

  -- where a layer has a kind, its value has it
  layer_sound : (l : Expr-F Expr) (k : Kind) → kind_step elements values (kinds l) ≡ Some k → kind_of_datum (value_step x (found l)) ≡ k
  layer_sound Expr-F.Key k h = part_fixed elements Text k h
  layer_sound Expr-F.Value k h = value_sound values elements x k is h
  layer_sound Expr-F.It k h = it_sound values elements x k is h
  layer_sound (Expr-F.Lit d) k h = some_same (kind_of_datum d) k h
  layer_sound (Expr-F.Add a b) k h = two_fixed arithmetic_kind Int arithmetic_fixed (kind_of_expr elements values a) (kind_of_expr elements values b) k h
  layer_sound (Expr-F.Sub a b) k h = two_fixed arithmetic_kind Int arithmetic_fixed (kind_of_expr elements values a) (kind_of_expr elements values b) k h
  layer_sound (Expr-F.Mul a b) k h = two_fixed arithmetic_kind Int arithmetic_fixed (kind_of_expr elements values a) (kind_of_expr elements values b) k h
  layer_sound (Expr-F.Same a b) k h = two_fixed equation_kind Flag equation_fixed (kind_of_expr elements values a) (kind_of_expr elements values b) k h
  layer_sound (Expr-F.Less a b) k h = two_fixed order_kind Flag order_fixed (kind_of_expr elements values a) (kind_of_expr elements values b) k h
  layer_sound (Expr-F.And a b) k h = two_fixed logic_kind Flag logic_fixed (kind_of_expr elements values a) (kind_of_expr elements values b) k h
  layer_sound (Expr-F.Or a b) k h = two_fixed logic_kind Flag logic_fixed (kind_of_expr elements values a) (kind_of_expr elements values b) k h
  layer_sound (Expr-F.Not a) k h = one_fixed negation_kind Flag negation_fixed (kind_of_expr elements values a) k h
  layer_sound (Expr-F.Length a) k h = one_fixed length_kind Int length_fixed (kind_of_expr elements values a) k h
  layer_sound (Expr-F.Starts a b) k h = two_fixed prefix_kind Flag prefix_fixed (kind_of_expr elements values a) (kind_of_expr elements values b) k h

  -- a typed expression has a value of its kind
  pub value_of_sound : (e : Expr) (k : Kind) → kind_of_expr elements values e ≡ Some k → kind_of_datum (value_of e x) ≡ k
  value_of_sound e k h =
      let l = out-Expr e in
      let valued : value_of e x ≡ value_step x (found l) = ap (λ f. value_of f x) (sym (roll-out-Expr e)) ∙ fold-roll-Expr Datum (value_step x) l in
      let typed : kind_of_expr elements values e ≡ kind_step elements values (kinds l) =
      ap (kind_of_expr elements values) (sym (roll-out-Expr e)) ∙ fold-roll-Expr (Option Kind) (kind_step elements values) l in
      ap kind_of_datum valued ∙ layer_sound l k (sym typed ∙ h)

-- kinds that pass the test of sameness are equal
same_kind-exact : (a b : Kind) → same_kind a b ≡ true → a ≡ b
same_kind-exact Entry Entry h = refl
same_kind-exact Int Int h = refl
same_kind-exact Text Text h = refl
same_kind-exact Flag Flag h = refl
same_kind-exact _ _ h = absurd (true≢false (sym h))

-- an expression that passes the test of a kind has the kind
has_kind-exact : (elements kind : Kind) (values : ValueKind) (e : Expr) → has_kind elements values kind e ≡ true → kind_of_expr elements values e ≡ Some kind
has_kind-exact elements kind values e h = by (kind_of_expr elements values e) refl
  where
    by : (o : Option Kind) → kind_of_expr elements values e ≡ o → kind_of_expr elements values e ≡ Some kind
    by None k =
        let no : has_kind elements values kind e ≡ false = rw k refl in
        absurd (true≢false (sym h ∙ no))
    by (Some other) k =
        let yes : has_kind elements values kind e ≡ same_kind kind other = rw k refl in
        k ∙ ap (λ j. Some j) (sym (same_kind-exact kind other (sym yes ∙ h)))

-- elements of a kind that pass a test are of that kind
all_filter : (values : ValueKind) (k : Kind) (p : Item → Bool) (xs : List Item) → AreOfKind values k xs → AreOfKind values k (filter p xs)
all_filter values k p [] h = tt
all_filter values k p (x ∷ xs) h = by (p x) (all_filter values k p xs h.1)
  where
    by : (b : Bool) → AreOfKind values k (filter p xs) → AreOfKind values k (cond b (x ∷ filter p xs) (filter p xs))
    by true rest = (h.0, rest)
    by false rest = rest

-- two lists of a kind are of it together
all_append : (values : ValueKind) (k : Kind) (xs ys : List Item) → AreOfKind values k xs → AreOfKind values k ys → AreOfKind values k (xs ++ ys)
all_append values k [] ys p q = q
all_append values k (x ∷ xs) ys p q = (p.0, all_append values k xs ys p.1 q)

-- distinct elements of a kind are of it
all_distinct : (values : ValueKind) (k : Kind) (xs : List Item) → AreOfKind values k xs → AreOfKind values k (distinct xs)
all_distinct values k [] h = tt
all_distinct values k (x ∷ xs) h = (h.0, all_filter values k _ (distinct xs) (all_distinct values k xs h.1))

-- the values of an expression of a kind are of it
all_map : (values : ValueKind) (elements k : Kind) (e : Expr) → kind_of_expr elements values e ≡ Some k → (xs : List Item) → AreOfKind values elements xs → AreOfKind values k (map (λ x. items.Datum (value_of e x)) xs)
all_map values elements k e t [] h = tt
all_map values elements k e t (x ∷ xs) h = (at_kind values k (value_of e x) (value_of_sound values elements x h.0 e k t), all_map values elements k e t xs h.1)

-- the values of expressions of one kind at an element are of it
all_each : (values : ValueKind) (elements k : Kind) (x : Item) → IsOfKind values elements x → (es : List Expr) → list_all (has_kind elements values k) es ≡ true → AreOfKind values k (map (λ e. items.Datum (value_of e x)) es)
all_each values elements k x is [] h = tt
all_each values elements k x is (e ∷ es) h = (
  at_kind values k (value_of e x) (value_of_sound values elements x is e k (has_kind-exact elements k values e (first_so (has_kind elements values k e) _ h))),
  all_each values elements k x is es (second_so (has_kind elements values k e) _ h),
)

-- the words of a text are texts
all_words : (values : ValueKind) (ts : List (List ℕ)) → AreOfKind values Text (map (λ word. items.Datum (datum.Text word)) ts)
all_words values [] = tt
all_words values (t ∷ ts) = (refl, all_words values ts)

-- where a test gives a kind, the test is true and it is that kind
only : (b : Bool) (kind k : Kind) → only_if b kind ≡ Some k → (b ≡ true) × (kind ≡ k)
only true kind k h = (refl, some_same kind k h)
only false kind k h = absurd (no_kind k h)

-- a kind that follows from another follows from one that is there
and_then_some : (o : Option Kind) (f : Kind → Option Kind) (k : Kind) → option_and_then f o ≡ Some k → (j : Kind) × (o ≡ Some j) × (f j ≡ Some k)
and_then_some None f k h = absurd (no_kind k h)
and_then_some (Some j) f k h = (j, refl, h)

-- what a flatmap makes of an element has its kind
spread_sound : (values : ValueKind) (elements k : Kind) (x : Item) → IsOfKind values elements x → (s : Spread) → spread_kind elements values s ≡ Some k → AreOfKind values k (spread_items s x)
spread_sound values elements k x is (Each list) h =
    let got = and_then_some (kind_of_expr elements values list.first) (λ kind. only_if (list_all (has_kind elements values kind) list.rest) kind) k h in
    let all = only (list_all (has_kind elements values got.0) list.rest) got.0 k got.2 in
    let P : Kind → Type 0 = λ i. AreOfKind values i (spread_items (Each list) x) in
    subst P all.1
    (at_kind values got.0 (value_of list.first x) (value_of_sound values elements x is list.first got.0 got.1), all_each values elements got.0 x is list.rest all.0)
spread_sound values elements k x is (Words e) h =
    let P : Kind → Type 0 = λ i. AreOfKind values i (spread_items (Words e) x) in
    subst P (only (has_kind elements values Text e) Text k h).1 (all_words values (words (bytes_of (value_of e x))))

-- and so has what it makes of a list
all_flat : (values : ValueKind) (elements k : Kind) (s : Spread) → spread_kind elements values s ≡ Some k → (xs : List Item) → AreOfKind values elements xs → AreOfKind values k (flat_map (spread_items s) xs)
all_flat values elements k s h [] a = tt
all_flat values elements k s h (x ∷ xs) a =
    all_append values k (spread_items s x) (flat_map (spread_items s) xs) (spread_sound values elements k x a.0 s h) (all_flat values elements k s h xs a.1)

-- what a typed operation makes has the kind behind it
op_sound : (values : ValueKind) (elements k : Kind) (o : Op) (xs : List Item) → op_kind values elements o ≡ Some k → AreOfKind values elements xs → AreOfKind values k (op_items o xs)
op_sound values elements k (Filter e) xs h a =
    let P : Kind → Type 0 = λ i. AreOfKind values i (op_items (Filter e) xs) in
    subst P (only (has_kind elements values Flag e) elements k h).1 (all_filter values elements (λ x. is_on (value_of e x)) xs a)
op_sound values elements k (Map e) xs h a = all_map values elements k e h xs a
op_sound values elements k (FlatMap s) xs h a = all_flat values elements k s h xs a
op_sound values elements k Distinct xs h a =
    let P : Kind → Type 0 = λ i. AreOfKind values i (op_items Distinct xs) in
    subst P (some_same elements k h) (all_distinct values elements xs a)

-- so it is for several operations in turn
pub ops_sound : (values : ValueKind) (elements k : Kind) (ops : List Op) (xs : List Item) → kind_through values elements ops ≡ Some k → AreOfKind values elements xs → AreOfKind values k (ops_items ops xs)
ops_sound values elements k [] xs h a =
    let P : Kind → Type 0 = λ i. AreOfKind values i xs in
    subst P (some_same elements k h) a
ops_sound values elements k (o ∷ ops) xs h a =
    let got = and_then_some (op_kind values elements o) (λ next. kind_through values next ops) k h in
    ops_sound values got.0 k ops (op_items o xs) got.2 (op_sound values elements got.0 o xs got.1 a)

-- a best, if there is one, has a kind
abbrev IsBestOf : Kind → Option Datum → Type 0
IsBestOf k None = Unit {0}
IsBestOf k (Some d) = kind_of_datum d ≡ k

-- the better of two values of a kind is of it
better_is : (k : Kind) (rule : Datum → Datum → Datum) → Chooses rule → (a b : Option Datum) → IsBestOf k a → IsBestOf k b → IsBestOf k (either_by rule a b)
better_is k rule chooses None b p q = q
better_is k rule chooses (Some a) None p q = p
better_is k rule chooses (Some a) (Some b) p q = elim (chooses a b) [ inl e ↦ ap kind_of_datum e ∙ p | inr e ↦ ap kind_of_datum e ∙ q ]

module _ (values : ValueKind) (k : Kind) (seen : (x : Item) → IsOfKind values k x → kind_of_datum (datum_of x) ≡ k) where
  -- the least element of a kind is of it
  least_is : (xs : List Item) → AreOfKind values k xs → IsBestOf k (least xs)
  least_is [] a = tt
  least_is (x ∷ xs) a = better_is k (ord_min datum_cmp) least_chooses (Some (datum_of x)) (least xs) (seen x a.0) (least_is xs a.1)

  -- the greatest element of a kind is of it
  greatest_is : (xs : List Item) → AreOfKind values k xs → IsBestOf k (greatest xs)
  greatest_is [] a = tt
  greatest_is (x ∷ xs) a = better_is k (ord_max datum_cmp) greatest_chooses (Some (datum_of x)) (greatest xs) (seen x a.0) (greatest_is xs a.1)

-- an element of ints is an int
seen_int : (values : ValueKind) (x : Item) → IsOfKind values Int x → kind_of_datum (datum_of x) ≡ Int
seen_int values (items.Entry entry) is = absurd is
seen_int values (items.Datum d) is = is

-- an element of texts is a text
seen_text : (values : ValueKind) (x : Item) → IsOfKind values Text x → kind_of_datum (datum_of x) ≡ Text
seen_text values (items.Entry entry) is = absurd is
seen_text values (items.Datum d) is = is

-- two ints, or none, may be compared
ints_compare : (a b : Option Datum) → IsBestOf Int a → IsBestOf Int b → comparable a b ≡ true
ints_compare None b p q = refl
ints_compare (Some a) None p q = refl
ints_compare (Some (datum.Int m)) (Some (datum.Int n)) p q = refl
ints_compare (Some (datum.Int m)) (Some (datum.Text t)) p q = cc
ints_compare (Some (datum.Int m)) (Some (datum.Flag b)) p q = cc
ints_compare (Some (datum.Text s)) (Some b) p q = cc
ints_compare (Some (datum.Flag c)) (Some b) p q = cc

-- two texts, or none, may be compared
texts_compare : (a b : Option Datum) → IsBestOf Text a → IsBestOf Text b → comparable a b ≡ true
texts_compare None b p q = refl
texts_compare (Some a) None p q = refl
texts_compare (Some (datum.Text s)) (Some (datum.Text t)) p q = refl
texts_compare (Some (datum.Text s)) (Some (datum.Int n)) p q = cc
texts_compare (Some (datum.Text s)) (Some (datum.Flag b)) p q = cc
texts_compare (Some (datum.Int m)) (Some b) p q = cc
texts_compare (Some (datum.Flag c)) (Some b) p q = cc

-- the least ones of two typed lists may be compared
leasts_fit : (values : ValueKind) (k : Kind) (xs ys : List Item) → end_takes end.Min k ≡ true → AreOfKind values k xs → AreOfKind values k ys → comparable (least xs) (least ys) ≡ true
leasts_fit values Entry xs ys h a b = absurd (true≢false (sym h))
leasts_fit values Int xs ys h a b = ints_compare (least xs) (least ys) (least_is values Int (seen_int values) xs a) (least_is values Int (seen_int values) ys b)
leasts_fit values Text xs ys h a b = texts_compare (least xs) (least ys) (least_is values Text (seen_text values) xs a) (least_is values Text (seen_text values) ys b)
leasts_fit values Flag xs ys h a b = absurd (true≢false (sym h))

-- the greatest ones of two typed lists may be compared
greatests_fit : (values : ValueKind) (k : Kind) (xs ys : List Item) → end_takes end.Max k ≡ true → AreOfKind values k xs → AreOfKind values k ys → comparable (greatest xs) (greatest ys) ≡ true
greatests_fit values Entry xs ys h a b = absurd (true≢false (sym h))
greatests_fit values Int xs ys h a b = ints_compare (greatest xs) (greatest ys) (greatest_is values Int (seen_int values) xs a) (greatest_is values Int (seen_int values) ys b)
greatests_fit values Text xs ys h a b = texts_compare (greatest xs) (greatest ys) (greatest_is values Text (seen_text values) xs a) (greatest_is values Text (seen_text values) ys b)
greatests_fit values Flag xs ys h a b = absurd (true≢false (sym h))

-- so what the end keeps of two typed lists fits
ends_fit : (values : ValueKind) (k : Kind) (last : End) (xs ys : List Item) → end_takes last k ≡ true → AreOfKind values k xs → AreOfKind values k ys → nat_lt (length xs + length ys) (2 ^ 64) ≡ true → fitting (kept_by (Some last) xs) (kept_by (Some last) ys) ≡ true
ends_fit values k end.Count xs ys h a b few = few
ends_fit values k end.Sum xs ys h a b few = refl
ends_fit values k end.Min xs ys h a b few = leasts_fit values k xs ys h a b
ends_fit values k end.Max xs ys h a b few = greatests_fit values k xs ys h a b
ends_fit values k end.Collect xs ys h a b few = refl
ends_fit values k end.Each xs ys h a b few = refl

-- the pieces of a typed pipeline fit, as long as they can be counted
pub typed_pieces_fit : (p : Pipeline) (values : ValueKind) (k : Kind) (first more : List base.Entry) → Typed p values k → HaveValuesOf values first → HaveValuesOf values more → nat_lt (length (pipe_items p first) + length (pipe_items p more)) (2 ^ 64) ≡ true → fitting (piece (remote_of p) first) (piece (remote_of p) more) ≡ true
typed_pieces_fit p values k first more typed a b few = by (list_any is_distinct p.ops) refl
  where
    kinds : kind_through values Entry p.ops ≡ Some k
    kinds = ap (kind_through values Entry) (sym (take_all (length p.ops) p.ops (omega arith))) ∙ typed.0.kind

    by : (x : Bool) → list_any is_distinct p.ops ≡ x → fitting (piece (remote_of p) first) (piece (remote_of p) more) ≡ true
    by true h = ap (λ x. fitting (kept_by (cond x None (Some p.end)) (ops_items (before_distinct p.ops) (as_items first))) (kept_by (cond x None (Some p.end)) (ops_items (before_distinct p.ops) (as_items more)))) h
    by false h =
        ap (λ x. fitting (kept_by (cond x None (Some p.end)) (ops_items (before_distinct p.ops) (as_items first))) (kept_by (cond x None (Some p.end)) (ops_items (before_distinct p.ops) (as_items more)))) h
        ∙ ap (λ ops. fitting (kept_by (Some p.end) (ops_items ops (as_items first))) (kept_by (Some p.end) (ops_items ops (as_items more)))) (none_before p.ops h)
        ∙ ends_fit values k p.end (pipe_items p first) (pipe_items p more) typed.1 (ops_sound values Entry k p.ops (as_items first) kinds a) (ops_sound values Entry k p.ops (as_items more) kinds b) few
