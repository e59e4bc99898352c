-- The steps of a check, operation by operation.
use Rattle.std.proofs.Common.{◌≡◌, ℕ, suc, ◌+◌, ◌<◌, ◌≤◌, Bool, true, false, ◌||◌, ◌&&◌, cond, List, [], ◌∷◌, ◌++◌, length, get_or, take, drop, Option, Some, None, Ok, Err, refl, sym, ap, ◌∙◌, subst, arith, is_some, slice_get, nat_le, ◌⊎◌, inl, inr}
use Rattle.std.proofs.lemmas.Bool.{cases_lt}
use Rattle.std.proofs.lemmas.List.{drop_all, take_at, append-nil, append_assoc, length-append, drop_more, take_more, length-take-le}
use Rattle.std.proofs.lemmas.Bool.Decides.{nat_tests}
use Rattle.std.specs.List.{list_any}
use Rattle.std.proofs.lemmas.List.Folds.{list_any-append}
use Rattle.pipeline_expr.specs.Kinds.{◌>>=◌}
use Rattle.pipeline_expr.specs.Typing.{Stands, Tells, checked, checked_from, end_takes, is_flatmap, is_long, is_over, is_over_at, kind_through, next_or, op_kind}
use Rattle.pipeline_expr.specs.declared.kind.Kind.{Kind}
use Rattle.pipeline_expr.specs.declared.kind.Kind.TheVariants.{Entry}
use Rattle.pipeline_expr.specs.declared.kind.ValueKind.{ValueKind}
use Rattle.pipeline_expr.specs.declared.op.Op.{Op}
use Rattle.pipeline_expr.specs.declared.end.End.{End}
use Rattle.pipeline_expr.specs.declared.pipeline.Pipeline.{Pipeline}
use Rattle.pipeline_expr.specs.declared.check_fault.CheckFault.TheVariants.{Over, Mistyped}

-- a test of one element
or_false : (b : Bool) → (b || false) ≡ b
or_false true = refl
or_false false = refl

-- what is left of the operations begins with the one at hand
behind : (ops : List Op) (i : ℕ) (o : Op) → i < length ops → o ≡ get_or ops i o → drop i ops ≡ o ∷ drop (i + 1) ops
behind ops i o lt is = drop_more ops i o lt ∙ ap (λ x. x ∷ drop (i + 1) ops) (sym is)

module _ (values : ValueKind) (last : End) (ops : List Op) (i : ℕ) (o : Op) (elements : Kind) (lt : i < length ops) (is : o ≡ get_or ops i o) where
  -- so many operations come before the one at hand
  taken : length (take i ops) ≡ i
  taken = length-take-le i ops (omega arith)

  -- the operation at hand is past a limit
  pub check_over : is_over (take i ops) o ≡ true → checked_from values last (take i ops) elements (drop i ops) ≡ Err (Over i)
  check_over over =
      ap (checked_from values last (take i ops) elements) (behind ops i o lt is)
      ∙ ap (λ b. cond b (Err (Over (length (take i ops)))) (next_or (op_kind values elements o) (length (take i ops)) (λ next. checked_from values last (take i ops ++ o ∷ []) next (drop (i + 1) ops)))) over
      ∙ ap (λ n. Err (Over n)) taken

  -- its need isn't met
  pub check_mistyped : is_over (take i ops) o ≡ false → op_kind values elements o ≡ None → checked_from values last (take i ops) elements (drop i ops) ≡ Err (Mistyped i)
  check_mistyped over none =
      ap (checked_from values last (take i ops) elements) (behind ops i o lt is)
      ∙ ap (λ b. cond b (Err (Over (length (take i ops)))) (next_or (op_kind values elements o) (length (take i ops)) (λ next. checked_from values last (take i ops ++ o ∷ []) next (drop (i + 1) ops)))) over
      ∙ ap (λ k. next_or k (length (take i ops)) (λ next. checked_from values last (take i ops ++ o ∷ []) next (drop (i + 1) ops))) none
      ∙ ap (λ n. Err (Mistyped n)) taken

  -- the check goes on behind it
  pub check_next : (next : Kind) → is_over (take i ops) o ≡ false → op_kind values elements o ≡ Some next
      → checked_from values last (take i ops) elements (drop i ops) ≡ checked_from values last (take (i + 1) ops) next (drop (i + 1) ops)
  check_next next over some =
      ap (checked_from values last (take i ops) elements) (behind ops i o lt is)
      ∙ ap (λ b. cond b (Err (Over (length (take i ops)))) (next_or (op_kind values elements o) (length (take i ops)) (λ next. checked_from values last (take i ops ++ o ∷ []) next (drop (i + 1) ops)))) over
      ∙ ap (λ k. next_or k (length (take i ops)) (λ next. checked_from values last (take i ops ++ o ∷ []) next (drop (i + 1) ops))) some
      ∙ ap (λ before. checked_from values last before next (drop (i + 1) ops)) (ap (λ x. take i ops ++ x ∷ []) is ∙ sym (take_more ops i o lt))

  -- the test of the limits, by place and by whether a flatmap came before
  pub over_at : (has : Bool) → has ≡ list_any is_flatmap (take i ops) → (over : Bool) → over ≡ (nat_le 8 i || ((is_flatmap o && has) || is_long o)) → is_over (take i ops) o ≡ over
  over_at has e over f =
      ap (λ n. nat_le 8 n || ((is_flatmap o && list_any is_flatmap (take i ops)) || is_long o)) taken
      ∙ ap (λ b. nat_le 8 i || ((is_flatmap o && b) || is_long o)) (sym e)
      ∙ sym f

  -- whether there is a flatmap among the operations, with the one at hand
  pub any_more : (has : Bool) → has ≡ list_any is_flatmap (take i ops) → (has || is_flatmap o) ≡ list_any is_flatmap (take (i + 1) ops)
  any_more has e =
      ap (λ b. b || is_flatmap o) e
      ∙ sym (ap (list_any is_flatmap) (take_more ops i o lt ∙ ap (λ x. take i ops ++ x ∷ []) (sym is))
      ∙ list_any-append is_flatmap (take i ops) (o ∷ [])
      ∙ ap (λ b. list_any is_flatmap (take i ops) || b) (or_false (is_flatmap o)))

-- behind the last operation stands the end
pub check_end : (values : ValueKind) (last : End) (before ops : List Op) (i : ℕ) (elements : Kind) → length ops ≤ i
    → checked_from values last before elements (drop i ops) ≡ cond (end_takes last elements) (Ok elements) (Err (Mistyped (length before)))
check_end values last before ops i elements le = ap (checked_from values last before elements) (drop_all i ops le)

-- the ninth operation is past a limit
pub few_more : (i : ℕ) (rest : Bool) → (nat_le 8 i || rest) ≡ false → i + 1 ≤ 8
few_more i rest e = grind (arith, nat_tests)

-- the kind behind two runs of operations
kind_through-append : (values : ValueKind) (elements : Kind) (first second : List Op)
    → kind_through values elements (first ++ second) ≡ kind_through values elements first >>= (λ kind. kind_through values kind second)
kind_through-append values elements [] second = refl
kind_through-append values elements (o ∷ ops) second = elim (op_kind values elements o) as (λ k. (k >>= (λ kind. kind_through values kind (ops ++ second))) ≡ ((k >>= (λ kind. kind_through values kind ops)) >>= (λ kind. kind_through values kind second))) [
  | None ↦ refl
  | Some kind ↦ kind_through-append values kind ops second
]

-- the element behind a front is found at the length of the front
slice_get_at : {X : Type 0} (before : List X) (o : X) (rest : List X) → slice_get (before ++ o ∷ rest) (length before) ≡ Some o
slice_get_at [] o rest = refl
slice_get_at (x ∷ before) o rest = slice_get_at before o rest

-- nothing is found at the length of a list
slice_get_end : {X : Type 0} (xs : List X) → slice_get xs (length xs) ≡ None
slice_get_end [] = refl
slice_get_end (x ∷ xs) = slice_get_end xs

-- the operation behind those before, as the one at its place
over_place : (before : List Op) (o : Op) (rest : List Op) → is_over_at (before ++ o ∷ rest) (length before) ≡ is_over before o
over_place before o rest = rw (slice_get_at before o rest, take_at before (o ∷ rest) (length before) refl) refl

-- a number up to another is below it or is it
split_last : (k n : ℕ) → k < suc n → (k < n) ⊎ (k ≡ n)
split_last k n h = elim (cases_lt k n) [ inl lt ↦ inl lt | inr ge ↦ inr (omega arith) ]

-- a front with one element more is the front and that element
take_next : {X : Type 0} (before : List X) (o : X) (rest : List X) → take (suc (length before)) (before ++ o ∷ rest) ≡ before ++ o ∷ []
take_next [] o rest = refl
take_next (x ∷ before) o rest = ap (λ xs. x ∷ xs) (take_next before o rest)

-- a pipeline of its operations and its end
abbrev whole : List Op → End → Pipeline
whole ops last = record { ops = ops; end = last }

module _ (values : ValueKind) (last : End) where
  -- one more operation is passed
  stands_next : (before : List Op) (o : Op) (rest : List Op) (elements kind : Kind) → Stands (whole (before ++ o ∷ rest) last) values (length before) elements
      → is_over before o ≡ false → op_kind values elements o ≡ Some kind → Stands (whole (before ++ o ∷ rest) last) values (suc (length before)) kind
  stands_next before o rest elements kind so_far over some = record {
    within = λ k h. elim (split_last k (length before) h) [
      | inl below ↦ so_far.within k below
      | inr e ↦ ap (is_over_at (before ++ o ∷ rest)) e ∙ over_place before o rest ∙ over
    ];
    kind =
        let front : take (suc (length before)) (before ++ o ∷ rest) ≡ before ++ o ∷ [] = take_next before o rest in
        let so : kind_through values Entry before ≡ Some elements = ap (kind_through values Entry) (sym (take_at before (o ∷ rest) (length before) refl)) ∙ so_far.kind in
        ap (kind_through values Entry) front
        ∙ kind_through-append values Entry before (o ∷ [])
        ∙ ap (λ k. k >>= (λ kind. kind_through values kind (o ∷ []))) so
        ∙ ap (λ k. k >>= (λ kind. Some kind)) some;
  }

  -- so much is so of some operations, whatever comes before them
  abbrev Goes : List Op → Type 0
  Goes rest =
      (before : List Op) (kind : Kind) → Stands (whole (before ++ rest) last) values (length before) kind → Tells (whole (before ++ rest) last) values (checked_from values last before kind rest)

  -- what the check of the rest tells is so of the whole
  told : (rest before : List Op) (elements : Kind) → Stands (whole (before ++ rest) last) values (length before) elements
      → Tells (whole (before ++ rest) last) values (checked_from values last before elements rest)
  told [] before elements so_far =
      let all : before ++ [] ≡ before = append-nil before in
      go (end_takes last elements) refl
    where
      go : (b : Bool) → end_takes last elements ≡ b → Tells (whole (before ++ []) last) values (cond b (Ok elements) (Err (Mistyped (length before))))
      go true e = (subst (λ n. Stands (whole (before ++ []) last) values n elements) (sym (ap length (append-nil before))) so_far, e)
      go false e = (
        elements,
        so_far,
        rw (append-nil, slice_get_end before) refl,
        rw (append-nil, slice_get_end before) e,
      )
  told (o ∷ rest) before elements so_far = go (told rest) (is_over before o) refl
    where
      next : Goes rest → (k : Option Kind) → is_over before o ≡ false → op_kind values elements o ≡ k
          → Tells (whole (before ++ o ∷ rest) last) values (next_or k (length before) (λ kind. checked_from values last (before ++ o ∷ []) kind rest))
      next on None over none = (elements, so_far, over_place before o rest ∙ over, rw (slice_get_at before o rest) (ap is_some none))
      next on (Some kind) over some =
          let one : (before ++ o ∷ []) ++ rest ≡ before ++ o ∷ rest = append_assoc before (o ∷ []) rest in
          let passed = stands_next before o rest elements kind so_far over some in
          let count : suc (length before) ≡ length (before ++ o ∷ []) = simp length-append (omega arith) in
          let there = subst (λ ops. Stands (whole ops last) values (length (before ++ o ∷ [])) kind) (sym one) (subst (λ n. Stands (whole (before ++ o ∷ rest) last) values n kind) count passed) in
          subst (λ ops. Tells (whole ops last) values (checked_from values last (before ++ o ∷ []) kind rest)) one (on (before ++ o ∷ []) kind there)

      go : Goes rest → (b : Bool) → is_over before o ≡ b
          → Tells (whole (before ++ o ∷ rest) last) values (cond b (Err (Over (length before))) (next_or (op_kind values elements o) (length before) (λ kind. checked_from values last (before ++ o ∷ []) kind rest)))
      go on true e = (elements, so_far, over_place before o rest ∙ e)
      go on false e = next on (op_kind values elements o) e refl

-- a check tells the kind before the end, or the first fault
pub checked_tells : (p : Pipeline) (values : ValueKind) → Tells p values (checked p values)
unfolding checked
checked_tells p values = told values p.end p.ops [] Entry (record { within = λ k h. absurd (omega arith); kind = refl })
