-- The halves of a pipeline make the plain pipeline, and the pieces of a remote half join.
use Rattle.std.proofs.Common.{◌≡◌, Bool, true, false, cond, ◌||◌, List, [], ◌∷◌, ◌++◌, Option, Some, None, refl, sym, ◌∙◌, ap, true≢false, length-append, append_assoc}
use Rattle.std.specs.List.{list_any}
use Rattle.std.proofs.lemmas.List.{map-append}
use Rattle.std.proofs.lemmas.List.Concat.{flat_map-append}
use Rattle.std.proofs.lemmas.List.Elements.{filter-append}
use Rattle.grid_base.specs.declared.entry.Entry.{Entry}
use Rattle.grid_base.specs.declared.item.Item.{Item}
use Rattle.grid_base.specs.declared.item.Item.TheVariants as items
use Rattle.pipeline_expr.specs.declared.end.End.{End}
use Rattle.pipeline_expr.specs.declared.end.End.TheVariants as end
use Rattle.pipeline_expr.specs.declared.op.Op.{Op}
use Rattle.pipeline_expr.specs.declared.op.Op.TheVariants.{Filter, Map, FlatMap, Distinct}
use Rattle.pipeline_expr.specs.declared.pipeline.Pipeline.{Pipeline}
use Rattle.pipeline_eval.specs.Values.{is_on}
use Rattle.pipeline_eval.specs.Evaluation.{value_of}
use Rattle.pipeline_eval.specs.Pipes.{spread_items, op_items, ops_items, end_answer, as_items, pipe}
use Rattle.pipeline_eval.proofs.ListLemmas.{wrapped-total-append, least-append, greatest-append}
use Rattle.pipeline_split.specs.Halves.{is_distinct, before_distinct, from_distinct, remote_of, local_of}
use Rattle.pipeline_split.specs.Pieces.{kept_by, piece, finished, joined}
use Rattle.pipeline_split.specs.declared.piece.Piece.TheVariants.{Nothing, Count, Sum, Min, Max}

-- the operations before the first distinct, and then it and those behind it, are all operations
ops_in_two : (ops : List Op) (xs : List Item) → ops_items (from_distinct ops) (ops_items (before_distinct ops) xs) ≡ ops_items ops xs
ops_in_two [] xs = refl
ops_in_two (Filter e ∷ ops) xs = ops_in_two ops (op_items (Filter e) xs)
ops_in_two (Map e ∷ ops) xs = ops_in_two ops (op_items (Map e) xs)
ops_in_two (FlatMap spread ∷ ops) xs = ops_in_two ops (op_items (FlatMap spread) xs)
ops_in_two (Distinct ∷ ops) xs = refl

-- where there is no distinct, the first half is all
pub none_before : (ops : List Op) → list_any is_distinct ops ≡ false → before_distinct ops ≡ ops
none_before [] h = refl
none_before (Filter e ∷ ops) h = ap (λ os. Filter e ∷ os) (none_before ops h)
none_before (Map e ∷ ops) h = ap (λ os. Map e ∷ os) (none_before ops h)
none_before (FlatMap spread ∷ ops) h = ap (λ os. FlatMap spread ∷ os) (none_before ops h)
none_before (Distinct ∷ ops) h = absurd (true≢false h)

-- without a distinct nothing is behind it
none_behind : (ops : List Op) → list_any is_distinct ops ≡ false → from_distinct ops ≡ []
none_behind [] h = refl
none_behind (Filter e ∷ ops) h = none_behind ops h
none_behind (Map e ∷ ops) h = none_behind ops h
none_behind (FlatMap spread ∷ ops) h = none_behind ops h
none_behind (Distinct ∷ ops) h = absurd (true≢false h)

-- an end that is given to both halves answers as it does alone
end_kept : (last : End) (ops : List Op) (xs : List Item) → ops ≡ [] → finished (record { ops = ops; end = last }) (kept_by (Some last) xs) ≡ end_answer last xs
end_kept end.Count ops xs e = refl
end_kept end.Sum ops xs e = refl
end_kept end.Min ops xs e = refl
end_kept end.Max ops xs e = refl
end_kept end.Collect ops xs e = ap (λ os. end_answer end.Collect (ops_items os xs)) e
end_kept end.Each ops xs e = ap (λ os. end_answer end.Each (ops_items os xs)) e

-- finishing the piece of a list of entries is the plain pipeline
pub finished-piece : (p : Pipeline) (entries : List Entry) → finished (local_of p) (piece (remote_of p) entries) ≡ pipe p entries
finished-piece p entries = by (list_any is_distinct p.ops) refl
  where
    left : List Item
    left = ops_items (before_distinct p.ops) (as_items entries)

    by : (b : Bool) → list_any is_distinct p.ops ≡ b → finished (local_of p) (kept_by (cond (list_any is_distinct p.ops) None (Some p.end)) left) ≡ pipe p entries
    by true h =
        ap (λ b. finished (local_of p) (kept_by (cond b None (Some p.end)) left)) h
        ∙ ap (end_answer p.end) (ops_in_two p.ops (as_items entries))
    by false h =
        ap (λ b. finished (local_of p) (kept_by (cond b None (Some p.end)) left)) h
        ∙ end_kept p.end (from_distinct p.ops) left (none_behind p.ops h)
        ∙ ap (λ os. end_answer p.end (ops_items os (as_items entries))) (none_before p.ops h)

-- Nothing is finished as the piece of no entries
pub finished_nothing : (p : Pipeline) → finished (local_of p) Nothing ≡ pipe p []
finished_nothing p = ap (end_answer p.end) (ap (ops_items (from_distinct p.ops)) (sym (ops_none (before_distinct p.ops))) ∙ ops_in_two p.ops [])
  where
    op_none : (o : Op) → op_items o [] ≡ []
    op_none (Filter e) = refl
    op_none (Map e) = refl
    op_none (FlatMap spread) = refl
    op_none Distinct = refl

    ops_none : (ops : List Op) → ops_items ops [] ≡ []
    ops_none [] = refl
    ops_none (o ∷ ops) = ap (ops_items ops) (op_none o) ∙ ops_none ops

-- operations other than distinct work on two lists joined as on each
before-append : (ops : List Op) (xs ys : List Item) → ops_items (before_distinct ops) (xs ++ ys) ≡ ops_items (before_distinct ops) xs ++ ops_items (before_distinct ops) ys
before-append [] xs ys = refl
before-append (Filter e ∷ ops) xs ys =
    ap (ops_items (before_distinct ops)) (filter-append (λ x. is_on (value_of e x)) xs ys)
    ∙ before-append ops (op_items (Filter e) xs) (op_items (Filter e) ys)
before-append (Map e ∷ ops) xs ys =
    ap (ops_items (before_distinct ops)) (map-append (λ x. items.Datum (value_of e x)) xs ys)
    ∙ before-append ops (op_items (Map e) xs) (op_items (Map e) ys)
before-append (FlatMap spread ∷ ops) xs ys =
    ap (ops_items (before_distinct ops)) (flat_map-append (spread_items spread) xs ys)
    ∙ before-append ops (op_items (FlatMap spread) xs) (op_items (FlatMap spread) ys)
before-append (Distinct ∷ ops) xs ys = refl

-- what an end keeps of two lists joined is the join of what it keeps of each
kept-append : (last : Option End) (xs ys : List Item) → kept_by last (xs ++ ys) ≡ joined (kept_by last xs) (kept_by last ys)
kept-append None xs ys = refl
kept-append (Some end.Count) xs ys = ap (λ n. Count n) (length-append xs ys)
kept-append (Some end.Sum) xs ys = ap (λ n. Sum n) (wrapped-total-append xs ys)
kept-append (Some end.Min) xs ys = ap (λ best. Min best) (least-append xs ys)
kept-append (Some end.Max) xs ys = ap (λ best. Max best) (greatest-append xs ys)
kept-append (Some end.Collect) xs ys = refl
kept-append (Some end.Each) xs ys = refl

-- the piece of two lists of entries joined is the join of their pieces
pub piece-append : (p : Pipeline) (first more : List Entry) → piece (remote_of p) (first ++ more) ≡ joined (piece (remote_of p) first) (piece (remote_of p) more)
piece-append p first more =
    let last = (remote_of p).end in
    ap (λ xs. kept_by last (ops_items (before_distinct p.ops) xs)) (map-append (λ entry. items.Entry entry) first more)
    ∙ ap (kept_by last) (before-append p.ops (as_items first) (as_items more))
    ∙ kept-append last (ops_items (before_distinct p.ops) (as_items first)) (ops_items (before_distinct p.ops) (as_items more))

-- the search for the first distinct: another operation is passed
pub passed : (before : List Op) (o : Op) (rest : List Op) → is_distinct o ≡ false → before ++ before_distinct (o ∷ rest) ≡ (before ++ o ∷ []) ++ before_distinct rest
passed before o rest h =
    ap (λ b. before ++ cond b [] (o ∷ before_distinct rest)) h ∙ sym (append_assoc before (o ∷ []) (before_distinct rest))

-- or it is found
pub found : (o : Op) (rest : List Op) → is_distinct o ≡ true → (before_distinct (o ∷ rest) ≡ []) × (from_distinct (o ∷ rest) ≡ o ∷ rest) × (list_any is_distinct (o ∷ rest) ≡ true)
found o rest h =
    (ap (λ b. cond b [] (o ∷ before_distinct rest)) h, ap (λ b. cond b (o ∷ rest) (from_distinct rest)) h, ap (λ b. b || list_any is_distinct rest) h)
