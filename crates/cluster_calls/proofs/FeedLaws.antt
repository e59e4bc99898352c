-- What a call's pipeline was fed of the entries taken.
use Rattle.std.proofs.Common.{◌≡◌, ◌≤◌, ℕ, ◌+◌, ◌-◌, List, [], ◌∷◌, ◌++◌, length, take, drop, refl, sym, ap, subst, ◌∙◌, arith, append_assoc, length-append, length-drop}
use Rattle.std.proofs.lemmas.List.{drop-map, length-map, map-append, take-append-drop, take-append-le, take_all}
use Rattle.std.proofs.Math.Seq.{drop-append-add}
use Rattle.grid_base.specs.declared.entry.Entry.{Entry}
use Rattle.grid_base.specs.declared.item.Item.{Item}
use Rattle.pipeline_eval.proofs.Growth.{pipe_items_grow}
use Rattle.pipeline_eval.specs.Pipes.{ops_items, pipe_items}
use Rattle.pipeline_expr.specs.declared.op.Op.{Op}
use Rattle.pipeline_expr.specs.declared.op.Op.TheVariants as op
use Rattle.pipeline_expr.specs.declared.pipeline.Pipeline.{Pipeline}
use Rattle.pipeline_feed.specs.Fed.{Elements, IsFed}
use Rattle.cluster_model.specs.State.{Taken}
use Rattle.cluster_calls.specs.Takings.{IsFollowing, entries_in, taken_in}

-- a pipeline makes nothing of no items
ops_nothing : (ops : List Op) → [] ≡ ops_items ops []
ops_nothing [] = refl
ops_nothing (op.Filter e ∷ ops) = ops_nothing ops
ops_nothing (op.Map e ∷ ops) = ops_nothing ops
ops_nothing (op.FlatMap spread ∷ ops) = ops_nothing ops
ops_nothing (op.Distinct ∷ ops) = ops_nothing ops

-- nothing was taken, and nothing fed
pub none_followed : (pipeline : Pipeline) (taken : List Taken) (feed : List Elements) → taken ≡ [] → IsFed feed pipeline.ops [] → IsFollowing pipeline taken 0 feed 0 0
none_followed pipeline taken feed none fed = record {
  within = omega arith;
  fed_with = fed;
  shown_of = ap length (ops_nothing pipeline.ops);
  given_of = ap length (ops_nothing pipeline.ops) ∙ ap (λ (t : List Taken). length (pipe_items pipeline (entries_in t))) (sym none);
}

-- the entries of what was taken on a segment are those entries
entries_of : (segment : ℕ) (entries : List Entry) → entries_in (taken_in segment entries) ≡ entries
entries_of segment [] = refl
entries_of segment (e ∷ entries) = ap (λ es. e ∷ es) (entries_of segment entries)

-- the entries of what is taken behind others
entries_more : (taken : List Taken) (segment : ℕ) (entries : List Entry) → entries_in (taken ++ taken_in segment entries) ≡ entries_in taken ++ entries
entries_more taken segment entries =
    map-append (λ (t : Taken). t.entry_of) taken (taken_in segment entries) ∙ ap (λ es. entries_in taken ++ es) (entries_of segment entries)

-- what is behind the first entries taken is the rest of them
pub rest_is : (fed : ℕ) (taken all : List Taken) → all ≡ taken → take (length all - fed) (drop fed all) ≡ drop fed taken
rest_is fed taken all same = take_all (length all - fed) (drop fed all) (omega (arith, length-drop fed all)) ∙ ap (drop fed) same

module _ (pipeline : Pipeline) (taken : List Taken) (given : ℕ) (feed : List Elements) (fed shown : ℕ) where
  -- no more items were shown than given
  pub shown_within : IsFollowing pipeline taken given feed fed shown → shown ≤ given
  shown_within h =
      let es : List Entry = entries_in taken in
      let grown = pipe_items_grow pipeline (take fed es) (drop fed es) in
      let all : length (pipe_items pipeline es) ≡ length (pipe_items pipeline (take fed es)) + length grown.0 =
      ap (λ l. length (pipe_items pipeline l)) (sym (take-append-drop fed es)) ∙ ap length grown.1 ∙ length-append (pipe_items pipeline (take fed es)) grown.0 in
      omega (arith, all, h.shown_of, h.given_of)

  -- what is left of what the pipeline makes of all that it wasn't fed are the further items
  pub further_is : IsFollowing pipeline taken given feed fed shown → (more unfed : List Entry) (made left : List Item) → unfed ≡ entries_in (drop fed taken) ++ more
      → ((before : List Entry) → IsFed feed pipeline.ops before → pipe_items pipeline (before ++ unfed) ≡ pipe_items pipeline before ++ made)
      → left ≡ drop (given - shown) made → left ≡ drop given (pipe_items pipeline (entries_in taken ++ more))
  further_is h more unfed made left rest gives is =
      let es : List Entry = entries_in taken in
      let first : List Entry = take fed es in
      let parts : es ++ more ≡ first ++ unfed =
      ap (λ l. l ++ more) (sym (take-append-drop fed es))
      ∙ append_assoc first (drop fed es) more
      ∙ ap (λ l. first ++ (l ++ more)) (drop-map (λ (t : Taken). t.entry_of) fed taken)
      ∙ ap (λ l. first ++ l) (sym rest) in
      let whole : pipe_items pipeline (es ++ more) ≡ pipe_items pipeline first ++ made = ap (pipe_items pipeline) parts ∙ gives first h.fed_with in
      let within : shown ≤ given = shown_within h in
      let count : length (pipe_items pipeline first) + (given - shown) ≡ given = omega (arith, within, h.shown_of) in
      is ∙ sym (drop-append-add (pipe_items pipeline first) made (given - shown)) ∙ (λ i. drop (count i) (sym whole i))

  -- all entries taken are fed
  pub all_followed : IsFollowing pipeline taken given feed fed shown → (unfed : List Entry) (after : List Elements) (many : ℕ) → unfed ≡ entries_in (drop fed taken) ++ [] → many ≡ length taken
      → ((before : List Entry) → IsFed feed pipeline.ops before → IsFed after pipeline.ops (before ++ unfed)) → IsFollowing pipeline taken given after many given
  all_followed h unfed after many rest all feeds =
      let es : List Entry = entries_in taken in
      let whole : take many es ≡ es = take_all many es (omega (arith, all, length-map taken (λ (t : Taken). t.entry_of))) in
      let parts : take fed es ++ unfed ≡ es =
      ap (λ l. take fed es ++ l) (rest ∙ append_nil (entries_in (drop fed taken)) ∙ sym (drop-map (λ (t : Taken). t.entry_of) fed taken)) ∙ take-append-drop fed es in
      record {
        within = omega (arith, all);
        fed_with = subst (IsFed after pipeline.ops) (parts ∙ sym whole) (feeds (take fed es) h.fed_with);
        shown_of = h.given_of ∙ ap (λ l. length (pipe_items pipeline l)) (sym whole);
        given_of = h.given_of;
      }
    where
      append_nil : (xs : List Entry) → xs ++ [] ≡ xs
      append_nil [] = refl
      append_nil (x ∷ xs) = ap (λ ys. x ∷ ys) (append_nil xs)

  -- more entries are taken, and their items given
  pub more_followed : IsFollowing pipeline taken given feed fed shown → (segment : ℕ) (entries : List Entry) (more : ℕ) → more ≡ length (drop given (pipe_items pipeline (entries_in taken ++ entries)))
      → IsFollowing pipeline (taken ++ taken_in segment entries) (given + more) feed fed shown
  more_followed h segment entries more is =
      let es : List Entry = entries_in taken in
      let all = entries_more taken segment entries in
      let first : take fed (entries_in (taken ++ taken_in segment entries)) ≡ take fed es =
      ap (take fed) all ∙ take-append-le fed es entries (omega (arith, h.within, length-map taken (λ (t : Taken). t.entry_of))) in
      let grown = pipe_items_grow pipeline es entries in
      let rest : more ≡ length grown.0 =
      is
      ∙ ap (λ l. length (drop given l)) grown.1
      ∙ ap (λ n. length (drop n (pipe_items pipeline es ++ grown.0))) (h.given_of ∙ plus_none (length (pipe_items pipeline es)))
      ∙ ap length (drop-append-add (pipe_items pipeline es) grown.0 0) in
      record {
        within = omega (arith, h.within, length-append taken (taken_in segment entries));
        fed_with = subst (IsFed feed pipeline.ops) (sym first) h.fed_with;
        shown_of = h.shown_of ∙ ap (λ l. length (pipe_items pipeline l)) (sym first);
        given_of =
            (λ i. h.given_of i + rest i)
            ∙ sym (length-append (pipe_items pipeline es) grown.0)
            ∙ ap length (sym grown.1)
            ∙ ap (λ l. length (pipe_items pipeline l)) (sym all);
      }
    where
      plus_none : (n : ℕ) → n ≡ n + 0
      plus_none n = omega arith
