-- The keys of the items that a pipeline makes of entries are keys of these entries.
use Rattle.std.proofs.Common.{◌≡◌, ℕ, Bool, true, not, ◌&&◌, List, [], ◌∷◌, map, refl, ◌∙◌}
use Rattle.std.proofs.lemmas.Bool.{and_from, and_parts}
use Rattle.std.proofs.lemmas.List.Folds.{list_all-append}
use Rattle.std.specs.List.{filter, flat_map, list_all}
use Rattle.grid_base.specs.Datum.{same_item}
use Rattle.grid_base.specs.declared.datum.Datum.TheVariants.{Text}
use Rattle.grid_base.specs.declared.entry.Entry.{Entry}
use Rattle.grid_base.specs.declared.item.Item.{Item}
use Rattle.grid_base.specs.declared.item.Item.TheVariants as items
use Rattle.pipeline_eval.specs.Evaluation.{value_of}
use Rattle.pipeline_eval.specs.Lists.{distinct, words}
use Rattle.pipeline_eval.specs.Pipes.{as_items, op_items, ops_items, pipe, pipe_items, spread_items}
use Rattle.pipeline_eval.specs.Values.{bytes_of, is_on}
use Rattle.pipeline_expr.specs.declared.end.End.{End}
use Rattle.pipeline_expr.specs.declared.end.End.TheVariants as ends
use Rattle.pipeline_expr.specs.declared.expr.Expr.{Expr}
use Rattle.pipeline_expr.specs.declared.op.Op.{Op}
use Rattle.pipeline_expr.specs.declared.op.Op.TheVariants as op
use Rattle.pipeline_expr.specs.declared.pipeline.Pipeline.{Pipeline}
use Rattle.pipeline_expr.specs.declared.spread.Spread.{Spread}
use Rattle.pipeline_expr.specs.declared.spread.Spread.TheVariants.{Each, Words}
use Rattle.audit_clauses.specs.Mentions.{entry_keys, key_in, keys_in, keys_listed}
use Rattle.audit_runs.proofs.Lists.{all_filter, alone}

module _ (p : List ℕ → Bool) where
  -- the key of an item passes, where it has one
  abbrev passes : Item → Bool
  passes item = list_all p (key_in item)

  -- values have no keys
  all_data : {A : Type 0} (f : A → Item) → ((x : A) → passes (f x) ≡ true) → (xs : List A) → list_all passes (map f xs) ≡ true
  all_data f value [] = refl
  all_data f value (x ∷ xs) = and_from (passes (f x)) (list_all passes (map f xs)) (value x) (all_data f value xs)

  all_spread : (spread : Spread) (item : Item) → list_all passes (spread_items spread item) ≡ true
  all_spread (Each list) item = all_data (λ (e : Expr). items.Datum (value_of e item)) (λ e. refl) (list.first ∷ list.rest)
  all_spread (Words e) item = all_data (λ word. items.Datum (Text word)) (λ word. refl) (words (bytes_of (value_of e item)))

  all_spreads : (spread : Spread) (xs : List Item) → list_all passes (flat_map (spread_items spread) xs) ≡ true
  all_spreads spread [] = refl
  all_spreads spread (x ∷ xs) =
      list_all-append passes (spread_items spread x) (flat_map (spread_items spread) xs)
      ∙ and_from (list_all passes (spread_items spread x)) (list_all passes (flat_map (spread_items spread) xs)) (all_spread spread x) (all_spreads spread xs)

  -- of equal elements the first one stays
  all_distinct : (xs : List Item) → list_all passes xs ≡ true → list_all passes (distinct xs) ≡ true
  all_distinct [] h = refl
  all_distinct (x ∷ xs) h =
      let q = and_parts (passes x) (list_all passes xs) h in
      and_from (passes x) (list_all passes (filter (λ y. not (same_item x y)) (distinct xs))) q.0
      (all_filter passes (λ y. not (same_item x y)) (distinct xs) (all_distinct xs q.1))

  -- each operation keeps it, and so do several
  all_op : (o : Op) (xs : List Item) → list_all passes xs ≡ true → list_all passes (op_items o xs) ≡ true
  all_op (op.Filter e) xs h = all_filter passes (λ x. is_on (value_of e x)) xs h
  all_op (op.Map e) xs h = all_data (λ x. items.Datum (value_of e x)) (λ x. refl) xs
  all_op (op.FlatMap spread) xs h = all_spreads spread xs
  all_op op.Distinct xs h = all_distinct xs h

  all_ops : (ops : List Op) (xs : List Item) → list_all passes xs ≡ true → list_all passes (ops_items ops xs) ≡ true
  all_ops [] xs h = h
  all_ops (o ∷ ops) xs h = all_ops ops (op_items o xs) (all_op o xs h)

  -- it holds of entries as the first elements
  all_entries : (entries : List Entry) → list_all p (entry_keys entries) ≡ true → list_all passes (as_items entries) ≡ true
  all_entries [] h = refl
  all_entries (e ∷ entries) h =
      let q = and_parts (p e.key) (list_all p (entry_keys entries)) h in
      and_from (p e.key && true) (list_all passes (as_items entries)) (alone (p e.key) q.0) (all_entries entries q.1)

  -- the keys of the items together
  all_keys : (xs : List Item) → list_all passes xs ≡ true → list_all p (keys_in xs) ≡ true
  all_keys [] h = refl
  all_keys (x ∷ xs) h =
      let q = and_parts (passes x) (list_all passes xs) h in
      list_all-append p (key_in x) (keys_in xs) ∙ and_from (passes x) (list_all p (keys_in xs)) q.0 (all_keys xs q.1)

  -- what passes for each key of some entries passes for each key that the answer of a pipeline over them lists
  pub listed_pass : (pipeline : Pipeline) (entries : List Entry) → list_all p (entry_keys entries) ≡ true
      → list_all p (keys_listed (pipe pipeline entries)) ≡ true
  listed_pass pipeline entries h =
      by_end pipeline.end (all_keys (pipe_items pipeline entries) (all_ops pipeline.ops (as_items entries) (all_entries entries h)))
    where
      by_end : (end : End) → list_all p (keys_in (pipe_items pipeline entries)) ≡ true
          → list_all p (keys_listed (pipe (record pipeline { end = end }) entries)) ≡ true
      by_end ends.Count h = refl
      by_end ends.Sum h = refl
      by_end ends.Min h = refl
      by_end ends.Max h = refl
      by_end ends.Collect h = h
      by_end ends.Each h = h
