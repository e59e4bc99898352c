-- No text of an event has a line feed inside.
use Rattle.std.proofs.Common.{◌≡◌, ℕ, zero, suc, ◌+◌, ◌≤◌, ◌<◌, ◌^◌, ◌==◌, nat_le, nat_lt, Bool, true, false, not, ◌&&◌, if◌then◌else◌, List, [], ◌∷◌, ◌++◌, map, length, Option, Some, None, refl, sym, ap, ◌∙◌, subst, arith, ℤ, pos, negsuc}
use Rattle.std.specs.Fmt.{decimal, signed_decimal}
use Rattle.std.specs.Prelude.{codes}
use Rattle.std.specs.List.{list_all, join_with_byte}
use Rattle.std.proofs.lemmas.Bool.{and_parts, leb-true, ltb-true}
use Rattle.std.proofs.lemmas.Bool.Decides.{nat_tests}
use Rattle.std.proofs.lemmas.Fmt.{decimal-digits_of, decimal_digit}
use Rattle.std.proofs.lemmas.List.Folds.{list_all-append}
use Rattle.std.specs.Int.Digits.{digits_of}
use Rattle.grid_base.specs.Key.{is_key, is_key_byte}
use Rattle.grid_base.specs.Text.{is_text, is_text_byte}
use Rattle.grid_base.specs.declared.datum.Datum.{Datum}
use Rattle.grid_base.specs.declared.datum.Datum.TheVariants.{Int, Text, Flag}
use Rattle.pipeline_parse.specs.Grammar.{datum_fits, datum_text, int_fits}
use Rattle.grid_base.specs.declared.entry.Entry.{Entry}
use Rattle.grid_base.specs.declared.item.Item.{Item}
use Rattle.grid_base.specs.declared.item.Item.TheVariants as items
use Rattle.grid_base.specs.declared.stamped_entry.StampedEntry.{StampedEntry}
use Rattle.delivery_mode.specs.declared.guarantee.Guarantee.{Guarantee}
use Rattle.delivery_mode.specs.declared.guarantee.Guarantee.TheVariants as guarantees
use Rattle.grid_event.specs.declared.call_events.Ask.{Ask}
use Rattle.grid_event.specs.declared.config.Config.{Config}
use Rattle.grid_event.specs.declared.event.Event.{Event}
use Rattle.grid_event.specs.declared.event.Event.TheVariants as events
use Rattle.grid_event.specs.declared.outcome.Outcome.{Outcome}
use Rattle.grid_event.specs.declared.outcome.Outcome.TheVariants as outcomes
use Rattle.pipeline_expr.specs.declared.answer.Answer.{Answer}
use Rattle.pipeline_expr.specs.declared.answer.Answer.TheVariants as answers
use Rattle.pipeline_expr.specs.declared.end.End.{End}
use Rattle.pipeline_expr.specs.declared.end.End.TheVariants as ends
use Rattle.pipeline_expr.specs.declared.expr.Expr.{Expr}
use Rattle.pipeline_expr.specs.declared.expr.Expr.TheOpen.{Expr-F}
use Rattle.pipeline_expr.specs.declared.expr.Expr.TheViews.{roll-Expr}
use Rattle.pipeline_expr.specs.declared.expr.Expr.TheFolds.{fold-roll-Expr, ind-Expr, map-Expr}
use Rattle.pipeline_expr.specs.declared.op.Op.{Op}
use Rattle.pipeline_expr.specs.declared.op.Op.TheVariants as ops
use Rattle.pipeline_expr.specs.declared.pipeline.Pipeline.{Pipeline}
use Rattle.pipeline_expr.specs.declared.spread.Spread.{Spread}
use Rattle.pipeline_expr.specs.declared.spread.Spread.TheVariants as spreads
use Rattle.pipeline_parse.specs.Grammar.{between, end_text, expr_fits, expr_text, fits, fits_step, further_text, op_fits, op_text, ops_text, spread_fits, spread_text, text_of, text_step}
use Rattle.topology_phase.specs.Owners.{Hash, among}
use Rattle.topology_phase.specs.Topologies.{Topology}
use Rattle.topology_phase.specs.declared.phase.Phase.{Phase}
use Rattle.topology_phase.specs.declared.phase.Phase.TheVariants as phases
use Rattle.event_texts.specs.Events.{answer_text, ask_text, asks_text, batch_text, best_text, copy_text, erase_text, event_text, guarantee_text, invoke_text, last_text, outcome_text, request_text, round_text, runs_text, take_text, write_text}
use Rattle.event_texts.specs.Fits.{all_fit, answer_fits, ask_fits, best_fits, entry_fits, event_fits, hash_fits, is_u16, is_u32, is_u64, is_u8, item_fits, none_barred, outcome_fits, owners_fit, pending_fits, pipeline_fits, request_fits, stamped_entry_fits, topology_fits, until_fits}
use Rattle.event_texts.specs.Topologies.{hash_text, owners_text, pending_text, phase_text, topology_text}
use Rattle.event_texts.specs.Words.{counted_text, each_behind, entry_text, item_text, stamped_entry_text, until_text}
use Rattle.text_lines.specs.Lines.{is_one_line}
use Rattle.report_reading.specs.ReportLines as said
use Rattle.report_reading.specs.ReportLines.{ReportLine, Note, Told, line_fits, line_text}

-- two such texts in a row
pub both : (xs ys : List ℕ) → is_one_line xs ≡ true → is_one_line ys ≡ true → is_one_line (xs ++ ys) ≡ true
both xs ys one two = list_all-append (λ b. not (b == 10)) xs ys ∙ (λ i. one i && two i)

-- bytes above ten
above : (test : ℕ → Bool) → ((b : ℕ) → test b ≡ true → not (b == 10) ≡ true) → (xs : List ℕ) → list_all test xs ≡ true → is_one_line xs ≡ true
above test f [] h = refl
above test f (b ∷ xs) h = let p = and_parts (test b) (list_all test xs) h in λ i. f b p.0 i && above test f xs p.1 i

-- a number
digits_one : (ds : List ℕ) → is_one_line (map (λ d. 48 + d) ds) ≡ true
digits_one [] = refl
digits_one (d ∷ ds) = let h : not ((48 + d) == 10) ≡ true = grind (arith, nat_tests) in λ i. h i && digits_one ds i

-- a number has no line feed
pub one_decimal : (n : ℕ) → n < 2 ^ 64 → is_one_line (decimal n) ≡ true
one_decimal zero small = ap is_one_line (decimal_digit 0 (omega arith))
one_decimal (suc n) small = ap is_one_line (decimal-digits_of (suc n) (omega arith) small) ∙ digits_one (digits_of 10 (suc n))

-- a key, and a value
key_byte : (b : ℕ) → is_key_byte b ≡ true → not (b == 10) ≡ true
key_byte b h = let low = leb-true 33 b (and_parts (nat_le 33 b) _ h).0 in grind (arith, nat_tests)

-- a byte of a text is none
text_byte : (b : ℕ) → is_text_byte b ≡ true → not (b == 10) ≡ true
text_byte b h = let low = leb-true 32 b (and_parts (nat_le 32 b) _ h).0 in grind (arith, nat_tests)

-- nor has a key one
pub one_key : (k : List ℕ) → is_key k ≡ true → is_one_line k ≡ true
one_key k h = above is_key_byte key_byte k (and_parts (nat_le (length k) 64) _ (and_parts (nat_le 1 (length k)) _ h).1).1

-- nor a value
pub one_datum : (d : Datum) → datum_fits d ≡ true → is_one_line (datum_text d) ≡ true
one_datum (Int (pos n)) h = one_decimal n (let a = ltb-true n (2 ^ 63) h in omega arith)
one_datum (Int (negsuc n)) h = one_decimal (suc n) (let a = ltb-true n (2 ^ 63) h in omega arith)
one_datum (Text t) h = both t (34 ∷ []) (above is_text_byte text_byte t (and_parts (nat_le (length t) 64) _ h).1) refl
one_datum (Flag true) h = refl
one_datum (Flag false) h = refl

-- numbers of the machine
of_u8 : (n : ℕ) → is_u8 n ≡ true → is_one_line (decimal n) ≡ true
of_u8 n h = one_decimal n (let a = leb-true n 255 h in omega arith)

-- nor a number of 16 bits
of_u16 : (n : ℕ) → is_u16 n ≡ true → is_one_line (decimal n) ≡ true
of_u16 n h = one_decimal n (let a = leb-true n 65535 h in omega arith)

-- nor one of 32 bits
of_u32 : (n : ℕ) → is_u32 n ≡ true → is_one_line (decimal n) ≡ true
of_u32 n h = one_decimal n (let a = leb-true n 4294967295 h in omega arith)

-- nor one of 64 bits
of_u64 : (n : ℕ) → is_u64 n ≡ true → is_one_line (decimal n) ≡ true
of_u64 n h = one_decimal n (let a = leb-true n 18446744073709551615 h in omega arith)

-- texts behind a byte that is no line feed
each_one : {T : Type 0} (byte : ℕ) → not (byte == 10) ≡ true → (text : T → List ℕ) (test : T → Bool) → ((t : T) → test t ≡ true → is_one_line (text t) ≡ true) → (xs : List T) → list_all test xs ≡ true →
    is_one_line (each_behind byte (map text xs)) ≡ true
each_one byte other text test one [] h = refl
each_one byte other text test one (x ∷ xs) h =
    let p = and_parts (test x) (list_all test xs) h in
    let rest = both (text x) (each_behind byte (map text xs)) (one x p.0) (each_one byte other text test one xs p.1) in λ i. other i && rest i

-- nor a counted list of what has none
counted_one : {T : Type 0} (text : T → List ℕ) (test : T → Bool) → ((t : T) → test t ≡ true → is_one_line (text t) ≡ true) → (xs : List T) → all_fit test xs ≡ true → is_one_line (counted_text text xs) ≡ true
counted_one text test one xs h =
    let p = and_parts (is_u64 (length xs)) (list_all test xs) h in
    both (decimal (length xs)) (each_behind 32 (map text xs)) (of_u64 (length xs) p.0) (each_one 32 refl text test one xs p.1)

-- texts with a byte between each two
joined_one : {T : Type 0} (byte : ℕ) → not (byte == 10) ≡ true → (text : T → List ℕ) (test : T → Bool) → ((t : T) → test t ≡ true → is_one_line (text t) ≡ true) → (xs : List T) → list_all test xs ≡ true →
    is_one_line (join_with_byte byte (map text xs)) ≡ true
joined_one byte other text test one [] h = refl
joined_one byte other text test one (x ∷ []) h = one x (and_parts (test x) true h).0
joined_one byte other text test one (x ∷ y ∷ xs) h =
    let p = and_parts (test x) (list_all test (y ∷ xs)) h in
    let rest = joined_one byte other text test one (y ∷ xs) p.1 in
    both (text x) (byte ∷ join_with_byte byte (map text (y ∷ xs))) (one x p.0) (λ i. other i && rest i)

-- deadlines, entries and items
until_one : (o : Option ℕ) → until_fits o ≡ true → is_one_line (until_text o) ≡ true
until_one None h = refl
until_one (Some n) h = of_u32 n h

-- nor an entry
entry_one : (e : Entry) → entry_fits e ≡ true → is_one_line (entry_text e) ≡ true
entry_one e h = let p = and_parts (is_key e.key) (datum_fits e.value) h in both e.key (32 ∷ datum_text e.value) (one_key e.key p.0) (one_datum e.value p.1)

-- nor an entry with its deadline
stamped_one : (e : StampedEntry) → stamped_entry_fits e ≡ true → is_one_line (stamped_entry_text e) ≡ true
stamped_one e h =
    let p = and_parts (is_key e.key) (datum_fits e.stamped.value && until_fits e.stamped.until) h in
    let q = and_parts (datum_fits e.stamped.value) (until_fits e.stamped.until) p.1 in
    both e.key (32 ∷ (datum_text e.stamped.value ++ until_text e.stamped.until)) (one_key e.key p.0) (both (datum_text e.stamped.value) (until_text e.stamped.until) (one_datum e.stamped.value q.0) (until_one e.stamped.until q.1))

-- nor an item
item_one : (x : Item) → item_fits x ≡ true → is_one_line (item_text x) ≡ true
item_one (items.Entry e) h = entry_one e h
item_one (items.Datum d) h = one_datum d h

-- owners, hashes and topologies
owners_one : (owners : List ℕ) → owners_fit owners ≡ true → is_one_line (owners_text owners) ≡ true
owners_one owners h = joined_one 44 refl decimal is_u8 of_u8 owners (and_parts (none_barred among [] owners) _ (and_parts (nat_le (length owners) 4) _ h).1).1

-- nor a hash
hash_one : (hash : Hash) → hash_fits hash ≡ true → is_one_line (hash_text hash) ≡ true
unfolding hash_text
hash_one hash h = joined_one 59 refl owners_text owners_fit owners_one hash (and_parts (nat_le (length hash) 256) _ (and_parts (nat_lt 0 (length hash)) _ h).1).1

-- nor the name of a phase
phase_one : (phase : Phase) → is_one_line (phase_text phase) ≡ true
phase_one phases.NoRebalance = refl
phase_one phases.ReadOld = refl
phase_one phases.ReadAll = refl
phase_one phases.ReadNew = refl

-- nor a pending hash
pending_one : (phase : Phase) (current pending : Hash) → pending_fits phase current pending ≡ true → is_one_line (pending_text phase pending) ≡ true
pending_one phases.NoRebalance current pending h = refl
pending_one phases.ReadOld current pending h = hash_one pending (and_parts (hash_fits pending) _ h).0
pending_one phases.ReadAll current pending h = hash_one pending (and_parts (hash_fits pending) _ h).0
pending_one phases.ReadNew current pending h = hash_one pending (and_parts (hash_fits pending) _ h).0

-- nor a topology
topology_one : (t : Topology) → topology_fits t ≡ true → is_one_line (topology_text t) ≡ true
unfolding topology_text
topology_one t h =
    let p = and_parts (is_u32 t.id) _ h in
    let q = and_parts (hash_fits t.current) (pending_fits t.phase t.current t.pending) p.1 in
    both (decimal t.id) (32 ∷ (phase_text t.phase ++ (32 ∷ (hash_text t.current ++ pending_text t.phase t.pending)))) (of_u32 t.id p.0)
    (both (phase_text t.phase) (32 ∷ (hash_text t.current ++ pending_text t.phase t.pending)) (phase_one t.phase)
    (both (hash_text t.current) (pending_text t.phase t.pending) (hash_one t.current q.0) (pending_one t.phase t.current t.pending q.1)))

-- pipelines
abbrev OneExpr : Expr → Type 0
OneExpr a = expr_fits a ≡ true → is_one_line (expr_text a) ≡ true

-- nor a word between two texts that have none
between_one : (a w b : List ℕ) → is_one_line a ≡ true → is_one_line w ≡ true → is_one_line b ≡ true → is_one_line (between a w b) ≡ true
between_one a w b x y z = both a (w ++ (b ++ codes ")")) x (both w (b ++ codes ")") y (both b (codes ")") z refl))

-- an expression has none where its parts have none
expr_form : (x : Expr-F ((a : Expr) × OneExpr a)) → OneExpr (roll-Expr (map-Expr ((a : Expr) × OneExpr a) Expr (λ p. p.0) x))
expr_form Expr-F.Key h = ap is_one_line (fold-roll-Expr (List ℕ) text_step Expr-F.Key)
expr_form Expr-F.Value h = ap is_one_line (fold-roll-Expr (List ℕ) text_step Expr-F.Value)
expr_form Expr-F.It h = ap is_one_line (fold-roll-Expr (List ℕ) text_step Expr-F.It)
expr_form (Expr-F.Lit d) h = ap is_one_line (fold-roll-Expr (List ℕ) text_step (Expr-F.Lit d)) ∙ one_datum d (sym (fold-roll-Expr Bool fits_step (Expr-F.Lit d)) ∙ h)
expr_form (Expr-F.Add a b) h =
    let p = and_parts (expr_fits a.0) (expr_fits b.0) (sym (fold-roll-Expr Bool fits_step (Expr-F.Add a.0 b.0)) ∙ h) in
    ap is_one_line (fold-roll-Expr (List ℕ) text_step (Expr-F.Add a.0 b.0)) ∙ between_one (expr_text a.0) (codes " + ") (expr_text b.0) (a.1 p.0) refl (b.1 p.1)
expr_form (Expr-F.Sub a b) h =
    let p = and_parts (expr_fits a.0) (expr_fits b.0) (sym (fold-roll-Expr Bool fits_step (Expr-F.Sub a.0 b.0)) ∙ h) in
    ap is_one_line (fold-roll-Expr (List ℕ) text_step (Expr-F.Sub a.0 b.0)) ∙ between_one (expr_text a.0) (codes " - ") (expr_text b.0) (a.1 p.0) refl (b.1 p.1)
expr_form (Expr-F.Mul a b) h =
    let p = and_parts (expr_fits a.0) (expr_fits b.0) (sym (fold-roll-Expr Bool fits_step (Expr-F.Mul a.0 b.0)) ∙ h) in
    ap is_one_line (fold-roll-Expr (List ℕ) text_step (Expr-F.Mul a.0 b.0)) ∙ between_one (expr_text a.0) (codes " * ") (expr_text b.0) (a.1 p.0) refl (b.1 p.1)
expr_form (Expr-F.Same a b) h =
    let p = and_parts (expr_fits a.0) (expr_fits b.0) (sym (fold-roll-Expr Bool fits_step (Expr-F.Same a.0 b.0)) ∙ h) in
    ap is_one_line (fold-roll-Expr (List ℕ) text_step (Expr-F.Same a.0 b.0)) ∙ between_one (expr_text a.0) (codes " = ") (expr_text b.0) (a.1 p.0) refl (b.1 p.1)
expr_form (Expr-F.Less a b) h =
    let p = and_parts (expr_fits a.0) (expr_fits b.0) (sym (fold-roll-Expr Bool fits_step (Expr-F.Less a.0 b.0)) ∙ h) in
    ap is_one_line (fold-roll-Expr (List ℕ) text_step (Expr-F.Less a.0 b.0)) ∙ between_one (expr_text a.0) (codes " < ") (expr_text b.0) (a.1 p.0) refl (b.1 p.1)
expr_form (Expr-F.And a b) h =
    let p = and_parts (expr_fits a.0) (expr_fits b.0) (sym (fold-roll-Expr Bool fits_step (Expr-F.And a.0 b.0)) ∙ h) in
    ap is_one_line (fold-roll-Expr (List ℕ) text_step (Expr-F.And a.0 b.0)) ∙ between_one (expr_text a.0) (codes " and ") (expr_text b.0) (a.1 p.0) refl (b.1 p.1)
expr_form (Expr-F.Or a b) h =
    let p = and_parts (expr_fits a.0) (expr_fits b.0) (sym (fold-roll-Expr Bool fits_step (Expr-F.Or a.0 b.0)) ∙ h) in
    ap is_one_line (fold-roll-Expr (List ℕ) text_step (Expr-F.Or a.0 b.0)) ∙ between_one (expr_text a.0) (codes " or ") (expr_text b.0) (a.1 p.0) refl (b.1 p.1)
expr_form (Expr-F.Not a) h =
    ap is_one_line (fold-roll-Expr (List ℕ) text_step (Expr-F.Not a.0)) ∙ both (expr_text a.0) (codes ")") (a.1 (sym (fold-roll-Expr Bool fits_step (Expr-F.Not a.0)) ∙ h)) refl
expr_form (Expr-F.Length a) h =
    ap is_one_line (fold-roll-Expr (List ℕ) text_step (Expr-F.Length a.0)) ∙ both (expr_text a.0) (codes ")") (a.1 (sym (fold-roll-Expr Bool fits_step (Expr-F.Length a.0)) ∙ h)) refl
expr_form (Expr-F.Starts a b) h =
    let p = and_parts (expr_fits a.0) (expr_fits b.0) (sym (fold-roll-Expr Bool fits_step (Expr-F.Starts a.0 b.0)) ∙ h) in
    ap is_one_line (fold-roll-Expr (List ℕ) text_step (Expr-F.Starts a.0 b.0))
    ∙ both (expr_text a.0) (codes ", " ++ (expr_text b.0 ++ codes ")")) (a.1 p.0) (both (expr_text b.0) (codes ")") (b.1 p.1) refl)

-- so no expression has one
expr_one : (a : Expr) → OneExpr a
expr_one = ind-Expr OneExpr (λ x y is. subst (λ z. OneExpr (roll-Expr z)) is (expr_form y))

-- nor have further expressions
further_one : (es : List Expr) → list_all expr_fits es ≡ true → is_one_line (further_text es) ≡ true
further_one [] h = refl
further_one (e ∷ es) h = let p = and_parts (expr_fits e) (list_all expr_fits es) h in both (expr_text e) (further_text es) (expr_one e p.0) (further_one es p.1)

-- nor what a flatmap spreads
spread_one : (s : Spread) → spread_fits s ≡ true → is_one_line (spread_text s) ≡ true
spread_one (spreads.Each list) h =
    let p = and_parts (expr_fits list.first) (list_all expr_fits list.rest) h in both (expr_text list.first) (further_text list.rest) (expr_one list.first p.0) (further_one list.rest p.1)
spread_one (spreads.Words e) h = both (expr_text e) (codes ")") (expr_one e h) refl

-- nor an operation
op_one : (o : Op) → op_fits o ≡ true → is_one_line (op_text o) ≡ true
op_one (ops.Filter e) h = expr_one e h
op_one (ops.Map e) h = expr_one e h
op_one (ops.FlatMap s) h = spread_one s h
op_one ops.Distinct h = refl

-- nor several
ops_one : (os : List Op) → list_all op_fits os ≡ true → is_one_line (ops_text os) ≡ true
ops_one [] h = refl
ops_one (o ∷ os) h =
    let p = and_parts (op_fits o) (list_all op_fits os) h in
    both (op_text o ++ codes " | ") (ops_text os) (both (op_text o) (codes " | ") (op_one o p.0) refl) (ops_one os p.1)

-- nor an end
end_one : (end : End) → is_one_line (end_text end) ≡ true
end_one ends.Count = refl
end_one ends.Sum = refl
end_one ends.Min = refl
end_one ends.Max = refl
end_one ends.Collect = refl
end_one ends.Each = refl

-- nor a pipeline
pipeline_one : (p : Pipeline) → pipeline_fits p ≡ true → is_one_line (text_of p) ≡ true
pipeline_one p h = both (ops_text p.ops) (end_text p.end) (ops_one p.ops (and_parts (fits p) _ h).0) (end_one p.end)

-- answers and outcomes
best_one : (o : Option Datum) → best_fits o ≡ true → is_one_line (best_text o) ≡ true
best_one None h = refl
best_one (Some d) h = one_datum d h

-- nor an answer
answer_one : (a : Answer) → answer_fits a ≡ true → is_one_line (answer_text a) ≡ true
unfolding answer_text
answer_one (answers.Count n) h = of_u64 n h
answer_one (answers.Sum z) h = one_datum (Int z) h
answer_one (answers.Best o) h = best_one o h
answer_one (answers.List list) h = counted_one item_text item_fits item_one list h

-- nor an outcome
outcome_one : (o : Outcome) → outcome_fits o ≡ true → is_one_line (outcome_text o) ≡ true
unfolding outcome_text
outcome_one (outcomes.Value a) h = answer_one a h
outcome_one outcomes.Ended h = refl
outcome_one (outcomes.Again rounds suspect) h = let p = and_parts (is_u8 rounds) (is_u16 suspect) h in both (decimal rounds) (32 ∷ decimal suspect) (of_u8 rounds p.0) (of_u16 suspect p.1)
outcome_one (outcomes.SegmentLost segment) h = of_u16 segment h
outcome_one outcomes.OriginatorLeft h = refl

-- events
last_one : (b : Bool) → is_one_line (last_text b) ≡ true
last_one true = refl
last_one false = refl

-- nor the word of a beginning
runs_one : (b : Bool) → is_one_line (runs_text b) ≡ true
runs_one true = refl
runs_one false = refl

-- nor that of a guarantee
guarantee_one : (g : Guarantee) → is_one_line (guarantee_text g) ≡ true
guarantee_one guarantees.Exact = refl
guarantee_one guarantees.AtLeast = refl
guarantee_one guarantees.AtMost = refl

-- nor an ask
ask_one : (a : Ask) → ask_fits a ≡ true → is_one_line (ask_text a) ≡ true
ask_one a h =
    let p = and_parts (is_u32 a.unit) _ h in let q = and_parts (is_u16 a.segment) (is_u8 a.node) p.1 in
    both (decimal a.unit) (58 ∷ (decimal a.segment ++ (64 ∷ decimal a.node))) (of_u32 a.unit p.0) (both (decimal a.segment) (64 ∷ decimal a.node) (of_u16 a.segment q.0) (of_u8 a.node q.1))

-- no event's text has a line feed
pub event_one : (e : Event) → event_fits e ≡ true → is_one_line (event_text e) ≡ true
unfolding event_text event_fits write_text erase_text copy_text invoke_text request_text round_text batch_text take_text asks_text
event_one (events.Write w) h =
    let a = and_parts (is_u16 w.by) _ h in let b = and_parts (is_u8 w.node) _ a.1 in let c = and_parts (is_key w.key) _ b.1 in let d = and_parts (datum_fits w.value) (until_fits w.until) c.1 in
    both (decimal w.by) (32 ∷ (decimal w.node ++ (32 ∷ (w.key ++ (32 ∷ (datum_text w.value ++ until_text w.until)))))) (of_u16 w.by a.0)
    (both (decimal w.node) (32 ∷ (w.key ++ (32 ∷ (datum_text w.value ++ until_text w.until)))) (of_u8 w.node b.0)
    (both w.key (32 ∷ (datum_text w.value ++ until_text w.until)) (one_key w.key c.0) (both (datum_text w.value) (until_text w.until) (one_datum w.value d.0) (until_one w.until d.1))))
event_one (events.Erase e) h =
    let a = and_parts (is_u16 e.by) _ h in let b = and_parts (is_u8 e.node) (is_key e.key) a.1 in
    both (decimal e.by) (32 ∷ (decimal e.node ++ (32 ∷ e.key))) (of_u16 e.by a.0) (both (decimal e.node) (32 ∷ e.key) (of_u8 e.node b.0) (one_key e.key b.1))
event_one (events.Tick n) h = of_u32 n h
event_one (events.Join n) h = of_u8 n h
event_one (events.Depart n) h = of_u8 n h
event_one (events.Announce t) h = topology_one t h
event_one (events.Install n id) h = let a = and_parts (is_u8 n) (is_u32 id) h in both (decimal n) (32 ∷ decimal id) (of_u8 n a.0) (of_u32 id a.1)
event_one (events.Copy c) h =
    let a = and_parts (is_u8 c.receiver) _ h in let b = and_parts (is_u16 c.segment) _ a.1 in let d = and_parts (is_u8 c.provider) _ b.1 in
    both (decimal c.receiver) (32 ∷ (decimal c.segment ++ (32 ∷ (decimal c.provider ++ (32 ∷ (counted_text stamped_entry_text c.batch.entries ++ (32 ∷ last_text c.batch.last))))))) (of_u8 c.receiver a.0)
    (both (decimal c.segment) (32 ∷ (decimal c.provider ++ (32 ∷ (counted_text stamped_entry_text c.batch.entries ++ (32 ∷ last_text c.batch.last))))) (of_u16 c.segment b.0)
    (both (decimal c.provider) (32 ∷ (counted_text stamped_entry_text c.batch.entries ++ (32 ∷ last_text c.batch.last))) (of_u8 c.provider d.0)
    (both (counted_text stamped_entry_text c.batch.entries) (32 ∷ last_text c.batch.last) (counted_one stamped_entry_text stamped_entry_fits stamped_one c.batch.entries d.1) (last_one c.batch.last))))
event_one (events.Land r s) h = let a = and_parts (is_u8 r) (is_u16 s) h in both (decimal r) (32 ∷ decimal s) (of_u8 r a.0) (of_u16 s a.1)
event_one (events.Invoke i) h =
    let a = and_parts (is_u16 i.by) _ h in let b = and_parts (is_u32 i.call) _ a.1 in let c = and_parts (is_u8 i.node) (request_fits i.request) b.1 in
    let d = and_parts (is_u8 i.request.rounds) _ c.1 in let e = and_parts (is_u16 i.request.batch) (pipeline_fits i.request.pipeline) d.1 in
    let behind = 32 ∷ (decimal i.request.rounds ++ (32 ∷ (decimal i.request.batch ++ (32 ∷ text_of i.request.pipeline)))) in
    both (decimal i.by) (32 ∷ (decimal i.call ++ (32 ∷ (decimal i.node ++ (32 ∷ (guarantee_text i.request.guarantee ++ behind)))))) (of_u16 i.by a.0)
    (both (decimal i.call) (32 ∷ (decimal i.node ++ (32 ∷ (guarantee_text i.request.guarantee ++ behind)))) (of_u32 i.call b.0)
    (both (decimal i.node) (32 ∷ (guarantee_text i.request.guarantee ++ behind)) (of_u8 i.node c.0)
    (both (guarantee_text i.request.guarantee) behind (guarantee_one i.request.guarantee)
    (both (decimal i.request.rounds) (32 ∷ (decimal i.request.batch ++ (32 ∷ text_of i.request.pipeline))) (of_u8 i.request.rounds d.0)
    (both (decimal i.request.batch) (32 ∷ text_of i.request.pipeline) (of_u16 i.request.batch e.0) (pipeline_one i.request.pipeline e.1))))))
event_one (events.Round r) h =
    let a = and_parts (is_u32 r.call) _ h in let b = and_parts (is_u32 r.id) (list_all ask_fits r.asks) a.1 in
    both (decimal r.call) (32 ∷ (decimal r.id ++ (32 ∷ join_with_byte 44 (map ask_text r.asks)))) (of_u32 r.call a.0)
    (both (decimal r.id) (32 ∷ join_with_byte 44 (map ask_text r.asks)) (of_u32 r.id b.0) (joined_one 44 refl ask_text ask_fits ask_one r.asks b.1))
event_one (events.Begin unit runs) h = both (decimal unit) (32 ∷ runs_text runs) (of_u32 unit h) (runs_one runs)
event_one (events.Scan s) h =
    let a = and_parts (is_u32 s.unit) _ h in
    both (decimal s.unit) (32 ∷ (counted_text entry_text s.batch.entries ++ (32 ∷ last_text s.batch.last))) (of_u32 s.unit a.0)
    (both (counted_text entry_text s.batch.entries) (32 ∷ last_text s.batch.last) (counted_one entry_text entry_fits entry_one s.batch.entries a.1) (last_one s.batch.last))
event_one (events.Fetch s) h =
    let a = and_parts (is_u32 s.unit) _ h in
    both (decimal s.unit) (32 ∷ (counted_text entry_text s.batch.entries ++ (32 ∷ last_text s.batch.last))) (of_u32 s.unit a.0)
    (both (counted_text entry_text s.batch.entries) (32 ∷ last_text s.batch.last) (counted_one entry_text entry_fits entry_one s.batch.entries a.1) (last_one s.batch.last))
event_one (events.Take t) h =
    let a = and_parts (is_u32 t.unit) _ h in let b = and_parts (all_fit entry_fits t.entries) (all_fit item_fits t.given) a.1 in
    both (decimal t.unit) (32 ∷ (counted_text entry_text t.entries ++ (32 ∷ counted_text item_text t.given))) (of_u32 t.unit a.0)
    (both (counted_text entry_text t.entries) (32 ∷ counted_text item_text t.given) (counted_one entry_text entry_fits entry_one t.entries b.0) (counted_one item_text item_fits item_one t.given b.1))
event_one (events.Done unit) h = of_u32 unit h
event_one (events.Answer a) h = let p = and_parts (is_u32 a.call) (outcome_fits a.outcome) h in both (decimal a.call) (32 ∷ outcome_text a.outcome) (of_u32 a.call p.0) (outcome_one a.outcome p.1)

-- lines of a report
pub line_one : (count : ℕ) (l : ReportLine) → count < 4294967295 → line_fits l ≡ true → is_one_line (line_text count l) ≡ true
line_one count (Note n) small h = of_u32 n h
line_one count (Told e) small h = both (decimal (count + 1)) (32 ∷ event_text e) (one_decimal (count + 1) (omega arith)) (event_one e h)
line_one count said.End small h = one_decimal count (omega arith)
