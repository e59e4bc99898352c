-- The head of a report, and with it the whole.
use Rattle.std.proofs.Common.{◌≡◌, ℕ, zero, suc, ◌+◌, ◌≤◌, ◌<◌, ◌^◌, ◌%◌, ◌==◌, nat_le, nat_lt, Bool, true, false, not, ◌&&◌, if◌then◌else◌, List, [], ◌∷◌, ◌++◌, map, length, Option, Some, None, Result, Ok, Err, refl, sym, ap, ◌∙◌, subst, arith, append_assoc, min}
use Rattle.std.specs.Fmt.{decimal}
use Rattle.std.specs.Prelude.{codes}
use Rattle.std.specs.List.{list_all, join_with_byte, range_with_len}
use Rattle.std.proofs.lemmas.Bool.{and_parts, leb-true}
use Rattle.std.proofs.lemmas.List.{append-nil}
use Rattle.std.proofs.Math.Nat.{mod-lt}
use Rattle.grid_base.proofs.DatumLemmas.{same_bytes_decides}
use Rattle.grid_base.specs.Datum.{same_bytes}
use Rattle.grid_base.specs.declared.limits.TheConstants.{MOST_EVENTS, MOST_NODES, MOST_WEIGHT}
use Rattle.grid_event.specs.Configs.{is_config, is_up_to}
use Rattle.grid_event.specs.Histories.{History, blank}
use Rattle.grid_event.specs.declared.config.Config.{Config}
use Rattle.grid_journal.specs.Reports.{config_text, first_hash, first_text, line}
use Rattle.event_texts.specs.Topologies.{hash_text}
use Rattle.grid_journal.proofs.Rows.{first_hash_whole, first_owner_text, first_owners_whole, first_row_text}
use Rattle.pipeline_expr.specs.declared.kind.ValueKind.TheVariants as values
use Rattle.segment_hash.specs.declared.partition.Partition.TheVariants as partitions
use Rattle.topology_phase.specs.declared.aim.Aim.TheVariants as aims
use Rattle.text_lines.specs.Lines.{Line, feeds, is_one_line, lines_of}
use Rattle.report_reading.specs.OneLines.{OneLines}
use Rattle.report_reading.specs.ReportLines.{config_of}
use Rattle.report_reading.specs.ReportReading.{Stop, read_first, read_head, read_lines, read_second, report_of}
use Rattle.report_reading.specs.WholeReports.{BeginsReport, IsFirstFull, IsFirstUnread, IsKeepable, IsReport, front_text}
use Rattle.text_lines.proofs.Cutting.{Cut, cut_of, lines_cut, none_left}
use Rattle.text_lines.proofs.Feeds.{feeds-append, feeds-none}
use Rattle.report_reading.proofs.Fronts.{in_front}
use Rattle.report_reading.proofs.OneLine.{both, line_one, one_decimal}
use Rattle.report_reading.proofs.Settings.{settings_one, settings_only, settings_read}
use Rattle.report_reading.proofs.Whole.{begins_with, closed, full_at, read_is, reads, stops_at}

-- the first topology is one line
rows_one : (byte : ℕ) → not (byte == 10) ≡ true → (text : ℕ → List ℕ) → ((k : ℕ) → is_one_line (text k) ≡ true) → (xs : List ℕ) → is_one_line (join_with_byte byte (map text xs)) ≡ true
rows_one byte other text one [] = refl
rows_one byte other text one (x ∷ []) = one x
rows_one byte other text one (x ∷ y ∷ xs) =
    let rest = rows_one byte other text one (y ∷ xs) in both (text x) (byte ∷ join_with_byte byte (map text (y ∷ xs))) (one x) (λ i. other i && rest i)

-- the text of the first topology is one line
pub first_one : (c : Config) → is_config c ≡ true → is_one_line (first_text c) ≡ true
first_one c h = ap is_one_line (sym (first_hash_whole c)) ∙ rows_one 59 refl (first_row_text c) row (range_with_len 0 c.segments)
  where
    limits : (1 ≤ c.nodes) × (c.nodes ≤ 16)
    limits =
        let p = and_parts (nat_le 1 c.nodes) (nat_le c.nodes MOST_NODES) (and_parts (is_up_to MOST_NODES c.nodes) _ h).0 in
        (leb-true 1 c.nodes p.0, leb-true c.nodes MOST_NODES p.1)

    owner : (s k : ℕ) → is_one_line (first_owner_text c s k) ≡ true
    owner s k =
        one_decimal ((s + k) % c.nodes)
        (let low = limits.0 in let high = limits.1 in let below : (s + k) % c.nodes < c.nodes = mod-lt (s + k) (omega arith) in omega arith)

    row : (s : ℕ) → is_one_line (first_row_text c s) ≡ true
    row s = ap is_one_line (sym (first_owners_whole c s (let low = limits.0 in omega arith))) ∙ rows_one 44 refl (first_owner_text c s) (owner s) (range_with_len 0 (min c.owners c.nodes))

-- what is known of single lines
pub one_lines : OneLines
one_lines = record { lines = line_one; config = settings_one; first = first_one; settings = settings_read; settings_only = settings_only }

-- a history without events
abbrev fresh : Config → History
fresh config = record blank { config = Some config }

-- a history without events keeps its limits
fresh_keepable : (config : Config) → is_config config ≡ true → IsKeepable (fresh config)
fresh_keepable config good = record { settings = good; few = omega arith; light = omega arith; fit = refl; placed = refl; numbered = refl }

-- the front of a report without lines behind its head
fresh_front : (config : Config) → front_text (fresh config) ≡ line (config_text config) ++ line (first_text config)
fresh_front config = append-nil (line (config_text config) ++ line (first_text config))

-- the settings of a least cluster
abbrev least_config : Config
least_config = record { nodes = 1; segments = 1; owners = 1; partition = partitions.Plain; values = values.Int; chunk = 1; aim = aims.Create }

-- some report begins with nothing
begins_none : BeginsReport []
begins_none = let b = begins_with one_lines (fresh least_config) (fresh_keepable least_config refl) in (b.0, front_text (fresh least_config) ++ b.1, b.2)

-- some report begins with a line of settings
begins_settings : (config : Config) → is_config config ≡ true → BeginsReport ([] ++ line (config_text config))
begins_settings config good =
    let b = begins_with one_lines (fresh config) (fresh_keepable config good) in
    (b.0, line (first_text config) ++ b.1, subst (λ z. IsReport z b.0) (ap (λ z. z ++ b.1) (fresh_front config) ∙ append_assoc (line (config_text config)) (line (first_text config)) b.1) b.2)

-- one line feed a line
line_feeds : (t : List ℕ) → is_one_line t ≡ true → feeds (line t) ≡ 1
line_feeds t one = let b = feeds-append t (10 ∷ []) in let c = feeds-none t one in omega arith

-- the first lines of two texts that are the same are the same
pub first_same : (t rest next more : List ℕ) → is_one_line t ≡ true → is_one_line next ≡ true → t ++ 10 ∷ rest ≡ next ++ 10 ∷ more → t ≡ next
first_same t rest next more one other r = ap first_bytes (sym (lines_cut t rest one) ∙ (ap lines_of r ∙ lines_cut next more other))
  where
    first_bytes : List Line → List ℕ
    first_bytes [] = []
    first_bytes (l ∷ ls) = l.bytes

-- nothing has no line feed
no_feed : (next more : List ℕ) → [] ≡ next ++ 10 ∷ more → ⊥
no_feed [] more e = absurd (cc)
no_feed (b ∷ next) more e = absurd (cc)

-- what isn't ended isn't a whole line
not_whole : (bytes next more : List ℕ) → lines_of bytes ≡ record { bytes = bytes; ended = false } ∷ [] → bytes ≡ next ++ 10 ∷ more → is_one_line next ≡ true → ⊥
not_whole bytes next more last r other =
    let twice : record { bytes = bytes; ended = false } ∷ [] ≡ record { bytes = next; ended = true } ∷ lines_of more = sym last ∙ (ap lines_of r ∙ lines_cut next more other) in
    let flag : false ≡ true = ap first_ended twice in absurd (cc)
  where
    first_ended : List Line → Bool
    first_ended [] = false
    first_ended (l ∷ ls) = l.ended

-- how some bytes begin: with the head of a report, or they stop to be one's at the first or the second line
data HeadOf (bytes : List ℕ) : Type 0 where
  Good : (config : Config) (rest : List ℕ) → is_config config ≡ true → bytes ≡ front_text (fresh config) ++ rest → report_of bytes ≡ read_lines (fresh config) 3 (lines_of rest) → HeadOf bytes
  Bad : (n : ℕ) → report_of bytes ≡ Err (Stop.Unread n) → IsFirstUnread bytes n → HeadOf bytes

-- bytes whose first line has no settings begin no report
bad_first : (bytes : List ℕ) → report_of bytes ≡ Err (Stop.Unread 1) → ((next more : List ℕ) → bytes ≡ next ++ 10 ∷ more → is_one_line next ≡ true → BeginsReport ([] ++ line next) → ⊥) → HeadOf bytes
bad_first bytes is stops = Bad 1 is (record { front = []; rest = bytes; splits = refl; numbered = omega arith; begins = begins_none; stops = stops })

-- nor do those whose second line isn't the first topology
bad_second : (config : Config) (t rest bytes : List ℕ) → is_config config ≡ true → config_text config ≡ t → bytes ≡ t ++ 10 ∷ rest → is_one_line t ≡ true → report_of bytes ≡ Err (Stop.Unread 2) →
    ((next more : List ℕ) → rest ≡ next ++ 10 ∷ more → is_one_line next ≡ true → BeginsReport (([] ++ line t) ++ line next) → ⊥) → HeadOf bytes
bad_second config t rest bytes good is b one stopped stops = Bad 2 stopped (record {
  front = [] ++ line t;
  rest = rest;
  splits = b ∙ closed [] t rest;
  numbered = (let f = line_feeds t one in omega arith);
  begins = subst (λ z. BeginsReport ([] ++ line z)) is (begins_settings config good);
  stops = stops;
})

-- the second line
second_of : (config : Config) (t rest bytes : List ℕ) → is_config config ≡ true → config_text config ≡ t → config_of t ≡ Some config → bytes ≡ t ++ 10 ∷ rest → is_one_line t ≡ true →
    report_of bytes ≡ read_second config (lines_of rest) → HeadOf bytes
second_of config t rest bytes good is found b one reached = by_cut (cut_of rest)
  where
    by_same : (u more : List ℕ) → rest ≡ u ++ 10 ∷ more → is_one_line u ≡ true → (c : Bool) → same_bytes u (first_text config) ≡ c →
        report_of bytes ≡ (if c then read_lines (fresh config) 3 (lines_of more) else Err (Stop.Unread 2)) → HeadOf bytes
    by_same u more r other true same goes =
        let u_is : u ≡ first_text config = (same_bytes_decides u (first_text config)).0 same in
        Good config more good
        (b ∙ (ap (λ z. t ++ 10 ∷ z) r ∙ (ap (λ z. t ++ 10 ∷ (z ++ 10 ∷ more)) u_is ∙ (ap (λ z. z ++ 10 ∷ (first_text config ++ 10 ∷ more)) (sym is)
        ∙ (closed [] (config_text config) (first_text config ++ 10 ∷ more) ∙ (closed (line (config_text config)) (first_text config) more ∙ ap (λ z. z ++ more) (sym (fresh_front config))))))))
        goes
    by_same u more r other false same goes =
        bad_second config t rest bytes good is b one goes (λ next further e ends begins.
        (let made = begins.0 in let tail = begins.1 in
        let read : report_of ((line t ++ line next) ++ tail) ≡ Ok made = reads one_lines ((line t ++ line next) ++ tail) made begins.2 in
        let u_next : u ≡ next = first_same u more next further other ends (sym r ∙ e) in
        let again : report_of ((line t ++ line next) ++ tail) ≡ Err (Stop.Unread 2) =
        ap report_of (append_assoc (line t) (line next) tail)
        ∙ (ap read_head (in_front t (line next ++ tail) one)
        ∙ (ap (λ o. read_first o (lines_of (line next ++ tail))) found
        ∙ (ap (read_second config) (in_front next tail ends)
        ∙ ap (λ c. if c then read_lines (fresh config) 3 (lines_of tail) else Err (Stop.Unread 2)) (ap (λ z. same_bytes z (first_text config)) (sym u_next) ∙ same)))) in
        let both_of : Err (Stop.Unread 2) ≡ Ok made = sym again ∙ read in absurd (cc)))

    by_cut : Cut rest → HeadOf bytes
    by_cut (Cut.Nothing none) =
        bad_second config t rest bytes good is b one (reached ∙ ap (λ z. read_second config (lines_of z)) none) (λ next more e ends begins. absurd (no_feed next more (sym none ∙ e)))
    by_cut (Cut.Last last) =
        bad_second config t rest bytes good is b one (reached ∙ ap (read_second config) last) (λ next more e ends begins. absurd (not_whole rest next more last e ends))
    by_cut (Cut.Whole u more r other) =
        by_same u more r other (same_bytes u (first_text config)) refl (reached ∙ ap (read_second config) (ap lines_of r ∙ lines_cut u more other))

-- each text has its head, or stops there
head_of : (bytes : List ℕ) → HeadOf bytes
head_of bytes = by_cut (cut_of bytes)
  where
    by_settings : (t rest : List ℕ) → bytes ≡ t ++ 10 ∷ rest → is_one_line t ≡ true → (o : Option Config) → config_of t ≡ o → report_of bytes ≡ read_first o (lines_of rest) → HeadOf bytes
    by_settings t rest b one None found reached =
        bad_first bytes reached (λ next more e ends begins.
        (let made = begins.0 in let tail = begins.1 in
        let read : report_of (line next ++ tail) ≡ Ok made = reads one_lines (line next ++ tail) made begins.2 in
        let t_next : t ≡ next = first_same t rest next more one ends (sym b ∙ e) in
        let again : report_of (line next ++ tail) ≡ Err (Stop.Unread 1) =
        ap read_head (in_front next tail ends) ∙ ap (λ o. read_first o (lines_of tail)) (ap config_of (sym t_next) ∙ found) in
        let both_of : Err (Stop.Unread 1) ≡ Ok made = sym again ∙ read in absurd (cc)))
    by_settings t rest b one (Some config) found reached = let l = settings_only t config found in second_of config t rest bytes l.1 l.0 found b one reached

    by_cut : Cut bytes → HeadOf bytes
    by_cut (Cut.Nothing none) = bad_first bytes (ap (λ z. read_head (lines_of z)) none) (λ next more e ends begins. absurd (no_feed next more (sym none ∙ e)))
    by_cut (Cut.Last last) = bad_first bytes (ap read_head last) (λ next more e ends begins. absurd (not_whole bytes next more last e ends))
    by_cut (Cut.Whole t rest b one) = by_settings t rest b one (config_of t) refl (ap read_head (ap lines_of b ∙ lines_cut t rest one))

-- the line behind the head is the third
three : (config : Config) → is_config config ≡ true → 3 ≡ feeds (front_text (fresh config)) + 1
three config good =
    let a = ap feeds (fresh_front config) in
    let b = feeds-append (line (config_text config)) (line (first_text config)) in
    let c = line_feeds (config_text config) (settings_one config good) in
    let d = line_feeds (first_text config) (first_one config good) in omega arith

-- what is read as a history is its report
pub all_sound : (bytes : List ℕ) (history : History) → report_of bytes ≡ Ok history → IsReport bytes history
all_sound bytes history is = by_head (head_of bytes)
  where
    by_head : HeadOf bytes → IsReport bytes history
    by_head (Bad n stopped unread) = let both_of : Err (Stop.Unread n) ≡ Ok history = sym stopped ∙ is in absurd (cc)
    by_head (Good config rest good b reached) =
        subst (λ z. IsReport z history) (sym b) (read_is one_lines (lines_of rest) (fresh config) 3 rest history refl (fresh_keepable config good) (sym reached ∙ is))

-- each report is read as its history
pub all_full : (bytes : List ℕ) (history : History) → IsReport bytes history → report_of bytes ≡ Ok history
all_full = reads one_lines

-- where nothing is read no report goes on
pub all_unread : (bytes : List ℕ) (number : ℕ) → report_of bytes ≡ Err (Stop.Unread number) → IsFirstUnread bytes number
all_unread bytes number is = by_head (head_of bytes)
  where
    number_of : Result History Stop → ℕ
    number_of (Ok h) = 0
    number_of (Err (Stop.Unread n)) = n
    number_of (Err (Stop.Full n)) = n

    by_head : HeadOf bytes → IsFirstUnread bytes number
    by_head (Bad n stopped unread) = subst (IsFirstUnread bytes) (ap number_of (sym stopped ∙ is)) unread
    by_head (Good config rest good b reached) =
        subst (λ z. IsFirstUnread z number) (sym b) (stops_at one_lines (lines_of rest) (fresh config) 3 rest number refl (fresh_keepable config good) (three config good) (sym reached ∙ is))

-- and where a limit is passed the event there passes it
pub all_past_limit : (bytes : List ℕ) (number : ℕ) → report_of bytes ≡ Err (Stop.Full number) → IsFirstFull bytes number
all_past_limit bytes number is = by_head (head_of bytes)
  where
    by_head : HeadOf bytes → IsFirstFull bytes number
    by_head (Bad n stopped unread) = let both_of : Err (Stop.Unread n) ≡ Err (Stop.Full number) = sym stopped ∙ is in absurd (cc)
    by_head (Good config rest good b reached) =
        subst (λ z. IsFirstFull z number) (sym b) (full_at one_lines (lines_of rest) (fresh config) 3 rest number refl (fresh_keepable config good) (three config good) (sym reached ∙ is))
