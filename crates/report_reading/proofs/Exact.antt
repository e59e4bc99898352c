-- At which line reading stops: there is one such line.
use Rattle.std.proofs.Common.{◌≡◌, ℕ, zero, suc, ◌+◌, ◌≤◌, ◌<◌, ◌==◌, Bool, true, false, not, ◌&&◌, cond, if◌then◌else◌, List, [], ◌∷◌, ◌++◌, length, Option, Some, None, Result, Ok, Err, refl, sym, ap, ◌∙◌, subst, arith, append_assoc, eqb-true, ◌⊎◌, inl, inr}
use Rattle.grid_event.specs.Histories.{History, passes_limit, with_event}
use Rattle.grid_event.specs.declared.event.Event.{Event}
use Rattle.event_texts.specs.Fits.{event_fits}
use Rattle.grid_journal.specs.Reports.{line}
use Rattle.text_lines.specs.Lines.{feeds, is_one_line, lines_of}
use Rattle.report_reading.specs.ReportLines.{Told, line_text}
use Rattle.report_reading.specs.ReportReading.{Stop, at_end, read_lines, report_of}
use Rattle.report_reading.specs.WholeReports.{HasNoReport, IsFirstFull, IsFirstUnread, IsKeepable, IsNeverFull, IsReport, front_text}
use Rattle.report_reading.proofs.Fronts.{front_read, line_read, next_line}
use Rattle.report_reading.proofs.Heads.{all_full, all_past_limit, all_sound, all_unread, first_same, one_lines}
use Rattle.report_reading.proofs.Whole.{begins_with}

-- a whole line in front of more
record Fed (s : List ℕ) : Type 0 where
  next : List ℕ
  more : List ℕ
  is : s ≡ next ++ 10 ∷ more
  one : is_one_line next ≡ true

-- bytes with a line feed have one
fed : (s : List ℕ) → 0 < feeds s → Fed s
fed [] h = absurd (omega arith)
fed (b ∷ s) h = by_byte (b == 10) refl h (fed s)
  where
    by_byte : (c : Bool) → (b == 10) ≡ c → 0 < cond {A = ℕ} c 1 0 + feeds s → (0 < feeds s → Fed s) → Fed (b ∷ s)
    by_byte true e h rest = record { next = []; more = s; is = ap (λ x. x ∷ s) (eqb-true b 10 e); one = refl }
    by_byte false e h rest = let f = rest (omega arith) in record { next = b ∷ f.next; more = f.more; is = ap (λ z. b ∷ z) f.is; one = ap (λ c. not c && is_one_line f.next) e ∙ f.one }

-- a front with more line feeds goes on with a whole line of what is behind the other
record Further (a b rest : List ℕ) : Type 0 where
  next : List ℕ
  within : List ℕ
  more : List ℕ
  is : rest ≡ next ++ 10 ∷ more
  one : is_one_line next ≡ true
  front : b ≡ a ++ (next ++ 10 ∷ within)

-- of two fronts of the same bytes the one with more line feeds goes on so
further : (a b rest other : List ℕ) → a ++ rest ≡ b ++ other → feeds a < feeds b → Further a b rest
further [] b rest other e h =
    let f = fed b h in
    record { next = f.next; within = f.more; more = f.more ++ other; is = e ∙ ap (λ z. z ++ other) f.is ∙ append_assoc f.next (10 ∷ f.more) other; one = f.one; front = f.is }
further (x ∷ a) [] rest other e h = absurd (omega arith)
further (x ∷ a) (y ∷ b) rest other e h =
    let heads : x ≡ y = cc in
    let tails : a ++ rest ≡ b ++ other = cc in
    let same : cond {A = ℕ} (x == 10) 1 0 ≡ cond {A = ℕ} (y == 10) 1 0 = ap (λ z. cond {A = ℕ} (z == 10) 1 0) heads in
    let f = further a b rest other tails (omega arith) in
    record { next = f.next; within = f.within; more = f.more; is = f.is; one = f.one; front = (λ i. sym heads i ∷ f.front i) }

-- not both of two stops come first
not_before : (bytes : List ℕ) (m n : ℕ) (a : IsFirstUnread bytes m) (b : IsFirstUnread bytes n) → m < n → ⊥
not_before bytes m n a b less =
    let f = further a.front b.front a.rest b.rest (sym a.splits ∙ b.splits) (let x = a.numbered in let y = b.numbered in omega arith) in
    a.stops f.next f.more f.is f.one (
      b.begins.0,
      f.within ++ b.begins.1,
      subst (λ z. IsReport z b.begins.0)
          (ap (λ z. z ++ b.begins.1) (f.front ∙ ap (λ z. a.front ++ z) (sym (append_assoc f.next (10 ∷ []) f.within)) ∙ sym (append_assoc a.front (line f.next) f.within))
          ∙ append_assoc (a.front ++ line f.next) f.within b.begins.1)
          b.begins.2,
    )

-- two stops of the same bytes are at one line
pub stops_one : (bytes : List ℕ) (m n : ℕ) → IsFirstUnread bytes m → IsFirstUnread bytes n → m ≡ n
stops_one bytes m n a b = let up = not_before bytes m n a b in let down = not_before bytes n m b a in omega arith

-- an event that would pass a limit is read as that
full_reads : (h : History) (e : Event) (tail : List ℕ) → IsKeepable h → event_fits e ≡ true → passes_limit h e ≡ true →
    report_of (front_text h ++ (line (line_text (length h.events) (Told e)) ++ tail)) ≡ Err (Stop.Full (next_line one_lines h))
full_reads h e tail k fits passes =
    front_read one_lines h (line (line_text (length h.events) (Told e)) ++ tail) k
    ∙ line_read one_lines h (next_line one_lines h) (Told e) tail k.few fits
    ∙ ap (λ b. if b then Err (Stop.Full (next_line one_lines h)) else read_lines (with_event h e) (suc (next_line one_lines h)) (lines_of tail)) passes

-- the line at which a limit would be passed is the first with which no report begins
pub full_stops : (bytes : List ℕ) (n : ℕ) → IsFirstFull bytes n → IsFirstUnread bytes n
full_stops bytes n f = record {
  front = front_text f.history;
  rest = line (line_text (length f.history.events) (Told f.event)) ++ f.rest;
  splits = f.splits;
  numbered = f.numbered;
  begins = begins_with one_lines f.history f.keepable;
  stops = λ next more r one begins.
      let t = line_text (length f.history.events) (Told f.event) in
      let same : t ≡ next = first_same t f.rest next more (one_lines.lines (length f.history.events) (Told f.event) (let few = f.keepable.few in omega arith) f.fits) one (sym (append_assoc t (10 ∷ []) f.rest) ∙ r) in
      let read : report_of ((front_text f.history ++ line next) ++ begins.1) ≡ Ok begins.0 = all_full ((front_text f.history ++ line next) ++ begins.1) begins.0 begins.2 in
      let full : report_of ((front_text f.history ++ line t) ++ begins.1) ≡ Err (Stop.Full (next_line one_lines f.history)) =
      ap report_of (append_assoc (front_text f.history) (line t) begins.1) ∙ full_reads f.history f.event begins.1 f.keepable f.fits f.passes in
      let both : Err (Stop.Full (next_line one_lines f.history)) ≡ Ok begins.0 = sym full ∙ (ap (λ z. report_of ((front_text f.history ++ line z) ++ begins.1)) same ∙ read) in
      absurd (cc);
}

-- a limit that would be passed is told
pub full_found : (bytes : List ℕ) (n : ℕ) → IsFirstFull bytes n → report_of bytes ≡ Err (Stop.Full n)
full_found bytes n f =
    let r : report_of bytes ≡ Err (Stop.Full (next_line one_lines f.history)) = ap report_of f.splits ∙ full_reads f.history f.event f.rest f.keepable f.fits f.passes in
    let same = stops_one bytes (next_line one_lines f.history) n (full_stops bytes (next_line one_lines f.history) (all_past_limit bytes (next_line one_lines f.history) r)) (full_stops bytes n f) in
    r ∙ ap (λ m. Err (Stop.Full m)) same

-- and else the first line with which no report begins is
pub unread_found : (bytes : List ℕ) (n : ℕ) → IsFirstUnread bytes n → HasNoReport bytes → IsNeverFull bytes → report_of bytes ≡ Err (Stop.Unread n)
unread_found bytes n unread no_report no_limit = by_result (report_of bytes) refl
  where
    by_result : (r : Result History Stop) → report_of bytes ≡ r → r ≡ Err (Stop.Unread n)
    by_result (Ok h) e = absurd (no_report h (all_sound bytes h e))
    by_result (Err (Stop.Unread m)) e = ap (λ k. Err (Stop.Unread k)) (stops_one bytes m n (all_unread bytes m e) unread)
    by_result (Err (Stop.Full m)) e = absurd (no_limit m (all_past_limit bytes m e))
