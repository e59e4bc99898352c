-- What is read is a report, each report is read, and where reading stops no report goes on.
use Rattle.std.proofs.Common.{◌≡◌, ℕ, suc, zero, ◌+◌, ◌-◌, ◌≤◌, ◌<◌, ◌==◌, nat_lt, nat_le, Bool, true, false, ◌&&◌, ◌||◌, if◌then◌else◌, List, [], ◌∷◌, ◌++◌, length, Option, Some, None, Result, Ok, Err, refl, sym, ap, ◌∙◌, subst, arith, append_assoc}
use Rattle.std.proofs.lemmas.List.{append-nil}
use Rattle.grid_base.proofs.DatumLemmas.{same_bytes_decides}
use Rattle.grid_base.specs.Datum.{same_bytes}
use Rattle.grid_event.specs.Configs.{is_config}
use Rattle.grid_event.specs.Histories.{History, blank, passes_limit, with_event, with_idle}
use Rattle.grid_event.specs.declared.config.Config.{Config}
use Rattle.grid_event.specs.declared.event.Event.{Event}
use Rattle.event_texts.specs.Fits.{event_fits}
use Rattle.grid_journal.specs.Reports.{config_text, first_text, line, report_text}
use Rattle.text_lines.specs.Lines.{Line, feeds, is_one_line, lines_of}
use Rattle.report_reading.specs.OneLines.{OneLines}
use Rattle.report_reading.specs.ReportLines.{ReportLine, Note, Told, End, config_of, line_fits, line_of, line_text}
use Rattle.report_reading.specs.ReportReading.{Stop, at_end, read_first, read_head, read_lines, read_second, report_of, with_line}
use Rattle.report_reading.specs.WholeReports.{BeginsReport, IsFirstFull, IsFirstUnread, IsKeepable, IsReport, front_text}
use Rattle.text_lines.proofs.Cutting.{Cut, cut_of, lines_cut, none_left}
use Rattle.text_lines.proofs.Feeds.{feeds-append, feeds-none}
use Rattle.report_reading.proofs.Fronts.{front_read, goes_on, in_front, line_read, next_line}
use Rattle.report_reading.proofs.Keeping.{front_event, front_note, keep_event, keep_note, whole_text}
use Rattle.report_reading.proofs.LineLaws.{line_sound}

-- a line is closed by its feed
pub closed : (front t rest : List ℕ) → front ++ (t ++ 10 ∷ rest) ≡ (front ++ line t) ++ rest
closed front t rest = ap (λ z. front ++ z) (sym (append_assoc t (10 ∷ []) rest)) ∙ sym (append_assoc front (line t) rest)

-- a line more has one line feed more
feeds_line : (front t : List ℕ) → is_one_line t ≡ true → feeds (front ++ line t) ≡ feeds front + 1
feeds_line front t one = let a = feeds-append front (line t) in let b = feeds-append t (10 ∷ []) in let c = feeds-none t one in omega arith

-- the bytes of the first of two equal lists of lines
same_first : (a b : List ℕ) (xs ys : List Line) → record { bytes = a; ended = true } ∷ xs ≡ record { bytes = b; ended = true } ∷ ys → a ≡ b
same_first a b xs ys e = ap first_bytes e
  where
    first_bytes : List Line → List ℕ
    first_bytes [] = []
    first_bytes (l ∷ ls) = l.bytes

module _ (L : OneLines) where
  -- each report is read
  pub reads : (bytes : List ℕ) (h : History) → IsReport bytes h → report_of bytes ≡ Ok h
  reads bytes h is =
      ap report_of (sym is.text ∙ whole_text h ∙ ap (λ z. front_text h ++ z) (sym (append-nil (line (line_text (length h.events) End)))))
      ∙ (front_read L h (line (line_text (length h.events) End) ++ []) is.keepable
      ∙ line_read L h (next_line L h) End [] is.keepable.few refl)

  -- what the lines say behind a history makes a report with its front
  pub read_is : (lines : List Line) (h : History) (n : ℕ) (bytes : List ℕ) (made : History) → lines_of bytes ≡ lines → IsKeepable h → read_lines h n lines ≡ Ok made → IsReport (front_text h ++ bytes) made
  read_is [] h n bytes made e k is = absurd (cc)
  read_is (first ∷ lines) h n bytes made e k is =
      by_cut (cut_of bytes) (λ rest next more good. read_is lines next (suc n) rest made more good)
    where
      Later : Type 0
      Later = (rest : List ℕ) (next : History) → lines_of rest ≡ lines → IsKeepable next → read_lines next (suc n) lines ≡ Ok made → IsReport (front_text next ++ rest) made

      by_line : (t rest : List ℕ) → bytes ≡ t ++ 10 ∷ rest → is_one_line t ≡ true → lines_of rest ≡ lines → (o : Option ReportLine) → line_of (length h.events) t ≡ o →
          with_line h n o (λ next. read_lines next (suc n) lines) (at_end h (suc n) lines) ≡ Ok made → Later → IsReport (front_text h ++ bytes) made
      by_line t rest b one more None o is later = absurd (cc)
      by_line t rest b one more (Some (Note number)) o is later =
          let l = line_sound (length h.events) t (Note number) o in
          subst (λ z. IsReport z made) (ap (λ z. z ++ rest) (front_note h number k ∙ ap (λ z. front_text h ++ line z) l.0) ∙ sym (closed (front_text h) t rest) ∙ ap (λ z. front_text h ++ z) (sym b))
          (later rest (with_idle h number) more (keep_note h number k l.1) is)
      by_line t rest b one more (Some (Told event)) o is later = by_room (passes_limit h event) refl is
        where
          by_room : (full : Bool) → passes_limit h event ≡ full → (if full then Err (Stop.Full n) else read_lines (with_event h event) (suc n) lines) ≡ Ok made → IsReport (front_text h ++ bytes) made
          by_room true room is = absurd (cc)
          by_room false room is =
              let l = line_sound (length h.events) t (Told event) o in
              subst (λ z. IsReport z made) (ap (λ z. z ++ rest) (front_event h event k ∙ ap (λ z. front_text h ++ line z) l.0) ∙ sym (closed (front_text h) t rest) ∙ ap (λ z. front_text h ++ z) (sym b))
              (later rest (with_event h event) more (keep_event h event k l.1 room) is)
      by_line t rest b one more (Some End) o is later = by_end lines more is
        where
          by_end : (lines : List Line) → lines_of rest ≡ lines → at_end h (suc n) lines ≡ Ok made → IsReport (front_text h ++ bytes) made
          by_end (line ∷ lines) more is = absurd (cc)
          by_end [] more is =
              let l = line_sound (length h.events) t End o in
              let none = none_left rest more in
              let same : h ≡ made = cc in
              subst (IsReport (front_text h ++ bytes)) same (record {
                keepable = k;
                text = whole_text h ∙ (ap (λ z. front_text h ++ line z) l.0 ∙ (ap (λ z. front_text h ++ (t ++ 10 ∷ z)) (sym none) ∙ ap (λ z. front_text h ++ z) (sym b)));
              })

      tail_of : List Line → List Line
      tail_of [] = []
      tail_of (l ∷ ls) = ls

      by_cut : Cut bytes → Later → IsReport (front_text h ++ bytes) made
      by_cut (Cut.Nothing none) later = let nothing : [] ≡ first ∷ lines = ap lines_of (sym none) ∙ e in absurd (cc)
      by_cut (Cut.Last last) later =
          let one : record { bytes = bytes; ended = false } ∷ [] ≡ first ∷ lines = sym last ∙ e in
          let stopped : Err (Stop.Unread n) ≡ Ok made = ap (read_lines h n) one ∙ is in absurd (cc)
      by_cut (Cut.Whole t rest b one) later =
          let cut : record { bytes = t; ended = true } ∷ lines_of rest ≡ first ∷ lines = sym (lines_cut t rest one) ∙ (ap lines_of (sym b) ∙ e) in
          let more : lines_of rest ≡ lines = ap tail_of cut in
          by_line t rest b one more (line_of (length h.events) t) refl
          (ap (λ ls. with_line h n (line_of (length h.events) t) (λ next. read_lines next (suc n) ls) (at_end h (suc n) ls)) (sym more) ∙ (ap (read_lines h n) cut ∙ is)) later

  -- a front that goes on with another line is no report's where reading stops at that line
  no_more : (h : History) (next : List ℕ) → IsKeepable h → is_one_line next ≡ true →
      ((rest : List ℕ) (made : History) → with_line h (next_line L h) (line_of (length h.events) next) (λ now. read_lines now (suc (next_line L h)) (lines_of rest)) (at_end h (suc (next_line L h)) (lines_of rest)) ≡ Ok made → ⊥) →
      BeginsReport (front_text h ++ line next) → ⊥
  no_more h next k one stops begins =
      let made = begins.0 in let rest = begins.1 in
      stops rest made
      (sym (goes_on h (next_line L h) next rest one)
      ∙ (sym (front_read L h (line next ++ rest) k)
      ∙ (ap report_of (sym (append_assoc (front_text h) (line next) rest)) ∙ reads ((front_text h ++ line next) ++ rest) made begins.2)))

  pub begins_with : (h : History) → IsKeepable h → BeginsReport (front_text h)
  begins_with h k = (h, line (line_text (length h.events) End), record { keepable = k; text = whole_text h })

  whole_begins : (h : History) → IsKeepable h → BeginsReport (front_text h ++ line (line_text (length h.events) End))
  whole_begins h k = (h, [], record { keepable = k; text = whole_text h ∙ sym (append-nil (front_text h ++ line (line_text (length h.events) End))) })

  -- where reading stops at a line, what comes before begins a report, and with the line it doesn't
  pub stops_at : (lines : List Line) (h : History) (n : ℕ) (bytes : List ℕ) (at : ℕ) → lines_of bytes ≡ lines → IsKeepable h → n ≡ feeds (front_text h) + 1 → read_lines h n lines ≡ Err (Stop.Unread at) →
      IsFirstUnread (front_text h ++ bytes) at
  stops_at [] h n bytes at e k counted is =
      let none = none_left bytes e in
      let same : n ≡ at = ap at_of is in
      record {
        front = front_text h;
        rest = bytes;
        splits = refl;
        numbered = sym same ∙ counted;
        begins = begins_with h k;
        stops = λ next more r one more_begins. (let nothing : [] ≡ next ++ 10 ∷ more = sym none ∙ r in absurd (no_feed next more nothing));
      }
    where
      at_of : Result History Stop → ℕ
      at_of (Ok made) = 0
      at_of (Err (Stop.Unread m)) = m
      at_of (Err (Stop.Full m)) = m

      no_feed : (next more : List ℕ) → [] ≡ next ++ 10 ∷ more → ⊥
      no_feed [] more e = absurd (cc)
      no_feed (b ∷ next) more e = absurd (cc)
  stops_at (first ∷ lines) h n bytes at e k counted is =
      by_cut (cut_of bytes) (λ rest next more good numbered. stops_at lines next (suc n) rest at more good numbered)
    where
      at_of : Result History Stop → ℕ
      at_of (Ok made) = 0
      at_of (Err (Stop.Unread m)) = m
      at_of (Err (Stop.Full m)) = m

      tail_of : List Line → List Line
      tail_of [] = []
      tail_of (l ∷ ls) = ls

      Later : Type 0
      Later = (rest : List ℕ) (next : History) → lines_of rest ≡ lines → IsKeepable next → suc n ≡ feeds (front_text next) + 1 → read_lines next (suc n) lines ≡ Err (Stop.Unread at) → IsFirstUnread (front_text next ++ rest) at

      -- the next line of the bytes is this one
      same_next : (t rest next more : List ℕ) → is_one_line t ≡ true → is_one_line next ≡ true → t ++ 10 ∷ rest ≡ next ++ 10 ∷ more → t ≡ next
      same_next t rest next more one other r = same_first t next (lines_of rest) (lines_of more) (sym (lines_cut t rest one) ∙ (ap lines_of r ∙ lines_cut next more other))

      by_line : (t rest : List ℕ) → bytes ≡ t ++ 10 ∷ rest → is_one_line t ≡ true → lines_of rest ≡ lines → (o : Option ReportLine) → line_of (length h.events) t ≡ o →
          with_line h n o (λ next. read_lines next (suc n) lines) (at_end h (suc n) lines) ≡ Err (Stop.Unread at) → Later → IsFirstUnread (front_text h ++ bytes) at
      by_line t rest b one more None o is later =
          let same : n ≡ at = ap at_of is in
          record {
            front = front_text h;
            rest = bytes;
            splits = refl;
            numbered = sym same ∙ counted;
            begins = begins_with h k;
            stops = λ next further r other. no_more h next k other (λ tail made goes.
                (let it : line_of (length h.events) next ≡ None = ap (line_of (length h.events)) (sym (same_next t rest next further one other (sym b ∙ r))) ∙ o in
                let err : Err (Stop.Unread (next_line L h)) ≡ Ok made = ap (λ o. with_line h (next_line L h) o (λ now. read_lines now (suc (next_line L h)) (lines_of tail)) (at_end h (suc (next_line L h)) (lines_of tail))) (sym it) ∙ goes in
                absurd (cc)));
          }
      by_line t rest b one more (Some (Note number)) o is later =
          let l = line_sound (length h.events) t (Note number) o in
          let grown : front_text (with_idle h number) ≡ front_text h ++ line t = front_note h number k ∙ ap (λ z. front_text h ++ line z) l.0 in
          subst (λ z. IsFirstUnread z at) (ap (λ z. z ++ rest) grown ∙ sym (closed (front_text h) t rest) ∙ ap (λ z. front_text h ++ z) (sym b))
          (later rest (with_idle h number) more (keep_note h number k l.1) (let a = feeds_line (front_text h) t one in let c = ap feeds grown in omega arith) is)
      by_line t rest b one more (Some (Told event)) o is later = by_room (passes_limit h event) refl is
        where
          by_room : (full : Bool) → passes_limit h event ≡ full → (if full then Err (Stop.Full n) else read_lines (with_event h event) (suc n) lines) ≡ Err (Stop.Unread at) → IsFirstUnread (front_text h ++ bytes) at
          by_room true room is = absurd (cc)
          by_room false room is =
              let l = line_sound (length h.events) t (Told event) o in
              let grown : front_text (with_event h event) ≡ front_text h ++ line t = front_event h event k ∙ ap (λ z. front_text h ++ line z) l.0 in
              subst (λ z. IsFirstUnread z at) (ap (λ z. z ++ rest) grown ∙ sym (closed (front_text h) t rest) ∙ ap (λ z. front_text h ++ z) (sym b))
              (later rest (with_event h event) more (keep_event h event k l.1 room) (let a = feeds_line (front_text h) t one in let c = ap feeds grown in omega arith) is)
      by_line t rest b one more (Some End) o is later = by_end lines is
        where
          by_end : (lines : List Line) → at_end h (suc n) lines ≡ Err (Stop.Unread at) → IsFirstUnread (front_text h ++ bytes) at
          by_end [] is = absurd (cc)
          by_end (line_behind ∷ lines) is =
              let l = line_sound (length h.events) t End o in
              let same : suc n ≡ at = ap at_of is in
              record {
                front = front_text h ++ line t;
                rest = rest;
                splits = ap (λ z. front_text h ++ z) b ∙ closed (front_text h) t rest;
                numbered = (let a = feeds_line (front_text h) t one in omega arith);
                begins = subst (λ z. BeginsReport (front_text h ++ line z)) l.0 (whole_begins h k);
                stops = λ next further r other begins.
                    (let made = begins.0 in let tail = begins.1 in
                    let read : report_of (((front_text h ++ line t) ++ line next) ++ tail) ≡ Ok made = reads (((front_text h ++ line t) ++ line next) ++ tail) made begins.2 in
                    let split : ((front_text h ++ line t) ++ line next) ++ tail ≡ front_text h ++ (line t ++ (line next ++ tail)) = append_assoc (front_text h ++ line t) (line next) tail ∙ append_assoc (front_text h) (line t) (line next ++ tail) in
                    let at_this : report_of (front_text h ++ (line t ++ (line next ++ tail))) ≡ at_end h (suc (next_line L h)) (lines_of (line next ++ tail)) =
                    front_read L h (line t ++ (line next ++ tail)) k
                    ∙ (goes_on h (next_line L h) t (line next ++ tail) one
                    ∙ ap (λ o. with_line h (next_line L h) o (λ now. read_lines now (suc (next_line L h)) (lines_of (line next ++ tail))) (at_end h (suc (next_line L h)) (lines_of (line next ++ tail)))) o) in
                    let more_left : at_end h (suc (next_line L h)) (lines_of (line next ++ tail)) ≡ Err (Stop.Unread (suc (next_line L h))) = ap (at_end h (suc (next_line L h))) (in_front next tail other) in
                    let both : Err (Stop.Unread (suc (next_line L h))) ≡ Ok made = sym more_left ∙ (sym at_this ∙ (ap report_of (sym split) ∙ read)) in
                    absurd (cc));
              }

      by_cut : Cut bytes → Later → IsFirstUnread (front_text h ++ bytes) at
      by_cut (Cut.Nothing none) later = let nothing : [] ≡ first ∷ lines = ap lines_of (sym none) ∙ e in absurd (cc)
      by_cut (Cut.Last last) later =
          let one : record { bytes = bytes; ended = false } ∷ [] ≡ first ∷ lines = sym last ∙ e in
          let stopped : Err (Stop.Unread n) ≡ Err (Stop.Unread at) = ap (read_lines h n) one ∙ is in
          let same : n ≡ at = ap at_of stopped in
          record {
            front = front_text h;
            rest = bytes;
            splits = refl;
            numbered = sym same ∙ counted;
            begins = begins_with h k;
            stops = λ next more r other begins. (let twice : record { bytes = bytes; ended = false } ∷ [] ≡ record { bytes = next; ended = true } ∷ lines_of more = sym last ∙ (ap lines_of r ∙ lines_cut next more other) in
                let flag : false ≡ true = ap first_ended twice in absurd (cc));
          }
        where
          first_ended : List Line → Bool
          first_ended [] = false
          first_ended (l ∷ ls) = l.ended
      by_cut (Cut.Whole t rest b one) later =
          let cut : record { bytes = t; ended = true } ∷ lines_of rest ≡ first ∷ lines = sym (lines_cut t rest one) ∙ (ap lines_of (sym b) ∙ e) in
          let more : lines_of rest ≡ lines = ap tail_of cut in
          by_line t rest b one more (line_of (length h.events) t) refl
          (ap (λ ls. with_line h n (line_of (length h.events) t) (λ next. read_lines next (suc n) ls) (at_end h (suc n) ls)) (sym more) ∙ (ap (read_lines h n) cut ∙ is)) later

  -- where the journal is full at a line, the line has the next event of a history, which would pass a limit
  pub full_at : (lines : List Line) (h : History) (n : ℕ) (bytes : List ℕ) (at : ℕ) → lines_of bytes ≡ lines → IsKeepable h → n ≡ feeds (front_text h) + 1 → read_lines h n lines ≡ Err (Stop.Full at) →
      IsFirstFull (front_text h ++ bytes) at
  full_at [] h n bytes at e k counted is = absurd (cc)
  full_at (first ∷ lines) h n bytes at e k counted is =
      by_cut (cut_of bytes) (λ rest next more good numbered. full_at lines next (suc n) rest at more good numbered)
    where
      at_of : Result History Stop → ℕ
      at_of (Ok made) = 0
      at_of (Err (Stop.Unread m)) = m
      at_of (Err (Stop.Full m)) = m

      tail_of : List Line → List Line
      tail_of [] = []
      tail_of (l ∷ ls) = ls

      Later : Type 0
      Later = (rest : List ℕ) (next : History) → lines_of rest ≡ lines → IsKeepable next → suc n ≡ feeds (front_text next) + 1 → read_lines next (suc n) lines ≡ Err (Stop.Full at) → IsFirstFull (front_text next ++ rest) at

      by_line : (t rest : List ℕ) → bytes ≡ t ++ 10 ∷ rest → is_one_line t ≡ true → lines_of rest ≡ lines → (o : Option ReportLine) → line_of (length h.events) t ≡ o →
          with_line h n o (λ next. read_lines next (suc n) lines) (at_end h (suc n) lines) ≡ Err (Stop.Full at) → Later → IsFirstFull (front_text h ++ bytes) at
      by_line t rest b one more None o is later = absurd (cc)
      by_line t rest b one more (Some (Note number)) o is later =
          let l = line_sound (length h.events) t (Note number) o in
          let grown : front_text (with_idle h number) ≡ front_text h ++ line t = front_note h number k ∙ ap (λ z. front_text h ++ line z) l.0 in
          subst (λ z. IsFirstFull z at) (ap (λ z. z ++ rest) grown ∙ sym (closed (front_text h) t rest) ∙ ap (λ z. front_text h ++ z) (sym b))
          (later rest (with_idle h number) more (keep_note h number k l.1) (let a = feeds_line (front_text h) t one in let c = ap feeds grown in omega arith) is)
      by_line t rest b one more (Some (Told event)) o is later = by_room (passes_limit h event) refl is
        where
          by_room : (full : Bool) → passes_limit h event ≡ full → (if full then Err (Stop.Full n) else read_lines (with_event h event) (suc n) lines) ≡ Err (Stop.Full at) → IsFirstFull (front_text h ++ bytes) at
          by_room true room is =
              let l = line_sound (length h.events) t (Told event) o in
              let same : n ≡ at = ap at_of is in
              record {
                history = h;
                event = event;
                rest = rest;
                keepable = k;
                fits = l.1;
                passes = room;
                numbered = sym same ∙ counted;
                splits = ap (λ z. front_text h ++ z) (b ∙ (sym (append_assoc t (10 ∷ []) rest) ∙ ap (λ z. line z ++ rest) (sym l.0)));
              }
          by_room false room is =
              let l = line_sound (length h.events) t (Told event) o in
              let grown : front_text (with_event h event) ≡ front_text h ++ line t = front_event h event k ∙ ap (λ z. front_text h ++ line z) l.0 in
              subst (λ z. IsFirstFull z at) (ap (λ z. z ++ rest) grown ∙ sym (closed (front_text h) t rest) ∙ ap (λ z. front_text h ++ z) (sym b))
              (later rest (with_event h event) more (keep_event h event k l.1 room) (let a = feeds_line (front_text h) t one in let c = ap feeds grown in omega arith) is)
      by_line t rest b one more (Some End) o is later = by_end lines is
        where
          by_end : (lines : List Line) → at_end h (suc n) lines ≡ Err (Stop.Full at) → IsFirstFull (front_text h ++ bytes) at
          by_end [] is = absurd (cc)
          by_end (line_behind ∷ lines) is = absurd (cc)

      by_cut : Cut bytes → Later → IsFirstFull (front_text h ++ bytes) at
      by_cut (Cut.Nothing none) later = let nothing : [] ≡ first ∷ lines = ap lines_of (sym none) ∙ e in absurd (cc)
      by_cut (Cut.Last last) later =
          let one : record { bytes = bytes; ended = false } ∷ [] ≡ first ∷ lines = sym last ∙ e in
          let stopped : Err (Stop.Unread n) ≡ Err (Stop.Full at) = ap (read_lines h n) one ∙ is in absurd (cc)
      by_cut (Cut.Whole t rest b one) later =
          let cut : record { bytes = t; ended = true } ∷ lines_of rest ≡ first ∷ lines = sym (lines_cut t rest one) ∙ (ap lines_of (sym b) ∙ e) in
          let more : lines_of rest ≡ lines = ap tail_of cut in
          by_line t rest b one more (line_of (length h.events) t) refl
          (ap (λ ls. with_line h n (line_of (length h.events) t) (λ next. read_lines next (suc n) ls) (at_end h (suc n) ls)) (sym more) ∙ (ap (read_lines h n) cut ∙ is)) later
