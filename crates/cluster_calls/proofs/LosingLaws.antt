-- Units are lost one after another: what is still to be lost, and to be booked of it.
use Rattle.std.proofs.Common.{◌≡◌, ◌≢◌, inl, inr, ℕ, suc, ◌+◌, ◌-◌, ◌≤◌, ◌<◌, Bool, true, false, cond, ◌&&◌, ◌||◌, ◌==◌, List, [], ◌∷◌, ◌++◌, map, length, Option, Some, None, refl, sym, ap, subst, ◌∙◌, arith, length-set}
use Rattle.std.proofs.lemmas.Map.Keys.{below_from_sorted}
use Rattle.std.proofs.lemmas.Option.{get_or_from_slice_get}
use Rattle.std.specs.Option.{option_map}
use Rattle.std.specs.Prelude.{slice_get, slice_set}
use Rattle.pipeline_split.specs.Halves.{remote_of}
use Rattle.pipeline_split.specs.Pieces.{piece}
use Rattle.pipeline_split.specs.declared.piece.Piece.{Piece}
use Rattle.topology_phase.specs.Owners.{among}
use Rattle.cluster_model.specs.State.{Call, Calling, Unit, call_of, is_on, is_open_unit, with_loss}
use Rattle.cluster_calls.specs.Listed.{AreListed, AreThere, booking_of}
use Rattle.cluster_calls.specs.Parts.{booking_by, booking_in, is_booked, is_parted, read_of}
use Rattle.cluster_calls.proofs.BothLaws.{and_left, and_right}
use Rattle.cluster_calls.proofs.ListLaws.{get-map, get-set_other, same_some, set-map, set_cases, set_same, within_get}
use Rattle.cluster_calls.proofs.PartLaws.{is_counted}
use Rattle.cluster_calls.proofs.PartLists.{filter-set_out}
use Rattle.cluster_calls.proofs.PartQueries.{AreNewest}
use Rattle.cluster_calls.proofs.RightLaws.{and_none}
use Rattle.cluster_calls.proofs.RowTables.{equal}

-- a unit that passes the test is lost
abbrev pub lost_where : (Unit → Bool) → Option ℕ → Unit → Unit
lost_where passes at unit = cond (passes unit) (with_loss at unit) unit

-- and this is to be booked of it
abbrev pub booked_where : (Unit → Bool) → Option ℕ → Calling → Unit → Option Piece
booked_where passes at calling unit = cond (passes unit) (booking_in calling (with_loss at unit)) None

-- units of these numbers, from the place k on, are still to be lost where they pass the test, and all that pass are among them;
-- what is to be booked of each stands at its place
pub record AreLosing (passes : Unit → Bool) (at : Option ℕ) (numbers : List ℕ) (x : Calling) (k : ℕ) (made : List (Option Piece)) : Type 0 where
  pub there : AreThere x.units numbers
  pub ascend : (i j m n : ℕ) → slice_get numbers i ≡ Some m → slice_get numbers j ≡ Some n → i < j → m < n
  pub newest : AreNewest x.units
  pub wide : length made ≡ length numbers
  pub booked : (j n : ℕ) (u : Unit) → k ≤ j → slice_get numbers j ≡ Some n → slice_get x.units (n - 1) ≡ Some u → slice_get made j ≡ Some (booked_where passes at x u)
  pub all : (i : ℕ) (u : Unit) → slice_get x.units i ≡ Some u → passes u ≡ true → (j : ℕ) × (k ≤ j) × (slice_get numbers j ≡ Some (i + 1))

-- a number of a list stands at a place
place_of_number : (numbers : List ℕ) (n : ℕ) → among n numbers ≡ true → (j : ℕ) × (slice_get numbers j ≡ Some n)
place_of_number [] n h = absurd (cc)
place_of_number (m ∷ numbers) n h =
    elim (m == n) as (λ b. (m == n) ≡ b → (b || among n numbers) ≡ true → (j : ℕ) × (slice_get (m ∷ numbers) j ≡ Some n)) [
      | true ↦ λ tie e. (0, ap Some (equal m n tie))
      | false ↦ λ apart e. let rest = place_of_number numbers n e in (suc rest.0, rest.1)
    ] refl h

-- at first all of them are
pub losing_first : (passes : Unit → Bool) (at : Option ℕ) (numbers : List ℕ) (x : Calling) (made : List (Option Piece)) → AreListed passes x.units numbers → AreNewest x.units
    → made ≡ map (λ n. booking_of (booked_where passes at x) (slice_get x.units (n - 1))) numbers → AreLosing passes at numbers x 0 made
losing_first passes at numbers x made listed newest is = record {
  there = listed.there;
  ascend = λ i j m n im jn less.
      let low = get_or_from_slice_get numbers i m 0 im in
      let high = get_or_from_slice_get numbers j n 0 jn in
      omega (arith, below_from_sorted numbers i j 0 listed.ascending less (within_get numbers j n jn), low, high);
  newest = newest;
  wide = ap length is ∙ length-mapped numbers;
  booked = λ j n u low jn un.
      ap (λ (ms : List (Option Piece)). slice_get ms j) is
      ∙ get-map (λ m. booking_of (booked_where passes at x) (slice_get x.units (m - 1))) numbers j
      ∙ ap (option_map (λ m. booking_of (booked_where passes at x) (slice_get x.units (m - 1)))) jn
      ∙ ap (λ (o : Option Unit). Some (booking_of (booked_where passes at x) o)) un;
  all = λ i u iu h. let p = place_of_number numbers (i + 1) (listed.all i u iu h) in (p.0, omega arith, p.1);
}
  where
    length-mapped : (ns : List ℕ) → length (map (λ n. booking_of (booked_where passes at x) (slice_get x.units (n - 1))) ns) ≡ length ns
    length-mapped [] = refl
    length-mapped (n ∷ ns) = ap suc (length-mapped ns)

-- what is lost is closed
lost_closed : (passes : Unit → Bool) (at : Option ℕ) → ((u : Unit) → passes u ≡ true → is_open_unit u ≡ true) → (u : Unit) → passes (with_loss at u) ≡ false
lost_closed passes at opens u = by (passes (with_loss at u)) refl
  where
    by : (b : Bool) → passes (with_loss at u) ≡ b → b ≡ false
    by true h = absurd (let e : false ≡ true = opens (with_loss at u) h in cc)
    by false h = refl

-- and passes no longer
lost_out : (passes : Unit → Bool) (at : Option ℕ) → ((u : Unit) → passes u ≡ true → is_open_unit u ≡ true) → (u : Unit) → passes (lost_where passes at u) ≡ false
lost_out passes at opens u =
    elim (passes u) as (λ b. passes u ≡ b → passes (cond b (with_loss at u) u) ≡ false) [
      | true ↦ λ h. lost_closed passes at opens u
      | false ↦ λ h. h
    ] refl

-- a unit that doesn't pass stays
pub stays : (passes : Unit → Bool) (at : Option ℕ) (u : Unit) → passes u ≡ false → lost_where passes at u ≡ u
stays passes at u h = ap (λ b. cond b (with_loss at u) u) h

-- units that are lost are lost once
pub map-lost : (passes : Unit → Bool) (at : Option ℕ) → ((u : Unit) → passes u ≡ true → is_open_unit u ≡ true) → (units : List Unit) (i : ℕ) (u : Unit) → slice_get units i ≡ Some u
    → map (lost_where passes at) (slice_set units i (lost_where passes at u)) ≡ map (lost_where passes at) units
map-lost passes at opens units i u here =
    let f = lost_where passes at in
    set-map f units i (f u)
    ∙ ap (slice_set (map f units) i) (stays passes at (f u) (lost_out passes at opens u))
    ∙ set_same (map f units) i (f u) (get-map f units i ∙ ap (option_map f) here)

-- where none passes, all stay
pub map-stays : (passes : Unit → Bool) (at : Option ℕ) (units : List Unit) → ((i : ℕ) (u : Unit) → slice_get units i ≡ Some u → passes u ≡ false) → map (lost_where passes at) units ≡ units
map-stays passes at [] none = refl
map-stays passes at (u ∷ units) none = λ k. stays passes at u (none 0 u refl) k ∷ map-stays passes at units (λ i z h. none (suc i) z h) k

-- a test that can't pass fails
refuted : (b : Bool) → (b ≡ true → ⊥) → b ≡ false
refuted true h = absurd (h refl)
refuted false h = refl

-- of two open units neither is of the other's call on its segment
elsewhere : (units : List Unit) (i j : ℕ) (u z : Unit) → AreNewest units → slice_get units i ≡ Some u → slice_get units j ≡ Some z → j ≢ i → is_open_unit u ≡ true → is_open_unit z ≡ true
    → is_on z.work.call z.work.segment u ≡ false
elsewhere units i j u z newest iu jz apart open_ other = refuted (is_on z.work.call z.work.segment u) (λ on.
    let called = equal u.work.call z.work.call (and_left (u.work.call == z.work.call) (u.work.segment == z.work.segment) on) in
    let here = equal u.work.segment z.work.segment (and_right (u.work.call == z.work.call) (u.work.segment == z.work.segment) on) in
    let low = newest i j u z iu jz open_ (sym called) (sym here) in
    let high = newest j i z u jz iu other called here in
    apart (omega (arith, low, high)))

-- what is to be booked of an open unit stays where another one is lost
booking_other : (units : List Unit) (i : ℕ) (u v w : Unit) (o : Option Call) → slice_get units i ≡ Some u → is_on w.work.call w.work.segment u ≡ false → v.work.call ≡ u.work.call → v.work.segment ≡ u.work.segment
    → booking_by (slice_set units i v) w o ≡ booking_by units w o
booking_other units i u v w None iu off call segment = refl
booking_other units i u v w (Some call_) iu off call segment =
    let off_then : is_on w.work.call w.work.segment v ≡ false = (λ k. (call k == w.work.call) && (segment k == w.work.segment)) ∙ off in
    ap (λ (us : List Unit). cond (is_parted call_ && is_booked call_ w) (Some (piece (remote_of call_.request.pipeline) (read_of (us ++ w ∷ [])))) None)
    (filter-set_out (is_counted w.work.call call_ w.work.segment) units i u v iu
    (and_none (is_on w.work.call w.work.segment u) (is_booked call_ u) off)
    (and_none (is_on w.work.call w.work.segment v) (is_booked call_ v) off_then))

-- a unit is lost that passes: the newest ones stay so
newest_lost : (units : List Unit) (i : ℕ) (u : Unit) (at : Option ℕ) → AreNewest units → slice_get units i ≡ Some u → AreNewest (slice_set units i (with_loss at u))
newest_lost units i u at newest iu j k y z jy kz open_ called here =
    elim (set_cases units i j (with_loss at u) y jy) [
      | inl e ↦ absurd (let closed : true ≡ false = sym open_ ∙ ap is_open_unit e.1 in cc)
      | inr e ↦ elim (set_cases units i k (with_loss at u) z kz) [
        | inl f ↦ omega (arith, newest j i y u e.1 iu open_ (sym (ap (λ (w : Unit). w.work.call) f.1) ∙ called) (sym (ap (λ (w : Unit). w.work.segment) f.1) ∙ here), f.0)
        | inr f ↦ newest j k y z e.1 f.1 open_ called here
      ]
    ]

-- the next unit passes and is lost
losing_one : (passes : Unit → Bool) (at : Option ℕ) → ((u : Unit) → passes u ≡ true → is_open_unit u ≡ true) → (numbers : List ℕ) (x : Calling) (k n : ℕ) (u : Unit) (made : List (Option Piece)) (left : Option Piece)
    → AreLosing passes at numbers x k made → slice_get numbers k ≡ Some n → slice_get x.units (n - 1) ≡ Some u → passes u ≡ true
    → AreLosing passes at numbers (record x { units = slice_set x.units (n - 1) (with_loss at u) }) (k + 1) (slice_set made k left)
losing_one passes at opens numbers x k n u made left kept kn nu is = record {
  there = λ j m jm. let h = kept.there j m jm in (h.0, omega (arith, h.1, length-set x.units (n - 1) (with_loss at u)));
  ascend = kept.ascend;
  newest = newest_lost x.units (n - 1) u at kept.newest nu;
  wide = length-set made k left ∙ kept.wide;
  booked = λ j m z low jm mz.
      let less = kept.ascend k j n m kn jm (omega (arith, low)) in
      let first = (kept.there k n kn).0 in
      elim (set_cases x.units (n - 1) (m - 1) (with_loss at u) z mz) [
        | inl e ↦ absurd (omega (arith, e.0, less, first))
        | inr e ↦
            get-set_other made k j left (λ same. absurd (omega (arith, same, low)))
            ∙ kept.booked j m z (omega (arith, low)) jm e.1
            ∙ ap Some (same_booking (m - 1) z e.0 e.1)
      ];
  all = λ i z iz h.
      let first = (kept.there k n kn).0 in
      elim (set_cases x.units (n - 1) i (with_loss at u) z iz) [
        | inl e ↦ absurd (let gone = sym h ∙ ap passes e.1 ∙ lost_closed passes at opens u in cc)
        | inr e ↦
            let was = kept.all i z e.1 h in
            (was.0, further was.0 was.1 (λ same. e.0 (let m : i + 1 ≡ n = same_some (i + 1) n (sym was.2 ∙ ap (slice_get numbers) same ∙ kn) in omega (arith, m))), was.2)
      ];
}
  where
    further : (j : ℕ) → k ≤ j → j ≢ k → k + 1 ≤ j
    further j low apart = omega (arith, low, apart)

    same_booking : (j : ℕ) (z : Unit) → j ≢ n - 1 → slice_get x.units j ≡ Some z → booked_where passes at x z ≡ booked_where passes at (record x { units = slice_set x.units (n - 1) (with_loss at u) }) z
    same_booking j z apart jz =
        elim (passes z) as (λ b. passes z ≡ b → cond b (booking_in x (with_loss at z)) None ≡ cond b (booking_in (record x { units = slice_set x.units (n - 1) (with_loss at u) }) (with_loss at z)) None) [
          | true ↦ λ h.
              sym (booking_other x.units (n - 1) u (with_loss at u) (with_loss at z) (call_of x z.work.call) nu
              (elsewhere x.units (n - 1) j u z kept.newest nu jz apart (opens u is) (opens z h)) refl refl)
          | false ↦ λ h. refl
        ] refl

-- the next unit doesn't pass
losing_none : (passes : Unit → Bool) (at : Option ℕ) (numbers : List ℕ) (x : Calling) (k n : ℕ) (u : Unit) (made : List (Option Piece)) (left : Option Piece)
    → AreLosing passes at numbers x k made → slice_get numbers k ≡ Some n → slice_get x.units (n - 1) ≡ Some u → passes u ≡ false → AreLosing passes at numbers x (k + 1) (slice_set made k left)
losing_none passes at numbers x k n u made left kept kn nu out = record {
  there = kept.there;
  ascend = kept.ascend;
  newest = kept.newest;
  wide = length-set made k left ∙ kept.wide;
  booked = λ j m z low jm mz. get-set_other made k j left (λ same. absurd (omega (arith, same, low))) ∙ kept.booked j m z (omega (arith, low)) jm mz;
  all = λ i z iz h.
      let was = kept.all i z iz h in (
        was.0,
        further was.0 was.1 (λ same.
            let first = (kept.there k n kn).0 in
            let m : i + 1 ≡ n = same_some (i + 1) n (sym was.2 ∙ ap (slice_get numbers) same ∙ kn) in
            let here : i ≡ n - 1 = omega (arith, m) in
            let alike = same_some z u (sym iz ∙ ap (slice_get x.units) here ∙ nu) in
            let gone = sym h ∙ ap passes alike ∙ out in
            absurd (cc)),
        was.2,
      );
}
  where
    further : (j : ℕ) → k ≤ j → j ≢ k → k + 1 ≤ j
    further j low apart = omega (arith, low, apart)

-- one more unit was looked at, and lost where it passes
pub losing_more : (passes : Unit → Bool) (at : Option ℕ) → ((u : Unit) → passes u ≡ true → is_open_unit u ≡ true) → (numbers : List ℕ) (x : Calling) (k n : ℕ) (u : Unit) (made : List (Option Piece)) (left : Option Piece)
    → AreLosing passes at numbers x k made → slice_get numbers k ≡ Some n → slice_get x.units (n - 1) ≡ Some u
    → AreLosing passes at numbers (record x { units = slice_set x.units (n - 1) (lost_where passes at u) }) (k + 1) (slice_set made k left)
losing_more passes at opens numbers x k n u made left kept kn nu =
    elim (passes u) as (λ b. passes u ≡ b → AreLosing passes at numbers (record x { units = slice_set x.units (n - 1) (cond b (with_loss at u) u) }) (k + 1) (slice_set made k left)) [
      | true ↦ λ h. losing_one passes at opens numbers x k n u made left kept kn nu h
      | false ↦ λ h.
          subst (λ (us : List Unit). AreLosing passes at numbers (record x { units = us }) (k + 1) (slice_set made k left)) (sym (set_same x.units (n - 1) u nu))
          (losing_none passes at numbers x k n u made left kept kn nu h)
    ] refl

-- at the end none passes
pub losing_last : (passes : Unit → Bool) (at : Option ℕ) (numbers : List ℕ) (x : Calling) (k : ℕ) (made : List (Option Piece)) → AreLosing passes at numbers x k made → length numbers ≤ k
    → map (lost_where passes at) x.units ≡ x.units
losing_last passes at numbers x k made kept end_ = map-stays passes at x.units (λ i u iu. refuted (passes u) (λ h.
    let was = kept.all i u iu h in
    absurd (omega (arith, was.1, within_get numbers was.0 (i + 1) was.2, end_))))
