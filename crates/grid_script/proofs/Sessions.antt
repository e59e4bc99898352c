-- How the sessions of a live script are numbered.
use Rattle.std.proofs.Common.{◌≡◌, ℕ, suc, ◌+◌, ◌≤◌, true, ◌&&◌, ◌==◌, nat_le, List, [], ◌∷◌, ◌++◌, length, refl, ap, ◌∙◌, arith, eqb-true}
use Rattle.std.proofs.lemmas.Bool.{and_parts, eq-eqb, leb-true}
use Rattle.std.proofs.lemmas.List.{length-append}
use Rattle.grid_script.specs.declared.deed.Deed.{Deed}
use Rattle.grid_script.specs.declared.section.Section.{Section}
use Rattle.grid_script.specs.declared.section.Section.TheVariants as section
use Rattle.grid_script.specs.declared.session.Session.{Session}
use Rattle.grid_script.specs.LiveLines.{all_sessions, section_with, sessions_begun}
use Rattle.grid_script.specs.Scripts.{are_numbered}

-- a number that passes the test is the next one
pub is_next : (n begun : ℕ) → ((n == begun + 1) && nat_le n 16) ≡ true → n ≡ begun + 1
is_next n begun e = eqb-true n (begun + 1) (and_parts (n == begun + 1) (nat_le n 16) e).0

-- a number that passes the test is one of 16
pub is_one_of_few : (n begun : ℕ) → ((n == begun + 1) && nat_le n 16) ≡ true → n ≤ 16
is_one_of_few n begun e = leb-true n 16 (and_parts (n == begun + 1) (nat_le n 16) e).1

-- one more session has the next number
pub numbered_more : (n : ℕ) (sessions : List Session) (session : Session) → are_numbered n sessions ≡ true → session.number ≡ n + length sessions
    → are_numbered n (sessions ++ session ∷ []) ≡ true
numbered_more n [] session e at = ap (λ t. t && true) (eq-eqb session.number n (omega (arith, at)))
numbered_more n (first ∷ sessions) session e at =
    let parts = and_parts (first.number == n) (are_numbered (suc n) sessions) e in
    ap (λ t. t && are_numbered (suc n) (sessions ++ session ∷ [])) parts.0 ∙ numbered_more (suc n) sessions session parts.1 (omega (arith, at))

-- the sessions before the last one are numbered, and it has the next number
numbered_less : (n : ℕ) (sessions : List Session) (session : Session) → are_numbered n (sessions ++ session ∷ []) ≡ true
    → (are_numbered n sessions ≡ true) × (session.number ≡ n + length sessions)
numbered_less n [] session e =
    let parts = and_parts (session.number == n) true e in
    let same : session.number ≡ n = eqb-true session.number n parts.0 in
    (refl, omega (arith, same))
numbered_less n (first ∷ sessions) session e =
    let parts = and_parts (first.number == n) (are_numbered (suc n) (sessions ++ session ∷ [])) e in
    let rest = numbered_less (suc n) sessions session parts.1 in
    let at = rest.1 in
    (ap (λ t. t && are_numbered (suc n) sessions) parts.0 ∙ rest.0, omega (arith, at))

-- as many sessions as were begun
pub begun_length : (complete : List Session) (section : Section) → length (all_sessions complete section) ≡ sessions_begun complete section
begun_length complete section.Start = refl
begun_length complete section.Load = refl
begun_length complete section.Changes = refl
begun_length complete (section.Session session) = length-append complete (session ∷ [])

-- a deed changes no number
pub deed_keeps : (complete : List Session) (section : Section) (deed : Deed) → are_numbered 1 (all_sessions complete section) ≡ true
    → are_numbered 1 (all_sessions complete (section_with section deed)) ≡ true
deed_keeps complete section.Start deed e = e
deed_keeps complete section.Load deed e = e
deed_keeps complete section.Changes deed e = e
deed_keeps complete (section.Session session) deed e =
    let before = numbered_less 1 complete session e in
    numbered_more 1 complete (record { number = session.number; home = session.home; orders = session.orders ++ deed ∷ [] }) before.0 before.1
