-- A history has at most one first fault.
use Rattle.std.proofs.Common.{◌≡◌, ℕ, zero, suc, ◌+◌, nat_lt, Bool, true, false, List, [], ◌∷◌, ◌++◌, length, reverse, refl, sym, ap, subst, ◌∙◌, arith}
use Rattle.std.proofs.lemmas.Bool.{ltb-false}
use Rattle.grid_event.specs.declared.event.Event.{Event}
use Rattle.audit_clauses.specs.Clauses.{Holds}
use Rattle.audit_clauses.specs.Faults.{rank}
use Rattle.audit_clauses.specs.Laws.{FaultsAreOne}
use Rattle.audit_clauses.specs.declared.clause.Clause.{Clause}
use Rattle.audit_clauses.specs.declared.clause.Clause.TheVariants as clauses

-- two ways in which a list falls into a front, an element and a rest: the one front and its element begin the other front; or the
-- other way round; or fronts and elements are the same
data Fronts {A : Type 0} (xs ys : List A) (x y : A) (us vs : List A) : Type 0 where
  Shorter : (more : List A) → ys ≡ xs ++ x ∷ more → Fronts xs ys x y us vs
  Longer : (more : List A) → xs ≡ ys ++ y ∷ more → Fronts xs ys x y us vs
  Same : xs ≡ ys → x ≡ y → Fronts xs ys x y us vs

-- two splits of the same list are related so
fronts : {A : Type 0} (xs ys : List A) (x y : A) (us vs : List A) → xs ++ x ∷ us ≡ ys ++ y ∷ vs → Fronts xs ys x y us vs
fronts [] [] x y us vs e = Same refl (cc)
fronts [] (b ∷ ys) x y us vs e = Shorter ys (let h : x ≡ b = cc in ap (λ c. c ∷ ys) (sym h))
fronts (a ∷ xs) [] x y us vs e = Longer xs (let h : a ≡ y = cc in ap (λ c. c ∷ xs) h)
fronts (a ∷ xs) (b ∷ ys) x y us vs e =
    let h : a ≡ b = cc in let rest : xs ++ x ∷ us ≡ ys ++ y ∷ vs = cc in by_rest h (fronts xs ys x y us vs rest)
  where
    by_rest : a ≡ b → Fronts xs ys x y us vs → Fronts (a ∷ xs) (b ∷ ys) x y us vs
    by_rest h (Shorter more is) = Shorter more (ap (λ c. c ∷ ys) (sym h) ∙ ap (λ zs. a ∷ zs) is)
    by_rest h (Longer more is) = Longer more (ap (λ c. c ∷ xs) h ∙ ap (λ zs. b ∷ zs) is)
    by_rest h (Same same is) = Same (ap (λ c. c ∷ xs) h ∙ ap (λ zs. b ∷ zs) same) is

-- the clause of a place in the order
clause_at : ℕ → Clause
clause_at zero = clauses.Shape
clause_at (suc zero) = clauses.Cause
clause_at (suc (suc zero)) = clauses.Value
clause_at (suc (suc (suc zero))) = clauses.Items
clause_at (suc (suc (suc (suc zero)))) = clauses.Stable
clause_at (suc (suc (suc (suc (suc zero))))) = clauses.Twice
clause_at (suc (suc (suc (suc (suc (suc zero)))))) = clauses.Often
clause_at (suc (suc (suc (suc (suc (suc (suc n))))))) = clauses.Held

-- the clause at the place of a clause is that one
ranked : (clause : Clause) → clause_at (rank clause) ≡ clause
unfolding clause_at
ranked clauses.Shape = refl
ranked clauses.Cause = refl
ranked clauses.Value = refl
ranked clauses.Items = refl
ranked clauses.Stable = refl
ranked clauses.Twice = refl
ranked clauses.Often = refl
ranked clauses.Held = refl

-- of two first faults the front of neither goes past the other, and neither clause comes first
pub one : FaultsAreOne
one config events a b first second f g = by_fronts (fronts f.before g.before f.event g.event f.later g.later (sym f.splits ∙ g.splits))
  where
    by_fronts : Fronts f.before g.before f.event g.event f.later g.later → (a ≡ b) × (first ≡ second)
    by_fronts (Shorter more is) = absurd (f.fails (g.faultless f.before f.event more is first))
    by_fronts (Longer more is) = absurd (g.fails (f.faultless g.before g.event more is second))
    by_fronts (Same same is) =
        let place = f.placed ∙ ap (λ (es : List Event). length es + 1) same ∙ sym g.placed in
        (place, by_order (nat_lt (rank first) (rank second)) (nat_lt (rank second) (rank first)) refl refl)
      where
        there : (which : Clause) → Holds which config (reverse f.before) f.event → Holds which config (reverse g.before) g.event
        there which h = subst (λ (es : List Event). Holds which config (reverse es) g.event) same (subst (Holds which config (reverse f.before)) is h)

        back : (which : Clause) → Holds which config (reverse g.before) g.event → Holds which config (reverse f.before) f.event
        back which h = subst (λ (es : List Event). Holds which config (reverse es) f.event) (sym same) (subst (Holds which config (reverse g.before)) (sym is) h)

        by_order : (p q : Bool) → nat_lt (rank first) (rank second) ≡ p → nat_lt (rank second) (rank first) ≡ q → first ≡ second
        by_order true q lt gt = absurd (f.fails (back first (g.earlier first lt)))
        by_order false true lt gt = absurd (g.fails (there second (f.earlier second gt)))
        by_order false false lt gt =
            let up = ltb-false (rank first) (rank second) lt in let down = ltb-false (rank second) (rank first) gt in
            let equal : rank first ≡ rank second = omega arith in
            sym (ranked first) ∙ ap clause_at equal ∙ ranked second
