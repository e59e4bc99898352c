-- How a chunk lands entry by entry, the last one first, and how that is taken back.
use Rattle.std.proofs.Common.{◌≡◌, ℕ, suc, zero, ◌<◌, true, false, cond, List, [], ◌∷◌, ◌++◌, drop, length, reverse, get_or, Some, is_some, arith, refl, sym, ap, subst, ◌∙◌}
use Rattle.std.proofs.lemmas.List.{reverse-append}
use Rattle.std.specs.Cmp.{Equal-is, tied_itself}
use Rattle.std.specs.FinMap as map_of
use Rattle.std.specs.FinSet as set_of
use Rattle.grid_base.specs.declared.stamped.Stamped.{Stamped}
use Rattle.grid_base.specs.declared.stamped_entry.StampedEntry.{StampedEntry}
use Rattle.container_seg.specs.Lifespans.{left}
use Rattle.state_transfer.specs.Cells.{Cell, Cells, Keys, cell_cmp}
use Rattle.state_transfer.specs.Chunks.{landed_in}
use Rattle.state_transfer.specs.Copying.{copy_at}
use Rattle.state_transfer.specs.Landing.{TakesBack}
use Rattle.state_transfer.specs.declared.landing.Step.{Step}
use Rattle.state_transfer.proofs.CellLaws.{cells_total}
use Rattle.state_transfer.proofs.WriteLaws.{cell_put_back}

-- the cell of a node, a segment and a key
abbrev cell : ℕ → ℕ → List ℕ → Cell
cell node segment key = record { node = node; segment = segment; key = key }

-- what is left of a list from a place on begins with what stands there
pub drop_at : {X : Type 0} (i j : ℕ) (xs : List X) (x : X) → j ≡ suc i → i < length xs → get_or xs i x ≡ x → drop i xs ≡ x ∷ drop j xs
drop_at i j xs x e h is = here i xs h is ∙ ap (λ k. x ∷ drop k xs) (sym e)
  where
    here : {Y : Type 0} {y : Y} (i : ℕ) (ys : List Y) → i < length ys → get_or ys i y ≡ y → drop i ys ≡ y ∷ drop (suc i) ys
    here i [] h is = absurd (omega arith)
    here zero (z ∷ zs) h is = λ k. is k ∷ zs
    here (suc i) (z ∷ zs) h is = here i zs (omega arith) is

-- an entry whose key isn't touched is put
pub landed_put : (r s : ℕ) (touched : Keys) (e : StampedEntry) (es : List StampedEntry) (cells : Cells) → set_of.contains touched e.key ≡ false →
    map_of.insert (landed_in r s touched es cells) (cell r s e.key) e.stamped ≡ landed_in r s touched (e ∷ es) cells
unfolding landed_in
landed_put r s touched e es cells h = ap (λ b. cond b (landed_in r s touched es cells) (map_of.insert (landed_in r s touched es cells) (cell r s e.key) e.stamped)) (sym h)

-- one whose key is touched isn't
pub landed_passed : (r s : ℕ) (touched : Keys) (e : StampedEntry) (es : List StampedEntry) (cells : Cells) → set_of.contains touched e.key ≡ true → landed_in r s touched es cells ≡ landed_in r s touched (e ∷ es) cells
unfolding landed_in
landed_passed r s touched e es cells h = ap (λ b. cond b (landed_in r s touched es cells) (map_of.insert (landed_in r s touched es cells) (cell r s e.key) e.stamped)) (sym h)

-- of nothing, nothing lands
pub landed_none : (r s : ℕ) (touched : Keys) (cells : Cells) → cells ≡ landed_in r s touched [] cells
unfolding landed_in
landed_none r s touched cells = refl

-- with nothing done, nothing is to be taken back
pub nothing_done : (r s clock : ℕ) (steps : List Step) (cells : Cells) → steps ≡ [] → TakesBack r s clock (reverse steps) cells cells
nothing_done r s clock steps cells e = subst (λ ss. TakesBack r s clock (reverse ss) cells cells) (sym e) refl

-- one more step: the value is there, and what stood there before comes back
pub one_more : (r s clock : ℕ) (k : List ℕ) (v : Stamped) (steps more : List Step) (cells first : Cells) → more ≡ steps ++ record { key = k; before = copy_at cells r s k } ∷ [] → left clock (copy_at cells r s k) ≡ copy_at cells r s k
    → TakesBack r s clock (reverse steps) cells first → TakesBack r s clock (reverse more) (map_of.insert cells (cell r s k) v) first
one_more r s clock k v steps more cells first e lasts back =
    let step : Step = record { key = k; before = copy_at cells r s k } in
    let there : is_some (copy_at (map_of.insert cells (cell r s k) v) r s k) ≡ true =
    ap is_some (map_of.get-insert cells_total cells (cell r s k) v (cell r s k)) ∙ ap (λ b. is_some (cond b (Some v) (copy_at cells r s k))) ((Equal-is (cell_cmp (cell r s k) (cell r s k))).1 (tied_itself cells_total (cell r s k))) in
    subst (λ ss. TakesBack r s clock ss (map_of.insert cells (cell r s k) v) first) (sym (ap reverse e ∙ reverse-append steps (step ∷ [])))
    (there, (lasts, subst (λ m. TakesBack r s clock (reverse steps) m first) (sym (cell_put_back cells (cell r s k) (Some v))) back))

-- the last step is the first one to be taken back
pub last_step : (r s clock : ℕ) (steps rest : List Step) (step : Step) (cells first : Cells) → steps ≡ rest ++ step ∷ [] → TakesBack r s clock (reverse steps) cells first → TakesBack r s clock (step ∷ reverse rest) cells first
last_step r s clock steps rest step cells first e back = subst (λ ss. TakesBack r s clock ss cells first) (ap reverse e ∙ reverse-append rest (step ∷ [])) back

-- where no step is left, the cells are the first ones
pub all_back : (r s clock : ℕ) (steps : List Step) (cells first : Cells) → steps ≡ [] → TakesBack r s clock (reverse steps) cells first → cells ≡ first
all_back r s clock steps cells first e back = subst (λ ss. TakesBack r s clock (reverse ss) cells first) e back
