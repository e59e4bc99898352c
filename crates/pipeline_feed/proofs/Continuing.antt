-- What operations make of a list that is longer, and which elements come to their `distinct`s then.
use Rattle.std.proofs.Common.{◌≡◌, Bool, true, false, cond, not, ◌&&◌, ◌||◌, List, [], ◌∷◌, ◌++◌, drop, length, get_or, arith, refl, sym, ◌∙◌, ap, true≢false}
use Rattle.std.proofs.lemmas.Cmp.{eq_by_cmp_equiv}
use Rattle.std.proofs.lemmas.List.{map-append}
use Rattle.std.proofs.lemmas.List.Concat.{flat_map-append}
use Rattle.std.proofs.lemmas.List.Elements.{filter-append}
use Rattle.std.proofs.lemmas.List.Folds.{list_any-append}
use Rattle.std.specs.Cmp.{Equal-is}
use Rattle.std.specs.FinSet as set
use Rattle.std.specs.List.{filter, list_all}
use Rattle.std.specs.Ordering.{eq_by_cmp}
use Rattle.grid_base.specs.Datum.{same_item}
use Rattle.grid_base.specs.declared.item.Item.{Item}
use Rattle.grid_base.specs.declared.item.Item.TheVariants as items
use Rattle.pipeline_expr.specs.declared.op.Op.{Op}
use Rattle.pipeline_expr.specs.declared.op.Op.TheVariants as op
use Rattle.pipeline_eval.proofs.SeenLemmas.{tied_same}
use Rattle.pipeline_eval.specs.Evaluation.{value_of}
use Rattle.pipeline_eval.specs.Lists.{distinct}
use Rattle.pipeline_eval.specs.Pipes.{op_items, ops_items, spread_items}
use Rattle.pipeline_eval.specs.Seen.{item_cmp}
use Rattle.pipeline_eval.specs.Values.{is_on}
use Rattle.pipeline_feed.specs.Fed.{Elements, arrivals, Gives, Learns}
use Rattle.pipeline_feed.proofs.ElementOrder.{item_total, item_exact}
use Rattle.pipeline_feed.proofs.SetLaws.{among, same, union_has}

-- an operation other than `distinct` makes of two lists joined what it makes of each
plain_append : (o : Op) → (o ≡ op.Distinct → ⊥) → (xs ys : List Item) → op_items o (xs ++ ys) ≡ op_items o xs ++ op_items o ys
plain_append (op.Filter e) other xs ys = filter-append (λ x. is_on (value_of e x)) xs ys
plain_append (op.Map e) other xs ys = map-append (λ x. items.Datum (value_of e x)) xs ys
plain_append (op.FlatMap spread) other xs ys = flat_map-append (spread_items spread) xs ys
plain_append op.Distinct other xs ys = absurd (other refl)

-- and has no set of its own
plain_arrivals : (o : Op) → (o ≡ op.Distinct → ⊥) → (ops : List Op) (xs : List Item) → arrivals (o ∷ ops) xs ≡ arrivals ops (op_items o xs)
plain_arrivals (op.Filter e) other ops xs = refl
plain_arrivals (op.Map e) other ops xs = refl
plain_arrivals (op.FlatMap spread) other ops xs = refl
plain_arrivals op.Distinct other ops xs = absurd (other refl)

-- elements are the same where the order ties them
same_is : (a b : Item) → same_item a b ≡ eq_by_cmp item_cmp b a
same_is a b = sym (tied_same a b) ∙ (eq_by_cmp_equiv item_total).symm a b

-- of two tests in turn, both have to be passed
filter_both : (p q r : Item → Bool) → ((x : Item) → r x ≡ (p x && q x)) → (xs : List Item) → filter p (filter q xs) ≡ filter r xs
filter_both p q r both [] = refl
filter_both p q r both (x ∷ xs) =
    let rest : filter p (filter q xs) ≡ filter r xs = filter_both p q r both xs in
    elim (q x) as (λ b. q x ≡ b → filter p (cond b (x ∷ filter q xs) (filter q xs)) ≡ cond (r x) (x ∷ filter r xs) (filter r xs)) [
      | true ↦ λ e. λ i. cond ((and_true (p x) ∙ ap (λ b. p x && b) (sym e) ∙ sym (both x)) i) (x ∷ rest i) (rest i)
      | false ↦ λ e. rest ∙ ap (λ b. cond b (x ∷ filter r xs) (filter r xs)) (sym (both x ∙ ap (λ b. p x && b) e ∙ and_false (p x)))
    ] refl
  where
    and_true : (a : Bool) → a ≡ (a && true)
    and_true true = refl
    and_true false = refl

    and_false : (a : Bool) → (a && false) ≡ false
    and_false true = refl
    and_false false = refl

-- a test that each element passes changes nothing
filter_every : (p : Item → Bool) → ((x : Item) → p x ≡ true) → (xs : List Item) → filter p xs ≡ xs
filter_every p every [] = refl
filter_every p every (x ∷ xs) = ap (λ b. cond b (x ∷ filter p xs) (filter p xs)) (every x) ∙ ap (λ ys. x ∷ ys) (filter_every p every xs)

-- `distinct` of a longer list goes on with those of the further elements that weren't among the first
distinct_behind : (done xs : List Item) → distinct (done ++ xs) ≡ distinct done ++ filter (λ x. not (among done x)) (distinct xs)
distinct_behind [] xs = sym (filter_every (λ x. true) (λ x. refl) (distinct xs))
distinct_behind (d ∷ done) xs =
    let other : Item → Bool = λ y. not (same_item d y) in
    ap (λ ys. d ∷ filter other ys) (distinct_behind done xs)
    ∙ ap (λ ys. d ∷ ys) (filter-append other (distinct done) (filter (λ x. not (among done x)) (distinct xs)))
    ∙ ap (λ ys. d ∷ (filter other (distinct done) ++ ys))
    (filter_both other (λ x. not (among done x)) (λ x. not (among (d ∷ done) x)) (λ x. neither (eq_by_cmp item_cmp x d) (same_item d x) (among done x) (sym (same_is d x))) (distinct xs))
  where
    neither : (a b c : Bool) → a ≡ b → not (a || c) ≡ (not b && not c)
    neither a b c e = ap (λ z. not (z || c)) e ∙ split b c
      where
        split : (b c : Bool) → not (b || c) ≡ (not b && not c)
        split true c = refl
        split false c = refl

-- a test that each element passes which is equal to q takes none of these away
among_filter : (p : Item → Bool) (q : Item) → ((x : Item) → eq_by_cmp item_cmp q x ≡ true → p x ≡ true) → (xs : List Item) → among (filter p xs) q ≡ among xs q
among_filter p q passes [] = refl
among_filter p q passes (x ∷ xs) =
    let rest : among (filter p xs) q ≡ among xs q = among_filter p q passes xs in
    elim (p x) as (λ b. p x ≡ b → among (cond b (x ∷ filter p xs) (filter p xs)) q ≡ (eq_by_cmp item_cmp q x || among xs q)) [
      | true ↦ λ _. ap (λ b. eq_by_cmp item_cmp q x || b) rest
      | false ↦ λ fails. rest ∙ ap (λ b. b || among xs q) (apart (eq_by_cmp item_cmp q x) (p x) (passes x) fails)
    ] refl
  where
    apart : (a b : Bool) → (a ≡ true → b ≡ true) → b ≡ false → false ≡ a
    apart true b h e = absurd (true≢false (sym (h refl) ∙ e))
    apart false b h e = refl

-- an element is among the first of equal ones where it is among all
among_distinct : (xs : List Item) (q : Item) → among (distinct xs) q ≡ among xs q
among_distinct [] q = refl
among_distinct (x ∷ xs) q =
    let other : Item → Bool = λ y. not (same_item x y) in
    let rest : among (distinct xs) q ≡ among xs q = among_distinct xs q in
    elim (eq_by_cmp item_cmp q x) as (λ b. eq_by_cmp item_cmp q x ≡ b → (b || among (filter other (distinct xs)) q) ≡ (b || among xs q)) [
      | true ↦ λ _. refl
      | false ↦ λ apart.
          among_filter other q (λ y ties. ap not (same_is x y ∙ ap (λ z. eq_by_cmp item_cmp z x) (sym (item_exact q y ((Equal-is (item_cmp q y)).0 ties))) ∙ apart)) (distinct xs)
          ∙ rest
    ] refl

-- what comes to `distinct` is what came to it, and what it lets pass
learnt_distinct : (done xs : List Item) → set.from_list {R = item_cmp} (done ++ xs) ≡ set.union (set.from_list done) (set.from_list (filter (λ x. not (among done x)) (distinct xs)))
learnt_distinct done xs =
    let passed = filter (λ x. not (among done x)) (distinct xs) in
    same _ _ (λ q.
    set.contains-from_list item_total (done ++ xs) q
    ∙ sym (among_distinct (done ++ xs) q)
    ∙ ap (λ ys. among ys q) (distinct_behind done xs)
    ∙ list_any-append (eq_by_cmp item_cmp q) (distinct done) passed
    ∙ ap (λ b. b || among passed q) (among_distinct done q ∙ sym (set.contains-from_list item_total done q))
    ∙ sym (union_has (set.from_list done) passed q))

-- operations without sets have none, whatever list they are given
no_arrivals : (ops : List Op) (xs ys : List Item) → [] ≡ arrivals ops xs → [] ≡ arrivals ops ys
no_arrivals [] xs ys none = refl
no_arrivals (op.Filter e ∷ ops) xs ys none = no_arrivals ops (op_items (op.Filter e) xs) (op_items (op.Filter e) ys) none
no_arrivals (op.Map e ∷ ops) xs ys none = no_arrivals ops (op_items (op.Map e) xs) (op_items (op.Map e) ys) none
no_arrivals (op.FlatMap spread ∷ ops) xs ys none = no_arrivals ops (op_items (op.FlatMap spread) xs) (op_items (op.FlatMap spread) ys) none
no_arrivals (op.Distinct ∷ ops) xs ys none = absurd (omega (arith, ap length none))

-- so no sets learn nothing
pub learns_nothing : (sets : List Elements) (ops : List Op) (items : List Item) → length sets ≡ 0 → Learns sets ops items sets
learns_nothing [] ops items none done known = no_arrivals ops done (done ++ items) known
learns_nothing (s ∷ sets) ops items none done known = absurd (omega arith)

module _ (sets : List Elements) (all rest : List Op) (items made : List Item) where
  module _ (o : Op) (first : all ≡ o ∷ rest) (other : o ≡ op.Distinct → ⊥) (makes : made ≡ op_items o items) where
    -- sets that know a list know what the operation makes of it
    known_behind : (done : List Item) → sets ≡ arrivals all done → sets ≡ arrivals rest (op_items o done)
    known_behind done known = known ∙ ap (λ ops. arrivals ops done) first ∙ plain_arrivals o other rest done

    -- and the operation makes of the items what comes behind that
    made_behind : (done : List Item) → op_items o (done ++ items) ≡ op_items o done ++ made
    made_behind done = plain_append o other done items ∙ ap (λ ys. op_items o done ++ ys) (sym makes)

    -- what comes out behind an operation other than `distinct` comes out behind all
    pub gives_plain : (further : List Item) → Gives sets rest made further → Gives sets all items further
    gives_plain further gives done known =
        ap (λ ops. ops_items ops (done ++ items)) first
        ∙ ap (ops_items rest) (made_behind done)
        ∙ gives (op_items o done) (known_behind done known)
        ∙ ap (λ ops. ops_items ops done ++ further) (sym first)

  module _ (s : Elements) (others : List Elements) (lacking : List Item) (parts : sets ≡ s ∷ others) (first : all ≡ op.Distinct ∷ rest) (makes : made ≡ distinct items) (lacks : lacking ≡ filter (λ x. not (set.contains s x)) made) where
    -- sets that know a list: the first has all of it, and the others know what is distinct in it
    known_parts : (done : List Item) → sets ≡ arrivals all done → s ∷ others ≡ set.from_list done ∷ arrivals rest (distinct done)
    known_parts done known = sym parts ∙ known ∙ ap (λ ops. arrivals ops done) first

    known_set : (done : List Item) → sets ≡ arrivals all done → s ≡ set.from_list done
    known_set done known = ap (λ ts. get_or ts 0 s) (known_parts done known)

    known_others : (done : List Item) → sets ≡ arrivals all done → others ≡ arrivals rest (distinct done)
    known_others done known = ap (λ ts. drop 1 ts) (known_parts done known)

    -- what the first lacks are the further elements of which none was in the list
    lacking_is : (done : List Item) → sets ≡ arrivals all done → lacking ≡ filter (λ x. not (among done x)) (distinct items)
    lacking_is done known =
        lacks ∙ (λ i. filter (λ x. not ((ap (λ t. set.contains t x) (known_set done known) ∙ set.contains-from_list item_total done x) i)) (makes i))

    -- and that is what `distinct` lets pass behind the list
    passed_behind : (done : List Item) → sets ≡ arrivals all done → distinct (done ++ items) ≡ distinct done ++ lacking
    passed_behind done known = distinct_behind done items ∙ ap (λ ys. distinct done ++ ys) (sym (lacking_is done known))

    -- what comes out behind a `distinct` of what its set lacks comes out behind all
    pub gives_distinct : (further : List Item) → Gives others rest lacking further → Gives sets all items further
    gives_distinct further gives done known =
        ap (λ ops. ops_items ops (done ++ items)) first
        ∙ ap (ops_items rest) (passed_behind done known)
        ∙ gives (distinct done) (known_others done known)
        ∙ ap (λ ops. ops_items ops done ++ further) (sym first)

    -- its set learns what it lacked, and the sets behind it learn the same
    pub learns_distinct : (n : Elements) (learnt : List Elements) → n ≡ set.union s (set.from_list lacking) → Learns others rest lacking learnt → Learns sets all items (n ∷ learnt)
    learns_distinct n learnt put learns done known =
        let own : n ≡ set.from_list (done ++ items) =
        put ∙ (λ i. set.union (known_set done known i) (set.from_list (lacking_is done known i))) ∙ sym (learnt_distinct done items) in
        let behind : learnt ≡ arrivals rest (distinct (done ++ items)) = learns (distinct done) (known_others done known) ∙ ap (arrivals rest) (sym (passed_behind done known)) in
        (λ i. own i ∷ behind i) ∙ ap (λ ops. arrivals ops (done ++ items)) (sym first)

-- what a set lacks of some elements it has none of
pub lacking_lacks : (s : Elements) (made lacking : List Item) → lacking ≡ filter (λ x. not (set.contains s x)) made → list_all (λ x. not (set.contains s x)) lacking ≡ true
lacking_lacks s made lacking lacks = ap (list_all (λ x. not (set.contains s x))) lacks ∙ each made
  where
    each : (xs : List Item) → list_all (λ x. not (set.contains s x)) (filter (λ x. not (set.contains s x)) xs) ≡ true
    each [] = refl
    each (x ∷ xs) =
        elim (not (set.contains s x)) as (λ b. not (set.contains s x) ≡ b → list_all (λ y. not (set.contains s y)) (cond b (x ∷ filter (λ y. not (set.contains s y)) xs) (filter (λ y. not (set.contains s y)) xs)) ≡ true) [
          | true ↦ λ e. ap (λ b. b && list_all (λ y. not (set.contains s y)) (filter (λ y. not (set.contains s y)) xs)) e ∙ each xs
          | false ↦ λ _. each xs
        ] refl
