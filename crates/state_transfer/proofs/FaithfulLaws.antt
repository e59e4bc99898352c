-- What keeps a transfer faithful at a key.
use Rattle.std.proofs.Common.{◌≡◌, ℕ, Bool, true, false, cond, not, ◌&&◌, ◌||◌, Option, Some, None, refl, sym, ap, subst, ◌∙◌}
use Rattle.std.proofs.lemmas.Bool.{true≢false}
use Rattle.grid_base.specs.declared.stamped.Stamped.{Stamped}
use Rattle.container_seg.specs.Lifespans.{is_fresh, left}
use Rattle.state_transfer.specs.Faithful.{IsFaithful}
use Rattle.state_transfer.proofs.CellLaws.{either}

-- a transfer that begins, where nothing stands at the receiver
pub faithful_start : (a b : Option Stamped) → a ≡ None → IsFaithful false true false None a b
faithful_start a b none = (refl, (none, λ e. absurd (true≢false (sym e))))

-- what flies to a key where nothing stands, as the map has it, is faithful
flown : (last : Bool) (f a : Option Stamped) → a ≡ None → IsFaithful false false last f a f
flown last None a none = none
flown last (Some v) a none = (none, refl)

-- a chunk is sent: it has what should stand at the keys between the last key sent before and the last key sent now
pub faithful_copy : (t p p2 l l2 : Bool) (f a b : Option Stamped) → IsFaithful t p l None a b → f ≡ cond (p && not p2) b None
    → (p2 ≡ true → p ≡ true) → (l2 ≡ true → p2 ≡ true → b ≡ None) → IsFaithful t p2 l2 f a b
faithful_copy true p p2 l l2 f a b h given further whole = h
faithful_copy false true true l l2 f a b h given further whole = (given, (h.1.0, λ e. whole e refl))
faithful_copy false true false l l2 f a b h given further whole = subst (λ o. IsFaithful false false l2 f a o) given (flown l2 f a h.1.0)
faithful_copy false false true l l2 f a b h given further whole = absurd (true≢false (sym (further refl)))
faithful_copy false false false l l2 f a b h given further whole = subst (λ o. IsFaithful false false l2 o a b) (sym given) h

-- a chunk lands, but for touched keys
pub faithful_land : (t p l : Bool) (f a b : Option Stamped) → IsFaithful t p l f a b → IsFaithful t p l None (cond (not t) (either f a) a) b
faithful_land true p l f a b h = h
faithful_land false true l f a b h = (refl, (ap (λ o. either o a) h.0 ∙ h.1.0, h.1.1))
faithful_land false false l None a b h = h
faithful_land false false l (Some v) a b h = sym h.1

-- a key is changed where it should stand, and then at the receiver too, where it is touched: r the receiver is written, b the same segment, c the same key
pub faithful_change : (r b c t p l : Bool) (f a x o : Option Stamped) → (b ≡ true → r ≡ true) → IsFaithful t p l f a x
    → IsFaithful (cond (r && b) (c || t) t) p l f (cond (r && (b && c)) o a) (cond (b && c) o x)
faithful_change true true true t p l f a x o written h = refl
faithful_change true true false t p l f a x o written h = h
faithful_change true false c t p l f a x o written h = h
faithful_change false true c t p l f a x o written h = absurd (true≢false (sym (written refl)))
faithful_change false false c t p l f a x o written h = h

-- where nothing was, nothing is left
left_none : (clock : ℕ) (o : Option Stamped) → o ≡ None → left clock o ≡ None
left_none clock o e = ap (left clock) e

-- and so is what is left of it, or nothing
ticked_flown : (b : Bool) (last : Bool) (a : Option Stamped) (v : Stamped) → a ≡ None → IsFaithful false false last (cond b (Some v) None) a (cond b (Some v) None)
ticked_flown true last a v none = (none, refl)
ticked_flown false last a v none = none

-- what has expired goes everywhere
pub faithful_tick : (clock : ℕ) (t p l : Bool) (f a b : Option Stamped) → IsFaithful t p l f a b → IsFaithful t p l (left clock f) (left clock a) (left clock b)
faithful_tick clock true p l f a b h = ap (left clock) h
faithful_tick clock false true l f a b h = (left_none clock f h.0, (left_none clock a h.1.0, λ e. left_none clock b (h.1.1 e)))
faithful_tick clock false false l None a b h = ap (left clock) h
faithful_tick clock false false l (Some v) a b h =
    subst (λ o. IsFaithful false false l (left clock (Some v)) (left clock a) (left clock o)) (sym h.1) (ticked_flown (is_fresh clock (Some v)) l (left clock a) v (left_none clock a h.0))

-- where the last chunk was sent and none flies, all stands as it should
pub faithful_ended : (t p : Bool) (a b : Option Stamped) → IsFaithful t p true None a b → a ≡ b
faithful_ended true p a b h = h
faithful_ended false true a b h = h.1.0 ∙ sym (h.1.1 refl)
faithful_ended false false a b h = h
