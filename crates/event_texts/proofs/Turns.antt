-- The steps of the readers' loops.
use Rattle.std.proofs.Common.{◌≡◌, ℕ, zero, suc, ◌-◌, ◌<◌, List, [], ◌∷◌, ◌++◌, Ok, Err, Some, None, sym, ap, ◌∙◌, arith}
use Rattle.pipeline_parse.specs.Reading.{literal_at}
use Rattle.topology_phase.specs.Owners.{Hash}
use Rattle.event_texts.specs.Answers.{Gives, GivesInto}
use Rattle.event_texts.specs.Reading.{Reading, after, behind, by_word, hash_in, more, no_bar, owners, times}
use Rattle.event_texts.specs.declared.event_fault.EventFault.{EventFault}
use Rattle.event_texts.specs.declared.event_fault.EventFault.TheVariants.{BadEvent, NoMemory}

-- where some are left, the next one stands in front
pub times_step : {T : Type 0} (one : List ℕ → Reading T) (n : ℕ) (list : List T) (s : List ℕ) → 0 < n
    → times one n list s ≡ after (behind (32 ∷ []) one s) (λ t rest. times one (n - 1) (list ++ t ∷ []) rest)
times_step one zero list s some = absurd (omega arith)
times_step one (suc n) list s some =
    let back : n ≡ suc n - 1 = omega arith in
    ap (λ m. after (behind (32 ∷ []) one s) (λ t rest. times one m (list ++ t ∷ []) rest)) back

-- a hash is read by its first segment and the further ones
pub hash_read : (s front rest row : List ℕ) (done : Hash) (read : Reading Hash) → literal_at (32 ∷ []) s ≡ Ok front → owners front ≡ Some (row, rest) → done ≡ row ∷ []
    → more 59 owners no_bar 255 done rest ≡ read → hash_in s ≡ read
unfolding hash_in
hash_read s front rest row done read blank first is others =
    ap (λ o. by_word o (λ s. after (owners s) (λ row rest. more 59 owners no_bar 255 (row ∷ []) rest)) None) blank
    ∙ ap (λ r. after r (λ row rest. more 59 owners no_bar 255 (row ∷ []) rest)) first
    ∙ ap (λ d. more 59 owners no_bar 255 d rest) (sym is)
    ∙ others

-- a hash whose further segments are unread is unread
pub hash_missed : (s front rest row : List ℕ) (done made : Hash) (fault : EventFault) → literal_at (32 ∷ []) s ≡ Ok front → owners front ≡ Some (row, rest) → done ≡ row ∷ []
    → GivesInto made (Err fault) (more 59 owners no_bar 255 done rest) → Gives {A = Hash} (Err fault) (hash_in s)
hash_missed s front rest row done made BadEvent blank first is others = hash_read s front rest row done None blank first is others
hash_missed s front rest row done made NoMemory blank first is others = tt
