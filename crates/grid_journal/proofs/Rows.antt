-- The first owners, by the places of their rows.
use Rattle.std.proofs.Common.{◌≡◌, ℕ, zero, suc, ◌+◌, ◌%◌, ◌<◌, min, List, [], ◌∷◌, length, map, get_or, refl, sym, ap, ◌∙◌, arith}
use Rattle.std.proofs.lemmas.List.FromFn.{fill_by_all, get_or-range_with_len, length-range_with_len, length-map-range_with_len, get_or-map-range_with_len}
use Rattle.std.specs.List.{join_with_byte, range_with_len}
use Rattle.std.specs.Fmt.{decimal}
use Rattle.grid_event.specs.declared.config.Config.{Config}
use Rattle.hash_factory.specs.Formulas.{created, created_owners}
use Rattle.grid_journal.specs.Reports.{first_hash, first_nodes}
use Rattle.event_texts.specs.Topologies.{hash_text, owners_text}

-- the first owner of a segment at a place
abbrev pub first_owner_text : Config → ℕ → ℕ → List ℕ
first_owner_text config segment place = decimal ((segment + place) % config.nodes)

-- the first owners of a segment
abbrev pub first_row_text : Config → ℕ → List ℕ
first_row_text config segment = owners_text (created_owners (first_nodes config) segment config.owners)

-- texts of a made row
twice : {A B : Type 0} (f : A → B) (g : ℕ → A) (a n : ℕ) → map f (map g (range_with_len a n)) ≡ map (λ k. f (g k)) (range_with_len a n)
twice f g a zero = refl
twice f g a (suc n) = ap (λ rest. f (g a) ∷ rest) (twice f g (a + 1) n)

-- the same texts at each place are the same row
alike : {A : Type 0} (f g : ℕ → A) (d : A) (n : ℕ) → ((k : ℕ) → k < n → f k ≡ g k) → map f (range_with_len 0 n) ≡ map g (range_with_len 0 n)
alike f g d n same =
    fill_by_all g (map f (range_with_len 0 n)) n d (length-map-range_with_len f 0 n) (λ k lt. get_or-map-range_with_len f 0 n k k d lt (omega arith) ∙ same k lt)

-- the first hash, segment by segment
pub first_hash_whole : (config : Config) → join_with_byte 59 (map (first_row_text config) (range_with_len 0 config.segments)) ≡ hash_text (first_hash config)
unfolding hash_text created
first_hash_whole config =
    ap (join_with_byte 59) (sym (twice owners_text (λ s. created_owners (first_nodes config) s config.owners) 0 config.segments))

-- the first owners of a segment, place by place
pub first_owners_whole : (config : Config) (segment : ℕ) → 0 < config.nodes
    → join_with_byte 44 (map (first_owner_text config segment) (range_with_len 0 (min config.owners config.nodes))) ≡ first_row_text config segment
first_owners_whole config segment some =
    ap (join_with_byte 44)
    (alike (first_owner_text config segment) (λ j. decimal (owner j)) [] (min config.owners config.nodes) same
    ∙ ap (λ n. map (λ j. decimal (owner j)) (range_with_len 0 (min config.owners n))) (sym (length-range_with_len 0 config.nodes))
    ∙ sym (twice decimal owner 0 (min config.owners (length (first_nodes config)))))
  where
    owner : ℕ → ℕ
    owner j = get_or (first_nodes config) ((segment + j) % length (first_nodes config)) 0

    same : (k : ℕ) → k < min config.owners config.nodes → first_owner_text config segment k ≡ decimal (owner k)
    same k lt =
        let long = length-range_with_len 0 config.nodes in
        let there : get_or (range_with_len 0 config.nodes) ((segment + k) % config.nodes) 0 ≡ 0 + (segment + k) % config.nodes =
        get_or-range_with_len 0 config.nodes ((segment + k) % config.nodes) 0 (omega arith) in
        let number : 0 + (segment + k) % config.nodes ≡ (segment + k) % config.nodes = omega arith in
        ap decimal (sym (ap (λ n. get_or (range_with_len 0 config.nodes) ((segment + k) % n) 0) long ∙ there ∙ number))
