-- The head of a report: its settings both ways, and its first topology, each in one line.
use Rattle.std.proofs.Common.{◌≡◌, ℕ, zero, suc, ◌+◌, ◌≤◌, ◌<◌, ◌^◌, ◌%◌, ◌==◌, nat_le, nat_lt, Bool, true, false, not, ◌&&◌, if◌then◌else◌, List, [], ◌∷◌, ◌++◌, map, length, Option, Some, None, refl, sym, ap, ◌∙◌, subst, arith, append_assoc}
use Rattle.std.specs.Fmt.{decimal}
use Rattle.std.specs.Prelude.{codes}
use Rattle.std.specs.List.{list_all, join_with_byte, range_with_len}
use Rattle.std.proofs.lemmas.Bool.{and_parts, le-leb, leb-true}
use Rattle.std.proofs.lemmas.List.{append-nil}
use Rattle.std.proofs.lemmas.Option.{none-some, same_Some}
use Rattle.grid_base.specs.declared.limits.TheConstants.{MOST_CHUNK, MOST_NODES, MOST_OWNERS, MOST_SEGMENTS}
use Rattle.grid_event.specs.Configs.{is_config, is_up_to}
use Rattle.grid_event.specs.declared.config.Config.{Config}
use Rattle.pipeline_expr.specs.declared.kind.ValueKind.{ValueKind}
use Rattle.pipeline_expr.specs.declared.kind.ValueKind.TheVariants as values
use Rattle.segment_hash.specs.declared.partition.Partition.{Partition}
use Rattle.segment_hash.specs.declared.partition.Partition.TheVariants as partitions
use Rattle.topology_phase.specs.declared.aim.Aim.{Aim}
use Rattle.topology_phase.specs.declared.aim.Aim.TheVariants as aims
use Rattle.event_texts.specs.Fits.{is_u16, is_u8}
use Rattle.event_texts.specs.Reading.{Reading, behind, choice, just, made, nothing, number_in, pairs, whole_of}
use Rattle.grid_journal.specs.Reports.{aim_text, config_text, kind_text, kinds_text, partition_text, sizes_text}
use Rattle.pipeline_parse.proofs.Full.{calm}
use Rattle.event_texts.proofs.NumberLaws.{end_is_calm, number_in_law}
use Rattle.event_texts.proofs.ReadLaws.{Law, Told, at_end, at_last, behind_law, behind_sound, choice_sound, just_behind, made_law, nothing_sound, pair_law}
use Rattle.text_lines.specs.Lines.{is_one_line}
use Rattle.report_reading.specs.ReportLines.{aim_in, config_in, config_of, partition_in, values_in, with_limits}
use Rattle.report_reading.proofs.OneLine.{both, one_decimal}

-- the numbers keep the ranges of their types
abbrev sizes_fit : Config → Bool
sizes_fit c = is_u8 c.nodes && (is_u16 c.segments && (is_u8 c.owners && (true && (true && (is_u16 c.chunk && true)))))

-- the partition is read exactly
partition_law : Law at_end (λ p. codes " partition " ++ partition_text p) (λ (p : Partition). true) partition_in
partition_law = record {
  sound = behind_sound (codes " partition ") partition_text (λ p. true)
      (choice_sound (codes "plain") partition_text (λ p. true) (just_behind (codes "plain") partitions.Plain partition_text (λ p. true) refl refl)
      (choice_sound (codes "grouped") partition_text (λ p. true) (just_behind (codes "grouped") partitions.Grouped partition_text (λ p. true) refl refl) (nothing_sound partition_text (λ p. true))));
  full = each;
}
  where
    each : (p : Partition) (y : List ℕ) → true ≡ true → at_end y ≡ true → partition_in ((codes " partition " ++ partition_text p) ++ y) ≡ Some (p, y)
    each partitions.Plain y keeps ended = refl
    each partitions.Grouped y keeps ended = refl

-- so is the kind of values
values_law : Law at_end (λ k. codes " values " ++ kind_text k) (λ (k : ValueKind). true) values_in
values_law = record {
  sound = behind_sound (codes " values ") kind_text (λ k. true)
      (choice_sound (codes "int") kind_text (λ k. true) (just_behind (codes "int") values.Int kind_text (λ k. true) refl refl)
      (choice_sound (codes "text") kind_text (λ k. true) (just_behind (codes "text") values.Text kind_text (λ k. true) refl refl)
      (choice_sound (codes "flag") kind_text (λ k. true) (just_behind (codes "flag") values.Flag kind_text (λ k. true) refl refl) (nothing_sound kind_text (λ k. true)))));
  full = each;
}
  where
    each : (k : ValueKind) (y : List ℕ) → true ≡ true → at_end y ≡ true → values_in ((codes " values " ++ kind_text k) ++ y) ≡ Some (k, y)
    each values.Int y keeps ended = refl
    each values.Text y keeps ended = refl
    each values.Flag y keeps ended = refl

-- the aim, where it is named
aim_law : Law at_last aim_text (λ (a : Aim). true) aim_in
aim_law = record {
  sound = choice_sound (codes " hash least") aim_text (λ a. true) (just_behind (codes " hash least") aims.Least aim_text (λ a. true) refl refl) not_named;
  full = each;
}
  where
    not_named : (s : List ℕ) (p : Aim × List ℕ) → just aims.Create s ≡ Some p → Told aim_text (λ (a : Aim). true) s p
    not_named = just_behind [] aims.Create aim_text (λ a. true) refl refl

    each : (a : Aim) (y : List ℕ) → true ≡ true → at_last y ≡ true → aim_in (aim_text a ++ y) ≡ Some (a, y)
    each aims.Create [] keeps ended = refl
    each aims.Create (b ∷ y) keeps ended = absurd (cc)
    each aims.Least y keeps ended = refl

-- no digit stands in front of it
aim_calm : (a : Aim) (y : List ℕ) → at_last y ≡ true → calm (aim_text a ++ y) ≡ true
aim_calm aims.Create [] ended = refl
aim_calm aims.Create (b ∷ y) ended = absurd (cc)
aim_calm aims.Least y ended = refl

-- numbers behind a word
u8_behind : (word : List ℕ) → Law calm (λ n. word ++ (32 ∷ decimal n)) is_u8 (behind word (number_in 255))
u8_behind word = behind_law word (number_in_law 255 (omega arith) (omega arith))

-- so is a number behind its word
u16_behind : (word : List ℕ) → Law calm (λ n. word ++ (32 ∷ decimal n)) is_u16 (behind word (number_in 65535))
u16_behind word = behind_law word (number_in_law 65535 (omega arith) (omega arith))

-- settings by the text of their parts in a row
abbrev row_text : Config → List ℕ
row_text c =
    (codes "grid nodes" ++ (32 ∷ decimal c.nodes)) ++ ((codes " segments" ++ (32 ∷ decimal c.segments)) ++ ((codes " owners" ++ (32 ∷ decimal c.owners))
    ++ ((codes " partition " ++ partition_text c.partition) ++ ((codes " values " ++ kind_text c.values) ++ ((codes " chunk" ++ (32 ∷ decimal c.chunk)) ++ aim_text c.aim)))))

-- so is the row of settings
row_law : Law at_last row_text sizes_fit config_in
row_law =
    made_law (λ (p : ℕ × (ℕ × (ℕ × (Partition × (ValueKind × (ℕ × Aim)))))). record { nodes = p.0; segments = p.1.0; owners = p.1.1.0; partition = p.1.1.1.0; values = p.1.1.1.1.0; chunk = p.1.1.1.1.1.0; aim = p.1.1.1.1.1.1 })
    (λ (c : Config). (c.nodes, (c.segments, (c.owners, (c.partition, (c.values, (c.chunk, c.aim))))))) row_text sizes_fit (λ c. refl) (λ p. refl) (λ p. refl)
    (pair_law (u8_behind (codes "grid nodes")) (pair_law (u16_behind (codes " segments")) (pair_law (u8_behind (codes " owners"))
    (pair_law partition_law (pair_law values_law (pair_law (u16_behind (codes " chunk")) aim_law aim_calm) (λ x y e. refl)) (λ x y e. refl)) (λ x y e. refl)) (λ x y e. refl)) (λ x y e. refl))

-- the same text, otherwise grouped
row_is : (c : Config) → config_text c ≡ row_text c
unfolding sizes_text kinds_text
row_is c = simp append_assoc refl

-- numbers in their limits are numbers of their types
limits_fit : (c : Config) → is_config c ≡ true → sizes_fit c ≡ true
limits_fit c h =
    let p = and_parts (is_up_to MOST_NODES c.nodes) _ h in
    let q = and_parts (is_up_to MOST_SEGMENTS c.segments) _ p.1 in
    let r = and_parts (is_up_to MOST_OWNERS c.owners) (is_up_to MOST_CHUNK c.chunk) q.1 in
    let a : is_u8 c.nodes ≡ true = le-leb c.nodes 255 (let x = leb-true c.nodes MOST_NODES (and_parts (nat_le 1 c.nodes) _ p.0).1 in omega arith) in
    let b : is_u16 c.segments ≡ true = le-leb c.segments 65535 (let x = leb-true c.segments MOST_SEGMENTS (and_parts (nat_le 1 c.segments) _ q.0).1 in omega arith) in
    let d : is_u8 c.owners ≡ true = le-leb c.owners 255 (let x = leb-true c.owners MOST_OWNERS (and_parts (nat_le 1 c.owners) _ r.0).1 in omega arith) in
    let e : is_u16 c.chunk ≡ true = le-leb c.chunk 65535 (let x = leb-true c.chunk MOST_CHUNK (and_parts (nat_le 1 c.chunk) _ r.1).1 in omega arith) in
    λ i. a i && (b i && (d i && (true && (true && (e i && true)))))

-- settings in their limits are read as they are written
pub settings_read : (c : Config) → is_config c ≡ true → config_of (config_text c) ≡ Some c
settings_read c h =
    ap config_of (row_is c ∙ sym (append-nil (row_text c)))
    ∙ ap (λ r. with_limits (whole_of r)) (row_law.full c [] (limits_fit c h) refl)
    ∙ ap (λ b. if b then Some c else None) h

-- a reading of the whole leaves nothing
whole_is : {A : Type 0} (r : Reading A) (a : A) → whole_of r ≡ Some a → r ≡ Some (a, [])
whole_is None a e = absurd (none-some a e)
whole_is (Some (x, [])) a e = ap (λ z. Some (z, [])) (same_Some x a e)
whole_is (Some (x, b ∷ s)) a e = absurd (none-some a e)

-- and what is read is their text
pub settings_only : (s : List ℕ) (c : Config) → config_of s ≡ Some c → (config_text c ≡ s) × (is_config c ≡ true)
settings_only s c e = by_limits (whole_of (config_in s)) refl e
  where
    by_good : (found : Config) → whole_of (config_in s) ≡ Some found → (b : Bool) → is_config found ≡ b → (if b then Some found else None) ≡ Some c → (config_text c ≡ s) × (is_config c ≡ true)
    by_good found is true good e =
        let same : found ≡ c = same_Some found c e in
        let l = row_law.sound s (found, []) (whole_is (config_in s) found is) in
        (ap config_text (sym same) ∙ (row_is found ∙ (sym (append-nil (row_text found)) ∙ sym l.0)), ap is_config (sym same) ∙ good)
    by_good found is false good e = absurd (none-some c e)

    by_limits : (o : Option Config) → whole_of (config_in s) ≡ o → with_limits o ≡ Some c → (config_text c ≡ s) × (is_config c ≡ true)
    by_limits None is e = absurd (none-some c e)
    by_limits (Some found) is e = by_good found is (is_config found) refl e

-- the settings are one line
partition_one : (p : Partition) → is_one_line (partition_text p) ≡ true
partition_one partitions.Plain = refl
partition_one partitions.Grouped = refl

-- the word of a kind of values is one line
kind_one : (k : ValueKind) → is_one_line (kind_text k) ≡ true
kind_one values.Int = refl
kind_one values.Text = refl
kind_one values.Flag = refl

-- so is that of an aim
aim_one : (a : Aim) → is_one_line (aim_text a) ≡ true
aim_one aims.Create = refl
aim_one aims.Least = refl

-- so are the settings
pub settings_one : (c : Config) → is_config c ≡ true → is_one_line (config_text c) ≡ true
settings_one c h =
    let f = limits_fit c h in
    let p = and_parts (is_u8 c.nodes) _ f in let q = and_parts (is_u16 c.segments) _ p.1 in let r = and_parts (is_u8 c.owners) _ q.1 in
    let u8 = λ (n : ℕ) (e : is_u8 n ≡ true). one_decimal n (let a = leb-true n 255 e in omega arith) in
    let u16 = λ (n : ℕ) (e : is_u16 n ≡ true). one_decimal n (let a = leb-true n 65535 e in omega arith) in
    let chunk = (codes " chunk" ++ (32 ∷ decimal c.chunk)) ++ aim_text c.aim in
    let kinds = (codes " values " ++ kind_text c.values) ++ chunk in
    let parts = (codes " partition " ++ partition_text c.partition) ++ kinds in
    let owners = (codes " owners" ++ (32 ∷ decimal c.owners)) ++ parts in
    let segments = (codes " segments" ++ (32 ∷ decimal c.segments)) ++ owners in
    ap is_one_line (row_is c)
    ∙ both (codes "grid nodes" ++ (32 ∷ decimal c.nodes)) segments (u8 c.nodes p.0)
    (both (codes " segments" ++ (32 ∷ decimal c.segments)) owners (u16 c.segments q.0)
    (both (codes " owners" ++ (32 ∷ decimal c.owners)) parts (u8 c.owners r.0)
    (both (codes " partition " ++ partition_text c.partition) kinds (partition_one c.partition)
    (both (codes " values " ++ kind_text c.values) chunk (kind_one c.values)
    (both (codes " chunk" ++ (32 ∷ decimal c.chunk)) (aim_text c.aim) (u16 c.chunk (and_parts (is_u16 c.chunk) true r.1).0) (aim_one c.aim))))))
