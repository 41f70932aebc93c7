-- What each of the two writes of an appended record may leave.
use Rattle.std.specs.Int.{w32, to_be_bytes, from_be_bytes}
use Rattle.std.proofs.Common.{◌≡◌, ◌≢◌, ◌⊎◌, inl, inr, ℕ, ◌+◌, ◌^◌, ◌<◌, List, [], ◌∷◌, ◌++◌, length, get_or, take, drop, refl, sym, ◌∙◌, ap, subst, arith, append_assoc, length-append, take-append-drop}
use Rattle.std.proofs.lemmas.Bool.{cases_eq}
use Rattle.std.proofs.lemmas.Nat.{from_be_bytes-to_be_bytes_4}
use Rattle.std.proofs.lemmas.List.{append-nil, take_at, drop_at, drop_more}
use Rattle.ksi_disk.specs.Images.{laid_over, Torn}
use Rattle.ksi_disk.specs.declared.ending.Ending.TheVariants.{Closed}
use Rattle.ksi_disk.specs.Gates.{record_text, Reading, ends, behind, reading_at, reading_of}
use Rattle.ksi_disk.specs.Gates.{staged as staged_file}
use Rattle.ksi_disk.specs.Logs.{GatesStand, OpensTo, IsBeforeOrAfter, IsAfter}
use Rattle.ksi_disk.proofs.Readings.{closed_reading_at, read_record_at}
use Rattle.ksi_disk.proofs.Standing.{Stands}

module _ (from gate : ℕ) (file : List ℕ) (s : Stands from file gate) where
  abbrev records : List (List ℕ)
  records = (reading_of from file).records

  -- in front of another closed gate the same records are read, whatever stands behind it
  pub opens_before : (shut : ℕ) (rest : List ℕ) → shut ≢ 1 → OpensTo from (take from file) records (s.front ++ shut ∷ rest)
  opens_before shut rest closed =
      let read : reading_of from (s.front ++ shut ∷ rest) ≡ behind records (ends (Closed gate)) = s.goes (shut ∷ rest) ∙ ap (λ (r : Reading). behind records r) (closed_reading_at gate shut rest closed) in
      record {
        gate = gate;
        head = s.header (shut ∷ rest);
        kept = ap (λ (r : Reading). r.records) read ∙ append-nil records;
        closed = ap (λ (r : Reading). r.ending) read;
      }

  pub file_size : gate < length file
  file_size = omega (arith, ap length s.is, length-append s.front (s.shut ∷ s.rest), s.size)

  front_size : length (s.front ++ s.shut ∷ []) ≡ gate + 1
  front_size = omega (arith, length-append s.front (s.shut ∷ []), s.size)

  file_split : file ≡ (s.front ++ s.shut ∷ []) ++ s.rest
  file_split = s.is ∙ sym (append_assoc s.front (s.shut ∷ []) s.rest)

  up_to_gate : take (gate + 1) file ≡ s.front ++ s.shut ∷ []
  up_to_gate = ap (λ (l : List ℕ). take (gate + 1) l) file_split ∙ take_at (s.front ++ s.shut ∷ []) s.rest (gate + 1) front_size

  -- the standing gate is closed in each outcome of a write behind it
  pub torn_behind : (n : ℕ) (image : List ℕ) → Torn (gate + 1) n file image → OpensTo from (take from file) records image
  torn_behind n image torn =
      let rest = drop (gate + 1) image in
      let whole : image ≡ s.front ++ s.shut ∷ rest = sym (take-append-drop (gate + 1) image) ∙ ap (λ (l : List ℕ). l ++ rest) (torn.before ∙ up_to_gate) ∙ append_assoc s.front (s.shut ∷ []) rest in
      subst (λ (l : List ℕ). OpensTo from (take from file) records l) (sym whole) (opens_before s.shut rest s.closed)

  module _ (content : List ℕ) (short : length content < 2 ^ 32) where
    abbrev head : List ℕ
    head = to_be_bytes w32 (length content) ++ content

    abbrev text : List ℕ
    text = head ++ 0 ∷ []

    abbrev more : List ℕ
    more = drop (gate + 1 + length text) file

    pub staged : laid_over file (gate + 1) text ≡ s.front ++ s.shut ∷ (text ++ more)
    staged =
        ap (λ (l : List ℕ). l ++ text ++ more) up_to_gate
        ∙ append_assoc (s.front ++ s.shut ∷ []) text more
        ∙ append_assoc s.front (s.shut ∷ []) (text ++ more)

    pub staged_size : gate < length (laid_over file (gate + 1) text)
    staged_size = omega (arith, ap length staged, length-append s.front (s.shut ∷ (text ++ more)), s.size)

    abbrev next : ℕ
    next = gate + (5 + length content)

    -- behind an open gate the record is read, whatever stands behind the next one
    pub read_after : (rest : List ℕ) → reading_of from (s.front ++ 1 ∷ (text ++ rest)) ≡ behind records (behind (content ∷ []) (ends (Closed next)))
    read_after rest =
        let states : from_be_bytes w32 (to_be_bytes w32 (length content)) ≡ length content = from_be_bytes-to_be_bytes_4 (length content) short in
        let one_more : reading_at gate (1 ∷ (text ++ rest)) ≡ behind (content ∷ []) (ends (Closed next)) =
        ap (λ (l : List ℕ). reading_at gate (1 ∷ l)) (append_assoc head (0 ∷ []) rest)
        ∙ read_record_at head (0 ∷ rest) (length content) (omega arith) states gate
        ∙ ap (λ (r : Reading). behind (content ∷ []) r) (closed_reading_at next 0 rest (omega arith)) in
        s.goes (1 ∷ (text ++ rest)) ∙ ap (λ (r : Reading). behind records r) one_more

    pub opens_after : (rest : List ℕ) → OpensTo from (take from file) (records ++ content ∷ []) (s.front ++ 1 ∷ (text ++ rest))
    opens_after rest = record {
      gate = next;
      head = s.header (1 ∷ (text ++ rest));
      kept = ap (λ (r : Reading). r.records) (read_after rest);
      closed = ap (λ (r : Reading). r.ending) (read_after rest);
    }

    pub opens_with : (gate_byte : ℕ) (rest : List ℕ) → IsBeforeOrAfter from file content (s.front ++ gate_byte ∷ (text ++ rest))
    opens_with gate_byte rest = elim (cases_eq gate_byte 1) [
      | inl is_open ↦ inr (subst (λ (k : ℕ). OpensTo from (take from file) (records ++ content ∷ []) (s.front ++ k ∷ (text ++ rest))) (sym is_open) (opens_after rest))
      | inr shut ↦ inl (opens_before gate_byte (text ++ rest) shut)
    ]

    staged_front : take gate (laid_over file (gate + 1) text) ≡ s.front
    staged_front = ap (λ (l : List ℕ). take gate l) staged ∙ take_at s.front (s.shut ∷ (text ++ more)) gate s.size

    staged_back : drop (gate + 1) (laid_over file (gate + 1) text) ≡ text ++ more
    staged_back =
        ap (λ (l : List ℕ). drop (gate + 1) l) (staged ∙ sym (append_assoc s.front (s.shut ∷ []) (text ++ more)))
        ∙ drop_at (s.front ++ s.shut ∷ []) (text ++ more) (gate + 1) front_size

    -- the record stands whole in each outcome of the write of its gate
    pub torn_gate : (image : List ℕ) → Torn gate 1 (laid_over file (gate + 1) text) image → IsBeforeOrAfter from file content image
    torn_gate image torn =
        let gate_byte = get_or image gate 0 in
        let rest : drop gate image ≡ gate_byte ∷ (text ++ more) = drop_more image gate 0 (omega (arith, torn.no_shorter, staged_size)) ∙ ap (λ (l : List ℕ). gate_byte ∷ l) (torn.after ∙ staged_back) in
        let whole : image ≡ s.front ++ gate_byte ∷ (text ++ more) = sym (take-append-drop gate image) ∙ (λ i. (torn.before ∙ staged_front) i ++ rest i) in
        subst (λ (l : List ℕ). IsBeforeOrAfter from file content l) (sym whole) (opens_with gate_byte more)

    pub opened : laid_over (laid_over file (gate + 1) text) gate (1 ∷ []) ≡ s.front ++ 1 ∷ (text ++ more)
    opened = (λ i. staged_front i ++ 1 ∷ [] ++ staged_back i) ∙ append_assoc s.front (1 ∷ []) (text ++ more)

    pub opened_is_after : IsAfter from file content (laid_over (laid_over file (gate + 1) text) gate (1 ∷ []))
    opened_is_after = subst (λ (l : List ℕ). IsAfter from file content l) (sym opened) (opens_after more)

    pub after_gate : (image : List ℕ) → Torn gate 1 (laid_over file (gate + 1) text) image → (take gate image ≡ take gate file) × (take (length text) (drop (gate + 1) image) ≡ text)
    after_gate image torn =
        let front_of : take gate file ≡ s.front = ap (λ (l : List ℕ). take gate l) s.is ∙ take_at s.front (s.shut ∷ s.rest) gate s.size in (
          torn.before ∙ staged_front ∙ sym front_of,
          ap (λ (l : List ℕ). take (length text) l) (torn.after ∙ staged_back) ∙ take_at text more (length text) refl,
        )

    pub opened_ending : (reading_of from (laid_over (laid_over file (gate + 1) text) gate (1 ∷ []))).ending ≡ Closed next
    opened_ending = ap (λ (l : List ℕ). (reading_of from l).ending) opened ∙ ap (λ (r : Reading). r.ending) (read_after more)

    -- the two writes are one of the record and a closed gate
    pub opened_at_once : laid_over (laid_over file (gate + 1) text) gate (1 ∷ []) ≡ laid_over file gate (record_text content ++ 0 ∷ [])
    opened_at_once =
        let front_of : take gate file ≡ s.front = ap (λ (l : List ℕ). take gate l) s.is ∙ take_at s.front (s.shut ∷ s.rest) gate s.size in
        let end : gate + 1 + length text ≡ gate + length (1 ∷ text) = omega arith in
        opened ∙ (λ i. sym front_of i ++ 1 ∷ (text ++ drop (end i) file)) ∙ sym (append_assoc (take gate file) (1 ∷ text) (drop (gate + length (1 ∷ text)) file))

    -- the same of the text that is written
    module _ (written : List ℕ) (same : written ≡ text) where
      pub torn_either : (image : List ℕ) → Torn (gate + 1) (length written) file image ⊎ Torn gate 1 (staged_file file gate written) image → IsBeforeOrAfter from file content image
      torn_either image (inl torn) = inl (torn_behind (length written) image torn)
      torn_either image (inr torn) = torn_gate image (subst (λ (l : List ℕ). Torn gate 1 (staged_file file gate l) image) same torn)

      pub gates_stand : (images : List ℕ → Type 0) → ((image : List ℕ) → images image → Torn (gate + 1) (length written) file image) ⊎ ((image : List ℕ) → images image → Torn gate 1 (staged_file file gate written) image)
          → GatesStand gate file content images
      gates_stand images (inl torn) = inl (λ image left. (torn image left).before)
      gates_stand images (inr torn) = inr (λ image left. after_gate image (subst (λ (l : List ℕ). Torn gate 1 (staged_file file gate l) image) same (torn image left)))

      pub written_twice : laid_over (staged_file file gate written) gate (1 ∷ []) ≡ laid_over (staged_file file gate text) gate (1 ∷ [])
      written_twice = ap (λ (l : List ℕ). laid_over (staged_file file gate l) gate (1 ∷ [])) same
