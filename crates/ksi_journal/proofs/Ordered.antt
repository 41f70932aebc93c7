-- The kinds of a journal file, its size, and that what it holds is a journal.
use Rattle.std.proofs.Common.{◌≡◌, ℕ, ◌<◌, ◌≤◌, List, [], ◌∷◌, ◌++◌, length, map, refl, sym, ap, subst, ◌∙◌, arith, append_assoc, length-append}
use Rattle.std.proofs.lemmas.List.Elements.{All-drop}
use Rattle.ksi_tlv.specs.Spelling.{Tlv, AreBytes}
use Rattle.ksi_tlv.specs.Walking.{PlacedTlv}
use Rattle.ksi_tlv.specs.Writing.{texts}
use Rattle.ksi_aggtree.specs.declared.second.Second.{Second}
use Rattle.ksi_tlv.specs.Kinds.{kinds_of}
use Rattle.ksi_tlv.proofs.Steps.{Bounded, file_kinds}
use Rattle.ksi_journal.specs.declared.version.Version.{Version}
use Rattle.ksi_journal.specs.declared.version.Version.TheVariants.{One, Two}
use Rattle.ksi_journal.specs.Journal.{Contents, IsJournal}
use Rattle.ksi_journal.specs.File.{magic, journal_format, IsJournalFile}
use Rattle.ksi_journal.specs.Written.{voters_element, item_element, seconds_elements, issued_element, publication_element, journal_elements, text_in}
use Rattle.ksi_journal.specs.Kinds.{item_kind, seconds_kinds, journal_kinds, IsInOrder}
use Rattle.ksi_journal.proofs.Spelled.{Read, Matches, shorter, bytes_inside}
use Rattle.ksi_journal.proofs.Items.{item_same}
use Rattle.ksi_journal.proofs.Walked.{Sound, walked_told}

-- ---- kinds

abbrev all_kinds : List Tlv → List ℕ
all_kinds ts = map (λ t. t.kind) ts

same_kinds : (ts : List Tlv) (es : List PlacedTlv) → Matches ts es → kinds_of es ≡ all_kinds ts
same_kinds [] [] all = refl
same_kinds [] (at ∷ es) all = absurd all
same_kinds (t ∷ ts) [] all = absurd all
same_kinds (t ∷ ts) (at ∷ es) all = let one = all.0.kind in rw (← one, same_kinds ts es all.1) refl

kinds_each : {A : Type 0} (f : A → Tlv) (g : A → ℕ) → ((x : A) → (f x).kind ≡ g x) → (xs : List A) (rest : List Tlv) (ks : List ℕ) → all_kinds rest ≡ ks → all_kinds (map f xs ++ rest) ≡ map g xs ++ ks
kinds_each f g same [] rest ks e = e
kinds_each f g same (x ∷ xs) rest ks e = rw (same x, kinds_each f g same xs rest ks e) refl

seconds_same : (ss : List Second) (rest : List Tlv) (ks : List ℕ) → all_kinds rest ≡ ks → all_kinds (seconds_elements ss ++ rest) ≡ seconds_kinds ss ++ ks
seconds_same [] rest ks e = e
seconds_same (kept ∷ others) rest ks e =
    let inner = kinds_each item_element item_kind (λ item. item_same item item.name refl) kept.items (seconds_elements others ++ rest) (seconds_kinds others ++ ks) (seconds_same others rest ks e) in
    ap (λ (ns : List ℕ). 2 ∷ ns)
    (ap all_kinds (append_assoc (map item_element kept.items) (seconds_elements others) rest) ∙ inner ∙ sym (append_assoc (map item_kind kept.items) (seconds_kinds others) ks))

kinds_told : (journal : Contents) → all_kinds (journal_elements journal) ≡ journal_kinds journal
kinds_told journal =
    ap (λ (ns : List ℕ). 1 ∷ ns)
    (kinds_each voters_element (λ pair. 8) (λ pair. refl) journal.voters _ _
    (seconds_same journal.seconds _ _
    (kinds_each issued_element (λ signature. 4) (λ signature. refl) journal.issued _ _
    (kinds_each publication_element (λ publication. 5) (λ publication. refl) journal.publications _ _ refl))))

-- ---- files

behind_magic : (version : Version) (bytes rest : List ℕ) → bytes ≡ magic version ++ rest → AreBytes bytes → AreBytes rest
behind_magic One bytes rest begins are = All-drop (λ b. b < 256) 8 (magic One ++ rest) (subst AreBytes begins are)
behind_magic Two bytes rest begins are = All-drop (λ b. b < 256) 8 (magic Two ++ rest) (subst AreBytes begins are)

eight : (version : Version) → length (magic version) ≡ 8
eight One = refl
eight Two = refl

module _ (laws : Read) (bounded : Bounded) (image : List ℕ → List ℕ) (bytes : List ℕ) (journal : Contents) (are : AreBytes bytes) (is : IsJournalFile image bytes journal) where
  rest_bytes : AreBytes is.file.rest
  unfolding journal_format
  rest_bytes = behind_magic is.version bytes is.file.rest is.file.begins are

  all : Matches (journal_elements is.file.said.contents) is.file.whole.es × Sound image is.file.said
  unfolding journal_format
  all = walked_told laws bounded image is.version is.file.whole.es is.file.said is.file.whole.leads is.file.whole.ends
      (bytes_inside laws (length (magic is.version)) is.file.rest is.file.whole.es rest_bytes is.file.whole.split)

  pub in_order : IsInOrder bytes journal
  unfolding journal_format
  in_order = record {
    version = is.version;
    kinds = file_kinds (journal_format image is.version) journal_kinds bytes journal is.file
        (same_kinds (journal_elements is.file.said.contents) is.file.whole.es all.0 ∙ kinds_told is.file.said.contents);
  }

  pub no_longer : (version : Version) → length (text_in version journal) ≤ length bytes
  unfolding journal_format
  no_longer version =
      let le = shorter laws (journal_elements is.file.said.contents) (length (magic is.version)) is.file.rest is.file.whole.es rest_bytes is.file.whole.split all.0 in
      let same = ap (λ (j : Contents). length (text_in version j)) is.file.has in
      let whole = ap length is.file.begins in
      omega (arith, le, same, whole, length-append (magic version) (texts (journal_elements is.file.said.contents)), length-append (magic is.version) is.file.rest, eight version, eight is.version)

  pub is_journal : IsJournal image journal
  unfolding journal_format
  is_journal =
      let sound = all.1 in
      subst (IsJournal image) (sym is.file.has) (record {
        start = sound.start;
        voters = sound.voters.each;
        voters_rise = sound.voters.rises.rise;
        seconds = sound.seconds.each;
        seconds_rise = sound.seconds.rises.rise;
        issued = sound.issued.each;
        numbers_rise = sound.issued.rises.rise;
        publications = sound.publications.each;
        times_rise = sound.publications.rises.rise;
      })
