-- What is issued and what is extended are bytes, where all that they are made of are.
use Rattle.std.proofs.Common.{◌≡◌, ℕ, zero, suc, ◌+◌, ◌/◌, ◌%◌, ◌^◌, ◌<◌, ◌≤◌, Bool, true, false, cond, ltb, List, [], ◌∷◌, ◌++◌, length, drop, map, None, refl, arith}
use Rattle.std.specs.Prelude.{◌&&◌}
use Rattle.std.specs.Int.{w64, to_be_bytes, bytes_high_first, byte_at}
use Rattle.std.specs.List.{AllByRecursion}
use Rattle.std.proofs.lemmas.Bool.{cond_both, ltb-true}
use Rattle.std.proofs.lemmas.List.{length-append}
use Rattle.std.proofs.lemmas.List.Elements.{All-nil, All-cons, All-append, All-take, All-drop}
use Rattle.ksi_split.specs.declared.side.Side.{Side}
use Rattle.ksi_split.specs.declared.side.Side.TheVariants.{Left, Right}
use Rattle.ksi_split.specs.declared.tree_link.TreeLink.{TreeLink}
use Rattle.ksi_aggtree.specs.declared.chains.link.Link.{Link}
use Rattle.ksi_aggtree.specs.declared.chains.link.Sibling.{Sibling}
use Rattle.ksi_aggtree.specs.declared.chains.link.Sibling.TheVariants as siblings
use Rattle.ksi_tlv.specs.Spelling.{Tlv, plain, flags, short_form, long_form, canonical, AreBytes}
use Rattle.ksi_tlv.specs.Numerals.{without_zeros, numeral}
use Rattle.ksi_tlv.specs.Walking.{PlacedTlv}
use Rattle.ksi_tlv.specs.Writing.{texts}
use Rattle.ksi_tlv.specs.Published.{published_elements}
use Rattle.ksi_signature.specs.declared.above.AboveChain.{AboveChain}
use Rattle.ksi_signature.specs.declared.above.Above.{Above}
use Rattle.ksi_signature.specs.Values.{Calendar}
use Rattle.ksi_signature.specs.Carried.{SiblingOfBytes, LinksOfBytes, ChainOfBytes, CalendarOfBytes, IsOfBytes}
use Rattle.ksi_signature.specs.Reading.{elements_in}
use Rattle.ksi_signature.specs.Extended.{is_retained, text_in, retained_texts, extended_content, extended_text}
use Rattle.ksi_signature.specs.Issued.{index_of, issued_chains, own_chain, issued}
use Rattle.ksi_signature.specs.Written.{side_kind, sibling_element, correction_elements, link_elements, link_element, part_element, chain_element, calendar_link_element, calendar_elements, calendar_element, publishing_element, signature_elements, signature_text}
use Rattle.ksi_signature.proofs.Lasting.{bare}
use Rattle.ksi_signature.proofs.Skips.{all_both}

abbrev is_byte : ℕ → Type 0
is_byte b = b < 256

none_bytes : AreBytes []
none_bytes = All-nil is_byte

more_bytes : (b : ℕ) (bytes : List ℕ) → b < 256 → AreBytes bytes → AreBytes (b ∷ bytes)
more_bytes b bytes lt are = All-cons is_byte b bytes lt are

both_bytes : (one two : List ℕ) → AreBytes one → AreBytes two → AreBytes (one ++ two)
both_bytes one two are too = All-append is_byte one two are too

both_true : (b c : Bool) → (b && c) ≡ true → (b ≡ true) × (c ≡ true)
both_true true c e = (refl, e)
both_true false c e = absurd cc

-- ---- elements

flag_low : (b : Bool) (worth : ℕ) → cond b worth 0 ≤ worth
flag_low true worth = omega arith
flag_low false worth = omega arith

flags_low : (e : Tlv) → flags e ≤ 96
flags_low e = omega (arith, flag_low e.non_critical 64, flag_low e.forward 32)

form_bytes : (e : Tlv) (b : Bool) → (ltb e.kind 32 && ltb (length e.body) 256) ≡ b → e.kind < 8192 → length e.body ≤ 65535 → AreBytes e.body → AreBytes (cond b (short_form e) (long_form e))
form_bytes e true is kind short are =
    let small = both_true (ltb e.kind 32) (ltb (length e.body) 256) is in
    let low = flags_low e in
    more_bytes (flags e + e.kind) (length e.body ∷ e.body) (omega (arith, low, ltb-true _ _ small.0)) (more_bytes (length e.body) e.body (ltb-true _ _ small.1) are)
form_bytes e false is kind short are =
    let low = flags_low e in
    more_bytes (128 + flags e + e.kind / 256) (e.kind % 256 ∷ length e.body / 256 ∷ length e.body % 256 ∷ e.body) (omega (arith, low, kind))
    (more_bytes (e.kind % 256) (length e.body / 256 ∷ length e.body % 256 ∷ e.body) (omega arith)
    (more_bytes (length e.body / 256) (length e.body % 256 ∷ e.body) (omega (arith, short)) (more_bytes (length e.body % 256) e.body (omega arith) are)))

canonical_bytes : (e : Tlv) → e.kind < 8192 → length e.body ≤ 65535 → AreBytes e.body → AreBytes (canonical e)
canonical_bytes e kind short are = form_bytes e (ltb e.kind 32 && ltb (length e.body) 256) refl kind short are

body_short : (e : Tlv) → length e.body ≤ length (canonical e)
body_short e = cond_both (ltb e.kind 32 && ltb (length e.body) 256) (short_form e) (long_form e) (λ (text : List ℕ). length e.body ≤ length text) (λ yes. omega arith) (λ no. omega arith)

-- an element of a known kind, whose body is bytes where it is not too long
abbrev IsMade : Tlv → Type 0
IsMade e = (e.kind < 8192) × (length e.body ≤ 65535 → AreBytes e.body)

texts_bytes : (es : List Tlv) → AllByRecursion IsMade es → length (texts es) ≤ 65535 → AreBytes (texts es)
texts_bytes [] made short = none_bytes
texts_bytes (e ∷ es) made short =
    let size = length-append (canonical e) (texts es) in
    let body : length e.body ≤ 65535 = omega (arith, short, size, body_short e) in
    both_bytes (canonical e) (texts es) (canonical_bytes e made.0.0 body (made.0.1 body)) (texts_bytes es made.1 (omega (arith, short, size)))

-- ---- numbers

byte_small : (k n : ℕ) → byte_at k n < 256
byte_small zero n = omega arith
byte_small (suc k) n = let high = n / 256 ^ suc k in let lt : high % 256 < 256 = omega arith in lt

high_bytes : (k n : ℕ) → AreBytes (bytes_high_first k n)
high_bytes zero n = none_bytes
high_bytes (suc k) n = more_bytes (byte_at k n) (bytes_high_first k n) (byte_small k n) (high_bytes k n)

rest_bytes : (b : ℕ) (bytes : List ℕ) → AreBytes (b ∷ bytes) → AreBytes bytes
rest_bytes b bytes are = All-drop is_byte 1 (b ∷ bytes) are

significant_bytes : (bytes : List ℕ) → AreBytes bytes → AreBytes (without_zeros bytes)
significant_bytes [] are = are
significant_bytes (zero ∷ bytes) are = significant_bytes bytes (rest_bytes zero bytes are)
significant_bytes (suc b ∷ bytes) are = are

numeral_bytes : (n : ℕ) → AreBytes (numeral n)
unfolding numeral
numeral_bytes n = significant_bytes (to_be_bytes w64 n) (high_bytes 8 n)

number_made : (kind n : ℕ) → kind < 8192 → IsMade (plain kind (numeral n))
number_made kind n lt = (lt, λ short. numeral_bytes n)

bytes_made : (kind : ℕ) (bytes : List ℕ) → kind < 8192 → AreBytes bytes → IsMade (plain kind bytes)
bytes_made kind bytes lt are = (lt, λ short. are)

-- ---- chains

sibling_made : (sibling : Sibling) → SiblingOfBytes sibling → IsMade (sibling_element sibling)
sibling_made (siblings.Imprint bytes) are = bytes_made 2 bytes (omega arith) are
sibling_made (siblings.Legacy bytes) are = bytes_made 3 bytes (omega arith) are
sibling_made (siblings.Metadata bytes) are = bytes_made 4 bytes (omega arith) are

correction_made : (n : ℕ) → AllByRecursion IsMade (correction_elements n)
correction_made zero = tt
correction_made (suc n) = (number_made 1 (suc n) (omega arith), tt)

side_small : (side : Side) → side_kind side < 8192
side_small Left = omega arith
side_small Right = omega arith

link_made : (link : Link) → SiblingOfBytes link.sibling → IsMade (link_element link)
link_made link are = (
  side_small link.side,
  texts_bytes (link_elements link) (all_both IsMade (correction_elements link.correction) (sibling_element link.sibling ∷ []) (correction_made link.correction) (sibling_made link.sibling are, tt)),
)

links_made : (links : List Link) → LinksOfBytes links → AllByRecursion IsMade (map link_element links)
links_made [] are = tt
links_made (link ∷ links) are = (link_made link are.0, links_made links are.1)

parts_made : (index : List ℕ) → AllByRecursion IsMade (map part_element index)
parts_made [] = tt
parts_made (part ∷ index) = (number_made 3 part (omega arith), parts_made index)

module _ (second : ℕ) where
  chain_made : (chain : AboveChain) (above : List AboveChain) → ChainOfBytes chain
      → IsMade (chain_element (record { time = second; index = index_of (chain ∷ above); input_body = None; input = chain.input; links = chain.links }))
  chain_made chain above are =
      let parts = index_of (chain ∷ above) in
      let tail : List Tlv = plain 5 chain.input ∷ plain 6 (numeral 1) ∷ map link_element chain.links in (
        omega arith,
        texts_bytes (plain 2 (numeral second) ∷ (map part_element parts ++ tail)) (
          number_made 2 second (omega arith),
          all_both IsMade (map part_element parts) tail (parts_made parts)
              (bytes_made 5 chain.input (omega arith) are.0, (number_made 6 1 (omega arith), links_made chain.links are.1)),
        ),
      )

  chains_made : (chains : List AboveChain) → AllByRecursion ChainOfBytes chains → AllByRecursion IsMade (map chain_element (issued_chains second chains))
  chains_made [] are = tt
  chains_made (chain ∷ above) are = (chain_made chain above are.0, chains_made above are.1)

calendar_links_made : (links : List (TreeLink (List ℕ))) → CalendarOfBytes links → AllByRecursion IsMade (map calendar_link_element links)
calendar_links_made [] are = tt
calendar_links_made (link ∷ links) are = (bytes_made (side_kind link.side) link.sibling (side_small link.side) are.0, calendar_links_made links are.1)

calendar_made : (c : Calendar) → AreBytes c.input → CalendarOfBytes c.links → IsMade (calendar_element c)
calendar_made c input links = (
  omega arith,
  texts_bytes (calendar_elements c) (number_made 1 c.publication (omega arith), (number_made 2 c.time (omega arith), (bytes_made 5 c.input (omega arith) input, calendar_links_made c.links links))),
)

record_made : (time : ℕ) (hash : List ℕ) → AreBytes hash → IsMade (publishing_element (bare time hash))
record_made time hash are =
    let said : IsMade (plain 16 (texts (published_elements time hash))) = (omega arith, texts_bytes (published_elements time hash) (number_made 2 time (omega arith), (bytes_made 4 hash (omega arith) are, tt))) in
    (omega arith, texts_bytes (plain 16 (texts (published_elements time hash)) ∷ []) (said, tt))

-- ---- what is issued

pub issued_bytes : (second : ℕ) (input : List ℕ) (links : List Link) (above : Above) → IsOfBytes input links above → length (signature_text (issued second input links above)) ≤ 10000
    → AreBytes (signature_text (issued second input links above))
unfolding signature_text issued
issued_bytes second input links above are short =
    let chains : List AboveChain = own_chain input links ∷ above.chains in
    let calendar : Calendar = record { publication = second; time = second; input = above.root; links = above.calendar } in
    let es = signature_elements (issued second input links above) in
    let whole : Tlv = plain 2048 (texts es) in
    let made : AllByRecursion IsMade es = all_both IsMade (map chain_element (issued_chains second chains)) (calendar_element calendar ∷ [])
    (chains_made second chains ((are.imprint, are.own), are.chains)) (calendar_made calendar are.root are.calendar, tt) in
    let size : length (texts es) ≤ 65535 = omega (arith, short, body_short whole) in
    canonical_bytes whole (omega arith) size (texts_bytes es made size)

-- ---- what is extended

retained_bytes : (bytes : List ℕ) (es : List PlacedTlv) → AreBytes bytes → AreBytes (retained_texts bytes es)
retained_bytes bytes [] are = none_bytes
retained_bytes bytes (at ∷ es) are =
    let text : AreBytes (text_in bytes at) = All-take is_byte _ (drop at.place bytes) (All-drop is_byte at.place bytes are) in
    let rest = retained_bytes bytes es are in
    cond_both (is_retained at.element) (text_in bytes at ++ retained_texts bytes es) (retained_texts bytes es) AreBytes (λ yes. both_bytes (text_in bytes at) (retained_texts bytes es) text rest) (λ no. rest)

pub extended_bytes : (bytes : List ℕ) (c : Calendar) (time : ℕ) (hash : List ℕ) → AreBytes bytes → AreBytes c.input → CalendarOfBytes c.links → AreBytes hash
    → length (extended_content bytes c (bare time hash)) ≤ 65535 → AreBytes (extended_text bytes c (bare time hash))
unfolding extended_text extended_content
extended_bytes bytes c time hash are input links hashed short =
    let front = retained_texts bytes (elements_in bytes) in
    let es : List Tlv = calendar_element c ∷ publishing_element (bare time hash) ∷ [] in
    let size : length (texts es) ≤ 65535 = omega (arith, short, length-append front (texts es)) in
    let content : AreBytes (front ++ texts es) = both_bytes front (texts es) (retained_bytes bytes (elements_in bytes) are)
    (texts_bytes es (calendar_made c input links, (record_made time hash hashed, tt)) size) in
    canonical_bytes (plain 2048 (front ++ texts es)) (omega arith) short content
