-- What single elements say is what a journal keeps, and written it is no longer.
use Rattle.std.proofs.Common.{◌≡◌, ℕ, ◌^◌, ◌<◌, ◌≤◌, ◌&&◌, leb, List, [], ◌∷◌, length, Ok, sym, ap, subst, ◌∙◌, arith}
use Rattle.std.proofs.lemmas.Bool.{leb-true, and_parts}
use Rattle.std.proofs.Math.Nat.{mod-eq_of_lt}
use Rattle.ksi_imprint.specs.Imprints.{IsImprint}
use Rattle.ksi_tlv.specs.Spelling.{Tlv, AreBytes, plain}
use Rattle.ksi_tlv.specs.Walking.{PlacedTlv, Items, items_of}
use Rattle.ksi_tlv.specs.Numerals.{numeral}
use Rattle.ksi_tlv.specs.Writing.{texts}
use Rattle.ksi_tlv.specs.declared.order.fault.OrderFault.{OrderFault}
use Rattle.ksi_tlv.specs.declared.order.fault.OrderFault.TheVariants as orders
use Rattle.ksi_tlv.specs.Fields.{Inside, inside, field, done}
use Rattle.ksi_tlv.specs.Values.{number_at, time_at, imprint_at}
use Rattle.ksi_tlv.proofs.Steps.{Bounded, each_of, or_named_ok, ok_is, test_ok}
use Rattle.ksi_synod.specs.CorePlans.{AreVoters}
use Rattle.ksi_synod.specs.declared.core_plan.VotersFrom.{VotersFrom}
use Rattle.ksi_journal.specs.declared.fault.JournalFault.{JournalFault}
use Rattle.ksi_journal.specs.declared.fault.JournalFault.TheVariants as faults
use Rattle.ksi_journal.specs.Journal.{IsVoters, IsIssued, IsPublication}
use Rattle.ksi_journal.specs.Voters.{bits_of, cores_in}
use Rattle.ksi_journal.specs.Written.{voters_element, issued_element, publication_element}
use Rattle.ksi_journal.specs.Elements.{named, or_named, rises, rising, numbered, dated, voting, voters_in, voters_from, said_at, short_at, signature_at, published_at}
use Rattle.ksi_journal.proofs.Bits.{bits_again, cores_are}
use Rattle.ksi_journal.proofs.Rising.{rises_ok}
use Rattle.ksi_journal.proofs.Spelled.{Read, Match, shorter, bytes_inside, items_head, IsNumber, number_ok, time_ok, number_small, numeral_short, imprint_ok, field_ok, done_ok}

-- a second of which so many items are told
abbrev pub head_with : ℕ → List ℕ → ℕ → Tlv
head_with second root n = plain 2 (texts (plain 1 (numeral second) ∷ plain 2 root ∷ plain 3 (numeral n) ∷ []))

body_match : (at : PlacedTlv) (kind : ℕ) (bytes : List ℕ) → kind ≡ at.element.kind → at.element.body ≡ bytes → Match (plain kind bytes) at
body_match at kind bytes is same = record { kind = is; body = (let e = ap length same in omega (arith, e)) }

-- a time that rises was read, and this is left
record IsRising (least : ℕ) (i : Inside) (found : ℕ × Inside) : Type 0 where
  one : PlacedTlv
  split : i.items ≡ items_head one found.1.items
  kind : 1 ≡ one.element.kind
  number : IsNumber one found.0
  rises : least ≤ found.0
  early : found.0 < 2 ^ 63

rising_ok : (bounded : Bounded) (least : ℕ) (i : Inside) (found : ℕ × Inside) → rising least i ≡ Ok found → IsRising least i found
unfolding rising
rising_ok bounded least i found e =
    each_of (field 1 i) e (λ one is_one e.
    each_of (time_at one.0) e (λ t is_time e.
    each_of (rises least t one.0.place) e (λ up is_up e.
    let first = field_ok 1 i one is_one in
    subst (IsRising least i) (ok_is {F = OrderFault} (t, one.1) found e) (record {
      one = one.0;
      split = first.0;
      kind = first.1;
      number = time_ok one.0 t is_time;
      rises = rises_ok least t one.0.place up is_up;
      early = bounded.early one.0 t is_time;
    }))))

-- a number that rises was read, and this is left
record IsNumbered (least : ℕ) (i : Inside) (found : ℕ × Inside) : Type 0 where
  one : PlacedTlv
  split : i.items ≡ items_head one found.1.items
  kind : 1 ≡ one.element.kind
  number : IsNumber one found.0
  rises : least ≤ found.0

numbered_ok : (least : ℕ) (i : Inside) (found : ℕ × Inside) → numbered least i ≡ Ok found → IsNumbered least i found
unfolding numbered
numbered_ok least i found e =
    each_of (field 1 i) e (λ one is_one e.
    each_of (number_at one.0) e (λ n is_n e.
    each_of (rises least n one.0.place) e (λ up is_up e.
    let first = field_ok 1 i one is_one in
    subst (IsNumbered least i) (ok_is {F = OrderFault} (n, one.1) found e) (record {
      one = one.0;
      split = first.0;
      kind = first.1;
      number = number_ok one.0 n is_n;
      rises = rises_ok least n one.0.place up is_up;
    }))))

-- a time that rises and an imprint were read, and this is left
record IsDated (least : ℕ) (i : Inside) (found : ℕ × List ℕ × Inside) : Type 0 where
  one : PlacedTlv
  two : PlacedTlv
  split : i.items ≡ items_head one (items_head two found.2.items)
  kind_one : 1 ≡ one.element.kind
  kind_two : 2 ≡ two.element.kind
  number : IsNumber one found.0
  body : two.element.body ≡ found.1
  rises : least ≤ found.0
  early : found.0 < 2 ^ 63
  imprint : IsImprint found.1

dated_ok : (bounded : Bounded) (least : ℕ) (i : Inside) (found : ℕ × List ℕ × Inside) → dated least i ≡ Ok found → IsDated least i found
unfolding dated
dated_ok bounded least i found e =
    each_of (rising least i) e (λ one is_one e.
    each_of (field 2 one.1) e (λ two is_two e.
    each_of (imprint_at two.0) e (λ root is_root e.
    let first = rising_ok bounded least i one is_one in
    let second = field_ok 2 one.1 two is_two in
    subst (IsDated least i) (ok_is {F = OrderFault} (one.0, root, two.1) found e) (record {
      one = first.one;
      two = two.0;
      split = first.split ∙ ap (items_head first.one) second.0;
      kind_one = first.kind;
      kind_two = second.1;
      number = first.number;
      body = imprint_ok two.0 root is_root;
      rises = first.rises;
      early = first.early;
      imprint = bounded.imprint two.0 root is_root;
    }))))

-- a time that rises and bits were read, and this is left
record IsVoting (least : ℕ) (i : Inside) (found : ℕ × ℕ × ℕ × Inside) : Type 0 where
  one : PlacedTlv
  two : PlacedTlv
  split : i.items ≡ items_head one (items_head two found.3.items)
  kind_one : 1 ≡ one.element.kind
  kind_two : 2 ≡ two.element.kind
  number : IsNumber one found.0
  bits : IsNumber two found.1
  rises : least ≤ found.0
  early : found.0 < 2 ^ 63

voting_ok : (bounded : Bounded) (least : ℕ) (i : Inside) (found : ℕ × ℕ × ℕ × Inside) → voting least i ≡ Ok found → IsVoting least i found
unfolding voting
voting_ok bounded least i found e =
    each_of (rising least i) e (λ one is_one e.
    each_of (field 2 one.1) e (λ two is_two e.
    each_of (number_at two.0) e (λ bits is_bits e.
    let first = rising_ok bounded least i one is_one in
    let second = field_ok 2 one.1 two is_two in
    subst (IsVoting least i) (ok_is {F = OrderFault} (one.0, bits, two.0.place, two.1) found e) (record {
      one = first.one;
      two = two.0;
      split = first.split ∙ ap (items_head first.one) second.0;
      kind_one = first.kind;
      kind_two = second.1;
      number = first.number;
      bits = number_ok two.0 bits is_bits;
      rises = first.rises;
      early = first.early;
    }))))

-- what a second says, before its items
pub record IsSecondSaid (least : ℕ) (at : PlacedTlv) (said : ℕ × List ℕ × ℕ) : Type 0 where
  pub rises : least ≤ said.0
  pub early : said.0 < 2 ^ 63
  pub imprint : IsImprint said.1
  pub match : Match (head_with said.0 said.1 said.2) at

bits_same : (bits : ℕ) → bits ≤ 511 → bits_of (cores_in bits) ≡ bits
unfolding cores_in
bits_same bits few = bits_again bits 9 ∙ mod-eq_of_lt {n = bits} {m = 512} (omega (arith, few))

module _ (laws : Read) (bounded : Bounded) where
  pub number_match : (at : PlacedTlv) (kind n : ℕ) → kind ≡ at.element.kind → IsNumber at n → AreBytes at.element.body → Match (plain kind (numeral n)) at
  number_match at kind n is number are = record { kind = is; body = numeral_short laws at n number are }

  two_match : (at one two : PlacedTlv) (kind : ℕ) (s t : Tlv) → kind ≡ at.element.kind → AreBytes at.element.body → (inside at).items ≡ items_of (one ∷ two ∷ [])
      → (AreBytes one.element.body → Match s one) → (AreBytes two.element.body → Match t two) → Match (plain kind (texts (s ∷ t ∷ []))) at
  two_match at one two kind s t is are whole first second =
      let inner = bytes_inside laws at.inside at.element.body (one ∷ two ∷ []) are whole in
      record { kind = is; body = shorter laws (s ∷ t ∷ []) at.inside at.element.body (one ∷ two ∷ []) are whole (first inner.0, (second inner.1.0, tt)) }

  -- ---- each element

  pub voters_said : (least : ℕ) (at : PlacedTlv) (pair : VotersFrom) → voters_from least at ≡ Ok pair → at.element.kind ≡ 8 → AreBytes at.element.body
      → (least ≤ pair.second) × IsVoters pair × Match (voters_element pair) at
  unfolding voters_from
  voters_said least at pair e kind are =
      each_of (or_named (voting least (inside at))) e (λ found is_found e.
      each_of (voters_in found.1 found.2) e (λ voters is_voters e.
      each_of (or_named (done found.3)) e (λ end is_end e.
      let v = voting_ok bounded least (inside at) found (or_named_ok named (voting least (inside at)) found is_found) in
      let test = test_ok (leb 1 found.1 && leb found.1 511) (cores_in found.1) (faults.Voters found.2) voters is_voters in
      let few = and_parts (leb 1 found.1) (leb found.1 511) test.0 in
      let none = done_ok found.3 end (or_named_ok named (done found.3) end is_end) in
      let same : found.1 ≡ bits_of voters = sym (ap bits_of (sym test.1) ∙ bits_same found.1 (leb-true found.1 511 few.1)) in
      subst (λ (p : VotersFrom). (least ≤ p.second) × IsVoters p × Match (voters_element p) at) (ok_is {F = JournalFault} (record { second = found.0; voters = voters }) pair e) (
        v.rises,
        record {
          early = v.early;
          cores = subst (AreVoters 9) test.1 (cores_are found.1 (leb-true 1 found.1 few.0) (leb-true found.1 511 few.1));
        },
        two_match at v.one v.two 8 (plain 1 (numeral found.0)) (plain 2 (numeral (bits_of voters))) (sym kind) are
            (v.split ∙ ap (λ (items : Items). items_head v.one (items_head v.two items)) none)
            (number_match v.one 1 found.0 v.kind_one v.number)
            (number_match v.two 2 (bits_of voters) v.kind_two (subst (IsNumber v.two) same v.bits)),
      ))))

  pub second_said : (least : ℕ) (at : PlacedTlv) (said : ℕ × List ℕ × ℕ) → said_at least at ≡ Ok said → at.element.kind ≡ 2 → AreBytes at.element.body → IsSecondSaid least at said
  unfolding said_at
  second_said least at said e kind are =
      each_of (dated least (inside at)) e (λ found is_dated e.
      each_of (field 3 found.2) e (λ three is_three e.
      each_of (number_at three.0) e (λ n is_n e.
      each_of (done three.1) e (λ end is_end e.
      let d = dated_ok bounded least (inside at) found is_dated in
      let third = field_ok 3 found.2 three is_three in
      let whole : (inside at).items ≡ items_of (d.one ∷ d.two ∷ three.0 ∷ []) =
      d.split ∙ ap (λ (items : Items). items_head d.one (items_head d.two items)) (third.0 ∙ ap (items_head three.0) (done_ok three.1 end is_end)) in
      let inner = bytes_inside laws at.inside at.element.body (d.one ∷ d.two ∷ three.0 ∷ []) are whole in
      let ts : List Tlv = plain 1 (numeral found.0) ∷ plain 2 found.1 ∷ plain 3 (numeral n) ∷ [] in
      subst (IsSecondSaid least at) (ok_is {F = OrderFault} (found.0, found.1, n) said e) (record {
        rises = d.rises;
        early = d.early;
        imprint = d.imprint;
        match = record {
          kind = sym kind;
          body = shorter laws ts at.inside at.element.body (d.one ∷ d.two ∷ three.0 ∷ []) are whole (
            number_match d.one 1 found.0 d.kind_one d.number inner.0,
            (body_match d.two 2 found.1 d.kind_two d.body, (number_match three.0 3 n third.1 (number_ok three.0 n is_n) inner.1.1.0, tt)),
          );
        };
      })))))

  pub issued_said : (least : ℕ) (at : PlacedTlv) (x : ℕ × List ℕ) → signature_at least at ≡ Ok x → at.element.kind ≡ 4 → AreBytes at.element.body
      → (least ≤ x.0) × IsIssued x × Match (issued_element x) at
  unfolding signature_at
  issued_said least at x e kind are =
      each_of (numbered least (inside at)) e (λ one is_one e.
      each_of (field 2 one.1) e (λ two is_two e.
      each_of (short_at two.0) e (λ bytes is_short e.
      each_of (done two.1) e (λ end is_end e.
      let first = numbered_ok least (inside at) one is_one in
      let second = field_ok 2 one.1 two is_two in
      let short = test_ok (leb (length two.0.element.body) 60000) two.0.element.body (orders.Bound two.0.place) bytes is_short in
      let whole : (inside at).items ≡ items_of (first.one ∷ two.0 ∷ []) = first.split ∙ ap (items_head first.one) (second.0 ∙ ap (items_head two.0) (done_ok two.1 end is_end)) in
      let inner = bytes_inside laws at.inside at.element.body (first.one ∷ two.0 ∷ []) are whole in
      subst (λ (s : ℕ × List ℕ). (least ≤ s.0) × IsIssued s × Match (issued_element s) at) (ok_is {F = OrderFault} (one.0, bytes) x e) (
        first.rises,
        record {
          number = number_small first.one one.0 first.number inner.0;
          short = subst (λ (x : List ℕ). length x ≤ 60000) short.1 (leb-true (length two.0.element.body) 60000 short.0);
          bytes = subst AreBytes short.1 inner.1.0;
        },
        two_match at first.one two.0 4 (plain 1 (numeral one.0)) (plain 2 bytes) (sym kind) are whole
            (number_match first.one 1 one.0 first.kind first.number)
            (λ _. body_match two.0 2 bytes second.1 short.1),
      )))))

  pub publication_said : (least : ℕ) (at : PlacedTlv) (x : ℕ × List ℕ) → published_at least at ≡ Ok x → at.element.kind ≡ 5 → AreBytes at.element.body
      → (least ≤ x.0) × IsPublication x × Match (publication_element x) at
  unfolding published_at
  publication_said least at x e kind are =
      each_of (dated least (inside at)) e (λ found is_dated e.
      each_of (done found.2) e (λ end is_end e.
      let d = dated_ok bounded least (inside at) found is_dated in
      subst (λ (s : ℕ × List ℕ). (least ≤ s.0) × IsPublication s × Match (publication_element s) at) (ok_is {F = OrderFault} (found.0, found.1) x e) (
        d.rises,
        record { early = d.early; imprint = d.imprint },
        two_match at d.one d.two 5 (plain 1 (numeral found.0)) (plain 2 found.1) (sym kind) are
            (d.split ∙ ap (λ (items : Items). items_head d.one (items_head d.two items)) (done_ok found.2 end is_end))
            (number_match d.one 1 found.0 d.kind_one d.number)
            (λ _. body_match d.two 2 found.1 d.kind_two d.body),
      )))
