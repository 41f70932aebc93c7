-- Publication records as they are written.
use Rattle.std.proofs.Common.{◌≡◌, ℕ, ◌+◌, ◌≤◌, false, ltb, List, [], ◌∷◌, ◌++◌, length, map, Ok, refl, ap, ◌∙◌, arith}
use Rattle.std.specs.Prelude.{◌&&◌}
use Rattle.std.specs.List.{AllByRecursion}
use Rattle.std.proofs.lemmas.Bool.{cond_both}
use Rattle.std.proofs.lemmas.List.{length-append, append-nil}
use Rattle.ksi_imprint.specs.Imprints.{IsImprint}
use Rattle.ksi_tlv.specs.Spelling.{Tlv, plain, canonical, short_form, long_form}
use Rattle.ksi_tlv.specs.Walking.{PlacedTlv, placed_at}
use Rattle.ksi_tlv.specs.Writing.{texts, placed}
use Rattle.ksi_tlv.specs.Table.{is_among, count}
use Rattle.ksi_tlv.specs.Containing.{inner_verdict}
use Rattle.ksi_tlv.specs.Inside.{inner_elements, first_of}
use Rattle.ksi_tlv.specs.Written.{MayStandAnywhere, MayBeWritten}
use Rattle.ksi_tlv.specs.Published.{published_elements, record_table, published_or_zero, recorded_in}
use Rattle.ksi_signature.specs.Values.{Publishing}
use Rattle.ksi_signature.specs.Kept.{IsPublishing}
use Rattle.ksi_signature.specs.Contents.{bodies_of, publishing_in}
use Rattle.ksi_signature.specs.Written.{publishing_elements, publishing_element}
use Rattle.ksi_signature.proofs.Skips.{all_both, all_map, each_map, pass, pass_all, NoneAmong, count_passes, bodies_pass, bodies_map}
use Rattle.ksi_signature.proofs.Again.{Written}

-- bodies that are not too long
abbrev pub AreShort : List (List ℕ) → Type 0
AreShort bodies = AllByRecursion (λ body. length body ≤ 65535) bodies

length-body : (e : Tlv) → length e.body ≤ length (canonical e)
length-body e = cond_both (ltb e.kind 32 && ltb (length e.body) 256) (short_form e) (long_form e) (λ (text : List ℕ). length e.body ≤ length text) (λ yes. omega arith) (λ no. omega arith)

length-published : Written → (time : ℕ) (hash : List ℕ) → IsImprint hash → length (texts (published_elements time hash)) ≤ 53
length-published laws time hash is =
    let all = laws.short time hash is in
    let size = length-append (canonical (plain 16 (texts (published_elements time hash)))) [] in
    omega (arith, all, size, length-body (plain 16 (texts (published_elements time hash))))

reference_may : (body : List ℕ) → length body ≤ 65535 → MayStandAnywhere record_table (plain 9 body)
reference_may body short = record {
  spelled = record { kind = omega arith; body = omega (arith, short) };
  stands = λ place size. record { named = refl; fits = refl };
}

repository_may : (body : List ℕ) → length body ≤ 65535 → MayStandAnywhere record_table (plain 10 body)
repository_may body short = record {
  spelled = record { kind = omega arith; body = omega (arith, short) };
  stands = λ place size. record { named = refl; fits = refl };
}

each_may : Written → (p : Publishing) → IsPublishing p → AreShort p.references → AreShort p.repositories → AllByRecursion (MayStandAnywhere record_table) (publishing_elements p)
each_may laws p is references repositories = (
  record {
    spelled = record { kind = omega arith; body = omega (arith, length-published laws p.time p.hash is.hash) };
    stands = λ place size. record { named = refl; fits = (laws.published (placed_at place (plain 16 (texts (published_elements p.time p.hash))) size) p.time p.hash is.time is.hash refl).0 };
  },
  all_both (MayStandAnywhere record_table) (map (plain 9) p.references) (map (plain 10) p.repositories) (all_map (λ body. length body ≤ 65535) (MayStandAnywhere record_table) (plain 9) p.references reference_may references)
      (all_map (λ body. length body ≤ 65535) (MayStandAnywhere record_table) (plain 10) p.repositories repository_may repositories),
)

-- no element of another kind
none_of : (kinds : List ℕ) (kind : ℕ) → is_among kind kinds ≡ false → (bodies : List (List ℕ)) → NoneAmong kinds (map (plain kind) bodies)
none_of kinds kind other bodies = each_map (λ (e : Tlv). is_among e.kind kinds ≡ false) (plain kind) bodies (λ body. other)

-- one published data
data_count : (p : Publishing) → count (16 ∷ []) (placed 0 (publishing_elements p)) ≡ 1
data_count p =
    let next = 0 + length (canonical (plain 16 (texts (published_elements p.time p.hash)))) in
    let references = pass (count (16 ∷ [])) (16 ∷ []) (count_passes (16 ∷ [])) next (map (plain 9) p.references) (map (plain 10) p.repositories) (none_of (16 ∷ []) 9 refl p.references) in
    let repositories = pass_all (count (16 ∷ [])) (16 ∷ []) (count_passes (16 ∷ [])) references.0 (map (plain 10) p.repositories) (none_of (16 ∷ []) 10 refl p.repositories) in
    omega (arith, references.1, repositories)

pub publishing_may : Written → (p : Publishing) → IsPublishing p → AreShort p.references → AreShort p.repositories → MayBeWritten record_table (publishing_elements p)
publishing_may laws p is references repositories = record {
  each = each_may laws p is references repositories;
  within = (omega (arith, data_count p), (tt, (tt, tt)));
  enough = (omega (arith, data_count p), (tt, (tt, tt)));
}

-- ---- what it says

bodies_same : (kind : ℕ) (bodies : List (List ℕ)) → map (λ body. (plain kind body).body) bodies ≡ bodies
bodies_same kind [] = refl
bodies_same kind (body ∷ bodies) = ap (λ (others : List (List ℕ)). body ∷ others) (bodies_same kind bodies)

references_read : (place : ℕ) (p : Publishing) → bodies_of 9 (placed place (publishing_elements p)) ≡ p.references
references_read place p =
    let next = place + length (canonical (plain 16 (texts (published_elements p.time p.hash)))) in
    let references = bodies_map 9 (plain 9) (λ body. refl) next p.references (map (plain 10) p.repositories) in
    let none = pass_all (bodies_of 9) (9 ∷ []) (bodies_pass 9) references.0 (map (plain 10) p.repositories) (none_of (9 ∷ []) 10 refl p.repositories) in
    let bodies = map (λ body. (plain 9 body).body) p.references in
    references.1 ∙ ap (λ (others : List (List ℕ)). bodies ++ others) none ∙ append-nil bodies ∙ bodies_same 9 p.references

repositories_all : (place : ℕ) (bodies : List (List ℕ)) → bodies_of 10 (placed place (map (plain 10) bodies)) ≡ bodies
repositories_all place [] = refl
repositories_all place (body ∷ bodies) = ap (λ (others : List (List ℕ)). body ∷ others) (repositories_all (place + length (canonical (plain 10 body))) bodies)

repositories_read : (place : ℕ) (p : Publishing) → bodies_of 10 (placed place (publishing_elements p)) ≡ p.repositories
repositories_read place p =
    let next = place + length (canonical (plain 16 (texts (published_elements p.time p.hash)))) in
    let references = pass (bodies_of 10) (10 ∷ []) (bodies_pass 10) next (map (plain 9) p.references) (map (plain 10) p.repositories) (none_of (10 ∷ []) 9 refl p.references) in
    references.1 ∙ repositories_all references.0 p.repositories

made : (pair : ℕ × List ℕ) (references repositories : List (List ℕ)) (p : Publishing) → pair ≡ (p.time, p.hash) → references ≡ p.references → repositories ≡ p.repositories → record { time = pair.0; hash = pair.1; references = references; repositories = repositories } ≡ p
made pair references repositories p one two three = rw (one, two, three) refl

recorded_again : Written → (place size : ℕ) (p : Publishing) → IsPublishing p → inner_elements (placed_at place (publishing_element p) size) ≡ placed (placed_at place (publishing_element p) size).inside (publishing_elements p) → recorded_in (placed_at place (publishing_element p) size) ≡ (p.time, p.hash)
unfolding recorded_in
recorded_again laws place size p is held =
    let at = placed_at place (publishing_element p) size in
    let content = texts (published_elements p.time p.hash) in
    ap (λ (es : List PlacedTlv). published_or_zero (first_of 16 es)) held
    ∙ (laws.published (placed_at at.inside (plain 16 content) (length (canonical (plain 16 content)))) p.time p.hash is.time is.hash refl).1

pub publishing_again : Written → (place size : ℕ) (p : Publishing) → IsPublishing p → AreShort p.references → AreShort p.repositories → (inner_verdict record_table (placed_at place (publishing_element p) size) ≡ Ok tt) × (publishing_in (placed_at place (publishing_element p) size) ≡ p)
unfolding publishing_in
publishing_again laws place size p is references repositories =
    let at = placed_at place (publishing_element p) size in
    let w = laws.again record_table at.place at.inside (publishing_elements p) (publishing_may laws p is references repositories) in (
      w.0,
      made _ _ _ p (recorded_again laws place size p is w.1) (ap (bodies_of 9) w.1 ∙ references_read at.inside p) (ap (bodies_of 10) w.1 ∙ repositories_read at.inside p),
    )
