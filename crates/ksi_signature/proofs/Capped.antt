-- How many bytes elements take as they are written.
use Rattle.std.proofs.Common.{◌≡◌, ℕ, ◌+◌, ◌-◌, ◌^◌, Bool, true, false, cond, ltb, List, [], ◌∷◌, ◌++◌, length, map, refl, sym, ap, ◌∙◌, arith}
use Rattle.std.specs.Prelude.{min, ◌&&◌}
use Rattle.std.proofs.lemmas.List.{length-append}
use Rattle.ksi_tlv.specs.Spelling.{Tlv, plain, canonical, short_form, long_form}
use Rattle.ksi_tlv.specs.Writing.{texts}
use Rattle.ksi_tlv.specs.Published.{published_elements}
use Rattle.ksi_signature.specs.Values.{Publishing}
use Rattle.ksi_signature.specs.Lengths.{capped, size_of}
use Rattle.ksi_signature.specs.Written.{publishing_elements}

size_at : (b : Bool) (e : Tlv) → length (cond b (short_form e) (long_form e)) ≡ cond b (2 + length e.body) (4 + length e.body)
size_at true e = omega arith
size_at false e = omega arith

pub size-canonical : (e : Tlv) → length (canonical e) ≡ size_of e.kind (length e.body)
size-canonical e = size_at (ltb e.kind 32 && ltb (length e.body) 256) e

pub length-texts : (e : Tlv) (es : List Tlv) → length (texts (e ∷ es)) ≡ size_of e.kind (length e.body) + length (texts es)
length-texts e es = length-append (canonical e) (texts es) ∙ ap (λ (n : ℕ). n + length (texts es)) (size-canonical e)

pub capped-add : (a b c : ℕ) → capped (a + capped (capped b + capped c)) ≡ capped (a + (b + c))
capped-add a b c = grind arith

pub length-joined : (es fs : List Tlv) → length (texts (es ++ fs)) ≡ length (texts es) + length (texts fs)
length-joined [] fs = omega arith
length-joined (e ∷ es) fs =
    length-append (canonical e) (texts (es ++ fs)) ∙ ap (λ (n : ℕ). length (canonical e) + n) (length-joined es fs)
    ∙ omega (arith, length-append (canonical e) (texts es))

-- the parts of a record's body, each in a number of 64 bits
pub publishing_length : (p : Publishing) (recorded references repositories both all : ℕ)
    → recorded ≡ length (canonical (plain 16 (texts (published_elements p.time p.hash))))
    → references ≡ capped (length (texts (map (plain 9) p.references)))
    → repositories ≡ capped (length (texts (map (plain 10) p.repositories)))
    → both ≡ min (references + repositories) (2 ^ 64 - 1) → all ≡ min (recorded + both) (2 ^ 64 - 1)
    → all ≡ capped (length (texts (publishing_elements p)))
publishing_length p recorded references repositories both all d r s b a =
    let first : length (texts (publishing_elements p)) ≡ recorded + (length (texts (map (plain 9) p.references)) + length (texts (map (plain 10) p.repositories))) =
    length-append (canonical (plain 16 (texts (published_elements p.time p.hash)))) (texts (map (plain 9) p.references ++ map (plain 10) p.repositories))
    ∙ rw (sym d, length-joined (map (plain 9) p.references) (map (plain 10) p.repositories)) refl in
    a ∙ ap (λ (n : ℕ). capped (recorded + n)) b ∙ rw (r, s) (capped-add recorded (length (texts (map (plain 9) p.references))) (length (texts (map (plain 10) p.repositories)))) ∙ sym (ap capped first)
