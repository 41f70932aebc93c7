-- The chains of a signature are within the limits of their types.
use Rattle.std.proofs.Common.{◌≡◌, Bool, true, false, cond, eqb, ltb, List, [], ◌∷◌, length, Ok, refl, subst, sym, ℕ}
use Rattle.std.specs.List.{AllByRecursion}
use Rattle.std.proofs.lemmas.Bool.{eqb-true}
use Rattle.ksi_tlv.specs.Walking.{PlacedTlv}
use Rattle.ksi_tlv.specs.Table.{slot_of}
use Rattle.ksi_tlv.specs.Containing.{inner_verdict}
use Rattle.ksi_tlv.specs.Valid.{MayStandAs, MayStand}
use Rattle.ksi_signature.specs.declared.signature.Signature.{Signature}
use Rattle.ksi_signature.specs.Values.{Aggregation}
use Rattle.ksi_signature.specs.Tables.{chain_table, signature_table}
use Rattle.ksi_signature.specs.Contents.{chain_in, put_chain, chains_behind, signature_of}
use Rattle.ksi_signature.specs.File.{IsSignature}
use Rattle.ksi_signature.specs.Kept.{IsLent}
use Rattle.ksi_signature.proofs.Limits.{IsHeld}
use Rattle.ksi_signature.proofs.Lent.{chain_is}

put_if : (b : Bool) (chain other : Aggregation) (chains : List Aggregation) → IsLent chain → IsLent other → AllByRecursion IsLent chains → AllByRecursion IsLent (put_chain chain chains)
    → AllByRecursion IsLent (cond b (chain ∷ other ∷ chains) (other ∷ put_chain chain chains))
put_if true chain other chains is also are rest = (is, (also, are))
put_if false chain other chains is also are rest = (also, rest)

put_within : (chain : Aggregation) (chains : List Aggregation) → IsLent chain → AllByRecursion IsLent chains → AllByRecursion IsLent (put_chain chain chains)
put_within chain [] is are = (is, tt)
put_within chain (other ∷ chains) is are = put_if (ltb (length other.index) (length chain.index)) chain other chains is are.0 are.1 (put_within chain chains is are.1)

chain_stands : (at : PlacedTlv) → at.element.kind ≡ 2049 → MayStand signature_table at → inner_verdict chain_table at ≡ Ok tt
chain_stands at is may =
    let fits : MayStandAs signature_table at (slot_of signature_table.slots at.element.kind) = may.fits in
    let ok : inner_verdict chain_table at ≡ Ok tt = rw is at fits in
    ok

behind_if : (b : Bool) (at : PlacedTlv) (chains : List Aggregation) (es : List PlacedTlv) → IsHeld → eqb at.element.kind 2049 ≡ b → MayStand signature_table at
    → (IsLent (chain_in at) → AllByRecursion IsLent (chains_behind (put_chain (chain_in at) chains) es)) → AllByRecursion IsLent (chains_behind chains es)
    → AllByRecursion IsLent (cond b (chains_behind (put_chain (chain_in at) chains) es) (chains_behind chains es))
behind_if true at chains es held is may put others = put (chain_is held at (chain_stands at (eqb-true _ _ is) may))
behind_if false at chains es held is may put others = others

behind_within : IsHeld → (chains : List Aggregation) (es : List PlacedTlv) → AllByRecursion IsLent chains → AllByRecursion (MayStand signature_table) es → AllByRecursion IsLent (chains_behind chains es)
behind_within held chains [] are all = are
behind_within held chains (at ∷ es) are all =
    behind_if (eqb at.element.kind 2049) at chains es held refl all.0
    (λ is. behind_within held (put_chain (chain_in at) chains) es (put_within (chain_in at) chains is are) all.1) (behind_within held chains es are all.1)

among_within : IsHeld → (es : List PlacedTlv) → AllByRecursion (MayStand signature_table) es → AllByRecursion IsLent (signature_of es).chains
unfolding signature_of
among_within held es all = behind_within held [] es tt all

pub signature_within : IsHeld → (bytes : List ℕ) (signature : Signature) → IsSignature bytes signature → AllByRecursion IsLent signature.chains
signature_within held bytes signature is =
    subst (λ (signature : Signature). AllByRecursion IsLent signature.chains) (sym is.value) (among_within held is.elements is.content.each)
