-- The steps of lent chains are those of the signature that they show.
use Rattle.std.proofs.Common.{◌≡◌, ℕ, List, [], ◌∷◌, map, Option, refl, ap, ◌∙◌}
use Rattle.std.specs.List.{slice_get}
use Rattle.ksi_imprint.specs.Imprints.{imprint_of}
use Rattle.ksi_signature.specs.PartsSeen.{chain_seen}
use Rattle.ksi_signature.specs.Values.{Calendar}
use Rattle.ksi_signature.specs.declared.chain_view.ChainView.{ChainView}
use Rattle.ksi_signature.specs.declared.signature.Signature.{Signature}
use Rattle.ksi_verifier.specs.Chains.{PlainChain, plain_chains}
use Rattle.ksi_verifier.specs.Lent.{lent_chain}
use Rattle.ksi_verifier.specs.Steps.{steps, steps_from}

lent_all : (chains : List ChainView) → map lent_chain chains ≡ plain_chains (map chain_seen chains)
lent_all [] = refl
lent_all (chain ∷ chains) = ap (λ (plain : List PlainChain). lent_chain chain ∷ plain) (lent_all chains)

pub same_steps : (signature : Signature) (chains : List ChainView) (calendar : Option Calendar) (number : ℕ) → map chain_seen chains ≡ signature.chains → calendar ≡ signature.calendar
    → slice_get (steps_from imprint_of 0 0 (map lent_chain chains) calendar) number ≡ slice_get (steps imprint_of signature) number
same_steps signature chains calendar number are is =
    let plain : map lent_chain chains ≡ plain_chains signature.chains = lent_all chains ∙ ap plain_chains are in
    λ i. slice_get (steps_from imprint_of 0 0 (plain i) (is i)) number
