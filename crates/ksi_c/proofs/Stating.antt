-- An accepted signature states the second that it proves.
use Rattle.std.proofs.Common.{◌≡◌, ℕ, ◌<◌, List, [], ◌∷◌, length, Result, Ok, Err, refl, ap, ◌∙◌, arith}
use Rattle.std.specs.List.{AllByRecursion}
use Rattle.ksi_signature.specs.declared.fault.SignatureFault.{SignatureFault}
use Rattle.ksi_signature.specs.declared.signature.Signature.{Signature}
use Rattle.ksi_signature.specs.File.{IsSignature}
use Rattle.ksi_verifier.specs.declared.proved.Proved.{Proved}
use Rattle.ksi_verifier.specs.Chains.{PlainChain, first_chain, plain_chains}
use Rattle.ksi_verifier.specs.Files.{IsVerified}
use Rattle.ksi_c.specs.Seconds.{second_or, second_status, stated_second}

first_time : (chains : List PlainChain) (t : ℕ) → 0 < length chains → AllByRecursion (λ chain. chain.time ≡ t) chains → (first_chain chains).time ≡ t
first_time [] t some all = absurd (omega (arith, some))
first_time (chain ∷ chains) t some all = all.0

pub states : (image : List ℕ → List ℕ) (signature hash publications : List ℕ) (proved : Proved) (old : ℕ) (read : Result Signature SignatureFault)
    → ((s : Signature) → IsSignature signature s → read ≡ Ok s) → IsVerified image signature hash publications proved
    → (second_status read ≡ 0) × (second_or old read ≡ proved.second)
states image signature hash publications proved old read reads is =
    let here : read ≡ Ok is.read = reads is.read is.signature_is in
    let chains = is.accepted.accepted.chains in (
      ap second_status here,
      ap (second_or old) here ∙ first_time (plain_chains is.read.chains) proved.second chains.some chains.times,
    )
