-- What an extension reports, of the bytes that are held.
use Rattle.std.proofs.Common.{◌≡◌, ℕ, ◌<◌, List, [], ◌∷◌, length, map, get_or, Result, Ok, Err, ap, ◌∙◌, subst, arith}
use Rattle.std.specs.Prelude.{IfOk}
use Rattle.std.specs.declared.alloc.AllocError.{AllocError}
use Rattle.ksi_imprint.specs.Imprints.{imprint_of}
use Rattle.ksi_journal.specs.Journal.{Contents}
use Rattle.ksi_signature.specs.PartsSeen.{chain_seen}
use Rattle.ksi_signature.specs.Values.{Aggregation}
use Rattle.ksi_signature.specs.declared.chain_view.ChainView.{ChainView}
use Rattle.ksi_verifier.specs.Chains.{plain_chains, first_chain}
use Rattle.ksi_extender.specs.Extended.{extended}
use Rattle.ksi_top.specs.declared.report.Report.{Report}
use Rattle.ksi_top.specs.declared.status.Status.TheVariants.{Done}
use Rattle.ksi_top.specs.Extend.{IsExtensionOver, SavesExtension, extended_report}

pub extended_same : (journal : Contents) (time second : ℕ) (out slice text : List ℕ) (computed : Result Report AllocError) → slice ≡ text
    → IfOk computed (λ report. report ≡ extended_report time second out (extended imprint_of journal slice second)) → IfOk computed (λ report. report ≡ extended_report time second out (extended imprint_of journal text second))
extended_same journal time second out slice text computed held is =
    subst (λ (text : List ℕ). IfOk computed (λ report. report ≡ extended_report time second out (extended imprint_of journal text second))) held is

-- the time of the first chain
pub first_seen : (chains : List ChainView) (all : List Aggregation) (chain : ChainView) → map chain_seen chains ≡ all → 0 < length chains → chain ≡ get_or chains 0 chain → (chain_seen chain).time ≡ (first_chain (plain_chains all)).time
first_seen [] all chain same some is = absurd (omega (arith, some))
first_seen (x ∷ xs) all chain same some is = ap (λ (c : ChainView). (chain_seen c).time) is ∙ ap (λ (chains : List Aggregation). (first_chain (plain_chains chains)).time) same

pub extension_means : (journal : Contents) (second : ℕ) (out slice text : List ℕ) (computed : Result Report AllocError) → slice ≡ text
    → IfOk computed (λ report. report.status ≡ Done → SavesExtension journal slice second out report) → IfOk computed (IsExtensionOver journal text second out)
extension_means journal second out slice text (Ok report) held is = record { taken = subst (λ (text : List ℕ). report.status ≡ Done → SavesExtension journal text second out report) held is }
extension_means journal second out slice text (Err none) held is = tt
