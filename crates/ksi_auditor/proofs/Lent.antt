-- The links of lent chains.
use Rattle.std.proofs.Common.{◌≡◌, ◌<◌, ◌≤◌, ◌^◌, ℕ, List, [], ◌∷◌, Option, Some, None, map, option_map, length, refl, sym, subst, ap, arith}
use Rattle.std.specs.Prelude.{IfSome}
use Rattle.std.specs.List.{AllByRecursion}
use Rattle.ksi_aggtree.specs.Links.{PlainLink}
use Rattle.ksi_aggtree.specs.Owned.{plain_links, sibling_bytes}
use Rattle.ksi_aggtree.specs.declared.chains.link.Link.{Link}
use Rattle.ksi_aggtree.specs.declared.chains.link.Sibling.{Sibling}
use Rattle.ksi_aggtree.specs.declared.chains.link.Sibling.TheVariants.{Imprint, Legacy, Metadata}
use Rattle.ksi_beside.specs.Beside.{IsShortLink}
use Rattle.ksi_signature.specs.Kept.{HasImprint, IsLink}
use Rattle.ksi_signature.specs.Values.{Calendar, HasSize}
use Rattle.ksi_signature.specs.PartsSeen.{chain_seen}
use Rattle.ksi_signature.specs.declared.chain_view.ChainView.{ChainView}
use Rattle.ksi_verifier.specs.Chains.{PlainChain, plain_chains}
use Rattle.ksi_verifier.specs.Lent.{calendar_of, lent_chain}
use Rattle.ksi_verifier.specs.declared.lent.CalendarPart.{CalendarPart}
use Rattle.ksi_verifier.specs.Verdict.{verdict}
use Rattle.ksi_verifier.specs.declared.verdict.Verdict.{Verdict}
use Rattle.ksi_journal.specs.Journal.{Contents}
use Rattle.ksi_signature.specs.declared.signature.Signature.{Signature}
use Rattle.ksi_auditor.specs.Audit.{accepted_or_not, audit, links_of}

pub lent_chains : (chains : List ChainView) → map lent_chain chains ≡ plain_chains (map chain_seen chains)
lent_chains [] = refl
lent_chains (chain ∷ chains) = ap (λ (higher : List PlainChain). lent_chain chain ∷ higher) (lent_chains chains)

-- siblings of a signature are short
short_sibling : (sibling : Sibling) → HasImprint sibling → HasSize sibling → length (sibling_bytes sibling) ≤ 4096
short_sibling (Imprint imprint) is size = let n = is.size in omega (arith, n)
short_sibling (Legacy bytes) is size = size.1
short_sibling (Metadata bytes) is size = size.1

pub short_links : (links : List Link) → AllByRecursion IsLink links → AllByRecursion (λ link. HasSize link.sibling) links → AllByRecursion IsShortLink (plain_links links)
short_links [] each sizes = tt
short_links (link ∷ links) each sizes = (short_sibling link.sibling each.0.sibling sizes.0, short_links links each.1 sizes.1)

-- an audit of a signature, of its parts
pub audit_is : (image : List ℕ → List ℕ) (journal : Contents) (signature : Signature) (hash : List ℕ) (publications : List (ℕ × List ℕ)) (links : List PlainLink) (calendar : Option Calendar) (told : Verdict)
    → links ≡ links_of signature → calendar ≡ signature.calendar → told ≡ verdict image signature hash publications
    → accepted_or_not image journal links calendar hash told ≡ audit image journal signature hash publications
unfolding audit
audit_is image journal signature hash publications links calendar told l c t = λ i. accepted_or_not image journal (l i) (c i) hash (t i)

-- the time of a lent calendar chain
pub early_part : (part : Option CalendarPart) (chain : Option Calendar) → option_map calendar_of part ≡ chain → IfSome chain (λ (c : Calendar). c.publication < 2 ^ 63)
    → IfSome part (λ (p : CalendarPart). (calendar_of p).publication < 2 ^ 63)
early_part None chain is early = tt
early_part (Some p) chain is early = subst (λ (some : Option Calendar). IfSome some (λ (c : Calendar). c.publication < 2 ^ 63)) (sym is) early
