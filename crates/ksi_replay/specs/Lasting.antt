-- What becomes of issued signatures.
use Rattle.std.specs.Prelude.{◌≡◌, ℕ, false, List, Ok, Some}
use Rattle.std.specs.List.{AllByRecursion}
use Rattle.ksi_aggtree.specs.Links.{is_bare}
use Rattle.ksi_aggtree.specs.Owned.{plain_links}
use Rattle.ksi_calendar.specs.Covered.{covered_root}
use Rattle.ksi_publications.specs.Finding.{find}
use Rattle.ksi_signature.specs.declared.signature.Signature.{Signature}
use Rattle.ksi_signature.specs.declared.above.AboveChain.{AboveChain}
use Rattle.ksi_signature.specs.File.{IsSignature}
use Rattle.ksi_verifier.specs.declared.verdict.Verdict.TheVariants.{Accepted}
use Rattle.ksi_verifier.specs.Verdict.{verdict}
use Rattle.ksi_journal.specs.Journal.{Contents, root_at}
use Rattle.ksi_extender.specs.Extended.{extended}
use Rattle.ksi_extender.specs.Accepted.{extended_signature}
use Rattle.ksi_auditor.specs.Audit.{audit}
use Rattle.ksi_auditor.specs.Shown.{Shows, Tells}
use Rattle.ksi_schedule.specs.Plans.{PlanState}
use Rattle.ksi_world.specs.declared.outcome.Asked.{Asked}
use Rattle.ksi_world.specs.Histories.{WorldState}
use Rattle.ksi_world.specs.Records.{kept_root}

-- the journal starts where the plan does, and keeps for each second the root that the cores keep
pub record KeepsRoots (plan : PlanState) (w : WorldState) (journal : Contents) : Type 0 where
  pub start : journal.start ≡ plan.start
  pub roots : (t : ℕ) → root_at journal t ≡ kept_root plan w t

-- no link of the chains is bare
abbrev pub AreNotBare : List AboveChain → Type 0
AreNotBare chains = AllByRecursion (λ chain. AllByRecursion (λ link. is_bare link ≡ false) (plain_links chain.links)) chains

-- their first record of p is the root of the journal's calendar to p
abbrev pub Publish : (List ℕ → List ℕ) → Contents → (p : ℕ) → List (ℕ × List ℕ) → Type 0
Publish image journal p publications = find p publications ≡ Some (covered_root image (root_at journal) journal.start p)

-- The text is a signature and is extended to p. Against all publications that publish p so, it is then accepted, at the
-- second of the request and for its imprint, and an audit returns the place of that imprint, or a clash.
pub record LastsTo (image : List ℕ → List ℕ) (journal : Contents) (asked : Asked) (text : List ℕ) (p : ℕ) : Type 0 where
  pub signature : Signature
  pub before : IsSignature text signature
  pub bytes : List ℕ
  pub extension : extended image journal text p ≡ Ok bytes
  pub after : IsSignature bytes (extended_signature image journal signature p)
  pub accepted : (publications : List (ℕ × List ℕ)) → Publish image journal p publications
      → verdict image (extended_signature image journal signature p) asked.imprint publications ≡ Accepted asked.second
  pub audited : (publications : List (ℕ × List ℕ)) → Publish image journal p publications
      → Tells (audit image journal (extended_signature image journal signature p) asked.imprint publications)
  pub shown : (publications : List (ℕ × List ℕ)) → Shows image journal (extended_signature image journal signature p) asked.imprint (audit image journal (extended_signature image journal signature p) asked.imprint publications)
