use Rattle.std.proofs.Common.{◌≡◌, Err, ap, subst, refl}
use Rattle.ksi_tlv.specs.Walking.{elements}
use Rattle.ksi_tlv.specs.Inside.{whole}
use Rattle.ksi_publications.specs.declared.fault.PublicationsFault.{PublicationsFault}
use Rattle.ksi_publications.specs.Tables.{file_table}
use Rattle.ksi_publications.specs.File.{pairs_of, IsPublicationsFault}
use Rattle.ksi_publications.proofs.Files.{file_of}
use Rattle.ksi_publications.proofs.publications_view.PublicationsView.of.Goals as goal

pub returns-in-Ok-clause-fault : goal.returns-in-Ok-clause-fault
returns-in-Ok-clause-fault c =
    let held = c.inside_is_whole.ensures file_table 0 8 c.in-Ok.rest.now refl c.in-Ok.ensures.whole in
    let file = file_of c.args.bytes.now c.in-Ok.rest.now (pairs_of (whole (elements 8 c.in-Ok.rest.now))) c.in-Ok.ensures.begins held refl in
    λ fault. (λ e. absurd cc, λ is. absurd (c.file_or_fault.ensures.not_both c.args.bytes.now (pairs_of (whole (elements 8 c.in-Ok.rest.now))) fault file is))

pub returns-in-Err-clause-fault : goal.returns-in-Err-clause-fault
returns-in-Err-clause-fault c =
    λ fault. (
      λ e. let same : c.in-Err.fault ≡ fault = cc in subst (IsPublicationsFault c.args.bytes.now) same c.in-Err.ensures.fault,
      λ is. ap (λ (fault : PublicationsFault). Err fault) (c.file_or_fault.ensures.one_fault c.args.bytes.now _ fault c.in-Err.ensures.fault is),
    )
