use Rattle.std.proofs.Common.{Err, ap, refl}
use Rattle.std.proofs.lemmas.Result.{err_from_is_err_and}
use Rattle.ksi_imprint.specs.declared.refused.Refused.TheVariants.{Fault}
use Rattle.ksi_tlv.specs.Walking.{elements}
use Rattle.ksi_tlv.specs.Inside.{whole}
use Rattle.ksi_publications.specs.declared.fault.PublicationsFault.{PublicationsFault}
use Rattle.ksi_publications.specs.Tables.{file_table}
use Rattle.ksi_publications.specs.File.{pairs_of}
use Rattle.ksi_publications.proofs.Files.{file_of}
use Rattle.ksi_publications.proofs.reader.read.Goals as goal

pub returns-in_err-rest-clause-fault : goal.returns-in_err-rest-clause-fault
returns-in_err-rest-clause-fault c =
    let p = err_from_is_err_and c.from_residual.result c.from_residual.ensures.1 in
    λ fault is. rw (p.1, p.2) (ap (λ (fault : PublicationsFault). Err (Fault fault)) (c.file_or_fault.ensures.one_fault c.args.bytes.now _ fault c.in_err-rest.ensures.fault is))

pub returns-in_err-pairs-clause-fault : goal.returns-in_err-pairs-clause-fault
returns-in_err-pairs-clause-fault c =
    let held = c.inside_is_whole.ensures file_table 0 8 c.in_ok-rest.rest.now refl c.in_ok-rest.ensures.whole in
    let file = file_of c.args.bytes.now c.in_ok-rest.rest.now (pairs_of (whole (elements 8 c.in_ok-rest.rest.now))) c.in_ok-rest.ensures.begins held refl in
    λ fault is. absurd (c.file_or_fault.ensures.not_both c.args.bytes.now (pairs_of (whole (elements 8 c.in_ok-rest.rest.now))) fault file is)

pub returns-in_err-pairs-clause-refused : goal.returns-in_err-pairs-clause-refused
returns-in_err-pairs-clause-refused c =
    let p = err_from_is_err_and c.from_residual-in_err-pairs.result c.from_residual-in_err-pairs.ensures.1 in
    let held = c.inside_is_whole.ensures file_table 0 8 c.in_ok-rest.rest.now refl c.in_ok-rest.ensures.whole in
    let file = file_of c.args.bytes.now c.in_ok-rest.rest.now (pairs_of (whole (elements 8 c.in_ok-rest.rest.now))) c.in_ok-rest.ensures.begins held refl in
    rw (p.1, p.2) (pairs_of (whole (elements 8 c.in_ok-rest.rest.now)), file)

pub returns-clause-fault : goal.returns-clause-fault
returns-clause-fault c =
    let held = c.inside_is_whole.ensures file_table 0 8 c.in_ok-rest.rest.now refl c.in_ok-rest.ensures.whole in
    let file = file_of c.args.bytes.now c.in_ok-rest.rest.now (pairs_of (whole (elements 8 c.in_ok-rest.rest.now))) c.in_ok-rest.ensures.begins held refl in
    λ fault is. absurd (c.file_or_fault.ensures.not_both c.args.bytes.now (pairs_of (whole (elements 8 c.in_ok-rest.rest.now))) fault file is)
