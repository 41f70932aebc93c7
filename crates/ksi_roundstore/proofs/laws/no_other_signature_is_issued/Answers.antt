use Rattle.ksi_roundstore.proofs.Unissued.{gone_issues_nothing, stays_issued}
use Rattle.ksi_roundstore.proofs.laws.no_other_signature_is_issued.Goals as goal

pub returns-clause-stays : goal.returns-clause-stays
returns-clause-stays c = λ image before rounds forgot number second k bytes are issued. stays_issued image before rounds forgot number second k bytes are issued

pub returns-clause-gone : goal.returns-clause-gone
returns-clause-gone c = λ before rounds forgot number second k item are apart gone at. gone_issues_nothing before rounds forgot number second k item are apart gone at
