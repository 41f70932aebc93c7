use Rattle.ksi_consistency.specs.Reading.{front_at}
use Rattle.ksi_consistency.proofs.Between.{checked_between}
use Rattle.ksi_consistency.proofs.file_checking.check_file.Goals as goal

pub returns-clause-accepted : goal.returns-clause-accepted
returns-clause-accepted g c =
    let bytes = c.args.bytes.now in
    rw c.checked.ensures
    (checked_between c.one_split.ensures.split g.C.Compress.image c.args.p1 c.args.p2 c.args.r1 c.args.r2 bytes (front_at bytes)
    (λ front. c.front_is_read.ensures.front bytes front) (λ front. c.file_is_front.ensures.front bytes front))
