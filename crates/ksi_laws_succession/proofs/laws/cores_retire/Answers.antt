use Rattle.std.proofs.Common.{[], refl}
use Rattle.ksi_laws_succession.proofs.Retiring.{first_cast_none, none_cast}
use Rattle.ksi_laws_succession.proofs.laws.cores_retire.Goals as goal

pub returns : goal.returns
returns c = record {
  unasked = λ image plan last events core unasked. record { before = []; later = events; split = refl; cast = λ second above. first_cast_none image plan core second; unasked = unasked };
  file = λ image plan last before later core running facts is file are unasked.
      record { before = before; later = later; split = refl; cast = none_cast c.a_crash_is_a_restart.ensures.one image plan last before core running facts is file are; unasked = unasked };
}
