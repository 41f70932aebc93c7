use Rattle.ksi_tlv.specs.Views.{view_placed}
use Rattle.ksi_signature.proofs.LentCalendar.{calendar_is}
use Rattle.ksi_signature.proofs.within.calendar_is_limited.Goals as goal

pub returns : goal.returns
returns c = calendar_is c.inside_is_whole.ensures (view_placed c.args.at.now) c.requires
