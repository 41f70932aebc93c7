-- The meaning of the fields of an Instance.
use Rattle.std.specs.Prelude.{◌^◌, ◌<◌}
use Rattle.ksi_synod.specs.VoteState.{VoteState}
use Rattle.ksi_synod.specs.declared.instance.Instance.TheInside.{Inside}

unfoldable pub state_of : Inside → VoteState
state_of a = record { me = a.me; voters = a.voters; candidate = a.candidate; tried = a.tried; promised = a.promised; vote = a.vote; held = a.held; hand = a.hand }

-- the core's own ballots are 16 * round + core, and all ballots are in range
pub record IsInstance (a : Inside) : Type 0 where
  pub mine : a.me < 16
  pub tried : a.tried < 2 ^ 36
  pub promised : a.promised < 2 ^ 36
