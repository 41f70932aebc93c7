use Rattle.ksi_laws_forgetting.proofs.Missed.{same_there, may_there, after_there, restart_there, issued_there, no_other_there, again_there, events_same}
use Rattle.ksi_laws_forgetting.proofs.rounds.dropped_rounds_are_not_missed.Goals as goal

pub returns : goal.returns
returns c = record {
  same = λ before rounds recent event are. same_there before rounds recent are event;
  may = λ before rounds recent event are. may_there before rounds recent are event;
  after = λ image before rounds recent event are. after_there before rounds recent are image event;
  restart = λ before rounds recent are. restart_there before rounds recent are;
  events = events_same;
  again = again_there;
  no_other = λ image before rounds recent number bytes are. no_other_there before rounds recent are image number bytes;
  issued = λ image before rounds recent number second k bytes are. issued_there before rounds recent are image number second k bytes;
}
