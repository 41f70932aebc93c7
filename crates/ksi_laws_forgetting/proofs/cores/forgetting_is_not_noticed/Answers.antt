use Rattle.ksi_laws_forgetting.proofs.Unnoticed.{row_is, gone_bare, held_there, more_there, one_alike, all_after, restart_there, events_alike, again_there, chain_is}
use Rattle.ksi_laws_forgetting.proofs.cores.forgetting_is_not_noticed.Goals as goal

pub returns : goal.returns
returns c = record {
  row = row_is;
  bare = gone_bare;
  held = λ seconds forgot are t. held_there (seconds t) (forgot t) (are t);
  other = λ seconds forgot are t. more_there (seconds t) (forgot t) (are t);
  alike = λ image plan start me seconds forgot event are. one_alike image plan start me seconds forgot are event;
  after = λ image plan start me seconds forgot event are. all_after image plan start me seconds forgot are event;
  restart = λ seconds forgot are t. restart_there (seconds t) (forgot t) (are t);
  events = λ image plan start me seconds forgot list are. events_alike image plan start me seconds forgot list are;
  again = λ seconds forgot more one other t. again_there (seconds t) (forgot t) (more t) (one t) (other t);
  chain = chain_is;
}
