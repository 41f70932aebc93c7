use Rattle.std.proofs.Common.{refl}
use Rattle.ksi_corenode.proofs.Storing.{submission_stores, seal_stores, ballot_stores, receive_stores, tell_stores, respond_stores}
use Rattle.ksi_corenode.proofs.laws.rows_store_their_facts.Goals as goal

pub returns : goal.returns
returns c = record {
  submission = submission_stores;
  seal = seal_stores;
  ballot = λ plan second me s. ballot_stores s plan second me;
  receive = λ plan second from m s. receive_stores s plan second from m;
  tell = λ plan second me s. tell_stores s plan second me;
  respond = λ image held start second s. respond_stores s image held start second;
  restart = λ s. refl;
}
