use Rattle.ksi_corenode.specs.Rows.{submission_row, seal_row, ballot_row, receive_row, tell_row, respond_row}
use Rattle.ksi_laws_facts.proofs.Storing.{adds_stored, submission_new, seal_new, ballot_new, receive_new, tell_new, respond_new, request_stored, submission_stored, close_stored, response_stored}
use Rattle.ksi_laws_facts.proofs.laws.rows_add_what_they_store.Goals as goal

pub returns : goal.returns
returns c =
    let stores = c.rows_store_their_facts.ensures in
    record {
      submission = λ from item s. adds_stored s (submission_row from item s) (stores.submission from item s) (submission_new s from item);
      seal = λ image s. adds_stored s (seal_row image s) (stores.seal image s) (seal_new s image);
      ballot = λ plan second me s. adds_stored s (ballot_row plan second me s) (stores.ballot plan second me s) (ballot_new s plan second me);
      receive = λ plan second from m s. adds_stored s (receive_row plan second from m s) (stores.receive plan second from m s) (receive_new s plan second from m);
      tell = λ plan second me s. adds_stored s (tell_row plan second me s) (stores.tell plan second me s) (tell_new s plan second me);
      respond = λ image held start second s. adds_stored s (respond_row image held start second s) (stores.respond image held start second s) (respond_new s image held start second);
      request = λ number imprint name r. request_stored r number imprint name;
      item = λ from item r. submission_stored r from item;
      close = λ image r. close_stored r image;
      response = λ image above r. response_stored r image above;
    }
