use Rattle.ksi_roundstore.proofs.LastLine.{tail_is}
use Rattle.ksi_roundstore.proofs.last_line.behind_feed.Goals as goal

pub returns-in-Some : goal.returns-in-Some
returns-in-Some c = λ front line is ended free.
    tail_is c.args.content.now c.args.body.now front line c.split_at.result.1.now c.requires.0 c.in-Some.place c.requires.1 is ended free
    c.in-Some.ensures.0.high c.in-Some.ensures.1 (λ k behind within. c.in-Some.ensures.0.after k behind within) c.split_at.ensures.back
