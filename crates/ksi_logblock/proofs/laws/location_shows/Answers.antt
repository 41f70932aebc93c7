use Rattle.ksi_logblock.proofs.BlockTree.{Laws}
use Rattle.ksi_logblock.proofs.Showing.{Cited, shows, inside}
use Rattle.ksi_logblock.proofs.laws.location_shows.Goals as goal

pub returns-clause-shows : goal.returns-clause-shows
returns-clause-shows c = λ image block line proof imprints some mask siblings.
    let laws : Laws = record { split = c.one_split.ensures.split; one_item = c.one_round.ensures.one_item; cut = c.one_round.ensures.cut } in
    let cited : Cited = record { second = c.one_answer.ensures.second; way = c.one_way.ensures.way; clash = c.beside_a_tree.ensures.clash } in
    shows laws cited image imprints block some line proof mask siblings

pub returns-clause-inside : goal.returns-clause-inside
returns-clause-inside c = λ image block line proof k imprints some mask siblings.
    let laws : Laws = record { split = c.one_split.ensures.split; one_item = c.one_round.ensures.one_item; cut = c.one_round.ensures.cut } in
    let cited : Cited = record { second = c.one_answer.ensures.second; way = c.one_way.ensures.way; clash = c.beside_a_tree.ensures.clash } in
    inside laws cited image imprints block some line proof mask siblings k
