use Rattle.std.proofs.Common.{subst, sym}
use Rattle.ksi_aggtree.specs.Rounds.{IsRound}
use Rattle.ksi_journal.specs.Journal.{IsJournal}
use Rattle.ksi_journal.proofs.Trees.{kept_round}
use Rattle.ksi_journal.proofs.journal.Journal.round.Goals as goal

pub returns-clause-round : goal.returns-clause-round
returns-clause-round g c =
    subst IsRound (sym c.items.ensures) (kept_round g.C.Compress.image c.args.self.now c.args.second (subst (IsJournal g.C.Compress.image) c.self.view_is c.self.invariant.0))
