use Rattle.std.proofs.Common.{length}
use Rattle.ksi_auditor.proofs.links.+are_link_list.Given as goal

abbrev pub decreases-are_link_list : goal.decreases-are_link_list
decreases-are_link_list l = length l.links.now
