use Rattle.ksi_roundstore.proofs.Formatted.{formatted_file}
use Rattle.ksi_roundstore.proofs.laws.a_new_file_has_no_facts.Goals as goal

pub returns : goal.returns
returns c = formatted_file c.facts_one_by_one.ensures.none c.records_are_read_again.ensures.closed
