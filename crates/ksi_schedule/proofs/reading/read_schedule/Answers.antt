use Rattle.std.proofs.Common.{rules}
use Rattle.ksi_schedule.proofs.Both.{refused, found, told}
use Rattle.ksi_schedule.proofs.reading.read_schedule.Goals as goal

pub returns-clause-told : goal.returns-clause-told
returns-clause-told c = search (rules, told, found, refused)

pub returns-clause-found : goal.returns-clause-found
returns-clause-found c = search (rules, told, found, refused)

pub returns-clause-refused : goal.returns-clause-refused
returns-clause-refused c = search (rules, told, found, refused)
