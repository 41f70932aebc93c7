-- Borrowed parts of a signature.
use Rattle.ksi_signature.specs.Values.{Calendar, Publishing}
use Rattle.ksi_signature.specs.PartsSeen.{chain_seen}
use Rattle.ksi_signature.specs.declared.chain_view.ChainView.{ChainView}
use Rattle.ksi_verifier.specs.Chains.{PlainChain, plain_chain}
use Rattle.ksi_verifier.specs.declared.lent.CalendarPart.{CalendarPart}
use Rattle.ksi_verifier.specs.declared.lent.RecordPart.{RecordPart}

-- the calendar chain of borrowed parts, wherever its links are in memory
abbrev pub calendar_of : CalendarPart → Calendar
calendar_of part = record { publication = part.publication; time = part.time; input = part.input; links = part.links.now }

-- the time and the hash of a publication record
abbrev pub record_of : Publishing → RecordPart
record_of published = record { time = published.time; hash = published.hash }

-- the value of a borrowed chain
abbrev pub lent_chain : ChainView → PlainChain
lent_chain chain = plain_chain (chain_seen chain)
