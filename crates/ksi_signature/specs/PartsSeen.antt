-- The values of the borrowed parts of a signature.
use Rattle.ksi_tlv.specs.Views.{view_placed}
use Rattle.ksi_signature.specs.Values.{Aggregation, Calendar, Publishing}
use Rattle.ksi_signature.specs.Contents.{chain_in, calendar_in, publishing_in}
use Rattle.ksi_signature.specs.declared.chain_view.ChainView.{ChainView}
use Rattle.ksi_signature.specs.declared.calendar_view.CalendarView.{CalendarView}
use Rattle.ksi_signature.specs.declared.record_view.RecordView.{RecordView}

abbrev pub chain_seen : ChainView → Aggregation
chain_seen chain = chain_in (view_placed chain.at)

abbrev pub calendar_seen : CalendarView → Calendar
calendar_seen chain = calendar_in (view_placed chain.at)

abbrev pub record_seen : RecordView → Publishing
record_seen published = publishing_in (view_placed published.at)
