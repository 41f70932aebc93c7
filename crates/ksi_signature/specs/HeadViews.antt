-- The results of a walk, whether borrowed or owned.
use Rattle.std.specs.Prelude.{option_map}
use Rattle.ksi_signature.specs.declared.head.Head.{Head}
use Rattle.ksi_signature.specs.declared.head.CalendarHead.{CalendarHead}
use Rattle.ksi_signature.specs.Heads as heads

abbrev pub view_head : Head → heads.Head
view_head head = record { time = head.time; parts = head.parts; last = head.last; input_body = option_map (λ body. body.now) head.input_body; input = head.input.now }

abbrev pub view_calendar_head : CalendarHead → heads.CalendarHead
view_calendar_head head = record { publication = head.publication; time = head.time; input = head.input.now }
