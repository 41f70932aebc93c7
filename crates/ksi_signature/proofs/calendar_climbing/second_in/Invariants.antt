use Rattle.std.proofs.Common.{◌≡◌, ◌++◌, ◌≤◌, length, drop}
use Rattle.ksi_calendar.specs.Sides.{sides_from_top}
use Rattle.ksi_tlv.specs.Views.{view_placed, rest}
use Rattle.ksi_tlv.specs.Inside.{whole, inner_elements}
use Rattle.ksi_signature.specs.Contents.{calendar_links_among}
use Rattle.ksi_signature.proofs.calendar_climbing.second_in.Given as goal

abbrev pub invariant-loop-item : goal.invariant-loop-item
invariant-loop-item l = record {
  so_far : sides_from_top (calendar_links_among (whole (rest l.elements))) ++ drop l.from l.sides ≡ sides_from_top (calendar_links_among (inner_elements (view_placed l.at)));
  room : length (calendar_links_among (whole (rest l.elements))) ≤ l.from;
  size : length l.sides ≡ 63;
  within : l.from ≤ 63;
}
