-- What a word says of the chains above a round, or its fault.
use Rattle.std.specs.Prelude.{ℕ, List, [], ◌∷◌, length, map, drop, Bool, true, false, ◌&&◌, ◌||◌, ◌==◌, nat_le, Option, Some, None, Result, Ok, Err, if◌then◌else◌}
use Rattle.std.specs.List.{list_all}
use Rattle.hex.specs.Hex.{decode_of}
use Rattle.hex.specs.declared.error.FromHexError.{FromHexError}
use Rattle.ksi_split.specs.declared.side.Side.{Side}
use Rattle.ksi_split.specs.declared.side.Side.TheVariants.{Left, Right}
use Rattle.ksi_aggtree.specs.declared.chains.link.Link.{Link}
use Rattle.ksi_aggtree.specs.declared.chains.link.Sibling.{Sibling}
use Rattle.ksi_aggtree.specs.declared.chains.link.Sibling.TheVariants as siblings
use Rattle.ksi_signature.specs.declared.above.Above.{Above}
use Rattle.ksi_signature.specs.declared.above.AboveChain.{AboveChain}
use Rattle.ksi_signature.specs.declared.fault.SignatureFault.{SignatureFault}
use Rattle.ksi_signature.specs.declared.signature.Signature.{Signature}
use Rattle.ksi_signature.specs.Reading.{signature_at}
use Rattle.ksi_signature.specs.Values.{Aggregation, Calendar, Publishing}
use Rattle.ksi_schedule.specs.Pieces.{Text}
use Rattle.ksi_wire.specs.declared.fault.WireFault.{WireFault}
use Rattle.ksi_wire.specs.declared.fault.WireFault.TheVariants as faults

-- ---- which links may be above a round, as tests: those of `AreRoundLinks`

abbrev pub is_node : Sibling → Bool
is_node (siblings.Imprint imprint) = true
is_node (siblings.Legacy bytes) = false
is_node (siblings.Metadata bytes) = false

abbrev pub is_short_metadata : Sibling → Bool
is_short_metadata (siblings.Imprint imprint) = false
is_short_metadata (siblings.Legacy bytes) = false
is_short_metadata (siblings.Metadata bytes) = nat_le 1 (length bytes) && nat_le (length bytes) 70

abbrev pub is_left : Side → Bool
is_left Left = true
is_left Right = false

-- the link that leads up from an item with a name
abbrev pub is_name_link : Link → Bool
is_name_link link = (is_short_metadata link.sibling && link.correction == 0) && is_left link.side

abbrev pub are_round_links : List Link → Bool
are_round_links [] = true
are_round_links (lowest ∷ others) =
    (nat_le (length (lowest ∷ others)) 17 && (is_node lowest.sibling || is_name_link lowest)) && list_all (λ link. is_node link.sibling) others

-- ---- what a signature says of the chains above its item

abbrev pub has_round_links : Aggregation → Bool
has_round_links chain = are_round_links chain.links

abbrev pub as_above : Aggregation → AboveChain
as_above chain = record { input = chain.input; links = chain.links }

-- at most 8 chains of links that may be above a round, including the item's own
abbrev pub may_stand : List Aggregation → Bool
may_stand chains = nat_le (length chains) 8 && list_all has_round_links chains

-- a calendar chain, no publication record, and all chains but the lowest, which is the item's own
abbrev pub above_by : List Aggregation → Option Calendar → Option Publishing → Option Above
above_by chains None published = None
above_by chains (Some calendar) (Some published) = None
above_by chains (Some calendar) None =
    if may_stand chains then Some (record { root = calendar.input; chains = map as_above (drop 1 chains); calendar = calendar.links }) else None

abbrev pub above_from : Signature → Option Above
above_from signature = above_by signature.chains signature.calendar signature.publication

-- ---- what a word says

abbrev pub or_above : Option Above → Result Above WireFault
or_above None = Err faults.Above
or_above (Some above) = Ok above

abbrev pub by_signature : Result Signature SignatureFault → Result Above WireFault
by_signature (Ok signature) = or_above (above_from signature)
by_signature (Err fault) = Err faults.Above

abbrev pub by_bytes : Result (List ℕ) FromHexError → Result Above WireFault
by_bytes (Ok bytes) = by_signature (signature_at bytes)
by_bytes (Err error) = Err faults.Above

-- the word is the hex, of either case, of a signature that has the path above a round
unfoldable pub above_said : (word : Text) → Result Above WireFault
above_said word = by_bytes (decode_of word)
