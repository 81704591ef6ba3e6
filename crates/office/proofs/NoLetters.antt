-- Where there is no letter.
use Rattle.std.proofs.Common.{◌≡◌, ℕ, ◌<◌, length, None, ap}
use Rattle.rep_values.specs.declared.name.SiteName.{SiteName}
use Rattle.deferred_queue.proofs.Positions.{at_position-above}
use Rattle.site_state.specs.State.{SiteState}
use Rattle.site_state.specs.Streams.{stream_to}
use Rattle.site_state.specs.Packets.{packet_found, site_packet}

-- a position above the last has none
pub site_packet-above : (to : SiteName) (position : ℕ) (x : SiteState) → length (stream_to to x) < position → site_packet to position x ≡ None
site_packet-above to position x above = ap (packet_found to position x) (at_position-above position (stream_to to x) above)
