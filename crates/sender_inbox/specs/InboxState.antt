-- What an inbox keeps beside what its contracts show.
use Rattle.std.specs.Prelude.{◌≡◌, ℕ, List}
use Rattle.rep_values.specs.declared.name.SiteName.{SiteName}
use Rattle.origin_marks.specs.Marks.{Marked, finished}
use Rattle.site_state.specs.declared.arrival.Arrival.{Arrival}
use Rattle.sender_inbox.specs.Incoming.{greatest_where, IsInbox}
use Rattle.sender_inbox.specs.Reaching.{PastsRise}

-- the greatest number among the finished positions is at hand, and from which position on pasts rise
pub record KeepsGreatest (origin : SiteName) (arrived : List Arrival) (marked : Marked) (greatest from : ℕ) : Type 0 where
  pub inbox : IsInbox origin arrived marked
  pub pasts : PastsRise from arrived
  pub greatest_is : greatest ≡ greatest_where (finished marked) arrived
