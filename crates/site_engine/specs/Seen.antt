-- What the inboxes of a site tell of the masters among its senders.
use Rattle.std.specs.Prelude.{◌&&◌, nat_lt, cond, List, [], ◌∷◌, Option, Some, None}
use Rattle.std.specs.declared.cmp.Ordering.{Ordering}
use Rattle.rep_lists.specs.Rising.{put_at}
use Rattle.rep_values.specs.Order.{name_cmp}
use Rattle.rep_schema.specs.declared.schema.Schema.{Schema}
use Rattle.rep_calls.specs.declared.past.PastEntry.{PastEntry}
use Rattle.rep_schema.specs.Sites.{is_master_site}
use Rattle.site_state.specs.Pasts.{beside_name}
use Rattle.sender_inbox.specs.Incoming.{Incoming, seen_in}

abbrev pub by_name : PastEntry → PastEntry → Ordering
by_name a b = name_cmp a.origin.0 b.origin.0

-- what is seen of a sender, where it is a master and something is seen of it
abbrev pub seen_from : Schema → Incoming → Option PastEntry
seen_from schema i = cond (is_master_site schema i.sender.origin && nat_lt 0 (seen_in i)) (Some (record { origin = i.sender.origin; number = seen_in i })) None

abbrev pub with_found : Option PastEntry → List PastEntry → List PastEntry
with_found None past = past
with_found (Some seen) past = put_at (beside_name seen.origin) seen past

-- what is seen of the masters among the senders, in rising order of names
abbrev pub past_from : Schema → List Incoming → List PastEntry
past_from schema [] = []
past_from schema (i ∷ is) = with_found (seen_from schema i) (past_from schema is)
