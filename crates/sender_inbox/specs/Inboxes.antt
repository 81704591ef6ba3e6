-- The inboxes of a site, and what they and the error queue have of its journal.
use Rattle.std.specs.Prelude.{◌≡◌, ℕ, List, map, Option}
use Rattle.std.specs.List.{find}
use Rattle.rep_values.specs.declared.name.SiteName.{SiteName}
use Rattle.rep_values.specs.SiteNames.{is_same_site}
use Rattle.origin_marks.specs.Marks as marks
use Rattle.error_queue.specs.ErrorLists.{ErrorList}
use Rattle.site_state.specs.declared.entry.Entry.{Entry}
use Rattle.site_state.specs.State.{SenderState}
use Rattle.site_state.specs.Journal.{finished}
use Rattle.site_state.specs.Errors.{errors_from}
use Rattle.sender_inbox.specs.Incoming.{Incoming}

-- the senders of inboxes
abbrev pub senders_in : List Incoming → List SenderState
senders_in inboxes = map (λ (i : Incoming). i.sender) inboxes

-- the inbox of a sender
abbrev pub inbox_of : SiteName → List Incoming → Option Incoming
inbox_of origin inboxes = find (λ (i : Incoming). is_same_site i.sender.origin origin) inboxes

abbrev pub sender_in : Incoming → SenderState
sender_in i = i.sender

-- an inbox has the positions as finished that a journal finishes
abbrev pub Follows : List Entry → Incoming → Type 0
Follows journal i = (position : ℕ) → marks.finished i.marked position ≡ finished i.sender.origin journal position

-- the errors of a sender that stand
abbrev pub error_list : List Entry → SenderState → ErrorList
error_list journal s = record { origin = s.origin; entries = errors_from journal s }
