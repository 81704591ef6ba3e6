-- A master that joins: what it takes over, which streams are opened, and what hinders it.
use Rattle.std.specs.Prelude.{ℕ, ◌+◌, not, cond, List, [], ◌∷◌, map, sum, count_by, Option, Some, None}
use Rattle.std.specs.List.{range_with_len}
use Rattle.rep_values.specs.declared.name.SiteName.{SiteName}
use Rattle.rep_schema.specs.Sites.{senders_of, is_master_site}
use Rattle.rep_calls.specs.declared.past.PastEntry.{PastEntry}
use Rattle.rep_values.specs.SiteNames.{is_same_site}
use Rattle.txn_effects.specs.declared.local.Here.{Here}
use Rattle.error_queue.specs.declared.entry.ErrorEntry.{ErrorEntry}
use Rattle.site_state.specs.State.{SenderState, DestinationState, SiteState, at_sender, at_destination}
use Rattle.site_state.specs.Journal.{finished}
use Rattle.site_state.specs.Contents.{tables_of}
use Rattle.site_state.specs.Streams.{count_of}
use Rattle.site_state.specs.Errors.{errors_of}
use Rattle.site_state.specs.Making.{new_site}

abbrev pub opened_from : Option ℕ → ℕ → Option ℕ
opened_from None count = Some count
opened_from (Some opened) count = Some opened

-- a destination gets what is queued behind a count, where it wasn't open before
abbrev pub opened_at : ℕ → DestinationState → DestinationState
opened_at count d = record { site = d.site; opened = opened_from d.opened count; acked = d.acked }

-- a destination gets each later transaction
abbrev pub site_open : SiteName → SiteState → SiteState
site_open site x = record x { destinations = at_destination site (opened_at (count_of x)) x.destinations }

abbrev pub with_first : ℕ → SenderState → SenderState
with_first number s = record { origin = s.origin; first = number; arrived = s.arrived }

-- the first number of a sender is set
abbrev pub site_first : SiteName → ℕ → SiteState → SiteState
site_first origin number x = record x { senders = at_sender origin (with_first number) x.senders }

-- the number that is given for a name, 0 where none is
abbrev pub number_for : SiteName → List PastEntry → ℕ
number_for name [] = 0
number_for name (given ∷ more) = cond (is_same_site given.origin name) given.number (number_for name more)

-- a sender from whose queue so much is in the rows that a site begins with
abbrev pub sender_from : List PastEntry → SiteName → SenderState
sender_from firsts origin = record { origin = origin; first = number_for origin firsts; arrived = [] }

-- a site that begins with the present rows of another one, when the masters had queued so much
abbrev pub site_copy : SiteState → Here → List PastEntry → SiteState
site_copy source here firsts = record (new_site source.schema here [] [] (tables_of source)) { senders = map (sender_from firsts) (senders_of source.schema here.site) }

-- how many of the positions 1 to a last one aren't finished
abbrev pub unfinished_of : SiteState → PastEntry → ℕ
unfinished_of x last = count_by (λ p. not (finished last.origin x.journal p)) (range_with_len 1 last.number)

-- how many errors of masters' transactions stand
abbrev pub master_errors : SiteState → ℕ
master_errors x = count_by (λ (e : ErrorEntry). is_master_site x.schema e.origin) (errors_of x)

-- what hinders a join at a site, of each origin its last position for that site: the unfinished positions, and the errors
-- of masters' transactions that stand
abbrev pub unfinished : List PastEntry → SiteState → ℕ
unfinished last x = sum (map (unfinished_of x) last) + master_errors x
