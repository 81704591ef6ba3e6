-- A site's queue, and the streams to its destinations.
use Rattle.std.specs.Prelude.{ℕ, ◌+◌, ◌==◌, ◌&&◌, Bool, true, false, not, nat_lt, cond, List, [], ◌∷◌, length, map, Option, Some, None}
use Rattle.rep_values.specs.declared.name.SiteName.{SiteName}
use Rattle.rep_schema.specs.declared.schema.Schema.{Schema}
use Rattle.rep_schema.specs.Tables.{Rows}
use Rattle.rep_calls.specs.declared.call.Txn.{Txn}
use Rattle.txn_effects.specs.Contents.{effect_on}
use Rattle.dependency_index.specs.Tokens.{txn_tokens, share_token}
use Rattle.dependency_index.specs.Dependencies.{dependency_number}
use Rattle.txn_effects.specs.declared.local.Here.{Here}
use Rattle.site_state.specs.declared.entry.Entry.{Entry}
use Rattle.site_state.specs.declared.entry.Entry.TheVariants.{Local, Done, Error, Executed, Dropped, Refreshed}
use Rattle.site_state.specs.State.{SiteState, opened_of}
use Rattle.site_state.specs.Contents.{journal_content, txn_of, changes_by}

-- the row changes of a transaction from an origin, applied behind a journal, as a transaction
abbrev pub onward_txn : Schema → Here → List Rows → List Entry → SiteName → Txn → Txn
onward_txn schema here base before origin txn = txn_of schema (changes_by (effect_on schema origin txn (journal_content schema here.site base before)))

-- the changed rows of an entry were queued for the other masters: at a master, under a number
abbrev pub went_onward : Here → ℕ → Bool
went_onward here onward = here.is_master && not (onward == 0)

abbrev pub with_one : {X : Type 0} → Bool → X → List X → List X
with_one true x xs = x ∷ xs
with_one false x xs = xs

-- what a journal queued, the newest first: the site's own transactions, and the changed rows of those that went onward
abbrev pub queue_after : Schema → Here → List Rows → List Entry → List Txn
queue_after schema here base [] = []
queue_after schema here base (Local number txn ∷ es) = txn ∷ queue_after schema here base es
queue_after schema here base (Done origin position onward txn ∷ es) =
    with_one (went_onward here onward) (onward_txn schema here base es origin txn) (queue_after schema here base es)
queue_after schema here base (Error origin position call error txn ∷ es) = queue_after schema here base es
queue_after schema here base (Executed origin position onward txn ∷ es) =
    with_one (went_onward here onward) (onward_txn schema here base es origin txn) (queue_after schema here base es)
queue_after schema here base (Dropped origin position ∷ es) = queue_after schema here base es
queue_after schema here base (Refreshed moment ∷ es) = queue_after schema here base es

-- all that a site ever queued, the newest first, what is purged among them; a transaction's number is its place, the
-- oldest at 1
abbrev pub queue_of : SiteState → List Txn
queue_of x = queue_after x.schema x.here x.base x.journal

-- how many transactions a site has queued
abbrev pub count_of : SiteState → ℕ
count_of x = length (queue_of x)

-- what was queued behind a count, the newest first
abbrev pub queued_behind : {X : Type 0} → ℕ → List X → List X
queued_behind opened [] = []
queued_behind opened (x ∷ xs) = with_one (nat_lt opened (length xs + 1)) x (queued_behind opened xs)

abbrev pub stream_in : {X : Type 0} → Option ℕ → List X → List X
stream_in None queue = []
stream_in (Some opened) queue = queued_behind opened queue

-- the stream to a destination, the newest first: what was queued since it was opened; a position is the place in it, the
-- oldest at 1
abbrev pub stream_to : SiteName → SiteState → List Txn
stream_to site x = stream_in (opened_of site x) (queue_of x)

-- two transactions share a token
abbrev pub shares : Schema → Txn → Txn → Bool
shares schema txn other = share_token (txn_tokens schema txn) (txn_tokens schema other)

-- the dependency number of a transaction behind a stream: the greatest position of the stream whose transaction shares a
-- token with it, or 0
abbrev pub dependency_of : Schema → Txn → List Txn → ℕ
dependency_of schema txn stream = dependency_number (txn_tokens schema txn) (map (txn_tokens schema) stream)

-- the dependency number of a position of a stream
abbrev pub dep_at : Schema → ℕ → List Txn → ℕ
dep_at schema position [] = 0
dep_at schema position (txn ∷ older) = cond (position == length older + 1) (dependency_of schema txn older) (dep_at schema position older)
