-- What a position waits for before it is finished, and the order that this gives at a site.
use Rattle.std.specs.Prelude.{◌≡◌, ℕ, ◌<◌, ◌≤◌, true, List, [], ◌∷◌, Some}
use Rattle.rep_lists.specs.Rising.{find_at}
use Rattle.rep_values.specs.declared.name.SiteName.{SiteName}
use Rattle.rep_schema.specs.declared.schema.Schema.{Schema}
use Rattle.site_state.specs.declared.entry.Entry.{Entry}
use Rattle.site_state.specs.declared.arrival.Arrival.{Arrival}
use Rattle.site_state.specs.State.{SenderState, SiteState, arrival_beside, arrived_at, arrivals}
use Rattle.site_state.specs.Journal.{finishes, finished}
use Rattle.site_state.specs.Streams.{shares}
use Rattle.rep_lists.specs.Counting.{count_where}

-- something holds of each entry of a journal and those before it
abbrev pub EachBehind : (Entry → List Entry → Type 0) → List Entry → Type 0
EachBehind P [] = Unit {0}
EachBehind P (e ∷ es) = P e es × EachBehind P es

-- where an entry finishes a position, the earlier positions up to the dependency number with which it arrived were finished
-- before
abbrev pub HasWaited : List SenderState → Entry → List Entry → Type 0
HasWaited senders e before = (origin : SiteName) (p q : ℕ) (a : Arrival) → finishes origin q e ≡ true → arrived_at origin q senders ≡ Some a
    → 0 < p → p < q → p ≤ a.dep → finished origin before p ≡ true

-- so it was with each position that a journal finishes
abbrev pub HaveWaited : List SenderState → List Entry → Type 0
HaveWaited senders journal = EachBehind (HasWaited senders) journal

-- arrivals are well numbered: of two whose transactions share a token, the later one's dependency number is at least the
-- earlier position
abbrev pub IsWellNumbered : Schema → List Arrival → Type 0
IsWellNumbered schema arrived = (p q : ℕ) (a b : Arrival) → find_at (arrival_beside p) arrived ≡ Some a → find_at (arrival_beside q) arrived ≡ Some b
    → p < q → shares schema b.txn a.txn ≡ true → p ≤ b.dep

-- where an entry finishes a position of a sender, the earlier ones whose transactions share a token with its own were
-- finished before; positions are counted from 1
abbrev pub ComesBehind : SiteState → SiteName → Entry → List Entry → Type 0
ComesBehind x origin e before = (p q : ℕ) (a b : Arrival) → finishes origin q e ≡ true → arrived_at origin p x.senders ≡ Some a → arrived_at origin q x.senders ≡ Some b
    → 0 < p → p < q → shares x.schema b.txn a.txn ≡ true → finished origin before p ≡ true

-- a site finishes the earlier of two positions of a sender that share a token first, where what arrived from the sender is
-- well numbered
abbrev pub FinishesEarlierFirst : SiteState → Type 0
FinishesEarlierFirst x = (origin : SiteName) → IsWellNumbered x.schema (arrivals origin x) → EachBehind (ComesBehind x origin) x.journal

-- a journal finishes each position of an origin at most once
abbrev pub IsFinishedOnce : List Entry → Type 0
IsFinishedOnce journal = (origin : SiteName) (position : ℕ) → count_where (finishes origin position) journal ≤ 1
