-- What it asks to put the newest entries of a journal into rising order of position, what that leaves, and that a site
-- stays as it was.
use Rattle.std.specs.Prelude.{◌≡◌, ℕ, ◌<◌, ◌≤◌, ◌==◌, Bool, true, List, [], ◌∷◌, length, take, drop, reverse}
use Rattle.std.specs.List.{AllByRecursion}
use Rattle.std.specs.List.Sorted.{IsPermutation}
use Rattle.std.specs.Ordering.{nat_cmp}
use Rattle.std.specs.declared.cmp.Ordering.{Ordering}
use Rattle.rep_lists.specs.Rising.{IsRising}
use Rattle.rep_values.specs.declared.name.SiteName.{SiteName}
use Rattle.rep_schema.specs.declared.schema.Schema.{Schema}
use Rattle.rep_schema.specs.Tables.{AreTables}
use Rattle.rep_calls.specs.declared.call.Txn.{Txn}
use Rattle.rep_laws.specs.Commuting.{IsSound}
use Rattle.site_state.specs.declared.entry.Entry.{Entry}
use Rattle.site_state.specs.declared.entry.Entry.TheVariants.{Local, Done, Error, Executed, Dropped, Refreshed}
use Rattle.site_state.specs.State.{SiteState}
use Rattle.rep_schema.specs.Sites.{is_master_site}
use Rattle.site_state.specs.Journal.{finished, low_water, error_at}
use Rattle.site_state.specs.Contents.{content_of}
use Rattle.site_state.specs.Streams.{queue_of, shares}
use Rattle.site_state.specs.Pasts.{past_of, pasts_of}
use Rattle.site_state.specs.Errors.{errors_of}
use Rattle.site_state.specs.Fits.{EntryHas, SiteFits}
use Rattle.rep_lists.specs.Counting.{count_where}

-- ---- entries from a place on

-- the position that an entry finishes, 0 where it finishes none
abbrev pub finish_position : Entry → ℕ
finish_position (Local number txn) = 0
finish_position (Done origin position onward txn) = position
finish_position (Error origin position call error txn) = position
finish_position (Executed origin position onward txn) = 0
finish_position (Dropped origin position) = 0
finish_position (Refreshed moment) = 0

-- an entry finishes a position of this origin
abbrev pub IsFinishOf : SiteName → Entry → Type 0
IsFinishOf origin (Local number txn) = ⊥
IsFinishOf origin (Done o position onward txn) = o ≡ origin
IsFinishOf origin (Error o position call error txn) = o ≡ origin
IsFinishOf origin (Executed o position onward txn) = ⊥
IsFinishOf origin (Dropped o position) = ⊥
IsFinishOf origin (Refreshed moment) = ⊥

-- the entries of a journal from a place on, the oldest first
abbrev pub entries_from : ℕ → List Entry → List Entry
entries_from place journal = drop place (reverse journal)

-- the entries before a place, the oldest first
abbrev pub entries_before : ℕ → List Entry → List Entry
entries_before place journal = take place (reverse journal)

-- where the position of an entry stands beside that of another one
abbrev pub by_finish_position : Entry → Entry → Ordering
by_finish_position one other = nat_cmp (finish_position one) (finish_position other)

-- an entry has this position
abbrev pub has_position : ℕ → Entry → Bool
has_position position e = finish_position e == position

-- no two entries have the same position
abbrev pub PositionsDiffer : List Entry → Type 0
PositionsDiffer entries = (position : ℕ) → count_where (has_position position) entries ≤ 1

-- where the transactions of two entries share a token, the earlier one has the lower position
abbrev pub StandsFirst : Schema → Entry → Entry → Type 0
StandsFirst schema earlier later = EntryHas (λ (txn : Txn). EntryHas (λ (other : Txn). shares schema txn other ≡ true → finish_position earlier < finish_position later) later) earlier

-- of two entries whose transactions share a token, the lower position stands first; the oldest stands first in the list
abbrev pub AreInOrder : Schema → List Entry → Type 0
AreInOrder schema [] = Unit {0}
AreInOrder schema (e ∷ es) = AllByRecursion (StandsFirst schema e) es × AreInOrder schema es

-- ---- the step

-- the entries from a place on finish positions of one master, and those that share a token stand in order
pub record CanBeSorted (schema : Schema) (origin : SiteName) (place : ℕ) (journal : List Entry) : Type 0 where
  pub within : place ≤ length journal
  pub master : is_master_site schema origin ≡ true
  pub entries : AllByRecursion (IsFinishOf origin) (entries_from place journal)
  pub order : AreInOrder schema (entries_from place journal)

-- the entries from a place on are put into rising order of position, and those before it stay
pub record IsSorted (place : ℕ) (old new : List Entry) : Type 0 where
  pub older : entries_before place new ≡ entries_before place old
  pub entries : IsPermutation (entries_from place new) (entries_from place old)
  pub rising : IsRising by_finish_position (entries_from place new)

-- ---- the law

-- the changed rows of what came from a master don't go onward
abbrev pub StaysWithMasters : Schema → Entry → Type 0
StaysWithMasters schema (Local number txn) = Unit {0}
StaysWithMasters schema (Done origin position onward txn) = is_master_site schema origin ≡ true → onward ≡ 0
StaysWithMasters schema (Error origin position call error txn) = Unit {0}
StaysWithMasters schema (Executed origin position onward txn) = is_master_site schema origin ≡ true → onward ≡ 0
StaysWithMasters schema (Dropped origin position) = Unit {0}
StaysWithMasters schema (Refreshed moment) = Unit {0}

-- two sites are the same but for the order of their journals' entries: so are their tables and counters, their queues and
-- the pasts of these, what they have seen, and what is finished and in error
pub record IsOneSite (one other : SiteState) : Type 0 where
  pub rest : record one { journal = [] } ≡ record other { journal = [] }
  pub content : content_of one ≡ content_of other
  pub queue : queue_of one ≡ queue_of other
  pub pasts : pasts_of one ≡ pasts_of other
  pub seen : past_of one ≡ past_of other
  pub finished_alike : (sender : SiteName) (position : ℕ) → finished sender one.journal position ≡ finished sender other.journal position
  pub low : (sender : SiteName) → low_water sender one.journal ≡ low_water sender other.journal
  pub standing : (sender : SiteName) (position : ℕ) → error_at sender position one.journal ≡ error_at sender position other.journal
  pub errors : errors_of one ≡ errors_of other

-- where a site's base rows are tables of its schema, a journal that is sorted from a place on changes no more of the site
-- than the order of its entries
abbrev pub SortingChangesNoMore : Type 0
SortingChangesNoMore = (origin : SiteName) (place : ℕ) (x : SiteState) (journal : List Entry)
    → IsSound x.schema → SiteFits x → AreTables x.schema x.base → AllByRecursion (StaysWithMasters x.schema) x.journal
    → CanBeSorted x.schema origin place x.journal → IsSorted place x.journal journal
    → IsOneSite x (record x { journal = journal })
