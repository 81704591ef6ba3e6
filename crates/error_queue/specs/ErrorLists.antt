-- The errors that stand at a site: a list for each origin.
use Rattle.std.specs.Prelude.{◌≢◌, ℕ, cond, List, [], ◌∷◌, flat_map, Option, Some, None}
use Rattle.std.specs.Ordering.{nat_cmp}
use Rattle.std.specs.declared.cmp.Ordering.{Ordering}
use Rattle.rep_lists.specs.Rising.{find_at, put_at, take_at}
use Rattle.rep_values.specs.declared.name.SiteName.{SiteName}
use Rattle.rep_values.specs.Name.{same_bytes}
use Rattle.error_queue.specs.declared.entry.ErrorEntry.{ErrorEntry}

-- the errors of one origin, in rising order of position
pub record ErrorList : Type 0 where
  pub origin : SiteName
  pub entries : List ErrorEntry

-- what a contract sees of an error queue: a list for each origin, as declared, and how many errors of any origin can be
-- added without memory
pub record ErrorQueue : Type 0 where
  pub lists : List ErrorList
  pub spare : ℕ

-- an origin without an error
abbrev pub no_errors : SiteName → ErrorList
no_errors origin = record { origin = origin; entries = [] }

-- the list of an origin
abbrev pub list_of : SiteName → List ErrorList → Option ErrorList
list_of origin [] = None
list_of origin (l ∷ ls) = cond (same_bytes l.origin.0 origin.0) (Some l) (list_of origin ls)

abbrev pub entries_in : Option ErrorList → List ErrorEntry
entries_in None = []
entries_in (Some l) = l.entries

-- the errors of an origin
abbrev pub errors_from : SiteName → List ErrorList → List ErrorEntry
errors_from origin lists = entries_in (list_of origin lists)

-- where an error stands beside a position
abbrev pub error_beside : ℕ → ErrorEntry → Ordering
error_beside position e = nat_cmp e.position position

-- the error of a position, if it stands
abbrev pub error_in : SiteName → ℕ → List ErrorList → Option ErrorEntry
error_in origin position lists = find_at (error_beside position) (errors_from origin lists)

-- the errors by origin as declared, then by position
abbrev pub in_order : List ErrorList → List ErrorEntry
in_order lists = flat_map (λ (l : ErrorList). l.entries) lists

-- the errors of an origin change
abbrev pub at_origin : SiteName → (List ErrorEntry → List ErrorEntry) → List ErrorList → List ErrorList
at_origin origin change [] = []
at_origin origin change (l ∷ ls) = cond (same_bytes l.origin.0 origin.0) (record { origin = l.origin; entries = change l.entries } ∷ ls) (l ∷ at_origin origin change ls)

-- a site is one of the origins
abbrev pub IsOrigin : List ErrorList → SiteName → Type 0
IsOrigin lists site = list_of site lists ≢ None

-- the lists with one error more
abbrev pub added : ErrorEntry → List ErrorList → List ErrorList
added e lists = at_origin e.origin (put_at (error_beside e.position) e) lists

-- the lists without the error of a position
abbrev pub removed : SiteName → ℕ → List ErrorList → List ErrorList
removed origin position lists = at_origin origin (take_at (error_beside position)) lists
