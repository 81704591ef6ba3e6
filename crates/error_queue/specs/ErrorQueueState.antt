-- How an error queue keeps its errors: one rising list for each origin, with room.
use Rattle.std.specs.Prelude.{◌≡◌, ℕ, Bool, true, List, ◌∷◌, map}
use Rattle.std.specs.List.{AllByRecursion}
use Rattle.std.specs.Ordering.{nat_cmp}
use Rattle.std.specs.declared.cmp.Ordering.{Ordering}
use Rattle.rep_lists.specs.Rising.{IsRising}
use Rattle.rep_values.specs.declared.name.SiteName.{SiteName}
use Rattle.rep_values.specs.Name.{same_bytes}
use Rattle.error_queue.specs.declared.entry.ErrorEntry.{ErrorEntry}
use Rattle.error_queue.specs.ErrorLists.{ErrorList}

-- the errors of one origin, and how many more can be added without memory
pub record OriginErrorsState : Type 0 where
  pub list : ErrorList
  pub room : ℕ

-- the errors of each origin
abbrev pub lists_of : List OriginErrorsState → List ErrorList
lists_of helds = map (λ (h : OriginErrorsState). h.list) helds

-- the room of each list
abbrev pub rooms_of : List OriginErrorsState → List ℕ
rooms_of helds = map (λ (h : OriginErrorsState). h.room) helds

-- two errors compared by position
abbrev pub by_error_position : ErrorEntry → ErrorEntry → Ordering
by_error_position a b = nat_cmp a.position b.position

-- whether this is the list of an origin
abbrev pub is_list_of : SiteName → OriginErrorsState → Bool
is_list_of origin h = same_bytes h.list.origin.0 origin.0

-- the errors of an origin, by rising position
pub record AreErrorsOf (origin : SiteName) (entries : List ErrorEntry) : Type 0 where
  pub rising : IsRising by_error_position entries
  pub own : AllByRecursion (λ (e : ErrorEntry). same_bytes origin.0 e.origin.0 ≡ true) entries
