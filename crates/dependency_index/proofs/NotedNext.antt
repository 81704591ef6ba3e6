-- What a contract sees of an index after tokens were noted of one stream.
use Rattle.std.proofs.Common.{◌≡◌, ℕ, ◌+◌, ◌<◌, ◌≤◌, cond, List, ◌∷◌, length, get_or, set, Some, sym, ap, ◌∙◌, arith}
use Rattle.std.specs.Prelude.{◌≢◌}
use Rattle.std.specs.List.{AllByRecursion, IsDistinct, position}
use Rattle.std.proofs.lemmas.List.Quantifiers.{position-Some}
use Rattle.rep_values.specs.declared.name.SiteName.{SiteName}
use Rattle.rep_values.specs.Name.{same_bytes}
use Rattle.dependency_index.specs.declared.token.Token.{Token}
use Rattle.dependency_index.specs.Tokens.{is_same_token, has_token}
use Rattle.dependency_index.specs.Dependencies.{NotedStream, noted_to, last_noted, noted_count, room_for, dependency_number, last_where, IsNoted}
use Rattle.dependency_index.specs.Noting.{greatest_noted}
use Rattle.dependency_index.specs.Columns.{Column, Lodged, columns_of, last_of, noted_as, noted_streams, rooms, IsTokenIndex, Notes}
use Rattle.dependency_index.proofs.NotedTokens.{last_where-bound, greatest_noted-is}
use Rattle.dependency_index.proofs.FoundStreams.{sites_of}
use Rattle.dependency_index.proofs.FirstStreams.{is_to, noted_to-place, noted_to-set, noted_to-set_other, sites-set, IsNoted-next}
use Rattle.dependency_index.proofs.NotedColumns.{last_noted-is, position-noted, noted_at, noted_streams-noted, rooms-at, IsPlaced, placed}

-- a stream is the first one to a site
pub record IsFirst (to : SiteName) (ls : List Lodged) (place : ℕ) (l : Lodged) : Type 0 where
  pub found : Some place ≡ position (λ (x : Lodged). same_bytes x.column.site.0 to.0) ls
  pub is : l ≡ get_or ls place l

-- it is within the list
pub first_within : (to : SiteName) (ls : List Lodged) (place : ℕ) (l : Lodged) → IsFirst to ls place l → place < length ls
first_within to ls place l first = (position-Some (λ (x : Lodged). same_bytes x.column.site.0 to.0) ls place l (sym first.found)).0

-- and found
pub first_noted : (to : SiteName) (ts : List Token) (ls : List Lodged) (place : ℕ) (l : Lodged) → IsFirst to ls place l → noted_to to (noted_streams ts (columns_of ls)) ≡ Some (noted_as ts l.column)
first_noted to ts ls place l first = noted_to-place to (noted_streams ts (columns_of ls)) place (noted_as ts l.column) (first.found ∙ position-noted to ts ls) (noted_at ts ls place l first.is)

-- so many tokens can be noted of a stream
pub record CanNote (ts : List Token) (free : ℕ) (l : Lodged) (size : ℕ) : Type 0 where
  pub room : size ≤ l.column.room
  pub spare : size ≤ free
  pub within : length l.column.last ≤ length ts
  pub places : length ts + size ≤ l.capacity

pub can_note : (to : SiteName) (ts : List Token) (free size : ℕ) (ls : List Lodged) (place : ℕ) (l : Lodged) → IsTokenIndex ts free ls → IsFirst to ls place l → size ≤ room_for (noted_streams ts (columns_of ls)) to → CanNote ts free l size
can_note to ts free size ls place l index first asked = record {
  room = here;
  spare = omega (arith, here, all, index.room);
  within = at_place.within;
  places = omega (arith, here, all, at_place.capacity);
}
  where
    here : size ≤ l.column.room
    here = rw (first_noted to ts ls place l first) at asked

    all : l.column.room ≤ rooms (columns_of ls)
    all = rooms-at ls place l (first_within to ls place l first) first.is

    at_place : IsPlaced ts ls l
    at_place = placed ts free ls place l index (first_within to ls place l first) first.is

-- tokens were noted at a position of the first stream to a site
pub record IsStep (to : SiteName) (list : List Token) (next : ℕ) (ts later : List Token) (ls : List Lodged) (place : ℕ) (l now : Lodged) : Type 0 where
  pub first : IsFirst to ls place l
  pub distinct : IsDistinct is_same_token ts
  pub later_distinct : IsDistinct is_same_token later
  pub within : AllByRecursion (λ (c : Column). length c.last ≤ length ts) (columns_of ls)
  pub notes : Notes list next ts later l.column.last now.column.last
  pub site : now.column.site ≡ l.column.site
  pub count : now.column.count ≡ next

module _ (to : SiteName) (list : List Token) (next : ℕ) (ts later : List Token) (ls : List Lodged) (place : ℕ) (l now : Lodged) (step : IsStep to list next ts later ls place l now) where
  -- what was seen of the streams
  abbrev pub seen : List NotedStream
  seen = noted_streams ts (columns_of ls)

  first : Some place ≡ position (is_to to) seen
  first = step.first.found ∙ position-noted to ts ls

  here : noted_as ts l.column ≡ get_or seen place (noted_as ts l.column)
  here = noted_at ts ls place l step.first.is

  written : noted_streams later (columns_of (set ls place now)) ≡ set seen place (noted_as later now.column)
  written = noted_streams-noted ts later step.notes.more ls place now step.notes.grown step.within

  -- the stream before
  pub before : noted_to to seen ≡ Some (noted_as ts l.column)
  before = first_noted to ts ls place l step.first

  -- and after
  pub after : noted_to to (noted_streams later (columns_of (set ls place now))) ≡ Some (noted_as later now.column)
  after = rw written (noted_to-set to seen place (noted_as ts l.column) (noted_as later now.column) first here step.site)

  -- the others are as they were
  pub others : (site : SiteName) → to ≢ site → noted_to site (noted_streams later (columns_of (set ls place now))) ≡ noted_to site seen
  others site other = rw written (noted_to-set_other to site seen place (noted_as ts l.column) (noted_as later now.column) first here step.site other)

  -- so are the destinations
  pub destinations : sites_of (noted_streams later (columns_of (set ls place now))) ≡ sites_of seen
  destinations = rw written (sites-set seen place (noted_as later now.column) (noted_as ts l.column) (step.site ∙ ap (λ (s : NotedStream). s.kept.site) here))

  last_is : (stream : List (List Token)) → IsNoted seen to stream → (token : Token) → last_of ts l.column.last token ≡ last_where (λ tokens. has_token tokens token) stream
  last_is stream noted token = sym (last_noted-is ts l.column token step.distinct) ∙ rw before at (noted.last token)

  -- the greatest of the last positions is the dependency number
  pub dependency : (answer : ℕ) → next ≡ noted_count seen to + 1 → (((token : Token) → last_of ts l.column.last token < next) → answer ≡ greatest_noted list (last_of ts l.column.last))
      → (stream : List (List Token)) → IsNoted seen to stream → answer ≡ dependency_number list stream
  dependency answer behind greatest stream noted = greatest below ∙ greatest_noted-is (last_of ts l.column.last) stream (last_is stream noted) list
    where
      below : (token : Token) → last_of ts l.column.last token < next
      below token = let bound = last_where-bound (λ tokens. has_token tokens token) stream in omega (arith, last_is stream noted token, bound, behind, noted.count)

  -- and the longer stream is noted
  pub longer : next ≡ noted_count seen to + 1 → (stream : List (List Token)) → IsNoted seen to stream → IsNoted (noted_streams later (columns_of (set ls place now))) to (list ∷ stream)
  longer behind stream noted = IsNoted-next seen (noted_streams later (columns_of (set ls place now))) to (noted_as ts l.column) (noted_as later now.column) next list stream before after behind step.count last noted
    where
      last : (token : Token) → last_noted (noted_as later now.column).kept token ≡ cond (has_token list token) next (last_noted (noted_as ts l.column).kept token)
      last token = last_noted-is later now.column token step.later_distinct ∙ step.notes.noted token ∙ ap (cond (has_token list token) next) (sym (last_noted-is ts l.column token step.distinct))
