-- What a contract sees of the streams of an index, and what stays of it after steps on them.
use Rattle.std.proofs.Common.{◌≡◌, ℕ, zero, suc, ◌+◌, ◌<◌, ◌≤◌, ◌==◌, Bool, true, false, cond, List, [], ◌∷◌, ◌++◌, length, map, get_or, set, Some, refl, sym, ap, ◌∙◌, arith}
use Rattle.std.specs.Option.{unwrap_or}
use Rattle.std.specs.Map.{lookup}
use Rattle.std.specs.List.{AllByRecursion, IsDistinct, position, position_from}
use Rattle.std.proofs.lemmas.Bool.Decides.{nat_tests}
use Rattle.std.proofs.lemmas.Iterator.Adapters.{position_from-zero}
use Rattle.std.proofs.lemmas.List.{length-append}
use Rattle.rep_lists.proofs.Each.{each_at, each_set, each_then}
use Rattle.rep_values.specs.declared.name.SiteName.{SiteName}
use Rattle.rep_values.specs.Name.{same_bytes}
use Rattle.dependency_index.specs.declared.token.Token.{Token}
use Rattle.dependency_index.specs.Tokens.{is_same_token}
use Rattle.dependency_index.specs.SameTokens.{is_same_token-equal}
use Rattle.dependency_index.specs.Dependencies.{NotedStream, last_noted}
use Rattle.dependency_index.specs.Noting.{IsUnnoted, AreKept}
use Rattle.dependency_index.specs.Columns.{Column, Lodged, new_lodged, columns_of, last_of, entries_of, noted_as, noted_streams, rooms, with_room, promised, IsTokenIndex, Notes}
use Rattle.dependency_index.proofs.FirstStreams.{is_to}

-- a token that none of these is has no last position
last_of-absent : (t : Token) (ts : List Token) (ns : List ℕ) → AllByRecursion (λ (other : Token). is_same_token t other ≡ false) ts → last_of ts ns t ≡ 0
last_of-absent t [] ns apart = refl
last_of-absent t (k ∷ ks) [] apart = refl
last_of-absent t (k ∷ ks) (n ∷ ns) apart = rw apart.0 (last_of-absent t ks ns apart.1)

-- the entries have the last position of each token, where the tokens differ
pub last_noted-is : (ts : List Token) (c : Column) (token : Token) → IsDistinct is_same_token ts → last_noted (noted_as ts c).kept token ≡ last_of ts c.last token
unfolding IsDistinct
last_noted-is ts c token distinct = each ts c.last distinct
  where
    each : (ts : List Token) (ns : List ℕ) → IsDistinct is_same_token ts → unwrap_or (lookup (is_same_token token) (entries_of ts ns)) 0 ≡ last_of ts ns token
    each [] ns distinct = refl
    each (t ∷ ts) [] distinct = refl
    each (t ∷ ts) (n ∷ ns) distinct = go (n == 0) refl (is_same_token token t) refl (each ts ns distinct.1)
      where
        go : (never : Bool) → (n == 0) ≡ never → (here : Bool) → is_same_token token t ≡ here → unwrap_or (lookup (is_same_token token) (entries_of ts ns)) 0 ≡ last_of ts ns token
            → unwrap_or (lookup (is_same_token token) (cond never (entries_of ts ns) ((t, n) ∷ entries_of ts ns))) 0 ≡ cond here n (last_of ts ns token)
        go true none true same later =
            let zero_there : n ≡ 0 = grind (arith, nat_tests) in
            let absent : last_of ts ns token ≡ 0 = rw (is_same_token-equal token t same) (last_of-absent t ts ns distinct.0) in
            later ∙ absent ∙ sym zero_there
        go true none false other later = later
        go false some true same later = rw same refl
        go false some false other later = rw other later

-- tokens that come later have no entry in a stream without places for them
entries_of-grown : (ts more : List Token) (ns : List ℕ) → length ns ≤ length ts → entries_of (ts ++ more) ns ≡ entries_of ts ns
entries_of-grown [] [] [] within = refl
entries_of-grown [] (t ∷ more) [] within = refl
entries_of-grown [] more (n ∷ ns) within = absurd (omega (arith, within))
entries_of-grown (t ∷ ts) more [] within = refl
entries_of-grown (t ∷ ts) more (n ∷ ns) within = ap (λ rest. cond (n == 0) rest ((t, n) ∷ rest)) (entries_of-grown ts more ns (omega (arith, within)))

noted_streams-grown : (ts more : List Token) (cs : List Column) → AllByRecursion (λ (c : Column). length c.last ≤ length ts) cs → noted_streams (ts ++ more) cs ≡ noted_streams ts cs
noted_streams-grown ts more [] within = refl
noted_streams-grown ts more (c ∷ cs) within = rw (entries_of-grown ts more c.last within.0, noted_streams-grown ts more cs within.1) refl

columns_of-set : (ls : List Lodged) (i : ℕ) (l : Lodged) → columns_of (set ls i l) ≡ set (columns_of ls) i l.column
columns_of-set [] i l = refl
columns_of-set (x ∷ xs) zero l = refl
columns_of-set (x ∷ xs) (suc i) l = ap (λ cs. x.column ∷ cs) (columns_of-set xs i l)

noted_streams-set : (ts : List Token) (cs : List Column) (i : ℕ) (c : Column) → noted_streams ts (set cs i c) ≡ set (noted_streams ts cs) i (noted_as ts c)
noted_streams-set ts [] i c = refl
noted_streams-set ts (x ∷ xs) zero c = refl
noted_streams-set ts (x ∷ xs) (suc i) c = ap (λ ss. noted_as ts x ∷ ss) (noted_streams-set ts xs i c)

-- after tokens are noted of one stream, it alone is another one
pub noted_streams-noted : (ts later more : List Token) (ls : List Lodged) (i : ℕ) (l : Lodged) → later ≡ ts ++ more → AllByRecursion (λ (c : Column). length c.last ≤ length ts) (columns_of ls)
    → noted_streams later (columns_of (set ls i l)) ≡ set (noted_streams ts (columns_of ls)) i (noted_as later l.column)
noted_streams-noted ts later more ls i l grown within =
    ap (noted_streams later) (columns_of-set ls i l) ∙ noted_streams-set later (columns_of ls) i l.column
    ∙ ap (λ ss. set ss i (noted_as later l.column)) (ap (λ all. noted_streams all (columns_of ls)) grown ∙ noted_streams-grown ts more (columns_of ls) within)

-- a stream that is read is seen at its place
pub noted_at : (ts : List Token) (ls : List Lodged) (i : ℕ) (l : Lodged) → l ≡ get_or ls i l → noted_as ts l.column ≡ get_or (noted_streams ts (columns_of ls)) i (noted_as ts l.column)
noted_at ts ls i l is = ap (λ (x : Lodged). noted_as ts x.column) is ∙ each ls i l
  where
    each : (ls : List Lodged) (i : ℕ) (d : Lodged) → noted_as ts (get_or ls i d).column ≡ get_or (noted_streams ts (columns_of ls)) i (noted_as ts d.column)
    each [] i d = refl
    each (x ∷ xs) zero d = refl
    each (x ∷ xs) (suc i) d = each xs i d

-- the first stream to a site is seen at its place
pub position-noted : (site : SiteName) (ts : List Token) (ls : List Lodged) → position (λ (l : Lodged). same_bytes l.column.site.0 site.0) ls ≡ position (is_to site) (noted_streams ts (columns_of ls))
position-noted site ts ls =
    position_from-zero (λ (l : Lodged). same_bytes l.column.site.0 site.0) ls ∙ each 0 ls ∙ sym (position_from-zero (is_to site) (noted_streams ts (columns_of ls)))
  where
    each : (n : ℕ) (ls : List Lodged) → position_from (λ (l : Lodged). same_bytes l.column.site.0 site.0) n ls ≡ position_from (is_to site) n (noted_streams ts (columns_of ls))
    each n [] = refl
    each n (l ∷ ls) = ap (cond (same_bytes l.column.site.0 site.0) (Some n)) (each (n + 1) ls)

-- no stream has more room than all
pub rooms-at : (ls : List Lodged) (i : ℕ) (l : Lodged) → i < length ls → l ≡ get_or ls i l → l.column.room ≤ rooms (columns_of ls)
rooms-at ls i l within is = rw is (each ls i l within)
  where
    each : (ls : List Lodged) (i : ℕ) (d : Lodged) → i < length ls → (get_or ls i d).column.room ≤ rooms (columns_of ls)
    each [] i d within = absurd (omega (arith, within))
    each (x ∷ xs) zero d within = omega arith
    each (x ∷ xs) (suc i) d within = let rest = each xs i d (omega (arith, within)) in omega (arith, rest)

-- where one has less, all have less
rooms-set : (ls : List Lodged) (i : ℕ) (l d : Lodged) → i < length ls → rooms (columns_of (set ls i l)) + (get_or ls i d).column.room ≡ rooms (columns_of ls) + l.column.room
rooms-set [] i l d within = absurd (omega (arith, within))
rooms-set (x ∷ xs) zero l d within = omega arith
rooms-set (x ∷ xs) (suc i) l d within = let rest = rooms-set xs i l d (omega (arith, within)) in omega (arith, rest)

-- what is kept of a stream at a place
pub record IsPlaced (ts : List Token) (ls : List Lodged) (l : Lodged) : Type 0 where
  pub within : length l.column.last ≤ length ts
  pub capacity : length ts + rooms (columns_of ls) ≤ l.capacity

pub placed : (ts : List Token) (free : ℕ) (ls : List Lodged) (i : ℕ) (l : Lodged) → IsTokenIndex ts free ls → i < length ls → l ≡ get_or ls i l → IsPlaced ts ls l
placed ts free ls i l index within is = record {
  within = rw is (each ls i l within index.within);
  capacity = rw is (each_at (λ (x : Lodged). length ts + rooms (columns_of ls) ≤ x.capacity) ls i l within index.capacity);
}
  where
    each : (ls : List Lodged) (i : ℕ) (d : Lodged) → i < length ls → AllByRecursion (λ (c : Column). length c.last ≤ length ts) (columns_of ls) → length (get_or ls i d).column.last ≤ length ts
    each [] i d within all = absurd (omega (arith, within))
    each (x ∷ xs) zero d within all = all.0
    each (x ∷ xs) (suc i) d within all = each xs i d (omega (arith, within)) all.1

-- an index stays one where tokens are noted of a stream that had room for them
pub IsIndex-noted : (ts later : List Token) (free less position : ℕ) (ls : List Lodged) (i : ℕ) (l now : Lodged) (list : List Token) → IsTokenIndex ts free ls → i < length ls → l ≡ get_or ls i l
    → Notes list position ts later l.column.last now.column.last → now.column.room + length list ≡ l.column.room → now.capacity ≡ l.capacity → free ≤ less + length list → IsDistinct is_same_token later
    → IsTokenIndex later less (set ls i now)
IsIndex-noted ts later free less position ls i l now list index within is notes room capacity spare distinct = record {
  distinct = distinct;
  room = omega (arith, index.room, fewer, room, spare);
  within = rw (columns_of-set ls i now) (each_set (λ (c : Column). length c.last ≤ length later) (columns_of ls) i now.column notes.within
      (each_then (λ (c : Column). length c.last ≤ length ts) (λ (c : Column). length c.last ≤ length later) (λ c le. omega (arith, le, longer)) (columns_of ls) index.within));
  capacity = each_set (λ (x : Lodged). length later + rooms (columns_of (set ls i now)) ≤ x.capacity) ls i now (omega (arith, at_place.capacity, capacity, longer, notes.few, fewer, room))
      (each_then (λ (x : Lodged). length ts + rooms (columns_of ls) ≤ x.capacity) (λ (x : Lodged). length later + rooms (columns_of (set ls i now)) ≤ x.capacity)
      (λ x le. omega (arith, le, longer, notes.few, fewer, room)) ls index.capacity);
}
  where
    at_place : IsPlaced ts ls l
    at_place = placed ts free ls i l index within is

    longer : length later ≡ length ts + length notes.more
    longer = rw notes.grown (length-append ts notes.more)

    fewer : rooms (columns_of (set ls i now)) + l.column.room ≡ rooms (columns_of ls) + now.column.room
    fewer = ap (λ (x : Lodged). rooms (columns_of (set ls i now)) + x.column.room) is ∙ rooms-set ls i now l within

-- the same of each stream is seen where room is promised
pub kept-promised : (ts : List Token) (size : ℕ) (cs : List Column) → AreKept (noted_streams ts cs) (noted_streams ts (map (with_room size) cs))
kept-promised ts size [] = tt
kept-promised ts size (c ∷ cs) = (record { kept = record { site = refl; count = refl; last = λ token. refl }; room = omega arith }, kept-promised ts size cs)

-- and each has it
pub room-promised : (ts : List Token) (size : ℕ) (cs : List Column) → AllByRecursion (λ (s : NotedStream). size ≤ s.room) (noted_streams ts (map (with_room size) cs))
room-promised ts size [] = tt
room-promised ts size (c ∷ cs) = (omega arith, room-promised ts size cs)

pub columns_of-promised : (size : ℕ) (ls : List Lodged) → columns_of (map (promised size) ls) ≡ map (with_room size) (columns_of ls)
columns_of-promised size [] = refl
columns_of-promised size (l ∷ ls) = ap (λ cs. with_room size l.column ∷ cs) (columns_of-promised size ls)

within-promised : (bound size : ℕ) (cs : List Column) → AllByRecursion (λ (c : Column). length c.last ≤ bound) cs → AllByRecursion (λ (c : Column). length c.last ≤ bound) (map (with_room size) cs)
within-promised bound size [] within = tt
within-promised bound size (c ∷ cs) within = (within.0, within-promised bound size cs within.1)

capacity-promised : (bound size : ℕ) (ls : List Lodged) → AllByRecursion (λ (l : Lodged). bound ≤ l.capacity) ls → AllByRecursion (λ (l : Lodged). bound ≤ l.capacity) (map (promised size) ls)
capacity-promised bound size [] each = tt
capacity-promised bound size (l ∷ ls) each = (each.0, capacity-promised bound size ls each.1)

-- an index stays one where memory is taken and room promised
pub IsIndex-promised : (ts : List Token) (free more size : ℕ) (ls ms : List Lodged) → IsTokenIndex ts free ls → columns_of ms ≡ columns_of ls → rooms (map (with_room size) (columns_of ls)) ≤ more
    → AllByRecursion (λ (l : Lodged). length ts + rooms (map (with_room size) (columns_of ls)) ≤ l.capacity) ms → IsTokenIndex ts more (map (promised size) ms)
IsIndex-promised ts free more size ls ms index same room capacity = record {
  distinct = index.distinct;
  room = rw columns room;
  within = rw columns (within-promised (length ts) size (columns_of ls) index.within);
  capacity = rw columns (capacity-promised (length ts + rooms (map (with_room size) (columns_of ls))) size ms capacity);
}
  where
    columns : columns_of (map (promised size) ms) ≡ map (with_room size) (columns_of ls)
    columns = columns_of-promised size ms ∙ ap (map (with_room size)) same

-- and where memory is taken alone
pub IsIndex-reserved : (ts : List Token) (free more : ℕ) (ls ms : List Lodged) → IsTokenIndex ts free ls → free ≤ more → columns_of ms ≡ columns_of ls
    → ((least : ℕ) → AllByRecursion (λ (l : Lodged). least ≤ l.capacity) ls → AllByRecursion (λ (l : Lodged). least ≤ l.capacity) ms) → IsTokenIndex ts more ms
IsIndex-reserved ts free more ls ms index le same capacity = record {
  distinct = index.distinct;
  room = rw same (omega (arith, index.room, le));
  within = rw same index.within;
  capacity = rw same (capacity (length ts + rooms (columns_of ls)) index.capacity);
}

-- a new index
rooms-new : (sites : List SiteName) → rooms (columns_of (map new_lodged sites)) ≡ 0
rooms-new [] = refl
rooms-new (site ∷ sites) = let rest = rooms-new sites in omega (arith, rest)

pub IsIndex-new : (free : ℕ) (sites : List SiteName) → IsTokenIndex [] free (map new_lodged sites)
unfolding IsDistinct
IsIndex-new free sites = record { distinct = none; room = rw (rooms-new sites) (omega arith); within = within sites; capacity = rw (rooms-new sites) (capacity sites) }
  where
    none : IsDistinct is_same_token []
    none = tt

    within : (sites : List SiteName) → AllByRecursion (λ (c : Column). length c.last ≤ 0) (columns_of (map new_lodged sites))
    within [] = tt
    within (site ∷ sites) = (omega arith, within sites)

    capacity : (sites : List SiteName) → AllByRecursion (λ (l : Lodged). 0 ≤ l.capacity) (map new_lodged sites)
    capacity [] = tt
    capacity (site ∷ sites) = (omega arith, capacity sites)

-- has nothing noted
pub unnoted-new : (sites : List SiteName) → AllByRecursion IsUnnoted (noted_streams [] (columns_of (map new_lodged sites)))
unnoted-new [] = tt
unnoted-new (site ∷ sites) = (record { count = refl; last = λ token. refl }, unnoted-new sites)

-- of its destinations
pub sites-new : (sites : List SiteName) → map (λ (s : NotedStream). s.kept.site) (noted_streams [] (columns_of (map new_lodged sites))) ≡ sites
sites-new [] = refl
sites-new (site ∷ sites) = ap (λ rest. site ∷ rest) (sites-new sites)
