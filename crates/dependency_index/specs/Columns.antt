-- How an index keeps what is noted: each token once, at a place, and of each stream the last positions by place.
use Rattle.std.specs.Prelude.{◌≡◌, ℕ, zero, suc, ◌+◌, ◌≤◌, ◌==◌, cond, max, List, [], ◌∷◌, ◌++◌, length, map}
use Rattle.std.specs.List.{AllByRecursion, IsDistinct}
use Rattle.rep_values.specs.declared.name.SiteName.{SiteName}
use Rattle.dependency_index.specs.declared.token.Token.{Token}
use Rattle.dependency_index.specs.Tokens.{is_same_token, has_token}
use Rattle.dependency_index.specs.Dependencies.{NotedStream}

-- what is kept of a stream: how many positions are noted, for how many more tokens there is room, and by the place of each
-- token the last position that has it, 0 where none has, as at each place behind the end
pub record Column : Type 0 where
  pub site : SiteName
  pub count : ℕ
  pub room : ℕ
  pub last : List ℕ

-- the same, and how many places there can be without memory
pub record Lodged : Type 0 where
  pub column : Column
  pub capacity : ℕ

-- a stream in which nothing is noted
abbrev pub new_lodged : SiteName → Lodged
new_lodged site = record { column = record { site = site; count = 0; room = 0; last = [] }; capacity = 0 }

abbrev pub columns_of : List Lodged → List Column
columns_of ls = map (λ (l : Lodged). l.column) ls

-- the position at a place
abbrev pub last_at : ℕ → List ℕ → ℕ
last_at place [] = 0
last_at zero (n ∷ ns) = n
last_at (suc place) (n ∷ ns) = last_at place ns

-- a position is put at a place, behind zeros where the list ends before it
abbrev pub put_at : ℕ → ℕ → List ℕ → List ℕ
put_at zero position [] = position ∷ []
put_at zero position (n ∷ ns) = position ∷ ns
put_at (suc place) position [] = 0 ∷ put_at place position []
put_at (suc place) position (n ∷ ns) = n ∷ put_at place position ns

-- the last position of a token, 0 where it never was noted
abbrev pub last_of : List Token → List ℕ → Token → ℕ
last_of [] ns token = 0
last_of (t ∷ ts) [] token = 0
last_of (t ∷ ts) (n ∷ ns) token = cond (is_same_token token t) n (last_of ts ns token)

-- the tokens that were noted, with their last positions
abbrev pub entries_of : List Token → List ℕ → List (Token × ℕ)
entries_of [] ns = []
entries_of (t ∷ ts) [] = []
entries_of (t ∷ ts) (n ∷ ns) = cond (n == 0) (entries_of ts ns) ((t, n) ∷ entries_of ts ns)

-- what a contract sees of a stream
abbrev pub noted_as : List Token → Column → NotedStream
noted_as tokens c = record { kept = record { site = c.site; count = c.count; entries = entries_of tokens c.last }; room = c.room }

abbrev pub noted_streams : List Token → List Column → List NotedStream
noted_streams tokens cs = map (noted_as tokens) cs

-- for how many tokens there is to be room
abbrev pub rooms : List Column → ℕ
rooms [] = 0
rooms (c ∷ cs) = c.room + rooms cs

-- a stream with room for so many tokens at least
abbrev pub with_room : ℕ → Column → Column
with_room size c = record { site = c.site; count = c.count; room = max c.room size; last = c.last }

abbrev pub promised : ℕ → Lodged → Lodged
promised size l = record { column = with_room size l.column; capacity = l.capacity }

-- the tokens differ, there is room where it was promised, no stream has a place behind the tokens, and each takes no memory
-- for the places of so many more
pub record IsTokenIndex (tokens : List Token) (free : ℕ) (ls : List Lodged) : Type 0 where
  pub distinct : IsDistinct is_same_token tokens
  pub room : rooms (columns_of ls) ≤ free
  pub within : AllByRecursion (λ (c : Column). length c.last ≤ length tokens) (columns_of ls)
  pub capacity : AllByRecursion (λ (l : Lodged). length tokens + rooms (columns_of ls) ≤ l.capacity) ls

-- tokens were noted at a position of a stream: of each its last position, before and after, by the tokens before and after
pub record Notes (list : List Token) (position : ℕ) (tokens later : List Token) (last now : List ℕ) : Type 0 where
  pub noted : (token : Token) → last_of later now token ≡ cond (has_token list token) position (last_of tokens last token)
  pub more : List Token
  pub grown : later ≡ tokens ++ more
  pub few : length more ≤ length list
  pub within : length now ≤ length later
