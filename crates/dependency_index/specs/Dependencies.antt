-- On which earlier position of a stream a transaction depends, and what an index of a stream tells.
use Rattle.std.specs.Prelude.{◌≡◌, ◌≢◌, ℕ, ◌+◌, Bool, cond, List, [], ◌∷◌, length, Option, Some, None}
use Rattle.std.specs.Option.{unwrap_or}
use Rattle.std.specs.Map.{lookup}
use Rattle.rep_values.specs.declared.name.SiteName.{SiteName}
use Rattle.rep_values.specs.Name.{same_bytes}
use Rattle.dependency_index.specs.declared.token.Token.{Token}
use Rattle.dependency_index.specs.Tokens.{is_same_token, has_token, share_token}

-- the last position of a stream, the newest first, at which something holds; 0 where it holds nowhere
abbrev pub last_where : {X : Type 0} → (X → Bool) → List X → ℕ
last_where holds [] = 0
last_where holds (x ∷ xs) = cond (holds x) (length xs + 1) (last_where holds xs)

-- the dependency number of a transaction with these tokens: the greatest earlier position of the stream, here the tokens
-- of each transaction, that shares a token, or 0
abbrev pub dependency_number : List Token → List (List Token) → ℕ
dependency_number tokens stream = last_where (share_token tokens) stream

-- what is noted of the stream to one site: how many positions, and each token that was noted with its last position, in
-- no order that counts
pub record NotedTo : Type 0 where
  pub site : SiteName
  pub count : ℕ
  pub entries : List (Token × ℕ)

-- the last position at which a token was noted, 0 where it never was
abbrev pub last_noted : NotedTo → Token → ℕ
last_noted noted token = unwrap_or (lookup (is_same_token token) noted.entries) 0

-- what is noted of a stream, and for how many more tokens there is room
pub record NotedStream : Type 0 where
  pub kept : NotedTo
  pub room : ℕ

-- what a contract sees of an index: its streams, one for each destination
pub record NotedIndex : Type 0 where
  pub streams : List NotedStream

-- the first stream to a site, if there is one
abbrev pub noted_to : SiteName → List NotedStream → Option NotedStream
noted_to site [] = None
noted_to site (s ∷ ss) = cond (same_bytes s.kept.site.0 site.0) (Some s) (noted_to site ss)

abbrev pub count_in : Option NotedStream → ℕ
count_in None = 0
count_in (Some s) = s.kept.count

abbrev pub noted_in : Option NotedStream → Token → ℕ
noted_in None token = 0
noted_in (Some s) token = last_noted s.kept token

abbrev pub room_in : Option NotedStream → ℕ
room_in None = 0
room_in (Some s) = s.room

-- how many positions of the stream to a site were noted
abbrev pub noted_count : List NotedStream → SiteName → ℕ
noted_count streams site = count_in (noted_to site streams)

-- for how many more tokens of the stream to a site there is room
abbrev pub room_for : List NotedStream → SiteName → ℕ
room_for streams site = room_in (noted_to site streams)

-- an index has an entry for a site
abbrev pub IsIndexed : List NotedStream → SiteName → Type 0
IsIndexed streams site = noted_to site streams ≢ None

-- what an index has of the stream to a site is what this stream, the newest first, holds: so many positions, and of each
-- token the last position that has it
pub record IsNoted (streams : List NotedStream) (site : SiteName) (stream : List (List Token)) : Type 0 where
  pub count : noted_count streams site ≡ length stream
  pub last : (token : Token) → noted_in (noted_to site streams) token ≡ last_where (λ tokens. has_token tokens token) stream
