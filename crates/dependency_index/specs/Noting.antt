-- What noting tokens, and taking room for them, does to one stream.
use Rattle.std.specs.Prelude.{◌≡◌, ℕ, ◌≤◌, max, List, [], ◌∷◌}
use Rattle.dependency_index.specs.declared.token.Token.{Token}
use Rattle.dependency_index.specs.Dependencies.{NotedTo, NotedStream, last_noted}

-- the greatest of the last positions at which these tokens were noted, 0 where none was
abbrev pub greatest_noted : List Token → (Token → ℕ) → ℕ
greatest_noted [] last = 0
greatest_noted (token ∷ tokens) last = max (last token) (greatest_noted tokens last)

-- nothing is noted
pub record IsUnnoted (s : NotedStream) : Type 0 where
  pub count : s.kept.count ≡ 0
  pub last : (token : Token) → last_noted s.kept token ≡ 0

-- the same is noted
pub record IsSame (old new : NotedTo) : Type 0 where
  pub site : new.site ≡ old.site
  pub count : new.count ≡ old.count
  pub last : (token : Token) → last_noted new token ≡ last_noted old token

-- the same is noted, and there is no less room
pub record StaysNoted (old new : NotedStream) : Type 0 where
  pub kept : IsSame old.kept new.kept
  pub room : old.room ≤ new.room

-- each stream is kept
abbrev pub AreKept : List NotedStream → List NotedStream → Type 0
AreKept [] [] = Unit {0}
AreKept [] (s ∷ ss) = ⊥
AreKept (s ∷ ss) [] = ⊥
AreKept (s ∷ ss) (t ∷ ts) = StaysNoted s t × AreKept ss ts
