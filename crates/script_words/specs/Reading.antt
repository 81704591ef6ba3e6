-- Readings of tokens from left to right, and how forms are put together of them.
use Rattle.std.specs.Prelude.{ℕ, zero, suc, Bool, true, false, if◌then◌else◌, List, [], ◌∷◌, ◌++◌, length, Option, Some, None, Result, Ok, Err}
use Rattle.script_lex.specs.declared.token.Token.{Token}
use Rattle.script_words.specs.Words.{is_mark}

-- what is read in front and what is left, or the rule that is broken
abbrev pub Reading : Type 0 → Type 0
Reading A = List Token → Result (A × List Token) ℕ

infixl 10 ◌>>=◌
-- the next step, unless a rule is broken
abbrev pub ◌>>=◌ : {A B : Type 0} → Result A ℕ → (A → Result B ℕ) → Result B ℕ
(Ok x) >>= f = f x
(Err e) >>= f = Err e

-- the next token, if there is one
abbrev pub front_of : List Token → Option Token
front_of [] = None
front_of (t ∷ ts) = Some t

-- whether the next token passes the test
abbrev pub begins : (Token → Bool) → List Token → Bool
begins test [] = false
begins test (t ∷ ts) = test t

-- whether the next token is the mark
abbrev pub at : List ℕ → List Token → Bool
at word = begins (is_mark word)

-- what the next token was taken for, and the tokens behind it
abbrev pub taken : {A : Type 0} → Option A → List Token → Result (A × List Token) ℕ
taken None ts = Err 6
taken (Some x) ts = Ok (x, ts)

-- one token
unfoldable pub one : {A : Type 0} → (Token → Option A) → Reading A
one test [] = Err 6
one test (t ∷ ts) = taken (test t) ts

-- a word or a symbol that says no more than that it is there
unfoldable pub mark : List ℕ → List Token → Result (List Token) ℕ
mark word [] = Err 6
mark word (t ∷ ts) = if is_mark word t then Ok ts else Err 6

-- Forms: a row begins with what is made, and goes on with its parts and marks.

-- what is made, with nothing read
abbrev pub row : {A : Type 0} → A → Reading A
row x ts = Ok (x, ts)

infixl 20 ◌⊛◌ ◌⊘◌
-- and then this part
abbrev pub ◌⊛◌ : {A B : Type 0} → Reading (A → B) → Reading A → Reading B
(f ⊛ part) ts = f ts >>= λ x. part x.1 >>= λ y. Ok (x.0 y.0, y.1)

-- and then this mark
abbrev pub ◌⊘◌ : {A : Type 0} → Reading A → List ℕ → Reading A
(f ⊘ word) ts = f ts >>= λ x. mark word x.1 >>= λ rest. Ok (x.0, rest)

-- a part behind its mark
abbrev pub after : {A : Type 0} → List ℕ → Reading A → Reading A
after word part ts = mark word ts >>= λ rest. part rest

-- a group that is there where its mark is
abbrev pub optional : {A : Type 0} → List ℕ → Reading A → Reading (Option A)
optional word part ts = if at word ts then (after word part ts >>= λ x. Ok (Some x.0, x.1)) else Ok (None, ts)

-- whether a second mark stands behind the first
abbrev pub flag : List ℕ → List ℕ → Reading Bool
flag word second ts =
    if at word ts then (mark word ts >>= λ rest. mark second rest >>= λ behind. Ok (true, behind))
    else Ok (false, ts)

-- the first form where the next token is the mark, and else the second
abbrev pub either : {A : Type 0} → List ℕ → Reading A → Reading A → Reading A
either word first second ts = if at word ts then first ts else second ts

-- as many parts as there are, at most n
unfoldable pub many : {A : Type 0} → (Token → Bool) → Reading A → ℕ → Reading (List A)
many test part zero ts = Ok ([], ts)
many test part (suc n) ts =
    if begins test ts then
    (part ts >>= λ x. many test part n x.1 >>= λ xs. Ok (x.0 ∷ xs.0, xs.1))
    else Ok ([], ts)

-- any number of parts, none included
abbrev pub several : {A : Type 0} → (Token → Bool) → Reading A → Reading (List A)
several test part ts = many test part (length ts) ts

-- one or more
abbrev pub one_or_more : {A : Type 0} → (Token → Bool) → Reading A → Reading (List A)
one_or_more test part ts = if begins test ts then several test part ts else Err 6

-- one, and any number of further ones, each behind the mark
abbrev pub separated : {A : Type 0} → List ℕ → Reading A → Reading (List A)
separated word part ts = part ts >>= λ x. several (is_mark word) (after word part) x.1 >>= λ xs. Ok (x.0 ∷ xs.0, xs.1)

-- no token is left
abbrev pub ended : {A : Type 0} → A → List Token → Result A ℕ
ended x [] = Ok x
ended x (t ∷ ts) = Err 6

-- a form, and nothing behind it
abbrev pub whole : {A : Type 0} → Reading A → List Token → Result A ℕ
whole form ts = form ts >>= λ x. ended x.0 x.1

-- the parts that were found, and those of a reading behind them
abbrev pub with_found : {A : Type 0} → List A → Result (List A × List Token) ℕ → Result (List A × List Token) ℕ
with_found found read = read >>= λ x. Ok (found ++ x.0, x.1)
