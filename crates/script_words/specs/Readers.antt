-- What a call on the reader read, and what it left.
use Rattle.std.specs.Prelude.{◌≡◌, ℕ, Bool, true, false, List, Option, Some, None, Result, Ok, Err, IsOk}
use Rattle.script_lex.specs.declared.stop.BrokenRule.{BrokenRule}
use Rattle.script_lex.specs.declared.stop.LineStop.{LineStop}
use Rattle.script_lex.specs.declared.token.Token.{Token}
use Rattle.script_lex.specs.Stop.{Fails}
use Rattle.script_words.specs.Reading.{Reading, at, mark}

-- a token is taken for what it may be, or rule 6 is broken
abbrev pub IsTakenFor : {A : Type 0} → Option A → Result A BrokenRule → Type 0
IsTakenFor taken (Ok x) = taken ≡ Some x
IsTakenFor taken (Err broken) = (taken ≡ None) × (broken.0 ≡ 6)

-- the reading gives the result from the old tokens and leaves the new ones, or breaks the rule
abbrev pub ReadsExactly : {A : Type 0} → Reading A → Result A BrokenRule → List Token → List Token → Type 0
ReadsExactly reading (Ok x) old new = reading old ≡ Ok (x, new)
ReadsExactly reading (Err broken) old new = reading old ≡ Err broken.0

-- the same of a reading of which nothing is kept
abbrev pub PassesExactly : {A : Type 0} → (List Token → Result (List Token) ℕ) → Result A BrokenRule → List Token → List Token → Type 0
PassesExactly passing (Ok x) old new = passing old ≡ Ok new
PassesExactly passing (Err broken) old new = passing old ≡ Err broken.0

-- the mark is the next token and is passed, or it isn't, and no token is
abbrev pub PassesWhere : List ℕ → Bool → List Token → List Token → Type 0
PassesWhere word true old new = (at word old ≡ true) × (mark word old ≡ Ok new)
PassesWhere word false old new = (at word old ≡ false) × (new ≡ old)

-- something is read, and these are the tokens behind it
abbrev pub Passes : {A : Type 0} → Reading A → List Token → List Token → Type 0
Passes {A} reading old new = (x : A) × (reading old ≡ Ok (x, new))

-- the same of a reading that takes memory, which is wanted only where no rule is broken; then the tokens are passed too
abbrev pub Reads : {A : Type 0} → Reading A → Result A LineStop → List Token → List Token → Type 0
Reads reading (Ok x) old new = reading old ≡ Ok (x, new)
Reads reading (Err e) old new = Fails (Passes reading old new) e (reading old)

-- the same where nothing is said of the tokens that are left when memory is wanted
abbrev pub Takes : {A : Type 0} → Reading A → Result A LineStop → List Token → List Token → Type 0
Takes reading (Ok x) old new = reading old ≡ Ok (x, new)
Takes reading (Err e) old new = Fails (IsOk (reading old)) e (reading old)
