-- What a call on the reader read, and what it left.
use Rattle.std.specs.Prelude.{◌≡◌, ℕ, List, [], ◌∷◌, ◌++◌, Option, Some, None, Result, Ok, Err}
use Rattle.packet_code.specs.declared.stop.Stop.{Stop}
use Rattle.packet_code.specs.declared.stop.Stop.TheVariants as stop
use Rattle.packet_code.specs.Reading.{Reading, made}

-- nothing is read where the form isn't there, and want of memory says nothing of it
abbrev pub Fails : {A : Type 0} → Stop → Option A → Type 0
Fails stop.Memory read = Unit {0}
Fails stop.Form read = read ≡ None

-- the reading gives the value, as view sees it, from the old bytes and leaves the new ones, or fails
abbrev pub ReadsAs : {A B : Type 0} → (A → B) → Reading B → Result A Stop → List ℕ → List ℕ → Type 0
ReadsAs view reading (Ok x) old new = reading old ≡ Some (view x, new)
ReadsAs view reading (Err e) old new = Fails e (reading old)

-- the same of the value itself
abbrev pub Reads : {A : Type 0} → Reading A → Result A Stop → List ℕ → List ℕ → Type 0
Reads reading (Ok x) old new = reading old ≡ Some (x, new)
Reads reading (Err e) old new = Fails e (reading old)

-- the value is read into its place, or it fails
abbrev pub ReadsInto : {A : Type 0} → Reading A → Result (Unit {0}) Stop → List ℕ → List ℕ → A → Type 0
ReadsInto reading (Ok x) old new into = reading old ≡ Some (into, new)
ReadsInto reading (Err e) old new into = Fails e (reading old)

-- one more value is read, behind those that were found before, or it fails
abbrev pub Adds : {A : Type 0} → Reading A → Result (Unit {0}) Stop → List ℕ → List ℕ → List A → List A → Type 0
Adds reading (Ok x) old new found more = made (λ one. found ++ one ∷ []) reading old ≡ Some (more, new)
Adds reading (Err e) old new found more = Fails e (reading old)

-- the value, or it fails
abbrev pub Gives : {A : Type 0} → Option A → Result A Stop → Type 0
Gives read (Ok x) = read ≡ Some x
Gives read (Err e) = Fails e read
