-- Readings of bytes from the front, and how the parts of a packet are put together of them.
use Rattle.std.specs.Prelude.{ℕ, zero, suc, ◌&&◌, Bool, nat_le, if◌then◌else◌, List, [], ◌∷◌, ◌++◌, length, take, drop, Option, Some, None}
use Rattle.std.specs.Int.{w16, w32, w64, from_be_bytes}

-- what is read in front and what is left, or nothing
abbrev pub Reading : Type 0 → Type 0
Reading A = List ℕ → Option (A × List ℕ)

infixl 10 ◌>>=◌
-- the next step, unless there is nothing
abbrev pub ◌>>=◌ : {A B : Type 0} → Option A → (A → Option B) → Option B
None >>= f = None
(Some x) >>= f = f x

-- nothing, whatever the bytes are
abbrev pub nothing : {A : Type 0} → Reading A
nothing bytes = None

-- a value of which no byte tells
abbrev pub given : {A : Type 0} → A → Reading A
given x bytes = Some (x, bytes)

-- the first byte
unfoldable pub byte : Reading ℕ
byte [] = None
byte (b ∷ bs) = Some (b, bs)

-- the first so many bytes
unfoldable pub front : ℕ → Reading (List ℕ)
front count bytes = if nat_le count (length bytes) then Some (take count bytes, drop count bytes) else None

-- what is made of what is read
abbrev pub made : {A B : Type 0} → (A → B) → Reading A → Reading B
made f reading bytes = reading bytes >>= λ x. Some (f x.0, x.1)

-- a reading whose value passes the test
abbrev pub tested : {A : Type 0} → (A → Bool) → Reading A → Reading A
tested test reading bytes = reading bytes >>= λ x. if test x.0 then Some x else None

infixr 20 ◌▸◌
-- one and then the other, which may depend on the first
abbrev pub ◌▸◌ : {A B : Type 0} → Reading A → (A → Reading B) → Reading (A × B)
(first ▸ second) bytes = first bytes >>= λ x. second x.0 x.1 >>= λ y. Some ((x.0, y.0), y.1)

-- what stands behind a value that tells how to read it
abbrev pub behind : {A B : Type 0} → Reading A → (A → Reading B) → Reading B
behind first second bytes = first bytes >>= λ x. second x.0 x.1

-- the first reading or the second
abbrev pub either : {A : Type 0} → Bool → Reading A → Reading A → Reading A
either test first second bytes = if test then first bytes else second bytes

-- so many of them
unfoldable pub times : {A : Type 0} → ℕ → Reading A → Reading (List A)
times zero reading bytes = Some ([], bytes)
times (suc n) reading bytes = reading bytes >>= λ x. times n reading x.1 >>= λ xs. Some (x.0 ∷ xs.0, xs.1)

-- so many of them, where it is 1 to the most
abbrev pub limited : {A : Type 0} → ℕ → Reading A → ℕ → Reading (List A)
limited most reading count = either (nat_le 1 count && nat_le count most) (times count reading) nothing

-- so many of them, where it is at most the most
abbrev pub up_to : {A : Type 0} → ℕ → Reading A → ℕ → Reading (List A)
up_to most reading count = either (nat_le count most) (times count reading) nothing

-- a length, and so many bytes
abbrev pub sized : Reading (List ℕ)
sized = behind byte front

-- a number of eight bytes
abbrev pub u64_number : Reading ℕ
u64_number = made (from_be_bytes w64) (front 8)

-- a number of four bytes
abbrev pub u32_number : Reading ℕ
u32_number = made (from_be_bytes w32) (front 4)

-- a number of two bytes
abbrev pub u16_number : Reading ℕ
u16_number = made (from_be_bytes w16) (front 2)

-- nothing is left
abbrev pub whole : {A : Type 0} → A × List ℕ → Option A
whole (x, []) = Some x
whole (x, b ∷ bs) = None

-- the values that were found, and those of a reading behind them
abbrev pub with_found : {A : Type 0} → List A → Option (List A × List ℕ) → Option (List A × List ℕ)
with_found found read = read >>= λ xs. Some (found ++ xs.0, xs.1)
