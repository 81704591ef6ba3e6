-- What a call reads behind a value that tells how.
use Rattle.std.proofs.Common.{◌≡◌, ℕ, List, Some, Result, Ok, Err}
use Rattle.packet_code.specs.declared.stop.Stop.{Stop}
use Rattle.packet_code.specs.declared.stop.Stop.TheVariants as stop
use Rattle.packet_code.specs.Reading.{Reading, behind}
use Rattle.packet_code.specs.Readers.{Reads, Adds}

-- a value, and then what it tells
pub read_behind : {A B : Type 0} (first : Reading A) (second : A → Reading B) (old mid new : List ℕ) (x : A) (r : Result B Stop) → first old ≡ Some (x, mid)
    → Reads (second x) r mid new → Reads (behind first second) r old new
read_behind first second old mid new x (Ok y) read next = rw read next
read_behind first second old mid new x (Err stop.Memory) read next = tt
read_behind first second old mid new x (Err stop.Form) read next = rw read next

-- a value, and then one more of what it tells
pub add_behind : {A B : Type 0} (first : Reading A) (second : A → Reading B) (old mid new : List ℕ) (x : A) (r : Result (Unit {0}) Stop) (found more : List B)
    → first old ≡ Some (x, mid) → Adds (second x) r mid new found more → Adds (behind first second) r old new found more
add_behind first second old mid new x (Ok y) found more read next = rw read next
add_behind first second old mid new x (Err stop.Memory) found more read next = tt
add_behind first second old mid new x (Err stop.Form) found more read next = rw read next
