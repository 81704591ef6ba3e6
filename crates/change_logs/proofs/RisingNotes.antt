-- Keys in rising order, and where a key comes among keys.
use Rattle.std.proofs.Common.{◌≡◌, ℕ, zero, suc, ◌+◌, ◌<◌, List, [], ◌∷◌, length, drop, get_or, set, Result, Ok, Err, IfOk, IfErr, sym, ap, ◌∙◌, arith}
use Rattle.std.specs.List.{insert}
use Rattle.std.specs.declared.cmp.Ordering.TheVariants.{Less}
use Rattle.std.proofs.lemmas.List.{set-get_or, drop_all}
use Rattle.rep_lists.specs.Rising.{IsRising, IsThere, IsGap, put_at}
use Rattle.rep_lists.proofs.Each.{each_then}
use Rattle.rep_lists.proofs.Places.{found_at, drop_from_found}
use Rattle.rep_lists.proofs.Rising.{put_there, put_gap}
use Rattle.rep_values.specs.Order.{key_cmp}
use Rattle.rep_values.specs.OrderLaws.{key_cmp_total, exact_keys}
use Rattle.rep_schema.specs.Tables.{Cells}
use Rattle.change_logs.specs.Noted.{IsBelowNext}

-- what is left of rising keys rises
pub rising_drop : (i : ℕ) (xs : List Cells) → IsRising key_cmp xs → IsRising key_cmp (drop i xs)
rising_drop zero xs rising = rising
rising_drop (suc i) [] rising = tt
rising_drop (suc i) (x ∷ xs) rising = rising_drop i xs rising.1

-- a key below the next one, where the others rise, stands in front of rising keys
rising_front : (x : Cells) (xs : List Cells) → IsBelowNext (x ∷ xs) → IsRising key_cmp xs → IsRising key_cmp (x ∷ xs)
rising_front x [] below rising = (tt, tt)
rising_front x (y ∷ ys) below rising = ((below, each_then (λ k. key_cmp y k ≡ Less) (λ k. key_cmp x k ≡ Less) (λ k later. key_cmp_total.trans x y k below later) ys rising.0), rising)

-- so the keys from a place on rise
pub rising_from : (keys : List Cells) (place : ℕ) → place < length keys → IsBelowNext (drop place keys) → IsRising key_cmp (drop (place + 1) keys) → IsRising key_cmp (drop place keys)
rising_from keys place within below rising =
    let x = found_at keys place within in
    let here = drop_from_found keys place x.0 x.1 in
    rw here (rising_front x.0 (drop (place + 1) keys) (rw here at below) rising)

-- each of rising keys is below the next
pub below_next : (xs : List Cells) → IsRising key_cmp xs → IsBelowNext xs
below_next [] rising = tt
below_next (x ∷ []) rising = tt
below_next (x ∷ y ∷ ys) rising = rising.0.0

-- the last key has no next one
pub below_none : (keys : List Cells) (place : ℕ) → place + 1 ≡ length keys → IsBelowNext (drop place keys)
below_none keys place last =
    let x = found_at keys place (omega arith) in
    rw (drop_from_found keys place x.0 x.1, drop_all (place + 1) keys (omega arith)) tt

-- a put of a key that is there changes nothing
pub put_found : (key : Cells) (keys : List Cells) (r : Result ℕ ℕ) → IfOk r (IsThere (λ k. key_cmp k key) keys) → IfOk r (λ place. put_at (λ k. key_cmp k key) key keys ≡ keys)
put_found key keys (Ok i) there =
    put_there (λ k. key_cmp k key) key keys i there ∙ ap (λ k. set keys i k) (sym (exact_keys (get_or keys i key) key (there.here key))) ∙ set-get_or keys i key
put_found key keys (Err i) there = tt

-- where it isn't, it is inserted
pub put_absent : (key : Cells) (keys : List Cells) (r : Result ℕ ℕ) → IfErr r (IsGap (λ k. key_cmp k key) keys) → IfErr r (λ place. put_at (λ k. key_cmp k key) key keys ≡ insert keys place key)
put_absent key keys (Ok i) gap = tt
put_absent key keys (Err i) gap = put_gap (λ k. key_cmp k key) key keys i gap
