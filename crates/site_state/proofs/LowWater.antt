-- The low-water mark of a journal is what its name says, and it never falls.
use Rattle.std.proofs.Common.{◌≡◌, ℕ, zero, suc, ◌+◌, ◌<◌, ◌≤◌, List, [], ◌∷◌, ◌++◌, Bool, true, false, max, refl, arith, inl, inr}
use Rattle.std.specs.Prelude.{◌||◌}
use Rattle.std.proofs.lemmas.Bool.{cases_lt}
use Rattle.std.proofs.lemmas.Bool.Decides.{nat_tests}
use Rattle.rep_values.specs.declared.name.SiteName.{SiteName}
use Rattle.origin_marks.specs.Marks.{low_up_to, IsLowWater}
use Rattle.site_state.specs.declared.entry.Entry.{Entry}
use Rattle.site_state.specs.declared.entry.Entry.TheVariants.{Local, Done, Error, Executed, Dropped, Refreshed}
use Rattle.site_state.specs.Journal.{finishes, finished, position_by, last_finished, low_water}

-- ---- a mark that is computed up to a bound

low_up_to-within : (f : ℕ → Bool) (n : ℕ) → low_up_to f n ≤ n
low_up_to-within f zero = omega arith
low_up_to-within f (suc n) = grind (arith, nat_tests, low_up_to-within f n)

low_up_to-below : (f : ℕ → Bool) (n p : ℕ) → 0 < p → p ≤ low_up_to f n → f p ≡ true
low_up_to-below f zero p from_one up_to = grind arith
low_up_to-below f (suc n) p from_one up_to = grind (arith, nat_tests, low_up_to-below f n p, low_up_to-within f n)

low_up_to-greatest : (f : ℕ → Bool) (n m : ℕ) → m ≤ n → ((p : ℕ) → 0 < p → p ≤ m → f p ≡ true) → m ≤ low_up_to f n
low_up_to-greatest f zero m within all = omega arith
low_up_to-greatest f (suc n) m within all = elim (cases_lt m (suc n)) [
  | inl less ↦ grind (arith, nat_tests, low_up_to-greatest f n m (omega arith) all, low_up_to-within f n)
  | inr reached ↦ grind (arith, nat_tests, low_up_to-greatest f n n (omega arith) (λ p from_one up_to. all p from_one (omega arith)), low_up_to-within f n, all (suc n) (omega arith) (omega arith))
]

-- ---- the greatest finished position

or_true : (b : Bool) → (b || true) ≡ true
or_true true = refl
or_true false = refl

-- what is finished stays so
pub finished-append : (origin : SiteName) (new journal : List Entry) (p : ℕ) → finished origin journal p ≡ true → finished origin (new ++ journal) p ≡ true
finished-append origin [] journal p is = is
finished-append origin (e ∷ new) journal p is = rw (finished-append origin new journal p is) (or_true (finishes origin p e))

entry_at_most : (origin : SiteName) (e : Entry) (p : ℕ) → finishes origin p e ≡ true → p ≤ position_by origin e
entry_at_most origin (Local number txn) p is = cc
entry_at_most origin (Done o q onward txn) p is = grind (arith, nat_tests)
entry_at_most origin (Error o q call error txn) p is = grind (arith, nat_tests)
entry_at_most origin (Executed o q onward txn) p is = cc
entry_at_most origin (Dropped o q) p is = cc
entry_at_most origin (Refreshed moment) p is = cc

-- a finished position is at most the greatest one
pub finished_at_most : (origin : SiteName) (journal : List Entry) (p : ℕ) → finished origin journal p ≡ true → p ≤ last_finished origin journal
finished_at_most origin [] p is = cc
finished_at_most origin (e ∷ es) p is = go (finishes origin p e) refl (finished_at_most origin es p) is
  where
    go : (b : Bool) → finishes origin p e ≡ b → (finished origin es p ≡ true → p ≤ last_finished origin es) → (b || finished origin es p) ≡ true
        → p ≤ max (position_by origin e) (last_finished origin es)
    go true here later is = omega (arith, entry_at_most origin e p here)
    go false here later is = omega (arith, later is)

-- ---- the mark

-- each position up to the mark is finished
pub low_water-below : (origin : SiteName) (journal : List Entry) (p : ℕ) → 0 < p → p ≤ low_water origin journal → finished origin journal p ≡ true
low_water-below origin journal p from_one up_to = low_up_to-below (finished origin journal) (last_finished origin journal) p from_one up_to

-- no greater number has all positions up to it finished
pub low_water-greatest : (origin : SiteName) (journal : List Entry) (n : ℕ) → ((p : ℕ) → 0 < p → p ≤ n → finished origin journal p ≡ true) → n ≤ low_water origin journal
low_water-greatest origin journal zero all = omega arith
low_water-greatest origin journal (suc n) all =
    low_up_to-greatest (finished origin journal) (last_finished origin journal) (suc n) (finished_at_most origin journal (suc n) (all (suc n) (omega arith) (omega arith))) all

low_water-next : (origin : SiteName) (journal : List Entry) → finished origin journal (low_water origin journal + 1) ≡ false
low_water-next origin journal = go (finished origin journal (low_water origin journal + 1)) refl
  where
    up_to : finished origin journal (low_water origin journal + 1) ≡ true → (p : ℕ) → 0 < p → p ≤ low_water origin journal + 1 → finished origin journal p ≡ true
    up_to is p from_one within = elim (cases_lt p (low_water origin journal + 1)) [
      | inl less ↦ low_water-below origin journal p from_one (omega (arith, less))
      | inr reached ↦ let last : p ≡ low_water origin journal + 1 = omega (arith, reached, within) in rw last is
    ]

    go : (b : Bool) → finished origin journal (low_water origin journal + 1) ≡ b → b ≡ false
    go false is = refl
    go true is = absurd (omega (arith, low_water-greatest origin journal (low_water origin journal + 1) (up_to is)))

-- it is the low-water mark of the finished positions
pub low_water-is : (origin : SiteName) (journal : List Entry) → IsLowWater (finished origin journal) (low_water origin journal)
low_water-is origin journal = record { below = λ p from_one up_to. low_water-below origin journal p from_one up_to; next = low_water-next origin journal }

-- more entries never lower it
pub low_water-append : (origin : SiteName) (new journal : List Entry) → low_water origin journal ≤ low_water origin (new ++ journal)
low_water-append origin new journal = low_water-greatest origin (new ++ journal) (low_water origin journal)
    (λ p from_one up_to. finished-append origin new journal p (low_water-below origin journal p from_one up_to))
