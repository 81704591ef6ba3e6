-- The tests of calls that compute, and what they mean.
use Rattle.std.proofs.Common.{◌≡◌, ℕ, zero, suc, ◌+◌, ◌<◌, ◌≤◌, Bool, List, [], ◌∷◌, length, get_or, map, refl, subst, inl, inr, arith}
use Rattle.std.specs.Prelude.{◌&&◌, ◌==◌, nat_lt, nat_le, Contains, Decides}
use Rattle.std.specs.List.{AllByRecursion, list_any, list_all}
use Rattle.std.specs.List.Sorted.{IsStrictlyIncreasing}
use Rattle.std.proofs.lemmas.Bool.{eqb-true, eq-eqb}
use Rattle.std.proofs.lemmas.Bool.Decides.{Decides-and, Decides-not, Decides-ltb, Decides-like, leb_tells}
use Rattle.std.proofs.lemmas.List.Folds.{Any-from_list_any, list_any-from_Any}
use Rattle.rep_schema.specs.declared.schema.Schema.{Schema}
use Rattle.rep_schema.specs.Tables.{Cells, columns_of, key_columns}
use Rattle.rep_schema.specs.Groups.{group_numbers_of, columns_in_group}
use Rattle.rep_schema.proofs.FittingTests.{row_test}
use Rattle.rep_schema.proofs.ValuesAt.{are_same-Decides}
use Rattle.rep_calls.specs.declared.call.Part.{Part}
use Rattle.rep_calls.specs.declared.call.Call.{Call}
use Rattle.rep_calls.specs.declared.call.Call.TheVariants.{Insert, Update, Delete}
use Rattle.rep_calls.specs.declared.call.Txn.{Txn}
use Rattle.conflict_detect.specs.Fits.{table_of, PartFits, UpdateFits, ContentFits, CallFits, TxnFits}
use Rattle.conflict_detect.specs.FitTests.{rise_above, rise, part_fits, update_fits, content_fits, call_fits, txn_fits}

all_test : {X : Type 0} (p : X → Bool) (P : X → Type 0) → ((x : X) → Decides (p x) (P x)) → (xs : List X) → Decides (list_all p xs) (AllByRecursion P xs)
all_test p P each [] = (λ e. tt, λ all. refl)
all_test p P each (x ∷ xs) = Decides-and (p x) (list_all p xs) (each x) (all_test p P each xs)

-- the test whether a number is one of a list's
pub listed_test : (xs : List ℕ) (x : ℕ) → Decides (list_any (λ y. y == x) xs) (Contains xs x)
listed_test xs x = (
  λ e.
      let found = Any-from_list_any (λ y. y == x) xs e in
      let is : found.1 ≡ x = eqb-true found.1 x found.4 in
      (found.0, found.2, subst (λ y. get_or xs found.0 y ≡ y) is found.3),
  λ has. list_any-from_Any (λ y. y == x) xs (has.0, x, has.1, has.2, eq-eqb x x refl),
)

above_test : (x : ℕ) (xs : List ℕ) → Decides (rise_above x xs) (IsStrictlyIncreasing (x ∷ xs))
above_test x [] = (λ e k within. absurd (omega arith), λ rising. refl)
above_test x (y ∷ ys) = Decides-like (nat_lt x y && rise_above y ys) together apart (Decides-and (nat_lt x y) (rise_above y ys) (Decides-ltb x y) (above_test y ys))
  where
    together : ((x < y) × IsStrictlyIncreasing (y ∷ ys)) → IsStrictlyIncreasing (x ∷ y ∷ ys)
    together both zero within = both.0
    together both (suc k) within =
        let next : suc k + 1 ≡ suc (k + 1) = omega arith in
        rw next (both.1 k (omega arith))

    apart : IsStrictlyIncreasing (x ∷ y ∷ ys) → (x < y) × IsStrictlyIncreasing (y ∷ ys)
    apart rising = (
      rising 0 (omega arith),
      λ k within.
          let next : suc k + 1 ≡ suc (k + 1) = omega arith in
          rw next at (rising (suc k) (omega arith)),
    )

rise_test : (xs : List ℕ) → Decides (rise xs) (IsStrictlyIncreasing xs)
rise_test [] = (λ e k within. absurd (omega (arith, within)), λ rising. refl)
rise_test (x ∷ xs) = above_test x xs

some_test : (n : ℕ) → Decides (nat_le 1 n) (1 ≤ n)
some_test n = elim (leb_tells 1 n) [
  | inl some ↦ (λ e. some.1, λ le. some.0)
  | inr none ↦ (λ e. let failed = none.0 in cc, λ le. absurd (omega (arith, le, none.1)))
]

module _ (schema : Schema) where
  pub part_test : (table : ℕ) (part : Part) → Decides (part_fits schema table part) (PartFits schema table part)
  part_test table part =
      let columns = columns_in_group schema table part.group in
      let tests = Decides-and _ _ (Decides-and _ _ (Decides-and _ _ (listed_test (group_numbers_of schema table) part.group) (row_test columns part.old)) (row_test columns part.new)) (Decides-not _ (are_same-Decides part.old part.new)) in
      Decides-like (part_fits schema table part)
      (λ all. record { group = all.0.0.0; old = all.0.0.1; new = all.0.1; differ = all.1 })
      (λ fits. (((fits.group, fits.old), fits.new), fits.differ))
      tests

  pub update_test : (table : ℕ) (key : Cells) (parts : List Part) → Decides (update_fits schema table key parts) (UpdateFits schema table key parts)
  update_test table key parts =
      let tests = Decides-and _ _ (Decides-and _ _ (Decides-and _ _ (row_test (key_columns (columns_of schema table)) key) (some_test (length parts))) (all_test (part_fits schema table) (PartFits schema table) (part_test table) parts)) (rise_test (map (λ (part : Part). part.group) parts)) in
      Decides-like (update_fits schema table key parts)
      (λ all. record { key_fits = all.0.0.0; some = all.0.0.1; parts_fit = all.0.1; rise = all.1 })
      (λ fits. (((fits.key_fits, fits.some), fits.parts_fit), fits.rise))
      tests

  content_test : (call : Call) → Decides (content_fits schema call) (ContentFits schema call)
  content_test (Insert table row) = row_test (columns_of schema table) row
  content_test (Update table key parts) = update_test table key parts
  content_test (Delete table row) = row_test (columns_of schema table) row

  pub call_test : (call : Call) → Decides (call_fits schema call) (CallFits schema call)
  call_test call =
      Decides-like (call_fits schema call)
      (λ both. record { table = both.0; content = both.1 })
      (λ fits. (fits.table, fits.content))
      (Decides-and (nat_lt (table_of call) (length schema.tables)) (content_fits schema call) (Decides-ltb (table_of call) (length schema.tables)) (content_test call))

  -- the test passes exactly where the transaction fits
  pub txn_test : (txn : Txn) → Decides (txn_fits schema txn) (TxnFits schema txn)
  txn_test txn = Decides-like (txn_fits schema txn) (λ all. record { calls = all }) (λ fits. fits.calls) (all_test (call_fits schema) (CallFits schema) call_test txn.calls)
