-- The tests of rows that compute, and what they mean.
use Rattle.std.proofs.Common.{◌≡◌, Bool, true, false, ◌&&◌, List, [], ◌∷◌, refl, pos, negsuc}
use Rattle.std.specs.Prelude.{ℤ, ◌↔◌, int_le}
use Rattle.std.specs.Prelude.{T}
use Rattle.rep_values.specs.declared.value.Value.{Value}
use Rattle.rep_values.specs.declared.value.Value.TheVariants.{Num, Words}
use Rattle.rep_schema.specs.declared.schema.Column.{Column}
use Rattle.rep_schema.specs.declared.schema.Kind.{Kind}
use Rattle.rep_schema.specs.declared.schema.Kind.TheVariants as kind
use Rattle.rep_schema.specs.Tables.{Cells, IsInRange, FitsKind, RowFits}
use Rattle.rep_schema.specs.Fitting.{is_in_range, fits_kind, row_fits}

both_true : (a b : Bool) → (a && b) ≡ true → (a ≡ true) × (b ≡ true)
both_true true b e = (refl, e)
both_true false b e = cc

passes : (b : Bool) → b ≡ true → T b
passes true e = tt
passes false e = cc

passed : (b : Bool) → T b → b ≡ true
passed true t = refl
passed false t = absurd t

range_test : (n : ℤ) → (is_in_range n ≡ true) ↔ IsInRange n
range_test n = (
  λ e.
      let p = both_true (int_le (negsuc 999999999999999) n) (int_le n (pos 1000000000000000)) e in
      (record { le = passes _ p.0 }, record { le = passes _ p.1 }),
  λ h. rw (passed (int_le (negsuc 999999999999999) n) h.0.le, passed (int_le n (pos 1000000000000000)) h.1.le) refl,
)

kind_test : (k : Kind) (v : Value) → (fits_kind k v ≡ true) ↔ FitsKind k v
kind_test kind.Number (Num n) = range_test n
kind_test kind.Date (Num n) = range_test n
kind_test kind.Stamp (Num n) = range_test n
kind_test kind.Words (Num n) = (λ e. cc, λ h. absurd h)
kind_test kind.Site (Num n) = (λ e. cc, λ h. absurd h)
kind_test kind.Number (Words t) = (λ e. cc, λ h. absurd h)
kind_test kind.Date (Words t) = (λ e. cc, λ h. absurd h)
kind_test kind.Stamp (Words t) = (λ e. cc, λ h. absurd h)
kind_test kind.Words (Words t) = (λ e. tt, λ h. refl)
kind_test kind.Site (Words t) = (λ e. tt, λ h. refl)

-- the test passes exactly where the row fits
pub row_test : (columns : List Column) (row : Cells) → (row_fits columns row ≡ true) ↔ RowFits columns row
row_test [] [] = (λ e. tt, λ h. refl)
row_test [] (v ∷ vs) = (λ e. cc, λ h. absurd h)
row_test (c ∷ cs) [] = (λ e. cc, λ h. absurd h)
row_test (c ∷ cs) (v ∷ vs) =
    let here = kind_test c.kind v in
    let rest = row_test cs vs in (
      λ e. let p = both_true (fits_kind c.kind v) (row_fits cs vs) e in (here.0 p.0, rest.0 p.1),
      λ h. rw (here.1 h.0, rest.1 h.1) refl,
    )

-- two tests of one fact give one answer
pub same_test : {P : Type 0} (a b : Bool) → ((a ≡ true) ↔ P) → ((b ≡ true) ↔ P) → a ≡ b
same_test true true p q = refl
same_test true false p q = let e = q.1 (p.0 refl) in cc
same_test false true p q = let e = p.1 (q.0 refl) in cc
same_test false false p q = refl
