-- What an append leaves of a row: its shape, its key, and its values in the columns of other constraints.
use Rattle.std.proofs.Common.{◌≡◌, ◌≢◌, ℕ, zero, suc, ◌+◌, Bool, true, false, cond, List, [], ◌∷◌, ◌++◌, length, get_or, set, Some, None, refl, sym, ap, ◌∙◌, subst, inl, inr, arith}
use Rattle.std.specs.Prelude.{Option, IfSome, not, ◌&&◌, ◌==◌, nat_le, slice_get}
use Rattle.std.specs.List.{Contains, list_any, cons_option}
use Rattle.std.proofs.lemmas.Bool.{eqb-true}
use Rattle.std.proofs.lemmas.Bool.Decides.{eqb_tells}
use Rattle.std.proofs.lemmas.List.Folds.{Any-from_list_any}
use Rattle.rep_values.specs.declared.value.Value.{Value}
use Rattle.rep_values.specs.declared.value.Value.TheVariants.{Num, Words}
use Rattle.rep_schema.specs.declared.schema.Column.{Column}
use Rattle.rep_schema.specs.declared.schema.Kind.{Kind}
use Rattle.rep_schema.specs.declared.schema.Kind.TheVariants as kind
use Rattle.rep_schema.specs.Tables.{Cells, key_of, FitsKind, RowFits}
use Rattle.rep_schema.specs.Kinds.{is_some_and, is_key_at}
use Rattle.rep_schema.specs.Groups.{values_at}
use Rattle.rep_schema.specs.Shape.{ShareNone}
use Rattle.rep_schema.proofs.PartFit.{key_of-with_values}
use Rattle.unique_resolve.specs.Appending.{may_change, most_bytes, text_appended, appended}
use Rattle.unique_resolve.specs.Laws.{IsLengthened}

-- a column of a kind that holds one text holds every text
other_text : (k : Kind) (old new : List ℕ) → FitsKind k (Words old) → FitsKind k (Words new)
other_text kind.Number old new fits = absurd fits
other_text kind.Date old new fits = absurd fits
other_text kind.Stamp old new fits = absurd fits
other_text kind.Words old new fits = tt
other_text kind.Site old new fits = tt

RowFits-text : (columns : List Column) (row : Cells) (p : ℕ) (old new : List ℕ) → slice_get row p ≡ Some (Words old) → RowFits columns row → RowFits columns (set row p (Words new))
RowFits-text [] [] p old new there fits = tt
RowFits-text [] (v ∷ vs) p old new there fits = absurd fits
RowFits-text (c ∷ cs) [] p old new there fits = absurd fits
RowFits-text (c ∷ cs) (v ∷ vs) zero old new there fits =
    let is : v ≡ Words old = cc in
    (other_text c.kind old new (subst (FitsKind c.kind) is fits.0), fits.1)
RowFits-text (c ∷ cs) (v ∷ vs) (suc p) old new there fits = (fits.0, RowFits-text cs vs p old new there fits.1)

slice_get-set_other : {X : Type 0} (xs : List X) (p q : ℕ) (y : X) → q ≢ p → slice_get (set xs p y) q ≡ slice_get xs q
slice_get-set_other [] p q y other = refl
slice_get-set_other (x ∷ xs) zero zero y other = absurd (other refl)
slice_get-set_other (x ∷ xs) zero (suc q) y other = refl
slice_get-set_other (x ∷ xs) (suc p) zero y other = refl
slice_get-set_other (x ∷ xs) (suc p) (suc q) y other = slice_get-set_other xs p q y (λ same. other (ap suc same))

slice_get-set_there : {X : Type 0} (xs : List X) (p : ℕ) (x y : X) → slice_get xs p ≡ Some x → slice_get (set xs p y) p ≡ Some y
slice_get-set_there [] p x y there = cc
slice_get-set_there (z ∷ zs) zero x y there = refl
slice_get-set_there (z ∷ zs) (suc p) x y there = slice_get-set_there zs p x y there

-- a list's values at places that aren't the written one
values_at-set_other : {X : Type 0} (places : List ℕ) (xs : List X) (p : ℕ) (y : X) → (Contains places p → ⊥) → values_at places (set xs p y) ≡ values_at places xs
values_at-set_other [] xs p y none = refl
values_at-set_other (q ∷ qs) xs p y none =
    let other : q ≢ p = λ same. none (0, omega arith, same) in
    rw (slice_get-set_other xs p q y other)
    (ap (cons_option (slice_get xs q)) (values_at-set_other qs xs p y (λ has. none (suc has.0, omega (arith, has.1), has.2))))

-- a number that is listed by the test is there
Contains-listed : (xs : List ℕ) (x : ℕ) → list_any (λ y. y == x) xs ≡ true → Contains xs x
Contains-listed xs x e =
    let found = Any-from_list_any (λ y. y == x) xs e in
    let is : found.1 ≡ x = eqb-true found.1 x found.4 in
    (found.0, found.2, subst (λ y. get_or xs found.0 y ≡ y) is found.3)

-- an append writes a text in the place of a text, in a column of the constraint that is no key column
pub record IsAppend (columns : List Column) (places : List ℕ) (column : ℕ) (row after : Cells) : Type 0 where
  pub old : List ℕ
  pub new : List ℕ
  pub there : slice_get row column ≡ Some (Words old)
  pub is : after ≡ set row column (Words new)
  pub listed : Contains places column
  pub plain : is_key_at columns column ≡ false
  pub may : may_change columns places column ≡ true
  pub bytes : List ℕ
  pub suffix : new ≡ old ++ bytes

module _ (columns : List Column) (places : List ℕ) (column : ℕ) (row : Cells) where
  both_allow : (listed key : Bool) → (listed && not key) ≡ true → (listed ≡ true) × (key ≡ false)
  both_allow true true e = cc
  both_allow true false e = (refl, refl)
  both_allow false key e = cc

  -- an append that gives a row is one
  pub IsAppend-appended : (bytes : List ℕ) (after : Cells) → appended columns places column bytes row ≡ Some after → IsAppend columns places column row after
  IsAppend-appended bytes after gives = allowed (may_change columns places column) refl gives
    where
      short : (old : List ℕ) → slice_get row column ≡ Some (Words old) → may_change columns places column ≡ true → (b : Bool)
          → cond b (Some (set row column (Words (old ++ bytes)))) None ≡ Some after → IsAppend columns places column row after
      short old there may true e =
          let both = both_allow (list_any (λ place. place == column) places) (is_key_at columns column) may in
          record { old = old; new = old ++ bytes; there = there; is = cc; listed = Contains-listed places column both.0; plain = both.1; may = may; bytes = bytes; suffix = refl }
      short old there may false e = cc

      stands : may_change columns places column ≡ true → (v : Option Value) → slice_get row column ≡ v → text_appended column bytes row v ≡ Some after → IsAppend columns places column row after
      stands may None there e = cc
      stands may (Some (Num n)) there e = cc
      stands may (Some (Words old)) there e = short old there may (nat_le (length old + length bytes) most_bytes) e

      allowed : (b : Bool) → may_change columns places column ≡ b → cond b (text_appended column bytes row (slice_get row column)) None ≡ Some after → IsAppend columns places column row after
      allowed true may e = stands may (slice_get row column) refl e
      allowed false may e = cc

  module _ (after : Cells) (append : IsAppend columns places column row after) where
    -- the row fits as before
    pub RowFits-append : RowFits columns row → RowFits columns after
    RowFits-append fits = rw append.is (RowFits-text columns row column append.old append.new append.there fits)

    -- it has its key
    pub key_of-append : key_of columns after ≡ key_of columns row
    key_of-append = rw append.is (key_of-with_values columns (column ∷ []) (Words append.new ∷ []) row (no_key (slice_get columns column) append.plain, tt))
      where
        no_key : (c : Option Column) → is_some_and (λ (x : Column). x.key) c ≡ false → IfSome c (λ c. c.key ≡ false)
        no_key None plain = tt
        no_key (Some c) plain = plain

    -- and its values in the columns of a constraint that shares none with this one
    pub values_at-append : (others : List ℕ) → ShareNone places others → values_at others after ≡ values_at others row
    values_at-append others apart = rw append.is (values_at-set_other others row column (Words append.new) (apart column append.listed))

    -- at each place its value is the same, or a text with bytes behind it
    pub IsLengthened-append : (place : ℕ) → IsLengthened (may_change columns places place) (slice_get row place) (slice_get after place)
    IsLengthened-append place = elim (eqb_tells column place) [
      | inl same ↦
          let may : may_change columns places place ≡ true = subst (λ p. may_change columns places p ≡ true) same.1 append.may in
          let was : slice_get row place ≡ Some (Words append.old) = subst (λ p. slice_get row p ≡ Some (Words append.old)) same.1 append.there in
          let put : slice_get after place ≡ Some (Words append.new) = subst (λ p. slice_get after p ≡ Some (Words append.new)) same.1
          (ap (λ r. slice_get r column) append.is ∙ slice_get-set_there row column (Words append.old) (Words append.new) append.there) in
          inr (may, record { text = append.old; bytes = append.bytes; was = was; is = put ∙ ap (λ t. Some (Words t)) append.suffix })
      | inr apart ↦ inl (ap (λ r. slice_get r place) append.is ∙ slice_get-set_other row column place (Words append.new) (λ e. apart.1 (sym e)))
    ]
