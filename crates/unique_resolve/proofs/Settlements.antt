-- What holds of a row that fits after its settlement, and of the counters after it.
use Rattle.std.proofs.Common.{◌≡◌, ℕ, zero, suc, ◌<◌, Bool, true, false, cond, List, [], ◌∷◌, length, map, ◌++◌, append_assoc, get_or, Some, None, refl, sym, ap, ◌∙◌, subst, inl, inr, arith, replicate}
use Rattle.std.specs.Prelude.{Option, IfSome, ◌&&◌, ◌||◌, is_some, slice_get, decimal}
use Rattle.std.specs.List.{AllByRecursion, AllPairs, list_any}
use Rattle.std.proofs.lemmas.Bool.Decides.{not_from_Decides}
use Rattle.std.proofs.lemmas.List.{length-replicate}
use Rattle.std.proofs.Math.Seq.{map-set_same}
use Rattle.std.proofs.lemmas.List.Elements.{recursion_from_All}
use Rattle.rep_lists.proofs.Each.{each_then, each_found}
use Rattle.rep_values.specs.declared.name.SiteName.{SiteName}
use Rattle.rep_values.specs.declared.value.Value.{Value}
use Rattle.rep_values.specs.declared.value.Value.TheVariants.{Words}
use Rattle.rep_schema.specs.declared.schema.Schema.{Schema}
use Rattle.rep_schema.specs.declared.schema.TableEntry.{TableEntry}
use Rattle.rep_schema.specs.declared.schema.Column.{Column}
use Rattle.rep_schema.specs.declared.schema.Constraint.{Constraint}
use Rattle.rep_schema.specs.declared.schema.UniqueMethod.{UniqueMethod}
use Rattle.rep_schema.specs.declared.schema.UniqueMethod.TheVariants as method
use Rattle.rep_schema.specs.Tables.{Cells, Rows, columns_of, constraints_in, constraints_of, key_of, find_row, rows_of, RowFits, IsUniqueRow, AreTables}
use Rattle.rep_schema.specs.Groups.{values_at}
use Rattle.rep_schema.specs.Shape.{key_name, ShareNone, HasTableShape, HasShape}
use Rattle.rep_schema.proofs.Shapes.{table_shape}
use Rattle.unique_resolve.specs.declared.settled.Settled.{Settled}
use Rattle.unique_resolve.specs.declared.settled.Settled.TheVariants.{Fits, Dropped, Conflict}
use Rattle.unique_resolve.specs.Numbers.{Numbers, AreCounters, first_numbers, number_raised}
use Rattle.unique_resolve.specs.Appending.{may_change, appended}
use Rattle.unique_resolve.specs.Laws.{IsLengthened, may_grow}
use Rattle.unique_resolve.specs.Settling.{is_held, helping, or_following, settled_by, settled_one, TableOutcome, go_on, settled_each, is_discard, key_methods_in, key_taken, Settlement, with_numbers, settlement_of}
use Rattle.unique_resolve.proofs.HeldValues.{held_test}
use Rattle.unique_resolve.proofs.AppendedTexts.{RowFits-append, key_of-append, values_at-append, IsLengthened-append, IsAppend-appended}

-- of two rows with one key and the same values at some places, both have them held or none
is_held-same : (columns : List Column) (places : List ℕ) (a b : Cells) (rows : Rows) → key_of columns a ≡ key_of columns b → values_at places a ≡ values_at places b → is_held columns places rows a ≡ is_held columns places rows b
is_held-same columns places a b rows key values = rw (key, values) refl

or_left : (a b : Bool) → a ≡ true → (a || b) ≡ true
or_left true b is = refl
or_left false b is = cc

or_right : (a b : Bool) → b ≡ true → (a || b) ≡ true
or_right true b is = refl
or_right false b is = is

-- a value that is lengthened twice is lengthened
IsLengthened-trans : (a b : Bool) (x y z : Option Value) → IsLengthened a x y → IsLengthened b y z → IsLengthened (a || b) x z
IsLengthened-trans a b x y z (inl same) (inl again) = inl (again ∙ same)
IsLengthened-trans a b x y z (inl same) (inr more) =
    inr (or_right a b more.0, record { text = more.1.text; bytes = more.1.bytes; was = sym same ∙ more.1.was; is = more.1.is })
IsLengthened-trans a b x y z (inr first) (inl again) =
    inr (or_left a b first.0, record { text = first.1.text; bytes = first.1.bytes; was = first.1.was; is = again ∙ first.1.is })
IsLengthened-trans a b x y z (inr first) (inr more) =
    let same : more.1.text ≡ first.1.text ++ first.1.bytes = words_same (sym more.1.was ∙ first.1.is) in
    inr (
      or_left a b first.0,
      record {
        text = first.1.text;
        bytes = first.1.bytes ++ more.1.bytes;
        was = first.1.was;
        is = more.1.is ∙ ap (λ t. Some (Words (t ++ more.1.bytes))) same ∙ ap (λ t. Some (Words t)) (append_assoc first.1.text first.1.bytes more.1.bytes);
      },
    )
  where
    words_same : {s t : List ℕ} → Some (Words s) ≡ Some (Words t) → s ≡ t
    words_same e = cc

-- a row that fits for one constraint
record IsFree (columns : List Column) (places : List ℕ) (rows : Rows) (row after : Cells) : Type 0 where
  fits : RowFits columns after
  key : key_of columns after ≡ key_of columns row
  free : is_held columns places rows after ≡ false
  others : (shared : List ℕ) → ShareNone places shared → values_at shared after ≡ values_at shared row
  lengthened : (place : ℕ) → IsLengthened (may_change columns places place) (slice_get row place) (slice_get after place)

module _ (columns : List Column) (constraint : Constraint) (rows : Rows) (origin : SiteName) (row : Cells) (fits : RowFits columns row) where
  -- an append that helps
  IsFree-helping : (column : ℕ) (bytes : List ℕ) (after : Cells) → helping columns constraint.columns rows (appended columns constraint.columns column bytes row) ≡ Some after
      → IsFree columns constraint.columns rows row after
  IsFree-helping column bytes after helps = tried (appended columns constraint.columns column bytes row) refl helps
    where
      tested : (one : Cells) → appended columns constraint.columns column bytes row ≡ Some one → (b : Bool) → is_held columns constraint.columns rows one ≡ b → cond b None (Some one) ≡ Some after
          → IsFree columns constraint.columns rows row after
      tested one gives true held e = cc
      tested one gives false held e =
          let same : one ≡ after = cc in
          let append = IsAppend-appended columns constraint.columns column row bytes after (gives ∙ ap Some same) in
          record {
            fits = RowFits-append columns constraint.columns column row after append fits;
            key = key_of-append columns constraint.columns column row after append;
            free = subst (λ r. is_held columns constraint.columns rows r ≡ false) same held;
            others = values_at-append columns constraint.columns column row after append;
            lengthened = IsLengthened-append columns constraint.columns column row after append;
          }

      tried : (given : Option Cells) → appended columns constraint.columns column bytes row ≡ given → helping columns constraint.columns rows given ≡ Some after → IsFree columns constraint.columns rows row after
      tried None gives e = cc
      tried (Some one) gives e = tested one gives (is_held columns constraint.columns rows one) refl e

  -- so is a row that fits by the methods
  IsFree-settled_by : (methods : List UniqueMethod) (number : ℕ) (after : Cells) → (settled_by columns constraint rows origin methods row number).settled ≡ Fits after → IsFree columns constraint.columns rows row after
  IsFree-settled_by [] number after fit = cc
  IsFree-settled_by (method.Discard ∷ methods) number after fit = cc
  IsFree-settled_by (method.AppendSite column ∷ methods) number after fit =
      go (helping columns constraint.columns rows (appended columns constraint.columns column origin.0 row)) refl fit (IsFree-settled_by methods number after)
    where
      go : (helped : Option Cells) → helping columns constraint.columns rows (appended columns constraint.columns column origin.0 row) ≡ helped
          → (or_following helped number (settled_by columns constraint rows origin methods row number)).settled ≡ Fits after
          → ((settled_by columns constraint rows origin methods row number).settled ≡ Fits after → IsFree columns constraint.columns rows row after)
          → IsFree columns constraint.columns rows row after
      go None helps e later = later e
      go (Some one) helps e later = let same : one ≡ after = cc in IsFree-helping column origin.0 after (helps ∙ ap Some same)
  IsFree-settled_by (method.AppendSequence column ∷ methods) number after fit =
      go (helping columns constraint.columns rows (appended columns constraint.columns column (decimal (number_raised number)) row)) refl fit (IsFree-settled_by methods (number_raised number) after)
    where
      go : (helped : Option Cells) → helping columns constraint.columns rows (appended columns constraint.columns column (decimal (number_raised number)) row) ≡ helped
          → (or_following helped (number_raised number) (settled_by columns constraint rows origin methods row (number_raised number))).settled ≡ Fits after
          → ((settled_by columns constraint rows origin methods row (number_raised number)).settled ≡ Fits after → IsFree columns constraint.columns rows row after)
          → IsFree columns constraint.columns rows row after
      go None helps e later = later e
      go (Some one) helps e later = let same : one ≡ after = cc in IsFree-helping column (decimal (number_raised number)) after (helps ∙ ap Some same)

  -- and one that fits as it is
  IsFree-settled_one : (number : ℕ) (after : Cells) → (settled_one columns rows origin constraint row number).settled ≡ Fits after → IsFree columns constraint.columns rows row after
  IsFree-settled_one number after fit = go (is_held columns constraint.columns rows row) refl fit
    where
      go : (b : Bool) → is_held columns constraint.columns rows row ≡ b
          → (cond b (settled_by columns constraint rows origin constraint.methods row number) (record { settled = Fits row; number = number })).settled ≡ Fits after → IsFree columns constraint.columns rows row after
      go true held e = IsFree-settled_by constraint.methods number after e
      go false held e =
          let same : row ≡ after = cc in
          subst (IsFree columns constraint.columns rows row) same (record { fits = fits; key = refl; free = held; others = λ shared apart. refl; lengthened = λ place. inl refl })

  -- it has the row's key
  pub key_of-settled_one : (number : ℕ) (after : Cells) → (settled_one columns rows origin constraint row number).settled ≡ Fits after → key_of columns after ≡ key_of columns row
  key_of-settled_one number after fit = (IsFree-settled_one number after fit).key

  -- and fits as well
  pub RowFits-settled_one : (number : ℕ) (after : Cells) → (settled_one columns rows origin constraint row number).settled ≡ Fits after → RowFits columns after
  RowFits-settled_one number after fit = (IsFree-settled_one number after fit).fits

-- no two of a table's constraints share a column
abbrev AreApart : List Constraint → Type 0
AreApart [] = Unit {0}
AreApart (c ∷ cs) = AllByRecursion (λ (d : Constraint). ShareNone c.columns d.columns) cs × AreApart cs

-- a row that fits for some constraints
record AreFree (columns : List Column) (constraints : List Constraint) (rows : Rows) (row after : Cells) : Type 0 where
  fits : RowFits columns after
  key : key_of columns after ≡ key_of columns row
  free : AllByRecursion (λ (c : Constraint). is_held columns c.columns rows after ≡ false) constraints
  others : (places : List ℕ) → AllByRecursion (λ (c : Constraint). ShareNone c.columns places) constraints → values_at places after ≡ values_at places row
  lengthened : (place : ℕ) → IsLengthened (list_any (λ (c : Constraint). may_change columns c.columns place) constraints) (slice_get row place) (slice_get after place)

AreApart-pairs : (constraints : List Constraint) → AllPairs (λ c d. ShareNone c.columns d.columns) constraints → AreApart constraints
AreApart-pairs [] pairs = tt
AreApart-pairs (c ∷ cs) pairs = (
  recursion_from_All (λ (d : Constraint). ShareNone c.columns d.columns) cs (λ k d below. pairs 0 (suc k) d (omega arith) (omega (arith, below))),
  AreApart-pairs cs (λ i j d lt below. pairs (suc i) (suc j) d (omega (arith, lt)) (omega (arith, below))),
)

module _ (columns : List Column) (rows : Rows) (origin : SiteName) where
  -- a constraint after which further ones are settled
  AreFree-cons : (c : Constraint) (cs : List Constraint) (row one after : Cells) → AllByRecursion (λ (d : Constraint). ShareNone c.columns d.columns) cs
      → IsFree columns c.columns rows row one → AreFree columns cs rows one after → AreFree columns (c ∷ cs) rows row after
  AreFree-cons c cs row one after apart first rest =
      let back : AllByRecursion (λ (d : Constraint). ShareNone d.columns c.columns) cs =
      each_then (λ (d : Constraint). ShareNone c.columns d.columns) (λ (d : Constraint). ShareNone d.columns c.columns) (λ d none x here there. none x there here) cs apart in
      record {
        fits = rest.fits;
        key = rest.key ∙ first.key;
        free = (is_held-same columns c.columns after one rows rest.key (rest.others c.columns back) ∙ first.free, rest.free);
        others = λ places shared. rest.others places shared.1 ∙ first.others places shared.0;
        lengthened = λ place. IsLengthened-trans (may_change columns c.columns place) (list_any (λ (d : Constraint). may_change columns d.columns place) cs) (slice_get row place) (slice_get one place) (slice_get after place) (first.lengthened place) (rest.lengthened place);
      }

  -- a row that fits for one constraint after another fits for all
  AreFree-settled_each : (constraints : List Constraint) (numbers : List ℕ) (row after : Cells) → RowFits columns row → length constraints ≡ length numbers → AreApart constraints
      → (settled_each columns rows origin constraints numbers row).settled ≡ Fits after → AreFree columns constraints rows row after
  AreFree-settled_each [] numbers row after fits long apart fit =
      let same : row ≡ after = cc in
      subst (AreFree columns [] rows row) same (record { fits = fits; key = refl; free = tt; others = λ places shared. refl; lengthened = λ place. inl refl })
  AreFree-settled_each (c ∷ cs) [] row after fits long apart fit = absurd (omega (arith, long))
  AreFree-settled_each (c ∷ cs) (n ∷ ns) row after fits long apart fit =
      go (settled_one columns rows origin c row n).settled refl fit (λ one one_fits later. AreFree-settled_each cs ns one after one_fits (omega (arith, long)) apart.1 later)
    where
      go : (settled : Settled) → (settled_one columns rows origin c row n).settled ≡ settled
          → (go_on settled (settled_one columns rows origin c row n).number ns (settled_each columns rows origin cs ns)).settled ≡ Fits after
          → ((one : Cells) → RowFits columns one → (settled_each columns rows origin cs ns one).settled ≡ Fits after → AreFree columns cs rows one after)
          → AreFree columns (c ∷ cs) rows row after
      go (Fits one) here e later =
          let first = IsFree-settled_one columns c rows origin row fits n one here in
          AreFree-cons c cs row one after apart.0 first (later one first.fits e)
      go Dropped here e later = cc
      go (Conflict name) here e later = cc

  -- there are as many counters as before
  length-settled_each : (constraints : List Constraint) (numbers : List ℕ) (row : Cells) → length (settled_each columns rows origin constraints numbers row).numbers ≡ length numbers
  length-settled_each [] numbers row = refl
  length-settled_each (c ∷ cs) [] row = refl
  length-settled_each (c ∷ cs) (n ∷ ns) row = go (settled_one columns rows origin c row n).settled (length-settled_each cs ns)
    where
      go : (settled : Settled) → ((one : Cells) → length (settled_each columns rows origin cs ns one).numbers ≡ length ns)
          → length (go_on settled (settled_one columns rows origin c row n).number ns (settled_each columns rows origin cs ns)).numbers ≡ suc (length ns)
      go (Fits one) later = ap suc (later one)
      go Dropped later = refl
      go (Conflict name) later = refl

-- a table has as many counters as constraints
pub length-counters : (schema : Schema) (numbers : Numbers) (table : ℕ) → AreCounters schema numbers → length (constraints_of schema table) ≡ length (get_or numbers table [])
length-counters schema numbers table counted = go numbers schema.tables table counted
  where
    go : (numbers : Numbers) (entries : List TableEntry) (table : ℕ) → map length numbers ≡ map (λ (entry : TableEntry). length entry.constraints) entries
        → length (constraints_in (slice_get entries table)) ≡ length (get_or numbers table [])
    go [] [] table same = refl
    go [] (e ∷ es) table same = cc
    go (n ∷ ns) [] table same = cc
    go (n ∷ ns) (e ∷ es) zero same = let first : length n ≡ length e.constraints = cc in sym first
    go (n ∷ ns) (e ∷ es) (suc table) same = let rest : map length ns ≡ map (λ (entry : TableEntry). length entry.constraints) es = cc in go ns es table rest

-- the first counters are those of the schema's constraints
pub AreCounters-first : (schema : Schema) → AreCounters schema (first_numbers schema)
AreCounters-first schema = go schema.tables
  where
    go : (entries : List TableEntry) → map length (map (λ (entry : TableEntry). replicate {A = ℕ} (length entry.constraints) 0) entries) ≡ map (λ (entry : TableEntry). length entry.constraints) entries
    go [] = refl
    go (e ∷ es) = rw (length-replicate {A = ℕ} (length e.constraints) 0) (ap (λ ns. length e.constraints ∷ ns) (go es))

-- no two constraints of a table share a column
AreApart-constraints_of : (schema : Schema) (table : ℕ) → HasShape schema → AreApart (constraints_of schema table)
AreApart-constraints_of schema table shape = go (slice_get schema.tables table) (table_shape schema shape table)
  where
    go : (entry : Option TableEntry) → IfSome entry (HasTableShape (length schema.priorities)) → AreApart (constraints_in entry)
    go None is = tt
    go (Some entry) is = AreApart-pairs entry.constraints is.constraints_apart

-- a key that is taken lets no row fit
key_taken-fits : (methods : List UniqueMethod) (after : Cells) → key_taken methods ≡ Fits after → ⊥
key_taken-fits methods after fit = go (list_any is_discard methods) fit
  where
    go : (b : Bool) → cond b Dropped (Conflict key_name) ≡ Fits after → ⊥
    go true e = cc
    go false e = cc

module _ (schema : Schema) (tables : List Rows) (numbers : Numbers) (origin : SiteName) (table : ℕ) (inserting : Bool) (row : Cells) where
  -- the settlement
  abbrev settlement : Settlement
  settlement = settlement_of schema tables numbers origin table inserting row

  -- the key is taken by another row
  abbrev is_taken : Bool
  is_taken = inserting && is_some (find_row (columns_of schema table) (key_of (columns_of schema table) row) (rows_of tables table))

  -- what the constraints make of the row
  abbrev by_constraints : TableOutcome
  by_constraints = settled_each (columns_of schema table) (rows_of tables table) origin (constraints_of schema table) (get_or numbers table []) row

  -- the counters after the settlement are those of the schema's constraints
  pub AreCounters-settled : AreCounters schema numbers → AreCounters schema settlement.numbers
  AreCounters-settled counted = go is_taken
    where
      go : (b : Bool) → AreCounters schema (cond b (record { settled = key_taken (key_methods_in (slice_get schema.tables table)); numbers = numbers }) (with_numbers table numbers by_constraints)).numbers
      go true = counted
      go false =
          map-set_same length numbers table by_constraints.numbers [] (length-settled_each (columns_of schema table) (rows_of tables table) origin (constraints_of schema table) (get_or numbers table []) row)
          ∙ counted

  module _ (after : Cells) (fit : settlement.settled ≡ Fits after) where
    free_and_settled : (is_taken ≡ false) × (by_constraints.settled ≡ Fits after)
    free_and_settled = go is_taken refl fit
      where
        go : (b : Bool) → is_taken ≡ b
            → (cond b (record { settled = key_taken (key_methods_in (slice_get schema.tables table)); numbers = numbers }) (with_numbers table numbers by_constraints)).settled ≡ Fits after
            → (is_taken ≡ false) × (by_constraints.settled ≡ Fits after)
        go true taken e = absurd (key_taken-fits (key_methods_in (slice_get schema.tables table)) after e)
        go false taken e = (taken, e)

    -- a new row that fits has a key that no row has
    pub find_row-settled : inserting ≡ true → find_row (columns_of schema table) (key_of (columns_of schema table) row) (rows_of tables table) ≡ None
    find_row-settled new = go inserting (find_row (columns_of schema table) (key_of (columns_of schema table) row) (rows_of tables table)) new free_and_settled.0
      where
        go : (b : Bool) (found : Option Cells) → b ≡ true → (b && is_some found) ≡ false → found ≡ None
        go true None new free = refl
        go true (Some other) new free = cc
        go false found new free = cc

    module _ (shape : HasShape schema) (fits : RowFits (columns_of schema table) row) (counted : AreCounters schema numbers) where
      settled_free : AreFree (columns_of schema table) (constraints_of schema table) (rows_of tables table) row after
      settled_free =
          AreFree-settled_each (columns_of schema table) (rows_of tables table) origin (constraints_of schema table) (get_or numbers table []) row after
          fits (length-counters schema numbers table counted) (AreApart-constraints_of schema table shape) free_and_settled.1

      -- the row that fits fits the table's columns
      pub RowFits-settled : RowFits (columns_of schema table) after
      RowFits-settled = settled_free.fits

      -- it has the key of the row that was to be put
      pub key_of-settled : key_of (columns_of schema table) after ≡ key_of (columns_of schema table) row
      key_of-settled = settled_free.key

      -- only constrained texts are others, each with bytes behind it
      pub IsLengthened-settled : (place : ℕ) → IsLengthened (may_grow schema table place) (slice_get row place) (slice_get after place)
      IsLengthened-settled = settled_free.lengthened

      -- and it is unique among the table's rows
      pub IsUniqueRow-settled : AreTables schema tables → table < length schema.tables → IsUniqueRow schema table after (rows_of tables table)
      IsUniqueRow-settled are within = record {
        unheld = λ c below held.
            let found = each_found (λ (one : Constraint). is_held (columns_of schema table) one.columns (rows_of tables table) after ≡ false) (constraints_of schema table) c below settled_free.free in
            not_from_Decides (is_held (columns_of schema table) found.0.columns (rows_of tables table) after)
            (held_test (columns_of schema table) found.0.columns after RowFits-settled (rows_of tables table) (are.each table within).fit)
            found.2
            (rw found.1 at held);
      }
