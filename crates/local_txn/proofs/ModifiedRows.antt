-- The groups that an update modifies, before and after its filled columns are filled in.
use Rattle.std.proofs.Common.{◌≡◌, ℕ, zero, suc, ◌+◌, ◌<◌, Bool, true, false, List, [], ◌∷◌, length, refl, sym, ap, ◌∙◌, subst, arith, add-zero, zero-add}
use Rattle.std.specs.Prelude.{Option, Some, None, ◌&&◌, ◌||◌, cond, not, is_some, filter, slice_get, ◌==◌}
use Rattle.std.specs.Option.{option_map}
use Rattle.std.specs.List.{find, list_any, AllByRecursion}
use Rattle.std.proofs.lemmas.Bool.{and_right, or_parts, both_ways, false_from_ne_true, not-false, eqb-true, eq-eqb}
use Rattle.std.proofs.lemmas.Option.{slice_get_within}
use Rattle.rep_values.specs.declared.value.Value.{Value}
use Rattle.rep_schema.specs.declared.schema.Schema.{Schema}
use Rattle.rep_schema.specs.declared.schema.Column.{Column}
use Rattle.rep_schema.specs.Tables.{Cells, columns_of, picked}
use Rattle.rep_schema.specs.Shape.{HasShape}
use Rattle.rep_schema.specs.Kinds.{is_filled, has_place}
use Rattle.rep_schema.specs.Groups.{group_columns_of, group_values, group_numbers_of, are_same, differ_in}
use Rattle.rep_schema.proofs.ValuesAt.{picked-values_at, are_same-Decides}
use Rattle.rep_schema.proofs.Coverage.{group_columns_of-below}
use Rattle.rep_calls.specs.declared.statement.Set.{Set}
use Rattle.txn_effects.specs.Sets.{is_about, value_by, sets_filled, row_with, sets_by_column}
use Rattle.txn_effects.specs.ByColumn.{fills_some}
use Rattle.txn_effects.specs.Filled.{Filling, filling_value, value_filled, filled_from, is_modified}
use Rattle.rep_lists.proofs.Places.{found_at}
use Rattle.local_txn.proofs.NamedSets.{fills_some-sets}
use Rattle.local_txn.proofs.ApartGroups.{group_columns_of-apart}
use Rattle.txn_effects.proofs.KindRows.{length-filled_from}

-- the value at a place of a row with columns filled in
pub slice_get-filled_from : (filling : Filling) (chosen : ℕ → Bool) (n : ℕ) (columns : List Column) (row : Cells) (k : ℕ) (c : Column) → length columns ≡ length row → slice_get columns k ≡ Some c
    → slice_get (filled_from filling chosen n columns row) k ≡ option_map (value_filled filling (chosen (n + k)) c) (slice_get row k)
slice_get-filled_from filling chosen n [] row k c long at = cc
slice_get-filled_from filling chosen n (d ∷ cs) [] k c long at = absurd (omega (arith, long))
slice_get-filled_from filling chosen n (d ∷ cs) (v ∷ vs) zero c long at = let is : d ≡ c = cc in rw (add-zero, is) refl
slice_get-filled_from filling chosen n (d ∷ cs) (v ∷ vs) (suc k) c long at =
    let next : n + 1 + k ≡ n + suc k = omega arith in
    slice_get-filled_from filling chosen (n + 1) cs vs k c (omega (arith, long)) at ∙ ap (λ m. option_map (value_filled filling (chosen m) c) (slice_get vs k)) next

-- a filled column at a chosen place has what the site fills in
pub filled_at : (filling : Filling) (chosen : ℕ → Bool) (columns : List Column) (row : Cells) (k : ℕ) (c : Column) → length columns ≡ length row → slice_get columns k ≡ Some c
    → chosen k ≡ true → is_filled c ≡ true → slice_get (filled_from filling chosen 0 columns row) k ≡ Some (filling_value filling c)
filled_at filling chosen columns row k c long at gets filled = slice_get-filled_from filling chosen 0 columns row k c long at ∙ go (slice_get row k) refl
  where
    go : (o : Option Value) → slice_get row k ≡ o → option_map (value_filled filling (chosen (0 + k)) c) o ≡ Some (filling_value filling c)
    go None gone = absurd (past row k gone (let within = slice_get_within columns k c at in omega (arith, within, long)))
      where
        past : (xs : Cells) (i : ℕ) → slice_get xs i ≡ None → i < length xs → ⊥
        past [] i none below = omega (arith, below)
        past (x ∷ xs) zero none below = cc
        past (x ∷ xs) (suc i) none below = past xs i none (omega (arith, below))
    go (Some v) there = rw (zero-add, gets, filled) refl

-- the value at a place of a row after an update
slice_get-row_with : (sets : List Set) (columns : List Column) (row : Cells) (k : ℕ) (c : Column) → length columns ≡ length row → slice_get columns k ≡ Some c
    → slice_get (row_with sets columns row) k ≡ option_map (value_by (find (is_about c.name) sets)) (slice_get row k)
slice_get-row_with sets [] row k c long at = cc
slice_get-row_with sets (d ∷ cs) [] k c long at = absurd (omega (arith, long))
slice_get-row_with sets (d ∷ cs) (v ∷ vs) zero c long at = let is : d ≡ c = cc in rw is refl
slice_get-row_with sets (d ∷ cs) (v ∷ vs) (suc k) c long at = slice_get-row_with sets cs vs k c (omega (arith, long)) at

pub length-row_with : (sets : List Set) (columns : List Column) (row : Cells) → length columns ≡ length row → length (row_with sets columns row) ≡ length row
length-row_with sets [] row long = refl
length-row_with sets (d ∷ cs) [] long = refl
length-row_with sets (d ∷ cs) (v ∷ vs) long = let rest = length-row_with sets cs vs (omega (arith, long)) in omega (arith, rest)

-- nothing is set of a filled column
unset_at : (sets : List Set) (columns : List Column) (k : ℕ) (c : Column) → fills_some columns (sets_by_column columns sets) ≡ false → slice_get columns k ≡ Some c → is_filled c ≡ true → find (is_about c.name) sets ≡ None
unset_at sets [] k c none at filled = cc
unset_at sets (d ∷ cs) zero c none at filled =
    let is : d ≡ c = cc in
    let here = (or_parts (is_filled d && is_some (find (is_about d.name) sets)) (fills_some cs (sets_by_column cs sets)) none).0 in
    gone (find (is_about c.name) sets) (rw (is, filled) at here)
  where
    gone : (o : Option Set) → is_some o ≡ false → o ≡ None
    gone None e = refl
    gone (Some s) e = cc
unset_at sets (d ∷ cs) (suc k) c none at filled =
    unset_at sets cs k c (or_parts (is_filled d && is_some (find (is_about d.name) sets)) (fills_some cs (sets_by_column cs sets)) none).1 at filled

-- rows with the same value at each place have the same values there
picked-each : (places : List ℕ) (a b : Cells) → AllByRecursion (λ p. slice_get a p ≡ slice_get b p) places → picked places a ≡ picked places b
picked-each [] a b same = refl
picked-each (p ∷ ps) a b same = rw same.0 (ap (λ rest. slice_get b p ∷ rest) (picked-each ps a b same.1))

each-picked : (places : List ℕ) (a b : Cells) → picked places a ≡ picked places b → AllByRecursion (λ p. slice_get a p ≡ slice_get b p) places
each-picked [] a b same = tt
each-picked (p ∷ ps) a b same = (cc, each-picked ps a b (cc))

-- what holds of each place that is listed
each_listed : (P : ℕ → Type 0) (places : List ℕ) → ((p : ℕ) → has_place places p ≡ true → P p) → AllByRecursion P places
each_listed P [] holds = tt
each_listed P (p ∷ ps) holds = (holds p (rw (eq-eqb p p refl) refl), each_listed P ps (λ q listed. holds q (later q (p == q) listed)))
  where
    later : (q : ℕ) (b : Bool) → has_place ps q ≡ true → (b || has_place ps q) ≡ true
    later q true listed = refl
    later q false listed = listed

listed_each : (P : ℕ → Type 0) (places : List ℕ) (p : ℕ) → AllByRecursion P places → has_place places p ≡ true → P p
listed_each P [] p all listed = cc
listed_each P (q ∷ qs) p all listed = go (q == p) refl listed (λ found. listed_each P qs p all.1 found)
  where
    go : (b : Bool) → (q == p) ≡ b → (b || has_place qs p) ≡ true → (has_place qs p ≡ true → P p) → P p
    go true here found later = let is : q ≡ p = eqb-true q p here in subst P is all.0
    go false other found later = later found

filter-same : (p q : ℕ → Bool) (xs : List ℕ) → ((x : ℕ) → p x ≡ q x) → filter p xs ≡ filter q xs
filter-same p q [] same = refl
filter-same p q (x ∷ xs) same = rw (same x) (ap (λ rest. cond (q x) (x ∷ rest) rest) (filter-same p q xs same))

-- what passes only where a test fails isn't found among those that pass it
any-filter_never : (test keeps : ℕ → Bool) (xs : List ℕ) → ((x : ℕ) → test x ≡ true → keeps x ≡ false) → list_any test (filter keeps xs) ≡ false
any-filter_never test keeps [] never = refl
any-filter_never test keeps (x ∷ xs) never = go (keeps x) refl (any-filter_never test keeps xs never)
  where
    go : (b : Bool) → keeps x ≡ b → list_any test (filter keeps xs) ≡ false → list_any test (cond b (x ∷ filter keeps xs) (filter keeps xs)) ≡ false
    go true kept rest = rw (false_from_ne_true (test x) (λ passes. both_ways (keeps x) (never x passes) kept)) rest
    go false left rest = rest

option_map-same : {X : Type 0} (f : X → X) (o : Option X) → ((x : X) → f x ≡ x) → option_map f o ≡ o
option_map-same f None same = refl
option_map-same f (Some x) same = ap (λ y. Some y) (same x)

module _ (schema : Schema) (table : ℕ) where
  -- two rows are alike in a group
  abbrev AreAlikeIn : Cells → Cells → ℕ → Type 0
  AreAlikeIn a b group = AllByRecursion (λ p. slice_get a p ≡ slice_get b p) (group_columns_of schema table group)

  alike_in : (a b : Cells) (group : ℕ) → length a ≡ length b → differ_in schema table a b group ≡ false → AreAlikeIn a b group
  alike_in a b group long alike =
      let same : group_values schema table group a ≡ group_values schema table group b =
      (are_same-Decides (group_values schema table group a) (group_values schema table group b)).0 (not-false (are_same (group_values schema table group a) (group_values schema table group b)) alike) in
      each-picked (group_columns_of schema table group) a b ((picked-values_at (group_columns_of schema table group) a b long).1 same)

  alike_from : (a b : Cells) (group : ℕ) → length a ≡ length b → AreAlikeIn a b group → differ_in schema table a b group ≡ false
  alike_from a b group long alike =
      let same = (picked-values_at (group_columns_of schema table group) a b long).0 (picked-each (group_columns_of schema table group) a b alike) in
      ap not ((are_same-Decides (group_values schema table group a) (group_values schema table group b)).1 same)

  -- in one row no group differs
  pub is_modified-none : (row : Cells) (k : ℕ) → is_modified schema table row row k ≡ false
  is_modified-none row k = any-filter_never (λ group. has_place (group_columns_of schema table group) k) (differ_in schema table row row) (group_numbers_of schema table)
      (λ group has. alike_from row row group refl (each_listed (λ p. slice_get row p ≡ slice_get row p) (group_columns_of schema table group) (λ p listed. refl)))

  module _ (shape : HasShape schema) (sets : List Set) (before : Cells) (long : length (columns_of schema table) ≡ length before) (plain : sets_filled (columns_of schema table) sets ≡ false) (filling : Filling) where
    abbrev after : Cells
    after = row_with sets (columns_of schema table) before

    abbrev made : Cells
    made = filled_from filling (is_modified schema table before after) 0 (columns_of schema table) after

    long_after : length (columns_of schema table) ≡ length after
    long_after = long ∙ sym (length-row_with sets (columns_of schema table) before long)

    long_made : length before ≡ length made
    long_made = sym long ∙ long_after ∙ sym (length-filled_from filling (is_modified schema table before after) 0 (columns_of schema table) after long_after)

    -- the column at a place of a group
    column_at : (group p : ℕ) → has_place (group_columns_of schema table group) p ≡ true → (c : Column) × (slice_get (columns_of schema table) p ≡ Some c)
    column_at group p listed =
        let below : p < length (columns_of schema table) = listed_each (λ q. q < length (columns_of schema table)) (group_columns_of schema table group) p (group_columns_of-below schema shape table group) listed in
        found_at (columns_of schema table) p below

    -- a column of a group that isn't modified is in none that is
    unmodified : (group p : ℕ) → differ_in schema table before after group ≡ false → has_place (group_columns_of schema table group) p ≡ true → is_modified schema table before after p ≡ false
    unmodified group p alike listed = any-filter_never (λ h. has_place (group_columns_of schema table h) p) (differ_in schema table before after) (group_numbers_of schema table)
        (λ h has. let same : h ≡ group = group_columns_of-apart schema table shape h group p has listed in rw same alike)

    -- and so stays as it was
    stays : (group : ℕ) → differ_in schema table before after group ≡ false → differ_in schema table before made group ≡ false
    stays group alike =
        let each = alike_in before after group (sym long ∙ long_after) alike in
        alike_from before made group long_made
        (each_listed (λ p. slice_get before p ≡ slice_get made p) (group_columns_of schema table group)
        (λ p listed.
        let at = column_at group p listed in
        let unchosen = unmodified group p alike listed in
        let same : slice_get made p ≡ slice_get after p = slice_get-filled_from filling (is_modified schema table before after) 0 (columns_of schema table) after p at.0 long_after at.1
        ∙ option_map-same (value_filled filling (is_modified schema table before after (0 + p)) at.0) (slice_get after p) (λ v. rw (zero-add, unchosen) refl) in
        listed_each (λ q. slice_get before q ≡ slice_get after q) (group_columns_of schema table group) p each listed ∙ sym same))

    -- one that is modified still differs
    differs_still : (group : ℕ) → differ_in schema table before made group ≡ false → differ_in schema table before after group ≡ false
    differs_still group alike =
        let each = alike_in before made group long_made alike in
        alike_from before after group (sym long ∙ long_after)
        (each_listed (λ p. slice_get before p ≡ slice_get after p) (group_columns_of schema table group)
        (λ p listed.
        let at = column_at group p listed in
        let same = listed_each (λ q. slice_get before q ≡ slice_get made q) (group_columns_of schema table group) p each listed in
        let made_at = slice_get-filled_from filling (is_modified schema table before after) 0 (columns_of schema table) after p at.0 long_after at.1 in
        go p at.0 at.1 (is_filled at.0) refl same made_at))
      where
        go : (p : ℕ) (c : Column) → slice_get (columns_of schema table) p ≡ Some c → (b : Bool) → is_filled c ≡ b → slice_get before p ≡ slice_get made p
            → slice_get made p ≡ option_map (value_filled filling (is_modified schema table before after (0 + p)) c) (slice_get after p) → slice_get before p ≡ slice_get after p
        go p c there true filled same made_at =
            let unset = unset_at sets (columns_of schema table) p c (fills_some-sets sets (columns_of schema table) ∙ plain) there filled in
            sym (slice_get-row_with sets (columns_of schema table) before p c long there ∙ option_map-same (value_by (find (is_about c.name) sets)) (slice_get before p) (λ v. rw unset refl))
        go p c there false written same made_at =
            same ∙ made_at ∙ option_map-same (value_filled filling (is_modified schema table before after (0 + p)) c) (slice_get after p)
            (λ v. rw (written, and_right (is_modified schema table before after (0 + p)) false refl) refl)

    -- the same groups are modified before columns are filled in and afterwards
    pub is_modified-made : (k : ℕ) → is_modified schema table before made k ≡ is_modified schema table before after k
    is_modified-made k = ap (list_any (λ group. has_place (group_columns_of schema table group) k)) (filter-same (differ_in schema table before made) (differ_in schema table before after) (group_numbers_of schema table) same)
      where
        same : (group : ℕ) → differ_in schema table before made group ≡ differ_in schema table before after group
        same group = go (differ_in schema table before made group) (differ_in schema table before after group) refl refl
          where
            go : (x y : Bool) → differ_in schema table before made group ≡ x → differ_in schema table before after group ≡ y → x ≡ y
            go true true e f = refl
            go false false e f = refl
            go true false e f = absurd (both_ways (differ_in schema table before made group) (stays group f) e)
            go false true e f = absurd (both_ways (differ_in schema table before after group) (differs_still group e) f)
