-- The sign of a stamp and a site in a group whose latest values stay: a row has them there, and what fills them in makes it.
use Rattle.std.proofs.Common.{◌≡◌, ℕ, zero, suc, ◌+◌, ◌<◌, ◌≤◌, ◌==◌, Bool, true, false, cond, List, [], ◌∷◌, length, get_or, map, Some, None, Ok, refl, sym, ap, ◌∙◌, subst, inl, inr, arith, pos, zero-add}
use mathlib.Core.Bool.{true≢false}
use Rattle.std.specs.Prelude.{Option, IfSome, ◌&&◌, ◌||◌, not, filter, slice_get}
use Rattle.std.specs.Bool.{MatchBool}
use Rattle.std.specs.Option.{option_map}
use Rattle.std.specs.List.{AllByRecursion, list_any}
use Rattle.std.proofs.lemmas.Bool.Decides.{eqb_tells}
use Rattle.std.proofs.lemmas.Bool.{eqb-true}
use Rattle.std.proofs.lemmas.Option.{slice_get_within}
use Rattle.rep_values.specs.declared.name.SiteName.{SiteName}
use Rattle.rep_values.specs.declared.value.Value.{Value}
use Rattle.rep_values.specs.declared.value.Value.TheVariants.{Num, Words}
use Rattle.rep_values.specs.Equality.{value_eq, value_eq-Decides}
use Rattle.rep_schema.specs.declared.schema.Schema.{Schema}
use Rattle.rep_schema.specs.declared.schema.Column.{Column}
use Rattle.rep_schema.specs.declared.schema.Kind.{Kind}
use Rattle.rep_schema.specs.declared.schema.Kind.TheVariants as kind
use Rattle.rep_schema.specs.declared.schema.Method.{Method}
use Rattle.rep_schema.specs.declared.schema.Method.TheVariants as method
use Rattle.rep_schema.specs.declared.change.Change.{Change}
use Rattle.rep_schema.specs.Tables.{Cells, Rows, columns_of, key_of, find_row, rows_of, RowFits, AreTables}
use Rattle.rep_schema.specs.Changes.{LeadsTo, after_change}
use Rattle.rep_schema.specs.Groups.{groups_of, group_columns_of, group_numbers_of, values_at, differ_in}
use Rattle.rep_schema.specs.Kinds.{is_some_and, is_stamp, is_site_kind, is_filled, has_kind, has_place}
use Rattle.rep_schema.specs.Putting.{after_changes}
use Rattle.rep_schema.proofs.Coverage.{Contains-named}
use Rattle.rep_schema.proofs.GroupShapes.{group_columns_of-named}
use Rattle.schema_rules.specs.declared.forms.Form.TheVariants as form
use Rattle.schema_rules.specs.Forms.{extreme_of, own_column, latest_by, form_by}
use Rattle.rep_calls.specs.declared.call.Part.{Part}
use Rattle.rep_calls.specs.declared.statement.Statement.{Statement}
use Rattle.conflict_detect.specs.ChangeCalls.{call_between, call_of}
use Rattle.txn_effects.specs.Contents.{content_after}
use Rattle.txn_effects.specs.declared.local.Here.{Here}
use Rattle.txn_effects.specs.declared.local.Stamps.{Stamps}
use Rattle.txn_effects.specs.Convergent.{is_convergent}
use Rattle.txn_effects.specs.Filled.{filling_value, is_modified, has_stamp_from}
use Rattle.local_txn.specs.Laws.{gives_stamp, CarriesStamp, StampsRise, StampsOfABlockRise}
use Rattle.txn_effects.specs.Locals.{BlockEffect, local_effect}
use Rattle.rep_laws.specs.Commuting.{IsSound}
use Rattle.rep_laws.proofs.SoundSchemas.{HasKeys-sound, KeysStandAlone-sound}
use Rattle.rep_lists.specs.Counting.{count_where}
use Rattle.site_state.proofs.FittingBlocks.{block_applied}
use Rattle.rep_laws.specs.GroupForms.{form_in, form_at, value_of}
use Rattle.convergence_laws.specs.Joins.{is_row}
use Rattle.convergence_laws.proofs.GroupColumns.{value_of-values_at}
use Rattle.rep_laws.proofs.FormShapes.{form_at-named, IsShaped-form_at, IsOfKind-form_at}
use Rattle.convergence_laws.proofs.Moves.{DecisionLaws, within_row}
use Rattle.rep_laws.proofs.ConvergentRows.{StandsAlone-convergent}
use Rattle.convergence_laws.proofs.CallsCome.{txn_comes}
use Rattle.error_cause_laws.proofs.OneTimeWrites.{OneTimeWrite, Makes, writes_in}
use Rattle.error_cause_laws.proofs.Moving.{rise_up}
use Rattle.error_cause_laws.proofs.Values.{passing, Passes, passing_comes, passing_onward, parts_of_group, group_once}

-- ---- the columns of a stamp and its site

-- the site of a form is a SITE column
site_of_form : (columns : List Column) (places : List ℕ) (methods : List Method) (at by : ℕ) → form_by columns places methods ≡ Some (form.Latest at by) → has_kind is_site_kind columns by ≡ true
site_of_form columns places [] at by is = cc
site_of_form columns places (only ∷ []) at by is = go _ is
  where
    go : (b : Bool) → cond b (Some form.Sum) None ≡ Some (form.Latest at by) → has_kind is_site_kind columns by ≡ true
    go true e = cc
    go false e = cc
site_of_form columns places (first ∷ second ∷ []) at by is = go _ _ _ is
  where
    no_extreme : (m : Method) → extreme_of m ≡ Some (form.Latest at by) → ⊥
    no_extreme (method.Latest d) e = cc
    no_extreme (method.Earliest d) e = cc
    no_extreme method.Overwrite e = cc
    no_extreme method.Discard e = cc
    no_extreme method.Additive e = cc
    no_extreme method.Average e = cc
    no_extreme (method.Maximum d) e = cc
    no_extreme (method.Minimum d) e = cc
    no_extreme (method.Priority d g) e = cc
    no_extreme (method.SitePriority d) e = cc

    own : (o : Option ℕ) → own_column is_site_kind columns places o ≡ Some by → has_kind is_site_kind columns by ≡ true
    own None e = cc
    own (Some d) e = both (has_place places d) (has_kind is_site_kind columns d) refl e
      where
        both : (a b : Bool) → has_kind is_site_kind columns d ≡ b → cond (a && b) (Some d) None ≡ Some by → has_kind is_site_kind columns by ≡ true
        both true true holds e = let same : d ≡ by = cc in rw (← same) holds
        both true false holds e = cc
        both false b holds e = cc

    latest : (a b : Option ℕ) → latest_by a b ≡ Some (form.Latest at by) → b ≡ Some by
    latest None b e = cc
    latest (Some s) None e = cc
    latest (Some s) (Some t) e = cc

    go : (b : Bool) (a o : Option ℕ) → cond b (extreme_of first) (latest_by a (own_column is_site_kind columns places o)) ≡ Some (form.Latest at by) → has_kind is_site_kind columns by ≡ true
    go true a o e = absurd (no_extreme first e)
    go false a o e = own o (latest a (own_column is_site_kind columns places o) e)
site_of_form columns places (first ∷ second ∷ third ∷ methods) at by is = cc

column_at : (test : Kind → Bool) (columns : List Column) (k : ℕ) → has_kind test columns k ≡ true → (c : Column) × (slice_get columns k ≡ Some c) × (test c.kind ≡ true)
column_at test columns k has = go (slice_get columns k) refl has
  where
    go : (o : Option Column) → slice_get columns k ≡ o → is_some_and test (option_map (λ c. c.kind) o) ≡ true → (c : Column) × (slice_get columns k ≡ Some c) × (test c.kind ≡ true)
    go None there e = cc
    go (Some c) there e = (c, there, e)

-- what holds of all places holds of one among them
place_holds : (P : ℕ → Type 0) (places : List ℕ) (p : ℕ) → AllByRecursion P places → has_place places p ≡ true → P p
place_holds P [] p all there = cc
place_holds P (q ∷ qs) p all there = go (q == p) refl there (place_holds P qs p all.1)
  where
    go : (b : Bool) → (q == p) ≡ b → (b || has_place qs p) ≡ true → (has_place qs p ≡ true → P p) → P p
    go true is there later = subst P (eqb-true q p is) all.0
    go false is there later = later there

-- what passes two tests is found among those that pass one
any_among : (test keeps : ℕ → Bool) (xs : List ℕ) (g i : ℕ) → i < length xs → get_or xs i g ≡ g → keeps g ≡ true → test g ≡ true → list_any test (filter keeps xs) ≡ true
any_among test keeps [] g i within is kept passes = absurd (omega (arith, within))
any_among test keeps (x ∷ xs) g zero within is kept passes = rw (is, kept, passes) refl
any_among test keeps (x ∷ xs) g (suc i) within is kept passes = go (keeps x) (any_among test keeps xs g i (omega (arith, within)) is kept passes)
  where
    or_true : (b : Bool) → (b || true) ≡ true
    or_true true = refl
    or_true false = refl

    go : (b : Bool) → list_any test (filter keeps xs) ≡ true → list_any test (cond b (x ∷ filter keeps xs) (filter keeps xs)) ≡ true
    go true later = rw later (or_true (test x))
    go false later = later

-- a STAMP column at a chosen place is one
stamp_chosen : (chosen : ℕ → Bool) (n : ℕ) (columns : List Column) (k : ℕ) → has_kind is_stamp columns k ≡ true → chosen (n + k) ≡ true → has_stamp_from chosen n columns ≡ true
stamp_chosen chosen n [] k stamp there = cc
stamp_chosen chosen n (c ∷ cs) zero stamp there = let here : n + 0 ≡ n = omega arith in rw (rw here at there, stamp) refl
stamp_chosen chosen n (c ∷ cs) (suc k) stamp there =
    let next : n + suc k ≡ n + 1 + k = omega arith in
    rw (stamp_chosen chosen (n + 1) cs k stamp (rw next at there)) (or_true (chosen n && is_stamp c.kind))
  where
    or_true : (b : Bool) → (b || true) ≡ true
    or_true true = refl
    or_true false = refl

module _ (schema : Schema) (sound : IsSound schema) (decides : DecisionLaws) (table : ℕ) (convergent : is_convergent schema table ≡ true) (key : Cells) (group at by : ℕ)
    (has : form_at schema table group ≡ Some (form.Latest at by)) where
  abbrev places : List ℕ
  places = group_columns_of schema table group

  abbrev columns : List Column
  columns = columns_of schema table

  stamp_kind : has_kind is_stamp columns at ≡ true
  stamp_kind = IsOfKind-form_at schema sound table group (form.Latest at by) has

  site_kind : has_kind is_site_kind columns by ≡ true
  site_kind =
      let named = form_at-named schema sound table group (form.Latest at by) has in
      site_of_form columns named.0.columns named.0.methods at by (sym (ap (form_in columns) named.1) ∙ has)

  has_stamp : has_place places at ≡ true
  has_stamp = (IsShaped-form_at schema sound table group (form.Latest at by) has).has_stamp

  has_site : has_place places by ≡ true
  has_site = (IsShaped-form_at schema sound table group (form.Latest at by) has).has_site

  off_key : IfSome (slice_get columns by) (λ column. column.key ≡ false)
  off_key =
      let named = form_at-named schema sound table group (form.Latest at by) has in
      let all = KeysStandAlone-sound schema sound.unbroken table (StandsAlone-convergent schema sound table convergent).below group in
      place_holds (λ place. IfSome (slice_get columns place) (λ column. column.key ≡ false)) places by
      (subst (AllByRecursion (λ place. IfSome (slice_get columns place) (λ column. column.key ≡ false))) (sym (group_columns_of-named schema table group named.2)) all) has_site

  -- a row that carries a stamp and a site's name in the group
  record IsCarried (row : Cells) (stamp : ℕ) (site : SiteName) : Type 0 where
    stamped : value_of places (values_at places row) at ≡ Some (Num (pos stamp))
    sited : value_of places (values_at places row) by ≡ Some (Words site.0)

  -- what is filled in at both places is carried
  carried : (row : Cells) (stamp : ℕ) (site : SiteName) → RowFits columns row
      → ((column : Column) → slice_get columns at ≡ Some column → is_filled column ≡ true → slice_get row at ≡ Some (filling_value (record { stamp = stamp; site = site }) column))
      → ((column : Column) → slice_get columns by ≡ Some column → is_filled column ≡ true → slice_get row by ≡ Some (filling_value (record { stamp = stamp; site = site }) column))
      → IsCarried row stamp site
  carried row stamp site fits at_stamp at_site =
      let c = column_at is_stamp columns at stamp_kind in
      let d = column_at is_site_kind columns by site_kind in
      let off : d.0.key ≡ false = subst (λ o. IfSome o (λ column. column.key ≡ false)) d.1 off_key in
      record {
        stamped = value_of-values_at places row at (within_row schema sound table group (form.Latest at by) has row fits) has_stamp ∙ at_stamp c.0 c.1 (rw c.2 refl) ∙ (rw c.2 refl);
        sited = value_of-values_at places row by (within_row schema sound table group (form.Latest at by) has row fits) has_site ∙ at_site d.0 d.1 (filled d.0.kind d.0.key d.2 off) ∙ ap (λ b. Some (cond b (Num (pos stamp)) (Words site.0))) (no_stamp d.0.kind d.2);
      }
    where
      filled : (k : Kind) (b : Bool) → is_site_kind k ≡ true → b ≡ false → (is_stamp k || (is_site_kind k && not b)) ≡ true
      filled kind.Number b is off = cc
      filled kind.Words b is off = cc
      filled kind.Date b is off = cc
      filled kind.Stamp b is off = cc
      filled kind.Site b is off = rw off refl

      no_stamp : (k : Kind) → is_site_kind k ≡ true → is_stamp k ≡ false
      no_stamp kind.Number is = cc
      no_stamp kind.Words is = cc
      no_stamp kind.Date is = cc
      no_stamp kind.Stamp is = cc
      no_stamp kind.Site is = refl

  -- a place of the group is modified where the group differs
  modified : (before after : Cells) (place : ℕ) → differ_in schema table before after group ≡ true → has_place places place ≡ true → is_modified schema table before after place ≡ true
  modified before after place differ there =
      let named = form_at-named schema sound table group (form.Latest at by) has in
      let member = Contains-named schema table group (slice_get_within (groups_of schema table) group named.0 named.1) in
      any_among (λ g. has_place (group_columns_of schema table g) place) (differ_in schema table before after) (group_numbers_of schema table) group member.0 member.1 member.2 differ there

  module _ (test : Cells → Bool) where
    abbrev count : Change → ℕ
    count change = passing schema sound decides table convergent key group at by has test (call_of schema change)

    -- what a site's own change makes: one list of values at most, and they carry its stamp and name
    record OwnMakes (change : Change) (stamp : ℕ) (site : SiteName) : Type 0 where
      few : count change ≤ 1
      made_by : 1 ≤ count change → (row : Cells) × (test (values_at places row) ≡ true) × IsCarried row stamp site × (gives_stamp schema change ≡ true)

    own_makes : (change : Change) (stamp : ℕ) (site : SiteName) → CarriesStamp schema (record { stamp = stamp; site = site }) change → IfSome change.after (λ row. RowFits (columns_of schema change.table) row)
        → OwnMakes change stamp site
    own_makes change stamp site carries fits = go change.table change.before change.after carries fits
      where
        at_change : ℕ → Option Cells → Option Cells → Change
        at_change t before after = record { table = t; before = before; after = after }

        none : (t : ℕ) (before after : Option Cells) → passing schema sound decides table convergent key group at by has test (call_between schema t before after) ≡ 0 → OwnMakes (record { table = t; before = before; after = after }) stamp site
        none t before after zero_is = record { few = omega (arith, zero_is); made_by = λ some. absurd (omega (arith, some, zero_is)) }

        nothing : (b : Bool) (f : Part → Cells) → 0 + count_where test (map f (cond b [] [])) ≡ 0
        nothing true f = omega arith
        nothing false f = omega arith

        new_row : (row : Cells) → CarriesStamp schema (record { stamp = stamp; site = site }) (record { table = table; before = None; after = Some row }) → RowFits columns row → (b : Bool) → test (values_at places row) ≡ b
            → (cond b (count_where test [] + 1) (count_where test []) ≤ 1)
            × (1 ≤ cond b (count_where test [] + 1) (count_where test []) → (row : Cells) × (test (values_at places row) ≡ true) × IsCarried row stamp site × (gives_stamp schema (record { table = table; before = None; after = Some row }) ≡ true))
        new_row row carries fits true passes = (omega arith, λ some. (row, passes, carried row stamp site fits (carries at) (carries by), stamp_chosen (λ place. true) 0 columns at stamp_kind refl))
        new_row row carries fits false passes = (omega arith, λ some. absurd (omega (arith, some)))

        inserted : (row : Cells) → CarriesStamp schema (record { stamp = stamp; site = site }) (record { table = table; before = None; after = Some row }) → RowFits columns row
            → (b : Bool) → is_row table key table (key_of columns row) ≡ b → OwnMakes (record { table = table; before = None; after = Some row }) stamp site
        inserted row carries fits false off = none table None (Some row) (rw off (omega arith))
        inserted row carries fits true on =
            let one = new_row row carries fits (test (values_at places row)) refl in
            let less = one.0 in
            record { few = rw on (omega (arith, less)); made_by = λ some. one.1 (let more = rw on at some in omega (arith, more)) }

        updated : (before after : Cells) → CarriesStamp schema (record { stamp = stamp; site = site }) (record { table = table; before = Some before; after = Some after }) → RowFits columns after
            → (b : Bool) → is_row table key table (key_of columns before) ≡ b → OwnMakes (record { table = table; before = Some before; after = Some after }) stamp site
        updated before after carries fits false off = none table (Some before) (Some after) (rw off (omega arith))
        updated before after carries fits true on =
            let parts = parts_of_group schema sound decides table convergent key group at by has test before after (group_numbers_of schema table) in
            let less = parts.few in
            let once = group_once schema sound decides table convergent key group at by has test in
            record {
              few = rw on (omega (arith, less, once));
              made_by = λ some.
                  let more = rw on at some in
                  let makes = parts.makes (omega (arith, more)) in (
                    after,
                    makes.0,
                    carried after stamp site fits (carries.0 at (modified before after at makes.1 has_stamp)) (carries.0 by (modified before after by makes.1 has_site)),
                    stamp_chosen (is_modified schema table before after) 0 columns at stamp_kind (rw zero-add (modified before after at makes.1 has_stamp)),
                  );
            }

        here : (before after : Option Cells) → CarriesStamp schema (record { stamp = stamp; site = site }) (record { table = table; before = before; after = after }) → IfSome after (λ row. RowFits columns row)
            → OwnMakes (record { table = table; before = before; after = after }) stamp site
        here None None carries fits = none table None None (nothing (is_row table key table []) (λ part. part.new))
        here None (Some row) carries fits = inserted row carries fits (is_row table key table (key_of columns row)) refl
        here (Some before) None carries fits = none table (Some before) None (omega arith)
        here (Some before) (Some after) carries fits = updated before after carries fits (is_row table key table (key_of columns before)) refl

        away : (t : ℕ) → (t == table) ≡ false → (before after : Option Cells) → passing schema sound decides table convergent key group at by has test (call_between schema t before after) ≡ 0
        away t off None None = nothing (is_row table key t []) (λ part. part.new)
        away t off None (Some row) = rw off (omega arith)
        away t off (Some before) None = omega arith
        away t off (Some before) (Some after) = rw off (omega arith)

        go : (t : ℕ) (before after : Option Cells) → CarriesStamp schema (record { stamp = stamp; site = site }) (record { table = t; before = before; after = after }) → IfSome after (λ row. RowFits (columns_of schema t) row)
            → OwnMakes (record { table = t; before = before; after = after }) stamp site
        go t before after carries fits = elim (eqb_tells t table) [
          | inl same ↦
              subst (λ u. CarriesStamp schema (record { stamp = stamp; site = site }) (record { table = u; before = before; after = after }) → IfSome after (λ row. RowFits (columns_of schema u) row) → OwnMakes (record { table = u; before = before; after = after }) stamp site)
              (sym same.1) (here before after) carries fits
          | inr apart ↦ none t before after (away t apart.0 before after)
        ]

    -- where nothing that carries a stamp and the site's name passes, a block makes nothing that does
    pub none_made : (site : SiteName) → ((row : Cells) (stamp : ℕ) → value_of places (values_at places row) at ≡ Some (Num (pos stamp)) → value_of places (values_at places row) by ≡ Some (Words site.0) → test (values_at places row) ≡ true → ⊥)
        → (low high : ℕ) (changes : List Change) (tables later : List Rows) → LeadsTo schema changes tables later → StampsRise schema site low high changes
        → writes_in (passing schema sound decides table convergent key group at by has test) (map (call_of schema) changes) ≡ 0
    none_made site never low high [] tables later leads rise = refl
    none_made site never low high (c ∷ cs) tables later leads rise = go (gives_stamp schema c) rise.2 (λ n more. none_made site never n high cs (after_change schema c tables) later leads.1 more)
      where
        own : OwnMakes c rise.0 site
        own = own_makes c rise.0 site rise.1 leads.0.fits

        here : (n : ℕ) → count c ≡ n → n ≡ 0
        here zero is = refl
        here (suc n) is = let some = own.made_by (rw is (omega arith)) in absurd (never some.0 rise.0 some.2.stamped some.2.sited some.1)

        go : (b : Bool) → MatchBool b ((low < rise.0) × StampsRise schema site rise.0 high cs) (StampsRise schema site low high cs)
            → ((n : ℕ) → StampsRise schema site n high cs → writes_in (passing schema sound decides table convergent key group at by has test) (map (call_of schema) cs) ≡ 0)
            → writes_in (passing schema sound decides table convergent key group at by has test) (map (call_of schema) (c ∷ cs)) ≡ 0
        go true more rest = let none = here (count c) refl in let later_none = rest rise.0 more.1 in omega (arith, none, later_none)
        go false more rest = let none = here (count c) refl in let later_none = rest low more in omega (arith, none, later_none)

  -- ---- one pair of a stamp and a site

  abbrev pub is_value : Option Value → Value → Bool
  is_value None v = false
  is_value (Some u) v = value_eq u v

  abbrev pub is_pair : ℕ → SiteName → Cells → Bool
  is_pair stamp site values = is_value (value_of places values at) (Num (pos stamp)) && is_value (value_of places values by) (Words site.0)

  -- values that are the pair have both
  pub pair_has : (stamp : ℕ) (site : SiteName) (values : Cells) → is_pair stamp site values ≡ true → (value_of places values at ≡ Some (Num (pos stamp))) × (value_of places values by ≡ Some (Words site.0))
  pair_has stamp site values is = go (value_of places values at) (value_of places values by) is
    where
      both : (a b : Bool) → (a && b) ≡ true → (a ≡ true) × (b ≡ true)
      both true b e = (refl, e)
      both false b e = cc

      one : (o : Option Value) (v : Value) → is_value o v ≡ true → o ≡ Some v
      one None v e = cc
      one (Some u) v e = ap (λ w. Some w) ((value_eq-Decides u v).0 e)

      go : (a b : Option Value) → (is_value a (Num (pos stamp)) && is_value b (Words site.0)) ≡ true → (a ≡ Some (Num (pos stamp))) × (b ≡ Some (Words site.0))
      go a b e = let parts = both (is_value a (Num (pos stamp))) (is_value b (Words site.0)) e in (one a (Num (pos stamp)) parts.0, one b (Words site.0) parts.1)

  -- values that have both are the pair
  pub has_pair : (stamp : ℕ) (site : SiteName) (values : Cells) → value_of places values at ≡ Some (Num (pos stamp)) → value_of places values by ≡ Some (Words site.0) → is_pair stamp site values ≡ true
  has_pair stamp site values stamped sited = rw (stamped, sited, (value_eq-Decides (Num (pos stamp)) (Num (pos stamp))).1 refl, (value_eq-Decides (Words site.0) (Words site.0)).1 refl) refl

  module _ (stamp : ℕ) (owner : SiteName) where
    abbrev pub pairs_of : List Change → ℕ
    pairs_of changes = writes_in (passing schema sound decides table convergent key group at by has (is_pair stamp owner)) (map (call_of schema) changes)

    -- how often a block makes it, and between which stamps
    record Bound (site : SiteName) (low high n : ℕ) : Type 0 where
      once : n ≤ 1
      made_within : 1 ≤ n → (low < stamp) × (stamp ≤ high) × (owner ≡ site)

    bound : (site : SiteName) (low high : ℕ) (changes : List Change) (tables later : List Rows) → LeadsTo schema changes tables later → StampsRise schema site low high changes → Bound site low high (pairs_of changes)
    bound site low high [] tables later leads rise = record { once = omega arith; made_within = λ some. absurd (omega (arith, some)) }
    bound site low high (c ∷ cs) tables later leads rise = go (gives_stamp schema c) refl rise.2 (λ n more. bound site n high cs (after_change schema c tables) later leads.1 more) (count (is_pair stamp owner) c) refl
      where
        own : OwnMakes (is_pair stamp owner) c rise.0 site
        own = own_makes (is_pair stamp owner) c rise.0 site rise.1 leads.0.fits

        -- what the change makes
        is : 1 ≤ count (is_pair stamp owner) c → (stamp ≡ rise.0) × (owner ≡ site) × (gives_stamp schema c ≡ true)
        is some =
            let m = own.made_by some in
            let both = pair_has stamp owner (values_at places m.0) m.1 in
            let stamps : Some (Num (pos stamp)) ≡ Some (Num (pos rise.0)) = sym both.0 ∙ m.2.stamped in
            let sites : Some (Words owner.0) ≡ Some (Words site.0) = sym both.1 ∙ m.2.sited in
            (same_stamp stamps, same_site sites, m.3)
          where
            same_stamp : {a b : ℕ} → Some (Num (pos a)) ≡ Some (Num (pos b)) → a ≡ b
            same_stamp e = cc e

            same_text : {a b : List ℕ} → Some (Words a) ≡ Some (Words b) → a ≡ b
            same_text e = cc e

            same_site : Some (Words owner.0) ≡ Some (Words site.0) → owner ≡ site
            same_site e = ap (λ t. record { 0 = t }) (same_text e)

        go : (b : Bool) → gives_stamp schema c ≡ b → MatchBool b ((low < rise.0) × StampsRise schema site rise.0 high cs) (StampsRise schema site low high cs) → ((n : ℕ) → StampsRise schema site n high cs → Bound site n high (pairs_of cs))
            → (n : ℕ) → count (is_pair stamp owner) c ≡ n → Bound site low high (pairs_of (c ∷ cs))
        go true gives more rest zero none =
            let later_bound = rest rise.0 more.1 in
            let less = more.0 in
            let once = later_bound.once in
            record {
              once = omega (arith, none, once);
              made_within = λ some. let within = later_bound.made_within (omega (arith, none, some)) in (omega (arith, less, within.0), within.1, within.2);
            }
        go true gives more rest (suc n) some_here =
            let m = is (rw some_here (omega arith)) in
            let later_bound = rest rise.0 more.1 in
            let less = more.0 in
            let few = own.few in
            let up = rise_up schema site rise.0 high cs more.1 in
            let none = not_again m.0 (pairs_of cs) refl later_bound in
            record {
              once = omega (arith, few, none);
              made_within = λ some. (let same = m.0 in omega (arith, same, less), let same = m.0 in omega (arith, same, up), m.1);
            }
          where
            not_again : stamp ≡ rise.0 → (n : ℕ) → pairs_of cs ≡ n → Bound site rise.0 high (pairs_of cs) → pairs_of cs ≡ 0
            not_again same zero none later_bound = none
            not_again same (suc n) some later_bound = let within = later_bound.made_within (rw some (omega arith)) in absurd (omega (arith, same, within.0))
        go false gives more rest zero none =
            let later_bound = rest low more in
            let once = later_bound.once in
            record { once = omega (arith, none, once); made_within = λ some. later_bound.made_within (omega (arith, none, some)) }
        go false gives more rest (suc n) some_here = absurd (true≢false (sym (is (rw some_here (omega arith))).2 ∙ gives))

    -- ---- the sign

    abbrev row_of : List Rows → Option Cells
    row_of tables = find_row (columns_of schema table) key (rows_of tables table)

    abbrev HasPair : List Rows → Type 0
    HasPair tables = Passes schema sound decides table convergent key group at by has (is_pair stamp owner) (row_of tables)

    pub makes_pair : StampsOfABlockRise → (here : Here) (stamps : Stamps) (statements : List Statement) (tables : List Rows) (block : BlockEffect) → AreTables schema tables → local_effect schema here stamps statements tables ≡ Ok block
        → Makes owner (λ master ts last. stamp ≤ last) here stamps.last block.stamps.last tables (after_changes schema block.changes tables) (pairs_of block.changes)
    makes_pair rises here stamps statements tables block are gives =
        let leads = (block_applied schema (record { shape = sound.shape; keys = HasKeys-sound schema sound.unbroken sound.shape; apart = KeysStandAlone-sound schema sound.unbroken }) here stamps statements tables block are gives).leads in
        let rise = (rises schema here stamps statements tables block sound.shape are gives).rise in
        let b = bound here.site stamps.last block.stamps.last block.changes tables (after_changes schema block.changes tables) leads rise in
        record {
          once = b.once;
          own = λ some. (b.made_within some).2;
          fresh = λ some already. let within = b.made_within some in omega (arith, already, within.0);
          made = λ some. (b.made_within some).1;
        }

    abbrev pub latest_sign : StampsOfABlockRise → OneTimeWrite schema
    latest_sign rises = record {
      owner = owner;
      count = passing schema sound decides table convergent key group at by has (is_pair stamp owner);
      Present = HasPair;
      Already = λ master tables last. stamp ≤ last;
      Given = λ tables. stamp ≡ 0;
      comes = λ origin txn content effect is txn_sound gives there.
          passing_comes schema sound decides table convergent key group at by has (is_pair stamp owner) (row_of content.tables) (row_of (content_after schema origin txn content).tables) txn.calls
          (txn_comes schema sound decides table group convergent key txn content origin effect is txn_sound.fits txn_sound.keeps gives) there;
      onward = λ origin txn content effect is txn_sound gives. passing_onward schema sound decides table convergent key group at by has (is_pair stamp owner) origin txn content effect is txn_sound gives;
      stays = λ origin txn content effect is txn_sound gives master last already. already;
      still = λ origin txn content effect is txn_sound gives given. given;
      later = λ master tables low high less already. omega (arith, less, already);
      elsewhere = λ tables others last already. already;
      makes = makes_pair rises;
      given = λ master tables last none. omega (arith, none);
    }
