-- What a sound schema says of a group that has a form: its methods and the columns that they name.
use Rattle.std.proofs.Common.{◌≡◌, ◌≢◌, ℕ, zero, suc, ◌==◌, Bool, true, false, cond, List, [], ◌∷◌, length, Some, None, refl, ap, ◌∙◌, arith}
use Rattle.std.specs.Prelude.{Option, ◌&&◌, ◌||◌, slice_get}
use Rattle.std.specs.List.{list_all}
use Rattle.std.proofs.lemmas.Bool.{eqb-true, ne_eqb}
use Rattle.std.proofs.lemmas.Option.{slice_get_within}
use Rattle.rep_schema.specs.declared.schema.Schema.{Schema}
use Rattle.rep_schema.specs.declared.schema.TableEntry.{TableEntry}
use Rattle.rep_schema.specs.declared.schema.Column.{Column}
use Rattle.rep_schema.specs.declared.schema.Group.{Group}
use Rattle.rep_schema.specs.declared.schema.Kind.{Kind}
use Rattle.rep_schema.specs.declared.schema.Kind.TheVariants as kind
use Rattle.rep_schema.specs.declared.schema.Method.{Method}
use Rattle.rep_schema.specs.declared.schema.Method.TheVariants as method
use Rattle.rep_schema.specs.Tables.{columns_of}
use Rattle.rep_schema.specs.Groups.{shadow_group, groups_in, groups_of, named_columns, group_columns_of}
use Rattle.rep_schema.specs.Kinds.{is_some_and, is_none_or, is_number, is_stamp, is_site_kind, takes_numbers, kind_at, has_kind, has_place}
use Rattle.rep_schema.specs.Shape.{method_column}
use Rattle.rep_schema.proofs.GroupShapes.{group_columns_of-named, length-groups_of}
use Rattle.schema_rules.specs.declared.forms.Form.{Form}
use Rattle.schema_rules.specs.declared.forms.Form.TheVariants as form
use Rattle.schema_rules.specs.Forms.{is_additive, is_discard, latest_column, extreme_of, own_column, latest_by, latest_form, form_by}
use Rattle.schema_rules.specs.MethodRules.{names_own_columns, is_one_number, site_column}
use Rattle.schema_rules.proofs.SoundRules.{KeepsAllRules-unbroken}
use Rattle.resolve_methods.specs.Decide.{methods_in, methods_of}
use Rattle.resolve_methods.specs.SequenceLaws.{sum_methods, greatest_methods, least_methods, newest_methods, IsOfOneNumber}
use Rattle.rep_laws.specs.Commuting.{IsSound}
use Rattle.rep_laws.specs.GroupForms.{form_in, form_at}

-- a group with a stamp and a site, of which the latest values stay
pub record IsLatest (schema : Schema) (table group stamp site : ℕ) : Type 0 where
  pub numbers : has_kind takes_numbers (columns_of schema table) stamp ≡ true
  pub methods : methods_of schema table group ≡ newest_methods stamp site
  pub has_stamp : has_place (group_columns_of schema table group) stamp ≡ true
  pub has_site : has_place (group_columns_of schema table group) site ≡ true

-- what a form says of a group
abbrev pub IsShaped : Schema → ℕ → ℕ → Form → Type 0
IsShaped schema table group form.Sum = (column : ℕ) × IsOfOneNumber schema table group column sum_methods
IsShaped schema table group (form.Greatest column) = IsOfOneNumber schema table group column (greatest_methods column)
IsShaped schema table group (form.Least column) = IsOfOneNumber schema table group column (least_methods column)
IsShaped schema table group (form.Latest stamp site) = IsLatest schema table group stamp site

-- the kind of the column that a form goes by
abbrev pub IsOfKind : Schema → ℕ → Form → Type 0
IsOfKind schema table form.Sum = Unit {0}
IsOfKind schema table (form.Greatest column) = has_kind is_number (columns_of schema table) column ≡ true
IsOfKind schema table (form.Least column) = has_kind is_number (columns_of schema table) column ≡ true
IsOfKind schema table (form.Latest stamp site) = has_kind is_stamp (columns_of schema table) stamp ≡ true

-- ---- of columns and methods alone

both_hold : (a b : Bool) → (a && b) ≡ true → (a ≡ true) × (b ≡ true)
both_hold true b holds = (refl, holds)
both_hold false b holds = cc

some_where : {X : Type 0} (b : Bool) (x y : X) → cond b (Some x) None ≡ Some y → (b ≡ true) × (x ≡ y)
some_where true x y is = (refl, cc)
some_where false x y is = cc

only_place : (p c : ℕ) → has_place (p ∷ []) c ≡ true → p ≡ c
only_place p c has = eqb-true p c (first (p == c) has)
  where
    first : (b : Bool) → (b || false) ≡ true → b ≡ true
    first true e = refl
    first false e = cc

has_numbers : (test : Kind → Bool) (columns : List Column) (place : ℕ) → ((k : Kind) → test k ≡ true → takes_numbers k ≡ true) → has_kind test columns place ≡ true → has_kind takes_numbers columns place ≡ true
has_numbers test columns place every has = go (kind_at columns place) has
  where
    go : (k : Option Kind) → is_some_and test k ≡ true → is_some_and takes_numbers k ≡ true
    go None e = cc
    go (Some k) e = every k e

number_kind : (k : Kind) → is_number k ≡ true → takes_numbers k ≡ true
number_kind kind.Number e = refl
number_kind kind.Words e = cc
number_kind kind.Date e = cc
number_kind kind.Stamp e = cc
number_kind kind.Site e = cc

stamp_kind : (k : Kind) → is_stamp k ≡ true → takes_numbers k ≡ true
stamp_kind kind.Number e = cc
stamp_kind kind.Words e = cc
stamp_kind kind.Date e = cc
stamp_kind kind.Stamp e = refl
stamp_kind kind.Site e = cc

one_place : (columns : List Column) (places : List ℕ) → is_one_number columns places ≡ true → (c : ℕ) × (places ≡ c ∷ []) × (has_kind is_number columns c ≡ true)
one_place columns [] one = cc
one_place columns (c ∷ []) one = (c, refl, (both_hold (has_kind is_number columns c) true one).0)
one_place columns (c ∷ d ∷ places) one =
    let two = both_hold (length (c ∷ d ∷ places) == 1) (list_all (has_kind is_number columns) (c ∷ d ∷ places)) one in
    absurd (omega (arith, eqb-true (length (c ∷ d ∷ places)) 1 two.0))

additive_is : (m : Method) → is_additive m ≡ true → m ≡ method.Additive
additive_is (method.Latest c) e = cc
additive_is (method.Earliest c) e = cc
additive_is method.Overwrite e = cc
additive_is method.Discard e = cc
additive_is method.Additive e = refl
additive_is method.Average e = cc
additive_is (method.Maximum c) e = cc
additive_is (method.Minimum c) e = cc
additive_is (method.Priority c g) e = cc
additive_is (method.SitePriority c) e = cc

discard_is : (m : Method) → is_discard m ≡ true → m ≡ method.Discard
discard_is (method.Latest c) e = cc
discard_is (method.Earliest c) e = cc
discard_is method.Overwrite e = cc
discard_is method.Discard e = refl
discard_is method.Additive e = cc
discard_is method.Average e = cc
discard_is (method.Maximum c) e = cc
discard_is (method.Minimum c) e = cc
discard_is (method.Priority c g) e = cc
discard_is (method.SitePriority c) e = cc

latest_is : (m : Method) (c : ℕ) → latest_column m ≡ Some c → m ≡ method.Latest c
latest_is (method.Latest d) c e = cc
latest_is (method.Earliest d) c e = cc
latest_is method.Overwrite c e = cc
latest_is method.Discard c e = cc
latest_is method.Additive c e = cc
latest_is method.Average c e = cc
latest_is (method.Maximum d) c e = cc
latest_is (method.Minimum d) c e = cc
latest_is (method.Priority d g) c e = cc
latest_is (method.SitePriority d) c e = cc

site_is : (m : Method) (c : ℕ) → site_column m ≡ Some c → m ≡ method.SitePriority c
site_is (method.Latest d) c e = cc
site_is (method.Earliest d) c e = cc
site_is method.Overwrite c e = cc
site_is method.Discard c e = cc
site_is method.Additive c e = cc
site_is method.Average c e = cc
site_is (method.Maximum d) c e = cc
site_is (method.Minimum d) c e = cc
site_is (method.Priority d g) c e = cc
site_is (method.SitePriority d) c e = cc

-- the form that maximum or minimum brings
data Extreme (m : Method) (f : Form) : Type 0 where
  IsGreatest : (c : ℕ) → m ≡ method.Maximum c → f ≡ form.Greatest c → Extreme m f
  IsLeast : (c : ℕ) → m ≡ method.Minimum c → f ≡ form.Least c → Extreme m f

extreme_is : (m : Method) (f : Form) → extreme_of m ≡ Some f → Extreme m f
extreme_is (method.Latest d) f e = cc
extreme_is (method.Earliest d) f e = cc
extreme_is method.Overwrite f e = cc
extreme_is method.Discard f e = cc
extreme_is method.Additive f e = cc
extreme_is method.Average f e = cc
extreme_is (method.Maximum d) f e = IsGreatest d refl (cc)
extreme_is (method.Minimum d) f e = IsLeast d refl (cc)
extreme_is (method.Priority d g) f e = cc
extreme_is (method.SitePriority d) f e = cc

own_is : (test : Kind → Bool) (columns : List Column) (places : List ℕ) (o : Option ℕ) (c : ℕ) → own_column test columns places o ≡ Some c
    → (o ≡ Some c) × (has_place places c ≡ true) × (has_kind test columns c ≡ true)
own_is test columns places None c e = cc
own_is test columns places (Some d) c e =
    let there = some_where (has_place places d && has_kind test columns d) d c e in
    let both = both_hold (has_place places d) (has_kind test columns d) there.0 in
    rw (← there.1) (refl, both.0, both.1)

record Latest (a b : Option ℕ) (f : Form) : Type 0 where
  pub stamp : ℕ
  pub site : ℕ
  pub first : a ≡ Some stamp
  pub second : b ≡ Some site
  pub is : form.Latest stamp site ≡ f

by_is : (a b : Option ℕ) (f : Form) → latest_by a b ≡ Some f → Latest a b f
by_is None b f e = cc
by_is (Some stamp) None f e = cc
by_is (Some stamp) (Some site) f e = record { stamp = stamp; site = site; first = refl; second = refl; is = cc }

-- what a form says of columns, of a group's places among them, and of its methods
abbrev Shaped : List Column → List ℕ → List Method → Form → Type 0
Shaped columns places methods form.Sum = (c : ℕ) × (places ≡ c ∷ []) × (has_kind is_number columns c ≡ true) × (methods ≡ sum_methods)
Shaped columns places methods (form.Greatest c) = (places ≡ c ∷ []) × (has_kind is_number columns c ≡ true) × (methods ≡ greatest_methods c)
Shaped columns places methods (form.Least c) = (places ≡ c ∷ []) × (has_kind is_number columns c ≡ true) × (methods ≡ least_methods c)
Shaped columns places methods (form.Latest stamp site) = (has_kind is_stamp columns stamp ≡ true) × (methods ≡ newest_methods stamp site) × (has_place places stamp ≡ true) × (has_place places site ≡ true)

shaped_latest : (columns : List Column) (places : List ℕ) (first second : Method) (f : Form) (stamp site : ℕ) → form.Latest stamp site ≡ f → first ≡ method.Latest stamp → second ≡ method.SitePriority site
    → has_kind is_stamp columns stamp ≡ true → has_place places stamp ≡ true → has_place places site ≡ true → Shaped columns places (first ∷ second ∷ []) f
shaped_latest columns places first second f stamp site is one two kind has_stamp has_site =
    rw (← is, one, two) (kind, refl, has_stamp, has_site)

shaped_two : (columns : List Column) (places : List ℕ) (first second : Method) (f : Form) → list_all (λ m. is_none_or (has_place places) (method_column m)) (first ∷ second ∷ []) ≡ true
    → (b : Bool) → (is_one_number columns places && is_discard second) ≡ b → cond b (extreme_of first) (latest_form columns places first second) ≡ Some f
    → Shaped columns places (first ∷ second ∷ []) f
shaped_two columns places first second f own true one is =
    let both = both_hold (is_one_number columns places) (is_discard second) one in
    let place = one_place columns places both.0 in
    let discards = discard_is second both.1 in
    go (extreme_is first f is) (both_hold (is_none_or (has_place places) (method_column first)) _ own).0 place discards
  where
    go : Extreme first f → is_none_or (has_place places) (method_column first) ≡ true → (c : ℕ) × (places ≡ c ∷ []) × (has_kind is_number columns c ≡ true) → second ≡ method.Discard → Shaped columns places (first ∷ second ∷ []) f
    go (IsGreatest c m e) has place discards =
        let same : place.0 ≡ c = only_place place.0 c (rw (m, place.1) at has) in
        rw (e, m, discards) (place.1 ∙ ap (λ d. d ∷ []) same, rw (← same) place.2, refl)
    go (IsLeast c m e) has place discards =
        let same : place.0 ≡ c = only_place place.0 c (rw (m, place.1) at has) in
        rw (e, m, discards) (place.1 ∙ ap (λ d. d ∷ []) same, rw (← same) place.2, refl)
shaped_two columns places first second f own false one is =
    let both = by_is (own_column is_stamp columns places (latest_column first)) (own_column is_site_kind columns places (site_column second)) f is in
    let stamp = own_is is_stamp columns places (latest_column first) both.stamp both.first in
    let site = own_is is_site_kind columns places (site_column second) both.site both.second in
    shaped_latest columns places first second f both.stamp both.site both.is (latest_is first both.stamp stamp.0) (site_is second both.site site.0) stamp.2 stamp.1 site.1

shaped_by : (columns : List Column) (places : List ℕ) (methods : List Method) (f : Form) → list_all (λ m. is_none_or (has_place places) (method_column m)) methods ≡ true → form_by columns places methods ≡ Some f
    → Shaped columns places methods f
shaped_by columns places [] f own is = cc
shaped_by columns places (only ∷ []) f own is =
    let there = some_where (is_one_number columns places && is_additive only) form.Sum f is in
    let both = both_hold (is_one_number columns places) (is_additive only) there.0 in
    let place = one_place columns places both.0 in
    rw (← there.1, additive_is only both.1) (place.0, place.1, place.2, refl)
shaped_by columns places (first ∷ second ∷ []) f own is = shaped_two columns places first second f own (is_one_number columns places && is_discard second) refl is
shaped_by columns places (first ∷ second ∷ third ∷ methods) f own is = cc

-- ---- of a schema's group

-- what all pass, each that is found passes
pub passes : {X : Type 0} (test : X → Bool) (xs : List X) (i : ℕ) (x : X) → list_all test xs ≡ true → slice_get xs i ≡ Some x → test x ≡ true
passes test [] i x all found = cc
passes test (y ∷ ys) zero x all found = let same : y ≡ x = cc in rw (← same) (both_hold (test y) (list_all test ys) all).0
passes test (y ∷ ys) (suc i) x all found = passes test ys i x (both_hold (test y) (list_all test ys) all).1 found

module _ (schema : Schema) (sound : IsSound schema) (table group : ℕ) where
  own : (g : Group) → slice_get (groups_of schema table) group ≡ Some g → names_own_columns g ≡ true
  own g found = go (slice_get schema.tables table) refl found
    where
      go : (entry : Option TableEntry) → slice_get schema.tables table ≡ entry → slice_get (groups_in entry) group ≡ Some g → names_own_columns g ≡ true
      go None at found = cc
      go (Some entry) at found = passes names_own_columns entry.groups group g
          (passes (λ (t : TableEntry). list_all names_own_columns t.groups) schema.tables table entry ((KeepsAllRules-unbroken schema).1 sound.unbroken).own_columns at) found

  -- it is a named group
  pub form_at-named : (f : Form) → form_at schema table group ≡ Some f → (g : Group) × (slice_get (groups_of schema table) group ≡ Some g) × (group ≢ shadow_group)
  form_at-named f has = go (slice_get (groups_of schema table) group) refl has
    where
      go : (o : Option Group) → slice_get (groups_of schema table) group ≡ o → form_in (columns_of schema table) o ≡ Some f
          → (g : Group) × (slice_get (groups_of schema table) group ≡ Some g) × (group ≢ shadow_group)
      go None at is = cc
      go (Some g) at is =
          let few = length-groups_of schema sound.shape table in
          let within = slice_get_within (groups_of schema table) group g at in
          (g, at, omega (arith, few, within))

  shaped : (f : Form) → form_at schema table group ≡ Some f → (places : List ℕ) × (all : List Method) × (group_columns_of schema table group ≡ places) × (methods_of schema table group ≡ all) × Shaped (columns_of schema table) places all f
  shaped f has =
      let named = form_at-named f has in
      let g : Group = named.0 in
      let columns : group_columns_of schema table group ≡ g.columns = group_columns_of-named schema table group named.2 ∙ ap named_columns named.1 in
      let methods : methods_of schema table group ≡ g.methods = rw (ne_eqb group shadow_group named.2) (ap methods_in named.1) in
      (g.columns, g.methods, columns, methods, shaped_by (columns_of schema table) g.columns g.methods f (own g named.1) (rw named.1 at has))

  -- and it is as its form says
  pub IsShaped-form_at : (f : Form) → form_at schema table group ≡ Some f → IsShaped schema table group f
  IsShaped-form_at f has = let s = shaped f has in go f s.0 s.1 s.2 s.3 s.4
    where
      numbers : (c : ℕ) → has_kind is_number (columns_of schema table) c ≡ true → has_kind takes_numbers (columns_of schema table) c ≡ true
      numbers c is = has_numbers is_number (columns_of schema table) c number_kind is

      go : (f : Form) (places : List ℕ) (all : List Method) → group_columns_of schema table group ≡ places → methods_of schema table group ≡ all
          → Shaped (columns_of schema table) places all f → IsShaped schema table group f
      go form.Sum places all columns methods is = (is.0, record { columns = columns ∙ is.1; numbers = numbers is.0 is.2; methods = methods ∙ is.3 })
      go (form.Greatest c) places all columns methods is = record { columns = columns ∙ is.0; numbers = numbers c is.1; methods = methods ∙ is.2 }
      go (form.Least c) places all columns methods is = record { columns = columns ∙ is.0; numbers = numbers c is.1; methods = methods ∙ is.2 }
      go (form.Latest stamp site) places all columns methods is =
          record { numbers = has_numbers is_stamp (columns_of schema table) stamp stamp_kind is.0; methods = methods ∙ is.1; has_stamp = rw columns is.2; has_site = rw columns is.3 }

  -- the column that a form goes by is a NUMBER, or a STAMP
  pub IsOfKind-form_at : (f : Form) → form_at schema table group ≡ Some f → IsOfKind schema table f
  IsOfKind-form_at f has = let s = shaped f has in go f s.0 s.1 s.4
    where
      go : (f : Form) (places : List ℕ) (all : List Method) → Shaped (columns_of schema table) places all f → IsOfKind schema table f
      go form.Sum places all is = tt
      go (form.Greatest c) places all is = is.1
      go (form.Least c) places all is = is.1
      go (form.Latest stamp site) places all is = is.0
