-- The SITE column of a group whose latest values stay.
use Rattle.std.proofs.Common.{◌≡◌, ◌≢◌, ℕ, ◌==◌, Bool, true, false, cond, List, [], ◌∷◌, Some, None, refl}
use Rattle.std.specs.Prelude.{Option, ◌&&◌, ◌||◌, not, slice_get}
use Rattle.std.specs.Option.{option_map}
use Rattle.std.specs.List.{list_all}
use Rattle.std.proofs.lemmas.Bool.{eqb-true}
use Rattle.rep_schema.specs.declared.schema.Schema.{Schema}
use Rattle.rep_schema.specs.declared.schema.TableEntry.{TableEntry}
use Rattle.rep_schema.specs.declared.schema.Column.{Column}
use Rattle.rep_schema.specs.declared.schema.Group.{Group}
use Rattle.rep_schema.specs.declared.schema.Kind.{Kind}
use Rattle.rep_schema.specs.declared.schema.Kind.TheVariants as kind
use Rattle.rep_schema.specs.declared.schema.Method.{Method}
use Rattle.rep_schema.specs.declared.schema.Method.TheVariants as method
use Rattle.rep_schema.specs.Tables.{columns_of}
use Rattle.rep_schema.specs.Groups.{shadow_group, groups_in, groups_of}
use Rattle.rep_schema.specs.Kinds.{is_some_and, is_stamp, is_site_kind, has_kind, has_place, is_key_at, is_filled}
use Rattle.schema_rules.specs.declared.forms.Form.TheVariants as form
use Rattle.schema_rules.specs.Forms.{is_additive, is_discard, latest_column, extreme_of, own_column, latest_by, latest_form, form_by}
use Rattle.schema_rules.specs.KeyRules.{is_off_the_key}
use Rattle.schema_rules.specs.MethodRules.{is_one_number, site_column}
use Rattle.schema_rules.proofs.SoundRules.{KeepsAllRules-unbroken}
use Rattle.rep_laws.specs.Commuting.{IsSound}
use Rattle.rep_laws.specs.GroupForms.{form_at}
use Rattle.rep_laws.proofs.FormShapes.{form_at-named, passes}
use Rattle.rep_laws.proofs.ConvergentRows.{both_hold}

-- a place is a SITE, and one of these places
record IsSiteIn (columns : List Column) (places : List ℕ) (site : ℕ) : Type 0 where
  kind : has_kind is_site_kind columns site ≡ true
  place : has_place places site ≡ true

own_site : (columns : List Column) (places : List ℕ) (o : Option ℕ) (c : ℕ) → own_column is_site_kind columns places o ≡ Some c → IsSiteIn columns places c
own_site columns places None c e = cc
own_site columns places (Some d) c e = go (has_place places d && has_kind is_site_kind columns d) refl e
  where
    go : (b : Bool) → (has_place places d && has_kind is_site_kind columns d) ≡ b → cond b (Some d) None ≡ Some c → IsSiteIn columns places c
    go true is e =
        let same : d ≡ c = cc in
        let both = both_hold (has_place places d) (has_kind is_site_kind columns d) is in
        rw (← same) (record { kind = both.1; place = both.0 })
    go false is e = cc

latest_site : (columns : List Column) (places : List ℕ) (a b : Option ℕ) (stamp site : ℕ) → latest_by a b ≡ Some (form.Latest stamp site) → b ≡ Some site
latest_site columns places None b stamp site e = cc
latest_site columns places (Some s) None stamp site e = cc
latest_site columns places (Some s) (Some t) stamp site e = cc

no_extreme : (m : Method) (stamp site : ℕ) → extreme_of m ≡ Some (form.Latest stamp site) → ⊥
no_extreme (method.Latest d) stamp site e = cc
no_extreme (method.Earliest d) stamp site e = cc
no_extreme method.Overwrite stamp site e = cc
no_extreme method.Discard stamp site e = cc
no_extreme method.Additive stamp site e = cc
no_extreme method.Average stamp site e = cc
no_extreme (method.Maximum d) stamp site e = cc
no_extreme (method.Minimum d) stamp site e = cc
no_extreme (method.Priority d g) stamp site e = cc
no_extreme (method.SitePriority d) stamp site e = cc

site_by : (columns : List Column) (places : List ℕ) (methods : List Method) (stamp site : ℕ) → form_by columns places methods ≡ Some (form.Latest stamp site) → IsSiteIn columns places site
site_by columns places [] stamp site e = cc
site_by columns places (only ∷ []) stamp site e = go (is_one_number columns places && is_additive only) e
  where
    go : (b : Bool) → cond b (Some form.Sum) None ≡ Some (form.Latest stamp site) → IsSiteIn columns places site
    go true e = cc
    go false e = cc
site_by columns places (first ∷ second ∷ []) stamp site e = go (is_one_number columns places && is_discard second) e
  where
    go : (b : Bool) → cond b (extreme_of first) (latest_form columns places first second) ≡ Some (form.Latest stamp site) → IsSiteIn columns places site
    go true e = absurd (no_extreme first stamp site e)
    go false e = own_site columns places (site_column second) site
        (latest_site columns places (own_column is_stamp columns places (latest_column first)) (own_column is_site_kind columns places (site_column second)) stamp site e)
site_by columns places (first ∷ second ∷ third ∷ methods) stamp site e = cc

-- what all pass, a place among them passes
passes_at : (test : ℕ → Bool) (places : List ℕ) (p : ℕ) → list_all test places ≡ true → has_place places p ≡ true → test p ≡ true
passes_at test [] p all has = cc
passes_at test (q ∷ qs) p all has = go (q == p) refl has (passes_at test qs p both.1)
  where
    both : (test q ≡ true) × (list_all test qs ≡ true)
    both = both_hold (test q) (list_all test qs) all

    go : (b : Bool) → (q == p) ≡ b → (b || has_place qs p) ≡ true → (has_place qs p ≡ true → test p ≡ true) → test p ≡ true
    go true is has later = rw (← eqb-true q p is) both.0
    go false is has later = later has

module _ (schema : Schema) (sound : IsSound schema) (table group stamp own : ℕ) (has : form_at schema table group ≡ Some (form.Latest stamp own)) where
  -- it is a SITE that the site fills in
  pub own_is_filled : (c : Column) × (slice_get (columns_of schema table) own ≡ Some c) × (is_stamp c.kind ≡ false) × (is_filled c ≡ true)
  own_is_filled = column (slice_get (columns_of schema table) own) refl site.kind off_key
    where
      named : (g : Group) × (slice_get (groups_of schema table) group ≡ Some g) × (group ≢ shadow_group)
      named = form_at-named schema sound table group (form.Latest stamp own) has

      site : IsSiteIn (columns_of schema table) named.0.columns own
      site = site_by (columns_of schema table) named.0.columns named.0.methods stamp own (rw named.1 at has)

      off : (g : Group) → slice_get (groups_of schema table) group ≡ Some g → is_off_the_key (columns_of schema table) g ≡ true
      off g found = go (slice_get schema.tables table) refl found
        where
          go : (entry : Option TableEntry) → slice_get schema.tables table ≡ entry → slice_get (groups_in entry) group ≡ Some g → is_off_the_key (columns_of schema table) g ≡ true
          go None at found = cc
          go (Some entry) at found = rw at (passes (is_off_the_key entry.columns) entry.groups group g
              (passes (λ (t : TableEntry). list_all (is_off_the_key t.columns) t.groups) schema.tables table entry ((KeepsAllRules-unbroken schema).1 sound.unbroken).grouped_apart at) found)

      off_key : not (is_key_at (columns_of schema table) own) ≡ true
      off_key = passes_at (λ place. not (is_key_at (columns_of schema table) place)) named.0.columns own (off named.0 named.1) site.place

      plain : (k : Kind) (key : Bool) → is_site_kind k ≡ true → not key ≡ true → (is_stamp k ≡ false) × ((is_stamp k || (is_site_kind k && not key)) ≡ true)
      plain kind.Number key is free = cc
      plain kind.Words key is free = cc
      plain kind.Date key is free = cc
      plain kind.Stamp key is free = cc
      plain kind.Site key is free = (refl, free)

      column : (o : Option Column) → slice_get (columns_of schema table) own ≡ o → is_some_and is_site_kind (option_map (λ c. c.kind) o) ≡ true → not (is_some_and (λ (c : Column). c.key) o) ≡ true
          → (c : Column) × (slice_get (columns_of schema table) own ≡ Some c) × (is_stamp c.kind ≡ false) × (is_filled c ≡ true)
      column None at is free = cc
      column (Some c) at is free = let both = plain c.kind c.key is free in (c, at, both.0, both.1)
