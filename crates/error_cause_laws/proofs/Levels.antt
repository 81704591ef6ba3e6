-- Where there is a convergent table every site of the schema has a level, and levels tell the sites apart.
use Rattle.std.proofs.Common.{◌≡◌, ℕ, zero, suc, Bool, true, false, cond, List, [], ◌∷◌, Some, refl, sym, ap, ◌∙◌}
use mathlib.Core.Bool.{true≢false}
use Rattle.std.specs.Prelude.{Option, ℤ, ◌&&◌, ◌||◌, not, is_some, slice_get}
use Rattle.std.specs.List.{list_any, list_all, find}
use Rattle.std.specs.Option.{option_eq}
use Rattle.std.specs.Ordering.{int_eq}
use Rattle.std.proofs.lemmas.Bool.Decides.{Decides-int_eq}
use Rattle.rep_values.specs.declared.name.SiteName.{SiteName}
use Rattle.rep_values.specs.declared.value.Value.TheVariants.{Words}
use Rattle.rep_schema.specs.declared.schema.Schema.{Schema}
use Rattle.rep_schema.specs.declared.schema.SiteEntry.{SiteEntry}
use Rattle.rep_schema.specs.declared.schema.TableEntry.{TableEntry}
use Rattle.rep_schema.specs.Shape.{is_master, is_early_master}
use Rattle.rep_schema.specs.Named.{is_site, site_named}
use Rattle.rep_schema.specs.Sites.{first_master, is_master_site}
use Rattle.schema_rules.specs.ConvergentRules.{share_a_level, are_levelled}
use Rattle.schema_rules.proofs.SoundRules.{KeepsAllRules-unbroken}
use Rattle.resolve_methods.specs.Ranks.{site_found, site_level_of}
use Rattle.deferred_queue.proofs.Sites.{is_same_site-true, is_same_site-refl}
use Rattle.txn_effects.specs.Convergent.{convergent_in, is_convergent}
use Rattle.rep_laws.specs.Commuting.{IsSound}

both : (a b : Bool) → (a && b) ≡ true → (a ≡ true) × (b ≡ true)
both true b e = (refl, e)
both false b e = cc

or_true : (b : Bool) → (b || true) ≡ true
or_true true = refl
or_true false = refl

-- a name, of its text
abbrev name_of : List ℕ → SiteName
name_of text = record { 0 = text }

abbrev entry_of : List ℕ → List SiteEntry → Option SiteEntry
entry_of text es = find (is_site (name_of text)) es

-- some entry has the level that is found
level_among : (text : List ℕ) (l : ℤ) (es : List SiteEntry) → site_found (entry_of text es) ≡ Some l → list_any (λ (s : SiteEntry). option_eq int_eq (Some l) s.level) es ≡ true
level_among text l [] is = cc
level_among text l (e ∷ es) is = go (is_site (name_of text) e) is (level_among text l es)
  where
    own : e.level ≡ Some l → option_eq int_eq (Some l) e.level ≡ true
    own at = rw at ((Decides-int_eq l l).1 refl)

    go : (b : Bool) → site_found (cond b (Some e) (entry_of text es)) ≡ Some l → (site_found (entry_of text es) ≡ Some l → list_any (λ (s : SiteEntry). option_eq int_eq (Some l) s.level) es ≡ true)
        → (option_eq int_eq (Some l) e.level || list_any (λ (s : SiteEntry). option_eq int_eq (Some l) s.level) es) ≡ true
    go true at later = rw (own at) refl
    go false at later = rw (later at) (or_true (option_eq int_eq (Some l) e.level))

-- texts of one level are one
levels_tell : (t u : List ℕ) (l : ℤ) (es : List SiteEntry) → share_a_level es ≡ false → site_found (entry_of t es) ≡ Some l → site_found (entry_of u es) ≡ Some l → t ≡ u
levels_tell t u l [] apart first second = cc
levels_tell t u l (e ∷ es) apart first second = go (is_site (name_of t) e) refl (is_site (name_of u) e) refl first second (levels_tell t u l es (or_right (list_any (λ (s : SiteEntry). option_eq int_eq e.level s.level) es) (share_a_level es) apart))
  where
    or_left : (a b : Bool) → (a || b) ≡ false → a ≡ false
    or_left true b is = cc
    or_left false b is = refl

    or_right : (a b : Bool) → (a || b) ≡ false → b ≡ false
    or_right true b is = cc
    or_right false b is = is

    text : (v : List ℕ) → is_site (name_of v) e ≡ true → e.name.0 ≡ v
    text v is = ap (λ (n : SiteName). n.0) (is_same_site-true e.name (name_of v) is)

    twice : (v : List ℕ) → e.level ≡ Some l → site_found (entry_of v es) ≡ Some l → ⊥
    twice v at found =
        let none : list_any (λ (s : SiteEntry). option_eq int_eq e.level s.level) es ≡ false = or_left (list_any (λ (s : SiteEntry). option_eq int_eq e.level s.level) es) (share_a_level es) apart in
        true≢false (sym (level_among v l es found) ∙ ap (λ o. list_any (λ (s : SiteEntry). option_eq int_eq o s.level) es) (sym at) ∙ none)

    go : (a : Bool) → is_site (name_of t) e ≡ a → (b : Bool) → is_site (name_of u) e ≡ b → site_found (cond a (Some e) (entry_of t es)) ≡ Some l → site_found (cond b (Some e) (entry_of u es)) ≡ Some l
        → (site_found (entry_of t es) ≡ Some l → site_found (entry_of u es) ≡ Some l → t ≡ u) → t ≡ u
    go true p true q first second later = sym (text t p) ∙ text u q
    go true p false q first second later = absurd (twice u first second)
    go false p true q first second later = absurd (twice t second first)
    go false p false q first second later = later first second

-- an entry that is found has a level where each has
found_levelled : (test : SiteEntry → Bool) (es : List SiteEntry) (s : SiteEntry) → list_all (λ (e : SiteEntry). is_some e.level) es ≡ true → find test es ≡ Some s → is_some s.level ≡ true
found_levelled test [] s all found = cc
found_levelled test (e ∷ es) s all found = go (test e) found (found_levelled test es s (both (is_some e.level) (list_all (λ (u : SiteEntry). is_some u.level) es) all).1)
  where
    go : (b : Bool) → cond b (Some e) (find test es) ≡ Some s → (find test es ≡ Some s → is_some s.level ≡ true) → is_some s.level ≡ true
    go true is later = let same : e ≡ s = cc in rw (← same) (both (is_some e.level) (list_all (λ (u : SiteEntry). is_some u.level) es) all).0
    go false is later = later is

-- an entry that passes some test is found by its name, it or one before
by_name : (test : SiteEntry → Bool) (es : List SiteEntry) (s : SiteEntry) → find test es ≡ Some s → (e : SiteEntry) × (find (is_site s.name) es ≡ Some e)
by_name test [] s found = cc
by_name test (e ∷ es) s found = go (test e) found (is_site s.name e) refl (by_name test es s)
  where
    go : (b : Bool) → cond b (Some e) (find test es) ≡ Some s → (c : Bool) → is_site s.name e ≡ c → (find test es ≡ Some s → (e : SiteEntry) × (find (is_site s.name) es ≡ Some e)) → (u : SiteEntry) × (cond c (Some e) (find (is_site s.name) es) ≡ Some u)
    go b is true named later = (e, refl)
    go true is false named later =
        let same : e ≡ s = cc in
        absurd (true≢false (sym (is_same_site-refl s.name) ∙ ap (λ (u : SiteEntry). is_site s.name u) (sym same) ∙ named))
    go false is false named later = later is

any_named : (test : SiteEntry → Bool) (name : SiteName) (es : List SiteEntry) → list_any (λ s. is_site name s && test s) es ≡ true → (s : SiteEntry) × (find (is_site name) es ≡ Some s)
any_named test name [] any = cc
any_named test name (e ∷ es) any = go (is_site name e) any (any_named test name es)
  where
    go : (b : Bool) → ((b && test e) || list_any (λ s. is_site name s && test s) es) ≡ true → (list_any (λ s. is_site name s && test s) es ≡ true → (s : SiteEntry) × (find (is_site name) es ≡ Some s))
        → (s : SiteEntry) × (cond b (Some e) (find (is_site name) es) ≡ Some s)
    go true is later = (e, refl)
    go false is later = later is

module _ (schema : Schema) (sound : IsSound schema) (table : ℕ) (convergent : is_convergent schema table ≡ true) where
  levelled : are_levelled schema.sites ≡ true
  levelled = go (list_any (λ (t : TableEntry). t.convergent) schema.tables) (some schema.tables table convergent) ((KeepsAllRules-unbroken schema).1 sound.unbroken).levelled
    where
      some : (ts : List TableEntry) (k : ℕ) → convergent_in (slice_get ts k) ≡ true → list_any (λ (t : TableEntry). t.convergent) ts ≡ true
      some [] k is = cc
      some (t ∷ ts) zero is = rw is refl
      some (t ∷ ts) (suc k) is = rw (some ts k is) (or_true t.convergent)

      go : (b : Bool) → b ≡ true → (not b || are_levelled schema.sites) ≡ true → are_levelled schema.sites ≡ true
      go true is e = e
      go false is e = cc

  each_has_level : list_all (λ (site : SiteEntry). is_some site.level) schema.sites ≡ true
  each_has_level = (both (list_all (λ (site : SiteEntry). is_some site.level) schema.sites) (not (share_a_level schema.sites)) levelled).0

  -- texts of one level are one
  pub one_text : (t u : List ℕ) (l : ℤ) → site_level_of schema (Some (Words t)) ≡ Some l → site_level_of schema (Some (Words u)) ≡ Some l → t ≡ u
  one_text t u l first second = levels_tell t u l schema.sites (off (share_a_level schema.sites) (both (list_all (λ (site : SiteEntry). is_some site.level) schema.sites) (not (share_a_level schema.sites)) levelled).1) first second
    where
      off : (b : Bool) → not b ≡ true → b ≡ false
      off true e = cc
      off false e = refl

  -- a declared site has a level
  pub named_has_level : (name : SiteName) (s : SiteEntry) → site_named schema name ≡ Some s → is_some (site_level_of schema (Some (Words name.0))) ≡ true
  named_has_level name s found = ap (λ o. is_some (site_found o)) found ∙ found_levelled (is_site name) schema.sites s each_has_level found

  -- so have a master and the first master
  pub master_has_level : (name : SiteName) → is_master_site schema name ≡ true → is_some (site_level_of schema (Some (Words name.0))) ≡ true
  master_has_level name on = let s = any_named is_master name schema.sites on in named_has_level name s.0 s.1

  pub first_has_level : (first : SiteEntry) → first_master schema ≡ Some first → is_some (site_level_of schema (Some (Words first.name.0))) ≡ true
  first_has_level first found = let e = by_name is_early_master schema.sites first found in named_has_level first.name e.0 e.1
