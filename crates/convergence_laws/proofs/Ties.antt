-- Names and levels of declared sites, and what a tie of latest values says.
use Rattle.std.proofs.Common.{◌≡◌, ℕ, zero, suc, List, [], ◌∷◌, ◌++◌, Bool, true, false, cond, Some, None, refl, sym, ◌∙◌, subst}
use Rattle.std.specs.Prelude.{ℤ, ◌||◌, ◌&&◌, Option, not, filter, is_some, slice_get}
use Rattle.std.specs.List.{list_any, list_all, find}
use Rattle.std.specs.Option.{option_eq}
use Rattle.std.specs.Ordering.{int_cmp, int_eq}
use Rattle.std.specs.Cmp.{signed_Decides}
use Rattle.std.specs.declared.cmp.Ordering.{Ordering}
use Rattle.std.specs.declared.cmp.Ordering.TheVariants.{Less, Equal, Greater}
use mathlib.Core.Bool.{true≢false}
use Rattle.rep_values.specs.declared.name.SiteName.{SiteName}
use Rattle.rep_values.specs.declared.value.Value.{Value}
use Rattle.rep_values.specs.declared.value.Value.TheVariants.{Num, Words}
use Rattle.rep_values.specs.Order.{key_cmp}
use Rattle.rep_schema.specs.declared.schema.Schema.{Schema}
use Rattle.rep_schema.specs.declared.schema.SiteEntry.{SiteEntry}
use Rattle.rep_schema.specs.declared.schema.TableEntry.{TableEntry}
use Rattle.rep_schema.specs.Shape.{is_master}
use Rattle.rep_schema.specs.Named.{is_site, site_named}
use Rattle.rep_schema.specs.Sites.{sends_to, names_of, senders_of, senders_to, is_among}
use Rattle.rep_schema.specs.Tables.{Cells}
use Rattle.schema_rules.specs.ConvergentRules.{share_a_level}
use Rattle.schema_rules.proofs.SoundRules.{KeepsAllRules-unbroken}
use Rattle.resolve_methods.specs.Ranks.{site_found, site_level_of}
use Rattle.rep_laws.specs.Commuting.{IsSound}
use Rattle.deferred_queue.proofs.Sites.{is_same_site-true}
use Rattle.txn_effects.specs.Convergent.{convergent_in, is_convergent}
use Rattle.convergence_laws.proofs.Moves.{numbers_first, int_tie}
use Rattle.rep_laws.proofs.ConvergentRows.{both_hold}
use Rattle.convergence_laws.specs.Pairs.{listed}
use Rattle.convergence_laws.proofs.Facts.{is_named}

-- ---- names

pub master_named : (name : SiteName) (es : List SiteEntry) → list_any (λ e. is_site name e && is_master e) es ≡ true → list_any (is_site name) es ≡ true
master_named name [] any = cc
master_named name (e ∷ es) any = go (is_site name e) any (master_named name es)
  where
    go : (b : Bool) → ((b && is_master e) || list_any (λ e. is_site name e && is_master e) es) ≡ true → (list_any (λ e. is_site name e && is_master e) es ≡ true → list_any (is_site name) es ≡ true) → (b || list_any (is_site name) es) ≡ true
    go true any later = refl
    go false any later = later any

among_named : (test : SiteEntry → Bool) (name : SiteName) (es : List SiteEntry) → is_among (names_of (filter test es)) name ≡ true → list_any (is_site name) es ≡ true
among_named test name [] among = cc
among_named test name (e ∷ es) among = go (test e) among (among_named test name es)
  where
    more : (b : Bool) → list_any (is_site name) es ≡ true → (b || list_any (is_site name) es) ≡ true
    more true any = refl
    more false any = any

    by : (b : Bool) → (b || is_among (names_of (filter test es)) name) ≡ true → (is_among (names_of (filter test es)) name ≡ true → list_any (is_site name) es ≡ true) → (b || list_any (is_site name) es) ≡ true
    by true among later = refl
    by false among later = later among

    go : (b : Bool) → is_among (names_of (cond b (e ∷ filter test es) (filter test es))) name ≡ true → (is_among (names_of (filter test es)) name ≡ true → list_any (is_site name) es ≡ true) → (is_site name e || list_any (is_site name) es) ≡ true
    go true among later = by (is_site name e) among later
    go false among later = more (is_site name e) (later among)

pub sender_named : (schema : Schema) (site origin : SiteName) → is_among (senders_of schema site) origin ≡ true → is_named schema origin ≡ true
sender_named schema site origin among = go (site_named schema site) among
  where
    go : (to : Option SiteEntry) → is_among (names_of (senders_to schema.sites to)) origin ≡ true → is_named schema origin ≡ true
    go None among = cc
    go (Some to) among = among_named (λ from. sends_to from to) origin schema.sites among

-- ---- levels

level_shared : (level : Option ℤ) (name : SiteName) (es : List SiteEntry) → is_some level ≡ true → list_any (is_site name) es ≡ true → site_found (find (is_site name) es) ≡ level → list_any (λ (e : SiteEntry). option_eq int_eq level e.level) es ≡ true
level_shared level name [] some named same = cc
level_shared level name (e ∷ es) some named same = go (is_site name e) named same (level_shared level name es some)
  where
    itself : (l : Option ℤ) → is_some l ≡ true → option_eq int_eq l l ≡ true
    itself None some = cc
    itself (Some n) some = (signed_Decides n n).1 refl

    more : (b : Bool) → list_any (λ (e : SiteEntry). option_eq int_eq level e.level) es ≡ true → (b || list_any (λ (e : SiteEntry). option_eq int_eq level e.level) es) ≡ true
    more true any = refl
    more false any = any

    go : (b : Bool) → (b || list_any (is_site name) es) ≡ true → site_found (cond b (Some e) (find (is_site name) es)) ≡ level
        → (list_any (is_site name) es ≡ true → site_found (find (is_site name) es) ≡ level → list_any (λ (e : SiteEntry). option_eq int_eq level e.level) es ≡ true)
        → (option_eq int_eq level e.level || list_any (λ (e : SiteEntry). option_eq int_eq level e.level) es) ≡ true
    go true named same later = let here : option_eq int_eq level e.level ≡ true = subst (λ l. option_eq int_eq level l ≡ true) (sym same) (itself level some) in rw here refl
    go false named same later = more (option_eq int_eq level e.level) (later named same)

levels_tell : (es : List SiteEntry) (one other : SiteName) → list_all (λ (e : SiteEntry). is_some e.level) es ≡ true → share_a_level es ≡ false → list_any (is_site one) es ≡ true → list_any (is_site other) es ≡ true
    → site_found (find (is_site one) es) ≡ site_found (find (is_site other) es) → one ≡ other
levels_tell [] one other some apart named named_too same = cc
levels_tell (e ∷ es) one other some apart named named_too same = go (is_site one e) refl (is_site other e) refl named named_too same (levels_tell es one other each.1 (neither (list_any (λ (s : SiteEntry). option_eq int_eq e.level s.level) es) (share_a_level es) apart).1)
  where
    each : (is_some e.level ≡ true) × (list_all (λ (e : SiteEntry). is_some e.level) es ≡ true)
    each = both_hold (is_some e.level) (list_all (λ (e : SiteEntry). is_some e.level) es) some

    neither : (a b : Bool) → (a || b) ≡ false → (a ≡ false) × (b ≡ false)
    neither true b is = cc
    neither false b is = (refl, is)

    not_shared : list_any (λ (s : SiteEntry). option_eq int_eq e.level s.level) es ≡ false
    not_shared = (neither (list_any (λ (s : SiteEntry). option_eq int_eq e.level s.level) es) (share_a_level es) apart).0

    go : (p : Bool) → is_site one e ≡ p → (q : Bool) → is_site other e ≡ q → (p || list_any (is_site one) es) ≡ true → (q || list_any (is_site other) es) ≡ true
        → site_found (cond p (Some e) (find (is_site one) es)) ≡ site_found (cond q (Some e) (find (is_site other) es))
        → (list_any (is_site one) es ≡ true → list_any (is_site other) es ≡ true → site_found (find (is_site one) es) ≡ site_found (find (is_site other) es) → one ≡ other) → one ≡ other
    go true is true also named named_too same later = sym (is_same_site-true e.name one is) ∙ is_same_site-true e.name other also
    go true is false also named named_too same later = absurd (true≢false (sym (level_shared e.level other es each.0 named_too (sym same)) ∙ not_shared))
    go false is true also named named_too same later = absurd (true≢false (sym (level_shared e.level one es each.0 named same) ∙ not_shared))
    go false is false also named named_too same later = later named named_too same

any_at : {X : Type 0} (test : X → Bool) (xs : List X) (i : ℕ) (x : X) → slice_get xs i ≡ Some x → test x ≡ true → list_any test xs ≡ true
any_at test [] i x at passes = cc
any_at test (y ∷ ys) zero x at passes = let same : y ≡ x = cc in rw (same, passes) refl
any_at test (y ∷ ys) (suc i) x at passes = go (test y) (any_at test ys i x at passes)
  where
    go : (b : Bool) → list_any test ys ≡ true → (b || list_any test ys) ≡ true
    go true later = refl
    go false later = later

-- where a table is convergent, every site has a level, and they differ
all_levelled : (schema : Schema) → IsSound schema → (table : ℕ) → is_convergent schema table ≡ true → (list_all (λ (e : SiteEntry). is_some e.level) schema.sites ≡ true) × (share_a_level schema.sites ≡ false)
all_levelled schema sound table convergent = (levels.0, unlike (share_a_level schema.sites) levels.1)
  where
    some_table : list_any (λ (t : TableEntry). t.convergent) schema.tables ≡ true
    some_table = go (slice_get schema.tables table) refl convergent
      where
        go : (entry : Option TableEntry) → slice_get schema.tables table ≡ entry → convergent_in entry ≡ true → list_any (λ (t : TableEntry). t.convergent) schema.tables ≡ true
        go None at is = cc
        go (Some entry) at is = any_at (λ (t : TableEntry). t.convergent) schema.tables table entry at is

    unlike : (b : Bool) → not b ≡ true → b ≡ false
    unlike true e = cc
    unlike false e = refl

    tested : (a b : Bool) → a ≡ true → (not a || b) ≡ true → b ≡ true
    tested true b is holds = holds
    tested false b is holds = cc

    levels : (list_all (λ (e : SiteEntry). is_some e.level) schema.sites ≡ true) × (not (share_a_level schema.sites) ≡ true)
    levels = both_hold (list_all (λ (e : SiteEntry). is_some e.level) schema.sites) (not (share_a_level schema.sites))
        (tested (list_any (λ (t : TableEntry). t.convergent) schema.tables) (list_all (λ (e : SiteEntry). is_some e.level) schema.sites && not (share_a_level schema.sites)) some_table ((KeepsAllRules-unbroken schema).1 sound.unbroken).levelled)

-- two declared sites of one level are one
pub same_level : (schema : Schema) → IsSound schema → (table : ℕ) → is_convergent schema table ≡ true → (one other : SiteName) → is_named schema one ≡ true → is_named schema other ≡ true
    → site_level_of schema (Some (Words one.0)) ≡ site_level_of schema (Some (Words other.0)) → one ≡ other
same_level schema sound table convergent one other named named_too same = levels_tell schema.sites one other (all_levelled schema sound table convergent).0 (all_levelled schema sound table convergent).1 named named_too same

named_level : (name : SiteName) (es : List SiteEntry) → list_all (λ (e : SiteEntry). is_some e.level) es ≡ true → list_any (is_site name) es ≡ true → (l : ℤ) × (site_found (find (is_site name) es) ≡ Some l)
named_level name [] some named = cc
named_level name (e ∷ es) some named = go (is_site name e) named (named_level name es (both_hold (is_some e.level) (list_all (λ (e : SiteEntry). is_some e.level) es) some).1)
  where
    level : (l : Option ℤ) → is_some l ≡ true → (n : ℤ) × (l ≡ Some n)
    level None e = cc
    level (Some n) e = (n, refl)

    go : (b : Bool) → (b || list_any (is_site name) es) ≡ true → (list_any (is_site name) es ≡ true → (l : ℤ) × (site_found (find (is_site name) es) ≡ Some l)) → (l : ℤ) × (site_found (cond b (Some e) (find (is_site name) es)) ≡ Some l)
    go true named later = level e.level (both_hold (is_some e.level) (list_all (λ (e : SiteEntry). is_some e.level) es) some).0
    go false named later = later named

-- a declared site has a level there
pub has_level : (schema : Schema) → IsSound schema → (table : ℕ) → is_convergent schema table ≡ true → (name : SiteName) → is_named schema name ≡ true → (l : ℤ) × (site_level_of schema (Some (Words name.0)) ≡ Some l)
has_level schema sound table convergent name named = named_level name schema.sites (all_levelled schema sound table convergent).0 named

-- ---- ties

pub tie_first : (a b : ℤ) (x y : Cells) → key_cmp (Num a ∷ x) (Num b ∷ y) ≡ Equal → (a ≡ b) × (key_cmp x y ≡ Equal)
tie_first a b x y tie = go (int_cmp a b) refl
  where
    go : (o : Ordering) → int_cmp a b ≡ o → (a ≡ b) × (key_cmp x y ≡ Equal)
    go Less is = let wrong = numbers_first a b x y Less is in cc
    go Greater is = let wrong = numbers_first a b x y Greater is in cc
    go Equal is = (int_tie a b is, sym (numbers_first a b x y Equal is) ∙ tie)

pub pair_split : (o p : Option Value) (x y : Value) → listed o ++ listed p ≡ x ∷ y ∷ [] → (o ≡ Some x) × (p ≡ Some y)
pair_split None None x y e = cc
pair_split None (Some v) x y e = cc
pair_split (Some u) None x y e = cc
pair_split (Some u) (Some v) x y e = (cc, cc)
