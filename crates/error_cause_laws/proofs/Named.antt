-- Latest values name a declared site with a level, and have a stamp that is no less than 0: in what is sent, and in the rows of masters.
use Rattle.std.proofs.Common.{◌≡◌, ℕ, ◌<◌, ◌≤◌, Bool, true, false, List, length, Some, None, Ok, refl, sym, ap, ◌∙◌, inl, inr, arith, pos}
use mathlib.Core.Bool.{true≢false}
use Rattle.std.specs.Prelude.{Option, negsuc, ◌⊎◌, ◌&&◌, not, is_some}
use Rattle.rep_values.specs.declared.name.SiteName.{SiteName}
use Rattle.rep_values.specs.declared.value.Value.{Value}
use Rattle.rep_values.specs.declared.value.Value.TheVariants.{Num, Words}
use Rattle.rep_schema.specs.declared.schema.Schema.{Schema}
use Rattle.rep_schema.specs.declared.schema.SiteEntry.{SiteEntry}
use Rattle.rep_schema.specs.Tables.{Cells, Rows, columns_of, find_row, rows_of, RowFits}
use Rattle.rep_schema.specs.Groups.{group_columns_of, values_at}
use Rattle.rep_schema.specs.Sites.{first_master}
use Rattle.rep_schema.proofs.FoundRows.{found_row}
use Rattle.schema_rules.specs.declared.forms.Form.TheVariants as form
use Rattle.rep_calls.specs.declared.call.Txn.{Txn}
use Rattle.rep_calls.specs.declared.statement.Statement.{Statement}
use Rattle.txn_effects.specs.Calls.{Effect}
use Rattle.txn_effects.specs.Contents.{content_after, effect_on}
use Rattle.resolve_methods.specs.Ranks.{site_level_of}
use Rattle.txn_effects.specs.Convergent.{is_convergent}
use Rattle.local_txn.specs.Laws.{StampsOfABlockRise}
use Rattle.txn_effects.specs.Locals.{BlockEffect, local_effect}
use Rattle.rep_laws.proofs.SoundSchemas.{HasKeys-sound, KeysStandAlone-sound}
use Rattle.site_state.specs.State.{SiteState}
use Rattle.site_state.specs.Contents.{content_of, tables_of, txn_of}
use Rattle.site_state.proofs.FittingBlocks.{block_applied}
use Rattle.site_events.specs.Cluster.{Cluster, site_of}
use Rattle.site_events.specs.Events.{Event}
use Rattle.event_laws.specs.Fitting.{IsFitStart, StartsFit}
use Rattle.event_laws.specs.Waiting.{SitesLinkAsDeclared}
use Rattle.event_laws.proofs.Sites.{found_all}
use Rattle.event_laws.proofs.DeclaredSites.{IsSiteOf}
use Rattle.event_laws.specs.Beginning.{BaseRowsAreFilled}
use Rattle.rep_laws.specs.GroupForms.{form_at, value_of}
use Rattle.convergence_laws.specs.Journals.{IsSoundTxn}
use Rattle.convergence_laws.specs.Laws.{BlocksKeepForms}
use Rattle.convergence_laws.proofs.GroupColumns.{value_of-values_at}
use Rattle.rep_laws.proofs.FormShapes.{IsShaped-form_at}
use Rattle.convergence_laws.proofs.Moves.{DecisionLaws, within_row}
use Rattle.rep_laws.proofs.ConvergentRows.{StandsAlone-convergent}
use Rattle.convergence_laws.proofs.CallsCome.{txn_comes}
use Rattle.error_cause_laws.proofs.OneTimeWrites.{signs_of}
use Rattle.error_cause_laws.proofs.WritingOnce.{none_found}
use Rattle.error_cause_laws.proofs.Moving.{ComesFrom}
use Rattle.error_cause_laws.proofs.Linking.{sender_named}
use Rattle.error_cause_laws.proofs.WritesStep.{IsWell, sent_holds}
use Rattle.error_cause_laws.proofs.Levels.{named_has_level, master_has_level, first_has_level}
use Rattle.error_cause_laws.proofs.Values.{passing, Passes, passing_comes, passing_onward}
use Rattle.error_cause_laws.proofs.LatestWrites.{none_made}
use Rattle.error_cause_laws.proofs.Running.{sites_after, all_of, queued_after, never_bad}

-- a number that is no less than 0
abbrev pub is_whole : Option Value → Bool
is_whole None = false
is_whole (Some (Num (pos n))) = true
is_whole (Some (Num (negsuc n))) = false
is_whole (Some (Words text)) = false

-- what a value is that is whole
pub whole_is : (o : Option Value) → is_whole o ≡ true → (n : ℕ) × (o ≡ Some (Num (pos n)))
whole_is None e = cc
whole_is (Some (Num (pos n))) e = (n, refl)
whole_is (Some (Num (negsuc n))) e = cc
whole_is (Some (Words text)) e = cc

-- what a value is whose site has a level
pub levelled_is : (schema : Schema) (o : Option Value) → is_some (site_level_of schema o) ≡ true → (text : List ℕ) × (o ≡ Some (Words text))
levelled_is schema None e = cc
levelled_is schema (Some (Num n)) e = cc
levelled_is schema (Some (Words text)) e = (text, refl)

module _ (schema : Schema) (decides : DecisionLaws) (rises : StampsOfABlockRise) (blocks : BlocksKeepForms) (start : Cluster) (is : IsFitStart schema start) (meshed : SitesLinkAsDeclared schema start.sites)
    (filled : BaseRowsAreFilled schema start.sites) (table : ℕ) (convergent : is_convergent schema table ≡ true) (key : Cells) (group at by : ℕ) (has : form_at schema table group ≡ Some (form.Latest at by)) where
  abbrev pub places : List ℕ
  places = group_columns_of schema table group

  -- values that have no such stamp or no such site
  abbrev pub unnamed : Cells → Bool
  unnamed values = not (is_whole (value_of places values at) && is_some (site_level_of schema (value_of places values by)))

  abbrev Sites : List Event → List SiteState
  Sites events = sites_after schema decides rises blocks start is meshed events

  abbrev unnamed_in : Txn → ℕ
  unnamed_in txn = signs_of (passing schema is.sound decides table convergent key group at by has unnamed) txn

  -- a block of a declared site
  own_named : (x : SiteState) (statements : List Statement) (block : BlockEffect) → IsWell schema x → is_some (site_level_of schema (Some (Words x.here.site.0))) ≡ true → local_effect schema x.here x.stamps statements (tables_of x) ≡ Ok block
      → unnamed_in (txn_of schema block.changes) ≡ 0
  own_named x statements block well named gives =
      none_made schema is.sound decides table convergent key group at by has unnamed x.here.site
      (λ row stamp stamped sited bad. let good : unnamed (values_at places row) ≡ false = rw (stamped, sited, named) refl in true≢false (sym bad ∙ good))
      x.stamps.last block.stamps.last block.changes (tables_of x) _
      (block_applied schema (record { shape = is.sound.shape; keys = HasKeys-sound schema is.sound.unbroken is.sound.shape; apart = KeysStandAlone-sound schema is.sound.unbroken }) x.here x.stamps statements (tables_of x) block well.content.tables gives).leads
      (rises schema x.here x.stamps statements (tables_of x) block is.sound.shape well.content.tables gives).rise

  -- what sends is declared
  sender_has_level : (events : List Event) (x o : SiteState) (position : ℕ) (txn : Txn) → ComesFrom (Sites events) x o position txn → is_some (site_level_of schema (Some (Words o.here.site.0))) ≡ true
  sender_has_level events x o position txn comes =
      let of = found_all (IsSiteOf schema) o.here.site (Sites events) o (all_of schema decides rises blocks start is meshed events) comes.there in
      let named = sender_named schema o of.declared x.here.site (λ closed. none_found x.here.site o position txn closed comes.sent) in
      named_has_level schema is.sound table convergent o.here.site named.0 named.1

  none_of : (n m : ℕ) → n ≤ m → m ≡ 0 → n ≡ 0
  none_of n m less none = omega (arith, less, none)

  pub sent_named : (events : List Event) (x o : SiteState) (position : ℕ) (txn : Txn) → ComesFrom (Sites events) x o position txn → unnamed_in txn ≡ 0
  sent_named events x o position txn comes =
      sent_holds (λ (t : Txn). unnamed_in t ≡ 0) x.here.site o position txn
      (queued_after schema decides rises blocks start is meshed (λ (z : SiteState). is_some (site_level_of schema (Some (Words z.here.site.0))) ≡ true) (λ (t : Txn). unnamed_in t ≡ 0)
      (λ z w same named. ap (λ h. is_some (site_level_of schema (Some (Words h)))) (sym (ap (λ here. here.site.0) same)) ∙ named)
      own_named
      (λ events z u p t effect from holds content sound gives. none_of (unnamed_in (txn_of schema effect.changes)) (unnamed_in t)
      (passing_onward schema is.sound decides table convergent key group at by has unnamed u.here.site t (content_of z) effect content sound gives) (holds (sender_has_level events z u p t from)))
      events o.here.site o comes.there (sender_has_level events x o position txn comes)) comes.sent

  -- ---- rows

  abbrev row_of : List Rows → Option Cells
  row_of tables = find_row (columns_of schema table) key (rows_of tables table)

  abbrev Unnamed : List Rows → Type 0
  Unnamed tables = Passes schema is.sound decides table convergent key group at by has unnamed (row_of tables)

  -- a base row is filled in
  pub base_carries : (site : SiteName) (x : SiteState) → site_of site start.sites ≡ Some x → x.here.is_master ≡ true → (row : Cells) → row_of x.base ≡ Some row
      → (first : SiteEntry) × (first_master schema ≡ Some first) × (value_of places (values_at places row) at ≡ Some (Num (pos 0))) × (value_of places (values_at places row) by ≡ Some (Words first.name.0))
  base_carries site x found master row there =
      let filled_row = filled site x table key row group at by found master convergent there has in
      let shape = IsShaped-form_at schema is.sound table group (form.Latest at by) has in
      let fits = (found_all (StartsFit schema) site start.sites x is.sites found).base in
      let row_fits : RowFits (columns_of schema table) row = found_row (columns_of schema table) key row (rows_of x.base table) there (RowFits (columns_of schema table)) (fits.each table below).fit in
      let within = within_row schema is.sound table group (form.Latest at by) has row row_fits in
      (filled_row.first, filled_row.is_first, value_of-values_at places row at within shape.has_stamp ∙ filled_row.stamp, value_of-values_at places row by within shape.has_site ∙ filled_row.name)
    where
      below : table < length schema.tables
      below = (StandsAlone-convergent schema is.sound table convergent).below

  base_named : (site : SiteName) (x : SiteState) → site_of site start.sites ≡ Some x → x.here.is_master ≡ true → Unnamed x.base → ⊥
  base_named site x found master bad =
      let carries = base_carries site x found master bad.row bad.is in
      let level = first_has_level schema is.sound table convergent carries.0 carries.1 in
      let good : unnamed (values_at places bad.row) ≡ false = rw (carries.2, carries.3, level) refl in
      true≢false (sym bad.passes ∙ good)

  unless_made : {A : Type 0} (n : ℕ) → n ≡ 0 → A ⊎ (1 ≤ n) → A
  unless_made n none (inl a) = a
  unless_made n none (inr some) = absurd (omega (arith, none, some))

  came_unnamed : (x : SiteState) (origin : SiteName) (txn : Txn) (effect : Effect) → IsWell schema x → IsSoundTxn schema txn → effect_on schema origin txn (content_of x) ≡ Ok effect → unnamed_in txn ≡ 0
      → Unnamed (content_after schema origin txn (content_of x)).tables → Unnamed (tables_of x)
  came_unnamed x origin txn effect well sound gives none bad =
      unless_made (unnamed_in txn) none
      (passing_comes schema is.sound decides table convergent key group at by has unnamed (row_of (tables_of x)) (row_of (content_after schema origin txn (content_of x)).tables) txn.calls
      (txn_comes schema is.sound decides table group convergent key txn (content_of x) origin effect well.content sound.fits sound.keeps gives) bad)

  -- no row of a master has such values
  pub rows_named : (events : List Event) (site : SiteName) (x : SiteState) → site_of site (Sites events) ≡ Some x → x.here.is_master ≡ true → Unnamed (tables_of x) → ⊥
  rows_named = never_bad schema decides rises blocks start is meshed Unnamed base_named
      (λ x statements block effect well master makes sound gives bad.
      came_unnamed x x.here.site (txn_of schema block.changes) effect well sound gives
      (own_named x statements block well (master_has_level schema is.sound table convergent x.here.site (sym well.master ∙ master)) makes) bad)
      (λ events x o position txn effect comes content sound gives bad.
      unless_made (unnamed_in txn) (sent_named events x o position txn comes)
      (passing_comes schema is.sound decides table convergent key group at by has unnamed (row_of (tables_of x)) (row_of (content_after schema o.here.site txn (content_of x)).tables) txn.calls
      (txn_comes schema is.sound decides table group convergent key txn (content_of x) o.here.site effect content sound.fits sound.keeps gives) bad))
