-- In the world that Setup's end makes masters begin alike.
use Rattle.std.proofs.Common.{◌≡◌, ℕ, List, [], ◌∷◌, length, map, replicate, zero, suc, true, Some, None, refl, sym, ap, ◌∙◌, subst, inl, inr}
use Rattle.std.specs.Prelude.{◌⊎◌, Option, filter}
use Rattle.std.specs.List.{AllByRecursion}
use Rattle.rep_lists.specs.Rising.{IsRising}
use Rattle.rep_values.specs.declared.name.SiteName.{SiteName}
use Rattle.rep_schema.specs.declared.schema.SiteEntry.{SiteEntry}
use Rattle.rep_schema.specs.Sites.{first_master}
use Rattle.rep_schema.specs.declared.schema.Column.{Column}
use Rattle.rep_schema.specs.Tables.{Cells, Rows, columns_of, find_row, row_cmp, rows_of}
use Rattle.snapshot_query.specs.declared.snapshot.Snapshot.{Snapshot}
use Rattle.txn_effects.specs.Convergent.{is_convergent}
use Rattle.site_state.specs.State.{SiteState}
use Rattle.site_events.specs.Cluster.{site_of}
use Rattle.event_laws.specs.Fitting.{StartsFit}
use Rattle.event_laws.proofs.Sites.{found_all}
use Rattle.rep_laws.proofs.ConvergentRows.{StandsAlone-convergent}
use Rattle.event_laws.proofs.RefreshedRows.{shown_there}
use Rattle.event_laws.specs.Beginning.{RowsBeginAlike, KeysBeginAlike, KeysAreShared}
use Rattle.world_state.specs.World.{WorldState}
use Rattle.world_state.specs.Making.{rows_made, rows_of_snapshots, snapshots_at, site_made, entry_made, is_early, world_made}
use Rattle.world_laws.proofs.FittingWorlds.{made_fit_start}
use Rattle.world_laws.specs.WellDeclared.{DeclaresWell}
use Rattle.world_laws.specs.Starts.{start_of}
use Rattle.world_laws.specs.AlikeWorlds.{MadeWorldsBeginAlike}
use Rattle.world_laws.proofs.FilledRows.{IsFirstFilled, first_filled}
use Rattle.world_laws.proofs.MadeMasters.{BeginsWith, begins_with}

module _ (w : WorldState) (well : DeclaresWell w) where
  abbrev rows : List Rows
  rows = rows_made w.schema w.base

  begins : (site : SiteName) (x : SiteState) → site_of site (world_made w).sites ≡ Some x → x.here.is_master ≡ true → BeginsWith w.schema rows x
  begins site x found master = begins_with w.schema well.sound.sound.shape rows w.snapshots site x found master

  same_rows : (one other : SiteName) (x y : SiteState) → site_of one (world_made w).sites ≡ Some x → site_of other (world_made w).sites ≡ Some y → x.here.is_master ≡ true → y.here.is_master ≡ true → x.base ≡ y.base
  same_rows one other x y found there master other_master = (begins one x found master).base ∙ sym (begins other y there other_master).base

  filled : (site : SiteName) (x : SiteState) (first : SiteEntry) (table : ℕ) (key row : Cells) → site_of site (world_made w).sites ≡ Some x → x.here.is_master ≡ true → first_master w.schema ≡ Some first
      → is_convergent w.schema table ≡ true → find_row (columns_of w.schema table) key (rows_of x.base table) ≡ Some row → IsFirstFilled w.schema first table row
  filled site x first table key row found master is convergent at =
      first_filled w.schema w.base well.sound.sound well.sound.rows first is table key row convergent
      (ap (λ (tables : List Rows). find_row (columns_of w.schema table) key (rows_of tables table)) (sym (begins site x found master).base) ∙ at)

  alike : RowsBeginAlike w.schema (start_of (world_made w))
  alike one other x y table found there master other_master convergent = ap (λ (tables : List Rows). rows_of tables table) (same_rows one other x y found there master other_master)

  keys : KeysBeginAlike w.schema (world_made w).sites
  keys = record {
    shared = λ site other x y table key found there master other_master convergent none.
        ap (λ (tables : List Rows). find_row (columns_of w.schema table) key (rows_of tables table)) (same_rows site other x y found there master other_master) ∙ none;
    filled = λ site x table key row group stamp own found master convergent at has.
        let b = begins site x found master in
        let both = filled site x b.first table key row found master b.is_first convergent at group stamp own has in
        record { first = b.first; is_first = b.is_first; stamp = both.0; name = both.1 };
  }

  -- ---- the rows of snapshot sites are the masters'

  abbrev IsMadeOf : SiteState → Type 0
  IsMadeOf x = (x.base ≡ rows) ⊎ ((ss : List Snapshot) × (x.base ≡ rows_of_snapshots w.schema rows ss))

  one_made : (e : SiteEntry) → IsMadeOf (entry_made w.schema rows w.snapshots e)
  one_made e = go e.master
    where
      go : (m : Option SiteName) → IsMadeOf (site_made w.schema rows w.snapshots e.name m)
      go None = inl refl
      go (Some m) = inr (snapshots_at w.snapshots e.name, refl)

  all_made : (es : List SiteEntry) → AllByRecursion IsMadeOf (map (entry_made w.schema rows w.snapshots) es)
  all_made [] = tt
  all_made (e ∷ es) = (one_made e, all_made es)

  no_row : (columns : List Column) (key : Cells) (n table : ℕ) → find_row columns key (rows_of (replicate n []) table) ≡ None
  no_row columns key n table = ap (find_row columns key) (empty n table)
    where
      empty : (n table : ℕ) → rows_of (replicate n []) table ≡ []
      empty zero table = refl
      empty (suc n) zero = refl
      empty (suc n) (suc table) = empty n table

  shared : KeysAreShared w.schema (world_made w).sites
  shared site other x y table key found there other_master convergent none = go (found_all IsMadeOf site (world_made w).sites x (all_made (filter (is_early w.schema) w.schema.sites)) found)
    where
      same : y.base ≡ rows
      same = (begins other y there other_master).base

      in_rows : find_row (columns_of w.schema table) key (rows_of rows table) ≡ None
      in_rows = subst (λ (ts : List Rows). find_row (columns_of w.schema table) key (rows_of ts table) ≡ None) same none

      rising : IsRising (row_cmp (columns_of w.schema table)) (rows_of rows table)
      rising =
          let fits = found_all (StartsFit w.schema) other (world_made w).sites y (made_fit_start w well.sound).sites there in
          subst (λ (ts : List Rows). IsRising (row_cmp (columns_of w.schema table)) (rows_of ts table)) same
          (fits.base.each table (StandsAlone-convergent w.schema well.sound.sound table convergent).below).rising

      by : (ss : List Snapshot) → x.base ≡ rows_of_snapshots w.schema rows ss → (o : Option Cells) → find_row (columns_of w.schema table) key (rows_of x.base table) ≡ o → o ≡ None
      by ss is None at = refl
      by ss is (Some row) at =
          let there : find_row (columns_of w.schema table) key (rows_of (rows_of_snapshots w.schema rows ss) table) ≡ Some row = subst (λ (ts : List Rows). find_row (columns_of w.schema table) key (rows_of ts table) ≡ Some row) is at in
          elim (shown_there w.schema (columns_of w.schema table) table key rows rising ss (replicate (length w.schema.tables) []) (λ nothing. cc (sym there ∙ nothing))) [
            | inl own ↦ absurd (own (no_row (columns_of w.schema table) key (length w.schema.tables) table))
            | inr theirs ↦ absurd (theirs in_rows)
          ]

      go : IsMadeOf x → find_row (columns_of w.schema table) key (rows_of x.base table) ≡ None
      go (inl is) = subst (λ (ts : List Rows). find_row (columns_of w.schema table) key (rows_of ts table) ≡ None) (sym is) in_rows
      go (inr is) = by is.0 is.1 (find_row (columns_of w.schema table) key (rows_of x.base table)) refl

pub made_worlds_begin_alike : MadeWorldsBeginAlike
made_worlds_begin_alike w well = record { rows = alike w well; keys = keys w well; shared = shared w well }
