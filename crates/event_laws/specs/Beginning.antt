-- What the base rows of convergent tables are filled in with, where masters begin.
use Rattle.std.specs.Prelude.{◌≡◌, ℕ, true, Some, List, pos, slice_get, None}
use Rattle.rep_values.specs.declared.name.SiteName.{SiteName}
use Rattle.rep_values.specs.declared.value.Value.TheVariants.{Num, Words}
use Rattle.rep_schema.specs.declared.schema.Schema.{Schema}
use Rattle.rep_schema.specs.declared.schema.SiteEntry.{SiteEntry}
use Rattle.rep_schema.specs.Tables.{Cells, columns_of, find_row, rows_of}
use Rattle.rep_schema.specs.Sites.{first_master}
use Rattle.schema_rules.specs.declared.forms.Form.TheVariants as form
use Rattle.txn_effects.specs.Convergent.{is_convergent}
use Rattle.site_state.specs.State.{SiteState}
use Rattle.site_events.specs.Cluster.{site_of, Cluster}
use Rattle.rep_laws.specs.GroupForms.{form_at}

-- a row has stamp 0 and the first master's name where a site fills in a stamp and its name
pub record IsFirstFilled (schema : Schema) (row : Cells) (stamp_column site_column : ℕ) : Type 0 where
  pub first : SiteEntry
  pub is_first : first_master schema ≡ Some first
  pub stamp : slice_get row stamp_column ≡ Some (Num (pos 0))
  pub name : slice_get row site_column ≡ Some (Words first.name.0)

-- so has each base row of a master in the groups whose latest values stay
abbrev pub BaseRowsAreFilled : Schema → List SiteState → Type 0
BaseRowsAreFilled schema sites = (site : SiteName) (x : SiteState) (table : ℕ) (key row : Cells) (group stamp_column site_column : ℕ)
    → site_of site sites ≡ Some x → x.here.is_master ≡ true → is_convergent schema table ≡ true
    → find_row (columns_of schema table) key (rows_of x.base table) ≡ Some row
    → form_at schema table group ≡ Some (form.Latest stamp_column site_column) → IsFirstFilled schema row stamp_column site_column

-- the masters begin with the same rows of convergent tables
abbrev pub RowsBeginAlike : Schema → Cluster → Type 0
RowsBeginAlike schema w = (one other : SiteName) (x y : SiteState) (table : ℕ) → site_of one w.sites ≡ Some x → site_of other w.sites ≡ Some y
    → x.here.is_master ≡ true → y.here.is_master ≡ true → is_convergent schema table ≡ true → rows_of x.base table ≡ rows_of y.base table

-- a key that a master's base rows of a convergent table have is one that each master's have
abbrev pub MastersShareKeys : Schema → List SiteState → Type 0
MastersShareKeys schema sites = (site other : SiteName) (x y : SiteState) (table : ℕ) (key : Cells) → site_of site sites ≡ Some x → site_of other sites ≡ Some y
    → x.here.is_master ≡ true → y.here.is_master ≡ true → is_convergent schema table ≡ true
    → find_row (columns_of schema table) key (rows_of y.base table) ≡ None → find_row (columns_of schema table) key (rows_of x.base table) ≡ None

-- where masters begin: they share the keys of their base rows, and these are filled in as the first master would
pub record KeysBeginAlike (schema : Schema) (sites : List SiteState) : Type 0 where
  pub shared : MastersShareKeys schema sites
  pub filled : BaseRowsAreFilled schema sites

-- a key that any site's base rows of a convergent table have is one that each master's have
abbrev pub KeysAreShared : Schema → List SiteState → Type 0
KeysAreShared schema sites = (site other : SiteName) (x y : SiteState) (table : ℕ) (key : Cells) → site_of site sites ≡ Some x → site_of other sites ≡ Some y
    → y.here.is_master ≡ true → is_convergent schema table ≡ true
    → find_row (columns_of schema table) key (rows_of y.base table) ≡ None → find_row (columns_of schema table) key (rows_of x.base table) ≡ None
