-- The rules of convergent tables.
use Rattle.std.specs.Prelude.{Bool, false, not, ◌&&◌, ◌||◌, ◌==◌, List, [], ◌∷◌, length, is_some}
use Rattle.std.specs.List.{list_any, list_all, find}
use Rattle.std.specs.Option.{option_eq}
use Rattle.std.specs.Ordering.{int_eq}
use Rattle.rep_schema.specs.declared.schema.Schema.{Schema}
use Rattle.rep_schema.specs.declared.schema.SiteEntry.{SiteEntry}
use Rattle.rep_schema.specs.declared.schema.TableEntry.{TableEntry}
use Rattle.rep_schema.specs.Groups.{shadow_from}
use Rattle.rep_schema.specs.Kinds.{is_some_and, is_site_kind}
use Rattle.schema_rules.specs.Forms.{form_of}

-- each convergent table passes a test
abbrev pub each_convergent : (TableEntry → Bool) → Schema → Bool
each_convergent test schema = list_all (λ table. not table.convergent || test table) schema.tables

-- the first key column is a SITE
abbrev pub is_keyed_by_site : TableEntry → Bool
is_keyed_by_site table = is_some_and (λ column. is_site_kind column.kind) (find (λ column. column.key) table.columns)

-- no secondary constraint, no shadow column and no method of the key
abbrev pub has_groups_alone : TableEntry → Bool
has_groups_alone table = length table.constraints == 0 && length (shadow_from table.groups 0 table.columns) == 0 && length table.key_methods == 0

-- each group has one of the forms
abbrev pub have_forms : TableEntry → Bool
have_forms table = list_all (λ group. is_some (form_of table.columns group)) table.groups

-- two sites have one level
abbrev pub share_a_level : List SiteEntry → Bool
share_a_level [] = false
share_a_level (s ∷ ss) = list_any (λ site. option_eq int_eq s.level site.level) ss || share_a_level ss

-- every site has a level, and all levels differ
abbrev pub are_levelled : List SiteEntry → Bool
are_levelled sites = list_all (λ site. is_some site.level) sites && not (share_a_level sites)

-- where there is a convergent table, every site has a level, and all levels differ
abbrev pub has_levels : Schema → Bool
has_levels schema = not (list_any (λ table. table.convergent) schema.tables) || are_levelled schema.sites
