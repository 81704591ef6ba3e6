-- The forms of a convergent table's groups, each of which ends alike in whatever order its updates come.
use Rattle.std.specs.Prelude.{ℕ, Bool, false, true, cond, ◌&&◌, List, [], ◌∷◌, Option, Some, None}
use Rattle.rep_schema.specs.declared.schema.Column.{Column}
use Rattle.rep_schema.specs.declared.schema.Group.{Group}
use Rattle.rep_schema.specs.declared.schema.Kind.{Kind}
use Rattle.rep_schema.specs.declared.schema.Method.{Method}
use Rattle.rep_schema.specs.declared.schema.Method.TheVariants as method
use Rattle.rep_schema.specs.Kinds.{is_stamp, is_site_kind, has_kind, has_place}
use Rattle.schema_rules.specs.declared.forms.Form.{Form}
use Rattle.schema_rules.specs.declared.forms.Form.TheVariants as form
use Rattle.schema_rules.specs.MethodRules.{is_one_number, site_column}

abbrev pub is_additive : Method → Bool
is_additive method.Additive = true
is_additive _ = false

abbrev pub is_discard : Method → Bool
is_discard method.Discard = true
is_discard _ = false

-- the column of latest
abbrev pub latest_column : Method → Option ℕ
latest_column (method.Latest column) = Some column
latest_column _ = None

-- the form that maximum and minimum bring
abbrev pub extreme_of : Method → Option Form
extreme_of (method.Maximum column) = Some (form.Greatest column)
extreme_of (method.Minimum column) = Some (form.Least column)
extreme_of _ = None

-- a column where it is of a kind and one of these places
abbrev pub own_column : (Kind → Bool) → List Column → List ℕ → Option ℕ → Option ℕ
own_column test columns places None = None
own_column test columns places (Some place) = cond (has_place places place && has_kind test columns place) (Some place) None

abbrev pub latest_by : Option ℕ → Option ℕ → Option Form
latest_by None site = None
latest_by (Some stamp) None = None
latest_by (Some stamp) (Some site) = Some (form.Latest stamp site)

-- latest of a STAMP column of the group, then site-priority of a SITE column of it
abbrev pub latest_form : List Column → List ℕ → Method → Method → Option Form
latest_form columns places first second = latest_by (own_column is_stamp columns places (latest_column first)) (own_column is_site_kind columns places (site_column second))

-- one NUMBER column: additive
abbrev pub form_of_one : List Column → List ℕ → Method → Option Form
form_of_one columns places only = cond (is_one_number columns places && is_additive only) (Some form.Sum) None

-- one NUMBER column: its maximum or its minimum, then discard; or a latest value with its site
abbrev pub form_of_two : List Column → List ℕ → Method → Method → Option Form
form_of_two columns places first second = cond (is_one_number columns places && is_discard second) (extreme_of first) (latest_form columns places first second)

abbrev pub form_by : List Column → List ℕ → List Method → Option Form
form_by columns places [] = None
form_by columns places (only ∷ []) = form_of_one columns places only
form_by columns places (first ∷ second ∷ []) = form_of_two columns places first second
form_by columns places (first ∷ second ∷ third ∷ methods) = None

-- the form of a group of these columns, if it has one
abbrev pub form_of : List Column → Group → Option Form
form_of columns group = form_by columns group.columns group.methods
