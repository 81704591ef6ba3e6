-- A part fits where its group is the table's and its values fit that group's columns.
use Rattle.std.proofs.Common.{ℕ, Bool}
use Rattle.std.specs.Prelude.{◌↔◌, IsTrue}
use Rattle.rep_schema.specs.declared.schema.Schema.{Schema}
use Rattle.rep_schema.specs.Groups.{columns_in_group}
use Rattle.rep_calls.specs.declared.call.Part.{Part}
use Rattle.conflict_detect.specs.Fits.{IsGroupOf, ValuesFit, PartFits}

pub part_fits_by : (schema : Schema) (table : ℕ) (part : Part) (told : Bool) → IsGroupOf schema table part.group → IsTrue told ↔ ValuesFit (columns_in_group schema table part.group) part
    → IsTrue told ↔ PartFits schema table part
part_fits_by schema table part told group meaning = (
  λ yes. let values = meaning.0 yes in record { group = group; old = values.old; new = values.new; differ = values.differ },
  λ fits. meaning.1 (record { old = fits.old; new = fits.new; differ = fits.differ }),
)
