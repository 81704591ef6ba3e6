-- A declaration that isn't refused keeps the shape of a schema.
use Rattle.std.proofs.Common.{◌≡◌, None}
use Rattle.rep_schema.specs.declared.schema.Schema.{Schema}
use Rattle.rep_schema.specs.Shape.{HasShape}
use Rattle.rep_declare.specs.declared.declaration.Declare.{Declare}
use Rattle.rep_declare.specs.declared.declaration.Declare.TheVariants as declare
use Rattle.rep_declare.specs.Refusals.{declare_refusal}
use Rattle.rep_declare.specs.Additions.{declared, ColumnNamed}
use Rattle.rep_declare.proofs.SiteShapes.{HasShape-Site, HasShape-LateSite, HasShape-SnapSite, HasShape-SiteLevel}
use Rattle.rep_declare.proofs.TableShapes.{HasShape-Table, HasShape-Convergent}
use Rattle.rep_declare.proofs.GroupShapes.{HasShape-Group, HasShape-Unique}
use Rattle.rep_declare.proofs.PriorityShapes.{HasShape-Priority}
use Rattle.rep_declare.proofs.MethodShapes.{HasShape-Method}
use Rattle.rep_declare.proofs.UniqueMethodShapes.{HasShape-UniqueMethod}
use Rattle.rep_declare.proofs.CheckShapes.{HasShape-Check}

-- the schema with a declaration that isn't refused has its shape
pub HasShape-declared : (declaration : Declare) (schema : Schema) → HasShape schema → ColumnNamed declaration → declare_refusal schema declaration ≡ None
    → HasShape (declared declaration schema)
HasShape-declared (declare.Site name) schema shape named passed = HasShape-Site schema name shape passed
HasShape-declared (declare.LateSite name) schema shape named passed = HasShape-LateSite schema name shape passed
HasShape-declared (declare.SnapSite name master) schema shape named passed = HasShape-SnapSite schema name master shape passed
HasShape-declared (declare.Table name columns) schema shape named passed = HasShape-Table schema name columns shape passed
HasShape-declared (declare.Group table group columns) schema shape named passed = HasShape-Group schema table group columns shape named passed
HasShape-declared (declare.Method table group method) schema shape named passed = HasShape-Method schema table group method shape passed
HasShape-declared (declare.Priority group value level) schema shape named passed = HasShape-Priority schema group value level shape passed
HasShape-declared (declare.SiteLevel site level) schema shape named passed = HasShape-SiteLevel schema site level shape
HasShape-declared (declare.Unique table constraint columns) schema shape named passed = HasShape-Unique schema table constraint columns shape named passed
HasShape-declared (declare.UniqueMethod table constraint method) schema shape named passed = HasShape-UniqueMethod schema table constraint method shape passed
HasShape-declared (declare.Check table check column rel value) schema shape named passed = HasShape-Check schema table check column rel value shape passed
HasShape-declared (declare.Convergent table) schema shape named passed = HasShape-Convergent schema table shape
