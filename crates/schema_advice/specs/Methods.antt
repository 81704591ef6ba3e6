-- Methods that decide every conflict, and those that leave sites apart.
use Rattle.std.specs.Prelude.{ℕ, ◌==◌, nat_lt, Bool, true, false, not, ◌&&◌, if◌then◌else◌, List, [], ◌∷◌, length, Option, Some, None}
use Rattle.std.specs.List.{list_any}
use Rattle.rep_schema.specs.declared.schema.Method.{Method}
use Rattle.rep_schema.specs.declared.schema.Method.TheVariants as method
use Rattle.rep_schema.specs.declared.schema.Group.{Group}

-- the method decides every conflict
abbrev pub is_decisive : Method → Bool
is_decisive (method.Latest column) = false
is_decisive (method.Earliest column) = false
is_decisive method.Overwrite = true
is_decisive method.Discard = true
is_decisive method.Additive = true
is_decisive method.Average = true
is_decisive (method.Maximum column) = false
is_decisive (method.Minimum column) = false
is_decisive (method.Priority column group) = false
is_decisive (method.SitePriority column) = false

-- the method takes the greatest or the least value
abbrev pub is_extreme : Method → Bool
is_extreme (method.Latest column) = false
is_extreme (method.Earliest column) = false
is_extreme method.Overwrite = false
is_extreme method.Discard = false
is_extreme method.Additive = false
is_extreme method.Average = false
is_extreme (method.Maximum column) = true
is_extreme (method.Minimum column) = true
is_extreme (method.Priority column group) = false
is_extreme (method.SitePriority column) = false

-- no method of the group decides every conflict
abbrev pub is_undecided : Group → Bool
is_undecided group = not (list_any is_decisive group.methods)

-- a decisive method, at so many masters, behind one that took the extreme of a group's only column or behind another, leaves sites
-- apart: overwrite does, discard unless equal is equal before it, average of more than two
abbrev pub parts_sites : ℕ → Bool → Method → Bool
parts_sites masters equal (method.Latest column) = false
parts_sites masters equal (method.Earliest column) = false
parts_sites masters equal method.Overwrite = true
parts_sites masters equal method.Discard = not equal
parts_sites masters equal method.Additive = false
parts_sites masters equal method.Average = nat_lt 2 masters
parts_sites masters equal (method.Maximum column) = false
parts_sites masters equal (method.Minimum column) = false
parts_sites masters equal (method.Priority column group) = false
parts_sites masters equal (method.SitePriority column) = false

-- the first decisive method, where it leaves sites apart; single tells of a group of one column, and equal that the method before
-- took an extreme of it
abbrev pub parting_from : ℕ → Bool → Bool → List Method → Option Method
parting_from masters single equal [] = None
parting_from masters single equal (m ∷ ms) =
    if is_decisive m then (if parts_sites masters equal m then Some m else None)
    else parting_from masters single (single && is_extreme m) ms

-- the method of a group that leaves sites apart, if one does
abbrev pub parting_method : ℕ → Group → Option Method
parting_method masters group = parting_from masters (length group.columns == 1) false group.methods
