-- Schemas that have their shape, and schemas that haven't.
use Rattle.std.proofs.Common.{◌≡◌, ℕ, ◌<◌, List, [], ◌∷◌, get_or, pos, Some, None, true, false, zero, suc, refl, ap, arith}
use Rattle.std.specs.Prelude.{codes, ◌≢◌}
use Rattle.std.specs.List.{AllByRecursion, AllPairs}
use Rattle.std.specs.declared.cmp.Ordering.TheVariants.{Less, Equal, Greater}
use Rattle.std.proofs.lemmas.List.Elements.{All-from_recursion}
use Rattle.rep_values.specs.declared.name.SiteName.{SiteName}
use Rattle.rep_schema.specs.declared.schema.Schema.{Schema}
use Rattle.rep_schema.specs.declared.schema.SiteEntry.{SiteEntry}
use Rattle.rep_schema.specs.declared.schema.TableEntry.{TableEntry}
use Rattle.rep_schema.specs.declared.schema.Column.{Column}
use Rattle.rep_schema.specs.declared.schema.Group.{Group}
use Rattle.rep_schema.specs.declared.schema.PriorityGroup.{PriorityGroup}
use Rattle.rep_schema.specs.declared.schema.PriorityLevel.{PriorityLevel}
use Rattle.rep_values.specs.declared.value.Value.TheVariants.{Num, Words}
use Rattle.rep_schema.specs.declared.check.Check.{Check}
use Rattle.rep_schema.specs.declared.check.Rel.TheVariants.{Ge}
use Rattle.rep_schema.specs.declared.schema.Kind.TheVariants as kind
use Rattle.rep_schema.specs.declared.schema.Method.TheVariants as method
use Rattle.rep_schema.proofs.TableSteps.{any_from_none}
use Rattle.rep_schema.specs.Shape.{AreDistinct, ShareNone, IsPlaceIn, shadow_name, method_column, method_priority, AreColumns, HasGroupShape, HasTableShape, HasLevelShape, is_early_master, HasMaster, HasShape}

-- pairs by recursion on the list
pairs_nil : {X : Type 0} (R : X → X → Type 0) → AllPairs R []
pairs_nil R i j d lt in_range = absurd (omega arith)

pairs_cons : {X : Type 0} (R : X → X → Type 0) (x : X) (xs : List X) → AllByRecursion (R x) xs → AllPairs R xs → AllPairs R (x ∷ xs)
pairs_cons R x xs first rest zero zero d lt in_range = absurd (omega arith)
pairs_cons R x xs first rest zero (suc j) d lt in_range = All-from_recursion (R x) xs first j d (omega arith)
pairs_cons R x xs first rest (suc i) zero d lt in_range = absurd (omega arith)
pairs_cons R x xs first rest (suc i) (suc j) d lt in_range = rest i j d (omega arith) (omega arith)

pairs_one : {X : Type 0} (R : X → X → Type 0) (x : X) → AllPairs R (x ∷ [])
pairs_one R x = pairs_cons R x [] tt (pairs_nil R)

distinct_one : {X : Type 0} (x : X) → AreDistinct (x ∷ [])
distinct_one x = pairs_one (λ a b. a ≢ b) x

distinct_two : {X : Type 0} (x y : X) → x ≢ y → AreDistinct (x ∷ y ∷ [])
distinct_two x y differ = pairs_cons (λ a b. a ≢ b) x (y ∷ []) (differ, tt) (distinct_one y)

-- a key column ID and a column Q, in the group q, which takes the greatest value
abbrev id_column : Column
id_column = record { name = codes "ID"; kind = kind.Number; key = true }

abbrev q_column : Column
q_column = record { name = codes "Q"; kind = kind.Number; key = false }

abbrev q_group : Group
q_group = record { name = codes "q"; columns = 1 ∷ []; methods = method.Maximum 1 ∷ method.Discard ∷ [] }

-- Q is 0 or more
abbrev low : Check
low = record { name = codes "low"; column = 1; rel = Ge; value = Num (pos 0) }

abbrev table_t : TableEntry
table_t = record { name = record { 0 = codes "T" }; columns = id_column ∷ q_column ∷ []; groups = q_group ∷ []; key_methods = []; constraints = []; checks = low ∷ []; convergent = false }

-- a master site A, and a snapshot site S of A
abbrev site_a : SiteEntry
site_a = record { name = record { 0 = codes "A" }; master = None; level = None; late = false }

abbrev site_s : SiteEntry
site_s = record { name = record { 0 = codes "S" }; master = Some (record { 0 = codes "A" }); level = None; late = false }

abbrev small : Schema
small = record { sites = site_a ∷ site_s ∷ []; tables = table_t ∷ []; priorities = [] }

-- one column is a choice of columns
one_column : (width place : ℕ) → place < width → AreColumns width (place ∷ [])
one_column width place below = record {
  some = omega arith;
  rising = λ k in_range. absurd (omega arith);
  in_range = All-from_recursion (λ p. p < width) (place ∷ []) (below, tt);
}

q_group_has_shape : HasGroupShape 2 0 q_group
q_group_has_shape = record {
  columns = one_column 2 1 (omega arith);
  methods = omega arith;
  method_columns = All-from_recursion (λ m. IsPlaceIn 2 (method_column m)) q_group.methods (omega arith, (tt, tt));
  method_priorities = All-from_recursion (λ m. IsPlaceIn 0 (method_priority m)) q_group.methods (tt, (tt, tt));
}

table_t_has_shape : HasTableShape 0 table_t
table_t_has_shape = record {
  columns = omega arith;
  column_names = distinct_two (codes "ID") (codes "Q") (λ same. let first : 73 ≡ 81 = ap (λ n. get_or n 0 0) same in omega arith);
  keys = omega arith;
  key_methods = record { number = omega arith; columns = All-from_recursion _ [] tt };
  groups = All-from_recursion (HasGroupShape 2 0) (q_group ∷ []) (q_group_has_shape, tt);
  group_names = distinct_one (codes "q");
  shadow_free = All-from_recursion (λ g. g.name ≢ shadow_name) (q_group ∷ []) ((λ same. cc), tt);
  groups_apart = pairs_one (λ g h. ShareNone g.columns h.columns) q_group;
  constraints = All-from_recursion _ [] tt;
  constraint_number = omega arith;
  constraint_names = pairs_nil (λ a b. a ≢ b);
  key_free = All-from_recursion _ [] tt;
  constraints_apart = pairs_nil (λ c d. ShareNone c.columns d.columns);
  checks = All-from_recursion (λ (c : Check). c.column < 2) (low ∷ []) (omega arith, tt);
  check_number = omega arith;
  check_names = distinct_one (codes "low");
}

-- it has its shape
small_has_shape : HasShape small
small_has_shape = record {
  masters = omega arith;
  snapshots = omega arith;
  site_names = distinct_two site_a.name site_s.name (λ same. let first : 65 ≡ 83 = ap (λ (n : SiteName). get_or n.0 0 0) same in omega arith);
  site_masters = All-from_recursion (HasMaster small.sites) small.sites (tt, ((0, site_a, omega arith, refl, (refl, refl)), tt));
  tables = All-from_recursion (HasTableShape 0) (table_t ∷ []) (table_t_has_shape, tt);
  table_number = omega arith;
  table_names = distinct_one table_t.name;
  priorities = All-from_recursion _ [] tt;
  priority_names = pairs_nil (λ a b. a ≢ b);
}

-- two tables of one name
abbrev twice_t : Schema
twice_t = record small { tables = table_t ∷ table_t ∷ [] }

-- it hasn't its shape
twice_t_lacks_shape : ¬ HasShape twice_t
twice_t_lacks_shape shape = shape.table_names 0 1 table_t.name (omega arith) (omega arith) refl

-- a snapshot site whose master is a snapshot site
abbrev chained : Schema
chained = record small { sites = site_a ∷ site_s ∷ record site_s { name = record { 0 = codes "U" }; master = Some site_s.name } ∷ [] }

chained_lacks_shape : ¬ HasShape chained
chained_lacks_shape shape =
    any_from_none (λ s. (s.name ≡ site_s.name) × (is_early_master s ≡ true)) chained.sites
    ((λ is. let first : 65 ≡ 83 = ap (λ (n : SiteName). get_or n.0 0 0) is.0 in omega arith), ((λ is. cc), ((λ is. let first : 85 ≡ 83 = ap (λ (n : SiteName). get_or n.0 0 0) is.0 in omega arith), tt)))
    (shape.site_masters 2 site_a (omega arith))

-- a snapshot site of a master that joins later
abbrev of_late : Schema
of_late = record small { sites = record site_a { late = true } ∷ site_s ∷ [] }

of_late_lacks_shape : ¬ HasShape of_late
of_late_lacks_shape shape =
    any_from_none (λ s. (s.name ≡ site_a.name) × (is_early_master s ≡ true)) of_late.sites ((λ is. cc), ((λ is. cc), tt))
    (shape.site_masters 1 site_a (omega arith))

-- a group of a column that the table hasn't
abbrev beyond : Schema
beyond = record small { tables = record table_t { groups = record q_group { columns = 2 ∷ []; methods = [] } ∷ [] } ∷ [] }

beyond_lacks_shape : ¬ HasShape beyond
beyond_lacks_shape shape =
    let group = (shape.tables 0 table_t (omega arith)).groups 0 q_group (omega arith) in
    let below : 2 < 2 = group.columns.in_range 0 0 (omega arith) in
    omega arith

-- a number comes before every text, whatever the levels are
abbrev seven : PriorityLevel
seven = record { value = Num (pos 7); level = pos 3 }

abbrev blue : PriorityLevel
blue = record { value = Words (codes "blue"); level = pos 9 }

abbrev red : PriorityLevel
red = record { value = Words (codes "red"); level = pos 1 }

abbrev levelled : List PriorityLevel → PriorityGroup
levelled levels = record { name = codes "p"; levels = levels }

rising_values_have_shape : HasLevelShape (levelled (seven ∷ blue ∷ red ∷ []))
rising_values_have_shape = record { number = omega arith; rising = ((refl, (refl, tt)), ((refl, tt), (tt, tt))) }

-- rising levels aren't rising values
rising_levels_lack_shape : ¬ HasLevelShape (levelled (red ∷ seven ∷ blue ∷ []))
rising_levels_lack_shape shape = let falls : Greater ≡ Less = shape.rising.0.0 in cc

-- a value has one level
value_twice_lacks_shape : ¬ HasLevelShape (levelled (blue ∷ record blue { level = pos 2 } ∷ []))
value_twice_lacks_shape shape = let stays : Equal ≡ Less = shape.rising.0.0 in cc
