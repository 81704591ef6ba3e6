-- Declarations worked by hand: what each is refused for, and what it adds.
use Rattle.std.proofs.Common.{◌≡◌, ℕ, List, [], ◌∷◌, ◌++◌, Some, None, true, false, pos, negsuc, refl}
use Rattle.std.specs.Prelude.{codes, map, replicate}
use Rattle.rep_values.specs.declared.name.SiteName.{SiteName}
use Rattle.rep_values.specs.declared.name.TableName.{TableName}
use Rattle.rep_values.specs.declared.literal.Literal.TheVariants as literal
use Rattle.rep_values.specs.declared.value.Value.TheVariants as value
use Rattle.rep_values.specs.declared.refusal.Refusal.TheVariants as refusal
use Rattle.rep_values.specs.declared.refusal.Limit.TheVariants as limit
use Rattle.rep_schema.specs.declared.schema.Schema.{Schema}
use Rattle.rep_schema.specs.declared.schema.Column.{Column}
use Rattle.rep_schema.specs.declared.schema.Kind.TheVariants as kind
use Rattle.rep_schema.specs.declared.schema.Method.TheVariants as method
use Rattle.rep_schema.specs.declared.check.Check.{Check}
use Rattle.rep_schema.specs.declared.check.Rel.TheVariants.{Lt, Ge}
use Rattle.rep_schema.specs.Entries.{master_site, late_site, snapshot_site, plain_table}
use Rattle.rep_schema.specs.Levels.{level_of}
use Rattle.rep_declare.specs.declared.declaration.Declare.TheVariants as declare
use Rattle.rep_declare.specs.declared.declaration.MethodWords.TheVariants as words
use Rattle.rep_declare.specs.Refusals.{declare_refusal}
use Rattle.rep_declare.specs.Additions.{with_checks, with_tables, declared}

abbrev site : List ℕ → SiteName
site name = record { 0 = name }

abbrev table : TableName
table = record { 0 = codes "T" }

-- a key column ID, a NUMBER Q and a TEXT N
abbrev columns : List Column
columns =
    record { name = codes "ID"; kind = kind.Number; key = true } ∷
    record { name = codes "Q"; kind = kind.Number; key = false } ∷
    record { name = codes "N"; kind = kind.Words; key = false } ∷ []

-- Q is 0 or more
abbrev low : Check
low = record { name = codes "low"; column = 1; rel = Ge; value = value.Num (pos 0) }

-- the table T with its check low; the master A, its snapshot site S, and D, which joins later
abbrev small : Schema
small = record {
  sites = master_site (site (codes "A")) ∷ snapshot_site (site (codes "S")) (site (codes "A")) ∷ late_site (site (codes "D")) ∷ [];
  tables = with_checks (low ∷ []) (plain_table table columns) ∷ [];
  priorities = [];
}

-- the same with eight checks
abbrev full : Schema
full = with_tables (with_checks (replicate 8 low) (plain_table table columns) ∷ []) small

-- eight masters, one of them late
abbrev crowded : Schema
crowded = record small { sites = late_site (site (codes "D")) ∷ replicate 7 (master_site (site (codes "A"))) }

late_site_stands_behind : declared (declare.LateSite (site (codes "E"))) small
    ≡ record small { sites = small.sites ++ record { name = record { 0 = codes "E" }; master = None; level = None; late = true } ∷ [] }
late_site_stands_behind = refl

late_site_of_a_snapshot_sites_name : declare_refusal small (declare.LateSite (site (codes "S"))) ≡ Some refusal.NameTaken
late_site_of_a_snapshot_sites_name = refl

name_before_the_ninth_master : declare_refusal crowded (declare.LateSite (site (codes "D"))) ≡ Some refusal.NameTaken
name_before_the_ninth_master = refl

late_master_counts : declare_refusal crowded (declare.Site (site (codes "E"))) ≡ Some (refusal.LimitReached limit.Masters)
late_master_counts = refl

late_master_has_no_snapshot_site : declare_refusal small (declare.SnapSite (site (codes "U")) (site (codes "D"))) ≡ Some refusal.UnknownName
late_master_has_no_snapshot_site = refl

check_stands_behind : declared (declare.Check table (codes "short") (codes "N") Lt (literal.Words (codes "M"))) small
    ≡ with_tables (with_checks (low ∷ record { name = codes "short"; column = 2; rel = Lt; value = value.Words (codes "M") } ∷ []) (plain_table table columns) ∷ []) small
check_stands_behind = refl

checks_name_before_its_column : declare_refusal small (declare.Check table (codes "low") (codes "X") Ge (literal.Num (pos 0))) ≡ Some refusal.NameTaken
checks_name_before_its_column = refl

column_before_the_ninth_check : declare_refusal full (declare.Check table (codes "more") (codes "X") Ge (literal.Num (pos 0))) ≡ Some refusal.UnknownName
column_before_the_ninth_check = refl

ninth_check_before_its_kind : declare_refusal full (declare.Check table (codes "more") (codes "Q") Ge (literal.Words [])) ≡ Some (refusal.LimitReached limit.Checks)
ninth_check_before_its_kind = refl

kind_before_the_range : declare_refusal small (declare.Check table (codes "more") (codes "N") Ge (literal.Num (pos 1_000_000_000_000_001))) ≡ Some refusal.RowShape
kind_before_the_range = refl

check_beyond_the_range : declare_refusal small (declare.Check table (codes "more") (codes "Q") Ge (literal.Num (negsuc 1_000_000_000_000_000))) ≡ Some refusal.ValueRange
check_beyond_the_range = refl

least_number_in_a_check : declare_refusal small (declare.Check table (codes "more") (codes "Q") Ge (literal.Num (negsuc 999_999_999_999_999))) ≡ None
least_number_in_a_check = refl

method_brings_its_priority_group : declared (declare.Method table (codes "g") (words.Priority (codes "Q") (codes "p"))) (declared (declare.Group table (codes "g") (codes "N" ∷ codes "Q" ∷ [])) small)
    ≡ record small {
      tables = record (with_checks (low ∷ []) (plain_table table columns)) {
        groups = record { name = codes "g"; columns = 1 ∷ 2 ∷ []; methods = method.Priority 1 0 ∷ [] } ∷ [];
      } ∷ [];
      priorities = record { name = codes "p"; levels = [] } ∷ [];
    }
method_brings_its_priority_group = refl

-- the levels of red, 7 and blue are declared in this order
abbrev levelled : Schema
levelled =
    declared (declare.Priority (codes "p") (literal.Words (codes "blue")) (pos 9))
    (declared (declare.Priority (codes "p") (literal.Num (pos 7)) (pos 3))
    (declared (declare.Priority (codes "p") (literal.Words (codes "red")) (pos 1)) small))

levels_stand_by_value : levelled
    ≡ record small {
      priorities = record {
        name = codes "p";
        levels =
            record { value = value.Num (pos 7); level = pos 3 } ∷
            record { value = value.Words (codes "blue"); level = pos 9 } ∷
            record { value = value.Words (codes "red"); level = pos 1 } ∷ [];
      } ∷ [];
    }
levels_stand_by_value = refl

-- the levels of 7, blue, red and green in it
each_value_has_its_level : map (λ v. level_of levelled 0 (Some v)) (value.Num (pos 7) ∷ value.Words (codes "blue") ∷ value.Words (codes "red") ∷ value.Words (codes "green") ∷ [])
    ≡ Some (pos 3) ∷ Some (pos 9) ∷ Some (pos 1) ∷ None ∷ []
each_value_has_its_level = refl

value_has_a_level_already : declare_refusal levelled (declare.Priority (codes "p") (literal.Words (codes "blue")) (pos 2)) ≡ Some refusal.NameTaken
value_has_a_level_already = refl

other_group_has_its_own_levels : declare_refusal levelled (declare.Priority (codes "r") (literal.Words (codes "blue")) (pos 2)) ≡ None
other_group_has_its_own_levels = refl
