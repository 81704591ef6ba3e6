-- Which level a value has where a level is declared, and where a level is put.
use Rattle.std.proofs.Common.{◌≡◌, ℕ, zero, suc, ◌+◌, ◌<◌, ℤ, Bool, true, false, cond, List, [], ◌∷◌, length, Option, Some, refl, sym, ap, ◌∙◌, arith}
use Rattle.std.specs.Prelude.{◌==◌, ◌&&◌, slice_get}
use Rattle.std.specs.List.{position_or_len}
use Rattle.std.proofs.lemmas.Bool.{lt-ltb}
use Rattle.std.proofs.lemmas.Bool.Decides.{nat_tests}
use Rattle.rep_values.specs.declared.value.Value.{Value}
use Rattle.rep_values.specs.Literal.{value_of_literal}
use Rattle.rep_values.specs.Equality.{value_eq}
use Rattle.rep_schema.specs.declared.schema.PriorityGroup.{PriorityGroup}
use Rattle.rep_schema.specs.declared.schema.PriorityLevel.{PriorityLevel}
use Rattle.rep_schema.specs.Levels.{level_found, level_among, level_of}
use Rattle.rep_schema.specs.Named.{is_priority}
use Rattle.rep_schema.proofs.Levels.{find-put_at}
use Rattle.rep_declare.specs.Additions.{priority_number, with_changed, with_priority, with_level}
use Rattle.rep_declare.specs.Laws.{OneValueGetsTheLevel}
use Rattle.rep_declare.proofs.ListNames.{same_bytes-same}

-- the priority group of a name is there once it is added where there was none
there_with_priority : (name : List ℕ) (groups : List PriorityGroup) → position_or_len (is_priority name) (with_priority name groups) < length (with_priority name groups)
there_with_priority name [] = rw (same_bytes-same name) (omega arith)
there_with_priority name (g ∷ gs) = go (is_priority name g) refl (there_with_priority name gs)
  where
    go : (b : Bool) → is_priority name g ≡ b → position_or_len (is_priority name) (with_priority name gs) < length (with_priority name gs)
        → position_or_len (is_priority name) (cond b (g ∷ gs) (g ∷ with_priority name gs)) < length (cond b (g ∷ gs) (g ∷ with_priority name gs))
    go true is later = rw is (omega arith)
    go false is later = rw is (omega (arith, later))

priority_number-with_priority : (name : List ℕ) (groups : List PriorityGroup) → priority_number (with_priority name groups) name ≡ position_or_len (is_priority name) (with_priority name groups)
priority_number-with_priority name groups = rw (lt-ltb _ _ (there_with_priority name groups)) refl

module _ (name : List ℕ) (value other : Value) (level : ℤ) where
  -- in one group
  level_among-with_level : (group : PriorityGroup) → level_among (Some (with_level value level group)) other ≡ cond (value_eq other value) (Some level) (level_among (Some group) other)
  level_among-with_level group = ap level_found (find-put_at other (record { value = value; level = level }) group.levels) ∙ go (value_eq other value) _
    where
      go : (b : Bool) (found : Option PriorityLevel) → level_found (cond b (Some (record { value = value; level = level })) found) ≡ cond b (Some level) (level_found found)
      go true found = refl
      go false found = refl

  -- in all of them
  level_among-declared : (groups : List PriorityGroup) (place : ℕ)
      → level_among (slice_get (with_changed (is_priority name) (with_level value level) (with_priority name groups)) place) other
      ≡ cond (place == position_or_len (is_priority name) (with_priority name groups) && value_eq other value) (Some level) (level_among (slice_get groups place) other)
  level_among-declared [] zero = rw (same_bytes-same name) (level_among-with_level (record { name = name; levels = [] }))
  level_among-declared [] (suc place) =
      let off : (suc place == 0) ≡ false = grind (arith, nat_tests) in
      rw (same_bytes-same name, off) refl
  level_among-declared (g ∷ gs) zero = go (is_priority name g) refl
    where
      go : (b : Bool) → is_priority name g ≡ b
          → level_among (slice_get (with_changed (is_priority name) (with_level value level) (cond b (g ∷ gs) (g ∷ with_priority name gs))) zero) other
          ≡ cond (zero == position_or_len (is_priority name) (cond b (g ∷ gs) (g ∷ with_priority name gs)) && value_eq other value) (Some level) (level_among (Some g) other)
      go true is = rw is (level_among-with_level g)
      go false is =
          let off : (0 == 1 + position_or_len (is_priority name) (with_priority name gs)) ≡ false = grind (arith, nat_tests) in
          rw (is, off) refl
  level_among-declared (g ∷ gs) (suc place) = go (is_priority name g) refl (level_among-declared gs place)
    where
      go : (b : Bool) → is_priority name g ≡ b
          → level_among (slice_get (with_changed (is_priority name) (with_level value level) (with_priority name gs)) place) other
          ≡ cond (place == position_or_len (is_priority name) (with_priority name gs) && value_eq other value) (Some level) (level_among (slice_get gs place) other)
          → level_among (slice_get (with_changed (is_priority name) (with_level value level) (cond b (g ∷ gs) (g ∷ with_priority name gs))) (suc place)) other
          ≡ cond (suc place == position_or_len (is_priority name) (cond b (g ∷ gs) (g ∷ with_priority name gs)) && value_eq other value) (Some level) (level_among (slice_get gs place) other)
      go true is later =
          let off : (suc place == 0) ≡ false = grind (arith, nat_tests) in
          rw (is, off) refl
      go false is later =
          let next : (suc place == 1 + position_or_len (is_priority name) (with_priority name gs)) ≡ (place == position_or_len (is_priority name) (with_priority name gs)) = grind (arith, nat_tests) in
          rw (is, next) later

pub one_value_gets_the_level : OneValueGetsTheLevel
one_value_gets_the_level schema name value level group other =
    level_among-declared name (value_of_literal value) other level schema.priorities group
    ∙ ap (λ place. cond (group == place && value_eq other (value_of_literal value)) (Some level) (level_of schema group (Some other))) (sym (priority_number-with_priority name schema.priorities))
