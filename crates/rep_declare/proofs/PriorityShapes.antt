-- A priority group more, or a level more in one, keeps the shape of a schema.
use Rattle.std.proofs.Common.{◌≡◌, ◌≢◌, ◌⊎◌, ℕ, ◌+◌, ◌<◌, ◌≤◌, ℤ, Bool, true, false, cond, List, [], ◌∷◌, ◌++◌, length, Option, Some, None, refl, sym, ap, subst, inl, inr, arith}
use Rattle.std.specs.List.{find}
use Rattle.std.specs.declared.cmp.Ordering.{Ordering}
use Rattle.std.specs.declared.cmp.Ordering.TheVariants.{Less, Equal, Greater}
use Rattle.std.proofs.lemmas.List.{length_push}
use Rattle.std.proofs.lemmas.List.Elements.{All-push, All-weaker}
use Rattle.rep_lists.specs.Rising.{put_at, put_here}
use Rattle.rep_lists.proofs.Rising.{rising_put}
use Rattle.rep_values.specs.declared.literal.Literal.{Literal}
use Rattle.rep_values.specs.declared.value.Value.{Value}
use Rattle.rep_values.specs.declared.refusal.Limit.TheVariants as limit
use Rattle.rep_values.specs.Literal.{value_of_literal}
use Rattle.rep_values.specs.Order.{value_cmp}
use Rattle.rep_values.specs.OrderLaws.{value_cmp_total}
use Rattle.rep_schema.specs.declared.schema.Schema.{Schema}
use Rattle.rep_schema.specs.declared.schema.PriorityGroup.{PriorityGroup}
use Rattle.rep_schema.specs.declared.schema.PriorityLevel.{PriorityLevel}
use Rattle.rep_schema.specs.Limits.{most_levels}
use Rattle.rep_schema.specs.Levels.{beside_value}
use Rattle.rep_schema.specs.Shape.{HasLevelShape, HasShape}
use Rattle.rep_declare.specs.declared.declaration.Declare.TheVariants as declare
use Rattle.rep_schema.specs.Named.{is_priority, priority_named}
use Rattle.rep_declare.specs.Refusals.{level_count, declare_refusal}
use Rattle.rep_declare.specs.Additions.{with_changed, with_priority, with_priorities, with_level, declared}
use Rattle.rep_values.proofs.RefusalSteps.{or_then-None, full-None}
use Rattle.rep_declare.proofs.ListNames.{same_bytes-false, find-None, AreDistinct-push, length-with_changed, All-with_changed, AreDistinct-with_changed}
use Rattle.rep_declare.proofs.TableShapes.{HasShape-with_priorities}

abbrev empty_group : List ℕ → PriorityGroup
empty_group name = record { name = name; levels = [] }

-- the groups stay, or an empty one stands behind them
with_priority-cases : (name : List ℕ) (groups : List PriorityGroup)
    → (with_priority name groups ≡ groups) ⊎ ((find (is_priority name) groups ≡ None) × (with_priority name groups ≡ groups ++ empty_group name ∷ []))
with_priority-cases name [] = inr (refl, refl)
with_priority-cases name (g ∷ gs) = at (is_priority name g) (with_priority-cases name gs)
  where
    at : (b : Bool) → (with_priority name gs ≡ gs) ⊎ ((find (is_priority name) gs ≡ None) × (with_priority name gs ≡ gs ++ empty_group name ∷ []))
        → (cond b (g ∷ gs) (g ∷ with_priority name gs) ≡ g ∷ gs)
        ⊎ ((cond b (Some g) (find (is_priority name) gs) ≡ None) × (cond b (g ∷ gs) (g ∷ with_priority name gs) ≡ g ∷ (gs ++ empty_group name ∷ [])))
    at true later = inl refl
    at false (inl same) = inl (ap (λ hs. g ∷ hs) same)
    at false (inr more) = inr (more.0, ap (λ hs. g ∷ hs) more.1)

-- the group of the name is then the one that was there, or it is empty
find-with_priority : (name : List ℕ) (groups : List PriorityGroup) (group : PriorityGroup) → find (is_priority name) (with_priority name groups) ≡ Some group
    → (find (is_priority name) groups ≡ Some group) ⊎ (group.levels ≡ [])
find-with_priority name [] group found = at (is_priority name (empty_group name)) found
  where
    at : (b : Bool) → cond b (Some (empty_group name)) None ≡ Some group → (None ≡ Some group) ⊎ (group.levels ≡ [])
    at true found = let is : empty_group name ≡ group = cc in inr (ap (λ (g : PriorityGroup). g.levels) (sym is))
    at false found = inl found
find-with_priority name (g ∷ gs) group found = at (is_priority name g) refl found (find-with_priority name gs group)
  where
    at : (b : Bool) → is_priority name g ≡ b → find (is_priority name) (cond b (g ∷ gs) (g ∷ with_priority name gs)) ≡ Some group
        → (find (is_priority name) (with_priority name gs) ≡ Some group → (find (is_priority name) gs ≡ Some group) ⊎ (group.levels ≡ []))
        → (find (is_priority name) (g ∷ gs) ≡ Some group) ⊎ (group.levels ≡ [])
    at true is found later = inl found
    at false is found later = rw is (later (rw is at found))

module _ (schema : Schema) (shape : HasShape schema) (name : List ℕ) where
  -- with the group of a name, if it is new an empty one
  pub HasShape-with_priority : HasShape (with_priorities (with_priority name schema.priorities) schema)
  HasShape-with_priority = at (with_priority-cases name schema.priorities)
    where
      at : (with_priority name schema.priorities ≡ schema.priorities)
          ⊎ ((find (is_priority name) schema.priorities ≡ None) × (with_priority name schema.priorities ≡ schema.priorities ++ empty_group name ∷ []))
          → HasShape (with_priorities (with_priority name schema.priorities) schema)
      at (inl same) = subst (λ groups. HasShape (with_priorities groups schema)) (sym same)
          (HasShape-with_priorities schema schema.priorities shape (omega arith) shape.priorities shape.priority_names)
      at (inr more) = subst (λ groups. HasShape (with_priorities groups schema)) (sym more.1)
          (HasShape-with_priorities schema (schema.priorities ++ empty_group name ∷ []) shape (omega (arith, length_push schema.priorities (empty_group name)))
          (All-push HasLevelShape schema.priorities (empty_group name) shape.priorities
          (record { number = omega arith; rising = tt }))
          (AreDistinct-push (λ p. p.name) schema.priorities (empty_group name) shape.priority_names
          (All-weaker (λ p. is_priority name p ≡ false) (λ p. p.name ≢ name) (λ p. same_bytes-false p.name name) schema.priorities
          (find-None (is_priority name) schema.priorities more.0))))

-- a put adds one value at most
length-put_at : {X : Type 0} (at : X → Ordering) (y : X) (xs : List X) → length (put_at at y xs) ≤ length xs + 1
length-put_at at y [] = omega arith
length-put_at at y (x ∷ xs) = go (at x) (length-put_at at y xs)
  where
    go : (o : Ordering) → length (put_at at y xs) ≤ length xs + 1 → length (put_here o y x xs (put_at at y xs)) ≤ length (x ∷ xs) + 1
    go Less later = omega (arith, later)
    go Equal later = omega arith
    go Greater later = omega arith

-- a level more
with_level-shape : (value : Value) (level : ℤ) (group : PriorityGroup) → HasLevelShape group → length group.levels < most_levels → HasLevelShape (with_level value level group)
with_level-shape value level group shape room =
    let added : PriorityLevel = record { value = value; level = level } in
    record {
      number = omega (arith, room, length-put_at (beside_value value) added group.levels);
      rising = rising_put (λ (l : PriorityLevel). l.value) value_cmp value_cmp_total added group.levels shape.rising;
    }

-- the group that is found after an empty one is put where there was none has as many levels as the one before
level_count-room : (found : Option PriorityGroup) (group : PriorityGroup) → (found ≡ Some group) ⊎ (group.levels ≡ []) → level_count found < most_levels
    → length group.levels < most_levels
level_count-room found group (inl same) room = subst (λ o. level_count o < most_levels) same room
level_count-room found group (inr none) room = rw none (omega arith)

-- with a level that isn't refused
pub HasShape-Priority : (schema : Schema) (name : List ℕ) (literal : Literal) (level : ℤ) → HasShape schema → declare_refusal schema (declare.Priority name literal level) ≡ None
    → HasShape (declared (declare.Priority name literal level) schema)
HasShape-Priority schema name literal level shape passed =
    let value : Value = value_of_literal literal in
    let groups : List PriorityGroup = with_priority name schema.priorities in
    let with_it : Schema = with_priorities groups schema in
    let shaped : HasShape with_it = HasShape-with_priority schema shape name in
    let change : PriorityGroup → PriorityGroup = with_level value level in
    let steps = or_then-None _ _ passed in
    let room : level_count (priority_named schema name) < most_levels = full-None _ _ limit.Levels (or_then-None _ _ steps.1).0 in
    let fits : (group : PriorityGroup) → find (is_priority name) groups ≡ Some group → HasLevelShape group → HasLevelShape (change group) = λ group found fits.
    with_level-shape value level group fits (level_count-room (priority_named schema name) group (find-with_priority name schema.priorities group found) room) in
    HasShape-with_priorities with_it (with_changed (is_priority name) change groups) shaped
    (omega (arith, length-with_changed (is_priority name) change groups))
    (All-with_changed (is_priority name) change HasLevelShape groups shaped.priorities fits)
    (AreDistinct-with_changed (is_priority name) change (λ p. p.name) (λ p. refl) groups shaped.priority_names)
