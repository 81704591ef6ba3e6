-- Room for changes, and what one change takes of it.
use Rattle.std.proofs.Common.{◌≡◌, ◌≢◌, ℕ, ◌+◌, ◌<◌, ◌≤◌, List, [], ◌∷◌, length, drop, zero, suc, Bool, true, false, cond, Some, refl, sym, arith}
use Rattle.std.specs.Prelude.{is_none, ◌==◌, ◌&&◌}
use Rattle.std.specs.List.{AllByRecursion}
use Rattle.std.proofs.lemmas.Bool.{eq-eqb, ne_eqb}
use Rattle.std.proofs.lemmas.List.Sums.{sum_by-append}
use Rattle.rep_schema.specs.declared.schema.Schema.{Schema}
use Rattle.rep_schema.specs.declared.change.Change.{Change}
use Rattle.rep_schema.specs.Tables.{Cells, Rows}
use Rattle.rep_schema.specs.Changes.{after_change, LeadsTo, room_for}
use Rattle.rep_schema.proofs.Leading.{room_for-append}
use Rattle.txn_apply.specs.Making.{changes_in}

-- a change counts in its own table
pub changes_in-own : (change : Change) → changes_in change.table (change ∷ []) ≡ 1
changes_in-own change = rw (eq-eqb change.table change.table refl) refl

-- and in no other
pub changes_in-other : (t : ℕ) (change : Change) → t ≢ change.table → changes_in t (change ∷ []) ≡ 0
changes_in-other t change other = rw (ne_eqb change.table t (λ same. other (sym same))) refl

-- the first change and the others
pub changes_in-first : (t : ℕ) (change : Change) (changes : List Change) → changes_in t (change ∷ changes) ≡ changes_in t (change ∷ []) + changes_in t changes
changes_in-first t change changes = sum_by-append (λ (c : Change). cond (c.table == t) 1 0) (change ∷ []) changes

pub room_for-first : (t : ℕ) (change : Change) (changes : List Change) → room_for t (change ∷ changes) ≡ room_for t (change ∷ []) + room_for t changes
room_for-first t change changes = room_for-append t (change ∷ []) changes

-- no more changes are in one table than there are
pub changes_in-length : (t : ℕ) (changes : List Change) → changes_in t changes ≤ length changes
changes_in-length t [] = omega arith
changes_in-length t (change ∷ changes) = omega (arith, changes_in-first t change changes, one (change.table == t), changes_in-length t changes)
  where
    one : (b : Bool) → 0 + cond b 1 0 ≤ 1
    one true = omega arith
    one false = omega arith

-- taking a change back wants room for one row at most, and in its table alone
pub room_for-changes_in : (t : ℕ) (change : Change) → room_for t (change ∷ []) ≤ changes_in t (change ∷ [])
room_for-changes_in t change = go (change.table == t) (is_none change.after)
  where
    go : (a b : Bool) → 0 + cond (a && b) 1 0 ≤ 0 + cond a 1 0
    go true true = omega arith
    go true false = omega arith
    go false b = omega arith

-- and none where a row was put
pub room_for-put : (t : ℕ) (change : Change) (row : Cells) → change.after ≡ Some row → room_for t (change ∷ []) ≡ 0
room_for-put t change row has = rw has (go (change.table == t))
  where
    go : (a : Bool) → 0 + cond (a && false) 1 0 ≡ 0
    go true = refl
    go false = refl

-- the later changes want no more room than all
pub room_for-drop : (t n : ℕ) (changes : List Change) → room_for t (drop n changes) ≤ room_for t changes
room_for-drop t zero changes = omega arith
room_for-drop t (suc n) [] = omega arith
room_for-drop t (suc n) (change ∷ changes) = omega (arith, room_for-drop t n changes, room_for-first t change changes)

-- changes that lead from tables of a schema are of its tables
pub each_in_schema : (schema : Schema) (changes : List Change) (earlier later : List Rows) → LeadsTo schema changes earlier later → AllByRecursion (λ change. change.table < length schema.tables) changes
each_in_schema schema [] earlier later lead = tt
each_in_schema schema (change ∷ changes) earlier later lead = (lead.0.table, each_in_schema schema changes (after_change schema change earlier) later lead.1)
