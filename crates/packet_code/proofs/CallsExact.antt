-- Parts, calls and transactions are read exactly.
use Rattle.std.proofs.Common.{◌≡◌, ◌≢◌, ℕ, suc, zero, ◌+◌, ◌<◌, ◌≤◌, ◌==◌, ◌||◌, ◌⊎◌, not, Bool, true, false, nat_le, nat_lt, List, [], ◌∷◌, ◌++◌, length, map, inl, inr, refl, sym, subst, arith}
use Rattle.std.specs.Prelude.{◌↔◌, flat_map}
use Rattle.std.specs.Int.{w16, to_be_bytes}
use Rattle.std.specs.List.{AllByRecursion}
use Rattle.std.specs.List.Sorted.{IsStrictlyIncreasing}
use Rattle.std.proofs.lemmas.Bool.{leb-true, le-leb, eqb-true}
use Rattle.std.proofs.lemmas.Slice.Eq.{slice_eq-Decides}
use Rattle.rep_values.specs.Equality.{value_eq-Decides}
use Rattle.rep_schema.specs.Tables.{Cells}
use Rattle.rep_schema.specs.Groups.{are_same}
use Rattle.rep_calls.specs.declared.call.Call.{Call}
use Rattle.rep_calls.specs.declared.call.Call.TheVariants.{Insert, Update, Delete}
use Rattle.rep_calls.specs.declared.call.Part.{Part}
use Rattle.packet_code.specs.Limits.{IsPlainValue, IsPlainRow, IsPlainKey, is_group_number, IsPlainPart, ArePlainParts, IsPlainTable, IsPlainCall, IsPlainTxn}
use Rattle.packet_code.specs.Spelling.{value_bytes, values_bytes, part_bytes, parts_bytes, call_bytes, txn_bytes}
use Rattle.packet_code.specs.Reading.{Reading, byte, ◌▸◌, times}
use Rattle.packet_code.specs.Forms.{value, row, is_part, part_of, part, rise, groups_rise, parts, insert_of, update_of, delete_of, insert, update, delete, call_of_kind, call, txn_of, txn}
use Rattle.packet_code.proofs.Exact.{IsExact, both_true, said_so, tested-exact, made-exact, pair-exact, behind-exact, either-exact, nothing-exact, byte-exact, times-exact, counted-exact}
use Rattle.packet_code.proofs.Numbers.{u32-exact, u16-exact}
use Rattle.packet_code.proofs.FormsExact.{value-exact, row-exact, key-exact}

group_fits : (group : ℕ) → is_group_number group ≡ true → group < 256
group_fits group is = elim (either_true (nat_le group 31) (group == 255) is) [
  | inl named ↦ let small = leb-true group 31 named in omega (arith, small)
  | inr shadow ↦ let same = eqb-true group 255 shadow in omega (arith, same)
]
  where
    either_true : (a b : Bool) → (a || b) ≡ true → (a ≡ true) ⊎ (b ≡ true)
    either_true true b e = inl refl
    either_true false b e = inr e

-- the test of old and new values
pub are_same_test : (a b : Cells) → (are_same a b ≡ true) ↔ (a ≡ b)
are_same_test a b = slice_eq-Decides value_eq-Decides a b (are_same a b) refl

not_same : (a b : Cells) → (not (are_same a b) ≡ true) ↔ (a ≢ b)
not_same a b = go (are_same a b) refl
  where
    go : (t : Bool) → are_same a b ≡ t → (not t ≡ true) ↔ (a ≢ b)
    go true same = (λ e. cc, λ differ. absurd (differ ((are_same_test a b).0 same)))
    go false same = (λ e equal. let is = (are_same_test a b).1 equal in cc, λ differ. refl)

-- the group, the old values, and as many new ones
part_parts-exact : IsExact (λ (p : ℕ × (Cells × Cells)). (p.0 < 256) × (IsPlainRow p.1.0 × ((length p.1.1 ≡ length p.1.0) × AllByRecursion IsPlainValue p.1.1)))
    (λ p. (p.0 ∷ []) ++ values_bytes p.1.0 ++ flat_map value_bytes p.1.1)
    (byte ▸ λ group. row ▸ λ old. times (length old) value)
part_parts-exact = pair-exact byte-exact (λ group fits. pair-exact row-exact (λ old is. times-exact value-exact (length old)))

part_test : (p : ℕ × (Cells × Cells)) → (is_part p ≡ true) ↔ ((is_group_number p.0 ≡ true) × (p.1.0 ≢ p.1.1))
part_test p = (
  λ e. let b = both_true (is_group_number p.0) (not (are_same p.1.0 p.1.1)) e in (b.0, (not_same p.1.0 p.1.1).0 b.1),
  λ h. rw (h.0, (not_same p.1.0 p.1.1).1 h.1) refl,
)

pub part-exact : IsExact IsPlainPart part_bytes part
unfolding part
part-exact = made-exact IsPlainPart part_bytes part_of
    (tested-exact part_parts-exact is_part (λ p. (is_group_number p.0 ≡ true) × (p.1.0 ≢ p.1.1)) (λ p is. part_test p))
    (λ p is. (record { group = is.1.0; old = is.0.1.0; new = record { number = subst (λ n. (1 ≤ n) × (n ≤ 32)) (sym is.0.1.1.0) is.0.1.0.number; values = is.0.1.1.1 }; number = is.0.1.1.0; differ = is.1.1 }, refl))
    (λ part is. ((part.group, (part.old, part.new)), ((group_fits part.group is.group, (is.old, (is.number, is.new.values))), (is.group, is.differ)), refl))

-- the test of rising numbers
pub rise_test : (xs : List ℕ) → (rise xs ≡ true) ↔ IsStrictlyIncreasing xs
rise_test [] = (λ e k lt. absurd (omega (arith, lt)), λ h. refl)
rise_test (x ∷ []) = (λ e k lt. absurd (omega (arith, lt)), λ h. refl)
rise_test (x ∷ y ∷ ys) = (
  λ e. let b = both_true (nat_lt x y) (rise (y ∷ ys)) e in each (leb-true (suc x) y b.0) ((rise_test (y ∷ ys)).0 b.1),
  λ h. let b = le-leb (suc x) y (h 0 (omega arith)) in rw (b, (rise_test (y ∷ ys)).1 (λ k lt. let e : suc k + 1 ≡ suc (k + 1) = omega arith in rw e at (h (suc k) (omega (arith, lt))))) refl,
)
  where
    each : x < y → IsStrictlyIncreasing (y ∷ ys) → IsStrictlyIncreasing (x ∷ y ∷ ys)
    each first rest zero lt = first
    each first rest (suc k) lt = let e : suc k + 1 ≡ suc (k + 1) = omega arith in rw e (rest k (omega (arith, lt)))

pub parts-exact : IsExact ArePlainParts parts_bytes parts
unfolding parts
parts-exact = said_so
    (tested-exact (counted-exact byte-exact 33 (λ n le. omega (arith, le)) part-exact) groups_rise (λ parts. IsStrictlyIncreasing (map (λ (part : Part). part.group) parts)) (λ parts is. rise_test (map (λ (part : Part). part.group) parts)))
    (λ parts. (λ p. record { some = p.0.0; most = p.0.1; each = p.0.2; rise = p.1 }, λ r. ((r.some, r.most, r.each), r.rise)))

-- which kind a call is
abbrev kind_of : Call → ℕ
kind_of (Insert table cells) = 1
kind_of (Update table of changes) = 2
kind_of (Delete table cells) = 3

-- the bytes of a call behind its kind
abbrev bytes_of : Call → List ℕ
bytes_of (Insert table cells) = to_be_bytes w16 table ++ values_bytes cells
bytes_of (Update table of changes) = to_be_bytes w16 table ++ values_bytes of ++ parts_bytes changes
bytes_of (Delete table cells) = to_be_bytes w16 table ++ values_bytes cells

-- a call of a kind
abbrev IsCallOfKind : ℕ → Call → Type 0
IsCallOfKind kind call = IsPlainCall call × (kind_of call ≡ kind)

insert-exact : IsExact (IsCallOfKind 1) bytes_of insert
insert-exact = made-exact (IsCallOfKind 1) bytes_of insert_of (pair-exact u16-exact (λ table fits. row-exact))
    (λ p is. ((is, refl), refl))
    back
  where
    back : (call : Call) → IsCallOfKind 1 call → (p : ℕ × Cells) × (IsPlainTable p.0 × IsPlainRow p.1) × (insert_of p ≡ call)
    back (Insert table cells) is = ((table, cells), is.0, refl)
    back (Update table of changes) is = cc
    back (Delete table cells) is = cc

update-exact : IsExact (IsCallOfKind 2) bytes_of update
update-exact = made-exact (IsCallOfKind 2) bytes_of update_of (pair-exact u16-exact (λ table fits. pair-exact key-exact (λ key is. parts-exact)))
    (λ p is. (((is.0, is.1.0, is.1.1), refl), refl))
    back
  where
    back : (call : Call) → IsCallOfKind 2 call → (p : ℕ × (Cells × List Part)) × (IsPlainTable p.0 × (IsPlainKey p.1.0 × ArePlainParts p.1.1)) × (update_of p ≡ call)
    back (Insert table cells) is = cc
    back (Update table of changes) is = ((table, (of, changes)), (is.0.0, (is.0.1, is.0.2)), refl)
    back (Delete table cells) is = cc

delete-exact : IsExact (IsCallOfKind 3) bytes_of delete
delete-exact = made-exact (IsCallOfKind 3) bytes_of delete_of (pair-exact u16-exact (λ table fits. row-exact))
    (λ p is. ((is, refl), refl))
    back
  where
    back : (call : Call) → IsCallOfKind 3 call → (p : ℕ × Cells) × (IsPlainTable p.0 × IsPlainRow p.1) × (delete_of p ≡ call)
    back (Insert table cells) is = cc
    back (Update table of changes) is = cc
    back (Delete table cells) is = ((table, cells), is.0, refl)

-- no call is of another kind
no_call : (kind : ℕ) → (kind == 1) ≡ false → (kind == 2) ≡ false → (kind == 3) ≡ false → (call : Call) → IsCallOfKind kind call → ⊥
no_call kind one two three (Insert table cells) is = let e : (kind == 1) ≡ true = rw (← is.1) refl in cc
no_call kind one two three (Update table of changes) is = let e : (kind == 2) ≡ true = rw (← is.1) refl in cc
no_call kind one two three (Delete table cells) is = let e : (kind == 3) ≡ true = rw (← is.1) refl in cc

-- a reading of a kind serves where the kind is that one
pub of_kind : {A : Type 0} (Is : ℕ → A → Type 0) (spell : A → List ℕ) (reading : Reading A) (kind known : ℕ) → IsExact (Is known) spell reading
    → (kind == known) ≡ true → IsExact (Is kind) spell reading
of_kind Is spell reading kind known exact same = subst (λ k. IsExact (Is k) spell reading) (sym (eqb-true kind known same)) exact

pub call-exact : IsExact IsPlainCall call_bytes call
unfolding call
call-exact = behind-exact IsPlainCall call_bytes kind_of bytes_of byte-exact of_each is_kind split
  where
    of_each : (kind : ℕ) → kind < 256 → IsExact (IsCallOfKind kind) bytes_of (call_of_kind kind)
    of_each kind fits = either-exact (kind == 1) _ _ (of_kind IsCallOfKind bytes_of _ kind 1 insert-exact)
        (λ one. either-exact (kind == 2) _ _ (of_kind IsCallOfKind bytes_of _ kind 2 update-exact)
        (λ two. either-exact (kind == 3) _ _ (of_kind IsCallOfKind bytes_of _ kind 3 delete-exact)
        (λ three. nothing-exact (no_call kind one two three))))

    is_kind : (call : Call) → IsPlainCall call → kind_of call < 256
    is_kind (Insert table cells) is = omega arith
    is_kind (Update table of changes) is = omega arith
    is_kind (Delete table cells) is = omega arith

    split : (call : Call) → call_bytes call ≡ (kind_of call ∷ []) ++ bytes_of call
    split (Insert table cells) = refl
    split (Update table of changes) = refl
    split (Delete table cells) = refl

pub txn-exact : IsExact IsPlainTxn txn_bytes txn
unfolding txn
txn-exact = made-exact IsPlainTxn txn_bytes txn_of (counted-exact u32-exact 1000 (λ n le. omega (arith, le)) call-exact)
    (λ calls is. (record { some = is.0; most = is.1; calls = is.2 }, refl))
    (λ txn is. (txn.calls, (is.some, is.most, is.calls), refl))
