-- The counters of one table, among those of all tables.
use Rattle.std.proofs.Common.{◌≡◌, ℕ, ◌<◌, List, [], length, map, get_or, set, sym, ap, ◌∙◌, arith}
use Rattle.std.proofs.lemmas.List.{length-map, get_or-map, map-set}
use Rattle.rep_schema.specs.declared.schema.Schema.{Schema}
use Rattle.rep_schema.specs.declared.schema.TableEntry.{TableEntry}
use Rattle.unique_resolve.specs.declared.settled.Settled.{Settled}
use Rattle.unique_resolve.specs.Settling.{Settlement}
use Rattle.unique_resolve.specs.Numbers.{Numbers, AreCounters}

-- there are counters for each table
pub counters_within : (schema : Schema) (numbers : Numbers) (table : ℕ) → AreCounters schema numbers → table < length schema.tables → table < length numbers
counters_within schema numbers table counted within =
    let same = ap length counted in
    omega (arith, within, same, length-map numbers length, length-map schema.tables (λ (entry : TableEntry). length entry.constraints))

-- lists kept in some form, seen as lists
module _ {X : Type 0} (items : X → List ℕ) (kept : List X) (numbers : Numbers) (seen : map items kept ≡ numbers) (table : ℕ) (within : table < length numbers) where
  -- the one at a place is seen there
  pub seen_at : (x : X) → x ≡ get_or kept table x → get_or numbers table [] ≡ items x
  seen_at x is =
      let below : table < length kept = omega (arith, within, ap length (sym seen), length-map kept items) in
      rw (← seen) (get_or-map items kept table x [] below ∙ sym (ap items is))

  -- and another one in its place is seen there
  pub seen_set : (x : X) (ns : List ℕ) → items x ≡ ns → map items (set kept table x) ≡ set numbers table ns
  seen_set x ns is = rw (← seen, ← is) (map-set items kept table x)

abbrev record_of : Settled → Numbers → Settlement
record_of settled numbers = record { settled = settled; numbers = numbers }

-- settlements of one kind with the same counters are the same
pub same_settlement : (settled : Settled) {a b : Numbers} → a ≡ b → record_of settled a ≡ record_of settled b
same_settlement settled same = ap (record_of settled) same
