use Rattle.std.proofs.Common.{◌≡◌, ℕ, Bool, ◌+◌, refl, sym, ◌∙◌}
use Rattle.rep_schema.specs.Tables.{columns_of}
use Rattle.txn_effects.specs.Filled.{is_modified, bound_from, next_stamp}
use Rattle.txn_effects.specs.Stamps.{capped}
use Rattle.txn_effects.specs.Chosen.{chosen_at}
use Rattle.local_txn.proofs.FilledRows.{made_with-none, made_with-same, bound_from-same}
use Rattle.local_txn.proofs.filled.updated.Goals as goal

pub returns-then-not-has_filled : goal.returns-then-not-has_filled
returns-then-not-has_filled c =
    let columns = columns_of c.args.schema.now c.args.table in
    let modified : ℕ → Bool = is_modified c.args.schema.now c.args.table c.args.before.now c.args.row in
    sym (made_with-none columns c.args.site.now c.args.stamps.now.last modified (capped (next_stamp c.args.stamps.now (bound_from modified 0 columns c.args.before.now))) c.args.row
    (rw c.columns_of-columns.ensures at (sym c.has_filled.ensures ∙ c.if-not-has_filled.true)) c.requires.long)

-- the columns of the modified groups are marked
pub returns : goal.returns
returns c =
    let columns = columns_of c.args.schema.now c.args.table in
    let modified : ℕ → Bool = is_modified c.args.schema.now c.args.table c.args.before.now c.args.row in
    let chosen : ℕ → Bool = chosen_at c.modified_places-chosen.result in
    let same : (k : ℕ) → chosen k ≡ modified k = λ k. c.modified_places-chosen.ensures k ∙ rw c.values.ensures.value refl in
    let bound : c.bound-bound.result ≡ bound_from modified 0 columns c.args.before.now =
    c.bound-bound.ensures ∙ rw c.columns_of-columns.ensures (bound_from-same chosen modified 0 columns c.args.before.now (λ k below. same (0 + k))) in
    c.made_with.ensures ∙ rw (c.columns_of-columns.ensures, bound)
    (made_with-same chosen modified columns c.args.site.now c.args.stamps.now.last (capped (next_stamp c.args.stamps.now (bound_from modified 0 columns c.args.before.now))) c.args.row (λ k below. same k))
