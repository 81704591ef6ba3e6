use Rattle.std.proofs.Common.{◌≡◌, ◌<◌, length, refl, arith}
use borrow.Author.Count.{below_more}
use Rattle.rep_schema.specs.Tables.{constraints_of}
use Rattle.rep_schema.proofs.conditions.is_unique.Goals as goal

-- one violated constraint is enough
pub returns-then-holds_unique : goal.returns-then-holds_unique
returns-then-holds_unique g c =
    let schema = g.R.RowStore.schema c.args.store.now in
    let below : c.loop-c.c < length (constraints_of schema c.args.table) = rw (← c.schema.ensures.value, ← c.constraint_count-c-end.ensures) c.loop-c-test.true in
    (λ yes. cc, λ unique. absurd (unique.unheld c.loop-c.c below (c.holds_unique.ensures.0 c.if-holds_unique.true)))

pub loop-c-preserved : goal.loop-c-preserved
loop-c-preserved g c = below_more _ _ c.loop-c.invariant (λ held. let yes = c.holds_unique.ensures.1 held in let no = c.if-holds_unique.false in cc (yes, no))

pub returns : goal.returns
returns g c =
    let schema = g.R.RowStore.schema c.args.store.now in
    let all : c.constraint_count-c-end.result ≡ length (constraints_of schema c.args.table) = rw (← c.schema.ensures.value) c.constraint_count-c-end.ensures in
    (λ yes. record { unheld = λ k below. c.loop-c.invariant k (omega (arith, all, below)) }, λ unique. refl)
