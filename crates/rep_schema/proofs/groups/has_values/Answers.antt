use Rattle.std.proofs.Common.{◌≡◌, length, sym, ◌∙◌, arith}
use Rattle.std.specs.Prelude.{slice_get, Some}
use Rattle.std.proofs.lemmas.Bool.Decides.{Decides-eqb}
use Rattle.std.proofs.lemmas.Option.{slice_get_within}
use Rattle.rep_schema.proofs.ValuesAt.{first_same, rest_same, rest_same_none, rest_read}
use Rattle.rep_schema.proofs.groups.has_values.Goals as goal
use Rattle.rep_schema.proofs.groups.has_values.Goals.{in-Some+else-not-is_at, in_default}

-- another value stands there, so not all are the same
pub returns-then-not-is_at : goal.returns-then-not-is_at
returns-then-not-is_at c = (
  λ yes. cc,
  λ same.
      let there = first_same c.args.places.now c.args.row.now c.args.values.now c.loop-place.place-index c.loop-place.read c.in-Some.value.now c.loop-place-test.true (sym c.in-Some.ensures) (c.loop-place.invariant.rest.0 same) in
      sym c.if-not-is_at.true ∙ c.is_at.ensures.1 there,
)

pub loop-place-preserved : goal.loop-place-preserved
loop-place-preserved c = elim c.match-value_at.branch [
  | in-Some+else-not-is_at w ↦
      let there : slice_get c.args.values.now c.loop-place.read ≡ Some w.in-Some.value.now = w.is_at.ensures.0 w.if-not-is_at.false in
      let behind = rest_same c.args.places.now c.args.row.now c.args.values.now c.loop-place.place-index c.loop-place.read w.in-Some.value.now c.loop-place-test.true (sym w.in-Some.ensures) there in
      let more = slice_get_within c.args.values.now c.loop-place.read w.in-Some.value.now there in
      rw w.read-is (record {
        within = omega (arith, more);
        rest = (λ same. behind.0 (c.loop-place.invariant.rest.0 same), λ same. c.loop-place.invariant.rest.1 (behind.1 same));
      })
  | in_default w ↦
      let behind = rest_same_none c.args.places.now c.args.row.now c.args.values.now c.loop-place.place-index c.loop-place.read c.loop-place-test.true (sym w.in_default.ensures) in
      rw w.read-is (record {
        within = c.loop-place.invariant.within;
        rest = (λ same. behind.0 (c.loop-place.invariant.rest.0 same), λ same. c.loop-place.invariant.rest.1 (behind.1 same));
      })
]

-- all values are the same where all are read
pub returns : goal.returns
returns c =
    let all = rest_read c.args.places.now c.args.row.now c.args.values.now c.loop-place.place-index c.loop-place.read c.loop-place-test.false c.loop-place.invariant.within in
    let counted = Decides-eqb c.loop-place.read (length c.args.values.now) in
    (λ yes. c.loop-place.invariant.rest.1 (all.1 (counted.0 yes)), λ same. counted.1 (all.0 (c.loop-place.invariant.rest.0 same)))
