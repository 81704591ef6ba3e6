-- Two tests of one range give one answer.
use Rattle.std.proofs.Common.{◌≡◌, true, subst}
use Rattle.std.specs.Prelude.{ℤ, ◌↔◌}
use Rattle.std.specs.Int.{w64}
use Rattle.std.proofs.Math.Facts.{to_z-of_z}
use Rattle.rep_schema.specs.Tables.{IsInRange}
use Rattle.rep_schema.specs.Fitting.{is_in_range}
use Rattle.rep_schema.proofs.FittingTests.{same_test}
use Rattle.packet_code.proofs.FormsExact.{range_test}
use Rattle.packet_code.proofs.value_reading.is_in_range.Goals as goal

pub returns : goal.returns
returns c =
    let tested : (c.is_in_range.result ≡ true) ↔ IsInRange c.args.number =
    subst (λ (n : ℤ). (c.is_in_range.result ≡ true) ↔ IsInRange n) (to_z-of_z {w = w64} c.ranges.number) c.is_in_range.ensures in
    same_test c.is_in_range.result (is_in_range c.args.number) tested (range_test c.args.number)
