use Rattle.std.proofs.Common.{rules, ◌≡◌, to_z, of_z, w64}
use Rattle.proc_calls.proofs.Carried.{place_test}
use Rattle.proc_calls.proofs.carrying.is_place.Goals as goal

pub returns-in-Num : goal.returns-in-Num
returns-in-Num c =
    let same : to_z w64 (of_z w64 c.in-Num.number) ≡ c.in-Num.number = search rules in
    rw (same, c.in-Num.is) (place_test c.in-Num.number)
