-- Where one has no parent, those behind it decide.
use Rattle.std.proofs.Common.{◌≡◌, false, Some, None, sym, ◌∙◌, Bor}
use Rattle.std.specs.Prelude.{Option, option_copied, is_some}
use Rattle.world_commands.proofs.ShownRows.{no_parents_from}
use Rattle.world_commands.proofs.ruled.have_parents.Goals as goal

none_there : {X : Type 0} (found : Option (Bor X)) (there : Option X) → option_copied found ≡ there → is_some found ≡ false → there ≡ None
none_there None there is none = sym is
none_there (Some b) there is none = absurd (cc none)

pub loop-place-preserved : goal.loop-place-preserved
loop-place-preserved c = λ rest.
    let s = c.snapshot_at.result.now.snapshot in
    c.loop-place.invariant (no_parents_from c.args.snapshots.now.snapshots c.loop-place.place s c.snapshot_at.ensures (none_there c.parent.result s.parent c.parent.ensures (sym c.is_some.ensures ∙ c.if-is_some.false)) rest)
