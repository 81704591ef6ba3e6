-- One entry more, whether it brings an error of the sender or not.
use Rattle.std.proofs.Common.{◌≡◌, ◌+◌, ℕ, take, drop, subst, sym}
use Rattle.std.specs.List.{list_any}
use Rattle.std.specs.Ordering.{nat_cmp}
use Rattle.std.specs.BTreeSet.{BTreeSet, contains}
use Rattle.site_rounds.specs.NewErrors.{brings}
use Rattle.site_rounds.proofs.ErrorTexts.{brought_more, brought_same}
use Rattle.site_rounds.proofs.errors.brought_positions.Goals as goal
use Rattle.site_rounds.proofs.errors.brought_positions.Goals.{in-Some+in_ok-insert, in_default}

pub loop-behind-preserved : goal.loop-behind-preserved
loop-behind-preserved g c =
    let journal = (g.J.Journalled.told_of c.args.site.now).journal in
    let origin = c.args.origin.now in
    let behind = c.loop-behind.behind in
    let rest = drop (behind + 1) journal in
    let e = c.entry_behind.result.now in
    let before = contains nat_cmp c.loop-behind.positions in
    let told : BTreeSet ℕ → Type 0 = λ positions. (p : ℕ) → contains nat_cmp positions p ≡ list_any (brings origin p) (take (behind + 1) journal) in
    elim c.match-brought_of.branch [
      | in-Some+in_ok-insert w ↦ subst told (sym w.positions-is) (brought_more origin journal rest behind e c.entry_behind.ensures before (contains nat_cmp w.insert.new.self) c.loop-behind.invariant w.in-Some.position w.in-Some.ensures w.in_ok-insert.ensures.updates.0)
      | in_default w ↦ subst told (sym w.positions-is) (brought_same origin journal rest behind e c.entry_behind.ensures before before c.loop-behind.invariant w.in_default.ensures)
    ]
