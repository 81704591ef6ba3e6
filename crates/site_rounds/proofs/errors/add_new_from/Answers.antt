-- What stands at the positions that the newest entries brought is what they brought.
use Rattle.std.proofs.Common.{◌≡◌, ◌++◌, List, ℕ, subst}
use Rattle.std.specs.Prelude.{OnOk}
use Rattle.site_rounds.proofs.ErrorTexts.{new_texts_at}
use Rattle.site_rounds.proofs.errors.add_new_from.Goals as goal

pub returns-clause-ok : goal.returns-clause-ok
returns-clause-ok g c =
    let journal = (g.J.Journalled.told_of c.args.site.now).journal in
    let list = c.args.errors.now.list in
    let each = rw c.origin.ensures at c.in_ok-positions.ensures in
    let texts = new_texts_at c.args.count journal list.origin list.entries c.in_ok-positions.positions.keys c.laws.ensures c.add_errors_at.ensures.ordered each c.requires.stand in
    subst (λ (t : List ℕ). OnOk c.add_errors_at.result (c.add_errors_at.new.lines.bytes ≡ c.args.lines.now.bytes ++ t)) texts c.add_errors_at.ensures.ok
