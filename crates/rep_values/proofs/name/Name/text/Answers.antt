use Rattle.std.proofs.Common.{◌≡◌, true}
use Rattle.rep_values.specs.Text.{is_text}
use Rattle.rep_values.proofs.NameTexts.{is_text-name}
use Rattle.rep_values.proofs.name.Name.text.Goals as goal

-- the bytes of a name are those of a text
pub unreachable-requires : goal.unreachable-requires
unreachable-requires c =
    let is : is_text c.args.self.now ≡ true = is_text-name c.args.self.now c.bytes.ensures.form in
    let made = rw (c.bytes.ensures.value, is) at c.of.ensures in
    cc
