use Rattle.std.proofs.Common.{sym, ◌∙◌}
use Rattle.rep_schema.proofs.RowFit.{length-key_of, length-fits}
use Rattle.conflict_detect.proofs.change_call.update_between.Goals as goal

pub key_of-requires : goal.key_of-requires
key_of-requires c = rw (c.columns_of.ensures, c.values.ensures.value, length-key_of _ _ c.requires.before) c.requires.keyed

pub parts_between-requires-clause-long : goal.parts_between-requires-clause-long
parts_between-requires-clause-long c = rw (c.values-2.ensures.value, c.values-3.ensures.value) (sym (length-fits _ _ c.requires.before) ∙ length-fits _ _ c.requires.after)
