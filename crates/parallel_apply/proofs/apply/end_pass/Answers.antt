use Rattle.std.proofs.Common.{◌∙◌, take}
use Rattle.site_state.specs.State.{arrivals}
use Rattle.parallel_apply.proofs.CrewPass.{more_applied, sound_then, sortable_then, passed_then}
use Rattle.parallel_apply.proofs.apply.end_pass.Goals as goal

pub returns-in-Err-clause-err : goal.returns-in-Err-clause-err
returns-in-Err-clause-err g c = more_applied _ _ _ _ (take c.in-Err.ensures.err.0 (arrivals c.args.origin.now c.args.site)) c.requires.part c.in-Err.ensures.err.1

pub sort_new_entries-requires-clause-sound : goal.sort_new_entries-requires-clause-sound
sort_new_entries-requires-clause-sound g c κs within = sound_then _ _ c.requires.passes _ _ c.requires.part c.in_default.ensures.ok

pub sort_new_entries-requires-clause-entries : goal.sort_new_entries-requires-clause-entries
sort_new_entries-requires-clause-entries g c κs within =
    (c.args.origin.now, sortable_then _ _ c.requires.passes _ _ c.requires.part c.in_default.ensures.ok _ c.requires.from)

pub returns-in-Err-sort_new_entries-clause-err : goal.returns-in-Err-sort_new_entries-clause-err
returns-in-Err-sort_new_entries-clause-err g c =
    more_applied _ _ _ _ (arrivals c.args.origin.now c.args.site) c.requires.part (c.in-Err-sort_new_entries.ensures.err ∙ c.in_default.ensures.ok)

pub returns-clause-ok : goal.returns-clause-ok
returns-clause-ok g c = passed_then _ _ c.requires.passes _ _ c.requires.part c.in_default.ensures.ok _ _ c.requires.from c.in_default-sort_new_entries.ensures.ok
