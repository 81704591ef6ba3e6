-- No site has two snapshots of a table, and the tables of procedures have keys.
use Rattle.std.proofs.Common.{sym, subst}
use Rattle.site_state.specs.Fits.{SnapshotsApart, SchemaIsKeyed}
use Rattle.proc_state.specs.Calls.{AreProcedures}
use Rattle.world_state.specs.World.{WorldState}
use Rattle.world_state.specs.Making.{snapshots_at}
use Rattle.world_state.specs.Procs.{proc_schema}
use Rattle.world_state.proofs.LowestRules.{broken_by-None}
use Rattle.world_laws.proofs.Declared.{proc_keyed, procedures_beside}
use Rattle.world_laws.specs.WellDeclared.{AreParentsWithin}
use Rattle.world_commands.proofs.DeclaredApart.{declared_apart, declared_so_far}
use Rattle.world_commands.proofs.setup.end_setup.Goals as goal

pub make_sites-requires-clause-apart : goal.make_sites-requires-clause-apart
make_sites-requires-clause-apart c = λ site. rw c.as_slice.ensures (subst (λ (w : WorldState). SnapshotsApart (snapshots_at w.snapshots site)) (sym c.parts.view_is)
    (declared_apart c.args.parts.now c.requires.built.of_convergence c.requires.setup site))

pub make_sites-requires-clause-parents : goal.make_sites-requires-clause-parents
make_sites-requires-clause-parents c = rw c.as_slice.ensures (subst (λ (w : WorldState). AreParentsWithin w.schema w.snapshots) (sym c.parts.view_is)
    (declared_so_far c.args.parts.now c.requires.built.of_convergence c.requires.setup).parents)

pub end_procs-requires-clause-keyed : goal.end_procs-requires-clause-keyed
end_procs-requires-clause-keyed c =
    let w = c.args.parts.now in
    let keyed : SchemaIsKeyed (proc_schema w.schema w.procs.tables) = proc_keyed w.schema w.procs c.requires.built.shape c.requires.built.procs.declared (broken_by-None w.procs.tables c.requires.keyed) in
    rw c.schema-2.ensures.value (subst (λ (v : WorldState). SchemaIsKeyed (proc_schema v.schema v.procs.tables)) (sym c.parts.view_is) keyed)

pub end_procs-requires-clause-procedures : goal.end_procs-requires-clause-procedures
end_procs-requires-clause-procedures c =
    let w = c.args.parts.now in
    let are : AreProcedures (proc_schema w.schema w.procs.tables) w.procs.procedures = procedures_beside w.schema w.procs.tables w.procs.procedures c.requires.built.procs.declared.procedures in
    rw c.schema-2.ensures.value (subst (λ (v : WorldState). AreProcedures (proc_schema v.schema v.procs.tables) v.procs.procedures) (sym c.parts.view_is) are)
