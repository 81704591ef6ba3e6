-- A site and its master, both there, have directions between them, and the site has no other destination.
use Rattle.world.proofs.Written.{site_of-world}
use Rattle.world.proofs.Masters.{served_by, master_read}
use Rattle.world.proofs.parts.WorldParts.refresh_refusal.Goals as goal

pub refresh_step-requires-clause-there : goal.refresh_step-requires-clause-there
refresh_step-requires-clause-there c =
    let here = site_of-world _ _ _ _ _ _ c.self.view_is c.deref.ensures.value c.in-Some.ensures c.index.ensures in
    let master = master_read _ _ _ _ c.args.site.now _ _ _ c.self.view_is c.schema.ensures.value c.in-Some-master_of.ensures c.deref-2.ensures.value c.in-Some-place_of.ensures c.index-2.ensures in
    (served_by c.args.self.now c.requires.built c.requires.behind c.args.site.now _ _ here master).there

pub refresh_step-requires-clause-back : goal.refresh_step-requires-clause-back
refresh_step-requires-clause-back c =
    let here = site_of-world _ _ _ _ _ _ c.self.view_is c.deref.ensures.value c.in-Some.ensures c.index.ensures in
    let master = master_read _ _ _ _ c.args.site.now _ _ _ c.self.view_is c.schema.ensures.value c.in-Some-master_of.ensures c.deref-2.ensures.value c.in-Some-place_of.ensures c.index-2.ensures in
    (served_by c.args.self.now c.requires.built c.requires.behind c.args.site.now _ _ here master).back

pub refresh_step-requires-clause-sends : goal.refresh_step-requires-clause-sends
refresh_step-requires-clause-sends c =
    let here = site_of-world _ _ _ _ _ _ c.self.view_is c.deref.ensures.value c.in-Some.ensures c.index.ensures in
    let master = master_read _ _ _ _ c.args.site.now _ _ _ c.self.view_is c.schema.ensures.value c.in-Some-master_of.ensures c.deref-2.ensures.value c.in-Some-place_of.ensures c.index-2.ensures in
    (served_by c.args.self.now c.requires.built c.requires.behind c.args.site.now _ _ here master).sends

pub returns : goal.returns
returns c =
    let here = site_of-world _ _ _ _ _ _ c.self.view_is c.deref.ensures.value c.in-Some.ensures c.index.ensures in
    let master = master_read _ _ _ _ c.args.site.now _ _ _ c.self.view_is c.schema.ensures.value c.in-Some-master_of.ensures c.deref-2.ensures.value c.in-Some-place_of.ensures c.index-2.ensures in
    rw (here, master) c.refresh_step.ensures
