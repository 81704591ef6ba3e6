use Rattle.std.proofs.Common.{arith, refl}
use Rattle.site_engine.proofs.NotedRows.{noted_failed}
use Rattle.site_engine.proofs.Installing.{can_be_made, few_are_made}
use Rattle.site_engine.proofs.applying.evaluate.Goals as goal

pub install_onward-requires-clause-leads : goal.install_onward-requires-clause-leads
install_onward-requires-clause-leads g c κs lives =
    let gives = rw (c.in-Some-Changed.is, c.in-Some-Changed.field-0-is) at c.requires.ending in
    (can_be_made _ _ _ _ _ _ c.requires.keyed c.holds_tables.ensures c.requires.counters c.requires.fits gives).leads

pub install_onward-requires-clause-differ : goal.install_onward-requires-clause-differ
install_onward-requires-clause-differ g c κs lives =
    let gives = rw (c.in-Some-Changed.is, c.in-Some-Changed.field-0-is) at c.requires.ending in
    (can_be_made _ _ _ _ _ _ c.requires.keyed c.holds_tables.ensures c.requires.counters c.requires.fits gives).differ

pub install_onward-requires-clause-room : goal.install_onward-requires-clause-room
install_onward-requires-clause-room g c κs lives =
    let gives = rw (c.in-Some-Changed.is, c.in-Some-Changed.field-0-is) at c.requires.ending in
    let few = rw gives at (few_are_made _ _ _ _ _ _ c.requires.keyed c.holds_tables.ensures c.requires.counters c.requires.fits gives) in
    omega (arith, few, c.requires.room)

pub returns-in_ok-onward-in-Some-Changed-clause-few : goal.returns-in_ok-onward-in-Some-Changed-clause-few
returns-in_ok-onward-in-Some-Changed-clause-few g c =
    let gives = rw (c.in-Some-Changed.is, c.in-Some-Changed.field-0-is) at c.requires.ending in
    few_are_made _ _ _ _ _ _ c.requires.keyed c.holds_tables.ensures c.requires.counters c.requires.fits gives

pub returns-in-Some-Failed-clause-changed : goal.returns-in-Some-Failed-clause-changed
returns-in-Some-Failed-clause-changed g c =
    let fails = rw (c.in-Some-Failed.is, c.in-Some-Failed.field-0-is) at c.requires.ending in
    record {
      tables = rw fails refl;
      numbers = rw fails refl;
      noted = noted_failed _ _ _ (record { call = c.in-Some-Failed.call; error = c.in-Some-Failed.error }) _ _ fails refl refl;
      queue = rw fails (λ pasts txns keeps. keeps);
    }
