use Rattle.site_engine.proofs.NotedRows.{noted_failed}
use Rattle.std.proofs.Common.{refl}
use Rattle.site_engine.proofs.applying.apply_noting.Goals as goal

pub returns-in-Err-Failed-clause-changed : goal.returns-in-Err-Failed-clause-changed
returns-in-Err-Failed-clause-changed g c =
    let fails = rw c.in-Err-Failed.field-0-is at c.in-Err-Failed.ensures.err in
    record {
      tables = rw fails c.in-Err-Failed.ensures.kept;
      numbers = rw fails c.in-Err-Failed.ensures.counters_kept;
      noted = noted_failed _ _ _ (record { call = c.in-Err-Failed.call; error = c.in-Err-Failed.error }) _ _ fails refl refl;
      queue = rw fails c.in-Err-Failed.ensures.queue_kept;
    }
