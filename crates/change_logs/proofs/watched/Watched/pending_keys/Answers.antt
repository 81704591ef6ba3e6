use Rattle.change_logs.proofs.Merging.{rises_given}
use Rattle.change_logs.proofs.watched.Watched.pending_keys.Goals as goal

pub returns-clause-rising : goal.returns-clause-rising
returns-clause-rising c = λ rising.
    rises_given c.as_slice.result.now c.self.inside.touched.items c.with_keys.result (rw (← c.self.view_is) at rising) (rw (c.as_slice-2.ensures, c.in_ok-touched.ensures) at c.with_keys.ensures)
