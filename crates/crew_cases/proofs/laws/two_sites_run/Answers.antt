-- The laws of two sites.
use Rattle.crew_cases.proofs.Runs.{two_begin, two_commit, two_deliver, two_apply, two_pass}
use Rattle.crew_cases.proofs.laws.two_sites_run.Goals as goal

pub returns-clause-begin : goal.returns-clause-begin
returns-clause-begin c = two_begin

pub returns-clause-commit : goal.returns-clause-commit
returns-clause-commit c = two_commit

pub returns-clause-deliver : goal.returns-clause-deliver
returns-clause-deliver c = two_deliver

pub returns-clause-apply : goal.returns-clause-apply
returns-clause-apply c = two_apply

pub returns-clause-pass : goal.returns-clause-pass
returns-clause-pass c = two_pass
