-- What the run by workers' passes tells, put together.
use Rattle.world_run.proofs.run.run_beside.Goals as goal

pub returns : goal.returns
returns g c = record {
  told = c.run_by.ensures.told;
  prompt = c.run_by.ensures.prompt;
  read_fault = c.run_by.ensures.read;
  write_fault = c.run_by.ensures.write;
  ran = c.run_by.ensures.ran;
  complete = c.run_by.ensures.complete;
  worlds = c.run_by.ensures.worlds;
}
