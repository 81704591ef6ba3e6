-- The state is brought below 2^64 after each step, which is the same as once.
use Rattle.std.proofs.Common.{◌*◌, refl}
use Rattle.std.proofs.Math.Nat.{mod-add-mod}
use Rattle.storm_script.specs.Draws.{next_draw, drawn}
use Rattle.storm_script.proofs.draws.Draws.draw.Goals as goal

pub returns-clause-state : goal.returns-clause-state
unfolding next_draw
returns-clause-state c = mod-add-mod (c.args.self.now.state * 6364136223846793005) 18446744073709551616 1442695040888963407

pub returns-clause-value : goal.returns-clause-value
unfolding drawn
returns-clause-value c = refl
