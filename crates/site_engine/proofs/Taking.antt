-- A list with one more at its end.
use Rattle.std.proofs.Common.{◌≡◌, ◌∷◌, ◌++◌}
