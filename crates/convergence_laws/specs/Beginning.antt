-- Where masters begin alike.
use Rattle.std.specs.Prelude.{◌≡◌}
