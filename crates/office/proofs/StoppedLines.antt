-- Why a line isn't taken, from why its command isn't.
use Rattle.std.proofs.Common.{◌≡◌, ℕ, List, Ok, Err}
use Rattle.std.specs.Prelude.{Result, IfErr}
use Rattle.script_parse.specs.declared.command.Command.{Command}
use Rattle.script_parse.specs.Parsed.{parsed}
use Rattle.office.specs.declared.error.OfficeError.{OfficeError}
use Rattle.office.specs.declared.error.OfficeError.TheVariants as error
use Rattle.office.specs.Founding.{Founded}
use Rattle.office.specs.Stops.{CommandStops, LineStops}

by_command : (why : OfficeError) (number : ℕ) (bytes : List ℕ) (c : Command) (f : Founded) → parsed bytes ≡ Ok c → CommandStops why number c f → LineStops why number bytes f
by_command (error.Malformed line rule) number bytes c f is stops = absurd stops
by_command error.Memory number bytes c f is stops = tt
by_command why number bytes c f is stops = (c, is, stops)

-- what stops the command of a line stops the line
pub line_stops : {X : Type 0} (r : Result X OfficeError) (number : ℕ) (bytes : List ℕ) (c : Command) (f : Founded) → parsed bytes ≡ Ok c → IfErr r (λ why. CommandStops why number c f)
    → IfErr r (λ why. LineStops why number bytes f)
line_stops (Ok x) number bytes c f is stops = tt
line_stops (Err why) number bytes c f is stops = by_command why number bytes c f is stops
