-- What some logs come to.
use Rattle.std.proofs.Common.{◌≡◌, ℕ, [], ◌∷◌, pos, Some, None, refl}
use Rattle.rep_values.specs.declared.value.Value.TheVariants.{Num}
use Rattle.rep_schema.specs.Tables.{Cells}
use Rattle.change_logs.specs.LogState.{LoggedKey, LogState, new_log, log_purged}
use Rattle.change_logs.specs.Noting.{logged_above}
use Rattle.change_logs.specs.Logs.{key_noted, moment_in, count_up_to}

abbrev key : ℕ → Cells
key n = Num (pos n) ∷ []

abbrev at : ℕ → ℕ → LoggedKey
at moment n = record { key = key n; moment = moment }

-- key 5 is noted at moment 1, key 3 at 2 and key 5 again at 4
abbrev noted : LogState
noted = key_noted 4 (key 5) (key_noted 2 (key 3) (key_noted 1 (key 5) (new_log 7)))

noted_keys : noted ≡ record { table = 7; keys = at 2 3 ∷ at 4 5 ∷ []; purged = 0 }
noted_keys = refl

last_moment : moment_in (key 5) noted ≡ Some 4
last_moment = refl

not_noted : moment_in (key 4) noted ≡ None
not_noted = refl

above_two : logged_above 2 noted.keys ≡ key 5 ∷ []
above_two = refl

purged_to_two : log_purged 2 noted ≡ record { table = 7; keys = at 4 5 ∷ []; purged = 2 }
purged_to_two = refl

one_taken : count_up_to 2 noted.keys ≡ 1
one_taken = refl

-- a lower mark than before takes nothing back
purged_to_one : log_purged 1 (log_purged 2 noted) ≡ record { table = 7; keys = at 4 5 ∷ []; purged = 2 }
purged_to_one = refl
