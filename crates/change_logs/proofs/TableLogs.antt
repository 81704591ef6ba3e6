-- The log of a table, and what a purge leaves of it.
use Rattle.std.proofs.Common.{◌≡◌, ℕ, suc, ◌+◌, ◌==◌, Bool, true, false, cond, List, [], ◌∷◌, length, map, Some, refl, arith}
use Rattle.std.specs.Prelude.{nat_le, nat_lt, option_map}
use Rattle.std.specs.List.{filter, find}
use Rattle.std.proofs.lemmas.Bool.Decides.{nat_tests}
use Rattle.change_logs.specs.Logs.{RoomyLog, count_up_to}
use Rattle.change_logs.specs.LogState.{LoggedKey, LogState, log_purged, purged_where}
use Rattle.change_logs.specs.Noting.{log_of, keys_in}
use Rattle.change_logs.specs.RoomyNotes.{log_in, logs_in}

-- the first log of a table
pub log_of-logs_in : (table : ℕ) (logs : List RoomyLog) → option_map log_in (find (λ (l : RoomyLog). l.log.table == table) logs) ≡ log_of table (logs_in logs)
log_of-logs_in table [] = refl
log_of-logs_in table (l ∷ logs) = go (l.log.table == table) (log_of-logs_in table logs)
  where
    go : (b : Bool) → option_map log_in (find (λ (l : RoomyLog). l.log.table == table) logs) ≡ log_of table (logs_in logs)
        → option_map log_in (cond b (Some l) (find (λ (l : RoomyLog). l.log.table == table) logs)) ≡ cond b (Some l.log) (log_of table (logs_in logs))
    go true later = refl
    go false later = later

abbrev pub stays : ℕ → LoggedKey → Bool
stays moment logged = nat_lt moment logged.moment

-- a purge leaves the keys above the moment
pub log_of-purged : (table moment : ℕ) (logs : List LogState) → keys_in (log_of table (map (purged_where table moment) logs)) ≡ filter (stays moment) (keys_in (log_of table logs))
log_of-purged table moment [] = refl
log_of-purged table moment (l ∷ logs) = go (l.table == table) refl (log_of-purged table moment logs)
  where
    go : (b : Bool) → (l.table == table) ≡ b → keys_in (log_of table (map (purged_where table moment) logs)) ≡ filter (stays moment) (keys_in (log_of table logs))
        → keys_in (cond ((cond b (log_purged moment l) l).table == table) (Some (cond b (log_purged moment l) l)) (log_of table (map (purged_where table moment) logs)))
        ≡ filter (stays moment) (keys_in (cond b (Some l) (log_of table logs)))
    go true e later = rw e refl
    go false e later = rw e later

-- the keys above a moment and those up to it are all
pub count_up_to-rest : (moment : ℕ) (keys : List LoggedKey) → length (filter (stays moment) keys) + count_up_to moment keys ≡ length keys
count_up_to-rest moment [] = refl
count_up_to-rest moment (x ∷ xs) = go (nat_lt moment x.moment) (nat_le x.moment moment) refl refl (count_up_to-rest moment xs)
  where
    above : List LoggedKey
    above = filter (stays moment) xs

    go : (a b : Bool) → nat_lt moment x.moment ≡ a → nat_le x.moment moment ≡ b → length above + count_up_to moment xs ≡ length xs
        → length (cond a (x ∷ above) above) + cond b (count_up_to moment xs + 1) (count_up_to moment xs) ≡ suc (length xs)
    go true true lt le later = absurd (grind (arith, nat_tests, lt, le))
    go true false lt le later = omega (arith, later)
    go false true lt le later = omega (arith, later)
    go false false lt le later = absurd (grind (arith, nat_tests, lt, le))
