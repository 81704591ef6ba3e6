-- What may stand behind the first word.
use Rattle.std.specs.Prelude.{ℕ, Bool, true, false, ◌&&◌, ◌||◌, List, [], ◌∷◌, is_some, map}
use Rattle.std.specs.Borrow.{Bor}
use Rattle.command_line.specs.Numerals.{number_within}
use Rattle.command_line.specs.Words.{is_flag, is_joined, is_option, joined_value, most_appliers, most_count, most_seed}

-- the texts of words
abbrev pub texts : List (Bor (List ℕ)) → List (List ℕ)
texts = map (λ word. word.now)

abbrev pub is_seed : List ℕ → Bool
is_seed word = is_some (number_within 0 most_seed word)

abbrev pub is_count : List ℕ → Bool
is_count word = is_some (number_within 1 most_count word)

abbrev pub is_appliers : List ℕ → Bool
is_appliers word = is_some (number_within 1 most_appliers word)

-- `--appliers=N`
abbrev pub has_appliers : List ℕ → Bool
has_appliers word = is_joined word && is_appliers (joined_value word)

-- `--appliers N`
abbrev pub are_appliers : List ℕ → List ℕ → Bool
are_appliers option value = is_option option && is_appliers value

-- `SEED COUNT`
abbrev pub are_seed_and_count : List ℕ → List ℕ → Bool
are_seed_and_count seed count = is_seed seed && is_count count

-- what may stand behind `run`
abbrev pub is_run : List (List ℕ) → Bool
is_run [] = true
is_run (a ∷ []) = has_appliers a
is_run (a ∷ b ∷ []) = are_appliers a b
is_run (a ∷ b ∷ c ∷ words) = false

-- what may stand behind `storm`
abbrev pub is_storm : List (List ℕ) → Bool
is_storm [] = false
is_storm (a ∷ []) = false
is_storm (a ∷ b ∷ []) = are_seed_and_count a b
is_storm (a ∷ b ∷ c ∷ []) =
    (has_appliers a && are_seed_and_count b c) || (has_appliers b && are_seed_and_count a c) || (has_appliers c && are_seed_and_count a b)
is_storm (a ∷ b ∷ c ∷ d ∷ []) =
    (are_appliers a b && are_seed_and_count c d) || (are_appliers b c && are_seed_and_count a d) || (are_appliers c d && are_seed_and_count a b)
is_storm (a ∷ b ∷ c ∷ d ∷ e ∷ words) = false

-- what may stand behind `live`
abbrev pub is_live : List (List ℕ) → Bool
is_live [] = true
is_live (a ∷ []) = is_flag a
is_live (a ∷ b ∷ words) = false
