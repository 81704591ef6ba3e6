-- What the words of the command line ask for.
use Rattle.std.specs.Prelude.{⊤, ℕ, ◌≤◌, Bool, true, false, cond, nat_eq, List, [], ◌∷◌, map, drop, slice_get, codes, Option, Some, None}
use Rattle.std.specs.List.{starts_with}
use Rattle.std.specs.Cmp.Lexicographic.{pointwise}
use Rattle.std.specs.Borrow.{Bor}
use Rattle.command_line.specs.Numerals.{number_within}
use Rattle.command_line.specs.declared.words.Asked.{Asked}
use Rattle.command_line.specs.declared.words.Asked.TheVariants as asked

-- the greatest seed
abbrev pub most_seed : ℕ
most_seed = 18446744073709551615

-- the most transactions of a storm
abbrev pub most_count : ℕ
most_count = 50000

-- the most appliers
abbrev pub most_appliers : ℕ
most_appliers = 8

-- the word `--appliers`, behind which the option's value stands
abbrev pub is_option : List ℕ → Bool
is_option word = pointwise nat_eq word (codes "--appliers")

-- a word that begins with `--appliers=`, in which the option's value follows
abbrev pub is_joined : List ℕ → Bool
is_joined word = starts_with nat_eq word (codes "--appliers=")

-- what follows `--appliers=` in a word
abbrev pub joined_value : List ℕ → List ℕ
joined_value word = drop 11 word

-- the words without the first option among them and its value
abbrev pub without_option : List (List ℕ) → List (List ℕ)
without_option [] = []
without_option (word ∷ words) = cond (is_option word) (drop 1 words) (cond (is_joined word) words (word ∷ without_option words))

-- how many appliers an option's value asks for
abbrev pub appliers_of : Option (List ℕ) → Option ℕ
appliers_of None = None
appliers_of (Some value) = number_within 1 most_appliers value

-- how many appliers the first option among the words asks for, and 1 where there is no option
abbrev pub appliers_in : List (List ℕ) → Option ℕ
appliers_in [] = Some 1
appliers_in (word ∷ words) = cond (is_option word) (appliers_of (slice_get words 0)) (cond (is_joined word) (appliers_of (Some (joined_value word))) (appliers_in words))

abbrev pub run_of : Option ℕ → Option Asked
run_of None = None
run_of (Some appliers) = Some (asked.Run appliers)

abbrev pub storm_of : Option ℕ → Option ℕ → Option ℕ → Option Asked
storm_of None count appliers = None
storm_of (Some seed) None appliers = None
storm_of (Some seed) (Some count) None = None
storm_of (Some seed) (Some count) (Some appliers) = Some (asked.Storm seed count appliers)

-- `run`, with no word behind it but its option
abbrev pub run_by : List (List ℕ) → Option ℕ → Option Asked
run_by [] appliers = run_of appliers
run_by (w ∷ words) appliers = None

-- `storm`, with two numbers behind it beside its option
abbrev pub storm_by : List (List ℕ) → Option ℕ → Option Asked
storm_by [] appliers = None
storm_by (w ∷ []) appliers = None
storm_by (seed ∷ count ∷ []) appliers = storm_of (number_within 0 most_seed seed) (number_within 1 most_count count) appliers
storm_by (w ∷ v ∷ u ∷ words) appliers = None

-- the flag `--json`
abbrev pub is_flag : List ℕ → Bool
is_flag word = pointwise nat_eq word (codes "--json")

-- `live`, with no word behind it but its flag
abbrev pub live_by : List (List ℕ) → Option Asked
live_by [] = Some (asked.Live false)
live_by (word ∷ []) = cond (is_flag word) (Some (asked.Live true)) None
live_by (w ∷ v ∷ words) = None

-- what texts ask for: `run` or `storm SEED COUNT`, with at most one option at any place behind the first; or `live`, with its flag or without
abbrev pub asked_in : List (List ℕ) → Option Asked
asked_in [] = None
asked_in (name ∷ words) = cond (pointwise nat_eq name (codes "run")) (run_by (without_option words) (appliers_in words))
    (cond (pointwise nat_eq name (codes "storm")) (storm_by (without_option words) (appliers_in words))
    (cond (pointwise nat_eq name (codes "live")) (live_by words) None))

-- what words ask for
abbrev pub asked_by : List (Bor (List ℕ)) → Option Asked
asked_by words = asked_in (map (λ word. word.now) words)

-- a storm has 1 to 50,000 transactions, and a run or a storm 1 to 8 appliers
abbrev pub IsInRange : Asked → Type 0
IsInRange (asked.Run appliers) = (1 ≤ appliers) × (appliers ≤ most_appliers)
IsInRange (asked.Storm seed count appliers) = (1 ≤ count) × (count ≤ most_count) × (1 ≤ appliers) × (appliers ≤ most_appliers)
IsInRange (asked.Live json) = ⊤
