-- The command line as `clap` reads it.
use Rattle.std.specs.Prelude.{ℕ, Bool, true, false, cond, nat_eq, List, codes, Option, Some, None}
use Rattle.std.specs.Cmp.Lexicographic.{pointwise}
use Rattle.clap.specs.Words.{App, Rule, first_value, new_app, new_rule, one_text, with_rule}
use Rattle.clap.specs.Simple.{on_top}
use Rattle.clap.specs.declared.builder.ArgAction.TheVariants.{Set, SetTrue}
use Rattle.clap.specs.declared.parser.matches.Found.{Found}
use Rattle.command_line.specs.Numerals.{number_within}
use Rattle.command_line.specs.Words.{appliers_of, most_count, most_seed, run_of, storm_of}
use Rattle.command_line.specs.declared.words.Asked.{Asked}
use Rattle.command_line.specs.declared.words.Asked.TheVariants as asked

abbrev pub form_rule : Rule
form_rule = record (new_rule (codes "form")) { action = Some Set }

abbrev pub seed_rule : Rule
seed_rule = record (new_rule (codes "seed")) { action = Some Set }

abbrev pub count_rule : Rule
count_rule = record (new_rule (codes "count")) { action = Some Set }

abbrev pub appliers_rule : Rule
appliers_rule = record (new_rule (codes "appliers")) { long = Some (codes "appliers"); action = Some Set }

abbrev pub json_rule : Rule
json_rule = record (new_rule (codes "json")) { long = Some (codes "json"); action = Some SetTrue }

-- a command whose words begin behind the program's name
abbrev pub nameless : App
nameless = on_top (λ shape. record shape { no_binary_name = true }) (new_app (codes "pirkausu"))

-- a form, a seed and a count in their places, the option and the flag
abbrev pub command_app : App
command_app = with_rule (with_rule (with_rule (with_rule (with_rule nameless form_rule) seed_rule) count_rule) appliers_rule) json_rule

-- how many appliers a value asks for, and 1 where there is none
abbrev pub appliers_or_one : Option (List ℕ) → Option ℕ
appliers_or_one None = Some 1
appliers_or_one (Some value) = appliers_of (Some value)

-- what the values of the seed, of the count and of the option ask for, where the form isn't `live`
abbrev pub run_or_storm : Option (List ℕ) → Option (List ℕ) → Option (List ℕ) → Option Asked
run_or_storm None count appliers = run_of (appliers_or_one appliers)
run_or_storm (Some seed) None appliers = run_of (appliers_or_one appliers)
run_or_storm (Some seed) (Some count) appliers = storm_of (number_within 0 most_seed seed) (number_within 1 most_count count) (appliers_or_one appliers)

-- the form is `live`
abbrev pub names_live : Option (List ℕ) → Bool
names_live None = false
names_live (Some form) = pointwise nat_eq form (codes "live")

-- the flag's value is true
abbrev pub is_up : Option (List ℕ) → Bool
is_up None = false
is_up (Some value) = pointwise nat_eq value (codes "true")

-- what the values of the form, of the flag, of the seed, of the count and of the option ask for
abbrev pub asked_of : Option (List ℕ) → Option (List ℕ) → Option (List ℕ) → Option (List ℕ) → Option (List ℕ) → Option Asked
asked_of form flag seed count appliers = cond (names_live form) (Some (asked.Live (is_up flag))) (run_or_storm seed count appliers)

-- what is asked for by what `clap` found
abbrev pub asked_of_found : Found → Option Asked
asked_of_found found =
    asked_of (first_value found (codes "form")) (one_text found (codes "json"))
    (first_value found (codes "seed")) (first_value found (codes "count")) (first_value found (codes "appliers"))
