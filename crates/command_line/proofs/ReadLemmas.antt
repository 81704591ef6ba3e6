-- What `clap` reads of words in each form.
use Rattle.std.proofs.Common.{◌≡◌, ℕ, List, [], ◌∷◌, ◌++◌, codes, true, false, refl, Some, Bool, map, Option, is_some, sym, ◌∙◌, ap, ap₂}
use Rattle.std.specs.Prelude.{◌&&◌, fold}
use Rattle.std.specs.List.{list_all}
use Rattle.clap.specs.Words.{Row, Rule, Shape, Text, first_of, matches_of, one_of, rows_of, takes}
use Rattle.clap.specs.declared.parser.matches.Found.{Found}
use Rattle.clap.proofs.WalkLemmas.{first_value-rows, one_text-rows}
use Rattle.clap.specs.Simple.{built, entered}
use Rattle.clap.specs.Takes.{default_passes, entered_passes, is_valid, settle_passes}
use Rattle.clap.specs.Walk.{Walk, finished, nothing_held, walk_from}
use Rattle.clap.proofs.OnLiterals.{clap_on_literals}
use Rattle.command_line.specs.Numerals.{number_within}
use Rattle.command_line.specs.Words.{asked_in, most_appliers, most_count, most_seed, run_of, storm_of}
use Rattle.command_line.specs.Command.{asked_of, asked_of_found, command_app}
use Rattle.command_line.specs.declared.words.Asked.{Asked}
use Rattle.command_line.specs.declared.words.Asked.TheVariants as asked
use Rattle.command_line.proofs.WordLemmas.{IsPlain}
use Rattle.command_line.proofs.WalkLemmas.{Word, any, plain, text_of, walk-words, walk_passes-words, word_walked, words_pass}

-- what is asked for by the rows that `clap` makes of words
abbrev pub asked_of_rows : List Row → Option Asked
asked_of_rows rows =
    asked_of (first_of (codes "form") rows) (one_of (codes "json") rows) (first_of (codes "seed") rows) (first_of (codes "count") rows) (first_of (codes "appliers") rows)

abbrev top : Shape
top = (built command_app).top

abbrev rules : List Rule
rules = top.rules

abbrev rows : List Word → List Row
rows words = finished rules (fold (word_walked rules) (walk_from nothing_held) words).held

rows-words : (words : List Word) → matches_of command_app (map text_of words) ≡ rows words
rows-words words = ap (λ w. finished rules w.held) (walk-words rules (walk_from nothing_held) words)

-- the end of a parse that has walked so far, and whether the words passed
abbrev ends : Walk → Bool → Bool
ends w passes = entered_passes (built command_app) w.stopped
    && (passes && (settle_passes rules top.args_override_self w.held && (list_all default_passes rules && is_valid top (finished rules w.held) (is_some (entered (built command_app) w.stopped)))))

abbrev passes : List Word → Bool
passes words = ends (fold (word_walked rules) (walk_from nothing_held) words) (words_pass top (walk_from nothing_held) words)

takes-words : (words : List Word) → takes command_app (map text_of words) ≡ passes words
takes-words words = ap₂ ends (walk-words rules (walk_from nothing_held) words) (walk_passes-words top (walk_from nothing_held) words)

-- `clap` takes the words, and what it reads of them is what they ask for
pub record IsRead (words : List Text) : Type 0 where
  pub taken : takes command_app words ≡ true
  pub asked : asked_of_rows (matches_of command_app words) ≡ asked_in words

read : (words : List Word) (asked : Option Asked) → passes words ≡ true → asked_of_rows (rows words) ≡ asked → asked_in (map text_of words) ≡ asked → IsRead (map text_of words)
read words asked taken by_rows by_words = record { taken = takes-words words ∙ taken; asked = ap asked_of_rows (rows-words words) ∙ (by_rows ∙ sym by_words) }

pub read_live : IsRead (codes "live" ∷ [])
unfolding clap_on_literals
read_live = read (any (codes "live") ∷ []) (Some (asked.Live false)) refl refl refl

pub read_live-flag : IsRead (codes "live" ∷ codes "--json" ∷ [])
unfolding clap_on_literals
read_live-flag = read (any (codes "live") ∷ any (codes "--json") ∷ []) (Some (asked.Live true)) refl refl refl

pub read_run : IsRead (codes "run" ∷ [])
unfolding clap_on_literals
read_run = read (any (codes "run") ∷ []) (run_of (Some 1)) refl refl refl

pub read_run-joined : (value : Text) → IsRead (codes "run" ∷ (codes "--appliers=" ++ value) ∷ [])
unfolding clap_on_literals
read_run-joined value = read (any (codes "run") ∷ any (codes "--appliers=" ++ value) ∷ []) (run_of (number_within 1 most_appliers value)) refl refl refl

module _ (x : ℕ) (xs : Text) (p : IsPlain x) where
  pub read_run-apart : IsRead (codes "run" ∷ codes "--appliers" ∷ (x ∷ xs) ∷ [])
  unfolding clap_on_literals
  read_run-apart = read (any (codes "run") ∷ any (codes "--appliers") ∷ plain x xs p.left ∷ []) (run_of (number_within 1 most_appliers (x ∷ xs))) refl refl refl

  module _ (y : ℕ) (ys : Text) (q : IsPlain y) where
    pub read_storm : IsRead (codes "storm" ∷ (x ∷ xs) ∷ (y ∷ ys) ∷ [])
    unfolding clap_on_literals
    read_storm = read (any (codes "storm") ∷ plain x xs p.left ∷ plain y ys q.left ∷ []) (storm_of (number_within 0 most_seed (x ∷ xs)) (number_within 1 most_count (y ∷ ys)) (Some 1)) refl refl (rw (p.left, p.right, q.left, q.right))

    abbrev storm : Option ℕ → Option Asked
    storm appliers = storm_of (number_within 0 most_seed (x ∷ xs)) (number_within 1 most_count (y ∷ ys)) appliers

    module _ (value : Text) where
      pub read_storm-joined_first : IsRead (codes "storm" ∷ (codes "--appliers=" ++ value) ∷ (x ∷ xs) ∷ (y ∷ ys) ∷ [])
      unfolding clap_on_literals
      read_storm-joined_first = read (any (codes "storm") ∷ any (codes "--appliers=" ++ value) ∷ plain x xs p.left ∷ plain y ys q.left ∷ []) (storm (number_within 1 most_appliers value)) refl refl refl

      pub read_storm-joined_between : IsRead (codes "storm" ∷ (x ∷ xs) ∷ (codes "--appliers=" ++ value) ∷ (y ∷ ys) ∷ [])
      unfolding clap_on_literals
      read_storm-joined_between = read (any (codes "storm") ∷ plain x xs p.left ∷ any (codes "--appliers=" ++ value) ∷ plain y ys q.left ∷ []) (storm (number_within 1 most_appliers value)) refl refl (rw (p.left, p.right))

      pub read_storm-joined_last : IsRead (codes "storm" ∷ (x ∷ xs) ∷ (y ∷ ys) ∷ (codes "--appliers=" ++ value) ∷ [])
      unfolding clap_on_literals
      read_storm-joined_last = read (any (codes "storm") ∷ plain x xs p.left ∷ plain y ys q.left ∷ any (codes "--appliers=" ++ value) ∷ []) (storm (number_within 1 most_appliers value)) refl refl (rw (p.left, p.right, q.left, q.right))

    module _ (z : ℕ) (zs : Text) (r : IsPlain z) where
      pub read_storm-apart_first : IsRead (codes "storm" ∷ codes "--appliers" ∷ (z ∷ zs) ∷ (x ∷ xs) ∷ (y ∷ ys) ∷ [])
      unfolding clap_on_literals
      read_storm-apart_first = read (any (codes "storm") ∷ any (codes "--appliers") ∷ plain z zs r.left ∷ plain x xs p.left ∷ plain y ys q.left ∷ []) (storm (number_within 1 most_appliers (z ∷ zs))) refl refl refl

      pub read_storm-apart_between : IsRead (codes "storm" ∷ (x ∷ xs) ∷ codes "--appliers" ∷ (z ∷ zs) ∷ (y ∷ ys) ∷ [])
      unfolding clap_on_literals
      read_storm-apart_between = read (any (codes "storm") ∷ plain x xs p.left ∷ any (codes "--appliers") ∷ plain z zs r.left ∷ plain y ys q.left ∷ []) (storm (number_within 1 most_appliers (z ∷ zs))) refl refl (rw (p.left, p.right))

      pub read_storm-apart_last : IsRead (codes "storm" ∷ (x ∷ xs) ∷ (y ∷ ys) ∷ codes "--appliers" ∷ (z ∷ zs) ∷ [])
      unfolding clap_on_literals
      read_storm-apart_last = read (any (codes "storm") ∷ plain x xs p.left ∷ plain y ys q.left ∷ any (codes "--appliers") ∷ plain z zs r.left ∷ []) (storm (number_within 1 most_appliers (z ∷ zs))) refl refl (rw (p.left, p.right, q.left, q.right))

-- the values that the matches give are those of the rows
pub asked_of_found-rows : (found : Found) → asked_of_found found ≡ asked_of_rows (rows_of found)
asked_of_found-rows found =
    rw (first_value-rows found (codes "form"), one_text-rows found (codes "json"), first_value-rows found (codes "seed"), first_value-rows found (codes "count"), first_value-rows found (codes "appliers"))
