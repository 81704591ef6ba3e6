-- What may stand behind the first word, by what words ask for.
use Rattle.std.proofs.Common.{◌≡◌, ◌≢◌, ◌≤◌, ◌<◌, true, false, Bool, ℕ, length, List, [], ◌∷◌, refl, arith, is_some, nat_eq, codes}
use Rattle.std.specs.Prelude.{◌&&◌, ◌||◌, cond, Option, Some, None, Result, Ok, Err, IfErr}
use Rattle.std.specs.Borrow.{Bor}
use Rattle.std.specs.Cmp.Lexicographic.{pointwise}
use Rattle.command_line.specs.Numerals.{number_within}
use Rattle.command_line.specs.Words.{appliers_in, asked_by, is_flag, is_joined, is_option, joined_value, live_by, most_appliers, most_count, most_seed, run_by, run_of, storm_by, storm_of, without_option}
use Rattle.command_line.specs.declared.words.Asked.{Asked}
use Rattle.command_line.specs.declared.words.Asked.TheVariants as asked
use Rattle.command_line.specs.Forms.{are_seed_and_count, is_live, is_run, is_seed, is_storm, texts}
use Rattle.command_line.proofs.WordLemmas.{joined-option, number-joined, number-option}

-- few or many words stand behind `storm` in no form
pub is_storm-few : (words : List (Bor (List ℕ))) → length words < 2 → false ≡ is_storm (texts words)
is_storm-few [] few = refl
is_storm-few (a ∷ []) few = refl
is_storm-few (a ∷ b ∷ words) few = absurd (omega arith)

pub is_storm-many : (words : List (Bor (List ℕ))) → 5 ≤ length words → false ≡ is_storm (texts words)
is_storm-many [] many = refl
is_storm-many (a ∷ []) many = refl
is_storm-many (a ∷ b ∷ []) many = absurd (omega arith)
is_storm-many (a ∷ b ∷ c ∷ []) many = absurd (omega arith)
is_storm-many (a ∷ b ∷ c ∷ d ∷ []) many = absurd (omega arith)
is_storm-many (a ∷ b ∷ c ∷ d ∷ e ∷ words) many = refl

-- what a word is: the option, the option joined to its value, or neither
data Kind (word : List ℕ) : Type 0 where
  option : is_option word ≡ true → is_joined word ≡ false → ((least most : ℕ) → number_within least most word ≡ None) → Kind word
  joined : is_option word ≡ false → is_joined word ≡ true → ((least most : ℕ) → number_within least most word ≡ None) → Kind word
  plain : is_option word ≡ false → is_joined word ≡ false → Kind word

kind : (word : List ℕ) → Kind word
kind word = go (is_option word) (is_joined word) refl refl
  where
    go : (o j : Bool) → is_option word ≡ o → is_joined word ≡ j → Kind word
    go true j o e = option o (joined-option word o) (λ least most. number-option least most word o)
    go false true o j = joined o j (λ least most. number-joined least most word j)
    go false false o j = plain o j

some-run_of : (n : Option ℕ) → is_some n ≡ is_some (run_of n)
some-run_of None = refl
some-run_of (Some n) = refl

some-storm_of : (s c n : Option ℕ) → (is_some n && (is_some s && is_some c)) ≡ is_some (storm_of s c n)
some-storm_of None c None = refl
some-storm_of None c (Some n) = refl
some-storm_of (Some s) None None = refl
some-storm_of (Some s) None (Some n) = refl
some-storm_of (Some s) (Some c) None = refl
some-storm_of (Some s) (Some c) (Some n) = refl

no-and : (b : Bool) → (b && false) ≡ false
no-and true = refl
no-and false = refl

no-or : (b : Bool) → (b || false) ≡ b
no-or true = refl
no-or false = refl

-- the words behind `run` are in a form exactly where they ask for a run
pub is_run-run_by : (words : List (List ℕ)) → is_run words ≡ is_some (run_by (without_option words) (appliers_in words))
is_run-run_by [] = refl
is_run-run_by (a ∷ []) = go (kind a)
  where
    go : Kind a → is_run (a ∷ []) ≡ is_some (run_by (without_option (a ∷ [])) (appliers_in (a ∷ [])))
    go (option o j n) = rw (o, j)
    go (joined o j n) = rw (o, j) (some-run_of (number_within 1 most_appliers (joined_value a)))
    go (plain o j) = rw (o, j)
is_run-run_by (a ∷ b ∷ []) = go (kind a)
  where
    go : Kind a → is_run (a ∷ b ∷ []) ≡ is_some (run_by (without_option (a ∷ b ∷ [])) (appliers_in (a ∷ b ∷ [])))
    go (option o j n) = rw o (some-run_of (number_within 1 most_appliers b))
    go (joined o j n) = rw (o, j)
    go (plain o j) = rw (o, j)
is_run-run_by (a ∷ b ∷ c ∷ words) = go (kind a)
  where
    go : Kind a → false ≡ is_some (run_by (without_option (a ∷ b ∷ c ∷ words)) (appliers_in (a ∷ b ∷ c ∷ words)))
    go (option o j n) = rw o
    go (joined o j n) = rw (o, j)
    go (plain o j) = rw (o, j)

module _ (a b : List ℕ) where
  -- beside a word that is the option, or is joined to its value, no two words are a seed and a count
  no_storm-seed : number_within 0 most_seed a ≡ None → are_seed_and_count a b ≡ false
  no_storm-seed none = rw none

  no_storm-count : number_within 1 most_count b ≡ None → are_seed_and_count a b ≡ false
  no_storm-count none = rw none (no-and (is_seed a))

some-storm_by : (seed count : List ℕ) (n : Option ℕ) → (is_some n && are_seed_and_count seed count) ≡ is_some (storm_by (seed ∷ count ∷ []) n)
some-storm_by seed count n = some-storm_of (number_within 0 most_seed seed) (number_within 1 most_count count) n

no_storm_by : (seed count : List ℕ) → false ≡ is_some (storm_by (seed ∷ count ∷ []) None)
no_storm_by seed count = some-storm_by seed count None

abbrev Asks : List (List ℕ) → Type 0
Asks words = is_storm words ≡ is_some (storm_by (without_option words) (appliers_in words))

two : (a b : List ℕ) → Kind a → Kind b → Asks (a ∷ b ∷ [])
two a b (option o j n) _ = rw (o, no_storm-seed a b (n 0 most_seed))
two a b (joined o j n) _ = rw (o, j, no_storm-seed a b (n 0 most_seed))
two a b (plain o j) (option p k m) = rw (o, j, p, no_storm-count a b (m 1 most_count))
two a b (plain o j) (joined p k m) = rw (o, j, p, k, no_storm-count a b (m 1 most_count))
two a b (plain o j) (plain p k) = rw (o, j, p, k) (some-storm_by a b (Some 1))

three : (a b c : List ℕ) → Kind a → Kind b → Kind c → Asks (a ∷ b ∷ c ∷ [])
three a b c (option o j n) _ _ = rw (o, j, no_storm-seed a c (n 0 most_seed), no_storm-seed a b (n 0 most_seed)) (simp (no-and, no-or))
three a b c (joined o j n) _ _ = rw (o, j, no_storm-seed a c (n 0 most_seed), no_storm-seed a b (n 0 most_seed)) (simp (no-and, no-or, some-storm_by b c (number_within 1 most_appliers (joined_value a))))
three a b c (plain o j) (option p k m) _ = rw (o, j, p, k, no_storm-count a b (m 1 most_count)) (simp no-and)
three a b c (plain o j) (joined p k m) _ = rw (o, j, p, k, no_storm-count a b (m 1 most_count)) (simp (no-and, no-or, some-storm_by a c (number_within 1 most_appliers (joined_value b))))
three a b c (plain o j) (plain p k) (option q l v) = rw (o, j, p, k, q, l) (no_storm_by a b)
three a b c (plain o j) (plain p k) (joined q l v) = rw (o, j, p, k, q, l) (some-storm_by a b (number_within 1 most_appliers (joined_value c)))
three a b c (plain o j) (plain p k) (plain q l) = rw (o, j, p, k, q, l)

four : (a b c d : List ℕ) → Kind a → Kind b → Kind c → Asks (a ∷ b ∷ c ∷ d ∷ [])
four a b c d (option o j n) _ _ = rw (o, no_storm-seed a d (n 0 most_seed), no_storm-seed a b (n 0 most_seed)) (simp (no-and, no-or, some-storm_by c d (number_within 1 most_appliers b)))
four a b c d (joined o j n) _ _ = rw (o, j, no_storm-seed a d (n 0 most_seed), no_storm-seed a b (n 0 most_seed)) (simp (no-and, no-or))
four a b c d (plain o j) (option p k m) _ = rw (o, j, p, no_storm-count a b (m 1 most_count)) (simp (no-and, no-or, some-storm_by a d (number_within 1 most_appliers c)))
four a b c d (plain o j) (joined p k m) _ = rw (o, j, p, k, no_storm-count a b (m 1 most_count)) (simp no-and)
four a b c d (plain o j) (plain p k) (option q l v) = rw (o, j, p, k, q) (some-storm_by a b (number_within 1 most_appliers d))
four a b c d (plain o j) (plain p k) (joined q l v) = rw (o, j, p, k, q, l)
four a b c d (plain o j) (plain p k) (plain q l) = rw (o, j, p, k, q, l)

more : (a b c d e : List ℕ) (words : List (List ℕ)) → Kind a → Kind b → Kind c → Asks (a ∷ b ∷ c ∷ d ∷ e ∷ words)
more a b c d e words (option o j n) _ _ = rw o
more a b c d e words (joined o j n) _ _ = rw (o, j)
more a b c d e words (plain o j) (option p k m) _ = rw (o, j, p)
more a b c d e words (plain o j) (joined p k m) _ = rw (o, j, p, k)
more a b c d e words (plain o j) (plain p k) (option q l v) = rw (o, j, p, k, q)
more a b c d e words (plain o j) (plain p k) (joined q l v) = rw (o, j, p, k, q, l)
more a b c d e words (plain o j) (plain p k) (plain q l) = rw (o, j, p, k, q, l)

one : (a : List ℕ) → Kind a → Asks (a ∷ [])
one a (option o j n) = rw o
one a (joined o j n) = rw (o, j)
one a (plain o j) = rw (o, j)

-- the words behind `storm` are in a form exactly where they ask for a storm
pub is_storm-storm_by : (words : List (List ℕ)) → is_storm words ≡ is_some (storm_by (without_option words) (appliers_in words))
is_storm-storm_by [] = refl
is_storm-storm_by (a ∷ []) = one a (kind a)
is_storm-storm_by (a ∷ b ∷ []) = two a b (kind a) (kind b)
is_storm-storm_by (a ∷ b ∷ c ∷ []) = three a b c (kind a) (kind b) (kind c)
is_storm-storm_by (a ∷ b ∷ c ∷ d ∷ []) = four a b c d (kind a) (kind b) (kind c)
is_storm-storm_by (a ∷ b ∷ c ∷ d ∷ e ∷ words) = more a b c d e words (kind a) (kind b) (kind c)

-- the words behind `live` are in a form exactly where they ask for live parts
pub is_live-live_by : (words : List (List ℕ)) → is_live words ≡ is_some (live_by words)
is_live-live_by [] = refl
is_live-live_by (a ∷ []) = go (is_flag a)
  where
    go : (b : Bool) → b ≡ is_some (cond b (Some (asked.Live true)) None)
    go true = refl
    go false = refl
is_live-live_by (a ∷ b ∷ words) = refl

module _ (words rest : List (Bor (List ℕ))) (name : Bor (List ℕ)) (is : words ≡ name ∷ rest) where
  -- words that begin with `run` are in a form exactly where they ask for something
  pub asked-run : pointwise nat_eq name.now (codes "run") ≡ true → is_run (texts rest) ≡ is_some (asked_by words)
  asked-run run = rw (is, run) (is_run-run_by (texts rest))

  -- and so are words that begin with `storm`
  pub asked-storm : pointwise nat_eq name.now (codes "run") ≡ false → pointwise nat_eq name.now (codes "storm") ≡ true → is_storm (texts rest) ≡ is_some (asked_by words)
  asked-storm run storm = rw (is, run, storm) (is_storm-storm_by (texts rest))

-- words in no form ask for nothing
pub asks_nothing : (asked : Option Asked) → is_some asked ≡ false → None ≡ asked
asks_nothing None e = refl
asks_nothing (Some a) e = absurd (cc e)

-- where words in a form are refused, they ask for something
pub asks_something : (asked : Option Asked) {T E : Type 0} (r : Result T E) → is_some asked ≡ true → IfErr r (λ _. asked ≢ None)
asks_something asked (Ok x) e = tt
asks_something None (Err x) e = absurd (cc e)
asks_something (Some a) (Err x) e = λ is. absurd (cc is)
