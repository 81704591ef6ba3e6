-- The counts of a storm's run are those over its texts, and its world is the one behind its commands.
use Rattle.std.proofs.Common.{◌≡◌, ℕ, ◌+◌, cond, List, [], ◌∷◌, length, refl, ap, sym, ◌∙◌, fold, arith, add-zero, zero-add}
use Rattle.std.specs.Prelude.{count_by, sum_by}
use Rattle.std.proofs.lemmas.List.Sums.{sum_by-cons}
use Rattle.script_parse.specs.declared.command.Command.{Command}
use Rattle.world_state.specs.World.{first_world}
use Rattle.world_state.specs.Steps.{world_steps}
use Rattle.replication_cli.specs.declared.tally.Tally.{Tally}
use Rattle.replication_cli.specs.Texts.{texts}
use Rattle.replication_cli.specs.Tallies.{is_commit, is_refused, is_push, errors_of, tally_of, with_text}
use Rattle.replication_cli.specs.Runs.{Running, storm_beginning, with_command, with_commands}

commits_in : (t : Tally) (xs : List (List ℕ)) → (fold with_text t xs).commits ≡ t.commits + count_by is_commit xs
commits_in t [] = sym (add-zero t.commits)
commits_in t (x ∷ xs) = omega (arith, commits_in (with_text t x) xs, sum_by-cons (λ text. cond (is_commit text) 1 0) x xs)

refused_in : (t : Tally) (xs : List (List ℕ)) → (fold with_text t xs).refused ≡ t.refused + count_by is_refused xs
refused_in t [] = sym (add-zero t.refused)
refused_in t (x ∷ xs) = omega (arith, refused_in (with_text t x) xs, sum_by-cons (λ text. cond (is_refused text) 1 0) x xs)

pushes_in : (t : Tally) (xs : List (List ℕ)) → (fold with_text t xs).pushes ≡ t.pushes + count_by is_push xs
pushes_in t [] = sym (add-zero t.pushes)
pushes_in t (x ∷ xs) = omega (arith, pushes_in (with_text t x) xs, sum_by-cons (λ text. cond (is_push text) 1 0) x xs)

errors_in : (t : Tally) (xs : List (List ℕ)) → (fold with_text t xs).errors ≡ t.errors + sum_by errors_of xs
errors_in t [] = sym (add-zero t.errors)
errors_in t (x ∷ xs) = omega (arith, errors_in (with_text t x) xs, sum_by-cons errors_of x xs)

counted : ℕ → ℕ → ℕ → ℕ → Tally
counted commits refused pushes errors = record { commits = commits; refused = refused; pushes = pushes; errors = errors }

-- texts counted one by one are counted together
tally_of-fold : (xs : List (List ℕ)) → fold with_text (tally_of []) xs ≡ tally_of xs
unfolding counted
tally_of-fold xs =
    let commits = commits_in (tally_of []) xs ∙ zero-add (count_by is_commit xs) in
    let refused = refused_in (tally_of []) xs ∙ zero-add (count_by is_refused xs) in
    let pushes = pushes_in (tally_of []) xs ∙ zero-add (count_by is_push xs) in
    let errors = errors_in (tally_of []) xs ∙ zero-add (sum_by errors_of xs) in
    let told : Tally = fold with_text (tally_of []) xs in
    ap (λ n. counted n told.refused told.pushes told.errors) commits
    ∙ ap (λ n. counted (count_by is_commit xs) n told.pushes told.errors) refused
    ∙ ap (λ n. counted (count_by is_commit xs) (count_by is_refused xs) n told.errors) pushes
    ∙ ap (λ n. counted (count_by is_commit xs) (count_by is_refused xs) (count_by is_push xs) n) errors

world-with_commands : (r : Running) (cs : List Command) → (with_commands r cs).world ≡ world_steps r.number cs r.world
world-with_commands r [] = refl
world-with_commands r (c ∷ cs) = world-with_commands (with_command r c) cs

tally-with_commands : (r : Running) (cs : List Command) → (with_commands r cs).tally ≡ fold with_text r.tally (texts r.number cs r.world)
tally-with_commands r [] = refl
tally-with_commands r (c ∷ cs) = tally-with_commands (with_command r c) cs

-- the number of the command that comes behind others
pub number-with_commands : (r : Running) (cs : List Command) → (with_commands r cs).number ≡ r.number + length cs
number-with_commands r [] = sym (add-zero r.number)
number-with_commands r (c ∷ cs) = omega (arith, number-with_commands (with_command r c) cs)

-- a run from the first command on has the world behind all of them
pub world_behind : (cs : List Command) → (with_commands storm_beginning cs).world ≡ world_steps 1 cs first_world
world_behind cs = world-with_commands storm_beginning cs

-- and counts what they print
pub tally_behind : (cs : List Command) → (with_commands storm_beginning cs).tally ≡ tally_of (texts 1 cs first_world)
tally_behind cs = tally-with_commands storm_beginning cs ∙ tally_of-fold (texts 1 cs first_world)
