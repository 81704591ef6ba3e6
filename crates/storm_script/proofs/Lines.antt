-- Every command of a storm is one that a line can give.
use Rattle.std.proofs.Common.{◌≡◌, ℕ, zero, suc, ◌+◌, ◌<◌, ◌≤◌, ◌%◌, ◌==◌, ◌^◌, Bool, true, false, pos, List, [], ◌∷◌, ◌++◌, map, refl, arith, lit≤}
use Rattle.std.specs.Prelude.{◌-ℤ◌, if◌then◌else◌, Ok}
use Rattle.std.specs.List.{AllByRecursion, range_with_len}
use Rattle.std.proofs.lemmas.Bool.Decides.{nat_tests}
use Rattle.std.proofs.lemmas.Nat.{mod_below}
use Rattle.rep_values.specs.declared.name.SiteName.{SiteName}
use Rattle.rep_values.specs.declared.literal.Literal.TheVariants as literal
use Rattle.script_parse.specs.declared.command.Command.{Command}
use Rattle.script_parse.specs.declared.command.Command.TheVariants as command
use Rattle.script_parse.specs.Laws.{ReadsAgain}
use Rattle.script_parse.specs.Spelled.{spelled, IsName, IsSmall}
use Rattle.script_parse.specs.Parsed.{command_of}
use Rattle.storm_script.specs.declared.ways.Way.{Way}
use Rattle.storm_script.specs.Draws.{drawn, state_behind}
use Rattle.storm_script.specs.Sites.{site_at, ways, way_at}
use Rattle.storm_script.specs.Opening.{declarations, row_line, row_lines, opening}
use Rattle.storm_script.specs.Rounds.{stock_update, transaction, fated_push, three_fates, drawn_push, storm_round, behind_round, storm_rounds}
use Rattle.storm_script.specs.Closing.{clear_line, push_line, closing}
use Rattle.storm_script.specs.Storm.{storm_commands}
use Rattle.storm_script.specs.Laws.{IsLine, most_rounds, StormsAreLines, StormsReadAgain}

-- Lists in parts.

-- what holds of each of two lists holds of both together
pub all_append : {X : Type 0} (P : X → Type 0) (xs ys : List X) → AllByRecursion P xs → AllByRecursion P ys → AllByRecursion P (xs ++ ys)
all_append P [] ys left right = right
all_append P (x ∷ xs) ys left right = (left.0, all_append P xs ys left.1 right)

all_map : {X Y : Type 0} (P : X → Type 0) (Q : Y → Type 0) (f : X → Y) (xs : List X) → ((x : X) → P x → Q (f x)) → AllByRecursion P xs → AllByRecursion Q (map f xs)
all_map P Q f [] each given = tt
all_map P Q f (x ∷ xs) each given = (each x given.0, all_map P Q f xs each given.1)

all_weaker : {X : Type 0} (P Q : X → Type 0) (xs : List X) → ((x : X) → P x → Q x) → AllByRecursion P xs → AllByRecursion Q xs
all_weaker P Q [] each given = tt
all_weaker P Q (x ∷ xs) each given = (each x given.0, all_weaker P Q xs each given.1)

below_limit : (limit from number : ℕ) → from + number ≤ limit → AllByRecursion (λ n. n < limit) (range_with_len from number)
below_limit limit from zero within = tt
below_limit limit from (suc number) within = (omega arith, below_limit limit (from + 1) number (omega arith))

-- The opening.

declarations_are_lines : AllByRecursion IsLine declarations
declarations_are_lines = (
  record { named = tt; formed = refl },
  (
    record { named = tt; formed = refl },
    (
      record { named = tt; formed = refl },
      (
        record { named = tt; formed = (refl, (λ e. cc), (refl, (refl, (refl, (refl, (refl, (refl, (refl, tt)))))))) },
        (
          record { named = lit≤ tt; formed = (refl, refl, ((λ e. cc), (refl, tt))) },
          (
            record { named = tt; formed = (refl, refl, tt) },
            (
              record { named = lit≤ tt; formed = (refl, refl, ((λ e. cc), (refl, tt))) },
              (
                record { named = tt; formed = (refl, refl, refl) },
                (
                  record { named = tt; formed = (refl, refl, tt) },
                  (
                    record { named = lit≤ tt; formed = (refl, refl, ((λ e. cc), (refl, (refl, (refl, tt))))) },
                    (
                      record { named = tt; formed = (refl, refl, refl) },
                      (
                        record { named = tt; formed = (refl, refl, refl) },
                        (
                          record { named = tt; formed = (refl, refl) },
                          (
                            record { named = tt; formed = (refl, refl) },
                            (
                              record { named = tt; formed = (refl, refl) },
                              (record { named = tt; formed = refl }, tt),
                            ),
                          ),
                        ),
                      ),
                    ),
                  ),
                ),
              ),
            ),
          ),
        ),
      ),
    ),
  ),
)

small : (n : ℕ) → n < 2 ^ 63 → IsSmall (literal.Num (pos n))
small n below = grind (arith, nat_tests)

row_is_line : (id : ℕ) → id < 100 → IsLine (row_line id)
row_is_line id below = record { named = tt; formed = (refl, ((λ e. cc), (refl, (small id (omega arith), (refl, (refl, (refl, tt))))))) }

-- each command of the opening is a line's
pub opening_is_lines : AllByRecursion IsLine opening
unfolding opening
opening_is_lines =
    all_append IsLine declarations (row_lines 100 ++ (command.Resume ∷ [])) declarations_are_lines
    (all_append IsLine (row_lines 100) (command.Resume ∷ [])
    (all_map (λ n. n < 100) IsLine row_line (range_with_len 0 100) row_is_line (below_limit 100 0 100 (omega arith)))
    (record { named = tt; formed = tt }, tt))

-- The rounds.

site_named : (place : ℕ) → IsName (site_at place).0
site_named zero = refl
site_named (suc zero) = refl
site_named (suc (suc zero)) = refl
site_named (suc (suc (suc n))) = refl

abbrev IsNamed : Way → Type 0
IsNamed w = IsName w.from.0 × IsName w.to.0

way_named : (place : ℕ) → IsNamed (way_at place)
way_named zero = (refl, refl)
way_named (suc zero) = (refl, refl)
way_named (suc (suc zero)) = (refl, refl)
way_named (suc (suc (suc zero))) = (refl, refl)
way_named (suc (suc (suc (suc zero)))) = (refl, refl)
way_named (suc (suc (suc (suc (suc zero))))) = (refl, refl)
way_named (suc (suc (suc (suc (suc (suc n)))))) = (refl, refl)

amount_small : (n : ℕ) → n < 9 → IsSmall (literal.Num (pos n -ℤ pos 4))
amount_small zero below = refl
amount_small (suc zero) below = refl
amount_small (suc (suc zero)) below = refl
amount_small (suc (suc (suc zero))) below = refl
amount_small (suc (suc (suc (suc zero)))) below = refl
amount_small (suc (suc (suc (suc (suc zero))))) below = refl
amount_small (suc (suc (suc (suc (suc (suc zero)))))) below = refl
amount_small (suc (suc (suc (suc (suc (suc (suc zero))))))) below = refl
amount_small (suc (suc (suc (suc (suc (suc (suc (suc zero)))))))) below = refl
amount_small (suc (suc (suc (suc (suc (suc (suc (suc (suc n))))))))) below = absurd (omega arith)

update_is_line : (i id : ℕ) → i ≤ most_rounds → id < 100 → IsLine (command.Statement (stock_update i id))
update_is_line i id within below = record {
  named = tt;
  formed = (
    refl,
    ((λ e. cc), (refl, (small id (omega arith), tt))),
    (λ e. cc),
    ((refl, amount_small (i % 9) (omega arith)), ((refl, small i (omega arith)), ((refl, refl), tt))),
  );
}

transaction_is_lines : (i : ℕ) (site : SiteName) (id : ℕ) → i ≤ most_rounds → IsName site.0 → id < 100 → AllByRecursion IsLine (transaction i site id)
transaction_is_lines i site id within named below =
    (record { named = tt; formed = named }, (update_is_line i id within below, (record { named = tt; formed = tt }, tt)))

drawn_push_is_lines : (x : ℕ) → AllByRecursion IsLine (drawn_push x)
drawn_push_is_lines x = go (way_at (drawn 6 (state_behind 1 x))) (way_named (drawn 6 (state_behind 1 x)))
  where
    go : (w : Way) → IsNamed w → AllByRecursion IsLine (fated_push w (three_fates (state_behind 1 x)))
    go w named = (record { named = tt; formed = (named.0, named.1, (λ e. cc)) }, (record { named = tt; formed = named }, tt))

drawn_below : (bound x : ℕ) → 0 < bound → drawn bound x < bound
unfolding drawn
drawn_below bound x some = mod_below _ bound some

-- each command of a round is a line's
pub round_is_lines : (i x : ℕ) → i ≤ most_rounds → AllByRecursion IsLine (storm_round i x)
unfolding storm_round
round_is_lines i x within =
    all_append IsLine (transaction i (site_at (drawn 3 (state_behind 1 x))) (drawn 100 (state_behind 2 x))) (if i % 10 == 0 then drawn_push (state_behind 2 x) else [])
    (transaction_is_lines i (site_at (drawn 3 (state_behind 1 x))) (drawn 100 (state_behind 2 x)) within (site_named (drawn 3 (state_behind 1 x))) (drawn_below 100 (state_behind 2 x) (omega arith)))
    (go (i % 10 == 0))
  where
    go : (b : Bool) → AllByRecursion IsLine (if b then drawn_push (state_behind 2 x) else [])
    go true = drawn_push_is_lines (state_behind 2 x)
    go false = tt

rounds_are_lines : (left i x : ℕ) → i + left ≤ most_rounds + 1 → AllByRecursion IsLine (storm_rounds left i x)
rounds_are_lines zero i x within = tt
rounds_are_lines (suc left) i x within =
    all_append IsLine (storm_round i x) (storm_rounds left (i + 1) (behind_round i x)) (round_is_lines i x (omega arith)) (rounds_are_lines left (i + 1) (behind_round i x) (omega arith))

-- The closing.

ways_named : AllByRecursion IsNamed ways
ways_named = ((refl, refl), ((refl, refl), ((refl, refl), ((refl, refl), ((refl, refl), ((refl, refl), tt))))))

-- each command of the closing is a line's
pub closing_is_lines : AllByRecursion IsLine closing
unfolding closing
closing_is_lines =
    all_append IsLine (map clear_line ways) (map push_line ways)
    (all_map IsNamed IsLine clear_line ways (λ w named. record { named = tt; formed = named }) ways_named)
    (all_map IsNamed IsLine push_line ways (λ w named. record { named = tt; formed = named }) ways_named)

-- The storm.

pub storms_are_lines : StormsAreLines
storms_are_lines seed count within =
    all_append IsLine opening (storm_rounds count 1 seed ++ closing) opening_is_lines
    (all_append IsLine (storm_rounds count 1 seed) closing (rounds_are_lines count 1 seed (omega arith)) closing_is_lines)

reads : ReadsAgain → (c : Command) → IsLine c → command_of (spelled c) ≡ Ok c
reads law c line = law c line.formed

pub storms_read_again : ReadsAgain → StormsReadAgain
storms_read_again law seed count within =
    all_weaker IsLine (λ c. command_of (spelled c) ≡ Ok c) (storm_commands seed count) (reads law) (storms_are_lines seed count within)
