-- Texts that are counted by hand.
use Rattle.std.proofs.Common.{◌≡◌, [], ◌∷◌, ◌++◌, false, refl}
use Rattle.std.specs.Prelude.{codes}
use Rattle.replication_cli.specs.Words.{word_at, digits_number}
use Rattle.replication_cli.specs.Tallies.{is_commit, errors_of, tally_of}

third_word : word_at 2 (codes "commit B none" ++ 10 ∷ []) ≡ codes "none"
third_word = refl

number_of_digits : digits_number (codes "1206") ≡ 1206
number_of_digits = refl

-- the first number that has no 64 bits
number_of_many_digits : digits_number (codes "18446744073709551616") ≡ 18446744073709551615
number_of_many_digits = refl

nothing_committed : is_commit (codes "commit B none" ++ 10 ∷ []) ≡ false
nothing_committed = refl

-- the line of a push, with that of its one error behind it
errors_of_a_push : errors_of (codes "push A B sent 3 done 2 errors 1 low 7" ++ (10 ∷ (codes "error A 3 call 1 NoRow" ++ 10 ∷ []))) ≡ 1
errors_of_a_push = refl

five_texts : tally_of
    ((codes "commit A 1" ++ 10 ∷ []) ∷
    [] ∷
    (codes "commit B none" ++ 10 ∷ []) ∷
    (codes "! 7 RuleBroken t" ++ 10 ∷ []) ∷
    (codes "push A B sent 1 done 1 errors 12 low 1" ++ 10 ∷ []) ∷ []) ≡ record { commits = 1; refused = 1; pushes = 1; errors = 12 }
five_texts = refl
