-- Parts that are spelled one behind the other are read again.
use Rattle.std.proofs.Common.{◌≡◌, ℕ, zero, suc, ◌≤◌, Bool, true, false, List, [], ◌∷◌, ◌++◌, length, Ok, refl, subst, arith, append_assoc, append-nil, length-append}
use Rattle.std.specs.Prelude.{flat_map}
use Rattle.std.specs.List.{AllByRecursion}
use Rattle.script_lex.specs.declared.token.Token.{Token}
use Rattle.script_words.specs.Words.{is_mark}
use Rattle.script_words.specs.Reading.{Reading, begins, mark, after, many, several, one_or_more, separated}

-- A part that holds `Formed` is spelled by `spell`, and read again where what stands behind it stops it.
module _ {A : Type 0} (starts : Token → Bool) (reading : Reading A) (spell : A → List Token) (Formed : A → Type 0) (stops : List Token → Bool)
    (starts_so : (x : A) (rest : List Token) → Formed x → begins starts (spell x ++ rest) ≡ true)
    (again : (x : A) (rest : List Token) → Formed x → stops rest ≡ true → reading (spell x ++ rest) ≡ Ok (x, rest))
    (stopped : (x : A) (rest : List Token) → Formed x → stops (spell x ++ rest) ≡ true)
  where
    all_stopped : (xs : List A) (rest : List Token) → AllByRecursion Formed xs → stops rest ≡ true → stops (flat_map spell xs ++ rest) ≡ true
    all_stopped [] rest formed stop = stop
    all_stopped (x ∷ xs) rest formed stop = rw append_assoc (stopped x (flat_map spell xs ++ rest) formed.0)

    pub many_again : (xs : List A) (n : ℕ) (rest : List Token) → length xs ≤ n → AllByRecursion Formed xs → stops rest ≡ true → begins starts rest ≡ false
        → many starts reading n (flat_map spell xs ++ rest) ≡ Ok (xs, rest)
    unfolding many
    many_again [] zero rest within formed stop none = refl
    many_again [] (suc n) rest within formed stop none = rw none refl
    many_again (x ∷ xs) zero rest within formed stop none = absurd (omega arith)
    many_again (x ∷ xs) (suc n) rest within formed stop none =
        let behind : List Token = flat_map spell xs ++ rest in
        let one : reading (spell x ++ behind) ≡ Ok (x, behind) = again x behind formed.0 (all_stopped xs rest formed.1 stop) in
        let more : many starts reading n behind ≡ Ok (xs, rest) = many_again xs n rest (omega arith) formed.1 stop none in
        rw append_assoc (rw (starts_so x behind formed.0, one, more) refl)

    some_spelled : (ts : List Token) → begins starts (ts ++ []) ≡ true → 1 ≤ length ts
    some_spelled [] one = cc
    some_spelled (t ∷ ts) one = omega arith

    length-spelled : (xs : List A) → AllByRecursion Formed xs → length xs ≤ length (flat_map spell xs)
    length-spelled [] formed = omega arith
    length-spelled (x ∷ xs) formed =
        omega (arith, length-append (spell x) (flat_map spell xs), some_spelled (spell x) (starts_so x [] formed.0), length-spelled xs formed.1)

    -- any number of parts
    pub several_again : (xs : List A) (rest : List Token) → AllByRecursion Formed xs → stops rest ≡ true → begins starts rest ≡ false
        → several starts reading (flat_map spell xs ++ rest) ≡ Ok (xs, rest)
    several_again xs rest formed stop none =
        let within : length xs ≤ length (flat_map spell xs ++ rest) = omega (arith, length-append (flat_map spell xs) rest, length-spelled xs formed) in
        many_again xs (length (flat_map spell xs ++ rest)) rest within formed stop none

    -- one or more
    pub some_again : (x : A) (xs : List A) (rest : List Token) → AllByRecursion Formed (x ∷ xs) → stops rest ≡ true → begins starts rest ≡ false
        → one_or_more starts reading (flat_map spell (x ∷ xs) ++ rest) ≡ Ok (x ∷ xs, rest)
    some_again x xs rest formed stop none =
        let one : begins starts (flat_map spell (x ∷ xs) ++ rest) ≡ true = rw append_assoc (starts_so x (flat_map spell xs ++ rest) formed.0) in
        rw one (several_again (x ∷ xs) rest formed stop none)

    -- the same with nothing behind them
    pub all_again : (x : A) (xs : List A) → AllByRecursion Formed (x ∷ xs) → stops [] ≡ true → one_or_more starts reading (flat_map spell (x ∷ xs)) ≡ Ok (x ∷ xs, [])
    all_again x xs formed stop =
        subst (λ ts. one_or_more starts reading ts ≡ Ok (x ∷ xs, [])) (append-nil (flat_map spell (x ∷ xs))) (some_again x xs [] formed stop refl)

-- A part, and others that are spelled behind a mark each.
module _ {A : Type 0} (word : List ℕ) (m : Token) (marked : is_mark word m ≡ true) (reading : Reading A) (spell : A → List Token) (Formed : A → Type 0)
    (stops : List Token → Bool)
    (again : (x : A) (rest : List Token) → Formed x → stops rest ≡ true → reading (spell x ++ rest) ≡ Ok (x, rest))
    (stopped : (rest : List Token) → stops (m ∷ rest) ≡ true)
  where
    behind_again : (x : A) (rest : List Token) → Formed x → stops rest ≡ true → after word reading ((m ∷ spell x) ++ rest) ≡ Ok (x, rest)
    unfolding mark
    behind_again x rest formed stop = rw (marked, again x rest formed stop) refl

    all_behind_stopped : (xs : List A) (rest : List Token) → stops rest ≡ true → stops (flat_map (λ x. m ∷ spell x) xs ++ rest) ≡ true
    all_behind_stopped [] rest stop = stop
    all_behind_stopped (x ∷ xs) rest stop = stopped _

    pub separated_again : (x : A) (xs : List A) (rest : List Token) → AllByRecursion Formed (x ∷ xs) → stops rest ≡ true → begins (is_mark word) rest ≡ false
        → separated word reading (spell x ++ (flat_map (λ y. m ∷ spell y) xs ++ rest)) ≡ Ok (x ∷ xs, rest)
    separated_again x xs rest formed stop none =
        let behind : List Token = flat_map (λ y. m ∷ spell y) xs ++ rest in
        let one : reading (spell x ++ behind) ≡ Ok (x, behind) = again x behind formed.0 (all_behind_stopped xs rest stop) in
        let more : several (is_mark word) (after word reading) behind ≡ Ok (xs, rest) =
        several_again (is_mark word) (after word reading) (λ y. m ∷ spell y) Formed stops (λ y ts f. marked) behind_again (λ y ts f. stopped _) xs rest formed.1 stop none in
        rw (one, more) refl

    -- the same with nothing behind them
    pub all_separated_again : (x : A) (xs : List A) → AllByRecursion Formed (x ∷ xs) → stops [] ≡ true
        → separated word reading (spell x ++ flat_map (λ y. m ∷ spell y) xs) ≡ Ok (x ∷ xs, [])
    all_separated_again x xs formed stop =
        subst (λ ts. separated word reading (spell x ++ ts) ≡ Ok (x ∷ xs, [])) (append-nil (flat_map (λ y. m ∷ spell y) xs))
        (separated_again x xs [] formed stop refl)
