-- Lines that begin with their turns' words tell what the turns are of.
use Rattle.std.proofs.Common.{◌≡◌, ◌≢◌, ℕ, zero, suc, ◌+◌, ◌<◌, ◌^◌, ◌==◌, List, [], ◌∷◌, ◌++◌, length, map, Bool, true, false, Some, None, refl, sym, ap, ◌∙◌, arith, subst, inl, inr}
use Rattle.std.specs.Prelude.{◌&&◌, is_some, nat_le, decimal, codes}
use Rattle.std.specs.List.{AllByRecursion, list_all}
use mathlib.Core.List.{append_assoc}
use Rattle.std.proofs.lemmas.List.{append_cancel_left}
use Rattle.std.proofs.lemmas.Bool.{and_parts}
use Rattle.std.proofs.lemmas.Bool.Decides.{nat_tests}
use Rattle.std.proofs.lemmas.Fmt.{decimal-digits_of, decimal_digit, decimal_injective}
use Rattle.std.proofs.lemmas.Int.Digits.{all_below_base_digits_of}
use Rattle.std.specs.Int.Digits.{digits_of}
use Rattle.rep_values.specs.declared.name.SiteName.{SiteName}
use Rattle.rep_values.specs.Bytes.{is_letter}
use Rattle.rep_values.specs.Name.{is_name_byte, is_name}
use Rattle.site_state.specs.State.{SiteState, arrived_at}
use Rattle.rep_schema.specs.Sites.{is_among}
use Rattle.deferred_queue.proofs.Sites.{eq_true}
use Rattle.live_laws.specs.declared.turn.LiveTurn.{LiveTurn}
use Rattle.live_laws.specs.declared.turn.LiveTurn.TheVariants.{Applied, Committed}
use Rattle.live_laws.specs.declared.turn.Session.{Session}
use Rattle.live_laws.specs.Turns.{blocks_of, block_of}
use Rattle.live_laws.specs.Printed.{SameSubject, SubjectIsThere, turn_words, IsBreak, IsPrintable, TurnLinesTellSubjects}
use Rattle.live_laws.proofs.BlockNumbers.{number_within, session_within}

-- ---- the first word of a text

-- words up to a byte that is in none are the same
record SameWord (xs ys : List ℕ) (c d : ℕ) (rest more : List ℕ) : Type 0 where
  word : xs ≡ ys
  next : c ≡ d
  tail : rest ≡ more

first_word : (P : ℕ → Type 0) (xs ys : List ℕ) (c d : ℕ) (rest more : List ℕ) → AllByRecursion P xs → AllByRecursion P ys → (P c → ⊥) → (P d → ⊥) → xs ++ c ∷ rest ≡ ys ++ d ∷ more
    → SameWord xs ys c d rest more
first_word P [] [] c d rest more all other off other_off same = record { word = refl; next = cc same; tail = cc same }
first_word P [] (y ∷ ys) c d rest more all other off other_off same = let head : y ≡ c = cc same in absurd (off (subst P head other.0))
first_word P (x ∷ xs) [] c d rest more all other off other_off same = let head : x ≡ d = cc same in absurd (other_off (subst P head all.0))
first_word P (x ∷ xs) (y ∷ ys) c d rest more all other off other_off same =
    let head : x ≡ y = cc same in
    let behind = first_word P xs ys c d rest more all.1 other.1 off other_off (cc same) in
    record { word = λ i. head i ∷ behind.word i; next = behind.next; tail = behind.tail }

-- ---- numbers

-- a byte above the space, as digits are and a newline and the space aren't
abbrev IsAboveSpace : ℕ → Type 0
IsAboveSpace b = 32 < b

digits_above_space : (ds : List ℕ) → AllByRecursion (λ (d : ℕ). d < 10) ds → AllByRecursion IsAboveSpace (map (λ (d : ℕ). 48 + d) ds)
digits_above_space [] below = tt
digits_above_space (d ∷ ds) below = (omega arith, digits_above_space ds below.1)

decimal_above_space : (n : ℕ) → n < 2 ^ 64 → AllByRecursion IsAboveSpace (decimal n)
decimal_above_space zero fits = subst (AllByRecursion IsAboveSpace) (sym (decimal_digit 0 (omega arith))) (omega arith, tt)
decimal_above_space (suc n) fits = subst (AllByRecursion IsAboveSpace) (sym (decimal-digits_of (suc n) (omega arith) fits)) (digits_above_space (digits_of 10 (suc n)) (all_below_base_digits_of 10 (suc n) (omega arith)))

break_is_not_above : (c : ℕ) → IsBreak c → IsAboveSpace c → ⊥
break_is_not_above c ends above = elim ends [ inl is ↦ absurd (omega (arith, is, above)) | inr is ↦ absurd (omega (arith, is, above)) ]

-- numbers up to a newline or a space are the same
record SameNumber (m n : ℕ) (rest more : List ℕ) : Type 0 where
  number : m ≡ n
  tail : rest ≡ more

first_number : (m n c d : ℕ) (rest more : List ℕ) → m < 2 ^ 64 → n < 2 ^ 64 → IsBreak c → IsBreak d → decimal m ++ c ∷ rest ≡ decimal n ++ d ∷ more → SameNumber m n rest more
first_number m n c d rest more fits other_fits ends other_ends same =
    let words = first_word IsAboveSpace (decimal m) (decimal n) c d rest more (decimal_above_space m fits) (decimal_above_space n other_fits) (break_is_not_above c ends) (break_is_not_above d other_ends) same in
    record { number = decimal_injective m n fits other_fits words.word; tail = words.tail }

-- ---- names

-- a byte that is no space, as those of names are
abbrev IsNoSpace : ℕ → Type 0
IsNoSpace b = b ≢ 32

no_space : (b : ℕ) → is_name_byte b ≡ true → IsNoSpace b
no_space b is at = grind (arith, nat_tests)

no_spaces : (bs : List ℕ) → list_all is_name_byte bs ≡ true → AllByRecursion IsNoSpace bs
no_spaces [] all = tt
no_spaces (b ∷ bs) all = go (is_name_byte b) refl all (no_spaces bs)
  where
    go : (t : Bool) → is_name_byte b ≡ t → (t && list_all is_name_byte bs) ≡ true → (list_all is_name_byte bs ≡ true → AllByRecursion IsNoSpace bs) → AllByRecursion IsNoSpace (b ∷ bs)
    go true is all later = (no_space b is, later all)
    go false is all later = absurd (cc all)

name_has_no_space : (bs : List ℕ) → is_name bs ≡ true → AllByRecursion IsNoSpace bs
name_has_no_space [] is = tt
name_has_no_space (b ∷ bs) is = no_spaces (b ∷ bs) (and_parts (nat_le (length (b ∷ bs)) 30 && is_letter b) (list_all is_name_byte (b ∷ bs)) is).1

-- ---- subjects

-- texts with other first bytes aren't the same
differ : (a b : ℕ) (xs ys : List ℕ) → (a == b) ≡ false → a ∷ xs ≡ b ∷ ys → ⊥
differ a b xs ys off same = let head : a ≡ b = cc same in absurd (cc (eq_true a b head, off))

module _ (origins : List SiteName) (sessions : List Session) (x : SiteState) (printable : IsPrintable origins sessions x) where
  same_position : (origin other : SiteName) (p q c d : ℕ) (rest more : List ℕ) → IsBreak c → IsBreak d
      → (is_among origins origin ≡ true) × (arrived_at origin p x.senders ≢ None) → (is_among origins other ≡ true) × (arrived_at other q x.senders ≢ None)
      → (origin.0 ++ 32 ∷ decimal p) ++ c ∷ rest ≡ (other.0 ++ 32 ∷ decimal q) ++ d ∷ more → (origin ≡ other) × (p ≡ q)
  same_position origin other p q c d rest more ends other_ends may other_may same =
      let apart : origin.0 ++ 32 ∷ (decimal p ++ c ∷ rest) ≡ other.0 ++ 32 ∷ (decimal q ++ d ∷ more) =
      sym (append_assoc origin.0 (32 ∷ decimal p) (c ∷ rest)) ∙ same ∙ append_assoc other.0 (32 ∷ decimal q) (d ∷ more) in
      let words = first_word IsNoSpace origin.0 other.0 32 32 (decimal p ++ c ∷ rest) (decimal q ++ d ∷ more)
      (name_has_no_space origin.0 (printable.names origin may.0)) (name_has_no_space other.0 (printable.names other other_may.0)) (λ off. off refl) (λ off. off refl) apart in
      let numbers = first_number p q c d rest more (printable.positions origin p may.1) (printable.positions other q other_may.1) ends other_ends words.tail in
      (ap (λ (n : List ℕ). record { 0 = n }) words.word, numbers.number)

  same_block : (session other block b c d : ℕ) (rest more : List ℕ) → IsBreak c → IsBreak d
      → is_some (block_of session block sessions) ≡ true → is_some (block_of other b sessions) ≡ true
      → (decimal session ++ 32 ∷ (codes "block " ++ decimal block)) ++ c ∷ rest ≡ (decimal other ++ 32 ∷ (codes "block " ++ decimal b)) ++ d ∷ more → (session ≡ other) × (block ≡ b)
  same_block session other block b c d rest more ends other_ends may other_may same =
      let apart : decimal session ++ 32 ∷ (codes "block " ++ (decimal block ++ c ∷ rest)) ≡ decimal other ++ 32 ∷ (codes "block " ++ (decimal b ++ d ∷ more)) =
      sym (append_assoc (decimal session) (32 ∷ (codes "block " ++ decimal block)) (c ∷ rest)) ∙ same ∙ append_assoc (decimal other) (32 ∷ (codes "block " ++ decimal b)) (d ∷ more) in
      let first = first_number session other 32 32 (codes "block " ++ (decimal block ++ c ∷ rest)) (codes "block " ++ (decimal b ++ d ∷ more))
      (omega (arith, session_within session block sessions may, printable.sessions_fit)) (omega (arith, session_within other b sessions other_may, printable.sessions_fit)) (inr refl) (inr refl) apart in
      let second = first_number block b c d rest more
      (omega (arith, number_within block (blocks_of session sessions) may, printable.blocks_fit session)) (omega (arith, number_within b (blocks_of other sessions) other_may, printable.blocks_fit other)) ends other_ends
      (append_cancel_left (codes "block ") (decimal block ++ c ∷ rest) (decimal b ++ d ∷ more) first.tail) in
      (first.number, second.number)

  same_subject : (turn other : LiveTurn) (c d : ℕ) (rest more : List ℕ) → IsBreak c → IsBreak d → SubjectIsThere origins sessions x turn → SubjectIsThere origins sessions x other
      → turn_words turn ++ c ∷ rest ≡ turn_words other ++ d ∷ more → SameSubject turn other
  same_subject (Applied o p call None) (Applied q r k None) c d rest more ends other_ends may other_may same =
      same_position o q p r c d rest more ends other_ends may other_may (append_cancel_left (codes "turn done ") _ _ same)
  same_subject (Applied o p call (Some error)) (Applied q r k (Some e)) c d rest more ends other_ends may other_may same =
      same_position o q p r c d rest more ends other_ends may other_may (append_cancel_left (codes "turn error ") _ _ same)
  same_subject (Applied o p call None) (Applied q r k (Some e)) c d rest more ends other_ends may other_may same = absurd (differ 100 101 _ _ refl (append_cancel_left (codes "turn ") _ _ same))
  same_subject (Applied o p call (Some error)) (Applied q r k None) c d rest more ends other_ends may other_may same = absurd (differ 101 100 _ _ refl (append_cancel_left (codes "turn ") _ _ same))
  same_subject (Applied o p call None) (Committed session block reply) c d rest more ends other_ends may other_may same = absurd (differ 100 115 _ _ refl (append_cancel_left (codes "turn ") _ _ same))
  same_subject (Applied o p call (Some error)) (Committed session block reply) c d rest more ends other_ends may other_may same = absurd (differ 101 115 _ _ refl (append_cancel_left (codes "turn ") _ _ same))
  same_subject (Committed session block reply) (Applied q r k None) c d rest more ends other_ends may other_may same = absurd (differ 115 100 _ _ refl (append_cancel_left (codes "turn ") _ _ same))
  same_subject (Committed session block reply) (Applied q r k (Some e)) c d rest more ends other_ends may other_may same = absurd (differ 115 101 _ _ refl (append_cancel_left (codes "turn ") _ _ same))
  same_subject (Committed session block reply) (Committed s b r) c d rest more ends other_ends may other_may same =
      same_block session s block b c d rest more ends other_ends may other_may (append_cancel_left (codes "turn session ") _ _ same)

pub turn_lines_tell_subjects : TurnLinesTellSubjects
turn_lines_tell_subjects origins sessions x text printable begins turn other rest more may other_may same =
    let one = begins turn in
    let two = begins other in
    same_subject origins sessions x printable turn other one.next two.next (one.tail ++ rest) (two.tail ++ more) one.ends two.ends may other_may
    (
    sym (append_assoc (turn_words turn) (one.next ∷ one.tail) rest) ∙ ap (λ (bs : List ℕ). bs ++ rest) (sym one.is) ∙ same ∙ ap (λ (bs : List ℕ). bs ++ more) two.is
    ∙ append_assoc (turn_words other) (two.next ∷ two.tail) more
    )
