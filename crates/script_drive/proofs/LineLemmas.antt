-- Laws of lines, and of the bytes that they are cut from.
use Rattle.std.proofs.Common.{◌≡◌, ◌≢◌, ℕ, List, [], ◌∷◌, ◌++◌, true, false, cond, ◌⊎◌, inl, inr, nat_eq, All, refl, sym, ap, ap₂, ◌∙◌, append_assoc, append-nil, ne_eqb}
use Rattle.std.proofs.lemmas.Bool.Decides.{eqb_tells}
use Rattle.std.proofs.lemmas.List.Elements.{All-nil, All-cons, All-head, All-tail, All-push}
use Rattle.script_drive.specs.Lines.{newline, whole_lines, pending, last_line, lines_after, joined_lines, IsUnbroken}

pub whole_lines-append : (front xs ys : List ℕ) → whole_lines front (xs ++ ys) ≡ whole_lines front xs ++ whole_lines (pending front xs) ys
whole_lines-append front [] ys = refl
whole_lines-append front (b ∷ bs) ys =
    elim (nat_eq b newline) as (λ t. cond t (front ∷ whole_lines [] (bs ++ ys)) (whole_lines (front ++ b ∷ []) (bs ++ ys))
    ≡ cond t (front ∷ whole_lines [] bs) (whole_lines (front ++ b ∷ []) bs) ++ whole_lines (cond t (pending [] bs) (pending (front ++ b ∷ []) bs)) ys) [
      | true ↦ ap (λ ls. front ∷ ls) (whole_lines-append [] bs ys)
      | false ↦ whole_lines-append (front ++ b ∷ []) bs ys
    ]

pub pending-append : (front xs ys : List ℕ) → pending front (xs ++ ys) ≡ pending (pending front xs) ys
pending-append front [] ys = refl
pending-append front (b ∷ bs) ys =
    elim (nat_eq b newline) as (λ t. cond t (pending [] (bs ++ ys)) (pending (front ++ b ∷ []) (bs ++ ys))
    ≡ pending (cond t (pending [] bs) (pending (front ++ b ∷ []) bs)) ys) [
      | true ↦ pending-append [] bs ys
      | false ↦ pending-append (front ++ b ∷ []) bs ys
    ]

pub lines_after-append : (front xs ys : List ℕ) → lines_after front (xs ++ ys) ≡ whole_lines front xs ++ lines_after (pending front xs) ys
lines_after-append front xs ys =
    ap₂ (λ ls p. ls ++ last_line p) (whole_lines-append front xs ys) (pending-append front xs ys)
    ∙ append_assoc (whole_lines front xs) (whole_lines (pending front xs) ys) (last_line (pending (pending front xs) ys))

-- the first line begins with the bytes that stand before it
abbrev pub StartsLine : List ℕ → List (List ℕ) → Type 0
StartsLine front lines = (more : List ℕ) × (rest : List (List ℕ)) × (lines ≡ (front ++ more) ∷ rest)

starts_some : (b : ℕ) (front xs : List ℕ) → StartsLine (b ∷ front) (lines_after (b ∷ front) xs)
starts_some b front [] = ([], [], ap (λ l. l ∷ []) (sym (append-nil (b ∷ front))))
starts_some b front (x ∷ xs) =
    elim (nat_eq x newline) as (λ t. StartsLine (b ∷ front) (cond t ((b ∷ front) ∷ whole_lines [] xs) (whole_lines ((b ∷ front) ++ x ∷ []) xs) ++ last_line (cond t (pending [] xs) (pending ((b ∷ front) ++ x ∷ []) xs)))) [
      | true ↦ ([], lines_after [] xs, ap (λ l. l ∷ lines_after [] xs) (sym (append-nil (b ∷ front))))
      | false ↦ let r = starts_some b (front ++ x ∷ []) xs in (x ∷ r.0, r.1, r.2 ∙ ap (λ l. l ∷ r.1) (append_assoc (b ∷ front) (x ∷ []) r.0))
    ]

starts_more : (front : List ℕ) (b : ℕ) (xs : List ℕ) → StartsLine (front ++ b ∷ []) (lines_after (front ++ b ∷ []) xs)
starts_more [] b xs = starts_some b [] xs
starts_more (c ∷ front) b xs = starts_some c (front ++ b ∷ []) xs

-- bytes before a line's end make a line, whatever follows
pub starts_line : (front : List ℕ) (b : ℕ) (xs : List ℕ) → b ≢ newline → StartsLine (front ++ b ∷ []) (lines_after front (b ∷ xs))
starts_line front b xs other = rw (ne_eqb b newline other) (starts_more front b xs)

-- there is a first line
abbrev pub HasLine : List (List ℕ) → Type 0
HasLine lines = (l : List ℕ) × (more : List (List ℕ)) × (lines ≡ l ∷ more)

-- a byte makes a line, whatever follows
pub some_line : (front : List ℕ) (b : ℕ) (xs : List ℕ) → HasLine (lines_after front (b ∷ xs))
some_line front b xs =
    elim (nat_eq b newline) as (λ t. HasLine (cond t (front ∷ whole_lines [] xs) (whole_lines (front ++ b ∷ []) xs) ++ last_line (cond t (pending [] xs) (pending (front ++ b ∷ []) xs)))) [
      | true ↦ (front, lines_after [] xs, refl)
      | false ↦ let r = starts_more front b xs in ((front ++ b ∷ []) ++ r.0, r.1, r.2)
    ]

-- a byte ends a line, or it doesn't
abbrev EndsOrNot : ℕ → Type 0
EndsOrNot b = ((nat_eq b newline ≡ true) × (b ≡ newline)) ⊎ ((nat_eq b newline ≡ false) × (b ≢ newline))

joined-cons : (front : List ℕ) (b : ℕ) (bs : List ℕ) → EndsOrNot b → joined_lines (whole_lines [] bs) ++ pending [] bs ≡ bs
    → joined_lines (whole_lines (front ++ b ∷ []) bs) ++ pending (front ++ b ∷ []) bs ≡ (front ++ b ∷ []) ++ bs
    → joined_lines (whole_lines front (b ∷ bs)) ++ pending front (b ∷ bs) ≡ front ++ b ∷ bs
joined-cons front b bs (inl ends) new same =
    rw ends.0 (append_assoc (front ++ newline ∷ []) (joined_lines (whole_lines [] bs)) (pending [] bs)
    ∙ (ap (λ l. (front ++ newline ∷ []) ++ l) new ∙ (append_assoc front (newline ∷ []) bs ∙ ap (λ c. front ++ c ∷ bs) (sym ends.1))))
joined-cons front b bs (inr other) new same = rw other.0 (same ∙ append_assoc front (b ∷ []) bs)

-- the lines and the bytes without an end are the bytes
pub joined_lines-whole_lines : (front bytes : List ℕ) → joined_lines (whole_lines front bytes) ++ pending front bytes ≡ front ++ bytes
joined_lines-whole_lines front [] = sym (append-nil front)
joined_lines-whole_lines front (b ∷ bs) = joined-cons front b bs (eqb_tells b newline) (joined_lines-whole_lines [] bs) (joined_lines-whole_lines (front ++ b ∷ []) bs)

-- no line of these bytes has an end within
pub record Parts (front bytes : List ℕ) : Type 0 where
  pub lines : All IsUnbroken (whole_lines front bytes)
  pub rest : IsUnbroken (pending front bytes)

parts-cons : (front : List ℕ) (b : ℕ) (bs : List ℕ) → EndsOrNot b → IsUnbroken front → Parts [] bs → (IsUnbroken (front ++ b ∷ []) → Parts (front ++ b ∷ []) bs) → Parts front (b ∷ bs)
parts-cons front b bs (inl ends) unbroken new same = record {
  lines = rw ends.0 (All-cons IsUnbroken front (whole_lines [] bs) unbroken new.lines);
  rest = rw ends.0 new.rest;
}
parts-cons front b bs (inr other) unbroken new same =
    let s = same (All-push (λ byte. byte ≢ newline) front b unbroken other.1) in record {
      lines = rw other.0 s.lines;
      rest = rw other.0 s.rest;
    }

pub parts : (front bytes : List ℕ) → IsUnbroken front → Parts front bytes
parts front [] unbroken = record { lines = All-nil IsUnbroken; rest = unbroken }
parts front (b ∷ bs) unbroken =
    parts-cons front b bs (eqb_tells b newline) unbroken (parts [] bs (All-nil (λ byte. byte ≢ newline))) (λ longer. parts (front ++ b ∷ []) bs longer)

-- bytes without an end make no line
pub whole_lines-unbroken : (front bytes : List ℕ) → IsUnbroken bytes → whole_lines front bytes ≡ []
whole_lines-unbroken front [] unbroken = refl
whole_lines-unbroken front (b ∷ bs) unbroken =
    let P : ℕ → Type 0 = λ byte. byte ≢ newline in
    rw (ne_eqb b newline (All-head P b bs unbroken)) (whole_lines-unbroken (front ++ b ∷ []) bs (All-tail P b bs unbroken))

pub pending-unbroken : (front bytes : List ℕ) → IsUnbroken bytes → pending front bytes ≡ front ++ bytes
pending-unbroken front [] unbroken = sym (append-nil front)
pending-unbroken front (b ∷ bs) unbroken =
    let P : ℕ → Type 0 = λ byte. byte ≢ newline in
    rw (ne_eqb b newline (All-head P b bs unbroken)) (pending-unbroken (front ++ b ∷ []) bs (All-tail P b bs unbroken) ∙ append_assoc front (b ∷ []) bs)

-- a line and its end are read as that line, and what follows as a new one
whole_lines-line : (line more : List ℕ) → IsUnbroken line → whole_lines [] ((line ++ newline ∷ []) ++ more) ≡ line ∷ whole_lines [] more
whole_lines-line line more unbroken =
    ap (whole_lines []) (append_assoc line (newline ∷ []) more)
    ∙ (whole_lines-append [] line (newline ∷ more)
    ∙ ap₂ (λ ls p. ls ++ whole_lines p (newline ∷ more)) (whole_lines-unbroken [] line unbroken) (pending-unbroken [] line unbroken))

pending-line : (line more : List ℕ) → IsUnbroken line → pending [] ((line ++ newline ∷ []) ++ more) ≡ pending [] more
pending-line line more unbroken = ap (pending []) (append_assoc line (newline ∷ []) more) ∙ pending-append [] line (newline ∷ more)

pub whole_lines-joined : (lines : List (List ℕ)) (rest : List ℕ) → All IsUnbroken lines → IsUnbroken rest → whole_lines [] (joined_lines lines ++ rest) ≡ lines
whole_lines-joined [] rest unbroken last = whole_lines-unbroken [] rest last
whole_lines-joined (l ∷ ls) rest unbroken last =
    ap (whole_lines []) (append_assoc (l ++ newline ∷ []) (joined_lines ls) rest)
    ∙ (whole_lines-line l (joined_lines ls ++ rest) (All-head IsUnbroken l ls unbroken)
    ∙ ap (λ more. l ∷ more) (whole_lines-joined ls rest (All-tail IsUnbroken l ls unbroken) last))

pub pending-joined : (lines : List (List ℕ)) (rest : List ℕ) → All IsUnbroken lines → IsUnbroken rest → pending [] (joined_lines lines ++ rest) ≡ rest
pending-joined [] rest unbroken last = pending-unbroken [] rest last
pending-joined (l ∷ ls) rest unbroken last =
    ap (pending []) (append_assoc (l ++ newline ∷ []) (joined_lines ls) rest)
    ∙ (pending-line l (joined_lines ls ++ rest) (All-head IsUnbroken l ls unbroken) ∙ pending-joined ls rest (All-tail IsUnbroken l ls unbroken) last)
