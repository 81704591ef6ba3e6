-- Lines that are statements, one after the other.
use Rattle.std.proofs.Common.{◌≡◌, ℕ, ◌+◌, ◌<◌, ◌≤◌, List, [], ◌∷◌, ◌++◌, length, Some, None, refl, sym, ap, ◌∙◌, subst, arith, append_assoc, append-nil, length-append}
use Rattle.std.specs.Prelude.{Option}
use Rattle.std.specs.Option.{option_to_list}
use Rattle.std.specs.List.{cons_option}
use Rattle.rep_calls.specs.declared.statement.Statement.{Statement}
use Rattle.script_parse.specs.Parsed.{parsed}
use Rattle.office.specs.declared.error.OfficeError.{OfficeError}
use Rattle.office.specs.declared.error.OfficeError.TheVariants as error
use Rattle.office.specs.Lines.{lines_of}
use Rattle.office.specs.Blocks.{IsOfBlock, AreOfBlock, statement_in, statements_in}
use Rattle.office.specs.Stops.{BlockLineStops, BlockTextStops}

-- the lines in front of what is left of a text are a block's, so many, and are these statements
pub record StatedSoFar (text left : List ℕ) (number : ℕ) (statements : List Statement) : Type 0 where
  pub front : List (List ℕ)
  pub parts : lines_of text ≡ front ++ lines_of left
  pub count : number ≡ length front
  pub taken : AreOfBlock front
  pub is : statements ≡ statements_in front
  pub few : number + length left ≤ length text

statements_in-push : (front : List (List ℕ)) (line : List ℕ) → statements_in (front ++ line ∷ []) ≡ statements_in front ++ option_to_list (statement_in (parsed line))
statements_in-push [] line = go (statement_in (parsed line))
  where
    go : (o : Option Statement) → cons_option o [] ≡ option_to_list o
    go None = refl
    go (Some s) = refl
statements_in-push (l ∷ front) line = go (statement_in (parsed l)) (statements_in-push front line)
  where
    last : List Statement
    last = option_to_list (statement_in (parsed line))

    go : (o : Option Statement) → statements_in (front ++ line ∷ []) ≡ statements_in front ++ last → cons_option o (statements_in (front ++ line ∷ [])) ≡ cons_option o (statements_in front) ++ last
    go None later = later
    go (Some s) later = ap (λ (ss : List Statement). s ∷ ss) later

AreOfBlock-push : (front : List (List ℕ)) (line : List ℕ) → AreOfBlock front → IsOfBlock (parsed line) → AreOfBlock (front ++ line ∷ [])
AreOfBlock-push [] line taken last = (last, tt)
AreOfBlock-push (l ∷ front) line taken last = (taken.0, AreOfBlock-push front line taken.1 last)

-- none of them at first
pub none_stated : (text : List ℕ) (statements : List Statement) → statements ≡ [] → StatedSoFar text text 0 statements
none_stated text statements is = record { front = []; parts = refl; count = refl; taken = tt; is = is; few = omega arith }

-- all of them at the end
pub all_stated : (text left : List ℕ) (number : ℕ) (statements : List Statement) → left ≡ [] → StatedSoFar text left number statements
    → (statements ≡ statements_in (lines_of text)) × AreOfBlock (lines_of text)
all_stated text left number statements done so_far =
    let whole : lines_of text ≡ so_far.front = so_far.parts ∙ ap (λ (bytes : List ℕ). so_far.front ++ lines_of bytes) done ∙ append-nil so_far.front in
    (so_far.is ∙ ap statements_in (sym whole), subst AreOfBlock (sym whole) so_far.taken)

module _ (text left : List ℕ) (number : ℕ) (statements : List Statement) (so_far : StatedSoFar text left number statements) (line rest : List ℕ) (next : lines_of left ≡ line ∷ lines_of rest) where
  parts_next : lines_of text ≡ so_far.front ++ line ∷ lines_of rest
  parts_next = so_far.parts ∙ ap (λ (ls : List (List ℕ)). so_far.front ++ ls) next

  -- one more is a statement, or passed over
  pub stated_next : (more : List Statement) → length rest < length left → IsOfBlock (parsed line) → more ≡ statements ++ option_to_list (statement_in (parsed line)) → StatedSoFar text rest (number + 1) more
  stated_next more shorter taken is = record {
    front = so_far.front ++ line ∷ [];
    parts = parts_next ∙ sym (append_assoc so_far.front (line ∷ []) (lines_of rest));
    count = omega (arith, so_far.count, length-append so_far.front (line ∷ []));
    taken = AreOfBlock-push so_far.front line so_far.taken taken;
    is = is ∙ ap (λ (ss : List Statement). ss ++ option_to_list (statement_in (parsed line))) so_far.is ∙ sym (statements_in-push so_far.front line);
    few = omega (arith, so_far.few, shorter);
  }

  -- or it is the first that isn't
  pub stops_here : (why : OfficeError) → BlockLineStops why (number + 1) line → BlockTextStops why text
  stops_here error.Memory stops = tt
  stops_here why stops =
      record { front = so_far.front; line = line; behind = lines_of rest; parts = parts_next; holds = subst (λ (n : ℕ). BlockLineStops why (n + 1) line) so_far.count stops }
