-- Lines that are taken, one after the other.
use Rattle.std.proofs.Common.{◌≡◌, ℕ, ◌+◌, ◌<◌, ◌≤◌, List, [], ◌∷◌, ◌++◌, length, refl, sym, ap, ◌∙◌, subst, arith, append_assoc, append-nil, length-append}
use Rattle.script_parse.specs.Parsed.{parsed}
use Rattle.office.specs.declared.error.OfficeError.{OfficeError}
use Rattle.office.specs.declared.error.OfficeError.TheVariants as error
use Rattle.office.specs.Lines.{lines_of}
use Rattle.office.specs.Founding.{Founded, nothing_founded, founded_by, IsTaken, founded, AreTaken, text_founded}
use Rattle.office.specs.Stops.{LineStops, TextStops}

-- the lines in front of what is left of a text are taken, so many, and declare this
pub record TakenSoFar (text left : List ℕ) (number : ℕ) (f : Founded) : Type 0 where
  pub front : List (List ℕ)
  pub parts : lines_of text ≡ front ++ lines_of left
  pub count : number ≡ length front
  pub taken : AreTaken front nothing_founded
  pub is : f ≡ founded front nothing_founded
  pub few : number + length left ≤ length text

founded-push : (front : List (List ℕ)) (line : List ℕ) (f : Founded) → founded (front ++ line ∷ []) f ≡ founded_by (parsed line) (founded front f)
founded-push [] line f = refl
founded-push (l ∷ front) line f = founded-push front line (founded_by (parsed l) f)

AreTaken-push : (front : List (List ℕ)) (line : List ℕ) (f : Founded) → AreTaken front f → IsTaken (parsed line) (founded front f) → AreTaken (front ++ line ∷ []) f
AreTaken-push [] line f taken last = (last, tt)
AreTaken-push (l ∷ front) line f taken last = (taken.0, AreTaken-push front line (founded_by (parsed l) f) taken.1 last)

-- none of them at first
pub none_taken : (text : List ℕ) (f : Founded) → f ≡ nothing_founded → TakenSoFar text text 0 f
none_taken text f is = record { front = []; parts = refl; count = refl; taken = tt; is = is; few = omega arith }

-- all of them at the end
pub all_taken : (text left : List ℕ) (number : ℕ) (f : Founded) → left ≡ [] → TakenSoFar text left number f → (f ≡ text_founded text) × AreTaken (lines_of text) nothing_founded
all_taken text left number f done so_far =
    let whole : lines_of text ≡ so_far.front = so_far.parts ∙ ap (λ (bytes : List ℕ). so_far.front ++ lines_of bytes) done ∙ append-nil so_far.front in
    (so_far.is ∙ ap (λ (ls : List (List ℕ)). founded ls nothing_founded) (sym whole), subst (λ (ls : List (List ℕ)). AreTaken ls nothing_founded) (sym whole) so_far.taken)

module _ (text left : List ℕ) (number : ℕ) (f : Founded) (so_far : TakenSoFar text left number f) (line rest : List ℕ) (next : lines_of left ≡ line ∷ lines_of rest) where
  parts_next : lines_of text ≡ so_far.front ++ line ∷ lines_of rest
  parts_next = so_far.parts ∙ ap (λ (ls : List (List ℕ)). so_far.front ++ ls) next

  -- one more is taken
  pub taken_next : (g : Founded) → length rest < length left → IsTaken (parsed line) f → g ≡ founded_by (parsed line) f → TakenSoFar text rest (number + 1) g
  taken_next g shorter taken is = record {
    front = so_far.front ++ line ∷ [];
    parts = parts_next ∙ sym (append_assoc so_far.front (line ∷ []) (lines_of rest));
    count = omega (arith, so_far.count, length-append so_far.front (line ∷ []));
    taken = AreTaken-push so_far.front line nothing_founded so_far.taken (subst (λ (h : Founded). IsTaken (parsed line) h) so_far.is taken);
    is = is ∙ ap (founded_by (parsed line)) so_far.is ∙ sym (founded-push so_far.front line nothing_founded);
    few = omega (arith, so_far.few, shorter);
  }

  stops_so : (why : OfficeError) → LineStops why (number + 1) line f → LineStops why (length so_far.front + 1) line (founded so_far.front nothing_founded)
  stops_so why stops = subst (λ (h : Founded). LineStops why (length so_far.front + 1) line h) so_far.is (subst (λ (n : ℕ). LineStops why (n + 1) line f) so_far.count stops)

  -- or it is the first that isn't
  pub stops_here : (why : OfficeError) → LineStops why (number + 1) line f → TextStops why text
  stops_here error.Memory stops = tt
  stops_here why stops = record { front = so_far.front; line = line; behind = lines_of rest; parts = parts_next; holds = stops_so why stops }
