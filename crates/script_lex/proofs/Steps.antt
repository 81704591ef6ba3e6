-- What each step of reading a line finds, and what it leaves.
use Rattle.std.proofs.Common.{◌≡◌, ◌≢◌, ℕ, zero, suc, ◌-◌, ◌<◌, ◌≤◌, Bool, true, false, cond, eqb, ◌||◌, List, [], ◌∷◌, ◌++◌, length, take, drop, map, Option, Some, None, refl, sym, ◌∙◌, ap, arith, append_assoc, append-nil, length-take-le, length-drop, Ok, Err, Result, IsOk, is_ok, is_err, if◌then◌else◌, nat_le}
use Rattle.std.specs.List.{list_all}
use Rattle.std.specs.Option.{option_map}
use Rattle.std.proofs.lemmas.Bool.Decides.{nat_tests}
use Rattle.std.proofs.lemmas.List.{map-append}
use Rattle.std.proofs.lemmas.List.Folds.{list_all-append}
use Rattle.rep_values.specs.Bytes.{is_printable}
use Rattle.script_lex.specs.declared.token.Token.{Token}
use Rattle.script_lex.specs.declared.stop.LineStop.{LineStop}
use Rattle.script_lex.specs.declared.stop.LineStop.TheVariants as stop
use Rattle.script_lex.specs.Forms.{longest}
use Rattle.script_lex.specs.Tokens.{token_of, with_front, tokens_from}
use Rattle.script_lex.specs.Lines.{or_rule, lexed, is_passed_over, HasTokens}
use Rattle.script_lex.specs.Stop.{Gives}
use Rattle.script_lex.proofs.Longest.{longest_up_to-le}

-- The tokens at a place.

-- bytes that are left out are passed over
pub tokens_from-drop : (k : ℕ) (bytes : List ℕ) → tokens_from k bytes ≡ tokens_from 0 (drop k bytes)
unfolding tokens_from
tokens_from-drop zero [] = refl
tokens_from-drop (suc k) [] = refl
tokens_from-drop zero (b ∷ bs) = refl
tokens_from-drop (suc k) (b ∷ bs) = tokens_from-drop k bs

pub after_space : (rest : List ℕ) (b : ℕ) (bs : List ℕ) → rest ≡ b ∷ bs → b ≡ 32 → tokens_from 0 rest ≡ tokens_from 0 bs
unfolding tokens_from
after_space rest b bs parts space = rw (parts, space) refl

after_front : (b : ℕ) (bs : List ℕ) (n : ℕ) → with_front (token_of (take n (b ∷ bs))) (tokens_from (n - 1) bs)
    ≡ with_front (token_of (take n (b ∷ bs))) (tokens_from 0 (drop n (b ∷ bs)))
unfolding token_of
after_front b bs zero = refl
after_front b bs (suc n) =
    let one : suc n - 1 ≡ n = omega arith in
    rw one (ap (with_front (token_of (take (suc n) (b ∷ bs)))) (tokens_from-drop n bs))

-- at a byte that is no space stands the longest token, and those of the rest
pub after_token : (b : ℕ) (bs : List ℕ) → b ≢ 32
    → tokens_from 0 (b ∷ bs) ≡ with_front (token_of (take (longest (b ∷ bs)) (b ∷ bs))) (tokens_from 0 (drop (longest (b ∷ bs)) (b ∷ bs)))
unfolding tokens_from
after_token b bs other =
    let off : eqb b 32 ≡ false = grind (arith, nat_tests) in
    rw off (after_front b bs (longest (b ∷ bs)))

pub after_cut : (rest behind : List ℕ) (b : ℕ) (bs : List ℕ) (t : Option Token) → rest ≡ b ∷ bs → b ≢ 32 → token_of (take (longest rest) rest) ≡ t
    → behind ≡ drop (longest rest) rest → tokens_from 0 rest ≡ with_front t (tokens_from 0 behind)
after_cut rest behind b bs t parts other is left =
    rw (left, ← is, parts) (after_token b bs other)

-- where no token stands, there are none
pub after_none : (rest : List ℕ) (b : ℕ) (bs : List ℕ) → rest ≡ b ∷ bs → b ≢ 32 → token_of (take (longest rest) rest) ≡ None → tokens_from 0 rest ≡ None
after_none rest b bs parts other is = after_cut rest (drop (longest rest) rest) b bs None parts other is refl

-- The loop over a line, with what it found so far.

pub front_some : (front : List ℕ) (t : Token) → Some t ≡ token_of front → 0 < length front
unfolding token_of
front_some [] t is = cc
front_some (b ∷ bs) t is = omega arith

pub some_taken : (bytes : List ℕ) (t : Token) → token_of (take (longest bytes) bytes) ≡ Some t → 0 < longest bytes
some_taken bytes t is =
    omega (arith, front_some (take (longest bytes) bytes) t (sym is), length-take-le (longest bytes) bytes (longest_up_to-le (length bytes) bytes))

pub cut_shorter : (rest behind : List ℕ) (t : Token) → token_of (take (longest rest) rest) ≡ Some t → behind ≡ drop (longest rest) rest → length behind < length rest
cut_shorter rest behind t is left =
    omega (arith, ap length left, length-drop (longest rest) rest, some_taken rest t is, longest_up_to-le (length rest) rest)

more_tokens : (found : List Token) (t : Token) (left : Option (List Token)) → option_map (λ ts. (found ++ t ∷ []) ++ ts) left ≡ option_map (λ ts. found ++ ts) (with_front (Some t) left)
more_tokens found t None = refl
more_tokens found t (Some ts) = ap Some (append_assoc found (t ∷ []) ts)

-- a token goes behind those that were found
pub kept_more : (found more : List Token) (t : Token) (left left' whole : Option (List Token)) → option_map (λ ts. found ++ ts) left ≡ whole
    → left ≡ with_front (Some t) left' → more ≡ found ++ t ∷ [] → option_map (λ ts. more ++ ts) left' ≡ whole
kept_more found more t left left' whole kept step pushed =
    rw pushed (more_tokens found t left' ∙ ap (option_map (λ ts. found ++ ts)) (sym step) ∙ kept)

module _ {X : Type 0} (view : X → Token) where
  -- the same, where it may find no memory and isn't kept
  pub found_more : {E : Type 0} (kept more : List X) (found : List Token) (x : X) (lacks failed : Bool) (pushed : Result Unit E) (left left' whole : Option (List Token))
      → option_map (λ ts. found ++ ts) left ≡ whole → (lacks ≡ false → map view kept ≡ found) → left ≡ with_front (Some (view x)) left'
      → failed ≡ is_err pushed → more ≡ (if is_ok pushed then kept ++ x ∷ [] else kept)
      → (new : List Token) × (option_map (λ ts. new ++ ts) left' ≡ whole) × ((lacks || failed) ≡ false → map view more ≡ new)
  found_more kept more found x lacks failed pushed left left' whole found_so kept_so step fails more_so =
      (found ++ view x ∷ [], kept_more found (found ++ view x ∷ []) (view x) left left' whole found_so step refl, go lacks failed pushed kept_so fails more_so)
    where
      go : {E : Type 0} (lacks failed : Bool) (pushed : Result Unit E) → (lacks ≡ false → map view kept ≡ found) → failed ≡ is_err pushed
          → more ≡ (if is_ok pushed then kept ++ x ∷ [] else kept) → (lacks || failed) ≡ false → map view more ≡ found ++ view x ∷ []
      go false failed (Ok u) kept_so fails more_so none = rw more_so (map-append view kept (x ∷ []) ∙ ap (λ ts. ts ++ view x ∷ []) (kept_so refl))
      go false failed (Err e) kept_so fails more_so none = cc
      go true failed pushed kept_so fails more_so none = cc

-- all that is kept passes
pub all_more : {X E : Type 0} (p : X → Bool) (kept more : List X) (x : X) (pushed : Result Unit E) → list_all p kept ≡ true → p x ≡ true
    → more ≡ (if is_ok pushed then kept ++ x ∷ [] else kept) → list_all p more ≡ true
all_more p kept more x (Ok u) formed one more_so = rw (more_so, list_all-append, formed, one) refl
all_more p kept more x (Err e) formed one more_so = rw more_so formed

-- at the beginning nothing is found
pub none_found : (left : Option (List Token)) → option_map (λ ts. [] ++ ts) left ≡ left
none_found None = refl
none_found (Some ts) = refl

pub broken : (found : List Token) (left whole : Option (List Token)) → option_map (λ ts. found ++ ts) left ≡ whole → left ≡ None → or_rule 4 whole ≡ Err 4
broken found left whole kept none = rw (← kept, none) refl

pub finished : (found : List Token) (rest : List ℕ) (whole : Option (List Token)) → option_map (λ ts. found ++ ts) (tokens_from 0 rest) ≡ whole → rest ≡ [] → or_rule 4 whole ≡ Ok found
unfolding tokens_from
finished found rest whole kept none = rw (← kept, none, append-nil) refl

pub all_found : (found : List Token) (rest : List ℕ) (whole : Option (List Token)) → option_map (λ ts. found ++ ts) (tokens_from 0 rest) ≡ whole → rest ≡ [] → IsOk (or_rule 4 whole)
all_found found rest whole kept none = ap is_ok (finished found rest whole kept none)

-- want of memory may come where more holds
pub gives_where : {X Y : Type 0} (Wants Wants' : Type 0) (view : X → Y) (r : Result X LineStop) (read : Result Y ℕ) → (Wants → Wants')
    → Gives Wants view r read → Gives Wants' view r read
gives_where Wants Wants' view (Ok x) read more gives = gives
gives_where Wants Wants' view (Err stop.Memory) read more gives = more gives
gives_where Wants Wants' view (Err (stop.Rule rule)) read more gives = gives

-- The rules in their order.

pub line_long : (line : List ℕ) → 1024 < length line → lexed line ≡ Err 1
unfolding lexed
line_long line long =
    let over : nat_le (length line) 1024 ≡ false = grind (arith, nat_tests) in
    rw over refl

pub line_short : (line : List ℕ) (v w : Bool) → length line ≤ 1024 → v ≡ list_all is_printable line → w ≡ is_passed_over line
    → cond v (cond w (Ok []) (or_rule 4 (tokens_from 0 line))) (Err 3) ≡ lexed line
unfolding lexed
line_short line v w short prints passed =
    let under : nat_le (length line) 1024 ≡ true = grind (arith, nat_tests) in
    rw (under, prints, passed) refl

-- a line that has tokens isn't passed over
pub has_tokens : (line : List ℕ) (t : Token) (ts : List Token) → lexed line ≡ Ok (t ∷ ts) → HasTokens line
unfolding lexed
has_tokens line t ts read = (go (is_passed_over line) refl, ap is_ok read)
  where
    nothing : (short prints : Bool) → cond {A = Result (List Token) ℕ} short (cond prints (Ok []) (Err 3)) (Err 1) ≡ Ok (t ∷ ts) → ⊥
    nothing true true is = cc
    nothing true false is = cc
    nothing false prints is = cc

    go : (v : Bool) → is_passed_over line ≡ v → v ≡ false
    go false passed = refl
    go true passed = absurd (nothing (nat_le (length line) 1024) (list_all is_printable line) (rw passed at read))

pub ruleset line_facts = (line_long, line_short)

-- tokens that are copied are those of the line, and want of memory comes only where there are some
pub line_tokens : {X Y : Type 0} (view : Y → List Token) (token : X → Token) (line : List ℕ) (found : List X) (r : Result Y LineStop) → lexed line ≡ Ok (map token found)
    → Gives (found ≢ []) view r (Ok (map token found)) → Gives (HasTokens line) view r (lexed line)
line_tokens view token line found (Ok tokens) read gives = read ∙ gives
line_tokens view token line [] (Err stop.Memory) read gives = absurd (gives refl)
line_tokens view token line (x ∷ xs) (Err stop.Memory) read gives = has_tokens line (token x) (map token xs) read
line_tokens view token line found (Err (stop.Rule rule)) read gives = cc
