-- The tokens that are found are those of the line, and there are no others.
use Rattle.std.proofs.Common.{◌≡◌, ◌≢◌, ℕ, zero, suc, ◌-◌, ◌<◌, ◌≤◌, Bool, true, false, cond, eqb, List, [], ◌∷◌, ◌++◌, length, take, drop, Option, Some, None, refl, sym, ◌∙◌, subst, arith, length-take-le, take-append-drop, length-append}
use Rattle.std.proofs.lemmas.Bool.Decides.{nat_tests}
use Rattle.std.specs.Option.{is_some}
use Rattle.std.proofs.Math.Seq.{take-append_seam, drop-append_seam}
use Rattle.script_lex.specs.declared.token.Symbol.{Symbol}
use Rattle.script_lex.specs.declared.token.Symbol.TheVariants as symbol
use Rattle.script_lex.specs.declared.token.Token.{Token}
use Rattle.script_lex.specs.Forms.{symbol_bytes, symbol_of, has_form, longest}
use Rattle.script_lex.specs.Tokens.{token_of, with_front, tokens_from, IsFirst, IsTokens, nothing, space, first}
use Rattle.script_lex.proofs.Longest.{longest_up_to_is, longest_up_to_form, longest_up_to_ends, longest_up_to-le}
use Rattle.script_lex.proofs.Steps.{after_token, some_taken}

-- What is found is there.

with_front_parts : (t : Option Token) (us : Option (List Token)) (ts : List Token) → with_front t us ≡ Some ts
    → (x : Token) × (xs : List Token) × (t ≡ Some x) × (us ≡ Some xs) × (x ∷ xs ≡ ts)
with_front_parts None us ts is = cc
with_front_parts (Some x) None ts is = cc
with_front_parts (Some x) (Some xs) ts is = (x, xs, refl, refl, cc)

-- the front that was taken is the first token
taken_first : (bytes : List ℕ) (t : Token) → token_of (take (longest bytes) bytes) ≡ Some t → IsFirst bytes (take (longest bytes) bytes) t
taken_first bytes t is =
    let long : length (take (longest bytes) bytes) ≡ longest bytes = length-take-le (longest bytes) bytes (longest_up_to-le (length bytes) bytes) in
    record {
      form = longest_up_to_form (length bytes) bytes (some_taken bytes t is);
      longest = λ k past within. longest_up_to_ends (length bytes) bytes k (omega arith) within;
      token = is;
    }

drop_behind : (n : ℕ) (b : ℕ) (bs : List ℕ) → 0 < n → drop (n - 1) bs ≡ drop n (b ∷ bs)
drop_behind zero b bs some = absurd (omega arith)
drop_behind (suc n) b bs some =
    let one : suc n - 1 ≡ n = omega arith in
    rw one refl

-- what was found behind the first k bytes is there
found_from : (bytes : List ℕ) (k : ℕ) (ts : List Token) → tokens_from k bytes ≡ Some ts → IsTokens (drop k bytes) ts
unfolding tokens_from
found_from [] zero ts is = let e : [] ≡ ts = cc in subst (λ us. IsTokens [] us) e nothing
found_from [] (suc k) ts is = let e : [] ≡ ts = cc in subst (λ us. IsTokens [] us) e nothing
found_from (b ∷ bs) (suc k) ts is = found_from bs k ts is
found_from (b ∷ bs) zero ts is = go (eqb b 32) refl is (found_from bs)
  where
    go : (v : Bool) → eqb b 32 ≡ v
        → cond v (tokens_from zero bs) (with_front (token_of (take (longest (b ∷ bs)) (b ∷ bs))) (tokens_from (longest (b ∷ bs) - 1) bs)) ≡ Some ts
        → ((k : ℕ) (us : List Token) → tokens_from k bs ≡ Some us → IsTokens (drop k bs) us)
        → IsTokens (b ∷ bs) ts
    go true blank found more =
        let e : 32 ≡ b = grind (arith, nat_tests) in
        subst (λ x. IsTokens (x ∷ bs) ts) e (space (more 0 ts found))
    go false other found more =
        let n : ℕ = longest (b ∷ bs) in
        let p = with_front_parts (token_of (take n (b ∷ bs))) (tokens_from (n - 1) bs) ts found in
        let here = taken_first (b ∷ bs) p.0 p.2 in
        let some : 0 < n = some_taken (b ∷ bs) p.0 p.2 in
        let parts : b ∷ bs ≡ take n (b ∷ bs) ++ drop (n - 1) bs = rw (drop_behind n b bs some) (sym (take-append-drop n (b ∷ bs))) in
        subst (λ us. IsTokens (b ∷ bs) us) p.4 (first (take n (b ∷ bs)) (drop (n - 1) bs) p.0 parts here (more (n - 1) p.1 p.3))

pub tokens_found : (bytes : List ℕ) (ts : List Token) → tokens_from 0 bytes ≡ Some ts → IsTokens bytes ts
tokens_found bytes ts is = found_from bytes 0 ts is

-- What is there is found.

-- no token begins with a space
blank_has_none : (bs : List ℕ) → has_form (32 ∷ bs) ≡ true → ⊥
unfolding has_form
blank_has_none [] is = cc
blank_has_none (c ∷ []) is = go (eqb c 61) None refl is
  where
    go : (v : Bool) (o : Option Symbol) → is_some o ≡ false → is_some (cond v o o) ≡ true → ⊥
    go true o none some = cc
    go false o none some = cc
blank_has_none (c ∷ d ∷ ds) is = cc

first_found : (front rest : List ℕ) (t : Token) (ts : List Token) → IsFirst (front ++ rest) front t → tokens_from 0 rest ≡ Some ts
    → tokens_from 0 (front ++ rest) ≡ Some (t ∷ ts)
unfolding has_form
first_found [] rest t ts here found = let none = here.form in cc
first_found (f ∷ fs) rest t ts here found =
    let all : List ℕ = f ∷ (fs ++ rest) in
    let within : length (f ∷ fs) ≤ length all = omega (arith, length-append fs rest) in
    let taken : take (length fs) (fs ++ rest) ≡ fs = take-append_seam fs rest in
    let left : drop (length fs) (fs ++ rest) ≡ rest = drop-append_seam fs rest in
    let long : longest all ≡ length (f ∷ fs) = longest_up_to_is (length all) (length (f ∷ fs)) all within (λ _. rw taken here.form) here.longest in
    let other : f ≢ 32 = λ e. blank_has_none fs (subst (λ x. has_form (x ∷ fs) ≡ true) e here.form) in
    after_token f (fs ++ rest) other ∙ rw (long, taken, left, here.token, found) refl

-- what is there is found
pub tokens_all : {bytes : List ℕ} {ts : List Token} → IsTokens bytes ts → tokens_from 0 bytes ≡ Some ts
unfolding tokens_from
tokens_all nothing = refl
tokens_all (space is) = tokens_all is
tokens_all (first {bytes} {ts} front rest t parts here is) =
    subst (λ all. IsFirst all front t → tokens_from 0 all ≡ Some (t ∷ ts)) (sym parts) (λ begins. first_found front rest t ts begins (tokens_all is)) here

-- Two readings are one.
pub one_reading : (bytes : List ℕ) (ts us : List Token) → IsTokens bytes ts → IsTokens bytes us → ts ≡ us
one_reading bytes ts us one other =
    let e : tokens_from 0 bytes ≡ Some ts = tokens_all one in
    let f : tokens_from 0 bytes ≡ Some us = tokens_all other in
    cc

pub symbol_read_again : (s : Symbol) → symbol_of (symbol_bytes s) ≡ Some s
symbol_read_again symbol.Colon = refl
symbol_read_again symbol.Comma = refl
symbol_read_again symbol.Eq = refl
symbol_read_again symbol.Ne = refl
symbol_read_again symbol.Lt = refl
symbol_read_again symbol.Le = refl
symbol_read_again symbol.Gt = refl
symbol_read_again symbol.Ge = refl
symbol_read_again symbol.Plus = refl
