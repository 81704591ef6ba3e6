-- The last positions of the tokens of an index in a stream, by their places.
use Rattle.std.proofs.Common.{◌≡◌, ℕ, zero, suc, ◌<◌, ◌≤◌, Bool, true, false, cond, max, List, [], ◌∷◌, ◌++◌, length, get_or, set, append_assoc, refl, sym, ap, ◌∙◌, arith}
use Rattle.std.specs.Prelude.{◌||◌, nat_lt, if◌then◌else◌}
use Rattle.std.specs.List.{list_any, position_or_len}
use Rattle.std.proofs.lemmas.Bool.Decides.{nat_tests}
use Rattle.std.proofs.lemmas.List.{length-append}
use Rattle.std.proofs.lemmas.List.Folds.{list_any-append}
use Rattle.indexmap.specs.IndexSet.{insert_key}
use Rattle.dependency_index.specs.declared.token.Token.{Token}
use Rattle.dependency_index.specs.Tokens.{is_same_token, has_token}
use Rattle.dependency_index.specs.SameTokens.{is_same_token-own, is_same_token-equal}
use Rattle.dependency_index.specs.Noting.{greatest_noted}
use Rattle.dependency_index.specs.Columns.{last_at, put_at, last_of, Notes}

nothing_behind : (ts : List Token) → ts ++ [] ≡ ts
nothing_behind [] = refl
nothing_behind (t ∷ ts) = ap (λ rest. t ∷ rest) (nothing_behind ts)

-- a zero at the end changes no position
pub last_at-padded : (place : ℕ) (ns : List ℕ) → last_at place (ns ++ 0 ∷ []) ≡ last_at place ns
last_at-padded zero [] = refl
last_at-padded (suc place) [] = refl
last_at-padded zero (n ∷ ns) = refl
last_at-padded (suc place) (n ∷ ns) = last_at-padded place ns

-- nor what a position behind it makes of the list
pub put_at-padded : (place position : ℕ) (ns : List ℕ) → length ns ≤ place → put_at place position (ns ++ 0 ∷ []) ≡ put_at place position ns
put_at-padded zero position [] short = refl
put_at-padded (suc place) position [] short = refl
put_at-padded zero position (n ∷ ns) short = absurd (omega (arith, short))
put_at-padded (suc place) position (n ∷ ns) short = ap (λ ms. n ∷ ms) (put_at-padded place position ns (omega (arith, short)))

-- within the list it is what stands there
pub last_at-within : (place : ℕ) (ns : List ℕ) (d : ℕ) → place < length ns → last_at place ns ≡ get_or ns place d
last_at-within place [] d within = absurd (omega (arith, within))
last_at-within zero (n ∷ ns) d within = refl
last_at-within (suc place) (n ∷ ns) d within = last_at-within place ns d (omega (arith, within))

-- and is replaced
pub put_at-within : (place position : ℕ) (ns : List ℕ) → place < length ns → put_at place position ns ≡ set ns place position
put_at-within place position [] within = absurd (omega (arith, within))
put_at-within zero position (n ∷ ns) within = refl
put_at-within (suc place) position (n ∷ ns) within = ap (λ ms. n ∷ ms) (put_at-within place position ns (omega (arith, within)))

-- the list reaches to the place at most, where it was shorter
pub length-put_at : (bound place position : ℕ) (ns : List ℕ) → place < bound → length ns ≤ bound → length (put_at place position ns) ≤ bound
length-put_at bound zero position [] less le = omega (arith, less)
length-put_at bound zero position (n ∷ ns) less le = le
length-put_at zero (suc place) position ns less le = absurd (omega (arith, less))
length-put_at (suc bound) (suc place) position [] less le = omega (arith, length-put_at bound place position [] (omega (arith, less)) (omega arith))
length-put_at (suc bound) (suc place) position (n ∷ ns) less le = omega (arith, length-put_at bound place position ns (omega (arith, less)) (omega (arith, le)))

-- nothing was noted where there are no positions
last_of-nil : (ts : List Token) (token : Token) → last_of ts [] token ≡ 0
last_of-nil [] token = refl
last_of-nil (t ∷ ts) token = refl

-- the place of a token that is the first one, and of one that isn't
place_here : (t k : Token) (ks : List Token) → is_same_token t k ≡ true → position_or_len (is_same_token t) (k ∷ ks) ≡ 0
place_here t k ks same = rw same refl

place_later : (t k : Token) (ks : List Token) → is_same_token t k ≡ false → position_or_len (is_same_token t) (k ∷ ks) ≡ suc (position_or_len (is_same_token t) ks)
place_later t k ks other = rw other (omega arith)

insert_here : (t k : Token) (ks : List Token) → is_same_token t k ≡ true → insert_key is_same_token (k ∷ ks) t ≡ k ∷ ks
insert_here t k ks same = rw same refl

insert_later : (t k : Token) (ks : List Token) → is_same_token t k ≡ false → insert_key is_same_token (k ∷ ks) t ≡ k ∷ insert_key is_same_token ks t
insert_later t k ks other = rw other (go (list_any (is_same_token t) ks))
  where
    go : (b : Bool) → (if b then (k ∷ ks) else (k ∷ ks) ++ t ∷ []) ≡ k ∷ (if b then ks else ks ++ t ∷ [])
    go true = refl
    go false = refl

-- the position at a token's place is its last one
pub last_of-place : (t : Token) (ts : List Token) (ns : List ℕ) → length ns ≤ length ts → last_at (position_or_len (is_same_token t) ts) ns ≡ last_of ts ns t
last_of-place t [] [] within = refl
last_of-place t [] (n ∷ ns) within = absurd (omega (arith, within))
last_of-place t (k ∷ ks) [] within = refl
last_of-place t (k ∷ ks) (n ∷ ns) within = go (is_same_token t k) refl (last_of-place t ks ns (omega (arith, within)))
  where
    go : (b : Bool) → is_same_token t k ≡ b → last_at (position_or_len (is_same_token t) ks) ns ≡ last_of ks ns t → last_at (position_or_len (is_same_token t) (k ∷ ks)) (n ∷ ns) ≡ cond b n (last_of ks ns t)
    go true same later = rw (place_here t k ks same) refl
    go false other later = rw (place_later t k ks other) later

-- a token isn't two others that differ
apart : (token t k : Token) → is_same_token t k ≡ false → (n m : ℕ) (rest : ℕ) → cond (is_same_token token k) n (cond (is_same_token token t) m rest) ≡ cond (is_same_token token t) m (cond (is_same_token token k) n rest)
apart token t k other n m rest = go (is_same_token token k) refl (is_same_token token t) refl
  where
    go : (here : Bool) → is_same_token token k ≡ here → (there : Bool) → is_same_token token t ≡ there → cond here n (cond there m rest) ≡ cond there m (cond here n rest)
    go true here true there =
        let same : t ≡ k = sym (is_same_token-equal token t there) ∙ is_same_token-equal token k here in
        let yes : is_same_token t k ≡ true = rw same (is_same_token-own k) in
        absurd (cc (yes, other))
    go true here false there = refl
    go false here true there = refl
    go false here false there = refl

-- a position that is put at a token's place is its last one, and each other token keeps its own
pub last_of-put : (t token : Token) (position : ℕ) (ts : List Token) (ns : List ℕ)
    → last_of (insert_key is_same_token ts t) (put_at (position_or_len (is_same_token t) ts) position ns) token ≡ cond (is_same_token token t) position (last_of ts ns token)
last_of-put t token position [] [] = refl
last_of-put t token position [] (n ∷ ns) = refl
last_of-put t token position (k ∷ ks) ns = go (is_same_token t k) refl (last_of-put t token position ks)
  where
    Later : Type 0
    Later = (ns : List ℕ) → last_of (insert_key is_same_token ks t) (put_at (position_or_len (is_same_token t) ks) position ns) token ≡ cond (is_same_token token t) position (last_of ks ns token)

    twice : (here : Bool) (n rest : ℕ) → cond here position rest ≡ cond here position (cond here n rest)
    twice true n rest = refl
    twice false n rest = refl

    here : (ns : List ℕ) → last_of (k ∷ ks) (put_at 0 position ns) token ≡ cond (is_same_token token k) position (last_of (k ∷ ks) ns token)
    here [] = rw (last_of-nil ks token) refl
    here (n ∷ ns) = twice (is_same_token token k) n (last_of ks ns token)

    there : is_same_token t k ≡ false → Later → (ns : List ℕ)
        → last_of (k ∷ insert_key is_same_token ks t) (put_at (suc (position_or_len (is_same_token t) ks)) position ns) token ≡ cond (is_same_token token t) position (last_of (k ∷ ks) ns token)
    there other later [] = ap (λ n. cond (is_same_token token k) 0 n) (later []) ∙ rw (last_of-nil ks token) (apart token t k other 0 position 0 ∙ zeros (is_same_token token t) (is_same_token token k))
      where
        zeros : (a b : Bool) → cond a position (cond b 0 0) ≡ cond a position 0
        zeros true b = refl
        zeros false true = refl
        zeros false false = refl
    there other later (n ∷ ns) = ap (λ m. cond (is_same_token token k) n m) (later ns) ∙ apart token t k other n position (last_of ks ns token)

    go : (b : Bool) → is_same_token t k ≡ b → Later
        → last_of (insert_key is_same_token (k ∷ ks) t) (put_at (position_or_len (is_same_token t) (k ∷ ks)) position ns) token ≡ cond (is_same_token token t) position (last_of (k ∷ ks) ns token)
    go true same later = let is : t ≡ k = is_same_token-equal t k same in rw (insert_here t k ks same, place_here t k ks same) (here ns ∙ ap (λ x. cond (is_same_token token x) position (last_of (k ∷ ks) ns token)) (sym is))
    go false other later = rw (insert_later t k ks other, place_later t k ks other) (there other later ns)

-- a token that is inserted is the only new one, if it is
pub record IsInserted (t : Token) (ts later : List Token) : Type 0 where
  pub more : List Token
  pub grown : later ≡ ts ++ more
  pub few : length more ≤ 1
  pub within : position_or_len (is_same_token t) ts < length later

inserted : (t : Token) (ts : List Token) → IsInserted t ts (insert_key is_same_token ts t)
inserted t [] = record { more = t ∷ []; grown = refl; few = omega arith; within = omega arith }
inserted t (k ∷ ks) = go (is_same_token t k) refl (inserted t ks)
  where
    go : (b : Bool) → is_same_token t k ≡ b → IsInserted t ks (insert_key is_same_token ks t) → IsInserted t (k ∷ ks) (insert_key is_same_token (k ∷ ks) t)
    go true same later = rw (insert_here t k ks same) (record { more = []; grown = ap (λ rest. k ∷ rest) (sym (nothing_behind ks)); few = omega arith; within = rw (place_here t k ks same) (omega arith) })
    go false other later = rw (insert_later t k ks other)
        (record { more = later.more; grown = ap (λ rest. k ∷ rest) later.grown; few = later.few; within = rw (place_later t k ks other) (omega (arith, later.within)) })

-- a token that is noted
pub Notes-one : (t : Token) (position : ℕ) (ts : List Token) (ns : List ℕ) → length ns ≤ length ts
    → Notes (t ∷ []) position ts (insert_key is_same_token ts t) ns (put_at (position_or_len (is_same_token t) ts) position ns)
Notes-one t position ts ns within =
    let is = inserted t ts in
    let longer : length ts ≤ length (insert_key is_same_token ts t) = rw is.grown (omega (arith, length-append ts is.more)) in
    record {
      noted = λ token. last_of-put t token position ts ns ∙ or_nothing (is_same_token token t) (last_of ts ns token);
      more = is.more;
      grown = is.grown;
      few = is.few;
      within = length-put_at (length (insert_key is_same_token ts t)) (position_or_len (is_same_token t) ts) position ns is.within (omega (arith, within, longer));
    }
  where
    or_nothing : (b : Bool) (n : ℕ) → cond b position n ≡ cond (b || false) position n
    or_nothing true n = refl
    or_nothing false n = refl

-- where no token is noted
pub Notes-none : (position : ℕ) (ts : List Token) (ns : List ℕ) → length ns ≤ length ts → Notes [] position ts ts ns ns
Notes-none position ts ns within = record { noted = λ token. refl; more = []; grown = sym (nothing_behind ts); few = omega arith; within = within }

-- tokens are noted one after another
pub Notes-then : (list others : List Token) (position : ℕ) (ts us vs : List Token) (ns ms ls : List ℕ) → Notes list position ts us ns ms → Notes others position us vs ms ls → Notes (list ++ others) position ts vs ns ls
Notes-then list others position ts us vs ns ms ls first next = record {
  noted = λ token. next.noted token ∙ ap (λ n. cond (has_token others token) position n) (first.noted token)
      ∙ rw (list_any-append (is_same_token token) list others) (either (has_token list token) (has_token others token) (last_of ts ns token));
  more = first.more ++ next.more;
  grown = next.grown ∙ ap (λ rest. rest ++ next.more) first.grown ∙ append_assoc ts first.more next.more;
  few = omega (arith, first.few, next.few, length-append first.more next.more, length-append list others);
  within = next.within;
}
  where
    either : (a b : Bool) (n : ℕ) → cond b position (cond a position n) ≡ cond (a || b) position n
    either true true n = refl
    either true false n = refl
    either false true n = refl
    either false false n = refl

-- the greatest of one more
greatest_noted-push : (list : List Token) (x : Token) (last : Token → ℕ) → greatest_noted (list ++ x ∷ []) last ≡ max (greatest_noted list last) (last x)
greatest_noted-push [] x last = omega arith
greatest_noted-push (t ∷ ts) x last = let rest = greatest_noted-push ts x last in omega (arith, rest)

-- a token that is among them has no greater one
greatest_noted-has : (list : List Token) (x : Token) (last : Token → ℕ) → has_token list x ≡ true → last x ≤ greatest_noted list last
greatest_noted-has [] x last has = absurd (cc has)
greatest_noted-has (t ∷ ts) x last has = go (is_same_token x t) refl has (greatest_noted-has ts x last)
  where
    go : (b : Bool) → is_same_token x t ≡ b → (b || has_token ts x) ≡ true → (has_token ts x ≡ true → last x ≤ greatest_noted ts last) → last x ≤ max (last t) (greatest_noted ts last)
    go true same has later = let is : last x ≡ last t = ap last (is_same_token-equal x t same) in omega (arith, is)
    go false other has later = let rest = later has in omega (arith, rest)

-- a token that was noted already isn't counted, and needn't be
pub greatest-next : (list : List Token) (x : Token) (last : Token → ℕ) (greatest position : ℕ) → last x < position → greatest ≡ greatest_noted list last
    → (let before = cond (has_token list x) position (last x) in cond (nat_lt before position) (max greatest before) greatest) ≡ greatest_noted (list ++ x ∷ []) last
greatest-next list x last greatest position below is = go (has_token list x) refl ∙ sym (greatest_noted-push list x last)
  where
    less : nat_lt (last x) position ≡ true
    less = grind (arith, nat_tests)

    not_less : nat_lt position position ≡ false
    not_less = grind (arith, nat_tests)

    go : (b : Bool) → has_token list x ≡ b → cond (nat_lt (cond b position (last x)) position) (max greatest (cond b position (last x))) greatest ≡ max (greatest_noted list last) (last x)
    go true has = let within = greatest_noted-has list x last has in rw not_less (omega (arith, is, within))
    go false has = rw (less, is) refl
