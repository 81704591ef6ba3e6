-- Which front of some bytes is the longest that has a token's form.
use Rattle.std.proofs.Common.{◌≡◌, ◌≢◌, ℕ, zero, suc, ◌+◌, ◌<◌, ◌≤◌, inl, inr, Bool, true, false, cond, List, [], ◌∷◌, length, take, refl, sym, ◌∙◌, subst, arith}
use Rattle.std.proofs.Math.Nat.{eq-or-lt_of_le}
use Rattle.std.proofs.lemmas.List.Sums.{prefix_len-le-length}
use Rattle.std.specs.List.{list_all, prefix_len}
use Rattle.std.specs.Option.{is_some}
use Rattle.rep_values.specs.Bytes.{is_digit}
use Rattle.script_lex.specs.declared.bytes.Start.{Start}
use Rattle.script_lex.specs.declared.bytes.Start.TheVariants as start
use Rattle.script_lex.specs.Bytes.{is_word_byte, is_plain, start_of}
use Rattle.script_lex.specs.Forms.{is_digits, is_closed, symbol_of, form_by, has_form, longest_up_to, longest}
use Rattle.script_lex.specs.Lexemes.{symbol_len}
use Rattle.script_lex.proofs.Runs.{run_passes, run_ends, digits_pass, digits_end, closed_at, closed_only}

-- The greatest length of a front that has the form.

-- a length is the greatest where its front has the form and no longer one has
pub longest_up_to_is : (n m : ℕ) (bytes : List ℕ) → m ≤ n → (m ≢ 0 → has_form (take m bytes) ≡ true)
    → ((k : ℕ) → m < k → k ≤ n → has_form (take k bytes) ≡ false) → longest_up_to n bytes ≡ m
unfolding longest_up_to
longest_up_to_is zero m bytes within has none = omega arith
longest_up_to_is (suc n) m bytes within has none =
    go (has_form (take (suc n) bytes)) refl (λ under. longest_up_to_is n m bytes under has (λ k past le. none k past (omega arith)))
  where
    go : (v : Bool) → has_form (take (suc n) bytes) ≡ v → (m ≤ n → longest_up_to n bytes ≡ m) → cond v (suc n) (longest_up_to n bytes) ≡ m
    go true is more =
        elim (eq-or-lt_of_le within) [ inr less ↦ (let off = none (suc n) less (omega arith) in cc) | inl same ↦ sym same ]
    go false is more =
        elim (eq-or-lt_of_le within) [
          | inr less ↦ more (omega arith)
          | inl same ↦ (let yes : has_form (take (suc n) bytes) ≡ true = subst (λ x. has_form (take x bytes) ≡ true) same (has (omega arith)) in cc)
        ]

-- the longest front has the form, unless it is empty
pub longest_up_to_form : (n : ℕ) (bytes : List ℕ) → 0 < longest_up_to n bytes → has_form (take (longest_up_to n bytes) bytes) ≡ true
unfolding longest_up_to
longest_up_to_form zero bytes some = absurd (omega arith)
longest_up_to_form (suc n) bytes some = go (has_form (take (suc n) bytes)) refl some (longest_up_to_form n bytes)
  where
    go : (v : Bool) → has_form (take (suc n) bytes) ≡ v → 0 < cond v (suc n) (longest_up_to n bytes)
        → (0 < longest_up_to n bytes → has_form (take (longest_up_to n bytes) bytes) ≡ true)
        → has_form (take (cond v (suc n) (longest_up_to n bytes)) bytes) ≡ true
    go true is any more = is
    go false is any more = more any

-- no longer front has it
pub longest_up_to_ends : (n : ℕ) (bytes : List ℕ) (k : ℕ) → longest_up_to n bytes < k → k ≤ n → has_form (take k bytes) ≡ false
unfolding longest_up_to
longest_up_to_ends zero bytes k past within = absurd (omega arith)
longest_up_to_ends (suc n) bytes k past within = go (has_form (take (suc n) bytes)) refl past (λ past within. longest_up_to_ends n bytes k past within)
  where
    go : (v : Bool) → has_form (take (suc n) bytes) ≡ v → cond v (suc n) (longest_up_to n bytes) < k
        → (longest_up_to n bytes < k → k ≤ n → has_form (take k bytes) ≡ false) → has_form (take k bytes) ≡ false
    go true is over more = absurd (omega arith)
    go false is over more =
        elim (eq-or-lt_of_le within) [
          | inr less ↦ more over (omega arith)
          | inl same ↦ subst (λ x. has_form (take x bytes) ≡ false) (sym same) is
        ]

-- it is no longer than the bytes
pub longest_up_to-le : (n : ℕ) (bytes : List ℕ) → longest_up_to n bytes ≤ n
unfolding longest_up_to
longest_up_to-le zero bytes = omega arith
longest_up_to-le (suc n) bytes = go (has_form (take (suc n) bytes)) (longest_up_to-le n bytes)
  where
    go : (v : Bool) → longest_up_to n bytes ≤ n → cond v (suc n) (longest_up_to n bytes) ≤ suc n
    go true less = omega arith
    go false less = omega arith

-- The greatest length by what the first byte begins.

pub form_behind : (s : Start) (b : ℕ) → start_of b ≡ s → (cs : List ℕ) → has_form (b ∷ cs) ≡ form_by s b cs
unfolding has_form
form_behind s b is cs = rw is refl

-- the greatest length by what stands behind the first byte
longest_by : (form : List ℕ → Bool) (b : ℕ) (bs : List ℕ) (m : ℕ) → ((cs : List ℕ) → has_form (b ∷ cs) ≡ form cs) → m ≤ length bs
    → form (take m bs) ≡ true → ((k : ℕ) → m < k → k ≤ length bs → form (take k bs) ≡ false) → longest (b ∷ bs) ≡ suc m
longest_by form b bs m behind within has none =
    longest_up_to_is (length (b ∷ bs)) (suc m) (b ∷ bs) (omega arith) (λ _. behind (take m bs) ∙ has) longer
  where
    longer : (k : ℕ) → suc m < k → k ≤ length (b ∷ bs) → has_form (take k (b ∷ bs)) ≡ false
    longer zero past le = absurd (omega arith)
    longer (suc k) past le = behind (take k bs) ∙ none k (omega arith) (omega arith)

longest_none : (form : List ℕ → Bool) (b : ℕ) (bs : List ℕ) → ((cs : List ℕ) → has_form (b ∷ cs) ≡ form cs)
    → ((k : ℕ) → k ≤ length bs → form (take k bs) ≡ false) → longest (b ∷ bs) ≡ 0
longest_none form b bs behind none = longest_up_to_is (length (b ∷ bs)) 0 (b ∷ bs) (omega arith) (λ zeros. absurd (zeros refl)) longer
  where
    longer : (k : ℕ) → 0 < k → k ≤ length (b ∷ bs) → has_form (take k (b ∷ bs)) ≡ false
    longer zero past le = absurd (omega arith)
    longer (suc k) past le = behind (take k bs) ∙ none k (omega arith)

longest_word : (b : ℕ) (bs : List ℕ) → start_of b ≡ start.Word → longest (b ∷ bs) ≡ suc (prefix_len is_word_byte bs)
longest_word b bs is = longest_by (list_all is_word_byte) b bs (prefix_len is_word_byte bs) (form_behind start.Word b is)
    (prefix_len-le-length is_word_byte bs) (run_passes is_word_byte bs) (run_ends is_word_byte bs)

longest_number : (b : ℕ) (bs : List ℕ) → start_of b ≡ start.Number → longest (b ∷ bs) ≡ suc (prefix_len is_digit bs)
longest_number b bs is = longest_by (list_all is_digit) b bs (prefix_len is_digit bs) (form_behind start.Number b is)
    (prefix_len-le-length is_digit bs) (run_passes is_digit bs) (run_ends is_digit bs)

longest_minus : (b : ℕ) (bs : List ℕ) → start_of b ≡ start.Minus → 0 < prefix_len is_digit bs → longest (b ∷ bs) ≡ suc (prefix_len is_digit bs)
longest_minus b bs is some = longest_by is_digits b bs (prefix_len is_digit bs) (form_behind start.Minus b is)
    (prefix_len-le-length is_digit bs) (digits_pass bs some) (digits_end bs)

longest_minus_alone : (b : ℕ) (bs : List ℕ) → start_of b ≡ start.Minus → prefix_len is_digit bs ≡ 0 → longest (b ∷ bs) ≡ 0
longest_minus_alone b bs is nothing = longest_none is_digits b bs (form_behind start.Minus b is) none
  where
    none : (k : ℕ) → k ≤ length bs → is_digits (take k bs) ≡ false
    none zero le = refl
    none (suc k) le = digits_end bs (suc k) (omega arith) le

longest_text : (b : ℕ) (bs : List ℕ) → start_of b ≡ start.Text → prefix_len is_plain bs < length bs → longest (b ∷ bs) ≡ suc (suc (prefix_len is_plain bs))
longest_text b bs is within = longest_by is_closed b bs (suc (prefix_len is_plain bs)) (form_behind start.Text b is) within
    (closed_at bs within) (λ k past le. closed_only bs k (omega arith) le)

longest_text_open : (b : ℕ) (bs : List ℕ) → start_of b ≡ start.Text → length bs ≤ prefix_len is_plain bs → longest (b ∷ bs) ≡ 0
longest_text_open b bs is over = longest_none is_closed b bs (form_behind start.Text b is) (λ k le. closed_only bs k (omega arith) le)

-- no symbol has three bytes
symbol_short : (b : ℕ) (bs : List ℕ) (k : ℕ) → 1 < k → k ≤ length bs → is_some (symbol_of (b ∷ take k bs)) ≡ false
symbol_short b bs zero past le = absurd (omega arith)
symbol_short b bs (suc zero) past le = absurd (omega arith)
symbol_short b [] (suc (suc k)) past le = absurd (omega arith)
symbol_short b (c ∷ []) (suc (suc k)) past le = absurd (omega arith)
symbol_short b (c ∷ d ∷ ds) (suc (suc k)) past le = refl

-- a byte and the one behind it, if there is one
longest_pair : (b : ℕ) (bs : List ℕ) → start_of b ≡ start.Other → is_some (symbol_of (b ∷ take 1 bs)) ≡ true
    → longest (b ∷ bs) ≡ suc (length (take 1 bs))
longest_pair b [] is two =
    longest_by (λ cs. is_some (symbol_of (b ∷ cs))) b [] 0 (form_behind start.Other b is) (omega arith) two (λ k past le. absurd (omega arith))
longest_pair b (c ∷ cs) is two =
    longest_by (λ cs. is_some (symbol_of (b ∷ cs))) b (c ∷ cs) 1 (form_behind start.Other b is) (omega arith) two
    (λ k past le. symbol_short b (c ∷ cs) k past le)

pub longest_symbol : (b : ℕ) (bs : List ℕ) → start_of b ≡ start.Other → longest (b ∷ bs) ≡ symbol_len (b ∷ bs)
longest_symbol b bs is = go (is_some (symbol_of (take 2 (b ∷ bs)))) (is_some (symbol_of (take 1 (b ∷ bs)))) refl refl
  where
    behind : (cs : List ℕ) → has_form (b ∷ cs) ≡ is_some (symbol_of (b ∷ cs))
    behind = form_behind start.Other b is

    none : is_some (symbol_of (take 1 (b ∷ bs))) ≡ false → is_some (symbol_of (take 2 (b ∷ bs))) ≡ false
        → (k : ℕ) → k ≤ length bs → is_some (symbol_of (b ∷ take k bs)) ≡ false
    none one two zero le = one
    none one two (suc zero) le = two
    none one two (suc (suc k)) le = symbol_short b bs (suc (suc k)) (omega arith) le

    longer : is_some (symbol_of (take 2 (b ∷ bs))) ≡ false
        → (k : ℕ) → 0 < k → k ≤ length bs → is_some (symbol_of (b ∷ take k bs)) ≡ false
    longer two zero past le = absurd (omega arith)
    longer two (suc zero) past le = two
    longer two (suc (suc k)) past le = symbol_short b bs (suc (suc k)) (omega arith) le

    go : (v w : Bool) → is_some (symbol_of (take 2 (b ∷ bs))) ≡ v → is_some (symbol_of (take 1 (b ∷ bs))) ≡ w
        → longest (b ∷ bs) ≡ cond v (length (take 2 (b ∷ bs))) (cond w 1 0)
    go false false two one = longest_none (λ cs. is_some (symbol_of (b ∷ cs))) b bs behind (none one two)
    go false true two one = longest_by (λ cs. is_some (symbol_of (b ∷ cs))) b bs 0 behind (omega arith) one (longer two)
    go true w two one = longest_pair b bs is two

-- The same of bytes that are known to begin so.

pub front_word : (bytes : List ℕ) (b : ℕ) (bs : List ℕ) (n : ℕ) → bytes ≡ b ∷ bs → start.Word ≡ start_of b → n ≡ prefix_len is_word_byte bs → 1 + n ≡ longest bytes
front_word bytes b bs n parts is run = rw parts (omega (arith, longest_word b bs (sym is), run))

pub front_number : (bytes : List ℕ) (b : ℕ) (bs : List ℕ) (n : ℕ) → bytes ≡ b ∷ bs → start.Number ≡ start_of b → n ≡ prefix_len is_digit bs → 1 + n ≡ longest bytes
front_number bytes b bs n parts is run = rw parts (omega (arith, longest_number b bs (sym is), run))

pub front_minus : (bytes : List ℕ) (b : ℕ) (bs : List ℕ) (n : ℕ) → bytes ≡ b ∷ bs → start.Minus ≡ start_of b → n ≡ prefix_len is_digit bs → n ≢ 0 → 1 + n ≡ longest bytes
front_minus bytes b bs n parts is run any = rw parts (omega (arith, longest_minus b bs (sym is) (omega arith), run))

pub front_minus_alone : (bytes : List ℕ) (b : ℕ) (bs : List ℕ) (n : ℕ) → bytes ≡ b ∷ bs → start.Minus ≡ start_of b → n ≡ prefix_len is_digit bs → n ≡ 0 → 0 ≡ longest bytes
front_minus_alone bytes b bs n parts is run none = rw parts (sym (longest_minus_alone b bs (sym is) (sym run ∙ none)))

pub front_text : (bytes : List ℕ) (b : ℕ) (bs : List ℕ) (n : ℕ) → bytes ≡ b ∷ bs → start.Text ≡ start_of b → n ≡ prefix_len is_plain bs → n < length bs → 2 + n ≡ longest bytes
front_text bytes b bs n parts is run within = rw parts (omega (arith, longest_text b bs (sym is) (omega arith), run))

pub front_text_open : (bytes : List ℕ) (b : ℕ) (bs : List ℕ) (n : ℕ) → bytes ≡ b ∷ bs → start.Text ≡ start_of b → n ≡ prefix_len is_plain bs → length bs ≤ n → 0 ≡ longest bytes
front_text_open bytes b bs n parts is run over = rw parts (sym (longest_text_open b bs (sym is) (omega arith)))
