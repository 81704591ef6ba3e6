-- The walk of `clap` over words of which some are known to begin with no hyphen.
use Rattle.std.proofs.Common.{◌≡◌, ℕ, List, [], ◌∷◌, true, false, refl, Some, None, nat_eq, Bool, map, Option, is_some, ◌∙◌, ap, ap₂}
use Rattle.std.specs.Prelude.{◌&&◌, ◌||◌, cond, fold}
use Rattle.clap.specs.Words.{Rule, Text}
use Rattle.clap.specs.Simple.{Shape}
use Rattle.clap.specs.Takes.{step_passes, turn_passes, walk_passes, word_passes}
use Rattle.clap.specs.Walk.{Held, Waiting, Walk, after_step, idle, option, plain_word, positional, walked, word_met}

-- a word of a command line: any, or one that begins with this byte, which is no hyphen
pub data Word : Type 0 where
  any : Text → Word
  plain : (byte : ℕ) → Text → nat_eq byte 45 ≡ false → Word

abbrev pub text_of : Word → Text
text_of (any text) = text
text_of (plain byte rest is) = byte ∷ rest

plain_met : (c : List Rule) (waiting : Waiting) (position byte : ℕ) (rest : Text) (held : Held) → nat_eq byte 45 ≡ false
    → word_met c [] false waiting position (byte ∷ rest) held ≡ plain_word c waiting (byte ∷ rest) held
plain_met c idle position byte rest held is = simp is
plain_met c (option id) position byte rest held is = simp is
plain_met c positional position byte rest held is = simp is

-- the walk after a word that begins with no hyphen, where it neither has stopped nor is past `--`
abbrev plain_walked : List Rule → Walk → Text → Walk
plain_walked c w word = after_step c word w (plain_word c w.waiting word w.held).0 (plain_word c w.waiting word w.held).1

abbrev pub word_walked : List Rule → Walk → Word → Walk
word_walked c w (any text) = walked c [] w text
word_walked c w (plain byte rest is) = cond (is_some w.stopped || w.is_trailing) (walked c [] w (byte ∷ rest)) (plain_walked c w (byte ∷ rest))

walked-plain : (c : List Rule) (w : Walk) (byte : ℕ) (rest : Text) → nat_eq byte 45 ≡ false
    → walked c [] w (byte ∷ rest) ≡ cond (is_some w.stopped || w.is_trailing) (walked c [] w (byte ∷ rest)) (plain_walked c w (byte ∷ rest))
unfolding walked
walked-plain c w byte rest is = go w.stopped w.is_trailing refl refl
  where
    go : (s : Option (Text × List Text)) (t : Bool) → w.stopped ≡ s → w.is_trailing ≡ t
        → walked c [] w (byte ∷ rest) ≡ cond (is_some w.stopped || w.is_trailing) (walked c [] w (byte ∷ rest)) (plain_walked c w (byte ∷ rest))
    go (Some s) t stopped trailing = rw stopped
    go None true stopped trailing = rw (stopped, trailing)
    go None false stopped trailing = rw (stopped, trailing, plain_met c w.waiting w.position byte rest w.held is)

-- the walk over words, by what is known of them
pub walk-words : (c : List Rule) (w : Walk) (words : List Word) → fold (walked c []) w (map text_of words) ≡ fold (word_walked c) w words
walk-words c w [] = refl
walk-words c w (any text ∷ words) = walk-words c (walked c [] w text) words
walk-words c w (plain byte rest is ∷ words) =
    ap (λ v. fold (walked c []) v (map text_of words)) (walked-plain c w byte rest is) ∙ walk-words c (word_walked c w (plain byte rest is)) words

module _ (s : Shape) where
  -- a word that begins with no hyphen passes where the place that it goes to takes it
  abbrev plain_passes : Walk → Text → Bool
  plain_passes w word = step_passes s w.position (plain_word s.rules w.waiting word w.held).0 (plain_word s.rules w.waiting word w.held).1

  abbrev word_turn : Walk → Word → Bool
  word_turn w (any text) = turn_passes s [] w text
  word_turn w (plain byte rest is) = cond (is_some w.stopped || w.is_trailing) (turn_passes s [] w (byte ∷ rest)) (plain_passes w (byte ∷ rest))

  abbrev pub words_pass : Walk → List Word → Bool
  words_pass w [] = true
  words_pass w (word ∷ words) = word_turn w word && words_pass (word_walked s.rules w word) words

  plain_word_passes : (waiting : Waiting) (byte : ℕ) (rest : Text) (held : Held) → nat_eq byte 45 ≡ false → word_passes s [] false waiting (byte ∷ rest) held ≡ true
  plain_word_passes idle byte rest held is = simp is
  plain_word_passes (option id) byte rest held is = simp is
  plain_word_passes positional byte rest held is = simp is

  turn-plain : (w : Walk) (byte : ℕ) (rest : Text) → nat_eq byte 45 ≡ false
      → turn_passes s [] w (byte ∷ rest) ≡ cond (is_some w.stopped || w.is_trailing) (turn_passes s [] w (byte ∷ rest)) (plain_passes w (byte ∷ rest))
  turn-plain w byte rest is = go w.stopped w.is_trailing refl refl
    where
      go : (o : Option (Text × List Text)) (t : Bool) → w.stopped ≡ o → w.is_trailing ≡ t
          → turn_passes s [] w (byte ∷ rest) ≡ cond (is_some w.stopped || w.is_trailing) (turn_passes s [] w (byte ∷ rest)) (plain_passes w (byte ∷ rest))
      go (Some o) t stopped trailing = rw stopped
      go None true stopped trailing = rw (stopped, trailing)
      go None false stopped trailing = rw (stopped, trailing, plain_word_passes w.waiting byte rest w.held is, plain_met s.rules w.waiting w.position byte rest w.held is)

  -- whether words pass, by what is known of them
  pub walk_passes-words : (w : Walk) (words : List Word) → walk_passes s [] w (map text_of words) ≡ words_pass w words
  unfolding walk_passes
  walk_passes-words w [] = refl
  walk_passes-words w (any text ∷ words) = ap (λ b. turn_passes s [] w text && b) (walk_passes-words (walked s.rules [] w text) words)
  walk_passes-words w (plain byte rest is ∷ words) =
      ap₂ (λ b v. b && walk_passes s [] v (map text_of words)) (turn-plain w byte rest is) (walked-plain s.rules w byte rest is)
      ∙ ap (λ b. word_turn w (plain byte rest is) && b) (walk_passes-words (word_walked s.rules w (plain byte rest is)) words)
