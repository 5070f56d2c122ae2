-- What a sink is: texts are put into it one behind the other, while it has room for them.
use Rattle.std.specs.Prelude.{◌≡◌, List, [], ◌++◌, ℕ, ◌+◌, ◌≤◌, length}

-- How many bytes a sink has taken, how many it can take, and the sink once a text is put into it.
pub record Kind (S : Type 0) : Type 0 where
  pub taken : S → ℕ
  pub most : S → ℕ
  pub filled : S → List ℕ → S

module _ {S : Type 0} (k : Kind S) where
  -- there is room for a text
  abbrev pub Fits : S → List ℕ → Type 0
  Fits s t = k.taken s + length t ≤ k.most s

  -- a text is put behind those before it
  pub record Puts (before : S) (t : List ℕ) (after : S) : Type 0 where
    pub after_is : after ≡ k.filled before t
    pub taken_is : k.taken after ≡ k.taken before + length t
    pub most_is : k.most after ≡ k.most before

  -- Texts one behind the other are one text.
  pub record SinkLaws : Type 0 where
    pub none : (s : S) → k.filled s [] ≡ s
    pub both : (s : S) (a b : List ℕ) → Fits s a → k.filled (k.filled s a) b ≡ k.filled s (a ++ b)
