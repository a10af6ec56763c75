-- What an appended piece of a text is. A piece that no memory was found for is left half-written.
use Rattle.std.specs.Prelude.{◌≡◌, ℕ, List, [], ◌∷◌, ◌++◌, Option, Some, None, Result, OnOk}
use Rattle.gv_values.specs.Fronts.{BeginsWith}
use Rattle.scenario_tree.specs.declared.tree.Expression.{Expression}
use Rattle.scenario_grammar.specs.declared.keyword.Keyword.{Keyword}
use Rattle.scenario_grammar.specs.declared.token.Token.{Token}
use Rattle.scenario_grammar.specs.Expressions.{tokens_within}
use Rattle.scenario_grammar.specs.Keyword.{spelling}
use Rattle.scenario_grammar.specs.Phrase.{ms}
use Rattle.scenario_grammar.specs.Token.{Written, each, fixed, number, token_word}

-- bytes behind others
pub record Appended {T E : Type 0} (old new : List ℕ) (done : Result T E) (text : List ℕ) : Type 0 where
  pub bytes : OnOk done (new ≡ old ++ text)
  pub front : BeginsWith new old

-- the words, each with a blank before it
abbrev pub spaced : List Token → List ℕ
spaced [] = []
spaced (t ∷ ts) = 32 ∷ token_word t ++ spaced ts

-- Words behind others, each with a blank before it: all of them, where the part has words.
pub record Wrote {T E : Type 0} (old new : List ℕ) (done : Result T E) (w : Written Token) : Type 0 where
  pub words : OnOk done ((ts : List Token) → w ≡ Some ts → new ≡ old ++ spaced ts)
  pub front : BeginsWith new old

-- a number, whatever its bounds are
pub record WroteNumber {T E : Type 0} (old new : List ℕ) (done : Result T E) (n : ℕ) : Type 0 where
  pub words : (least greatest : ℕ) → OnOk done ((ts : List Token) → number least greatest n ≡ Some ts → new ≡ old ++ spaced ts)
  pub front : BeginsWith new old

-- an expression, whatever levels it may have
pub record WroteExpression {T E : Type 0} (old new : List ℕ) (done : Result T E) (e : Expression) : Type 0 where
  pub words : (depth : ℕ) → OnOk done ((ts : List Token) → tokens_within depth e ≡ Some ts → new ≡ old ++ spaced ts)
  pub front : BeginsWith new old

-- expressions one after another
pub record WroteExpressions {T E : Type 0} (old new : List ℕ) (done : Result T E) (es : List Expression) : Type 0 where
  pub words : (depth : ℕ) → OnOk done ((ts : List Token) → each (tokens_within depth) es ≡ Some ts → new ≡ old ++ spaced ts)
  pub front : BeginsWith new old

-- a line's first word, which is a fixed one, and others behind it
pub record Started {T E : Type 0} (old new : List ℕ) (done : Result T E) (k : Keyword) (w : Written Token) : Type 0 where
  pub words : OnOk done ((ts : List Token) → w ≡ Some ts → new ≡ old ++ (spelling k ++ spaced ts))
  pub front : BeginsWith new old

-- the words, a blank between two; there is one at least
abbrev pub AreWords : List ℕ → List ℕ → List Token → Type 0
AreWords old new [] = ⊥
AreWords old new (t ∷ ts) = new ≡ old ++ (token_word t ++ spaced ts)

-- the words of a line
pub record WroteLine {T E : Type 0} (old new : List ℕ) (done : Result T E) (w : Written Token) : Type 0 where
  pub words : OnOk done ((ts : List Token) → w ≡ Some ts → AreWords old new ts)
  pub front : BeginsWith new old

-- the time of a timeout block, or `none`
abbrev pub after_tokens : Option ℕ → Written Token
after_tokens None = fixed Keyword.Nothing
after_tokens (Some n) = ms n
