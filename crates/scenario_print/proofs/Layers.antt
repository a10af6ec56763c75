-- Expressions, level by level.
use Rattle.std.proofs.Common.{◌≡◌, ℕ, zero, suc, ◌+◌, ◌<◌, List, length, take, get_or, Result, Ok, Err, sym, subst, true, false, Bool, if◌then◌else◌}
use Rattle.std.specs.Result.{IsErr}
use Rattle.gv_values.specs.Fronts.{BeginsWith}
use Rattle.scenario_tree.specs.declared.tree.Expression.{Expression, Expression-F, out-Expression}
use Rattle.scenario_grammar.specs.declared.token.Token.{Token}
use Rattle.scenario_grammar.specs.Expressions.{expression, tokens_within, layer_tokens}
use Rattle.scenario_grammar.specs.declared.limits.TheConstants.{MOST_NESTED}
use Rattle.gv_values.specs.declared.name.Name.{Name}
use Rattle.scenario_grammar.specs.declared.keyword.Keyword.{Keyword}
use Rattle.scenario_grammar.specs.Token.{Written, ◌⊕◌, ◌▹◌, each, fixed, name, number}
use Rattle.scenario_print.specs.Written.{Wrote, WroteNumber, WroteExpression, WroteExpressions}
use Rattle.scenario_print.proofs.Each.{each_next}
use Rattle.scenario_print.proofs.Words.{in_range, joined, no_words, through, worded}
use Rattle.gv_values.specs.declared.limits.TheConstants.{MOST_ELEMENTS}

-- where no memory was found
pub broken_expression : {T E : Type 0} {o n : List ℕ} {r : Result T E} {e : Expression} → IsErr r → BeginsWith n o → WroteExpression o n r e
broken_expression {r = Ok x} is front = cc
broken_expression {r = Err x} is front = record { words = λ depth. tt; front = front }

pub broken_expressions : {T E : Type 0} {o n : List ℕ} {r : Result T E} {es : List Expression} → IsErr r → BeginsWith n o → WroteExpressions o n r es
broken_expressions {r = Ok x} is front = cc
broken_expressions {r = Err x} is front = record { words = λ depth. tt; front = front }

-- an expression to so many levels
pub to_depth : {T E : Type 0} {o n : List ℕ} {r : Result T E} {e : Expression} (depth : ℕ) → WroteExpression o n r e → Wrote o n r (tokens_within depth e)
to_depth depth f = record { words = f.words depth; front = f.front }

pub whole : {T E : Type 0} {o n : List ℕ} {r : Result T E} {e : Expression} → WroteExpression o n r e → Wrote o n r (expression e)
whole f = record { words = f.words MOST_NESTED; front = f.front }

pub all_whole : {T E : Type 0} {o n : List ℕ} {r : Result T E} {es : List Expression} → WroteExpressions o n r es → Wrote o n r (each expression es)
all_whole f = record { words = f.words MOST_NESTED; front = f.front }

pub all_to_depth : {T E : Type 0} {o n : List ℕ} {r : Result T E} {es : List Expression} (depth : ℕ) → WroteExpressions o n r es → Wrote o n r (each (tokens_within depth) es)
all_to_depth depth f = record { words = f.words depth; front = f.front }

pub layer : {T E : Type 0} {o n : List ℕ} {r : Result T E} (e : Expression) {y : Expression-F Expression} → out-Expression e ≡ y → ((depth : ℕ) → Wrote o n r (layer_tokens (tokens_within depth) y)) → WroteExpression o n r e
unfolding tokens_within
layer {T} {E} {o = o} {n = n} {r = r} e {y = y} is f = record { words = λ depth. (each_depth depth).words; front = (f 0).front }
  where
    each_depth : (depth : ℕ) → Wrote o n r (tokens_within depth e)
    each_depth zero = no_words o n r (f 0).front
    each_depth (suc depth) = subst (λ z. Wrote o n r (layer_tokens (tokens_within depth) z)) (sym is) (f depth)

pub truth : {T E : Type 0} {o n : List ℕ} {r : Result T E} {w : Keyword} (operand : Expression → Written Token) (value : Bool) → w ≡ (if value then Keyword.True else Keyword.False) → Wrote o n r (fixed w) → Wrote o n r (layer_tokens operand (Expression-F.Bool value))
truth {o = o} {n = n} {r = r} operand true e f = subst (λ z. Wrote o n r (fixed z)) e f
truth {o = o} {n = n} {r = r} operand false e f = subst (λ z. Wrote o n r (fixed z)) e f

pub one_operand : {T E : Type 0} {o m n : List ℕ} {x : T} {r : Result T E} (k w : Keyword) (a b : Expression) → w ≡ k → b ≡ a → (let done : Result T E = Ok x in Wrote o m done (fixed w)) → WroteExpression m n r b
    → (depth : ℕ) → Wrote o n r (k ▹ tokens_within depth a)
one_operand {T} {E} {o = o} {m = m} {n = n} {x = x} {r = r} k w a b word same f g depth =
    subst (λ z. Wrote o n r (z ▹ tokens_within depth a)) word (subst (λ z. Wrote o n r (w ▹ tokens_within depth z)) same (worded w f (to_depth depth g)))

pub two_operands : {T E : Type 0} {o m l n : List ℕ} {x y : T} {r : Result T E} (k w : Keyword) (a b c d : Expression) → w ≡ k → c ≡ a → d ≡ b
    → (let done : Result T E = Ok x in Wrote o m done (fixed w)) → (let done : Result T E = Ok y in WroteExpression m l done c) → WroteExpression l n r d
    → (depth : ℕ) → Wrote o n r (k ▹ tokens_within depth a ⊕ tokens_within depth b)
two_operands {T} {E} {o = o} {n = n} {r = r} k w a b c d word same also f g h depth =
    subst (λ z. Wrote o n r (z ▹ tokens_within depth a ⊕ tokens_within depth b)) word
    (subst (λ z. Wrote o n r (w ▹ tokens_within depth z ⊕ tokens_within depth b)) same
    (subst (λ z. Wrote o n r (w ▹ tokens_within depth c ⊕ tokens_within depth z)) also (worded w f (joined (to_depth depth g) (to_depth depth h)))))

pub some_operands : {T E : Type 0} {o m l n : List ℕ} {x y : T} {r : Result T E} (k : Keyword) (count : ℕ) (es fs : List Expression) → count ≡ length es → fs ≡ es
    → (let done : Result T E = Ok x in Wrote o m done (fixed k)) → (let done : Result T E = Ok y in WroteNumber m l done count) → WroteExpressions l n r fs
    → (depth : ℕ) → Wrote o n r (k ▹ number 0 MOST_ELEMENTS (length es) ⊕ each (tokens_within depth) es)
some_operands {T} {E} {o = o} {n = n} {r = r} k count es fs counted same f g h depth =
    subst (λ z. Wrote o n r (k ▹ number 0 MOST_ELEMENTS z ⊕ each (tokens_within depth) es)) counted
    (subst (λ z. Wrote o n r (k ▹ number 0 MOST_ELEMENTS count ⊕ each (tokens_within depth) z)) same (worded k f (joined (in_range 0 MOST_ELEMENTS g) (all_to_depth depth h))))

pub asked : {T E : Type 0} {o m n : List ℕ} {x : T} {r : Result T E} (k w : Keyword) (a : Name) → w ≡ k → (let done : Result T E = Ok x in Wrote o m done (fixed w)) → Wrote m n r (name a) → Wrote o n r (k ▹ name a)
asked {T} {E} {o = o} {n = n} {r = r} k w a word f g = subst (λ z. Wrote o n r (z ▹ name a)) word (worded w f g)

-- one expression more
pub next_expression : {T E : Type 0} {o m n : List ℕ} {x y : T} (i : ℕ) (es : List Expression) (e : Expression) → i < length es → e ≡ get_or es i e
    → (let done : Result T E = Ok x in WroteExpressions o m done (take i es)) → (let done : Result T E = Ok y in WroteExpression m n done e) → (let done : Result T E = Ok y in WroteExpressions o n done (take (i + 1) es))
next_expression {T} {E} {o = o} {m = m} {n = n} {x = x} {y = y} i es e within at f g = record {
  words = λ depth. (subst (λ w. (let done : Result T E = Ok y in Wrote o n done w)) (sym (each_next (tokens_within depth) i es e within at)) (joined (all_to_depth depth f) (to_depth depth g))).words;
  front = through n m o g.front f.front;
}

-- one name more
pub next_name : {T E : Type 0} {o m n : List ℕ} {x y : T} (i : ℕ) (ns : List Name) (w : Name) → i < length ns → w ≡ get_or ns i w
    → (let done : Result T E = Ok x in Wrote o m done (each name (take i ns))) → (let done : Result T E = Ok y in Wrote m n done (name w)) → (let done : Result T E = Ok y in Wrote o n done (each name (take (i + 1) ns)))
next_name {T} {E} {o = o} {n = n} {x = x} {y = y} i ns w within at f g = subst (λ v. (let done : Result T E = Ok y in Wrote o n done v)) (sym (each_next name i ns w within at)) (joined f g)
