-- The tokens of expressions.
use Rattle.std.specs.Prelude.{ℕ, zero, suc, true, false, length, None}
use Rattle.gv_values.specs.declared.arith.Arith.TheVariants as arith
use Rattle.scenario_tree.specs.declared.tree.Binary.{Binary}
use Rattle.scenario_tree.specs.declared.tree.Binary.TheVariants as binary
use Rattle.scenario_tree.specs.declared.tree.Unary.{Unary}
use Rattle.scenario_tree.specs.declared.tree.Unary.TheVariants as unary
use Rattle.scenario_tree.specs.declared.tree.Query.{Query}
use Rattle.scenario_tree.specs.declared.tree.Query.TheVariants as query
use Rattle.gv_values.specs.declared.fault.FaultKind.{FaultKind}
use Rattle.gv_values.specs.declared.fault.FaultKind.TheVariants as fault
use Rattle.scenario_tree.specs.declared.tree.Expression.{Expression, Expression-F, out-Expression}
use Rattle.scenario_grammar.specs.declared.keyword.Keyword.{Keyword}
use Rattle.scenario_grammar.specs.declared.keyword.Keyword.TheVariants as k
use Rattle.scenario_grammar.specs.declared.token.Token.{Token}
use Rattle.scenario_grammar.specs.Token.{Written, ◌⊕◌, ◌▹◌, each, fixed, name, integer, number}
use Rattle.gv_values.specs.declared.limits.TheConstants.{MOST_ELEMENTS}
use Rattle.scenario_grammar.specs.declared.limits.TheConstants.{MOST_NESTED}

-- the word of an operator of two operands
abbrev pub binary_keyword : Binary → Keyword
binary_keyword (binary.Arithmetic arith.Add) = k.Plus
binary_keyword (binary.Arithmetic arith.Sub) = k.Minus
binary_keyword (binary.Arithmetic arith.Mul) = k.Times
binary_keyword (binary.Arithmetic arith.Div) = k.Slash
binary_keyword (binary.Arithmetic arith.Rem) = k.Percent
binary_keyword binary.Equal = k.Equal
binary_keyword binary.NotEqual = k.NotEqual
binary_keyword binary.Less = k.Less
binary_keyword binary.AtMost = k.AtMost
binary_keyword binary.Push = k.Push
binary_keyword binary.At = k.At

-- the word of an operator of one operand
abbrev pub unary_keyword : Unary → Keyword
unary_keyword unary.Not = k.Not
unary_keyword unary.Length = k.Length
unary_keyword unary.Ready = k.Ready
unary_keyword unary.Successful = k.Successful
unary_keyword unary.Value = k.Value
unary_keyword unary.Exception = k.ExceptionOf

-- the word of a question about an object
abbrev pub query_keyword : Query → Keyword
query_keyword query.IsSet = k.IsSet
query_keyword query.Counter = k.Counter
query_keyword query.QueueSize = k.QueueSize
query_keyword query.Unfinished = k.Unfinished
query_keyword query.Members = k.Members

-- the faults that an expression names
abbrev pub fault_tokens : FaultKind → Written Token
fault_tokens fault.GreenletExit = fixed k.GreenletExit
fault_tokens fault.Empty = fixed k.Empty
fault_tokens fault.Full = fixed k.Full
fault_tokens fault.ValueError = fixed k.ValueError
fault_tokens fault.RuntimeError = fixed k.RuntimeError
fault_tokens fault.TypeError = fixed k.TypeError
fault_tokens fault.OverflowError = fixed k.OverflowError
fault_tokens fault.ZeroDivisionError = fixed k.ZeroDivisionError
fault_tokens (fault.Error n) = k.Error ▹ integer n
fault_tokens (fault.Timeout n) = None
fault_tokens fault.LoopExit = None
fault_tokens fault.ShutDown = None
fault_tokens fault.InvalidSwitch = None

-- one level of an expression, by the words of its operands
abbrev pub layer_tokens : (Expression → Written Token) → Expression-F Expression → Written Token
layer_tokens operand Expression-F.Nothing = fixed k.Nothing
layer_tokens operand (Expression-F.Bool true) = fixed k.True
layer_tokens operand (Expression-F.Bool false) = fixed k.False
layer_tokens operand (Expression-F.Int n) = integer n
layer_tokens operand (Expression-F.Local n) = name n
layer_tokens operand Expression-F.Current = fixed k.Current
layer_tokens operand (Expression-F.Fault kind) = fault_tokens kind
layer_tokens operand (Expression-F.Unary op a) = (unary_keyword op) ▹ operand a
layer_tokens operand (Expression-F.Binary op a b) = (binary_keyword op) ▹ operand a ⊕ operand b
layer_tokens operand (Expression-F.And a b) = k.And ▹ operand a ⊕ operand b
layer_tokens operand (Expression-F.Or a b) = k.Or ▹ operand a ⊕ operand b
layer_tokens operand (Expression-F.List items) = k.List ▹ number 0 MOST_ELEMENTS (length items) ⊕ each operand items
layer_tokens operand (Expression-F.Query asked n) = (query_keyword asked) ▹ name n

-- an expression whose levels are at most depth
unfoldable pub tokens_within : ℕ → Expression → Written Token
tokens_within zero e = None
tokens_within (suc depth) e = layer_tokens (tokens_within depth) (out-Expression e)

-- an expression that is no operand of another
abbrev pub expression : Expression → Written Token
expression = tokens_within MOST_NESTED
