-- What is read as an expression was written as it, and what was written is read.
use Rattle.std.proofs.Common.{◌≡◌, ℕ, zero, suc, ℤ, true, false, List, [], ◌∷◌, ◌++◌, length, Some, None, Ok, refl, sym, ap, ◌∙◌, append_assoc}
use Rattle.gv_values.specs.declared.arith.Arith.TheVariants as arith
use Rattle.scenario_tree.specs.declared.tree.Binary.{Binary}
use Rattle.scenario_tree.specs.declared.tree.Binary.TheVariants as binary
use Rattle.scenario_tree.specs.declared.tree.Unary.{Unary}
use Rattle.scenario_tree.specs.declared.tree.Unary.TheVariants as unary
use Rattle.scenario_tree.specs.declared.tree.Query.{Query}
use Rattle.scenario_tree.specs.declared.tree.Query.TheVariants as query
use Rattle.gv_values.specs.declared.fault.FaultKind.{FaultKind}
use Rattle.gv_values.specs.declared.fault.FaultKind.TheVariants as fault
use Rattle.scenario_tree.specs.declared.tree.Expression.{Expression, Expression-F, out-Expression, roll-Expression, roll-out-Expression}
use Rattle.scenario_tree.specs.declared.tree.Expression.TheVariants as e
use Rattle.scenario_tree.specs.declared.tree.Expression.TheViews as v
use Rattle.gv_values.specs.declared.name.Name.{Name}
use Rattle.scenario_grammar.specs.declared.head.Head.{Head}
use Rattle.scenario_grammar.specs.declared.head.Head.TheVariants as head
use Rattle.scenario_grammar.specs.declared.keyword.Keyword.{Keyword}
use Rattle.scenario_grammar.specs.declared.keyword.Keyword.TheVariants as k
use Rattle.scenario_grammar.specs.declared.token.Token.{Token}
use Rattle.scenario_grammar.specs.declared.token.Token.TheVariants as token
use Rattle.scenario_grammar.specs.Token.{Written, ◌⊕◌, ◌▹◌, each, fixed, name, integer, number, in_64_bits, is_free_name}
use Rattle.scenario_grammar.specs.Expressions.{binary_keyword, unary_keyword, query_keyword, fault_tokens, layer_tokens, tokens_within}
use Rattle.scenario_grammar.specs.Reading.{Reading, ◌<$>◌, name_at, integer_at, number_at, count_at, head_of, headed_at, nested_at}
use Rattle.scenario_grammar.proofs.Parts.{is_proper, AreProper, Built, Sound, Full, Anything, ok_first, ok_second, proper_at, both, bind_ok, map_sound, then_sound, pure_sound, map_full, then_full}
use Rattle.scenario_grammar.proofs.Atoms.{and_left, and_right, kept, name_sound, name_full, integer_sound, integer_full, number_sound, number_full, count_sound, count_full}
use Rattle.std.specs.List.{list_all}
use Rattle.gv_values.specs.declared.limits.TheConstants.{MOST_ELEMENTS}

-- the fixed word of a head
abbrev Heads : Keyword → Head → Type 0
Heads word head.Nothing = word ≡ k.Nothing
Heads word (head.Bool true) = word ≡ k.True
Heads word (head.Bool false) = word ≡ k.False
Heads word head.Current = word ≡ k.Current
Heads word (head.Fault kind) = fault_tokens kind ≡ fixed word
Heads word head.NumberedFault = word ≡ k.Error
Heads word (head.Unary op) = word ≡ unary_keyword op
Heads word (head.Binary op) = word ≡ binary_keyword op
Heads word head.And = word ≡ k.And
Heads word head.Or = word ≡ k.Or
Heads word head.List = word ≡ k.List
Heads word (head.Query asked) = word ≡ query_keyword asked
Heads word head.Other = Unit {0}

heads : (word : Keyword) → Heads word (head_of word)
heads k.Nothing = refl
heads k.True = refl
heads k.False = refl
heads k.Current = refl
heads k.GreenletExit = refl
heads k.Empty = refl
heads k.Full = refl
heads k.ValueError = refl
heads k.RuntimeError = refl
heads k.TypeError = refl
heads k.OverflowError = refl
heads k.ZeroDivisionError = refl
heads k.Error = refl
heads k.Plus = refl
heads k.Minus = refl
heads k.Times = refl
heads k.Slash = refl
heads k.Percent = refl
heads k.Equal = refl
heads k.NotEqual = refl
heads k.Less = refl
heads k.AtMost = refl
heads k.Push = refl
heads k.At = refl
heads k.And = refl
heads k.Or = refl
heads k.Not = refl
heads k.Length = refl
heads k.Ready = refl
heads k.Successful = refl
heads k.Value = refl
heads k.ExceptionOf = refl
heads k.List = refl
heads k.IsSet = refl
heads k.Counter = refl
heads k.QueueSize = refl
heads k.Unfinished = refl
heads k.Members = refl
heads _ = tt

head_binary : (op : Binary) → head_of (binary_keyword op) ≡ head.Binary op
head_binary (binary.Arithmetic arith.Add) = refl
head_binary (binary.Arithmetic arith.Sub) = refl
head_binary (binary.Arithmetic arith.Mul) = refl
head_binary (binary.Arithmetic arith.Div) = refl
head_binary (binary.Arithmetic arith.Rem) = refl
head_binary binary.Equal = refl
head_binary binary.NotEqual = refl
head_binary binary.Less = refl
head_binary binary.AtMost = refl
head_binary binary.Push = refl
head_binary binary.At = refl

head_unary : (op : Unary) → head_of (unary_keyword op) ≡ head.Unary op
head_unary unary.Not = refl
head_unary unary.Length = refl
head_unary unary.Ready = refl
head_unary unary.Successful = refl
head_unary unary.Value = refl
head_unary unary.Exception = refl

head_query : (asked : Query) → head_of (query_keyword asked) ≡ head.Query asked
head_query query.IsSet = refl
head_query query.Counter = refl
head_query query.QueueSize = refl
head_query query.Unfinished = refl
head_query query.Members = refl

-- an expression that was read behind its first token
abbrev Read : ℕ → Token → List Token → Expression → List Token → Type 0
Read depth t ts made rest = Built (λ x. x) (tokens_within (suc depth)) (t ∷ ts) made rest

-- from the parts behind a fixed word to the whole
closed : {E : Type 0} (depth : ℕ) (make : E → Expression) (writes : E → Written Token) (word : Keyword) (ts rest : List Token) (made : Expression)
    → ((p : E) → layer_tokens (tokens_within depth) (out-Expression (make p)) ≡ (word ▹ writes p))
    → Built make writes ts made rest → Read depth (token.Fixed word) ts made rest
unfolding tokens_within
closed depth make writes word ts rest made same b = record {
  parts = made;
  made_of = refl;
  front = token.Fixed word ∷ b.front;
  written = ap (λ x. layer_tokens (tokens_within depth) (out-Expression x)) (sym b.made_of) ∙ same b.parts ∙ ap (λ w. word ▹ w) b.written;
  whole = ap (λ z. token.Fixed word ∷ z) b.whole;
  proper = b.proper;
}

joined : (w : Expression → Written Token) (xs : List Expression) (n m : ℕ) (f g : List Token) → length xs ≡ n → m ≡ n → number 0 MOST_ELEMENTS m ≡ Some f → each w xs ≡ Some g
    → (number 0 MOST_ELEMENTS (length xs) ⊕ each w xs) ≡ Some (f ++ g)
joined w xs n m f g l r a b = rw (l, sym r, a, b) refl

headed_sound : (depth : ℕ) → Sound (λ x. x) (tokens_within depth) (nested_at depth) → (word : Keyword) (h : Head) → Heads word h
    → (ts rest : List Token) (made : Expression) → AreProper ts → headed_at (nested_at depth) h ts ≡ Ok (made, rest) → Read depth (token.Fixed word) ts made rest
headed_sound depth sound word (head.Binary op) w ts rest made h r =
    closed depth (λ p. e.Binary op p.0 p.1) (λ p. tokens_within depth p.0 ⊕ tokens_within depth p.1) word ts rest made
    (λ p. ap (layer_tokens (tokens_within depth)) (v.outs-Binary op p.0 p.1) ∙ ap (λ u. u ▹ (tokens_within depth p.0 ⊕ tokens_within depth p.1)) (sym w))
    (then_sound (λ a. e.Binary op a) (tokens_within depth) (e.Binary op <$> nested_at depth) (λ x. x) (tokens_within depth) (nested_at depth)
    (map_sound (λ a. e.Binary op a) (λ x. x) (tokens_within depth) (nested_at depth) sound) sound ts rest made h r)
headed_sound depth sound word (head.Unary op) w ts rest made h r =
    closed depth (λ p. e.Unary op p) (tokens_within depth) word ts rest made
    (λ p. ap (layer_tokens (tokens_within depth)) (v.outs-Unary op p) ∙ ap (λ u. u ▹ tokens_within depth p) (sym w))
    (map_sound (λ a. e.Unary op a) (λ x. x) (tokens_within depth) (nested_at depth) sound ts rest made h r)
headed_sound depth sound word (head.Query asked) w ts rest made h r =
    closed depth (λ n. e.Query asked n) name word ts rest made
    (λ n. ap (layer_tokens (tokens_within depth)) (v.outs-Query asked n) ∙ ap (λ u. u ▹ name n) (sym w))
    (map_sound (λ n. e.Query asked n) (λ x. x) name name_at name_sound ts rest made h r)
headed_sound depth sound word head.And w ts rest made h r =
    closed depth (λ p. e.And p.0 p.1) (λ p. tokens_within depth p.0 ⊕ tokens_within depth p.1) word ts rest made
    (λ p. ap (layer_tokens (tokens_within depth)) (v.outs-And p.0 p.1) ∙ ap (λ u. u ▹ (tokens_within depth p.0 ⊕ tokens_within depth p.1)) (sym w))
    (then_sound e.And (tokens_within depth) (e.And <$> nested_at depth) (λ x. x) (tokens_within depth) (nested_at depth)
    (map_sound e.And (λ x. x) (tokens_within depth) (nested_at depth) sound) sound ts rest made h r)
headed_sound depth sound word head.Or w ts rest made h r =
    closed depth (λ p. e.Or p.0 p.1) (λ p. tokens_within depth p.0 ⊕ tokens_within depth p.1) word ts rest made
    (λ p. ap (layer_tokens (tokens_within depth)) (v.outs-Or p.0 p.1) ∙ ap (λ u. u ▹ (tokens_within depth p.0 ⊕ tokens_within depth p.1)) (sym w))
    (then_sound e.Or (tokens_within depth) (e.Or <$> nested_at depth) (λ x. x) (tokens_within depth) (nested_at depth)
    (map_sound e.Or (λ x. x) (tokens_within depth) (nested_at depth) sound) sound ts rest made h r)
headed_sound depth sound word head.Nothing w ts rest made h r =
    closed depth (λ _. e.Nothing) (λ _. Some []) word ts rest made
    (λ _. ap (layer_tokens (tokens_within depth)) v.outs-Nothing ∙ ap fixed (sym w)) (pure_sound e.Nothing ts rest made h r)
headed_sound depth sound word head.Current w ts rest made h r =
    closed depth (λ _. e.Current) (λ _. Some []) word ts rest made
    (λ _. ap (layer_tokens (tokens_within depth)) v.outs-Current ∙ ap fixed (sym w)) (pure_sound e.Current ts rest made h r)
headed_sound depth sound word (head.Bool true) w ts rest made h r =
    closed depth (λ _. e.Bool true) (λ _. Some []) word ts rest made
    (λ _. ap (layer_tokens (tokens_within depth)) (v.outs-Bool true) ∙ ap fixed (sym w)) (pure_sound (e.Bool true) ts rest made h r)
headed_sound depth sound word (head.Bool false) w ts rest made h r =
    closed depth (λ _. e.Bool false) (λ _. Some []) word ts rest made
    (λ _. ap (layer_tokens (tokens_within depth)) (v.outs-Bool false) ∙ ap fixed (sym w)) (pure_sound (e.Bool false) ts rest made h r)
headed_sound depth sound word (head.Fault kind) w ts rest made h r =
    closed depth (λ _. e.Fault kind) (λ _. Some []) word ts rest made
    (λ _. ap (layer_tokens (tokens_within depth)) (v.outs-Fault kind) ∙ w) (pure_sound (e.Fault kind) ts rest made h r)
headed_sound depth sound word head.NumberedFault w ts rest made h r =
    closed depth (λ n. e.Fault (fault.Error n)) integer word ts rest made
    (λ n. ap (layer_tokens (tokens_within depth)) (v.outs-Fault (fault.Error n)) ∙ ap (λ u. u ▹ integer n) (sym w))
    (map_sound (λ n. e.Fault (fault.Error n)) (λ x. x) integer integer_at integer_sound ts rest made h r)
headed_sound depth sound word head.List w ts rest made h r =
    closed depth e.List (λ xs. number 0 MOST_ELEMENTS (length xs) ⊕ each (tokens_within depth) xs) word ts rest made
    (λ xs. ap (layer_tokens (tokens_within depth)) (v.outs-List xs) ∙ ap (λ u. u ▹ (number 0 MOST_ELEMENTS (length xs) ⊕ each (tokens_within depth) xs)) (sym w))
    (let n = bind_ok (number_at 0 MOST_ELEMENTS ts) (λ n. (e.List <$> count_at (nested_at depth) n.0) n.1) (made, rest) r in
    let many = number_sound 0 MOST_ELEMENTS ts n.0.1 n.0.0 h n.1 in
    let got = map_sound e.List (λ p. p.0) (λ p. each (tokens_within depth) p.0) (count_at (nested_at depth) n.0.0) (count_sound (tokens_within depth) (nested_at depth) sound n.0.0) n.0.1 rest made many.proper n.2 in
    record {
      parts = got.parts.0;
      made_of = got.made_of;
      front = many.front ++ got.front;
      written = joined (tokens_within depth) got.parts.0 n.0.0 many.parts many.front got.front got.parts.1 many.made_of many.written got.written;
      whole = many.whole ∙ ap (λ z. many.front ++ z) got.whole ∙ sym (append_assoc many.front got.front rest);
      proper = got.proper;
    })
headed_sound depth sound word head.Other w ts rest made h r = cc

single : (depth : ℕ) (t : Token) (x made : Expression) (ts rest : List Token) → layer_tokens (tokens_within depth) (out-Expression x) ≡ Some (t ∷ [])
    → AreProper ts → (let r : Reading Expression = Ok (x, ts) in r) ≡ Ok (made, rest) → Read depth t ts made rest
unfolding tokens_within
single depth t x made ts rest w h r =
    let ends = ok_second x made ts rest r in
    record { parts = x; made_of = ok_first x made ts rest r; front = t ∷ []; written = w; whole = ap (λ z. t ∷ z) ends; proper = proper_at ts rest ends h }

name_layer : (d : ℕ) (m : Name) → is_free_name m ≡ true → layer_tokens (tokens_within d) (out-Expression (e.Local m)) ≡ Some (token.Name m ∷ [])
unfolding name
name_layer d m free = ap (layer_tokens (tokens_within d)) (v.outs-Local m) ∙ (rw free refl)

pub nested_sound : (depth : ℕ) → Sound (λ x. x) (tokens_within depth) (nested_at depth)
unfolding nested_at
nested_sound zero [] rest made h r = cc
nested_sound zero (t ∷ ts) rest made h r = cc
nested_sound (suc depth) [] rest made h r = cc
nested_sound (suc depth) (token.Fixed word ∷ ts) rest made h r = headed_sound depth (nested_sound depth) word (head_of word) (heads word) ts rest made h r
nested_sound (suc depth) (token.Name n ∷ ts) rest made h r =
    single depth (token.Name n) (e.Local n) made ts rest (name_layer depth n (and_left (is_free_name n) (list_all is_proper ts) h)) (and_right (is_free_name n) (list_all is_proper ts) h) r
nested_sound (suc depth) (token.Number z ∷ ts) rest made h r =
    let fits = and_left (in_64_bits z) (list_all is_proper ts) h in
    single depth (token.Number z) (e.Int z) made ts rest (ap (layer_tokens (tokens_within depth)) (v.outs-Int z) ∙ (rw fits refl)) (and_right (in_64_bits z) (list_all is_proper ts) h) r
nested_sound (suc depth) (token.Oversized ∷ ts) rest made h r = cc
nested_sound (suc depth) (token.Misspelled ∷ ts) rest made h r = cc
nested_sound (suc depth) (token.Unknown ∷ ts) rest made h r = cc

-- what stands behind a fixed word
behind : (word : Keyword) (w : Written Token) (front : List Token) → (word ▹ w) ≡ Some front → (inner : List Token) × (w ≡ Some inner) × (token.Fixed word ∷ inner ≡ front)
behind word None front e = cc
behind word (Some inner) front e = (inner, refl, cc)

int_full : (depth : ℕ) (z : ℤ) (front rest : List Token) → integer z ≡ Some front → nested_at (suc depth) (front ++ rest) ≡ Ok (e.Int z, rest)
unfolding nested_at
int_full depth z front rest w = let same = kept (in_64_bits z) (Some (token.Number z ∷ [])) front w in let e : token.Number z ∷ [] ≡ front = cc in rw (sym e) refl

local_full : (depth : ℕ) (n : Name) (front rest : List Token) → name n ≡ Some front → nested_at (suc depth) (front ++ rest) ≡ Ok (e.Local n, rest)
unfolding nested_at name
local_full depth n front rest w = let same = kept (is_free_name n) (Some (token.Name n ∷ [])) front w in let e : token.Name n ∷ [] ≡ front = cc in rw (sym e) refl

fault_full : (depth : ℕ) (kind : FaultKind) (front rest : List Token) → fault_tokens kind ≡ Some front → nested_at (suc depth) (front ++ rest) ≡ Ok (e.Fault kind, rest)
unfolding nested_at
fault_full depth fault.GreenletExit front rest w = let same : token.Fixed k.GreenletExit ∷ [] ≡ front = cc in rw (sym same) refl
fault_full depth fault.Empty front rest w = let same : token.Fixed k.Empty ∷ [] ≡ front = cc in rw (sym same) refl
fault_full depth fault.Full front rest w = let same : token.Fixed k.Full ∷ [] ≡ front = cc in rw (sym same) refl
fault_full depth fault.ValueError front rest w = let same : token.Fixed k.ValueError ∷ [] ≡ front = cc in rw (sym same) refl
fault_full depth fault.RuntimeError front rest w = let same : token.Fixed k.RuntimeError ∷ [] ≡ front = cc in rw (sym same) refl
fault_full depth fault.TypeError front rest w = let same : token.Fixed k.TypeError ∷ [] ≡ front = cc in rw (sym same) refl
fault_full depth fault.OverflowError front rest w = let same : token.Fixed k.OverflowError ∷ [] ≡ front = cc in rw (sym same) refl
fault_full depth fault.ZeroDivisionError front rest w = let same : token.Fixed k.ZeroDivisionError ∷ [] ≡ front = cc in rw (sym same) refl
fault_full depth (fault.Error z) front rest w =
    let inner = behind k.Error (integer z) front w in
    rw (sym inner.2) (map_full (λ n. e.Fault (fault.Error n)) (λ x. x) integer Anything integer_at integer_full z inner.0 rest inner.1 tt)
fault_full depth (fault.Timeout n) front rest w = cc
fault_full depth fault.LoopExit front rest w = cc
fault_full depth fault.ShutDown front rest w = cc
fault_full depth fault.InvalidSwitch front rest w = cc

layer_full : (depth : ℕ) → Full (λ x. x) (tokens_within depth) Anything (nested_at depth)
    → (x : Expression-F Expression) (front rest : List Token) → layer_tokens (tokens_within depth) x ≡ Some front → nested_at (suc depth) (front ++ rest) ≡ Ok (roll-Expression x, rest)
unfolding nested_at
layer_full depth full (Expression-F.Binary op a b) front rest w =
    let inner = behind (binary_keyword op) (tokens_within depth a ⊕ tokens_within depth b) front w in
    rw (sym inner.2, head_binary op, v.rolls-Binary op a b)
    (then_full (λ x. e.Binary op x) (tokens_within depth) Anything (e.Binary op <$> nested_at depth) (λ x. x) (tokens_within depth) Anything (nested_at depth)
    (map_full (λ x. e.Binary op x) (λ x. x) (tokens_within depth) Anything (nested_at depth) full) full (λ q f r v t. tt) (a, b) inner.0 rest inner.1 tt)
layer_full depth full (Expression-F.Unary op a) front rest w =
    let inner = behind (unary_keyword op) (tokens_within depth a) front w in
    rw (sym inner.2, head_unary op, v.rolls-Unary op a) (map_full (λ x. e.Unary op x) (λ x. x) (tokens_within depth) Anything (nested_at depth) full a inner.0 rest inner.1 tt)
layer_full depth full (Expression-F.Query asked n) front rest w =
    let inner = behind (query_keyword asked) (name n) front w in
    rw (sym inner.2, head_query asked, v.rolls-Query asked n) (map_full (λ x. e.Query asked x) (λ x. x) name Anything name_at name_full n inner.0 rest inner.1 tt)
layer_full depth full (Expression-F.And a b) front rest w =
    let inner = behind k.And (tokens_within depth a ⊕ tokens_within depth b) front w in
    rw (sym inner.2, v.rolls-And a b)
    (then_full e.And (tokens_within depth) Anything (e.And <$> nested_at depth) (λ x. x) (tokens_within depth) Anything (nested_at depth)
    (map_full e.And (λ x. x) (tokens_within depth) Anything (nested_at depth) full) full (λ q f r v t. tt) (a, b) inner.0 rest inner.1 tt)
layer_full depth full (Expression-F.Or a b) front rest w =
    let inner = behind k.Or (tokens_within depth a ⊕ tokens_within depth b) front w in
    rw (sym inner.2, v.rolls-Or a b)
    (then_full e.Or (tokens_within depth) Anything (e.Or <$> nested_at depth) (λ x. x) (tokens_within depth) Anything (nested_at depth)
    (map_full e.Or (λ x. x) (tokens_within depth) Anything (nested_at depth) full) full (λ q f r v t. tt) (a, b) inner.0 rest inner.1 tt)
layer_full depth full Expression-F.Nothing front rest w = let same : token.Fixed k.Nothing ∷ [] ≡ front = cc in rw (sym same, v.rolls-Nothing) refl
layer_full depth full Expression-F.Current front rest w = let same : token.Fixed k.Current ∷ [] ≡ front = cc in rw (sym same, v.rolls-Current) refl
layer_full depth full (Expression-F.Bool true) front rest w = let same : token.Fixed k.True ∷ [] ≡ front = cc in rw (sym same, v.rolls-Bool true) refl
layer_full depth full (Expression-F.Bool false) front rest w = let same : token.Fixed k.False ∷ [] ≡ front = cc in rw (sym same, v.rolls-Bool false) refl
layer_full depth full (Expression-F.Int z) front rest w = rw (v.rolls-Int z) (int_full depth z front rest w)
layer_full depth full (Expression-F.Local n) front rest w = rw (v.rolls-Local n) (local_full depth n front rest w)
layer_full depth full (Expression-F.Fault kind) front rest w = rw (v.rolls-Fault kind) (fault_full depth kind front rest w)
layer_full depth full (Expression-F.List xs) front rest w =
    let inner = behind k.List (number 0 MOST_ELEMENTS (length xs) ⊕ each (tokens_within depth) xs) front w in
    let parts = both (number 0 MOST_ELEMENTS (length xs)) (each (tokens_within depth) xs) inner.0 inner.1 in
    rw (sym inner.2, sym parts.4, append_assoc parts.0 parts.1 rest, v.rolls-List xs, number_full 0 MOST_ELEMENTS (length xs) parts.0 (parts.1 ++ rest) parts.2 tt)
    (map_full e.List (λ p. p.0) (λ p. each (tokens_within depth) p.0) Anything (count_at (nested_at depth) (length xs))
    (count_full (tokens_within depth) (nested_at depth) full (length xs)) (xs, refl) parts.1 rest parts.3 tt)

pub nested_full : (depth : ℕ) → Full (λ x. x) (tokens_within depth) Anything (nested_at depth)
unfolding tokens_within
nested_full zero x front rest w h = cc
nested_full (suc depth) x front rest w h =
    layer_full depth (nested_full depth) (out-Expression x) front rest w ∙ ap (λ y. let r : Reading Expression = Ok (y, rest) in r) (roll-out-Expression x)
