-- What a tree says is written in words that can be read: no token of a phrase is a mistake.
use Rattle.std.proofs.Common.{◌≡◌, ℕ, zero, suc, ℤ, pos, Bool, true, false, ◌&&◌, nat_le, List, [], ◌∷◌, ◌++◌, length, Option, Some, None, refl, sym, ap, ◌∙◌}
use Rattle.std.specs.List.{list_all}
use Rattle.gv_values.specs.declared.name.Name.{Name}
use Rattle.gv_values.specs.declared.fault.FaultKind.{FaultKind}
use Rattle.gv_values.specs.declared.fault.FaultKind.TheVariants as fault
use Rattle.scenario_tree.specs.declared.tree.Command.{Command}
use Rattle.scenario_tree.specs.declared.tree.Command.TheVariants as command
use Rattle.scenario_tree.specs.declared.tree.Expression.{Expression, Expression-F, out-Expression}
use Rattle.scenario_tree.specs.declared.tree.Giving.{Giving}
use Rattle.scenario_tree.specs.declared.tree.Giving.TheVariants as giving
use Rattle.scenario_tree.specs.declared.tree.Object.{Object}
use Rattle.scenario_tree.specs.declared.tree.Object.TheVariants as object
use Rattle.scenario_tree.specs.declared.tree.Wait.{Wait}
use Rattle.scenario_tree.specs.declared.tree.Wait.TheVariants as wait
use Rattle.scenario_grammar.specs.declared.keyword.Keyword.{Keyword}
use Rattle.scenario_grammar.specs.declared.keyword.Keyword.TheVariants as k
use Rattle.scenario_grammar.specs.declared.phrase.Phrase.{Phrase}
use Rattle.scenario_grammar.specs.declared.phrase.Phrase.TheVariants as phrase
use Rattle.scenario_grammar.specs.declared.token.Token.{Token}
use Rattle.scenario_grammar.specs.declared.token.Token.TheVariants as token
use Rattle.scenario_grammar.specs.Expressions.{expression, fault_tokens, layer_tokens, tokens_within, binary_keyword, unary_keyword, query_keyword}
use Rattle.scenario_grammar.specs.Phrase.{phrase_tokens, command_tokens, giving_tokens, object_tokens, head_tokens, target_tokens, timeout_tokens, ms, within, timed_tokens, wait_tokens, marked, flag, count_tokens, takes_tokens, size_tokens, link_keyword, job_keyword, queue_keyword, class_keyword}
use Rattle.scenario_grammar.specs.Token.{Written, ◌⊕◌, ◌▹◌, each, perhaps, only_if, fixed, name, integer, number, in_64_bits, is_free_name}
use Rattle.gv_values.specs.declared.limits.TheConstants.{MOST_ELEMENTS}
use Rattle.scenario_grammar.specs.declared.limits.TheConstants.{MOST_MARK, MOST_MS, MOST_NESTED, MOST_POOL_PLACES, MOST_QUEUE_PLACES, MOST_SLOTS, MOST_UNITS}

-- it stands for a word of its own
abbrev pub is_word : Token → Bool
is_word (token.Fixed k) = true
is_word (token.Name n) = true
is_word (token.Number z) = true
is_word token.Oversized = false
is_word token.Misspelled = false
is_word token.Unknown = false

abbrev AreWords : Written Token → Type 0
AreWords None = Unit {0}
AreWords (Some ts) = list_all is_word ts ≡ true

record InWords (w : Written Token) : Type 0 where
  words : AreWords w

words_append : (ts us : List Token) → list_all is_word ts ≡ true → list_all is_word us ≡ true → list_all is_word (ts ++ us) ≡ true
words_append [] us h k = k
words_append (t ∷ ts) us h k = both_words (is_word t) (list_all is_word ts) (list_all is_word (ts ++ us)) h (λ e. words_append ts us e k)
  where
    both_words : (a b c : Bool) → (a && b) ≡ true → (b ≡ true → c ≡ true) → (a && c) ≡ true
    both_words true b c h more = more h
    both_words false b c h more = cc

plus : {x y : Written Token} → InWords x → InWords y → InWords (x ⊕ y)
plus {x = x} {y = y} a b = record { words = both_parts x y a.words b.words }
  where
    both_parts : (x y : Written Token) → AreWords x → AreWords y → AreWords (x ⊕ y)
    both_parts None y h k = tt
    both_parts (Some ts) None h k = tt
    both_parts (Some ts) (Some us) h k = words_append ts us h k

after : {x : Written Token} (word : Keyword) → InWords x → InWords (word ▹ x)
after {x = x} word a = record { words = behind_word x a.words }
  where
    behind_word : (x : Written Token) → AreWords x → AreWords (word ▹ x)
    behind_word None h = tt
    behind_word (Some ts) h = h

word : (k : Keyword) → InWords (fixed k)
word k = record { words = refl }

nothing : InWords (Some [])
nothing = record { words = refl }

no_text : InWords None
no_text = record { words = tt }

all : {A : Type 0} (f : A → Written Token) → ((x : A) → InWords (f x)) → (xs : List A) → InWords (each f xs)
all f h [] = nothing
all f h (x ∷ xs) = plus (h x) (all f h xs)

maybe : {A : Type 0} (f : A → Written Token) → ((x : A) → InWords (f x)) → (o : Option A) → InWords (perhaps f o)
maybe f h None = nothing
maybe f h (Some x) = h x

where_so : (b : Bool) (w : Written Token) → InWords w → InWords (only_if b w)
where_so true w h = h
where_so false w h = no_text

a_name : (n : Name) → InWords (name n)
unfolding name
a_name n = where_so (is_free_name n) (Some (token.Name n ∷ [])) (record { words = refl })

an_integer : (z : ℤ) → InWords (integer z)
an_integer z = where_so (in_64_bits z) (Some (token.Number z ∷ [])) (record { words = refl })

a_number : (least greatest n : ℕ) → InWords (number least greatest n)
a_number least greatest n = where_so (nat_le least n && nat_le n greatest) (Some (token.Number (pos n) ∷ [])) (record { words = refl })

a_fault : (kind : FaultKind) → InWords (fault_tokens kind)
a_fault fault.GreenletExit = word k.GreenletExit
a_fault fault.Empty = word k.Empty
a_fault fault.Full = word k.Full
a_fault fault.ValueError = word k.ValueError
a_fault fault.RuntimeError = word k.RuntimeError
a_fault fault.TypeError = word k.TypeError
a_fault fault.OverflowError = word k.OverflowError
a_fault fault.ZeroDivisionError = word k.ZeroDivisionError
a_fault (fault.Error n) = after k.Error (an_integer n)
a_fault (fault.Timeout n) = no_text
a_fault fault.LoopExit = no_text
a_fault fault.ShutDown = no_text
a_fault fault.InvalidSwitch = no_text

a_layer : (operand : Expression → Written Token) → ((e : Expression) → InWords (operand e)) → (x : Expression-F Expression) → InWords (layer_tokens operand x)
a_layer operand h Expression-F.Nothing = word k.Nothing
a_layer operand h (Expression-F.Bool true) = word k.True
a_layer operand h (Expression-F.Bool false) = word k.False
a_layer operand h (Expression-F.Int n) = an_integer n
a_layer operand h (Expression-F.Local n) = a_name n
a_layer operand h Expression-F.Current = word k.Current
a_layer operand h (Expression-F.Fault kind) = a_fault kind
a_layer operand h (Expression-F.Unary op a) = after (unary_keyword op) (h a)
a_layer operand h (Expression-F.Binary op a b) = after (binary_keyword op) (plus (h a) (h b))
a_layer operand h (Expression-F.And a b) = after k.And (plus (h a) (h b))
a_layer operand h (Expression-F.Or a b) = after k.Or (plus (h a) (h b))
a_layer operand h (Expression-F.List items) = after k.List (plus (a_number 0 MOST_ELEMENTS (length items)) (all operand h items))
a_layer operand h (Expression-F.Query asked n) = after (query_keyword asked) (a_name n)

within_levels : (depth : ℕ) (e : Expression) → InWords (tokens_within depth e)
unfolding tokens_within
within_levels zero e = no_text
within_levels (suc depth) e = a_layer (tokens_within depth) (within_levels depth) (out-Expression e)

an_expression : (e : Expression) → InWords (expression e)
an_expression e = within_levels MOST_NESTED e

a_time : (n : ℕ) → InWords (within n)
a_time n = after k.Within (a_number 0 MOST_MS n)

a_timed : (t : Option ℕ) → InWords (timed_tokens t)
a_timed t = maybe within a_time t

a_wait : (w : Wait) → InWords (wait_tokens w)
a_wait wait.Block = nothing
a_wait (wait.Within n) = a_time n
a_wait wait.Now = word k.Now

a_marked : (w : Keyword) (o : Option Expression) → InWords (marked w o)
a_marked w o = maybe (λ e. w ▹ expression e) (λ e. after w (an_expression e)) o

a_flag : (w : Keyword) (b : Bool) → InWords (flag w b)
a_flag w false = nothing
a_flag w true = word w

a_count : (o : Option ℕ) → InWords (count_tokens o)
a_count o = maybe (λ n. k.Count ▹ number 0 MOST_ELEMENTS n) (λ n. after k.Count (a_number 0 MOST_ELEMENTS n)) o

a_takes : (o : Option ℕ) → InWords (takes_tokens o)
a_takes o = maybe (λ n. k.Takes ▹ ms n) (λ n. after k.Takes (a_number 0 MOST_MS n)) o

a_size : (o : Option ℕ) → InWords (size_tokens o)
a_size None = word k.Nothing
a_size (Some n) = a_number 1 MOST_QUEUE_PLACES n

arguments : (es : List Expression) → InWords (each expression es)
arguments es = all expression an_expression es

a_command : (c : Command) → InWords (command_tokens c)
a_command (command.Print a) = after k.Print (an_expression a)
a_command (command.Let a b) = after k.Let (plus (a_name a) (an_expression b))
a_command (command.Return a) = after k.Return (an_expression a)
a_command (command.Raise a) = after k.Raise (an_expression a)
a_command (command.Start a) = after k.Start (an_expression a)
a_command (command.Sleep a) = after k.Sleep (a_number 0 MOST_MS a)
a_command (command.Join a b) = after k.Join (plus (an_expression a) (a_timed b))
a_command (command.Kill a b c) = after k.Kill (plus (plus (an_expression a) (a_marked k.With b)) (a_wait c))
a_command (command.KillAll a b c) = after k.KillAll (plus (plus (an_expression a) (a_marked k.With b)) (a_wait c))
a_command (command.Unlink a) = after k.Unlink (an_expression a)
a_command (command.Set a) = after k.Set (a_name a)
a_command (command.Clear a) = after k.Clear (a_name a)
a_command (command.ResultSet a b) = after k.ResultSet (plus (a_name a) (an_expression b))
a_command (command.ResultFail a b) = after k.ResultFail (plus (a_name a) (an_expression b))
a_command (command.Release a) = after k.Release (a_name a)
a_command (command.QueuePut a b c) = after k.QueuePut (plus (plus (a_name a) (an_expression b)) (a_wait c))
a_command (command.QueueDone a) = after k.QueueDone (a_name a)
a_command (command.GroupJoin a b) = after k.GroupJoin (plus (a_name a) (a_timed b))
a_command (command.GroupKill a b c) = after k.GroupKill (plus (plus (a_name a) (a_marked k.With b)) (a_flag k.Now c))
a_command (command.SetParent a b) = after k.SetParent (plus (an_expression a) (an_expression b))
a_command (command.ChannelPut a b) = after k.ChannelPut (plus (a_name a) (an_expression b))
a_command (command.QueueShut a b) = after k.QueueShut (plus (a_name a) (a_flag k.Immediate b))

a_giving : (g : Giving) → InWords (giving_tokens g)
a_giving (giving.Spawn a b) = after k.Spawn (plus (a_name a) (arguments b))
a_giving (giving.SpawnLater a b c) = after k.SpawnLater (plus (plus (a_number 0 MOST_MS a) (a_name b)) (arguments c))
a_giving (giving.New a b) = after k.New (plus (a_name a) (arguments b))
a_giving (giving.Get a b) = after k.Get (plus (an_expression a) (a_wait b))
a_giving (giving.JoinAll a b c) = after k.JoinAll (plus (plus (an_expression a) (a_count b)) (a_timed c))
a_giving (giving.WaitEvent a b) = after k.Wait (plus (a_name a) (a_timed b))
a_giving (giving.ResultGet a b) = after k.ResultGet (plus (a_name a) (a_wait b))
a_giving (giving.ResultWait a b) = after k.ResultWait (plus (a_name a) (a_timed b))
a_giving (giving.Acquire a b) = after k.Acquire (plus (a_name a) (a_wait b))
a_giving (giving.QueueGet a b) = after k.QueueGet (plus (a_name a) (a_wait b))
a_giving (giving.QueuePeek a b) = after k.QueuePeek (plus (a_name a) (a_wait b))
a_giving (giving.QueueJoin a b) = after k.QueueJoin (plus (a_name a) (a_timed b))
a_giving (giving.GroupSpawn a b c) = after k.GroupSpawn (plus (plus (a_name a) (a_name b)) (arguments c))
a_giving (giving.Map a b c) = after k.Map (plus (plus (a_name a) (a_name b)) (an_expression c))
a_giving (giving.NativeSpawn a b c d) = after k.NativeSpawn (plus (plus (plus (a_name a) (word (job_keyword b))) (an_expression c)) (a_takes d))
a_giving (giving.Raw a b) = after k.Raw (plus (a_name a) (a_marked k.Under b))
a_giving (giving.Switch a b) = after k.Switch (plus (an_expression a) (an_expression b))
a_giving (giving.Throw a b) = after k.Throw (plus (an_expression a) (a_marked k.With b))
a_giving (giving.ChannelGet a) = after k.ChannelGet (a_name a)
a_giving (giving.Link kind a b) = after (link_keyword kind) (plus (an_expression a) (a_name b))
a_giving (giving.LinkMark a b) = after k.RawLink (plus (plus (an_expression a) (word k.Mark)) (a_number 0 MOST_MARK b))
a_giving (giving.LinkSet a b) = after k.RawLink (plus (plus (an_expression a) (word k.Set)) (a_name b))

an_object : (o : Object) (n : Name) → InWords (object_tokens o n)
an_object object.Event n = after k.Event (a_name n)
an_object object.Result n = after k.Result (a_name n)
an_object (object.Semaphore x) n = after k.Sem (plus (a_name n) (a_number 0 MOST_UNITS x))
an_object (object.BoundedSemaphore x) n = after k.BoundedSem (plus (a_name n) (a_number 0 MOST_UNITS x))
an_object object.Lock n = after k.Lock (a_name n)
an_object (object.Queue kind size) n = after k.Queue (plus (plus (a_name n) (word (queue_keyword kind))) (a_size size))
an_object object.Group n = after k.Group (a_name n)
an_object (object.Pool x) n = after k.Pool (plus (a_name n) (a_number 1 MOST_POOL_PLACES x))
an_object (object.Native x) n = after k.Native (plus (a_name n) (a_number 1 MOST_SLOTS x))
an_object object.Channel n = after k.Channel (a_name n)

a_head : (is_raw : Bool) (n : Name) (ps : List Name) → InWords (head_tokens is_raw n ps)
a_head false n ps = after k.Function (plus (a_name n) (all name a_name ps))
a_head true n [] = no_text
a_head true n (p ∷ []) = after k.RawFunction (plus (a_name n) (a_name p))
a_head true n (p ∷ q ∷ ps) = no_text

a_timeout : (t : Option ℕ) (silent : Bool) → InWords (timeout_tokens t silent)
a_timeout None silent = after k.Timeout (plus (word k.Nothing) (a_flag k.Silent silent))
a_timeout (Some n) silent = after k.Timeout (plus (a_number 0 MOST_MS n) (a_flag k.Silent silent))

a_target : (n : Name) → InWords (target_tokens n)
a_target n = plus (a_name n) (word k.Arrow)

a_phrase : (p : Phrase) → InWords (phrase_tokens p)
unfolding phrase_tokens
a_phrase (phrase.Profile n) = after k.Profile (a_number 2 3 n)
a_phrase (phrase.Declaration n o) = an_object o n
a_phrase (phrase.Function is_raw n ps) = a_head is_raw n ps
a_phrase (phrase.Command c) = a_command c
a_phrase (phrase.Giving target g) = plus (maybe target_tokens a_target target) (a_giving g)
a_phrase (phrase.If e) = after k.If (an_expression e)
a_phrase phrase.Else = word k.Else
a_phrase (phrase.While e) = after k.While (an_expression e)
a_phrase phrase.Try = word k.Try
a_phrase (phrase.Except c n) = after k.Except (plus (word (class_keyword c)) (maybe name a_name n))
a_phrase phrase.Finally = word k.Finally
a_phrase (phrase.Timeout t silent) = a_timeout t silent
a_phrase phrase.End = word k.End

-- the tokens of a phrase are words
pub phrase_in_words : (p : Phrase) (ts : List Token) → phrase_tokens p ≡ Some ts → list_all is_word ts ≡ true
phrase_in_words p ts e = by_tokens (phrase_tokens p) (a_phrase p).words e
  where
    by_tokens : (w : Written Token) → AreWords w → w ≡ Some ts → list_all is_word ts ≡ true
    by_tokens None h e = cc
    by_tokens (Some us) h e = let same : us ≡ ts = cc in ap (list_all is_word) (sym same) ∙ h
