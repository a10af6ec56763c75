-- Lines that open a block.
use Rattle.std.proofs.Common.{◌≡◌, ℕ, Bool, true, false, List, [], ◌∷◌, Option, Some, None, Result, Ok, Err, subst, if◌then◌else◌}
use Rattle.gv_values.specs.declared.fault.Class.{Class}
use Rattle.gv_values.specs.declared.name.Name.{Name}
use Rattle.gv_values.specs.Fronts.{BeginsWith}
use Rattle.scenario_grammar.specs.declared.keyword.Keyword.{Keyword}
use Rattle.scenario_grammar.specs.declared.keyword.Keyword.TheVariants as k
use Rattle.scenario_grammar.specs.declared.token.Token.{Token}
use Rattle.scenario_grammar.specs.Phrase.{class_keyword, flag, head_tokens, timeout_tokens}
use Rattle.scenario_grammar.specs.Token.{Written, ◌⊕◌, ◌▹◌, each, fixed, name, perhaps}
use Rattle.scenario_print.specs.Written.{after_tokens, Started, Wrote, WroteLine}
use Rattle.scenario_grammar.proofs.Begun.{plus_none}
use Rattle.scenario_print.proofs.Words.{further, line, started}

pub except_line : {T E : Type 0} {o m l n : List ℕ} {x y : T} {r : Result T E} (class : Class) {w : Keyword} → w ≡ class_keyword class → (target : Option Name)
    → (let done : Result T E = Ok x in Started o m done k.Except (Some [])) → (let done : Result T E = Ok y in Wrote m l done (fixed w)) → Wrote l n r (perhaps name target) → WroteLine o n r (k.Except ▹ fixed (class_keyword class) ⊕ perhaps name target)
except_line {T} {E} {o = o} {n = n} {r = r} class word target f g h = subst (λ z. WroteLine o n r (k.Except ▹ fixed z ⊕ perhaps name target)) word (line (further (started f g) h))

pub timeout_line : {T E : Type 0} {o m n : List ℕ} {x : T} {r : Result T E} (after : Option ℕ) (silent : Bool)
    → (let done : Result T E = Ok x in Started o m done k.Timeout (after_tokens after)) → Wrote m n r (flag k.Silent silent) → WroteLine o n r (timeout_tokens after silent)
timeout_line None silent f g = line (further f g)
timeout_line (Some ms) silent f g = line (further f g)

line_of : {T E : Type 0} {o n : List ℕ} {r : Result T E} {w v : Keyword} {a : Written Token} → w ≡ v → Started o n r w a → WroteLine o n r (v ▹ a)
line_of {o = o} {n = n} {r = r} {a = a} word f = subst (λ z. WroteLine o n r (z ▹ a)) word (line f)

no_line : {T E : Type 0} {o n : List ℕ} {r : Result T E} → BeginsWith n o → WroteLine o n r None
no_line {r = Ok x} b = record { words = λ ts e. cc; front = b }
no_line {r = Err x} b = record { words = tt; front = b }

-- A function's head: a raw one with a count of parameters that is not one has no words.
pub head_line : {T E : Type 0} {o m n : List ℕ} {x : T} {r : Result T E} (is_raw : Bool) (f : Name) (parameters : List Name) {w : Keyword} → w ≡ (if is_raw then k.RawFunction else k.Function)
    → (let done : Result T E = Ok x in Started o m done w (name f)) → Wrote m n r (each name parameters) → WroteLine o n r (head_tokens is_raw f parameters)
head_line false f parameters word g h = line_of word (further g h)
head_line true f [] word g h = no_line (further g h).front
head_line {o = o} {n = n} {r = r} true f (p ∷ []) word g h = subst (λ z. WroteLine o n r (k.RawFunction ▹ name f ⊕ z)) (plus_none (name p)) (line_of word (further g h))
head_line true f (p ∷ q ∷ ps) word g h = no_line (further g h).front
