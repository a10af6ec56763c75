-- The numbers of objects and functions: in tables of their names, and beside the names of the code's own blocks.
use Rattle.std.specs.Prelude.{ℕ, ◌+◌, ◌≡◌, true, ⊤, All, List, [], ◌∷◌, map}
use Rattle.gv_values.specs.declared.name.Name.{Name}
use Rattle.gv_values.specs.Name.{is_name}
use Rattle.name_table.specs.Tables.{Holds}
use Rattle.name_table.specs.declared.names.Names.{Names}
use Rattle.scenario_tree.specs.declared.tree.Declaration.{Declaration}
use Rattle.scenario_tree.specs.declared.tree.Function.{Function}
use Rattle.scenario_tree.specs.declared.tree.Scenario.{Scenario}
use Rattle.machine.specs.Expressions.{function_number, object_number}
use Rattle.body_values.specs.declared.numbers.NameNumbers.{NameNumbers}
use Rattle.body_blocks.specs.Few.{HasFewCalls}
use Rattle.body_values.specs.Small.{IsSmall}

-- each name with its number, where this is the first's
abbrev pub numbered : ℕ → List Name → List (Name × ℕ)
numbered n [] = []
numbered n (x ∷ xs) = (x, n) ∷ numbered (n + 1) xs

-- the table has each name with the number of the first object that has it
abbrev pub NumbersObjects : Names ℕ → List Declaration → Type 0
NumbersObjects numbers objects = Holds numbers (numbered 0 (map (λ d. d.name) objects))

-- the table has each name with the number of the first function that has it
abbrev pub NumbersFunctions : Names ℕ → List Function → Type 0
NumbersFunctions numbers functions = Holds numbers (numbered 0 (map (λ f. f.name) functions))

-- each is a name
abbrev pub AreNames : List Name → Type 0
AreNames [] = ⊤
AreNames (x ∷ xs) = (is_name x ≡ true) × AreNames xs

-- the objects and the functions have names
abbrev pub HasNames : Scenario → Type 0
HasNames s = AreNames (map (λ d. d.name) s.objects) × AreNames (map (λ f. f.name) s.functions)

-- the entry has the numbers of this name
abbrev pub HasNumbersOf : Name → Scenario → NameNumbers → Type 0
HasNumbersOf x s e = (e.object ≡ object_number x s.objects) × (e.function ≡ function_number x s.functions)

-- each entry has its name's numbers
abbrev pub HaveNumbers : Scenario → List NameNumbers → Type 0
HaveNumbers s own = All (λ e. HasNumbersOf e.name s e) own

-- what some code keeps of its scenario, with the numbers of objects and functions
abbrev pub IsKept : Scenario → Names ℕ → Names ℕ → List NameNumbers → Type 0
IsKept s objects functions own = IsSmall s × HasFewCalls s × NumbersObjects objects s.objects × NumbersFunctions functions s.functions × HasNames s × HaveNumbers s own
