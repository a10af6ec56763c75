-- Which lists of words are commands, and what they ask for.
use Rattle.std.specs.Prelude.{◌==◌, ◌&&◌, ℕ, Bool, false, not, nat_le, if◌then◌else◌, List, [], ◌∷◌, ◌++◌, find, is_some, Option, Some, None, option_map, option_and_then, codes}
use Rattle.std.specs.List.{list_any, before_first, after_first}
use Rattle.std.specs.Str.{bytes_eq}
use Rattle.std.specs.Str.Parse.{digits_value}
use Rattle.gv_values.specs.Digits.{is_plain_number}
use Rattle.command_words.specs.declared.command.NamedCommand.{NamedCommand}
use Rattle.command_words.specs.declared.command.NamedCommand.TheVariants.{Text, Wsgi, Serve, Storm, Verify}
use Rattle.command_words.specs.declared.command.GatewayKind.{GatewayKind}
use Rattle.command_words.specs.declared.command.GatewayKind.TheVariants.{Http, Scgi}
use Rattle.command_words.specs.declared.command.ServeAnswers.{ServeAnswers}
use Rattle.command_words.specs.declared.command.PassOptions.{PassOptions}
use Rattle.command_words.specs.declared.command.ServeAnswers.TheVariants.{Application, Jobs, Passing}
use Rattle.command_words.specs.declared.command.RunWorld.{RunWorld}
use Rattle.command_words.specs.declared.command.RunWorld.TheVariants.{Script, Native, Held}
use Rattle.command_words.specs.declared.command.ResultOrder.{ResultOrder}
use Rattle.command_words.specs.declared.command.ResultOrder.TheVariants as results
use Rattle.command_words.specs.declared.command.TextCommand.TheVariants.{Run, Format}
use Rattle.command_words.specs.declared.command.TraceCheck.{TraceCheck}
use Rattle.command_words.specs.declared.table.TheConstants.{MOST_PORT, MOST_STORM, MOST_TICK, USUAL_IDLE, USUAL_MOVES, USUAL_OPEN_CONNECTIONS, USUAL_PATIENCE, USUAL_TURNS}
use Rattle.gv_values.specs.declared.limits.TheConstants.{MOST_CONNECTIONS, MOST_IDLE, MOST_MOVES, MOST_OPEN_CONNECTIONS, MOST_TURNS, MOST_WORKERS}

abbrev pub Word : Type 0
Word = List ℕ

-- an option whose value is a number: its name, the least and the most number that it takes, and the one that stands
-- where it is left out; none where it has to be given
pub record OptionRow : Type 0 where
  pub name : Word
  pub least : ℕ
  pub most : ℕ
  pub usual : Option ℕ

abbrev pub turns : OptionRow
turns = record { name = codes "turns"; least = 1; most = MOST_TURNS; usual = Some USUAL_TURNS }

abbrev pub moves : OptionRow
moves = record { name = codes "moves"; least = 1; most = MOST_MOVES; usual = Some USUAL_MOVES }

abbrev pub tick : OptionRow
tick = record { name = codes "tick"; least = 0; most = MOST_TICK; usual = Some 0 }

abbrev pub native : OptionRow
native = record { name = codes "native"; least = 1; most = MOST_WORKERS; usual = None }

-- the option whose value is an order, by its name; `free` stands where it is left out
abbrev pub order : Word
order = codes "order"

abbrev pub port : OptionRow
port = record { name = codes "port"; least = 0; most = MOST_PORT; usual = None }

abbrev pub conns : OptionRow
conns = record { name = codes "conns"; least = 1; most = MOST_CONNECTIONS; usual = None }

abbrev pub pool : OptionRow
pool = record { name = codes "pool"; least = 1; most = MOST_OPEN_CONNECTIONS; usual = Some USUAL_OPEN_CONNECTIONS }

abbrev pub idle : OptionRow
idle = record { name = codes "idle"; least = 1; most = MOST_IDLE; usual = Some USUAL_IDLE }

abbrev pub jobs : OptionRow
jobs = record { name = codes "jobs"; least = 1; most = MOST_WORKERS; usual = None }

abbrev pub pass : OptionRow
pass = record { name = codes "pass"; least = 1; most = MOST_PORT; usual = None }

abbrev pub patience : OptionRow
patience = record { name = codes "patience"; least = 1; most = MOST_IDLE; usual = Some USUAL_PATIENCE }

-- the option whose value is a gateway, by its name; `http` stands where it is left out
abbrev pub gateway : Word
gateway = codes "gateway"

abbrev pub size : OptionRow
size = record { name = codes "size"; least = 1; most = MOST_STORM; usual = None }

-- the option whose value is a check, by its name; `run` stands where it is left out
abbrev pub check : Word
check = codes "check"

-- a command: its name, and the names of its options
pub record CommandRow : Type 0 where
  pub name : Word
  pub options : List Word

abbrev pub run : CommandRow
run = record { name = codes "run"; options = turns.name ∷ moves.name ∷ tick.name ∷ native.name ∷ order ∷ [] }

abbrev pub format : CommandRow
format = record { name = codes "fmt"; options = [] }

abbrev pub wsgi : CommandRow
wsgi = record { name = codes "wsgi"; options = gateway ∷ [] }

abbrev pub serve : CommandRow
serve = record { name = codes "serve"; options = port.name ∷ conns.name ∷ pool.name ∷ idle.name ∷ gateway ∷ jobs.name ∷ pass.name ∷ patience.name ∷ [] }

abbrev pub storm : CommandRow
storm = record { name = codes "storm"; options = size.name ∷ [] }

abbrev pub verify : CommandRow
verify = record { name = codes "verify"; options = check ∷ turns.name ∷ moves.name ∷ [] }

abbrev pub commands : List CommandRow
commands = run ∷ format ∷ wsgi ∷ serve ∷ storm ∷ verify ∷ []

-- the options that were given, each as its name and its value
abbrev pub Said : Type 0
Said = List (Word × Word)

-- the byte `=`
abbrev pub is_equals : ℕ → Bool
is_equals b = b == 61

-- the byte `-`
abbrev pub is_dash : ℕ → Bool
is_dash b = b == 45

abbrev pub begins_with_dash : Word → Bool
begins_with_dash [] = false
begins_with_dash (b ∷ bs) = is_dash b

-- the name, and the value that stands behind a first `=` in the same word
abbrev pub name_and_value : Word → Word × Option Word
name_and_value text = (before_first is_equals text, if list_any is_equals text then Some (after_first is_equals text) else None)

-- `--name` or `--name=value`
abbrev pub option_word : Word → Option (Word × Option Word)
option_word (a ∷ b ∷ c ∷ rest) = if is_dash a && is_dash b then Some (name_and_value (c ∷ rest)) else None
option_word _ = None

abbrev pub is_among : List Word → Word → Bool
is_among names name = list_any (λ n. bytes_eq n name) names

abbrev pub was_said : Word → Said → Bool
was_said name said = list_any (λ (p : Word × Word). bytes_eq p.0 name) said

-- the option of this name is given this value: it is one of these, and was not given before
abbrev pub says : List Word → Word → Word → Said → Option Said
says names name value said = if is_among names name && not (was_said name said) then Some (said ++ (name, value) ∷ []) else None

-- what the words say after what was said before, where `waiting` is the option whose value comes next
abbrev pub options : (names : List Word) → List Word → (waiting : Option Word) → Said → Option Said
options names [] None said = Some said
options names [] (Some name) said = None
options names (word ∷ words) None said = elim (option_word word) [
  | None ↦ None
  | Some p ↦ elim p.1 [
    | Some value ↦ option_and_then (options names words None) (says names p.0 value said)
    | None ↦ if is_among names p.0 then options names words (Some p.0) said else None
  ]
]
options names (word ∷ words) (Some name) said =
    if begins_with_dash word then None else option_and_then (options names words None) (says names name word said)

-- the number from `least` to `most` that the word spells, in decimal digits without a leading zero
abbrev pub number_in : ℕ → ℕ → Word → Option ℕ
number_in least most word =
    if is_plain_number word && nat_le least (digits_value 10 word) && nat_le (digits_value 10 word) most
    then Some (digits_value 10 word) else None

-- the value of each option that was given, by its name
abbrev pub LookUp : Type 0
LookUp = Word → Option Word

abbrev pub value_in : Said → LookUp
value_in said name = option_map (λ (p : Word × Word). p.1) (find (λ (p : Word × Word). bytes_eq p.0 name) said)

-- the number of an option: the one that it was given, or else its usual one; none where there is no such number
abbrev pub number_by : OptionRow → LookUp → Option ℕ
number_by option look = elim (look option.name) [
  | Some word ↦ number_in option.least option.most word
  | None ↦ option.usual
]

-- the gateway of this name
abbrev pub gateway_named : Word → Option GatewayKind
gateway_named word = if bytes_eq word (codes "http") then Some Http else if bytes_eq word (codes "scgi") then Some Scgi else None

-- the gateway that is asked for: the one that is named, or else `http`; none where there is no such gateway
abbrev pub gateway_by : LookUp → Option GatewayKind
gateway_by look = elim (look gateway) [ Some word ↦ gateway_named word | None ↦ Some Http ]

-- the order of this name
abbrev pub order_named : Word → Option ResultOrder
order_named word = if bytes_eq word (codes "free") then Some results.Free else if bytes_eq word (codes "held") then Some results.Held else None

-- the order that is asked for: the one that is named, or else `free`; none where there is no such order
abbrev pub order_by : LookUp → Option ResultOrder
order_by look = elim (look order) [ Some word ↦ order_named word | None ↦ Some results.Free ]

-- what comes of the value, where there is one
abbrev pub given : {A B : Type 0} → Option A → (A → Option B) → Option B
given value go = option_and_then go value

-- native workers, so many, whose results are told in this order
abbrev pub workers_in : ResultOrder → ℕ → RunWorld
workers_in results.Free n = Native n
workers_in results.Held n = Held n

-- the native workers of a run, which no tick goes with
abbrev pub workers_by : LookUp → Option RunWorld
workers_by look = if is_some (look tick.name) then None else given (order_by look) (λ o. option_map (workers_in o) (number_by native look))

-- the world of a run: native workers; or a script, which no order goes with
abbrev pub world_by : LookUp → Option RunWorld
world_by look =
    if is_some (look native.name) then workers_by look
    else (if is_some (look order) then None else option_map (λ n. Script n) (number_by tick look))

abbrev pub run_by : LookUp → Option NamedCommand
run_by look =
    given (number_by turns look) (λ turns.
    given (number_by moves look) (λ moves.
    given (world_by look) (λ world.
    Some (Text (Run (record { turns = turns; moves = moves; world = world }))))))

abbrev pub wsgi_by : LookUp → Option NamedCommand
wsgi_by look = option_map (λ g. Wsgi g) (gateway_by look)

-- native workers for the jobs of a server, so many, which SCGI does not go with
abbrev pub jobs_in : GatewayKind → ℕ → Option ServeAnswers
jobs_in Http n = Some (Jobs n)
jobs_in Scgi n = None

abbrev pub jobs_by : LookUp → Option ServeAnswers
jobs_by look = given (gateway_by look) (λ g. given (number_by jobs look) (jobs_in g))

-- an application server behind a server, which SCGI in front of it does not go with
abbrev pub pass_in : GatewayKind → PassOptions → Option ServeAnswers
pass_in Http options = Some (Passing options)
pass_in Scgi options = None

-- the application server that requests are passed to, which workers for jobs do not go with
abbrev pub pass_by : LookUp → Option ServeAnswers
pass_by look =
    if is_some (look jobs.name) then None else
    given (gateway_by look) (λ g.
    given (number_by pass look) (λ port.
    given (number_by patience look) (λ patience.
    pass_in g (record { port = port; patience = patience }))))

-- where none is named: native workers for jobs where they are asked for, or else its application; no patience goes with
-- either
abbrev pub passed_by : LookUp → Option ServeAnswers
passed_by look =
    if is_some (look patience.name) then None
    else if is_some (look jobs.name) then jobs_by look else option_map (λ g. Application g) (gateway_by look)

-- what a server answers with
abbrev pub server_answers_by : LookUp → Option ServeAnswers
server_answers_by look = if is_some (look pass.name) then pass_by look else passed_by look

abbrev pub serve_by : LookUp → Option NamedCommand
serve_by look =
    given (number_by port look) (λ port.
    given (number_by conns look) (λ conns.
    given (number_by pool look) (λ pool.
    given (number_by idle look) (λ idle.
    given (server_answers_by look) (λ answers.
    Some (Serve (record { port = port; conns = conns; pool = pool; idle = idle; answers = answers })))))))

abbrev pub storm_by : LookUp → Option NamedCommand
storm_by look = option_map (λ n. Storm n) (number_by size look)

-- the check of a run within the turns and moves that are asked for
abbrev pub run_check : LookUp → Option TraceCheck
run_check look =
    given (number_by turns look) (λ turns.
    given (number_by moves look) (λ moves.
    Some (TraceCheck.Run turns moves)))

-- the check of the laws, which takes neither turns nor moves
abbrev pub laws_check : LookUp → Option TraceCheck
laws_check look = if is_some (look turns.name) then None else if is_some (look moves.name) then None else Some TraceCheck.Laws

-- the check of this name
abbrev pub check_named : Word → LookUp → Option TraceCheck
check_named word look = if bytes_eq word (codes "run") then run_check look else if bytes_eq word (codes "laws") then laws_check look else None

-- the check that is asked for: the one that is named, or else that of a run; none where there is no such check
abbrev pub check_by : LookUp → Option TraceCheck
check_by look = elim (look check) [ Some word ↦ check_named word look | None ↦ run_check look ]

abbrev pub verify_by : LookUp → Option NamedCommand
verify_by look = option_map (λ c. Verify c) (check_by look)

-- the command of this name, by the values of its options
abbrev pub command_by : Word → LookUp → Option NamedCommand
command_by name look =
    if bytes_eq name run.name then run_by look
    else if bytes_eq name format.name then Some (Text Format)
    else if bytes_eq name wsgi.name then wsgi_by look
    else if bytes_eq name serve.name then serve_by look
    else if bytes_eq name storm.name then storm_by look
    else if bytes_eq name verify.name then verify_by look
    else None

abbrev pub row_of : Word → Option CommandRow
row_of name = find (λ (row : CommandRow). bytes_eq name row.name) commands

-- the command that the words name, if they name one: its name comes first, and then its options
abbrev pub command_of : List Word → Option NamedCommand
command_of [] = None
command_of (name ∷ words) =
    given (row_of name) (λ row.
    given (options row.options words None []) (λ said.
    command_by row.name (value_in said)))
