-- What a text sees to in each body under way: raw bodies ask nothing of the hub, `raw` is given raw bodies, and no more
-- than eight timeout blocks are open. This project's own.
use Rattle.std.specs.Prelude.{◌≡◌, ℕ, ◌-◌, ◌==◌, Bool, true, false, not, ◌&&◌, List, [], ◌∷◌, length, Option, Some, if◌then◌else◌, nat_lt, slice_get, unwrap_or, codes, None}
use Rattle.std.specs.List.{list_all, list_any}
use Rattle.scenario_tree.specs.declared.tree.Function.{Function}
use Rattle.scenario_tree.specs.declared.tree.Scenario.{Scenario}
use Rattle.scenario_tree.specs.declared.tree.Statement.{Statement}
use Rattle.scenario_rules.specs.declared.mention.Mention.{Mention}
use Rattle.scenario_rules.specs.declared.mention.Says.{Says}
use Rattle.scenario_rules.specs.declared.mention.Says.TheVariants as says
use Rattle.scenario_rules.specs.declared.mention.Wanted.{Wanted}
use Rattle.scenario_rules.specs.declared.mention.Wanted.TheVariants as wanted
use Rattle.scenario_rules.specs.Declarations.{is_kind}
use Rattle.scenario_tree.specs.declared.tree.Object.{Object as Declared}
use Rattle.machine_well_formed.specs.Kinds.{declared_kinds, kinds}
use Rattle.scenario_rules.specs.Mention.{block_mentions}
use Rattle.scenario_rules.specs.declared.limits.TheConstants.{MOST_TIMEOUTS}
use Rattle.scenario_rules.specs.Layers.{handler_mentions}
use Rattle.machine.specs.declared.items.Delivery.{Delivery}
use Rattle.machine.specs.declared.items.Item.{Item}
use Rattle.gv_values.specs.declared.link.LinkKind.{LinkKind}
use Rattle.machine.specs.declared.items.Waiting.{Waiting}
use Rattle.machine.specs.declared.state.Greenlet.{Greenlet}
use Rattle.machine.specs.declared.state.Object.{Object}
use Rattle.machine.specs.declared.state.Phase.{Phase}
use Rattle.machine.specs.declared.state.Todo.{Todo}
use Rattle.machine.specs.Expressions.{function_number, object_number}
use Rattle.machine.specs.declared.request.Request.{Request}
use Rattle.machine.specs.Soundness.{phase_of}
use Rattle.machine.specs.Greenlets.{no_function}

-- the function of this number is the body of a raw greenlet
abbrev pub is_raw_function : Scenario → ℕ → Bool
is_raw_function c f = (unwrap_or (slice_get c.functions f) no_function).is_raw

-- the scenario has a function of this number
abbrev pub is_function : Scenario → ℕ → Bool
is_function c f = nat_lt f (length c.functions)

-- the object of this number is declared, as one that the test lets through
abbrev pub is_declared : (Declared → Bool) → Scenario → ℕ → Bool
is_declared test c o = elim (slice_get c.objects o) [ Some d ↦ test d.object | None ↦ false ]

-- it is declared as what is wanted
abbrev pub is_wanted : Scenario → Wanted → ℕ → Bool
is_wanted c kind o = is_declared (is_kind kind) c o

abbrev pub is_lock : Declared → Bool
is_lock Declared.Lock = true
is_lock declared = false

-- a body may say this; one may ask the hub and the other not
abbrev pub may_say : Scenario → Bool → Says → Bool
may_say c hub says.AsksHub = hub
may_say c hub says.NestsTooDeep = false
may_say c hub (says.Runs x) = is_raw_function c (function_number x c.functions)
may_say c hub (says.Calls n x) = is_function c (function_number x c.functions)
may_say c hub (says.Object kind x) = is_wanted c kind (object_number x c.objects)
may_say c hub s = true

abbrev pub fits : Scenario → Bool → List Mention → Bool
fits c hub ms = list_all (λ (m : Mention). may_say c hub m.says) ms

-- a block, where so many timeout blocks more may be opened
abbrev pub fits_block : Scenario → Bool → ℕ → List Statement → Bool
fits_block c hub left ss = fits c hub (block_mentions left ss)

-- ---- what is still to do

-- the numbers of the timeout blocks that are open, innermost first
abbrev pub withins : List Todo → List ℕ
withins [] = []
withins (Todo.Within n silent ∷ todo) = n ∷ withins todo
withins (t ∷ todo) = withins todo

abbrev pub fits_todo : Scenario → Bool → ℕ → Todo → Bool
fits_todo c hub left (Todo.Statements ss) = fits_block c hub left ss
fits_todo c hub left (Todo.Again e body) = fits_block c hub left body
fits_todo c hub left (Todo.Guard excepts finally) = fits c hub (handler_mentions left excepts) && fits_block c hub left finally
fits_todo c hub left (Todo.Afterwards how) = true
fits_todo c hub left (Todo.Within n silent) = nat_lt 0 left

-- how many timeout blocks more may be opened inside these
abbrev pub left_in : List Todo → ℕ
left_in todo = MOST_TIMEOUTS - length (withins todo)

abbrev pub fits_rest : Scenario → Bool → List Todo → Bool
fits_rest c hub [] = true
fits_rest c hub (t ∷ todo) = fits_todo c hub (left_in todo) t && fits_rest c hub todo

-- ---- requests and greenlets

-- what the call of a link needs
abbrev pub fits_link : Scenario → LinkKind → ℕ → Bool
fits_link c (LinkKind.Mark n) f = true
fits_link c (LinkKind.Set o) f = is_wanted c wanted.Event o
fits_link c kind f = is_function c f

-- a raw greenlet is made of a raw body; functions are there, and objects are what the request wants
abbrev pub fits_request : Scenario → Request → Bool
fits_request c (Request.Raw f v) = is_raw_function c f
fits_request c (Request.Spawn f args) = is_function c f
fits_request c (Request.New f args) = is_function c f
fits_request c (Request.SpawnLater ms f args) = is_function c f
fits_request c (Request.Link v kind f) = fits_link c kind f
fits_request c (Request.Set o) = is_wanted c wanted.Event o
fits_request c (Request.Clear o) = is_wanted c wanted.Event o
fits_request c (Request.Release o) = is_wanted c wanted.SemaphoreOrLock o
fits_request c (Request.QueueDone o) = is_wanted c wanted.JoinQueue o
fits_request c (Request.WaitEvent o how) = is_wanted c wanted.Event o
fits_request c (Request.ResultGet o how) = is_wanted c wanted.Result o
fits_request c (Request.ResultWait o how) = is_wanted c wanted.Result o
fits_request c (Request.Acquire o how) = is_wanted c wanted.SemaphoreOrLock o
fits_request c (Request.QueueGet o how) = is_wanted c wanted.Queue o
fits_request c (Request.QueuePeek o how) = is_wanted c wanted.Queue o
fits_request c (Request.QueueJoin o how) = is_wanted c wanted.JoinQueue o
fits_request c (Request.GroupJoin o how) = is_wanted c wanted.GroupOrPool o
fits_request c (Request.ResultSet o v) = is_wanted c wanted.Result o
fits_request c (Request.ResultFail o v) = is_wanted c wanted.Result o
fits_request c (Request.QueuePut o v how) = is_wanted c wanted.Queue o
fits_request c (Request.GroupSpawn o f args) = is_wanted c wanted.GroupOrPool o && is_function c f
fits_request c (Request.GroupKill o f how) = is_wanted c wanted.GroupOrPool o
fits_request c (Request.Map o f v) = is_wanted c wanted.GroupOrPool o && is_function c f
fits_request c (Request.NativeSpawn o kind v ms) = is_wanted c wanted.NativePool o
fits_request c (Request.ChannelPut o v) = is_wanted c wanted.Channel o
fits_request c (Request.ChannelGet o) = is_wanted c wanted.Channel o
fits_request c (Request.QueueShut o immediate) = is_wanted c wanted.Queue o
fits_request c request = true

-- the same of a wait
abbrev pub fits_wait : Scenario → Waiting → Bool
fits_wait c (Waiting.Event o sets) = is_wanted c wanted.Event o
fits_wait c (Waiting.ResultGet o) = is_wanted c wanted.Result o
fits_wait c (Waiting.ResultWait o) = is_wanted c wanted.Result o
fits_wait c (Waiting.Acquire o) = is_wanted c wanted.Semaphore o
fits_wait c (Waiting.Lock o) = is_declared is_lock c o
fits_wait c (Waiting.Put o v) = is_wanted c wanted.Queue o
fits_wait c (Waiting.Take o) = is_wanted c wanted.Queue o
fits_wait c (Waiting.Peek o) = is_wanted c wanted.Queue o
fits_wait c (Waiting.Tasks o) = is_wanted c wanted.JoinQueue o
fits_wait c (Waiting.Place o f vs) = is_wanted c wanted.GroupOrPool o && is_function c f
fits_wait c (Waiting.MapPlace o f xs made) = is_wanted c wanted.GroupOrPool o && is_function c f
fits_wait c (Waiting.MapEnd o made) = is_wanted c wanted.GroupOrPool o
fits_wait c (Waiting.Members o) = is_wanted c wanted.GroupOrPool o
fits_wait c (Waiting.Slot o job takes) = is_wanted c wanted.NativePool o
fits_wait c (Waiting.Offered o) = is_wanted c wanted.Channel o
fits_wait c (Waiting.TakeOffer o) = is_wanted c wanted.Channel o
fits_wait c w = true

-- the same of an item
abbrev pub fits_item : Scenario → Delivery → Bool
fits_item c (Delivery.Wake g w) = fits_wait c w
fits_item c (Delivery.Link k g kind f) = fits_link c kind f
fits_item c d = true

abbrev pub fits_phase : Scenario → Bool → Phase → Bool
fits_phase c hub (Phase.Live frame) = fits_rest c hub frame.todo
fits_phase c hub phase = true

abbrev pub is_fit_greenlet : Scenario → Greenlet → Bool
is_fit_greenlet c x = (if x.raw then is_raw_function c x.function else true) && fits_phase c (not x.raw) x.phase

-- the body of the function; only one that is not raw may ask the hub
abbrev pub is_fit_function : Scenario → Function → Bool
is_fit_function c f = fits_block c (not f.is_raw) MOST_TIMEOUTS f.body

-- each body of the scenario fits
abbrev pub IsFitText : Scenario → Type 0
IsFitText c = list_all (is_fit_function c) c.functions ≡ true

-- ---- timeouts

-- the numbers of the timeout blocks in which the greenlet is
abbrev pub withins_at : Option Phase → List ℕ
withins_at (Some (Phase.Live frame)) = withins frame.todo
withins_at phase = []

abbrev pub is_among : ℕ → List ℕ → Bool
is_among n ns = list_any (λ m. m == n) ns

-- a timeout is that of a block in which its greenlet is, and links are counted from 1
abbrev pub is_held : List Greenlet → Delivery → Bool
is_held gs (Delivery.Timeout g n deadline) = is_among n (withins_at (phase_of g gs))
is_held gs (Delivery.Link n g kind f) = nat_lt 0 n
is_held gs d = true

-- ---- functions and objects

-- the number of main is that of a function
abbrev pub HasMain : Scenario → Type 0
HasMain c = is_function c (function_number (codes "main") c.functions) ≡ true

-- each greenlet runs a function of the scenario, items name functions of it and objects that are what they want, and
-- each object is of its declared kind
pub record IsKnown (c : Scenario) (gs : List Greenlet) (items : List Item) (objects : List Object) : Type 0 where
  pub functions : list_all (λ (x : Greenlet). is_function c x.function) gs ≡ true
  pub named : list_all (λ (i : Item). fits_item c i.delivery) items ≡ true
  pub declared : kinds objects ≡ declared_kinds c
