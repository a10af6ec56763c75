-- The numbers of items that wait for a moment which hasn't come any more, where the moment is an earlier one.
use Rattle.std.specs.Prelude.{ℕ, Bool, false, ◌&&◌, List, map, None, nat_lt, if◌then◌else◌}
use Rattle.machine.specs.declared.items.Item.{Item}
use Rattle.gv_values.specs.declared.job.Answer.{Answer}
use Rattle.world_rules.specs.Legal.{moment_of}
use Rattle.machine.specs.Questions.{is_numbered, job_done}
use Rattle.machine.specs.State.{State}
use Rattle.machine_settling.specs.Classes.{Class, class_of}
use Rattle.held_items.specs.Entries.{Entry}

-- the class is that of a moment after this one
abbrev pub is_after : ℕ → Class → Bool
is_after moment (Class.AtMoment deadline) = nat_lt moment deadline
is_after moment c = false

-- the item has a number, and waits for a moment after this one
abbrev pub is_early : ℕ → Item → Bool
is_early moment i = is_numbered i && is_after moment (class_of i.delivery)

-- such an item has no number any more
abbrev pub forgotten : ℕ → Item → Item
forgotten moment i = if is_early moment i then record i { ready = None } else i

-- so it is of each
abbrev pub all_forgotten : ℕ → List Entry → List Entry
all_forgotten moment es = map (λ e. (e.0, forgotten moment e.1)) es

-- it is this moment, whether a later one than before or not
abbrev pub reached : ℕ → State → State
reached moment s = record s { moment = moment; items = map (forgotten moment) s.items }

-- the moment of the answer is reached, and its job has come
abbrev pub came : Answer → State → State
came answer s = job_done answer (reached (moment_of answer) s)
