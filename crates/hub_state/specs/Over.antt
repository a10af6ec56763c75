-- A state over other items.
use Rattle.std.specs.Prelude.{ℕ, List, []}
use Rattle.machine.specs.declared.items.Item.{Item}
use Rattle.machine.specs.State.{State}
use Rattle.held_items.specs.Entries.{SeenItems, flat}
use Rattle.hub_state.specs.declared.base.Base.{Base}

-- the state with these items and these next numbers in place of its own
abbrev pub over : List Item → ℕ → ℕ → State → State
over items next_ready next_since s = record s { items = items; next_ready = next_ready; next_since = next_since }

-- the state with the items that are held
abbrev pub with_held : SeenItems → State → State
with_held held s = over (flat held.entries) held.next held.next_since s

-- the state without an item
abbrev pub itemless : Base → State
itemless b = record {
  scenario = b.code;
  moment = b.moment.at;
  next_ready = 0;
  next_since = 0;
  turns = b.turns;
  moves = b.moves;
  timeouts = b.timeouts;
  links = b.links;
  objects = b.objects;
  greenlets = b.greenlets;
  jobs = b.jobs.items;
  items = [];
  lines = b.lines.items;
  posts = b.posts.items;
}

-- the state with the items that are held over it
abbrev pub whole : Base → SeenItems → State
whole b held = with_held held (itemless b)
