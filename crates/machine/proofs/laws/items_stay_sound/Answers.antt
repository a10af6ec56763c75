use Rattle.machine.proofs.Soundness.{sound-settle, sound-drop_items, sound-add_item}
use Rattle.machine.proofs.laws.items_stay_sound.Goals as goal

pub returns-clause-settled : goal.returns-clause-settled
returns-clause-settled c = sound-settle

pub returns-clause-dropped : goal.returns-clause-dropped
returns-clause-dropped c = sound-drop_items

pub returns-clause-added : goal.returns-clause-added
returns-clause-added c = sound-add_item
