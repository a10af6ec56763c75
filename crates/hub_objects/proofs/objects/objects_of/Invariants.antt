use Rattle.std.proofs.Common.{◌≡◌, take}
use Rattle.std.specs.Prelude.{map}
use Rattle.machine.specs.Run.{object_of}
use Rattle.hub_objects.proofs.objects.objects_of.Given as goal

abbrev pub invariant-loop-declaration : goal.invariant-loop-declaration
invariant-loop-declaration l = l.objects.items ≡ map (λ d. object_of d.object) (take l.declaration-index l.declarations)
