-- A step of the walks that make a struct without fields. Assumes `Logic`.
use Rattle.std.proofs.Common.{List, [], ◌∷◌, refl}
use seplogic.Ra.Ura.{Ura}
use mir.Val.{Val, vstruct, vnil}
use types.Logic.{Logic}
use types.Kit.{Goal, Step, step, Item, ‵, ◌$◌, fjoin, fpack, feq_i}
use denote.RattleType.{Valss}
use denote.Steps.{nothing}
use denote.Struct.Struct.{Struct, within}

-- the machine value of a struct without fields
abbrev pub no_fields : Val
no_fields = vstruct vnil

-- nothing is owed for it
pub made_of_nothing : {M : Type 1} {𝓤 : Ura M} {𝓛 : Logic 𝓤} {K : Type 0} {Γ : List (Item 𝓤)} {G : Goal 𝓤 𝓛.H} → K
    → Step K 𝓛 (‵ ((Struct (record { name = []; args = []; types = []; fields = [] })).own_val tt (no_fields ∷ [])) ∷ Γ) G Γ G
made_of_nothing t = step (λ s.
    nothing t $ feq_i t (List Val) (no_fields ∷ []) (no_fields ∷ []) refl $ fjoin t $
    fpack t (Valss []) (within (record { name = []; args = []; types = []; fields = [] }) tt (no_fields ∷ [])) tt $ s)
