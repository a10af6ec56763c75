-- How a name is stored: its bytes, and zeros after them.
use Rattle.std.specs.Prelude.{◌≡◌, ℕ, ◌-◌, ◌≤◌, List, ◌++◌, length, take, drop, replicate, IsTrue}
use Rattle.std.proofs.Common.{ap, sym, ◌∙◌, length-take-le, take-append-drop}
use Rattle.gv_values.specs.declared.limits.TheConstants.{MOST_NAME_BYTES}
use Rattle.gv_values.specs.declared.name.Name.TheInside.{Inside}
use Rattle.gv_values.specs.Name.{is_name}

abbrev pub name_view : Inside → List ℕ
name_view a = take a.count a.bytes

pub record IsStored (a : Inside) : Type 0 where
  pub count : a.count ≤ MOST_NAME_BYTES
  pub whole : length a.bytes ≡ MOST_NAME_BYTES
  pub rest : drop a.count a.bytes ≡ replicate (MOST_NAME_BYTES - a.count) 0
  pub name : IsTrue (is_name (take a.count a.bytes))

abbrev pub name_parts : List ℕ → Inside
name_parts d = record { bytes = d ++ replicate (MOST_NAME_BYTES - length d) 0; count = length d }

pub name_parts_ok : (a : Inside) → IsStored a → name_parts (name_view a) ≡ a
name_parts_ok a h =
    let counted : length (take a.count a.bytes) ≡ a.count = length-take-le a.count a.bytes (rw h.whole h.count) in
    let filled : take a.count a.bytes ++ replicate (MOST_NAME_BYTES - length (take a.count a.bytes)) 0 ≡ a.bytes =
    ap (λ n. take a.count a.bytes ++ replicate (MOST_NAME_BYTES - n) 0) counted
    ∙ ap (λ z. take a.count a.bytes ++ z) (sym h.rest) ∙ take-append-drop a.count a.bytes in
    λ i. record { bytes = filled i; count = counted i }
