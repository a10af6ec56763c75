-- The lines of a text, and a sink that counts them.
use Rattle.std.specs.Prelude.{◌==◌, ◌+◌, ◌-◌, ◌^◌, ℕ, Bool, List, length, filter, nat_lt}

-- the byte that ends a line
abbrev pub is_line_feed : ℕ → Bool
is_line_feed b = b == 10

-- how many lines the text has
abbrev pub lines_of : List ℕ → ℕ
lines_of text = length (filter is_line_feed text)

-- the text that was written to the sink, and how many of its calls failed
pub record CounterState : Type 0 where
  pub text : List ℕ
  pub faults : ℕ

-- with these bytes the sink would have more lines than it can count
abbrev pub is_past_count : CounterState → List ℕ → Bool
is_past_count s bytes = nat_lt (2 ^ 64 - 1) (lines_of s.text + lines_of bytes)
