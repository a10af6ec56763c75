-- What any gateway sends, as a function of all that a connection gives.
use Rattle.std.specs.Prelude.{ℕ, Bool, ◌||◌, List}
use Rattle.wsgi_core.specs.Applications.{App}
use Rattle.wsgi_core.specs.Answer.{Sent}

-- of an application, a port and the bytes: what is sent, and whether the connection closes by that
abbrev pub Gateway : Type 0
Gateway = App → ℕ → List ℕ → Sent

-- the bytes sent to a connection that gave these bytes and ended or not, and whether it is closing
abbrev pub said_by : Gateway → App → ℕ → List ℕ → Bool → Sent
said_by answers app port bytes ended =
    record { bytes = (answers app port bytes).bytes; closes = (answers app port bytes).closes || ended }
