-- Stages of a session.
use Rattle.std.specs.Prelude.{Bool, true, false}
use Rattle.wsgi_core.specs.declared.session.SessionStage.{SessionStage}
use Rattle.wsgi_core.specs.declared.session.SessionStage.TheVariants.{AtHead, InBody, Asked}

-- no head was read yet
abbrev pub is_at_head : SessionStage → Bool
is_at_head AtHead = true
is_at_head (InBody request awaited) = false
is_at_head (Asked request body) = false
