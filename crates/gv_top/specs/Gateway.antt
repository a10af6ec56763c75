-- What a server says through each gateway.
use Rattle.command_words.specs.declared.command.GatewayKind.{GatewayKind}
use Rattle.command_words.specs.declared.command.GatewayKind.TheVariants.{Http, Scgi}
use Rattle.wsgi_core.specs.Talk.{Gateway}
use Rattle.wsgi_core.specs.Session.{answers}
use Rattle.scgi_core.specs.Session.{scgi_answers}

-- HTTP sessions, or SCGI
abbrev pub answers_by : GatewayKind → Gateway
answers_by Http = answers
answers_by Scgi = scgi_answers
