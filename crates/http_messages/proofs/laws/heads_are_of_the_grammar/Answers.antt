use Rattle.http_messages.proofs.HeadLaws.{request_head-sound, request_head-full}
use Rattle.http_messages.proofs.laws.heads_are_of_the_grammar.Goals as goal

pub returns : goal.returns
returns c = λ bytes h none. (λ e. request_head-sound bytes h e, λ reads. request_head-full bytes h reads none)
